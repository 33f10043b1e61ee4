-- The changes of the tests lead from one of their bases to the next.
use Rattle.std.proofs.Common.{◌≡◌, List, [], refl, sym, subst, true}
use Rattle.std.specs.Str.{is_utf8, chars}
use lib.Utf8.{encode}
use Rattle.bdb_base.specs.declared.kinds.Catalog.{Catalog}
use Rattle.bdb_base.specs.declared.kinds.Stmt.{Stmt}
use Rattle.bdb_base.specs.Bases.{Contents, IsValid}
use Rattle.bdb_undo.specs.declared.change.Change.{Change}
use Rattle.bdb_undo.specs.Changes.{Leads}
use Rattle.bdb_canon.specs.Samples.{sightings}
use Rattle.bdb_base_tests.specs.UndoSamples.{bobs_word, alone, related, joined, joined_by_carol, told, told_anew, left_by_bob, of_relation, of_bob, of_carol, of_word, of_next_word, word_gone, of_leaving}
use Rattle.bdb_undo.proofs.ChangeLemmas.{relation_leads, user_leads, put_leads, takes_lead, statements_lead, leaving_leads}

alone_valid : IsValid alone.catalog alone.stmts
unfolding is_utf8 chars encode
alone_valid = record {
  catalog = record { users_differ = refl; users_plain = refl; few_users = refl; rels_differ = refl; rels_valid = refl; few_rels = refl };
  stmts = record { sorted = refl; belong = refl; no_clash = refl; few_stmts = refl; few_tuples = refl; few_worlds = refl };
}

related_valid : IsValid related.catalog related.stmts
unfolding is_utf8 chars encode
related_valid = record {
  catalog = record { users_differ = refl; users_plain = refl; few_users = refl; rels_differ = refl; rels_valid = refl; few_rels = refl };
  stmts = record { sorted = refl; belong = refl; no_clash = refl; few_stmts = refl; few_tuples = refl; few_worlds = refl };
}

joined_valid : IsValid joined.catalog joined.stmts
unfolding is_utf8 chars encode
joined_valid = record {
  catalog = record { users_differ = refl; users_plain = refl; few_users = refl; rels_differ = refl; rels_valid = refl; few_rels = refl };
  stmts = record { sorted = refl; belong = refl; no_clash = refl; few_stmts = refl; few_tuples = refl; few_worlds = refl };
}

joined_by_carol_valid : IsValid joined_by_carol.catalog joined_by_carol.stmts
unfolding is_utf8 chars encode
joined_by_carol_valid = record {
  catalog = record { users_differ = refl; users_plain = refl; few_users = refl; rels_differ = refl; rels_valid = refl; few_rels = refl };
  stmts = record { sorted = refl; belong = refl; no_clash = refl; few_stmts = refl; few_tuples = refl; few_worlds = refl };
}

told_valid : IsValid told.catalog told.stmts
unfolding is_utf8 chars encode
told_valid = record {
  catalog = record { users_differ = refl; users_plain = refl; few_users = refl; rels_differ = refl; rels_valid = refl; few_rels = refl };
  stmts = record { sorted = refl; belong = refl; no_clash = refl; few_stmts = refl; few_tuples = refl; few_worlds = refl };
}

told_anew_valid : IsValid told_anew.catalog told_anew.stmts
unfolding is_utf8 chars encode
told_anew_valid = record {
  catalog = record { users_differ = refl; users_plain = refl; few_users = refl; rels_differ = refl; rels_valid = refl; few_rels = refl };
  stmts = record { sorted = refl; belong = refl; no_clash = refl; few_stmts = refl; few_tuples = refl; few_worlds = refl };
}

pub relation_comes : Leads of_relation alone related
relation_comes = relation_leads alone.catalog [] sightings alone_valid related_valid

pub bob_comes : Leads of_bob related joined
bob_comes = user_leads related.catalog [] _ related_valid joined_valid

pub carol_comes : Leads of_carol related joined_by_carol
carol_comes = user_leads related.catalog [] _ related_valid joined_by_carol_valid

pub word_comes : Leads of_word joined told
word_comes = put_leads joined.catalog [] bobs_word joined_valid told_valid refl

pub next_word_comes : Leads of_next_word told told_anew
next_word_comes = statements_lead told.catalog told.stmts told_anew.stmts told_valid told_anew_valid

pub word_goes : Leads word_gone told_anew joined
word_goes = takes_lead told_anew.catalog told_anew.stmts (λ x. true) told_anew_valid

pub bob_leaves : Leads of_leaving told left_by_bob
bob_leaves = leaving_leads told.catalog told.stmts 2 _ told_valid refl

-- a change that is one of these leads from a base that is one of these, and to one
pub led_from : {c d : Change} {x a b : Contents} → c ≡ d → x ≡ a → Leads d a b → Leads c x b
led_from {c} {d} {x} {a} {b} e f l = subst (λ (k : Change). Leads k x b) (sym e) (subst (λ (y : Contents). Leads d y b) (sym f) l)

pub led_to : {c d : Change} {x a b : Contents} → c ≡ d → x ≡ b → Leads d a b → Leads c a x
led_to {c} {d} {x} {a} e f l = subst (λ (k : Change). Leads k a x) (sym e) (subst (Leads d a) (sym f) l)

pub is_valid_alone : (c : Catalog) (xs : List Stmt) → c ≡ alone.catalog → xs ≡ [] → IsValid c xs
is_valid_alone c xs e f = rw (e, f) alone_valid

pub is_valid_joined : (c : Catalog) (xs : List Stmt) → c ≡ joined.catalog → xs ≡ [] → IsValid c xs
is_valid_joined c xs e f = rw (e, f) joined_valid
