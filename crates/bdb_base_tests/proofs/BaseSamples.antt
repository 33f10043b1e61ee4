-- The bases with which the tests try a base: what a call requires of them, and what it leaves.
use Rattle.std.proofs.Common.{◌≡◌, ◌∙◌, refl, List, [], ◌∷◌, ℕ, ap, sym, subst, codes, true, suc, ◌<◌, lit<}
use Prim.Native.Nat.{zero}
use Rattle.std.specs.Str.{IsAscii, is_utf8}
use Rattle.std.proofs.lemmas.Str.{IsUtf8-from_ascii, is_utf8-from_IsUtf8}
use Rattle.bdb_base.specs.declared.kinds.Kind.TheVariants as kind
use Rattle.bdb_base.specs.declared.kinds.RelDef.{RelDef}
use Rattle.bdb_base.specs.declared.kinds.Stmt.{Stmt}
use Rattle.bdb_base_tests.specs.BaseSamples.{sample_relation, sample_statement, first, second, third, fourth}
use Rattle.bdb_base.specs.Bases.{Contents, IsValid, empty_contents, is_gone, is_user, with_user, with_user_back, with_relation, without_last_user, without_last_relation, without_user, with_statement}
use Rattle.bdb_base.specs.Changes.{without_statements_of}

-- the names are text: each byte is below 128
ascii_cons : (b : ℕ) (bs : List ℕ) → b < 128 → IsAscii bs → IsAscii (b ∷ bs)
ascii_cons b bs h r zero = h
ascii_cons b bs h r (suc i) = r i

ascii_nil : IsAscii []
ascii_nil i = lit< tt

is_text_n : is_utf8 (110 ∷ []) ≡ true
is_text_n = is_utf8-from_IsUtf8 (110 ∷ []) (IsUtf8-from_ascii (110 ∷ []) (ascii_cons 110 [] (lit< tt) ascii_nil))

is_text_R : is_utf8 (82 ∷ []) ≡ true
is_text_R = is_utf8-from_IsUtf8 (82 ∷ []) (IsUtf8-from_ascii (82 ∷ []) (ascii_cons 82 [] (lit< tt) ascii_nil))

is_text_Ann : is_utf8 (65 ∷ 110 ∷ 110 ∷ []) ≡ true
is_text_Ann = is_utf8-from_IsUtf8 (65 ∷ 110 ∷ 110 ∷ []) (IsUtf8-from_ascii (65 ∷ 110 ∷ 110 ∷ [])
    (ascii_cons 65 (110 ∷ 110 ∷ []) (lit< tt) (ascii_cons 110 (110 ∷ []) (lit< tt) (ascii_cons 110 [] (lit< tt) ascii_nil))))

first_valid : IsValid first.catalog first.stmts
first_valid = record {
  catalog = record { users_differ = refl; users_plain = rw is_text_Ann; few_users = refl; rels_differ = refl; rels_valid = refl; few_rels = refl };
  stmts = record { sorted = refl; belong = refl; no_clash = refl; few_stmts = refl; few_tuples = refl; few_worlds = refl };
}

empty_valid : IsValid empty_contents.catalog empty_contents.stmts
empty_valid = record {
  catalog = record { users_differ = refl; users_plain = refl; few_users = refl; rels_differ = refl; rels_valid = refl; few_rels = refl };
  stmts = record { sorted = refl; belong = refl; no_clash = refl; few_stmts = refl; few_tuples = refl; few_worlds = refl };
}

second_valid : IsValid second.catalog second.stmts
second_valid = record {
  catalog = record { users_differ = refl; users_plain = rw is_text_Ann; few_users = refl; rels_differ = refl; rels_valid = rw (is_text_n, is_text_R); few_rels = refl };
  stmts = record { sorted = refl; belong = refl; no_clash = refl; few_stmts = refl; few_tuples = refl; few_worlds = refl };
}

third_valid : IsValid third.catalog third.stmts
third_valid = record {
  catalog = record { users_differ = refl; users_plain = rw is_text_Ann; few_users = refl; rels_differ = refl; rels_valid = rw (is_text_n, is_text_R); few_rels = refl };
  stmts = record { sorted = refl; belong = refl; no_clash = refl; few_stmts = refl; few_tuples = refl; few_worlds = refl };
}

-- what a call requires of a base and its argument, from their values
pub user_fits : (b : Contents) (name : List ℕ) → b ≡ empty_contents → name ≡ codes "Ann" → IsValid (with_user b.catalog name) b.stmts
user_fits b name e f =
    let P : Contents → Type 0 = λ v. IsValid (with_user v.catalog name) v.stmts in
    let Q : List ℕ → Type 0 = λ n. IsValid (with_user empty_contents.catalog n) [] in
    subst P (sym e) (subst Q (sym f) first_valid)

pub relation_fits : (b : Contents) (d : RelDef) → b ≡ first → d ≡ sample_relation → IsValid (with_relation b.catalog d) b.stmts
relation_fits b d e f =
    let P : Contents → Type 0 = λ v. IsValid (with_relation v.catalog d) v.stmts in
    let Q : RelDef → Type 0 = λ r. IsValid (with_relation first.catalog r) [] in
    subst P (sym e) (subst Q (sym f) second_valid)

pub statement_fits : (b : Contents) (s : Stmt) → b ≡ second → s ≡ sample_statement → IsValid b.catalog (with_statement b.stmts s)
statement_fits b s e f =
    let P : Contents → Type 0 = λ v. IsValid v.catalog (with_statement v.stmts s) in
    let Q : Stmt → Type 0 = λ x. IsValid second.catalog (with_statement second.stmts x) in
    subst P (sym e) (subst Q (sym f) third_valid)

pub statement_stays : (b : Contents) (s : Stmt) → b ≡ third → s ≡ sample_statement → IsValid b.catalog (with_statement b.stmts s)
statement_stays b s e f =
    let P : Contents → Type 0 = λ v. IsValid v.catalog (with_statement v.stmts s) in
    let Q : Stmt → Type 0 = λ x. IsValid third.catalog (with_statement third.stmts x) in
    subst P (sym e) (subst Q (sym f) third_valid)

-- a base with one more user, relation or statement
abbrev pub user_added : Contents → List ℕ → Contents
user_added v n = record v { catalog = with_user v.catalog n }

abbrev pub relation_added : Contents → RelDef → Contents
relation_added v d = record v { catalog = with_relation v.catalog d }

abbrev pub statement_added : Contents → Stmt → Contents
statement_added v s = record v { stmts = with_statement v.stmts s }

pub after_user : (b next : Contents) (name : List ℕ) → next ≡ user_added b name → b ≡ empty_contents → name ≡ codes "Ann" → next ≡ first
after_user b next name h e f = h ∙ ap (λ v. user_added v name) e ∙ ap (user_added empty_contents) f

pub after_relation : (b next : Contents) (d : RelDef) → next ≡ relation_added b d → b ≡ first → d ≡ sample_relation → next ≡ second
after_relation b next d h e f = h ∙ ap (λ v. relation_added v d) e ∙ ap (relation_added first) f

pub after_statement : (b next : Contents) (s : Stmt) → next ≡ statement_added b s → b ≡ second → s ≡ sample_statement → next ≡ third
after_statement b next s h e f = h ∙ ap (λ v. statement_added v s) e ∙ ap (statement_added second) f

-- the second base without its relation, and the first one without its user
pub relation_goes : (b : Contents) → b ≡ second → IsValid (without_last_relation b.catalog) b.stmts
relation_goes b e =
    let P : Contents → Type 0 = λ v. IsValid (without_last_relation v.catalog) v.stmts in
    subst P (sym e) first_valid

pub user_goes : (b : Contents) → b ≡ first → IsValid (without_last_user b.catalog) b.stmts
user_goes b e =
    let P : Contents → Type 0 = λ v. IsValid (without_last_user v.catalog) v.stmts in
    subst P (sym e) empty_valid

-- a base without its last relation
abbrev pub relation_taken : Contents → Contents
relation_taken v = record v { catalog = without_last_relation v.catalog }

pub after_pop : (b next : Contents) → next ≡ relation_taken b → b ≡ second → next ≡ first
after_pop b next h e = h ∙ ap relation_taken e

-- a base without its first user
abbrev pub user_left : Contents → Contents
user_left v = record { catalog = without_user v.catalog 1; stmts = without_statements_of 1 v.stmts }

pub user_is_there : (b : Contents) → b ≡ third → is_user b.catalog.users 1 ≡ true
user_is_there b e = ap (λ (v : Contents). is_user v.catalog.users 1) e

pub after_leaving : (b next : Contents) → next ≡ user_left b → b ≡ third → next ≡ fourth
after_leaving b next h e = h ∙ ap user_left e

pub user_is_gone : (b : Contents) → b ≡ fourth → is_gone b.catalog.users 1 ≡ true
user_is_gone b e = ap (λ (v : Contents). is_gone v.catalog.users 1) e

pub user_may_come_back : (b : Contents) (name : List ℕ) → b ≡ fourth → name ≡ codes "Ann" → IsValid (with_user_back b.catalog 1 name) b.stmts
user_may_come_back b name e f =
    let P : Contents → Type 0 = λ v. IsValid (with_user_back v.catalog 1 name) v.stmts in
    let Q : List ℕ → Type 0 = λ n. IsValid (with_user_back fourth.catalog 1 n) [] in
    subst P (sym e) (subst Q (sym f) second_valid)
