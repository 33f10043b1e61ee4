-- What was read of the statements that name a user, they gone, and then his place.
use Rattle.std.proofs.Common.{◌≡◌, ◌∙◌, ℕ, true, List, sym, ap, subst}
use Rattle.std.specs.List.{list_all}
use Rattle.bdb_base.specs.Bases.{Contents, stands}
use Rattle.bdb_base.specs.Changes.{names_user, statements_naming, without_statements_of, without_statements}
use Rattle.bdb_base.specs.declared.kinds.Stmt.{Stmt}
use Rattle.bdb_base.proofs.UserLemmas.{drop_user_is_valid, states_name_others}
use Rattle.bdb_canon.specs.declared.sizes.Counts.{Counts}
use Rattle.bdb_keep.specs.Seen.{Seen}
use Rattle.bdb_keep.specs.Tables.{Tables}
use Rattle.bdb_tables.specs.Stored.{Stores}
use Rattle.bdb_update.specs.Calls.{StoresSized, none_comes_again, with_stmts}
use Rattle.bdb_update.specs.Replacing.{Go, MayGo, SomeMayGo}
use Rattle.bdb_update.specs.Steps.{GoesThrough, WritesThrough, steps_without}
use Rattle.bdb_update.proofs.ReplaceLemmas.{from_still}
use Rattle.bdb_update.proofs.TakenLemmas.{others_are_left, taken_apart, taken_stand}
use Rattle.bdb_catalog.specs.Bases.{StoresSome}
use Rattle.bdb_catalog.specs.Opening.{IsPartOf}
use Rattle.bdb_catalog.specs.Place.{LosesUser, MayLoseUser, SomeMayLoseUser, WritesEmptied}
use Rattle.bdb_leaving.specs.Leaving.{LeavesThrough, MayDropUser, SomeMayDropUser, UserLeaves}

pub some_valid : (t : Tables) (counts : Counts) (uid : ℕ) → SomeMayDropUser t counts uid → StoresSome t
some_valid t counts uid s = record { base = s.base; stores = record { stored = s.may.base.stored; valid = s.may.base.valid } }

module _ (t mid : Tables) (same : mid ≡ t) (counts : Counts) (uid : ℕ) (gone : List Stmt) (named : IsPartOf (λ b. statements_naming uid b.stmts) t gone) where
  gone_is : (b : Contents) → MayDropUser t counts uid b → gone ≡ statements_naming uid b.stmts
  gone_is b h = named b (record { stored = h.base.stored; valid = h.base.valid })

  -- ---- they may go

  gone_stand : (b : Contents) → MayDropUser t counts uid b → list_all (stands b.stmts) gone ≡ true
  gone_stand b h = ap (list_all (stands b.stmts)) (gone_is b h) ∙ taken_stand (λ x. names_user uid x.path) b.stmts

  gone_apart : (b : Contents) → MayDropUser t counts uid b → none_comes_again gone ≡ true
  gone_apart b h = ap none_comes_again (gone_is b h) ∙ taken_apart (λ x. names_user uid x.path) b.stmts h.base.valid.stmts.sorted

  may_go : (b : Contents) → MayDropUser t counts uid b → MayGo mid counts gone b
  may_go b h = record {
    base = record { stored = subst (λ (u : Tables). Stores u b) (sym same) h.base.stored; valid = h.base.valid; counted = h.base.counted };
    stand = gone_stand b h;
    apart = gone_apart b h;
  }

  pub some_may_go : SomeMayDropUser t counts uid → SomeMayGo mid counts gone
  some_may_go s = record { base = s.base; may = may_go s.base s.may }

  -- ---- they have gone

  module _ (low : Tables) (after : Counts) (went : Go mid low counts after gone) where
    left_is : (b : Contents) → MayDropUser t counts uid b → without_statements b.stmts gone ≡ without_statements_of uid b.stmts
    left_is b h = ap (without_statements b.stmts) (gone_is b h) ∙ others_are_left (λ x. names_user uid x.path) b.stmts h.base.valid.stmts.sorted

    left : (b : Contents) → MayDropUser t counts uid b → StoresSized low after (with_stmts b (without_statements_of uid b.stmts))
    left b h = subst (λ (xs : List Stmt). StoresSized low after (with_stmts b xs)) (left_is b h) (went b (may_go b h))

    may_lose : (b : Contents) → MayDropUser t counts uid b → MayLoseUser low uid (with_stmts b (without_statements_of uid b.stmts))
    may_lose b h = record { stored = (left b h).stored; user = h.user; unnamed = λ w e. states_name_others b.stmts uid w e }

    pub some_may_lose : SomeMayDropUser t counts uid → SomeMayLoseUser low uid
    some_may_lose s = record { base = with_stmts s.base (without_statements_of uid s.base.stmts); may = may_lose s.base s.may }

    -- ---- and the place

    pub user_left : (new : Tables) → LosesUser low new uid → UserLeaves t new counts after uid gone
    user_left new loses b h = record {
      gone = gone_is b h;
      base = record {
        stored = loses (with_stmts b (without_statements_of uid b.stmts)) (may_lose b h);
        valid = drop_user_is_valid b.catalog b.stmts uid h.base.valid h.user;
        counted = (left b h).counted;
      };
    }

-- how often is written
pub left_through : (old mid low new : Seen) (counts after : Counts) (uid : ℕ) (gone : List Stmt) → mid.kept ≡ old.kept → mid.writes ≡ old.writes
    → IsPartOf (λ b. statements_naming uid b.stmts) old.kept gone → Go mid.kept low.kept counts after gone → GoesThrough counts gone mid low → WritesEmptied low new uid → LeavesThrough counts uid old new
left_through old mid low new counts after uid gone same still named went goes place b h = record {
  between = low;
  gone = from_still old mid low (steps_without b (statements_naming uid b.stmts)) same still
      (subst (λ (xs : List Stmt). WritesThrough mid (steps_without b xs) low) (gone_is old.kept mid.kept same counts uid gone named b h) (goes b (may_go old.kept mid.kept same counts uid gone named b h)));
  left = place (with_stmts b (without_statements_of uid b.stmts)) (may_lose old.kept mid.kept same counts uid gone named low.kept after went b h);
}
