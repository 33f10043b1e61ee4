-- What rows of users tell of the stored base.
use Rattle.std.proofs.Common.{◌≡◌, ◌∙◌, ℕ, ◌+◌, List, [], ◌∷◌, ◌++◌, take, Some, None, sym, ap}
use Rattle.std.specs.List.{slice_get}
use Rattle.bdb_base.specs.declared.kinds.UserSlot.{UserSlot}
use Rattle.bdb_keep.specs.Tables.{Tables}
use Rattle.bdb_key.specs.Grammar.{IsNum}
use Rattle.bdb_tables.specs.Codec.{HasAt}
use Rattle.bdb_tables.specs.Grammar.{InGrammar}
use Rattle.bdb_tables.specs.InUse.{user_codec}
use Rattle.bdb_tables.specs.InUseLaws.{slot_rows_are_one}
use Rattle.bdb_tables.specs.Stored.{slot_of}
use Rattle.bdb_tables.proofs.Numbered.{take_more, take_none, one_more}
use Rattle.bdb_update.proofs.GrammarLemmas.{stored_is_in_grammar}
use Rattle.bdb_worlds.proofs.ReadLemmas.{found_is}
use Rattle.bdb_catalog.specs.Bases.{StoresSome}
use Rattle.bdb_catalog.specs.Opening.{IsPartOf}

pub some_grammar : (t : Tables) → StoresSome t → InGrammar t
some_grammar t h = stored_is_in_grammar t h.base h.stores.stored

-- ---- users

pub users_more : (t : Tables) (n : ℕ) (slot : UserSlot) (xs : List UserSlot) → IsNum (n + 1) → HasAt user_codec t (n + 1) (Some slot)
    → IsPartOf (λ b. take n b.catalog.users) t xs → IsPartOf (λ b. take (n + 1) b.catalog.users) t (xs ++ slot ∷ [])
users_more t n slot xs num row is b h =
    let users = b.catalog.users in
    let at : slice_get users n ≡ Some slot = ap (slot_of users) (one_more n) ∙ sym (found_is user_codec slot_rows_are_one t (slot_of users) h.stored.stored.users (n + 1) num (Some slot) row) in
    ap (λ ys. ys ++ slot ∷ []) (is b h) ∙ sym (take_more n users slot at) ∙ ap (λ k. take k users) (one_more n)

pub users_none : (t : Tables) (n : ℕ) (xs : List UserSlot) → IsNum (n + 1) → HasAt user_codec t (n + 1) None
    → IsPartOf (λ b. take n b.catalog.users) t xs → IsPartOf (λ b. b.catalog.users) t xs
users_none t n xs num none is b h =
    let users = b.catalog.users in
    is b h ∙ take_none n users (ap (slot_of users) (one_more n) ∙ sym (found_is user_codec slot_rows_are_one t (slot_of users) h.stored.stored.users (n + 1) num None none))
