-- The reply to rows that were read of a path's world shows that world.
use Rattle.std.proofs.Common.{◌≡◌, ◌∙◌, ℕ, suc, ◌+◌, ◌*◌, ◌≤◌, Bool, true, false, List, [], ◌∷◌, length, map, refl, sym, ap, arith}
use Rattle.std.proofs.lemmas.List.Sorted.{length_permutation}
use Rattle.bdb_base.specs.Bases.{Contents, key_lengths}
use Rattle.bdb_base.specs.WorldRows.{world_of}
use Rattle.bdb_base.specs.declared.kinds.Catalog.{Catalog}
use Rattle.bdb_base.specs.declared.kinds.Held.{Held}
use Rattle.bdb_catalog.specs.Bases.{HasUsers}
use Rattle.bdb_catalog.specs.Showing.{FindsState, IsWorldOf, inherited, shown}
use Rattle.bdb_catalog.proofs.ShowingLemmas.{length_shown, path_world}
use Rattle.bdb_key.specs.Grammar.{IsNum}
use Rattle.bdb_keep.specs.Spans.{Listed}
use Rattle.bdb_keep.specs.Tables.{Tables}
use Rattle.bdb_render.specs.Replies.{world_reply}
use Rattle.bdb_shown.specs.Rows.{AreRawRows, Spell, told}
use Rattle.bdb_shown.specs.Showing.{ReadsWorld, ShowsRows, ShowsWorld}
use Rattle.bdb_shown.proofs.ReadLemmas.{AreStored, are_stored, rows_stored}
use Rattle.bdb_tables.specs.Grammar.{InGrammar}
use Rattle.bdb_val.specs.Reads.{world_prefix}
use Rattle.bdb_val.specs.WorldReads.{AreInTupleOrder, AreRowsAt, held_row}
use Rattle.bdb_val.specs.declared.stored.StoredRow.{StoredRow}
use Rattle.bdb_val.proofs.WorldLemmas.{read_is_world}
use Rattle.bdb_worlds.specs.Bounds.{EndsWithin}

told_as_shown : (own : Bool) (held : List Held) → map (told own) held ≡ shown own held
told_as_shown true held = by held
  where
    by : (hs : List Held) → map (told true) hs ≡ hs
    by [] = refl
    by (h ∷ hs) = ap (λ (l : List Held). h ∷ l) (by hs)
told_as_shown false held = by held
  where
    by : (hs : List Held) → map (told false) hs ≡ map inherited hs
    by [] = refl
    by (h ∷ hs) = ap (λ (l : List Held). inherited h ∷ l) (by hs)

module _ (t : Tables) (path : List ℕ) (wid : ℕ) (own : Bool) (catalog : Catalog) (rows : Listed) (text : List ℕ)
    (grammar : InGrammar t) (sized : IsNum wid) (found : FindsState t path (wid, own)) (raw : AreRawRows t (world_prefix wid) rows)
    (replies : (held : List Held) → Spell rows held → ShowsRows catalog own held text) where
  abbrev stored : AreStored t (world_prefix wid) rows
  stored = are_stored t (world_prefix wid) rows grammar raw

  abbrev reply : ShowsRows catalog own (map held_row stored.stored) text
  reply = replies (map held_row stored.stored) stored.spelled

  in_order : AreInTupleOrder stored.stored reply.ordered
  in_order = record { moved = reply.moved; sorted = reply.sorted }

  rows_at : AreRowsAt t wid reply.ordered
  rows_at = read_is_world t wid stored.stored reply.ordered sized stored.read in_order

  is_world : IsWorldOf t path (shown own reply.ordered)
  is_world = path_world t path wid own reply.ordered found rows_at

  -- the reply shows the world
  pub shows_world : ShowsWorld t catalog path text
  shows_world b h =
      reply.shows ∙ ap (λ (held : List Held). world_reply catalog (record { held = held })) (told_as_shown own reply.ordered ∙ is_world b h)

  length_held : (ss : List StoredRow) → length (map held_row ss) ≡ length ss
  length_held [] = refl
  length_held (s ∷ ss) = ap suc (length_held ss)

  as_many : (b : Contents) → HasUsers t path b → length rows ≡ length (world_of (key_lengths b.catalog.rels) b.stmts path)
  as_many b h =
      rows_stored t (world_prefix wid) rows stored ∙ sym (length_held stored.stored)
      ∙ sym (length_permutation (map held_row stored.stored) reply.ordered reply.moved)
      ∙ sym (length_shown own reply.ordered) ∙ ap (λ (held : List Held). length held) (is_world b h)

  -- and so often was read
  pub reads_world : (old mid new : ℕ) → mid ≤ new → EndsWithin (length path + 1) old mid → new ≤ mid + (2 * length rows + 1) → ReadsWorld t path old new
  reads_world old mid new le state more b h below =
      let many = as_many b h in
      let e = state (omega (arith, below, le)) in
      omega (arith, e, more, many)
