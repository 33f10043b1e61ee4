-- The statements near a path are read state by state, down its ends.
use Rattle.std.proofs.Common.{◌≡◌, ◌∙◌, ℕ, ◌+◌, ◌-◌, ◌^◌, ◌≤◌, ◌<◌, true, false, List, [], ◌∷◌, ◌++◌, length, drop, filter, sum_by, Some, refl, ap, sym, subst, arith}
use Rattle.std.specs.List.{flat_map, list_all}
use Rattle.std.proofs.lemmas.Bool.{and_parts, false_from_ne_true}
use Rattle.std.proofs.lemmas.List.Sums.{sum_by-cons}
use Rattle.bdb_base.specs.Alternation.{alternates, begins_otherwise}
use Rattle.bdb_base.specs.Bases.{Contents, is_user}
use Rattle.bdb_base.specs.Order.{statement_cmp}
use Rattle.bdb_base.specs.OrderLemmas.{statement_exact}
use Rattle.bdb_base.specs.SortedSet.{put_all, put_in}
use Rattle.bdb_base.specs.States.{deepest_suffix, is_state}
use Rattle.bdb_base.specs.declared.kinds.Stmt.{Stmt}
use Rattle.bdb_base.specs.declared.tuple.Tuple.{Tuple}
use Rattle.bdb_base.proofs.SetLemmas.{loop_makes_set}
use Rattle.bdb_keep.specs.Tables.{Tables}
use Rattle.bdb_names.proofs.Ends.{whole_end}
use Rattle.bdb_names.proofs.NameLemmas.{is_named_by}
use Rattle.bdb_paths.proofs.SuffixLemmas.{deepest_here, deepest_is_suffix, deepest_past}
use Rattle.bdb_tables.specs.Names.{path_of, number_of, is_named}
use Rattle.bdb_tables.specs.States.{HoldsStates}
use Rattle.bdb_val.specs.Reads.{HaveTuples}
use Rattle.bdb_tables.specs.Grammar.{InGrammar}
use Rattle.bdb_update.specs.Keys.{keys_of}
use Rattle.bdb_worlds.specs.Bounds.{EndsWithin}
use Rattle.bdb_worlds.specs.Holding.{EndsAt, HoldSome, Worlds}
use Rattle.bdb_catalog.specs.Bases.{SomeHasUsers}
use Rattle.bdb_catalog.proofs.StoredFacts.{path_grammar, path_states, path_tuples}
use Rattle.bdb_why.specs.Ends.{ends_in, is_at_an_end, near_at}
use Rattle.bdb_why.specs.Reading.{LinksTo, PutsNear, ReadsHere, SomeHaveLink}
use Rattle.bdb_why.specs.Stored.{AreNear, MayAsk, SomeMayAsk, reads_at}
use Rattle.bdb_why.proofs.EndLemmas.{ends_here, ends_past}
use Rattle.bdb_why.proofs.NearLemmas.{near_is_at_states}

-- ---- where some base may be asked

some_users : (t : Tables) (path : List ℕ) (u : Tuple) → SomeMayAsk t path u → SomeHasUsers t path
some_users t path u h = record { base = h.base; has = h.may.has }

pub ask_grammar : (t : Tables) (path : List ℕ) (u : Tuple) → SomeMayAsk t path u → InGrammar t
ask_grammar t path u h = path_grammar t path (some_users t path u h)

pub ask_tuples : (t : Tables) (path : List ℕ) (u : Tuple) → SomeMayAsk t path u → HaveTuples t
ask_tuples t path u h = path_tuples t path (some_users t path u h)

pub ask_states : (t : Tables) (path : List ℕ) (u : Tuple) → SomeMayAsk t path u → HoldSome t path
ask_states t path u h = path_states t path (some_users t path u h)

-- ---- what is left

-- the statements near an end
abbrev pub near_end : (ℕ → ℕ) → List Stmt → Tuple → List ℕ → List Stmt
near_end keys stmts u w = flat_map (near_at keys stmts u) (ends_in (is_state stmts) w)

-- the reads at an end
abbrev pub reads_end : (ℕ → ℕ) → List Stmt → Tuple → List ℕ → ℕ
reads_end keys stmts u w = sum_by (reads_at keys stmts u) (ends_in (is_state stmts) w)

-- the statements near the rest of a path make of those so far all that are near the path
abbrev pub LeftNear : Tables → List ℕ → Tuple → List ℕ → List Stmt → Type 0
LeftNear t path u rest xs = (b : Contents) → MayAsk t path u b → put_all statement_cmp xs (near_end (keys_of b) b.stmts u rest) ≡ filter (is_at_an_end (keys_of b) path u) b.stmts

-- the reads so far and those for the rest of a path are no more than those for the path, and one
abbrev pub LeftReads : Tables → List ℕ → Tuple → List ℕ → ℕ → ℕ → Type 0
LeftReads t path u rest before now = (b : Contents) → MayAsk t path u b → now < 2 ^ 64 - 1
    → now + reads_end (keys_of b) b.stmts u rest ≤ before + (length path + reads_end (keys_of b) b.stmts u path) + 1

put_all_append : (xs ys zs : List Stmt) → put_all statement_cmp xs (ys ++ zs) ≡ put_all statement_cmp (put_all statement_cmp xs ys) zs
put_all_append xs [] zs = refl
put_all_append xs (y ∷ ys) zs = put_all_append (put_in statement_cmp xs y) ys zs

append_nil : (xs : List Stmt) → xs ++ [] ≡ xs
append_nil [] = refl
append_nil (x ∷ xs) = ap (λ ys. x ∷ ys) (append_nil xs)

pub near_begins : (t : Tables) (path : List ℕ) (u : Tuple) (xs : List Stmt) → xs ≡ [] → LeftNear t path u path xs
near_begins t path u xs e b m =
    ap (λ ys. put_all statement_cmp ys (near_end (keys_of b) b.stmts u path)) e ∙ loop_makes_set statement_exact (near_end (keys_of b) b.stmts u path)
    ∙ near_is_at_states (keys_of b) b.stmts m.has.base.valid.stmts.sorted path u

pub reads_begin : (t : Tables) (path : List ℕ) (u : Tuple) (before now : ℕ) → EndsWithin (length path + 1) before now → LeftReads t path u path before now
reads_begin t path u before now r b m below = let e = r below in omega arith

-- ---- one end

module _ (t : Tables) (path : List ℕ) (u : Tuple) (i : ℕ) (w : List ℕ) (at : ℕ × ℕ) (ends : EndsAt t path (i ∷ w) at) where
  -- an end that is no state
  module _ (other : at.1 ≡ length (i ∷ w) → ⊥) where
    no_state : (s : Worlds) → HoldsStates s.users s.names t → list_all s.users path ≡ true → is_named s.names (i ∷ w) ≡ false
    no_state s h own = false_from_ne_true (is_named s.names (i ∷ w)) (λ e. other ((ends s h own).depth ∙ ap length (deepest_here (is_named s.names) i w e)))

    ends_past_it : EndsAt t path w at
    ends_past_it s h own =
        let d = deepest_past (is_named s.names) i w (no_state s h own) in
        let k = ends s h own in
        record { number = ap (number_of s.names) (sym d) ∙ k.number; depth = k.depth ∙ ap length d }

    plain : (b : Contents) (m : MayAsk t path u b) → is_state b.stmts (i ∷ w) ≡ false
    plain b m =
        let stored = m.has.base.stored in
        sym (stored.stored.worlds (i ∷ w)) ∙ no_state (record { users = is_user b.catalog.users; names = stored.names }) stored.stored.states m.has.own

    near_past_it : (xs : List Stmt) → LeftNear t path u (i ∷ w) xs → LeftNear t path u w xs
    near_past_it xs left b m = ap (λ vs. put_all statement_cmp xs (flat_map (near_at (keys_of b) b.stmts u) vs)) (sym (ends_past (is_state b.stmts) i w (plain b m))) ∙ left b m

    reads_past_it : (before now : ℕ) → LeftReads t path u (i ∷ w) before now → LeftReads t path u w before now
    reads_past_it before now left b m below =
        let e : reads_end (keys_of b) b.stmts u (i ∷ w) ≡ reads_end (keys_of b) b.stmts u w = ap (sum_by (reads_at (keys_of b) b.stmts u)) (ends_past (is_state b.stmts) i w (plain b m)) in
        let k = left b m below in
        omega arith

  -- an end that is a state
  module _ (here : at.1 ≡ length (i ∷ w)) where
    named_here : (s : Worlds) → HoldsStates s.users s.names t → list_all s.users path ≡ true → number_of s.names (i ∷ w) ≡ Some at.0
    named_here s h own =
        let k = ends s h own in
        let v = deepest_suffix (is_named s.names) (i ∷ w) in
        let long : length v ≡ length (i ∷ w) = sym k.depth ∙ here in
        ap (number_of s.names) (sym (whole_end v (i ∷ w) (deepest_is_suffix (is_named s.names) (i ∷ w)) (omega arith))) ∙ k.number

    path_here : (s : Worlds) → HoldsStates s.users s.names t → list_all s.users path ≡ true → path_of s.names at.0 ≡ Some (i ∷ w)
    path_here s h own = h.names.numbered (i ∷ w) at.0 (named_here s h own)

    link_here : SomeMayAsk t path u → SomeHaveLink t at.0
    link_here some =
        let k = ask_states t path u some in
        record { worlds = k.worlds; states = k.states; user = i; rest = w; named = path_here k.worlds k.states k.own }

    ends_next : (to : ℕ × ℕ) → LinksTo t at.0 to → EndsAt t path w to
    ends_next to links s h own = links s h i w (path_here s h own)

    module _ (b : Contents) (m : MayAsk t path u b) where
      abbrev worlds : Worlds
      worlds = record { users = is_user b.catalog.users; names = m.has.base.stored.names }

      path_stored : path_of m.has.base.stored.names at.0 ≡ Some (i ∷ w)
      path_stored = path_here worlds m.has.base.stored.stored.states m.has.own

      state : is_state b.stmts (i ∷ w) ≡ true
      state = sym (m.has.base.stored.stored.worlds (i ∷ w)) ∙ is_named_by worlds.names (i ∷ w) at.0 (named_here worlds m.has.base.stored.stored.states m.has.own)

    near_next : (xs ys : List Stmt) → PutsNear t at.0 (i ∷ w) u xs ys → LeftNear t path u (i ∷ w) xs → LeftNear t path u w ys
    near_next xs ys puts left b m =
        let near = near_at (keys_of b) b.stmts u in
        ap (λ zs. put_all statement_cmp zs (near_end (keys_of b) b.stmts u w)) (puts b m.has.base m.fits (path_stored b m))
        ∙ sym (put_all_append xs (near (i ∷ w)) (near_end (keys_of b) b.stmts u w))
        ∙ ap (λ vs. put_all statement_cmp xs (flat_map near vs)) (sym (ends_here (is_state b.stmts) i w (state b m))) ∙ left b m

    reads_next : (before old mid new : ℕ) → old ≤ mid → mid ≤ new → ReadsHere t at.0 (i ∷ w) u old mid → new ≤ mid + 2
        → LeftReads t path u (i ∷ w) before old → LeftReads t path u w before new
    reads_next before old mid new le more spent two left b m below =
        let e : reads_end (keys_of b) b.stmts u (i ∷ w) ≡ reads_at (keys_of b) b.stmts u (i ∷ w) + reads_end (keys_of b) b.stmts u w =
        ap (sum_by (reads_at (keys_of b) b.stmts u)) (ends_here (is_state b.stmts) i w (state b m))
        ∙ sum_by-cons (reads_at (keys_of b) b.stmts u) (i ∷ w) (ends_in (is_state b.stmts) w) in
        let k = left b m (omega arith) in
        let n = spent b m.has.base m.fits (path_stored b m) in
        omega arith

-- ---- the same of a path with a user, whatever it is

module _ (t : Tables) (path : List ℕ) (u : Tuple) (at : ℕ × ℕ) where
  pub past : (w r : List ℕ) (xs : List Stmt) (before now : ℕ) → 0 < length w → r ≡ drop 1 w → (at.1 ≡ length w → ⊥) → EndsAt t path w at → LeftNear t path u w xs → LeftReads t path u w before now
      → EndsAt t path r at × LeftNear t path u r xs × LeftReads t path u r before now
  past [] r xs before now l e other ends near reads = absurd (omega arith)
  past (i ∷ w) r xs before now l e other ends near reads =
      subst (λ (z : List ℕ). EndsAt t path z at × LeftNear t path u z xs × LeftReads t path u z before now) (sym e)
      (ends_past_it t path u i w at ends other, near_past_it t path u i w at ends other xs near, reads_past_it t path u i w at ends other before now reads)

  pub linked : (w : List ℕ) → 0 < length w → at.1 ≡ length w → EndsAt t path w at → SomeMayAsk t path u → SomeHaveLink t at.0
  linked [] l here ends some = absurd (omega arith)
  linked (i ∷ w) l here ends some = link_here t path u i w at ends here some

  pub onward : (w r : List ℕ) (xs ys : List Stmt) (to : ℕ × ℕ) (before old mid new : ℕ) → 0 < length w → r ≡ drop 1 w → at.1 ≡ length w → EndsAt t path w at
      → LeftNear t path u w xs → PutsNear t at.0 w u xs ys → LinksTo t at.0 to
      → old ≤ mid → mid ≤ new → ReadsHere t at.0 w u old mid → new ≤ mid + 2 → LeftReads t path u w before old
      → EndsAt t path r to × LeftNear t path u r ys × LeftReads t path u r before new
  onward [] r xs ys to before old mid new l e here ends near puts links le more spent two reads = absurd (omega arith)
  onward (i ∷ w) r xs ys to before old mid new l e here ends near puts links le more spent two reads =
      subst (λ (z : List ℕ). EndsAt t path z to × LeftNear t path u z ys × LeftReads t path u z before new) (sym e) (
        ends_next t path u i w at ends here to links,
        near_next t path u i w at ends here xs ys puts near,
        reads_next t path u i w at ends here before old mid new le more spent two reads,
      )

  -- ---- the empty end

  root_stored : EndsAt t path [] at → (b : Contents) (m : MayAsk t path u b) → path_of m.has.base.stored.names at.0 ≡ Some []
  root_stored ends b m =
      let stored = m.has.base.stored in
      let k = ends (record { users = is_user b.catalog.users; names = stored.names }) stored.stored.states m.has.own in
      stored.stored.states.names.numbered [] at.0 k.number

  pub near_ends : (w : List ℕ) (xs ys : List Stmt) → length w < 1 → EndsAt t path w at → LeftNear t path u w xs → PutsNear t at.0 w u xs ys → AreNear t path u ys
  near_ends [] xs ys l ends near puts b m =
      puts b m.has.base m.fits (root_stored ends b m) ∙ ap (put_all statement_cmp xs) (sym (append_nil (near_at (keys_of b) b.stmts u []))) ∙ near b m
  near_ends (i ∷ w) xs ys l ends near puts b m = absurd (omega arith)

  pub reads_end_here : (w : List ℕ) (before old mid : ℕ) → length w < 1 → EndsAt t path w at → old ≤ mid → ReadsHere t at.0 w u old mid → LeftReads t path u w before old
      → (b : Contents) → MayAsk t path u b → (first : ℕ) → before ≤ first + 1 → EndsWithin (length path + reads_end (keys_of b) b.stmts u path) first mid
  reads_end_here [] before old mid l ends le spent reads b m first later below =
      let e : reads_end (keys_of b) b.stmts u [] ≡ reads_at (keys_of b) b.stmts u [] + 0 = sum_by-cons (reads_at (keys_of b) b.stmts u) [] [] in
      let k = reads b m (omega arith) in
      let n = spent b m.has.base m.fits (root_stored ends b m) in
      omega arith
  reads_end_here (i ∷ w) before old mid l ends le spent reads b m first later below = absurd (omega arith)

-- ---- paths without their first user

pub apart_after : (w r : List ℕ) → r ≡ drop 1 w → alternates w ≡ true → alternates r ≡ true
apart_after [] r e h = ap alternates e
apart_after (i ∷ []) r e h = ap alternates e
apart_after (i ∷ j ∷ w) r e h = ap alternates e ∙ (and_parts (begins_otherwise i (j ∷ w)) (alternates (j ∷ w)) h).1
