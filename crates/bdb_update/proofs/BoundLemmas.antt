-- The writes of all steps of a change together.
use Rattle.std.proofs.Common.{◌≡◌, ◌∙◌, ℕ, ◌+◌, ◌*◌, ◌≤◌, true, false, ◌||◌, nat_eq, List, [], ◌∷◌, length, filter, refl, sym, arith}
use Rattle.std.proofs.lemmas.Bool.{not-true, or_parts}
use Rattle.std.proofs.lemmas.Nat.{mul-le}
use Rattle.bdb_keep.specs.Seen.{Seen}
use Rattle.bdb_keep.specs.Tables.{Tables}
use Rattle.bdb_tables.specs.Differences.{AreDifferences}
use Rattle.bdb_val.specs.Others.{SamePlacesBut, is_in}
use Rattle.bdb_worlds.specs.Bounds.{EndsWithin}
use Rattle.bdb_update.specs.Bounds.{WritesWithinMore, StateWrites, RowWrites, is_of_states, part_at}
use Rattle.bdb_update.specs.Joining.{is_of_tuples}
use Rattle.bdb_update.specs.Tallies.{HasRowCount, vals_at}
use Rattle.bdb_update.proofs.BetweenLemmas.{IsLost, are_between, differences_like, few_after, few_before, more_rows, part_differences, part_same, row_differences, two_parts, vals_same}
use Rattle.bdb_update.proofs.TallyLemmas.{rows_alone}

-- ---- where nothing is another

-- a place of states is neither a tuple's nor a row's
apart_from : (q : List ℕ) → is_of_states q ≡ true → (is_in is_of_tuples q ≡ false) × (is_in rows_alone q ≡ false)
apart_from [] e = (refl, refl)
apart_from (n ∷ k) e = or_parts (is_of_tuples n) (nat_eq n 11) (not-true (is_of_tuples n || nat_eq n 11) e)

pub states_over_rows : (t u : Tables) → SamePlacesBut rows_alone t u → (q : List ℕ) → part_at is_of_states u q ≡ part_at is_of_states t q
states_over_rows t u same = part_same is_of_states t u (λ q e. same q (apart_from q e).1)

pub states_over_tuples : (t u : Tables) → SamePlacesBut is_of_tuples t u → (q : List ℕ) → part_at is_of_states u q ≡ part_at is_of_states t q
states_over_tuples t u same = part_same is_of_states t u (λ q e. same q (apart_from q e).0)

rows_over_tuples : (t u : Tables) → SamePlacesBut is_of_tuples t u → (q : List ℕ) → vals_at u q ≡ vals_at t q
rows_over_tuples t u same = vals_same t u (λ k. same (11 ∷ k) refl)

-- no place of states is a row's
no_row : (q : List ℕ) → is_of_states q ≡ true → is_in rows_alone q ≡ false
no_row q e = (apart_from q e).1

-- ---- how many writes fit

fits : (d states rows places : ℕ) → states + rows ≤ places → (d + 2) * states + (rows + rows) ≤ (d + 2) * places
fits d states rows places l =
    let g = mul-le d states d places (omega arith) (omega arith) in
    let h : (d + 2) * states ≡ d * states + 2 * states = grind arith in
    let k : (d + 2) * places ≡ d * places + 2 * places = grind arith in
    omega (arith, l, g, h, k)

-- ---- a statement is added: worlds come with so many rows, its tuple gets a number, and its row is put and its group settled

module _ (d rows : ℕ) (old a b new : Seen) (first : StateWrites (d + 2) rows old a) (second : EndsWithin 2 a.writes b.writes) (third : RowWrites 2 b new)
    (tuples : SamePlacesBut is_of_tuples a.kept b.kept) (alone : SamePlacesBut rows_alone b.kept new.kept) (later : a.writes ≤ b.writes) (last : b.writes ≤ new.writes) (n m z : ℕ)
    (n_rows : HasRowCount old.kept n) (m_rows : HasRowCount a.kept m) (z_rows : HasRowCount new.kept z) (came : m ≡ n + rows)
    (one : (p q : List ℕ) → IsLost (vals_at old.kept) (vals_at a.kept) (vals_at new.kept) p → IsLost (vals_at old.kept) (vals_at a.kept) (vals_at new.kept) q → p ≡ q) where
  pub adds_within : WritesWithinMore (d + 2) 8 old new
  adds_within ps diff small =
      let states = filter is_of_states ps in
      let rows_all = filter (is_in rows_alone) ps in
      let of_states : AreDifferences (part_at is_of_states old.kept) (part_at is_of_states a.kept) states =
      differences_like (part_at is_of_states old.kept) (part_at is_of_states new.kept) (part_at is_of_states old.kept) (part_at is_of_states a.kept) states (λ q. refl)
      (λ q. sym (states_over_rows b.kept new.kept alone q ∙ states_over_tuples a.kept b.kept tuples q)) (part_differences is_of_states old.kept new.kept ps diff) in
      let of_rows : AreDifferences (vals_at old.kept) (vals_at new.kept) rows_all = row_differences old.kept new.kept ps diff in
      let front = are_between (vals_at old.kept) (vals_at a.kept) n_rows.places m_rows.places n_rows.are m_rows.are in
      let back = are_between (vals_at a.kept) (vals_at new.kept) m_rows.places z_rows.places m_rows.are z_rows.are in
      let back_now : AreDifferences (vals_at b.kept) (vals_at new.kept) _ =
      differences_like (vals_at a.kept) (vals_at new.kept) (vals_at b.kept) (vals_at new.kept) _ (rows_over_tuples a.kept b.kept tuples) (λ q. refl) back in
      let few_front = few_before (vals_at old.kept) (vals_at a.kept) (vals_at new.kept) rows_all of_rows one _ front in
      let few_back = few_after (vals_at old.kept) (vals_at a.kept) (vals_at new.kept) rows_all of_rows one _ back in
      let many = more_rows old.kept a.kept n m _ (λ q out. sym (front.only q out)) n_rows m_rows in
      let parts = two_parts is_of_states (is_in rows_alone) no_row ps in
      let sum = fits d (length states) (length rows_all) (length ps) parts in
      let w = first states of_states (omega arith) in
      let x = second (omega arith) in
      let y = third _ back_now small in
      omega arith

-- ---- a statement is taken away: its row goes and its group is settled, worlds go with so many rows, and a number goes

module _ (d rows : ℕ) (old a b new : Seen) (first : RowWrites 2 old a) (second : StateWrites (d + 2) rows a b) (third : EndsWithin 2 b.writes new.writes)
    (alone : SamePlacesBut rows_alone old.kept a.kept) (tuples : SamePlacesBut is_of_tuples b.kept new.kept) (later : a.writes ≤ b.writes) (last : b.writes ≤ new.writes) (n m z : ℕ)
    (n_rows : HasRowCount old.kept n) (m_rows : HasRowCount a.kept m) (z_rows : HasRowCount b.kept z) (went : m ≡ z + rows)
    (one : (p q : List ℕ) → IsLost (vals_at old.kept) (vals_at a.kept) (vals_at b.kept) p → IsLost (vals_at old.kept) (vals_at a.kept) (vals_at b.kept) q → p ≡ q) where
  pub drops_within : WritesWithinMore (d + 2) 8 old new
  drops_within ps diff small =
      let states = filter is_of_states ps in
      let rows_all = filter (is_in rows_alone) ps in
      let of_states : AreDifferences (part_at is_of_states a.kept) (part_at is_of_states b.kept) states =
      differences_like (part_at is_of_states old.kept) (part_at is_of_states new.kept) (part_at is_of_states a.kept) (part_at is_of_states b.kept) states
      (states_over_rows old.kept a.kept alone) (λ q. sym (states_over_tuples b.kept new.kept tuples q)) (part_differences is_of_states old.kept new.kept ps diff) in
      let of_rows : AreDifferences (vals_at old.kept) (vals_at b.kept) rows_all =
      differences_like (vals_at old.kept) (vals_at new.kept) (vals_at old.kept) (vals_at b.kept) rows_all (λ q. refl) (λ q. sym (rows_over_tuples b.kept new.kept tuples q))
      (row_differences old.kept new.kept ps diff) in
      let front = are_between (vals_at old.kept) (vals_at a.kept) n_rows.places m_rows.places n_rows.are m_rows.are in
      let back = are_between (vals_at a.kept) (vals_at b.kept) m_rows.places z_rows.places m_rows.are z_rows.are in
      let few_front = few_before (vals_at old.kept) (vals_at a.kept) (vals_at b.kept) rows_all of_rows one _ front in
      let few_back = few_after (vals_at old.kept) (vals_at a.kept) (vals_at b.kept) rows_all of_rows one _ back in
      let many = more_rows b.kept a.kept z m _ back.only z_rows m_rows in
      let parts = two_parts is_of_states (is_in rows_alone) no_row ps in
      let sum = fits d (length states) (length rows_all) (length ps) parts in
      let w = first _ front (omega arith) in
      let x = second states of_states (omega arith) in
      let y = third small in
      omega arith
