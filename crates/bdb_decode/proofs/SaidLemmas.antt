-- The statements that explicit rows make are those rows.
use Rattle.std.proofs.Common.{◌≡◌, ◌∙◌, ◌⊎◌, ℕ, Bool, true, false, not, ◌&&◌, ◌||◌, nat_eq, cond, List, [], ◌∷◌, Option, Some, None, is_some, refl, ap, sym, subst, inl, inr}
use Rattle.std.specs.List.{list_all, list_any, flat_map, AllByRecursion}
use Rattle.std.specs.Option.{option_map}
use Rattle.std.specs.FinMap as tables
use Rattle.std.proofs.lemmas.Bool.{and_parts, and_from, or_cases, or_left, or_right, false≢true, false_from_ne_true, eqb-true}
use Rattle.std.proofs.lemmas.List.Folds.{list_any-append}
use Rattle.std.proofs.lemmas.List.Sorted.{list_any-IsPermutation}
use Rattle.bdb_base.specs.Clash.{key_of}
use Rattle.bdb_base.specs.Same.{same_path, same_sign, same_tuple, same_values}
use Rattle.bdb_base.specs.SameLemmas.{same_path-Decides, same_sign-Decides, same_tuple-Decides, same_values-Decides}
use Rattle.bdb_base.specs.Worlds.{IsConsistent, explicit}
use Rattle.bdb_base.specs.declared.kinds.Sign.{Sign}
use Rattle.bdb_base.specs.declared.kinds.Sign.TheVariants.{Plus, Minus}
use Rattle.bdb_base.specs.declared.kinds.Stmt.{Stmt}
use Rattle.bdb_base.specs.declared.kinds.Value.{Value}
use Rattle.bdb_base.specs.declared.tuple.Tuple.{Tuple}
use Rattle.bdb_base.proofs.OptionLemmas.{some_of, none_and_some, one_there}
use Rattle.bdb_keep.specs.Tables.{Tables}
use Rattle.bdb_key.specs.Rows.{mark_bytes}
use Rattle.bdb_tables.specs.Codec.{place}
use Rattle.bdb_tables.specs.InUse.{ValKey, IsValKey, val_bytes, val_codec}
use Rattle.bdb_tables.specs.Marks.{Mark, explicit_of, explicit_sign, sign_by}
use Rattle.bdb_tables.specs.Names.{number_of}
use Rattle.bdb_tables.specs.Spans.{AreUnder, IsUnder}
use Rattle.bdb_tables.specs.Writes.{Gives}
use Rattle.bdb_tables.proofs.MarkLemmas.{mark_is}
use Rattle.bdb_val.specs.Reads.{HasRows, is_of_group}
use Rattle.bdb_val.specs.Settling.{row_key}
use Rattle.bdb_val.proofs.ReadLemmas.{key_fits}
use Rattle.bdb_entries.proofs.ListedLemmas.{entries_found}
use Rattle.bdb_decode.specs.Explicit.{AreStated, Paths, TupleRows, ValRow, is_placed, is_placed_by, said, said_by}
use Rattle.bdb_decode.specs.ExplicitLaws.{HaveNumbers, StatedRowsAreExplicit}
use Rattle.bdb_decode.specs.Items.{item_of}
use Rattle.bdb_decode.proofs.RowLemmas.{found_passes}

-- ---- what a row that has its place tells

pub record Placed (keys : ℕ → ℕ) (worlds : Paths) (tuples : TupleRows) (e : ValRow) : Type 0 where
  pub path : List ℕ
  pub tuple : Tuple
  pub path_is : item_of worlds e.0.0 ≡ Some path
  pub tuple_is : item_of tuples e.0.3 ≡ Some tuple
  pub key : row_key keys e.0.0 e.0.3 tuple ≡ e.0

abbrev made : ℕ → ℕ → List Value → ℕ → ValKey
made a b c d = (a, b, c, d)

key_from : (keys : ℕ → ℕ) (e : ValRow) (u : Tuple) → is_of_group keys e.0.1 e.0.2 u ≡ true → row_key keys e.0.0 e.0.3 u ≡ e.0
key_from keys e u h =
    let k = and_parts (nat_eq u.rel e.0.1) (same_values (key_of keys u) e.0.2) h in
    ap (λ (r : ℕ). made e.0.0 r (key_of keys u) e.0.3) (eqb-true u.rel e.0.1 k.0)
    ∙ ap (λ (vs : List Value). made e.0.0 e.0.1 vs e.0.3) ((same_values-Decides (key_of keys u) e.0.2).0 k.1)

pub placed_tells : (keys : ℕ → ℕ) (worlds : Paths) (tuples : TupleRows) (e : ValRow) → is_placed keys worlds tuples e ≡ true → Placed keys worlds tuples e
placed_tells keys worlds tuples e h = go (item_of worlds e.0.0) (item_of tuples e.0.3) refl refl
  where
    go : (p : Option (List ℕ)) (o : Option Tuple) → item_of worlds e.0.0 ≡ p → item_of tuples e.0.3 ≡ o → Placed keys worlds tuples e
    go None o a b = absurd (false≢true (sym (ap (λ q. is_placed_by keys q (item_of tuples e.0.3) e) a) ∙ h))
    go (Some w) None a b = absurd (false≢true (sym (ap (λ q. is_placed_by keys q (item_of tuples e.0.3) e) a ∙ ap (λ q. is_placed_by keys (Some w) q e) b) ∙ h))
    go (Some w) (Some u) a b = record {
      path = w;
      tuple = u;
      path_is = a;
      tuple_is = b;
      key = key_from keys e u (sym (ap (λ q. is_placed_by keys q (item_of tuples e.0.3) e) a ∙ ap (λ q. is_placed_by keys (Some w) q e) b) ∙ h);
    }

-- ---- rows of a list

abbrev IsIn : ValRow → List ValRow → Type 0
IsIn e [] = ⊥
IsIn e (x ∷ xs) = (x ≡ e) ⊎ IsIn e xs

all_at : (P : ValRow → Type 0) (xs : List ValRow) (e : ValRow) → AllByRecursion P xs → IsIn e xs → P e
all_at P [] e h i = absurd i
all_at P (x ∷ xs) e h (inl s) = subst P s h.0
all_at P (x ∷ xs) e h (inr i) = all_at P xs e h.1 i

pass_at : (p : ValRow → Bool) (xs : List ValRow) (e : ValRow) → list_all p xs ≡ true → IsIn e xs → p e ≡ true
pass_at p [] e h i = absurd i
pass_at p (x ∷ xs) e h (inl s) = ap p (sym s) ∙ (and_parts (p x) (list_all p xs) h).0
pass_at p (x ∷ xs) e h (inr i) = pass_at p xs e (and_parts (p x) (list_all p xs) h).1 i

-- a statement among those that rows make is made by one of them
record MakesOne (g : Stmt → Bool) (s : ValRow → List Stmt) (xs : List ValRow) : Type 0 where
  row : ValRow
  among : IsIn row xs
  makes : list_any g (s row) ≡ true

made_by : (g : Stmt → Bool) (s : ValRow → List Stmt) (xs : List ValRow) → list_any g (flat_map s xs) ≡ true → MakesOne g s xs
made_by g s [] h = absurd (false≢true h)
made_by g s (x ∷ xs) h = elim (or_cases (list_any g (s x)) (list_any g (flat_map s xs)) (sym (list_any-append g (s x) (flat_map s xs)) ∙ h)) [
  | inl a ↦ record { row = x; among = inl refl; makes = a }
  | inr b ↦ let m = made_by g s xs b in record { row = m.row; among = inr m.among; makes = m.makes }
]

-- what a row makes is among the statements of all
abbrev goes_in : (Stmt → Bool) → (ValRow → List Stmt) → List Stmt → ValRow → Bool
goes_in g s all e = not (list_any g (s e)) || list_any g all

goes_in_from : (g : Stmt → Bool) (s : ValRow → List Stmt) (all : List Stmt) (xs : List ValRow) → (list_any g (flat_map s xs) ≡ true → list_any g all ≡ true)
    → list_all (goes_in g s all) xs ≡ true
goes_in_from g s all [] h = refl
goes_in_from g s all (x ∷ xs) h =
    and_from (goes_in g s all x) (list_all (goes_in g s all) xs) (by (list_any g (s x)) refl)
    (goes_in_from g s all xs (λ e. h (list_any-append g (s x) (flat_map s xs) ∙ or_right (list_any g (s x)) (list_any g (flat_map s xs)) e)))
  where
    by : (b : Bool) → list_any g (s x) ≡ b → (not (list_any g (s x)) || list_any g all) ≡ true
    by true e = or_right (not (list_any g (s x))) (list_any g all) (h (list_any-append g (s x) (flat_map s xs) ∙ or_left (list_any g (s x)) (list_any g (flat_map s xs)) e))
    by false e = or_left (not (list_any g (s x))) (list_any g all) (ap not e)

goes_in_gives : (a b : Bool) → (not a || b) ≡ true → a ≡ true → b ≡ true
goes_in_gives true b h e = h
goes_in_gives false b h e = absurd (false≢true e)

-- a statement is this one
abbrev pub is_this : List ℕ → Tuple → Sign → Stmt → Bool
is_this w u s x = same_path x.path w && (same_tuple x.tuple u && same_sign x.sign s)

-- a row makes this statement
pub record MakesThis (worlds : Paths) (tuples : TupleRows) (w : List ℕ) (u : Tuple) (s : Sign) (e : ValRow) : Type 0 where
  pub path : item_of worlds e.0.0 ≡ Some w
  pub tuple : item_of tuples e.0.3 ≡ Some u
  pub mark : e.1 ≡ (s, true)

abbrev mark_pair : Sign → Bool → Mark
mark_pair s b = (s, b)

pub makes_tells : (worlds : Paths) (tuples : TupleRows) (w : List ℕ) (u : Tuple) (s : Sign) (e : ValRow) → list_any (is_this w u s) (said worlds tuples e) ≡ true → MakesThis worlds tuples w u s e
makes_tells worlds tuples w u s e h = go (item_of worlds e.0.0) (item_of tuples e.0.3) refl refl
  where
    at : Option (List ℕ) → Option Tuple → Bool
    at p o = list_any (is_this w u s) (said_by p o e)

    of_row : (v : List ℕ) (y : Tuple) (b : Bool) → e.1.1 ≡ b → item_of worlds e.0.0 ≡ Some v → item_of tuples e.0.3 ≡ Some y
        → list_any (is_this w u s) (cond b ((record { path = v; sign = e.1.0; tuple = y }) ∷ []) []) ≡ true → MakesThis worlds tuples w u s e
    of_row v y false x a b m = absurd (false≢true m)
    of_row v y true x a b m =
        let same : is_this w u s (record { path = v; sign = e.1.0; tuple = y }) ≡ true =
        elim (or_cases (is_this w u s (record { path = v; sign = e.1.0; tuple = y })) false m) [ inl q ↦ q | inr q ↦ absurd (false≢true q) ] in
        let k = and_parts (same_path v w) (same_tuple y u && same_sign e.1.0 s) same in
        let l = and_parts (same_tuple y u) (same_sign e.1.0 s) k.1 in
        record {
          path = a ∙ ap Some ((same_path-Decides v w).0 k.0);
          tuple = b ∙ ap Some ((same_tuple-Decides y u).0 l.0);
          mark = ap (λ (z : Sign). mark_pair z e.1.1) ((same_sign-Decides e.1.0 s).0 l.1) ∙ ap (mark_pair s) x;
        }

    go : (p : Option (List ℕ)) (o : Option Tuple) → item_of worlds e.0.0 ≡ p → item_of tuples e.0.3 ≡ o → MakesThis worlds tuples w u s e
    go None o a b = absurd (false≢true (sym (ap (λ q. at q (item_of tuples e.0.3)) a) ∙ h))
    go (Some v) None a b = absurd (false≢true (sym (ap (λ q. at q (item_of tuples e.0.3)) a ∙ ap (at (Some v)) b) ∙ h))
    go (Some v) (Some y) a b = of_row v y e.1.1 refl a b (sym (ap (λ q. at q (item_of tuples e.0.3)) a ∙ ap (at (Some v)) b) ∙ h)

this_itself : (w : List ℕ) (u : Tuple) (s : Sign) → is_this w u s (record { path = w; sign = s; tuple = u }) ≡ true
this_itself w u s =
    and_from (same_path w w) (same_tuple u u && same_sign s s) ((same_path-Decides w w).1 refl)
    (and_from (same_tuple u u) (same_sign s s) ((same_tuple-Decides u u).1 refl) ((same_sign-Decides s s).1 refl))

tells_makes : (worlds : Paths) (tuples : TupleRows) (w : List ℕ) (u : Tuple) (s : Sign) (e : ValRow) → MakesThis worlds tuples w u s e → list_any (is_this w u s) (said worlds tuples e) ≡ true
tells_makes worlds tuples w u s e m =
    ap (λ q. list_any (is_this w u s) (said_by q (item_of tuples e.0.3) e)) m.path
    ∙ ap (λ q. list_any (is_this w u s) (said_by (Some w) q e)) m.tuple
    ∙ ap (λ (k : Mark). list_any (is_this w u s) (cond k.1 ((record { path = w; sign = k.0; tuple = u }) ∷ []) [])) m.mark
    ∙ or_left (is_this w u s (record { path = w; sign = s; tuple = u })) false (this_itself w u s)

-- ---- the law

module _ (keys : ℕ → ℕ) (t : Tables) (worlds : Paths) (tuples : TupleRows) (stmts : List Stmt) (f : ValKey → Option Mark)
    (numbers : HaveNumbers t tuples) (one : (a b : ℕ) (w : List ℕ) → item_of worlds a ≡ Some w → item_of worlds b ≡ Some w → a ≡ b)
    (h : AreStated keys t worlds tuples stmts) (gives : Gives val_codec t f) where
  abbrev rows : List ValRow
  rows = h.are.rows

  under : AreUnder val_codec t [] rows
  under = h.are.are.under

  -- a row of the list is what the table gives
  row_given : (e : ValRow) → IsIn e rows → f e.0 ≡ Some e.1
  row_given e i =
      let each = all_at (IsUnder val_codec []) rows e under.each i in
      let there = all_at (λ d. tables.get t (place val_codec d.0) ≡ Some (mark_bytes d.1)) rows e (entries_found val_codec t rows under) i in
      mark_is (f e.0) e.1 (sym (gives.rows e.0 each.key) ∙ there)

  -- what the table gives passes what all rows pass
  given_passes : (p : ValRow → Bool) → list_all p rows ≡ true → (k : ValKey) (m : Mark) → IsValKey k → f k ≡ Some m → p (k, m) ≡ true
  given_passes p all k m fits e =
      found_passes keys worlds tuples p rows under.each all (k, m) (record { key = fits; row = tt; begins = refl })
      (sym (under.found (val_bytes k) refl) ∙ gives.rows k fits ∙ ap (option_map mark_bytes) e)

  pub given_placed : (k : ValKey) (m : Mark) → IsValKey k → f k ≡ Some m → Placed keys worlds tuples (k, m)
  given_placed k m fits e = placed_tells keys worlds tuples (k, m) (given_passes (is_placed keys worlds tuples) h.are.are.placed k m fits e)

  same_stated : (w : List ℕ) (u : Tuple) (s : Sign) → explicit stmts w u s ≡ list_any (is_this w u s) (flat_map (said worlds tuples) rows)
  same_stated w u s = sym (list_any-IsPermutation (is_this w u s) h.made stmts h.moved) ∙ ap (list_any (is_this w u s)) h.are.said

  -- a statement is an explicit row
  pub stated_given : (w : List ℕ) (u : Tuple) (s : Sign) → explicit stmts w u s ≡ true
      → (wid : ℕ) × (tid : ℕ) × (item_of worlds wid ≡ Some w) × (item_of tuples tid ≡ Some u) × (f (row_key keys wid tid u) ≡ Some (s, true))
  stated_given w u s x =
      let m = made_by (is_this w u s) (said worlds tuples) rows (sym (same_stated w u s) ∙ x) in
      let e = m.row in
      let k = makes_tells worlds tuples w u s e m.makes in
      let p = placed_tells keys worlds tuples e (pass_at (is_placed keys worlds tuples) rows e h.are.are.placed m.among) in
      let own : p.tuple ≡ u = one_there p.tuple u (item_of tuples e.0.3) p.tuple_is k.tuple in
      let key : row_key keys e.0.0 e.0.3 u ≡ e.0 = ap (λ (y : Tuple). row_key keys e.0.0 e.0.3 y) (sym own) ∙ p.key in
      (e.0.0, e.0.3, k.path, k.tuple, ap f key ∙ row_given e m.among ∙ ap Some k.mark)

  -- an explicit row is a statement
  pub given_stated : (wid tid : ℕ) (w : List ℕ) (u : Tuple) (s : Sign) → IsValKey (row_key keys wid tid u) → item_of worlds wid ≡ Some w → item_of tuples tid ≡ Some u
      → f (row_key keys wid tid u) ≡ Some (s, true) → explicit stmts w u s ≡ true
  given_stated wid tid w u s fits a b e =
      let g = is_this w u s in
      let all = flat_map (said worlds tuples) rows in
      let in_all = given_passes (goes_in g (said worlds tuples) all) (goes_in_from g (said worlds tuples) all rows (λ x. x)) (row_key keys wid tid u) (s, true) fits e in
      same_stated w u s ∙ goes_in_gives (list_any g (said worlds tuples (row_key keys wid tid u, (s, true)))) (list_any g all) in_all
      (tells_makes worlds tuples w u s (row_key keys wid tid u, (s, true)) (record { path = a; tuple = b; mark = refl }))

  explicit_tells : (wid tid : ℕ) (w : List ℕ) (u : Tuple) (s : Sign) → item_of worlds wid ≡ Some w → item_of tuples tid ≡ Some u → explicit stmts w u s ≡ true
      → f (row_key keys wid tid u) ≡ Some (s, true)
  explicit_tells wid tid w u s a b x =
      let m = stated_given w u s x in
      let same_wid : m.0 ≡ wid = one m.0 wid w m.2 a in
      let same_tid : m.1 ≡ tid = numbers.once m.1 tid u m.3 b in
      sym (ap (λ (n : ℕ). f (row_key keys n m.1 u)) same_wid ∙ ap (λ (n : ℕ). f (row_key keys wid n u)) same_tid) ∙ m.4

  pub explicit_is_sign : IsConsistent keys stmts → (wid tid : ℕ) (w : List ℕ) (u : Tuple) → IsValKey (row_key keys wid tid u) → item_of worlds wid ≡ Some w → item_of tuples tid ≡ Some u
      → explicit_of (f (row_key keys wid tid u)) ≡ explicit_sign stmts w u
  explicit_is_sign c wid tid w u fits a b = go (f (row_key keys wid tid u)) refl
    where
      none_but : (o : Option Mark) → f (row_key keys wid tid u) ≡ o → (s : Sign) → (o ≡ Some (s, true) → ⊥) → explicit stmts w u s ≡ false
      none_but o e s bad = false_from_ne_true (explicit stmts w u s) (λ x. bad (sym e ∙ explicit_tells wid tid w u s a b x))

      signs : (p m : Bool) → explicit stmts w u Plus ≡ p → explicit stmts w u Minus ≡ m → explicit_sign stmts w u ≡ sign_by p m
      signs p m x y = ap (λ q. sign_by q (explicit stmts w u Minus)) x ∙ ap (sign_by p) y

      plus_minus : (o : Mark) (b : Bool) → o ≡ (Plus, b) → o ≡ (Minus, b) → ⊥
      plus_minus o b x y = false≢true (sym (ap (λ (k : Mark). same_sign k.0 Plus) y) ∙ ap (λ (k : Mark). same_sign k.0 Plus) x)

      mark_of_some : (m n : Mark) → Some m ≡ Some n → m ≡ n
      mark_of_some m n e = cc

      unmarked : (s r : Sign) → ◌≡◌ {A = Mark} (s, false) (r, true) → ⊥
      unmarked s r e = false≢true (ap (λ (k : Mark). k.1) e)

      go : (o : Option Mark) → f (row_key keys wid tid u) ≡ o → explicit_of (f (row_key keys wid tid u)) ≡ explicit_sign stmts w u
      go None e =
          ap explicit_of e
          ∙ sym (signs false false (none_but None e Plus (λ x. none_and_some (Plus, true) None refl x)) (none_but None e Minus (λ x. none_and_some (Minus, true) None refl x)))
      go (Some (s, false)) e =
          ap explicit_of e
          ∙ sym (signs false false (none_but (Some (s, false)) e Plus (λ x. unmarked s Plus (mark_of_some (s, false) (Plus, true) x)))
          (none_but (Some (s, false)) e Minus (λ x. unmarked s Minus (mark_of_some (s, false) (Minus, true) x))))
      go (Some (Plus, true)) e =
          ap explicit_of e ∙ sym (ap (λ q. sign_by q (explicit stmts w u Minus)) (given_stated wid tid w u Plus fits a b e))
      go (Some (Minus, true)) e =
          ap explicit_of e
          ∙ sym (signs false true (none_but (Some (Minus, true)) e Plus (λ x. plus_minus (Minus, true) true (mark_of_some (Minus, true) (Plus, true) x) refl)) (given_stated wid tid w u Minus fits a b e))

pub stated_rows_are_explicit : StatedRowsAreExplicit
stated_rows_are_explicit keys t worlds tuples ns stmts f lengths paths numbers h gives consistent = record {
  rows = rows_are;
  sized = λ wid w e. paths.names.sized w wid (paths.names.named wid w e);
  worlds = λ k fits s. let m = some_of (f k) s in ap is_some (paths.paths k.0 ∙ (given_placed keys t worlds tuples stmts f numbers once h gives k m.0 fits m.1).path_is);
  explicit = λ wid w tid u p n.
      explicit_is_sign keys t worlds tuples stmts f numbers once h gives consistent wid tid w u
      (key_fits keys (item_of tuples) f t rows_are wid tid u (paths.names.sized w wid (paths.names.named wid w p)) n) (sym (paths.paths wid) ∙ p) n;
  numbered = λ w u s x. let m = stated_given keys t worlds tuples stmts f numbers once h gives w u s x in (m.1, m.3);
  consistent = consistent;
}
  where
    once : (a b : ℕ) (w : List ℕ) → item_of worlds a ≡ Some w → item_of worlds b ≡ Some w → a ≡ b
    once a b w x y = one_there a b (number_of ns w) (paths.names.named a w (paths.paths a ∙ x)) (paths.names.named b w (paths.paths b ∙ y))

    keyed_at : (k : ValKey) → IsValKey k → is_some (f k) ≡ true → (u : Tuple) × (item_of tuples k.3 ≡ Some u) × (row_key keys k.0 k.3 u ≡ k)
    keyed_at k fits s = let m = some_of (f k) s in let p = given_placed keys t worlds tuples stmts f numbers once h gives k m.0 fits m.1 in (p.tuple, p.tuple_is, p.key)

    rows_are : HasRows keys (item_of tuples) f t
    rows_are = record { lengths = lengths; tuples = numbers.gives; rows = gives; sized = numbers.sized; keyed = keyed_at }
