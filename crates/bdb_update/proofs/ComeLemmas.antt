-- How many rows there are while worlds that have come get theirs.
use Rattle.std.proofs.Common.{◌≡◌, ◌≢◌, ◌∙◌, ℕ, suc, ◌+◌, ◌≤◌, Bool, true, false, not, ◌||◌, nat_eq, cond, List, [], ◌∷◌, ◌++◌, length, take, Option, Some, None, is_some, refl, sym, ap, arith}
use Rattle.std.specs.Prelude.{sum_by}
use Rattle.std.specs.List.{AllByRecursion}
use Rattle.std.specs.Option.{option_map}
use Rattle.std.specs.FinMap as tables
use Rattle.std.proofs.lemmas.Bool.{and_from}
use Rattle.bdb_base.specs.declared.kinds.Stmt.{Stmt}
use Rattle.bdb_base.specs.Causes.{is_listed}
use Rattle.bdb_keep.specs.Tables.{Tables}
use Rattle.bdb_tables.specs.InUse.{val_codec}
use Rattle.bdb_tables.specs.Names.{Names, path_of, are_once, with_name}
use Rattle.bdb_tables.specs.Rows.{HoldsRows, row_named}
use Rattle.bdb_tables.proofs.DifferenceLemmas.{differences_are_counted}
use Rattle.bdb_val.specs.WorldCopies.{IsBareWorld}
use Rattle.bdb_worlds.specs.Growth.{with_prefixes, AreLeast}
use Rattle.bdb_update.specs.Filling.{AreFillable, Before, HaveCome, names_now}
use Rattle.bdb_tables.specs.Stored.{SameBut}
use Rattle.bdb_update.specs.Tallies.{HasRowCount, vals_at, nothing_at}
use Rattle.bdb_update.proofs.BetweenLemmas.{vals_same}
use Rattle.bdb_update.proofs.PrefixLemmas.{least_front, least_behind, still_named, prefixes_split}
use Rattle.bdb_update.proofs.RowLemmas.{AreUsed, rows_counted, rows_of}
use Rattle.bdb_tables.proofs.SameLemmas.{tuples_still}
use Rattle.bdb_update.proofs.SumLemmas.{rows_are_few}

-- tables have one number of rows
pub rows_one : (t : Tables) (a b : ℕ) → HasRowCount t a → HasRowCount t b → a ≡ b
rows_one t a b x y = x.many ∙ differences_are_counted (vals_at t) nothing_at x.places y.places x.are y.are ∙ sym y.many

-- and the same where the table of rows has not changed
pub rows_same : (t u : Tables) (a : ℕ) → ((k : List ℕ) → tables.get u (11 ∷ k) ≡ tables.get t (11 ∷ k)) → HasRowCount t a → HasRowCount u a
rows_same t u a same x = record {
  places = x.places;
  are = record {
    once = x.are.once;
    each = go x.places x.are.each;
    only = λ q out. vals_same t u same q ∙ x.are.only q out;
  };
  many = x.many;
}
  where
    go : (ps : List (List ℕ)) → AllByRecursion (λ p. vals_at t p ≢ nothing_at p) ps → AllByRecursion (λ p. vals_at u p ≢ nothing_at p) ps
    go [] h = tt
    go (p ∷ ps) h = ((λ e. h.0 (sym (vals_same t u same p) ∙ e)), go ps h.1)

-- ---- the numbers of worlds, one more after the other

record AreCounted (ns : Names) : Type 0 where
  once : are_once ns.used ≡ true
  counted : (n : ℕ) → is_listed n ns.used ≡ is_some (path_of ns n)

one_more : (ns : Names) (n : ℕ) (p : List ℕ) → AreCounted ns → path_of ns n ≡ None → AreCounted (with_name ns n p)
one_more ns n p c free = record {
  once = and_from (not (is_listed n ns.used)) (are_once ns.used) (ap not (c.counted n ∙ ap is_some free)) c.once;
  counted = λ k. ap (λ b. nat_eq k n || b) (c.counted k) ∙ by (nat_eq k n) (path_of ns k);
}
  where
    by : (b : Bool) (o : Option (List ℕ)) → (b || is_some o) ≡ is_some (cond b (Some p) o)
    by true o = refl
    by false o = refl

all_more : (ns : Names) (path : List ℕ) (len : ℕ) (new : List ℕ) → AreCounted ns → AreLeast ns path len new → AreCounted (with_prefixes ns path len new)
all_more ns path len [] c l = c
all_more ns path len (n ∷ new) c l = all_more (with_name ns n (take (suc len) path)) path (suc len) new (one_more ns n (take (suc len) path) c l.0.free) l.1

used_more : (ns : Names) (path : List ℕ) (len : ℕ) (new : List ℕ) → length (with_prefixes ns path len new).used ≡ length ns.used + length new
used_more ns path len [] = omega arith
used_more ns path len (n ∷ new) = let e = used_more (with_name ns n (take (suc len) path)) path (suc len) new in omega arith

-- ---- so many rows have the worlds that have theirs

module _ (s : Before) (told : List Stmt) (t now : Tables) (xs ys : List ℕ) (c : HaveCome s t (xs ++ ys)) (a : AreFillable s told t) (same : SameBut (λ n. nat_eq n 11) t now)
    (rows : HoldsRows s.keys s.stmts (path_of (names_now s xs)) s.tuples.tuple now) where
  abbrev pub part : Names
  part = names_now s xs

  abbrev all : Names
  all = names_now s (xs ++ ys)

  whole_is : all ≡ with_prefixes part s.path (s.stood + length xs) ys
  whole_is = prefixes_split s.names s.path s.stood xs ys

  counted : AreCounted part
  counted = all_more s.names s.path s.stood xs (record { once = c.names.once; counted = c.names.counted }) (least_front s.names s.path s.stood xs ys c.least)

  used : AreUsed part
  used = record {
    once = counted.once;
    counted = counted.counted;
    sized = λ n w e.
        let f = ap (λ (x : Names). path_of x n) whole_is ∙ still_named part s.path (s.stood + length xs) ys n w (least_behind s.names s.path s.stood xs ys c.least) e in
        c.states.names.sized w n (c.states.names.named n w f);
  }

  pub part_count : HasRowCount now (sum_by (rows_of s.keys s.stmts part) part.used)
  part_count = rows_counted s.keys s.stmts told part s.tuples now a.lengths used a.consistent (tuples_still (λ n. nat_eq n 11) t now same told s.tuples refl refl a.tuples) a.within rows

  pub part_few : sum_by (rows_of s.keys s.stmts part) part.used ≤ 1310720000
  part_few =
      let e = ap (λ (x : Names). length x.used) whole_is ∙ used_more part s.path (s.stood + length xs) ys in
      let f = c.states.names.few in
      rows_are_few s.keys s.stmts part a.consistent a.few (omega arith)

-- a world that has no name has no rows
pub bare : (s : Before) (ns : Names) (now : Tables) (wid : ℕ) → HoldsRows s.keys s.stmts (path_of ns) s.tuples.tuple now → path_of ns wid ≡ None → IsBareWorld now wid
bare s ns now wid rows none k v e =
    rows.rows k v ∙ ap (option_map val_codec.row_bytes) (ap (λ p. row_named s.keys s.stmts k p (s.tuples.tuple k.3)) (ap (path_of ns) e ∙ none))
