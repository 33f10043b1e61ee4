-- Whether a tuple is told at another path than one at which it is stated, by how many of its rows are explicit.
use Rattle.std.proofs.Common.{◌≡◌, ◌∙◌, ℕ, zero, suc, ◌+◌, ◌-◌, ◌<◌, ◌≤◌, Bool, true, false, not, ◌&&◌, ◌||◌, nat_lt, List, [], ◌∷◌, ◌++◌, append_assoc, drop, filter, refl, ap, sym, subst, inl, inr, Option, Some, None, is_some, arith}
use Rattle.std.specs.List.{list_all}
use Rattle.std.proofs.lemmas.Bool.{cases_lt, and_parts, and_from, or_cases, or_left, or_right, cond-true, cond-false, false≢true, false_from_ne_true, not_from_false, not-true, lt-ltb, le-ltb}
use Rattle.bdb_base.specs.Bases.{Contents, has_tuple}
use Rattle.bdb_base.specs.Clash.{key_of}
use Rattle.bdb_base.specs.Same.{same_path, same_tuple, same_sign}
use Rattle.bdb_base.specs.SameLemmas.{same_path-Decides, same_sign-Decides}
use Rattle.bdb_base.specs.Worlds.{explicit, IsConsistent}
use Rattle.bdb_base.specs.declared.kinds.Sign.{Sign}
use Rattle.bdb_base.specs.declared.kinds.Stmt.{Stmt}
use Rattle.bdb_base.specs.declared.tuple.Tuple.{Tuple}
use Rattle.bdb_base.proofs.ClashLemmas.{same_tuple_turned}
use Rattle.bdb_base.proofs.WorldLemmas.{explicit_tuple}
use Rattle.bdb_base.proofs.ListLemmas.{list_any_same}
use Rattle.bdb_base.proofs.BoolLemmas.{not_twice}
use Rattle.bdb_keep.specs.Marked.{IsMarkedCount}
use Rattle.bdb_keep.specs.Tables.{Tables}
use Rattle.bdb_keep.specs.declared.keeper.KeyEnd.TheVariants.{Last}
use Rattle.bdb_keep.proofs.MarkedLemmas.{another_marked, only_marked}
use Rattle.bdb_key.specs.Bytes.{num_bytes, vals_bytes}
use Rattle.bdb_key.specs.Rows.{IsTupleRow}
use Rattle.bdb_key.proofs.Readings.{num_form}
use Rattle.bdb_tables.specs.Codec.{HasAt}
use Rattle.bdb_tables.specs.InUse.{tuple_ix_codec, val_bytes}
use Rattle.bdb_tables.specs.Names.{path_of, number_of}
use Rattle.bdb_tables.specs.Stored.{Stores}
use Rattle.bdb_tables.proofs.ExplicitLemmas.{none_there}
use Rattle.bdb_val.specs.Settling.{row_key}
use Rattle.bdb_update.specs.Differing.{AreWithin, has_told}
use Rattle.bdb_update.specs.Elsewhere.{IsLost, AreLost, IsFresh, AreFresh, are_at, kept_if}
use Rattle.bdb_update.specs.Keys.{keys_of}
use Rattle.bdb_update.specs.Reached.{told_elsewhere, lost_of, fresh_of}
use Rattle.bdb_update.proofs.ReadingLemmas.{HasMarkedRow, marked_told, told_marked}
use Rattle.bdb_update.proofs.TupleLemmas.{number_read}

-- ---- another path's statements

-- a tuple that is stated at another path is told elsewhere
stated_elsewhere : (w v : List ℕ) (u : Tuple) (g : Sign) (stmts : List Stmt) → same_path v w ≡ false → explicit stmts v u g ≡ true → told_elsewhere stmts w u ≡ true
stated_elsewhere w v u g [] n e = absurd (false≢true e)
stated_elsewhere w v u g (x ∷ xs) n e = elim (or_cases (same_path x.path v && (same_tuple x.tuple u && same_sign x.sign g)) (explicit xs v u g) e) [
  | inl h ↦
      let k = and_parts (same_path x.path v) (same_tuple x.tuple u && same_sign x.sign g) h in
      let m = and_parts (same_tuple x.tuple u) (same_sign x.sign g) k.1 in
      or_left (not (same_path x.path w) && same_tuple u x.tuple) (told_elsewhere xs w u)
      (and_from (not (same_path x.path w)) (same_tuple u x.tuple) (not_from_false (same_path x.path w) (ap (λ z. same_path z w) ((same_path-Decides x.path v).0 k.0) ∙ n)) (same_tuple_turned u x.tuple ∙ m.0))
  | inr h ↦ or_right (not (same_path x.path w) && same_tuple u x.tuple) (told_elsewhere xs w u) (stated_elsewhere w v u g xs n h)
]

-- and is stated at one
stated_at : (w : List ℕ) (u : Tuple) (stmts : List Stmt) → told_elsewhere stmts w u ≡ true → (v : List ℕ) × (g : Sign) × (same_path v w ≡ false) × (explicit stmts v u g ≡ true)
stated_at w u [] e = absurd (false≢true e)
stated_at w u (x ∷ xs) e = elim (or_cases (not (same_path x.path w) && same_tuple u x.tuple) (told_elsewhere xs w u) e) [
  | inl h ↦
      let k = and_parts (not (same_path x.path w)) (same_tuple u x.tuple) h in (
        x.path,
        x.sign,
        not-true (same_path x.path w) k.0,
        or_left (same_path x.path x.path && (same_tuple x.tuple u && same_sign x.sign x.sign)) (explicit xs x.path u x.sign)
            (and_from (same_path x.path x.path) (same_tuple x.tuple u && same_sign x.sign x.sign) ((same_path-Decides x.path x.path).1 refl)
            (and_from (same_tuple x.tuple u) (same_sign x.sign x.sign) (same_tuple_turned x.tuple u ∙ k.1) ((same_sign-Decides x.sign x.sign).1 refl))),
      )
  | inr h ↦ let r = stated_at w u xs h in (r.0, r.1, r.2, or_right (same_path x.path r.0 && (same_tuple x.tuple u && same_sign x.sign r.1)) (explicit xs r.0 u r.1) r.3)
]

one_path : {x y : List ℕ} (o : Option (List ℕ)) → o ≡ Some x → o ≡ Some y → x ≡ y
one_path o p q = cc

one_number : {x y : ℕ} (o : Option ℕ) → o ≡ Some x → o ≡ Some y → x ≡ y
one_number o p q = cc

-- where a statement of a path has a tuple, another marked row of its number is that of another path's statement
module _ (t : Tables) (u : Tuple) (tid n : ℕ) (counted : IsMarkedCount t 11 Last tid n) (b : Contents) (s : Stores t b) (tuple : s.tuples.tuple tid ≡ Some u) (w : List ℕ) (g : Sign)
    (consistent : IsConsistent (keys_of b) b.stmts) (here : explicit b.stmts w u g ≡ true) where
  abbrev key : ℕ → List ℕ
  key wid = val_bytes (row_key (keys_of b) wid tid u)

  within : AreWithin b.stmts b.stmts b.stmts
  within = record { states = λ v e. e; tuples = λ v e. e }

  marked : (v : List ℕ) (f : Sign) → explicit b.stmts v u f ≡ true → HasMarkedRow b.stmts b.stmts s.names s.tuples t b s.stored u tid tuple v
  marked v f e = told_marked b.stmts b.stmts s.names s.tuples t b s.stored u tid tuple within consistent v f e

  own : HasMarkedRow b.stmts b.stmts s.names s.tuples t b s.stored u tid tuple w
  own = marked w g here

  more_tell : 2 ≤ n → told_elsewhere b.stmts w u ≡ true
  more_tell more =
      let two : n ≡ (n - 2) + 2 = omega (arith, more) in
      let other = another_marked t 11 Last tid (n - 2) (subst (IsMarkedCount t 11 Last tid) two counted) (key own.wid) in
      let x = marked_told b.stmts b.stmts s.names s.tuples t b s.stored u tid tuple other.0 other.1 in
      stated_elsewhere w x.0 u x.1.sign b.stmts (false_from_ne_true (same_path x.0 w) (λ e.
      let same : number_of s.names x.0 ≡ number_of s.names w = ap (number_of s.names) ((same_path-Decides x.0 w).0 e) in
      let named = s.stored.states.names.named in
      let one : x.1.wid ≡ own.wid = one_number (number_of s.names w) (sym same ∙ named x.1.wid x.0 x.1.world) (named own.wid w own.world) in
      other.2 (x.1.key ∙ ap key one))) x.1.there

  is_one : n < 2 → n ≡ 1
  is_one one = elim (cases_lt 0 n) [ inl some ↦ omega (arith, one, some) | inr none ↦ absurd (none_there t 11 Last tid n counted none (key own.wid) own.marked) ]

  one_tells : n < 2 → told_elsewhere b.stmts w u ≡ true → ⊥
  one_tells one e =
      let r = stated_at w u b.stmts e in
      let other = marked r.0 r.1 r.3 in
      let same : key other.wid ≡ key own.wid = only_marked t 11 Last tid (subst (IsMarkedCount t 11 Last tid) (is_one one) counted) (key own.wid) (key other.wid) own.marked other.marked in
      let rest : List ℕ = num_bytes u.rel ++ vals_bytes (key_of (keys_of b) u) ++ num_bytes tid in
      let wid : other.wid ≡ own.wid = (num_form other.wid own.wid rest rest other.fits own.fits same).0 in
      let path : r.0 ≡ w = one_path (path_of s.names own.wid) (ap (path_of s.names) (sym wid) ∙ other.world) own.world in
      false≢true (sym r.2 ∙ (same_path-Decides r.0 w).1 path)

  pub told_is : not (nat_lt n 2) ≡ told_elsewhere b.stmts w u
  told_is = elim (cases_lt n 2) [
    | inl less ↦ ap not (lt-ltb n 2 less) ∙ sym (false_from_ne_true (told_elsewhere b.stmts w u) (one_tells less))
    | inr more ↦ ap not (le-ltb n 2 more) ∙ sym (more_tell more)
  ]

-- ---- a tuple's number

module _ (t : Tables) (u : Tuple) (fits : IsTupleRow u) where
  has_is_told : (stmts : List Stmt) → has_tuple stmts u ≡ has_told stmts u
  has_is_told stmts = list_any_same (λ z. same_tuple u z.tuple) (λ z. same_tuple z.tuple u) (λ z. same_tuple_turned u z.tuple) stmts

  has_is : (found : Option ℕ) → HasAt tuple_ix_codec t u found → (b : Contents) (s : Stores t b) → has_tuple b.stmts u ≡ is_some found
  has_is found has b s = has_is_told b.stmts ∙ sym (s.stored.tuples.stated u) ∙ ap is_some (sym (number_read b.stmts s.tuples t u found s.stored.tuples fits has))

  pub fresh_none : HasAt tuple_ix_codec t u None → IsFresh t u true
  fresh_none has b s = sym (ap not (has_is None has b s))

  pub fresh_some : (tid : ℕ) → HasAt tuple_ix_codec t u (Some tid) → IsFresh t u false
  fresh_some tid has b s = sym (ap not (has_is (Some tid) has b s))

  -- a tuple that no statement has is told nowhere
  pub lost_none : (reached : List Stmt) → HasAt tuple_ix_codec t u None → IsLost t reached u true
  lost_none reached has b s w g c e = absurd (false≢true (sym (has_is None has b s) ∙ has_is_told b.stmts ∙ explicit_tuple b.stmts w u g e))

  pub lost_some : (tid n : ℕ) (reached : List Stmt) → HasAt tuple_ix_codec t u (Some tid) → IsMarkedCount t 11 Last tid n → has_tuple reached u ≡ false → IsLost t reached u (nat_lt n 2)
  lost_some tid n reached has counted none b s w g c e =
      let tuple : s.tuples.tuple tid ≡ Some u = s.stored.tuples.numbered u tid (sym (number_read b.stmts s.tuples t u (Some tid) s.stored.tuples fits has)) in
      sym (not_twice (nat_lt n 2)) ∙ ap not (told_is t u tid n counted b s tuple w g c e) ∙ sym (ap (λ a. not (a || told_elsewhere b.stmts w u)) none)

-- a tuple that one of some has is not lost
pub lost_held : (t : Tables) (u : Tuple) (reached : List Stmt) → has_tuple reached u ≡ true → IsLost t reached u false
lost_held t u reached e b s w g c here = sym (ap (λ a. not (a || told_elsewhere b.stmts w u)) e)

-- ---- one statement more

kept_first : (f : Stmt → Bool) (x : Stmt) (xs : List Stmt) → filter f (x ∷ xs) ≡ kept_if (f x) x ++ filter f xs
kept_first f x xs = by (f x) refl
  where
    by : (c : Bool) → f x ≡ c → filter f (x ∷ xs) ≡ kept_if (f x) x ++ filter f xs
    by true e = cond-true (f x) (x ∷ filter f xs) (filter f xs) e ∙ sym (ap (λ c. kept_if c x ++ filter f xs) e)
    by false e = cond-false (f x) (x ∷ filter f xs) (filter f xs) e ∙ sym (ap (λ c. kept_if c x ++ filter f xs) e)

-- what was kept, and what is left to be looked at
pub kept_more : (f : Stmt → Bool) (x : Stmt) (xs kept next end : List Stmt) (is : Bool) → is ≡ f x → next ≡ kept ++ kept_if is x → kept ++ filter f (x ∷ xs) ≡ end → next ++ filter f xs ≡ end
kept_more f x xs kept next end is same put rest =
    ap (λ l. l ++ filter f xs) put
    ∙ ap (λ c. (kept ++ kept_if c x) ++ filter f xs) same
    ∙ append_assoc kept (kept_if (f x) x) (filter f xs)
    ∙ ap (λ l. kept ++ l) (sym (kept_first f x xs)) ∙ rest

all_dropped : (p : Stmt → Bool) (i : ℕ) (xs : List Stmt) → list_all p xs ≡ true → list_all p (drop i xs) ≡ true
all_dropped p zero xs e = e
all_dropped p (suc i) [] e = e
all_dropped p (suc i) (x ∷ xs) e = all_dropped p i xs (and_parts (p x) (list_all p xs) e).1

-- those that are lost among the first ones, with those among the rest
abbrev pub LostSoFar : Tables → List Stmt → List Stmt → List Stmt → List Stmt → Type 0
LostSoFar t reached gone rest kept = (b : Contents) → Stores t b → (w : List ℕ) → IsConsistent (keys_of b) b.stmts → are_at b.stmts w gone ≡ true
    → kept ++ lost_of b.stmts w reached rest ≡ lost_of b.stmts w reached gone

pub lost_more : (t u : Tables) (reached gone : List Stmt) (i : ℕ) (x : Stmt) (rest kept next : List Stmt) (is : Bool) → u ≡ t → drop i gone ≡ x ∷ rest → LostSoFar t reached gone (drop i gone) kept
    → IsLost u reached x.tuple is → next ≡ kept ++ kept_if is x → LostSoFar t reached gone rest next
lost_more t u reached gone i x rest kept next is same split h l put b s w c at =
    let here : are_at b.stmts w (x ∷ rest) ≡ true = ap (are_at b.stmts w) (sym split) ∙ all_dropped (λ y. explicit b.stmts w y.tuple y.sign) i gone at in
    let first = (and_parts (explicit b.stmts w x.tuple x.sign) (are_at b.stmts w rest) here).0 in
    kept_more (λ y. not (has_tuple reached y.tuple || told_elsewhere b.stmts w y.tuple)) x rest kept next (lost_of b.stmts w reached gone) is
    (subst (λ (v : Tables). IsLost v reached x.tuple is) same l b s w x.sign c first) put (subst (λ xs. kept ++ lost_of b.stmts w reached xs ≡ lost_of b.stmts w reached gone) split (h b s w c at))

pub lost_all : (t : Tables) (reached gone kept : List Stmt) → LostSoFar t reached gone [] kept → AreLost t reached gone kept
lost_all t reached gone kept h b s w c at = sym (append_none kept) ∙ h b s w c at
  where
    append_none : (xs : List Stmt) → xs ++ [] ≡ xs
    append_none [] = refl
    append_none (x ∷ xs) = ap (λ l. x ∷ l) (append_none xs)

-- the same of those that are fresh
abbrev pub FreshSoFar : Tables → List Stmt → List Stmt → List Stmt → Type 0
FreshSoFar t come rest kept = (b : Contents) (s : Stores t b) → kept ++ fresh_of b.stmts rest ≡ fresh_of b.stmts come

pub fresh_more : (t u : Tables) (come : List Stmt) (x : Stmt) (rest kept next : List Stmt) (is : Bool) → u ≡ t → FreshSoFar t come (x ∷ rest) kept → IsFresh u x.tuple is
    → next ≡ kept ++ kept_if is x → FreshSoFar t come rest next
fresh_more t u come x rest kept next is same h l put b s =
    kept_more (λ y. not (has_tuple b.stmts y.tuple)) x rest kept next (fresh_of b.stmts come) is (subst (λ (v : Tables). IsFresh v x.tuple is) same l b s) put (h b s)

pub fresh_all : (t : Tables) (come kept : List Stmt) → FreshSoFar t come [] kept → AreFresh t come kept
fresh_all t come kept h b s = sym (append_none kept) ∙ h b s
  where
    append_none : (xs : List Stmt) → xs ++ [] ≡ xs
    append_none [] = refl
    append_none (x ∷ xs) = ap (λ l. x ∷ l) (append_none xs)
