-- The bases on the way to a valid one: of its first places of users, then of its first relations, then of its first statements.
use Rattle.std.proofs.Common.{◌≡◌, ◌∙◌, ℕ, suc, ◌+◌, ◌<◌, ◌≤◌, Bool, true, false, not, ◌&&◌, ◌||◌, nat_le, nat_lt, List, [], ◌∷◌, ◌++◌, length, map, take, drop, get_or, append_assoc, Some, None, Ok, Err, if◌then◌else◌, refl, ap, sym, subst, arith}
use Prim.Native.Nat.{zero}
use Rattle.std.specs.List.{list_all, list_any, slice_get}
use Rattle.std.proofs.lemmas.Bool.Decides.{nat_tests}
use Rattle.std.proofs.lemmas.List.Folds.{list_all-append}
use Rattle.std.specs.Ordering.{is_eq, is_lt}
use Rattle.std.proofs.lemmas.Bool.{and_parts, and_from, false≢true, le-leb, leb-true, not-true, not_from_false, not_from_true}
use Rattle.std.proofs.lemmas.List.{append-nil, take-append-drop, take_more}
use Rattle.std.proofs.lemmas.Option.{slice_get_read}
use Rattle.bdb_base.specs.Bases.{Contents, IsCatalog, IsValid, are_distinct, belongs, is_plain, is_valid_relation, stands, user_names, with_statement}
use Rattle.bdb_base.specs.Limits.{most_relations, most_users}
use Rattle.bdb_base.specs.Order.{statement_cmp}
use Rattle.bdb_base.specs.OrderLemmas.{statement_exact}
use Rattle.bdb_base.specs.Same.{same_text}
use Rattle.bdb_base.specs.SortedSet.{ascending, put_at}
use Rattle.bdb_base.specs.declared.kinds.Catalog.{Catalog}
use Rattle.bdb_base.specs.declared.kinds.RelDef.{RelDef}
use Rattle.bdb_base.specs.declared.kinds.Stmt.{Stmt}
use Rattle.bdb_base.specs.declared.kinds.UserSlot.{UserSlot}
use Rattle.bdb_base.specs.declared.kinds.UserSlot.TheVariants.{Live, Gone}
use Rattle.bdb_base.proofs.SetLemmas.{absent_below, is_lt-Less, stands_at}
use Rattle.bdb_base.proofs.BaseLemmas.{take_is_valid}
use Rattle.bdb_base.specs.Bases.{key_lengths, tuple_count, without_statement, world_count}
use Rattle.bdb_base.specs.Clash.{clash}
use Rattle.bdb_base.specs.Limits.{most_statements, most_tuples, most_worlds}
use Rattle.bdb_base.specs.Same.{same_path}
use Rattle.bdb_base.specs.Worlds.{contradicted}
use Rattle.bdb_base.specs.declared.kinds.What.{What}
use Rattle.bdb_base.specs.declared.kinds.What.TheVariants.{Worlds, Tuples, Statements}
use Rattle.bdb_base.proofs.ListLemmas.{filter_dropped_one, filter_kept_one, list_all_get}
use Rattle.bdb_base.proofs.SetLemmas.{is_eq_itself}
use Rattle.bdb_base.proofs.OptionLemmas.{none_is_some}
use Rattle.bdb_base.proofs.FindLemmas.{find_none}
use Rattle.bdb_canon.specs.Sizes.{counts_of}
use Rattle.bdb_canon.specs.declared.sizes.Counts.{Counts}
use Rattle.bdb_keep.specs.Seen.{Seen}
use Rattle.bdb_keep.specs.Tables.{Tables}
use Rattle.bdb_stored.specs.Writing.{AddsNext, MayFollow, with_front}
use Rattle.bdb_update.specs.Calls.{IsAdding, StoresSized, clash_of, with_stmts, size_passed, with_one}
use Rattle.bdb_update.specs.declared.answer.Added.TheVariants.{New, Already}
use Rattle.bdb_update.specs.declared.answer.UpdateError.TheVariants.{Clash, Full}

-- ---- fronts of lists

module _ {X : Type 0} where
  pub all_front : (p : X → Bool) (xs : List X) (k : ℕ) → list_all p xs ≡ true → list_all p (take k xs) ≡ true
  all_front p xs zero e = refl
  all_front p [] (suc k) e = refl
  all_front p (x ∷ xs) (suc k) e = let h = and_parts (p x) (list_all p xs) e in and_from (p x) (list_all p (take k xs)) h.0 (all_front p xs k h.1)

  any_front : (p : X → Bool) (xs : List X) (k : ℕ) → list_any p xs ≡ false → list_any p (take k xs) ≡ false
  any_front p xs zero e = refl
  any_front p [] (suc k) e = refl
  any_front p (x ∷ xs) (suc k) e = by (p x) (any_front p xs k) e
    where
      by : (c : Bool) → (list_any p xs ≡ false → list_any p (take k xs) ≡ false) → (c || list_any p xs) ≡ false → (c || list_any p (take k xs)) ≡ false
      by true h f = absurd (false≢true (sym f))
      by false h f = h f

  short_front : (xs : List X) (k n : ℕ) → length xs ≤ n → length (take k xs) ≤ n
  short_front xs zero n l = omega arith
  short_front [] (suc k) n l = omega arith
  short_front (x ∷ xs) (suc k) n l = let h = short_front xs k (length xs) (omega arith) in omega arith

map_front : {X Y : Type 0} (f : X → Y) (xs : List X) (k : ℕ) → map f (take k xs) ≡ take k (map f xs)
map_front f xs zero = refl
map_front f [] (suc k) = refl
map_front f (x ∷ xs) (suc k) = ap (λ ys. f x ∷ ys) (map_front f xs k)

distinct_front : (xs : List (List ℕ)) (k : ℕ) → are_distinct xs ≡ true → are_distinct (take k xs) ≡ true
distinct_front xs zero e = refl
distinct_front [] (suc k) e = refl
distinct_front (x ∷ xs) (suc k) e =
    let h = and_parts (not (list_any (same_text x) xs)) (are_distinct xs) e in
    and_from (not (list_any (same_text x) (take k xs))) (are_distinct (take k xs))
    (not_from_false (list_any (same_text x) (take k xs)) (any_front (same_text x) xs k (not-true (list_any (same_text x) xs) h.0))) (distinct_front xs k h.1)

-- the names of the first places are the first of all names
names_front : (us : List UserSlot) (k : ℕ) → user_names (take k us) ≡ take (length (user_names (take k us))) (user_names us)
names_front us zero = refl
names_front [] (suc k) = refl
names_front (Live name ∷ us) (suc k) = ap (λ (names : List (List ℕ)). name ∷ names) (names_front us k)
names_front (Gone ∷ us) (suc k) = names_front us k

-- ---- a valid base's first places of users and first relations

few_front : {X : Type 0} (xs : List X) (k n : ℕ) → nat_le (length xs) n ≡ true → nat_le (length (take k xs)) n ≡ true
few_front xs k n e = le-leb (length (take k xs)) n (short_front xs k n (leb-true (length xs) n e))

pub catalog_front : (c : Catalog) (j k : ℕ) → IsCatalog c → IsCatalog (record { rels = take j c.rels; users = take k c.users })
catalog_front c j k v = record {
  users_differ = ap are_distinct (names_front c.users k) ∙ distinct_front (user_names c.users) (length (user_names (take k c.users))) v.users_differ;
  users_plain = ap (list_all is_plain) (names_front c.users k) ∙ all_front is_plain (user_names c.users) (length (user_names (take k c.users))) v.users_plain;
  few_users = few_front c.users k most_users v.few_users;
  rels_differ = ap are_distinct (map_front (λ (r : RelDef). r.name) c.rels j) ∙ distinct_front (map (λ (r : RelDef). r.name) c.rels) j v.rels_differ;
  rels_valid = all_front is_valid_relation c.rels j v.rels_valid;
  few_rels = few_front c.rels j most_relations v.few_rels;
}

no_statements : List Stmt
no_statements = []

pub plain_is_valid : (c : Catalog) → IsCatalog c → IsValid c []
plain_is_valid c v = record {
  catalog = v;
  stmts = record { sorted = refl; belong = refl; no_clash = refl; few_stmts = refl; few_tuples = refl; few_worlds = refl };
}

-- ---- its first statements

-- a statement that is put behind all others stands last
put_last : (xs : List Stmt) (x : Stmt) → list_all (λ y. is_lt (statement_cmp y x)) xs ≡ true → with_statement xs x ≡ xs ++ x ∷ []
put_last [] x e = refl
put_last (y ∷ ys) x e =
    let h = and_parts (is_lt (statement_cmp y x)) (list_all (λ z. is_lt (statement_cmp z x)) ys) e in
    ap (λ r. put_at r y ys x (with_statement ys x)) (is_lt-Less (statement_cmp y x) h.0) ∙ ap (λ zs. y ∷ zs) (put_last ys x h.1)

module _ (stmts : List Stmt) (sorted : ascending statement_cmp stmts ≡ true) (k : ℕ) (x : Stmt) (l : k < length stmts) (is : x ≡ get_or stmts k x) where
  below : list_all (λ y. is_lt (statement_cmp y x)) (take k stmts) ≡ true
  below = (stands_at statement_exact stmts x k sorted (slice_get_read stmts (length stmts) k x refl l is)).below

  -- a statement in order is put behind those before it
  pub next_front : with_statement (take k stmts) x ≡ take (k + 1) stmts
  next_front = put_last (take k stmts) x below ∙ ap (λ y. take k stmts ++ y ∷ []) is ∙ sym (take_more stmts k x l)

  -- and is not among them
  pub not_before : stands (take k stmts) x ≡ false
  not_before = absent_below statement_exact x (take k stmts) below

-- ---- each front is valid

drop_last : (xs : List Stmt) (y : Stmt) → ascending statement_cmp (xs ++ y ∷ []) ≡ true → without_statement (xs ++ y ∷ []) y ≡ xs
drop_last [] y e = filter_dropped_one (λ z. not (is_eq (statement_cmp z y))) y [] (not_from_true (is_eq (statement_cmp y y)) (is_eq_itself statement_exact y))
drop_last (x ∷ xs) y e =
    let h = and_parts (list_all (λ z. is_lt (statement_cmp x z)) (xs ++ y ∷ [])) (ascending statement_cmp (xs ++ y ∷ [])) e in
    let both = and_parts (list_all (λ z. is_lt (statement_cmp x z)) xs) (is_lt (statement_cmp x y) && true) (sym (list_all-append (λ z. is_lt (statement_cmp x z)) xs (y ∷ [])) ∙ h.0) in
    let less = is_lt-Less (statement_cmp x y) (and_parts (is_lt (statement_cmp x y)) true both.1).0 in
    filter_kept_one (λ z. not (is_eq (statement_cmp z y))) x (xs ++ y ∷ []) (ap (λ r. not (is_eq r)) less) ∙ ap (λ zs. x ∷ zs) (drop_last xs y h.1)

one_less : (c : Catalog) (xs : List Stmt) (y : Stmt) → IsValid c (xs ++ y ∷ []) → IsValid c xs
one_less c xs y v = subst (IsValid c) (drop_last xs y v.stmts.sorted) (take_is_valid c (xs ++ y ∷ []) y v)

part_before : (c : Catalog) (xs ys : List Stmt) → IsValid c (xs ++ ys) → IsValid c xs
part_before c xs [] v = subst (IsValid c) (append-nil xs) v
part_before c xs (y ∷ ys) v = one_less c xs y (part_before c (xs ++ y ∷ []) ys (subst (IsValid c) (sym (append_assoc xs (y ∷ []) ys)) v))

pub front_is_valid : (c : Catalog) (stmts : List Stmt) (k : ℕ) → IsValid c stmts → IsValid c (take k stmts)
front_is_valid c stmts k v = part_before c (take k stmts) (drop k stmts) (subst (IsValid c) (sym (take-append-drop k stmts)) v)

-- ---- one statement more

module _ (b : Contents) (v : IsValid b.catalog b.stmts) (k : ℕ) (x : Stmt) (l : k < length b.stmts) (is : x ≡ get_or b.stmts k x) where
  abbrev front : ℕ → Contents
  front n = with_front b n

  stands_there : slice_get b.stmts k ≡ Some x
  stands_there = slice_get_read b.stmts (length b.stmts) k x refl l is

  pub belongs_to : belongs b.catalog x ≡ true
  belongs_to = list_all_get (belongs b.catalog) b.stmts k x v.stmts.belong stands_there

  pub next_base : with_one (front k) x ≡ front (k + 1)
  next_base = ap (with_stmts b) (next_front b.stmts v.stmts.sorted k x l is)

  pub is_fresh : stands (front k).stmts x ≡ false
  is_fresh = not_before b.stmts v.stmts.sorted k x l is

  pub no_clash_before : clash_of (front k) x ≡ None
  no_clash_before =
      let keys = key_lengths b.catalog.rels in
      let test : Stmt → Bool = λ y. same_path y.path x.path && clash keys x.tuple x.sign y.tuple y.sign in
      find_none test (take k b.stmts) (any_front test b.stmts k
      (not-true (contradicted keys b.stmts x.path x.tuple x.sign) (list_all_get (λ y. not (contradicted keys b.stmts y.path y.tuple y.sign)) b.stmts k x v.stmts.no_clash stands_there)))

  pub has_room : size_passed (counts_of (with_one (front k) x)) ≡ None
  has_room =
      let n = front_is_valid b.catalog b.stmts (k + 1) v in
      let next = front (k + 1) in
      ap (λ a. size_passed (counts_of a)) next_base
      ∙ by (nat_lt most_worlds (world_count next.stmts)) (nat_lt most_tuples (tuple_count next.stmts)) (nat_lt most_statements (length next.stmts))
      (not_more (world_count next.stmts) most_worlds n.stmts.few_worlds) (not_more (tuple_count next.stmts) most_tuples n.stmts.few_tuples) (not_more (length next.stmts) most_statements n.stmts.few_stmts)
    where
      not_more : (m top : ℕ) → nat_le m top ≡ true → nat_lt top m ≡ false
      not_more m top e = grind (arith, nat_tests)

      by : (p q r : Bool) → p ≡ false → q ≡ false → r ≡ false → (if p then Some Worlds else (if q then Some Tuples else (if r then Some Statements else None))) ≡ None
      by true q r e f g = absurd (false≢true (sym e))
      by false true r e f g = absurd (false≢true (sym f))
      by false false true e f g = absurd (false≢true (sym g))
      by false false false e f g = refl

  -- the statement may follow those before it
  pub may_follow : (t : Tables) (counts : Counts) → StoresSized t counts (front k) → MayFollow t counts x (front k)
  may_follow t counts sized = record {
    meet = record { base = sized; belongs = belongs_to };
    fresh = is_fresh;
    apart = no_clash_before;
    room = has_room;
    valid = subst (λ (y : Contents). IsValid y.catalog y.stmts) (sym next_base) (front_is_valid b.catalog b.stmts (k + 1) v);
  }

  pub has_followed : (t u : Tables) (before after : Counts) → StoresSized t before (front k) → AddsNext t u before after x → StoresSized u after (front (k + 1))
  has_followed t u before after sized added = subst (StoresSized u after) next_base (added (front k) (may_follow t before sized))

-- ---- what comes of adding it

module _ (b : Contents) (x : Stmt) (old new : Seen) (before after : Counts) (may : MayFollow old.kept before x b) where
  pub is_added : IsAdding b x old new before after (Ok New) → StoresSized new.kept after (with_one b x)
  is_added a = record { stored = a.becomes.stored; valid = may.valid; counted = a.becomes.counted }

  pub not_already : IsAdding b x old new before after (Ok Already) → ⊥
  not_already a = false≢true (sym may.fresh ∙ a.there)

  pub not_clashing : (least : Stmt) → IsAdding b x old new before after (Err (Clash least)) → ⊥
  not_clashing least a = none_is_some least (sym may.apart ∙ a.clash)

  pub not_full : (what : What) → IsAdding b x old new before after (Err (Full what)) → ⊥
  not_full what a = none_is_some what (sym may.room ∙ a.passed)
