-- A world that comes gets its rows from the world to which its suffix link leads.
use Rattle.std.proofs.Common.{◌≡◌, ◌∙◌, ℕ, ◌+◌, ◌≤◌, Bool, true, false, nat_eq, cond, List, [], ◌∷◌, ◌++◌, refl, ap, sym, subst, inl, inr, suc, arith, length, take, drop, get_or, Option, Some, None, is_some, ◌<◌, Ok}
use Rattle.std.proofs.lemmas.Bool.{cases_Bool, cond-true, cond-false, false_from_ne_true, eqb-true}
use Rattle.std.proofs.lemmas.List.{take-append-drop, take_more, take_all, drop_more}
use Rattle.std.specs.Option.{option_map}
use Rattle.std.specs.FinMap as tables
use Rattle.bdb_base.specs.Causes.{Rises}
use Rattle.bdb_base.specs.States.{is_state, deepest_suffix}
use Rattle.bdb_base.specs.declared.kinds.Stmt.{Stmt}
use Rattle.bdb_base.specs.declared.tuple.Tuple.{Tuple}
use Rattle.bdb_base.proofs.OptionLemmas.{some_of, one_there}
use Rattle.bdb_keep.specs.Seen.{Seen}
use Rattle.bdb_keep.specs.Tables.{Tables}
use Rattle.bdb_key.specs.Bytes.{num_bytes}
use Rattle.bdb_key.specs.Grammar.{IsNum}
use Rattle.bdb_paths.proofs.SuffixLemmas.{length-deepest}
use Rattle.bdb_tables.specs.Codec.{HasAt, place}
use Rattle.bdb_tables.specs.Grammar.{InGrammar}
use Rattle.bdb_tables.specs.InUse.{ValKey, val_codec, link_codec}
use Rattle.bdb_tables.specs.Marks.{Mark, mark_of}
use Rattle.bdb_tables.specs.Names.{Names, AreNames, path_of, number_of, is_named, link_of, with_name}
use Rattle.bdb_tables.specs.Rows.{HoldsRows, has_key, row_named, row_for}
use Rattle.bdb_tables.proofs.WriteLemmas.{gives_same}
use Rattle.bdb_val.specs.Settled.{HasStates}
use Rattle.bdb_val.specs.Others.{SamePlacesBut}
use Rattle.bdb_val.specs.WorldCopies.{TellsCopy, CopiesWorld, inherited_or, key_in, rows_copied}
use Rattle.bdb_val.specs.Reads.{HaveTuples}
use Rattle.bdb_val.specs.Steps.{IsChanging, counted as capped}
use Rattle.bdb_val.proofs.Calls.{HasGone, gone_then, gone_changing}
use Rattle.bdb_val.proofs.HeldLemmas.{names_are_linked}
use Rattle.bdb_worlds.proofs.ReadLemmas.{link_read}
use Rattle.bdb_update.specs.ChangeLaws.{inherited}
use Rattle.bdb_update.specs.Filling.{AreFillable, Before, HaveCome, SomeHaveCome, FillsWorlds, HasSomeLink, IsWorldFilled, names_now}
use Rattle.bdb_tables.specs.Stored.{SameBut}
use Rattle.bdb_update.proofs.PrefixLemmas.{front, next_path, every, front_free, next_length, next_named, shorter_named, next_is_new}
use Rattle.bdb_update.proofs.ReachLemmas.{plain_world_inherits}
use Rattle.bdb_update.specs.Tallies.{HasRowCount}
use Rattle.bdb_update.proofs.CallLemmas.{gone_itself}
use Rattle.bdb_update.proofs.ComeLemmas.{bare, part_count, part_few, rows_one}
use Rattle.bdb_update.proofs.TallyLemmas.{told_balance}
use Rattle.bdb_tables.proofs.SameLemmas.{same_then}
use Rattle.bdb_worlds.proofs.GrowLemmas.{push_prefixes}

-- an inherited row in place of none
inherited_only : (o : Option Mark) → inherited_or o None ≡ inherited o
inherited_only None = refl
inherited_only (Some m) = refl

-- the row of a tuple in a world that comes, over the row in the world to which its suffix link leads
row_comes : (keys : ℕ → ℕ) (stmts : List Stmt) (k : ValKey) (m : ℕ) (d p : List ℕ) → ((u : Tuple) → mark_of keys stmts p u ≡ inherited (mark_of keys stmts d u)) → (o : Option Tuple)
    → inherited_or (row_named keys stmts (key_in m k) (Some d) o) None ≡ row_named keys stmts k (Some p) o
row_comes keys stmts k m d p h None = refl
row_comes keys stmts k m d p h (Some u) = by (has_key keys k u)
  where
    by : (b : Bool) → inherited_or (cond b (mark_of keys stmts d u) None) None ≡ cond b (mark_of keys stmts p u) None
    by true = inherited_only (mark_of keys stmts d u) ∙ sym (h u)
    by false = refl

-- the first user of a path that has some
parted : (p : List ℕ) (k : ℕ) → length p ≡ suc k → (i : ℕ) × (w : List ℕ) × (p ≡ i ∷ w)
parted [] k e = absurd (omega arith)
parted (i ∷ w) k e = (i, w, refl)

module _ (s : Before) (t : Tables) (xs ys : List ℕ) (n : ℕ) (c : HaveCome s t (xs ++ n ∷ ys)) where
  pub whole : s.stood + length (xs ++ n ∷ ys) ≤ length s.path
  whole = let e = c.whole in omega arith

  abbrev all : Names
  all = every s.names s.path s.stood xs ys n c.least whole

  abbrev before : Names
  before = front s.names s.path s.stood xs ys n c.least whole

  abbrev p : List ℕ
  p = next_path s.names s.path s.stood xs ys n c.least whole

  names : AreNames all
  names = c.states.names

  -- the path of the world, in two parts
  parts : (i : ℕ) × (w : List ℕ) × (p ≡ i ∷ w)
  parts = parted p (s.stood + length xs) (next_length s.names s.path s.stood xs ys n c.least whole)

  abbrev i : ℕ
  i = parts.0

  abbrev w : List ℕ
  w = parts.1

  p_is : p ≡ i ∷ w
  p_is = parts.2

  named : path_of all n ≡ Some (i ∷ w)
  named = next_named s.names s.path s.stood xs ys n c.least whole ∙ ap Some p_is

  -- the world to which its suffix link leads
  abbrev d : List ℕ
  d = deepest_suffix (is_named all) w

  link : (m : ℕ) × (link_of all n ≡ Some m) × (path_of all m ≡ Some d)
  link = (names_are_linked all names).link n i w named

  number_fits : IsNum n
  number_fits = names.sized (i ∷ w) n (names.named n (i ∷ w) named)

  pub link_there : is_some (tables.get t (place link_codec n)) ≡ true
  link_there = ap is_some (c.states.tables.link.rows n number_fits ∙ ap (option_map num_bytes) link.1)

  pub link_is : (m : ℕ) → HasAt link_codec t n (Some m) → link_of all n ≡ Some m
  link_is m has = sym (link_read t _ _ _ c.states.tables n number_fits (Some m) has)

  module _ (now u : Tables) (m : ℕ) (rows : HoldsRows s.keys s.stmts (path_of (names_now s xs)) s.tuples.tuple now) (linked : link_of all n ≡ Some m) (copies : CopiesWorld now u m n) where
    has : HasStates s.stmts (is_named all)
    has v e = c.more v (c.old v ∙ e)

    leads : path_of all m ≡ Some d
    leads = ap (path_of all) (one_there m link.0 (link_of all n) linked link.1) ∙ link.2

    d_short : length d ≤ s.stood + length xs
    d_short =
        let a = length-deepest (is_named all) w in
        let b = ap length p_is in
        let e = next_length s.names s.path s.stood xs ys n c.least whole in
        omega arith

    led_before : path_of before m ≡ Some d
    led_before = shorter_named s.names s.path s.stood xs ys n c.least whole m d d_short leads

    no_state : is_state s.stmts (i ∷ w) ≡ false
    no_state = false_from_ne_true (is_state s.stmts (i ∷ w)) (λ e.
        let k = some_of (number_of s.names (i ∷ w)) (c.old (i ∷ w) ∙ e) in
        next_is_new s.names s.path s.stood xs ys n c.least whole names k.0 (c.names.numbered (i ∷ w) k.0 k.1 ∙ ap Some (sym p_is)))

    inherits : (v : Tuple) → mark_of s.keys s.stmts p v ≡ inherited (mark_of s.keys s.stmts d v)
    inherits v = ap (λ z. mark_of s.keys s.stmts z v) p_is ∙ plain_world_inherits s.keys s.stmts (is_named all) i w v has no_state

    abbrev rows_before : ValKey → Option Mark
    rows_before = row_for s.keys s.stmts (path_of before) s.tuples.tuple

    at_new : (k : ValKey) → k.0 ≡ n → inherited_or (rows_before (key_in m k)) (rows_before k) ≡ row_named s.keys s.stmts k (Some p) (s.tuples.tuple k.3)
    at_new k e =
        ap (λ z. inherited_or (row_named s.keys s.stmts (key_in m k) z (s.tuples.tuple k.3)) (rows_before k)) led_before
        ∙ ap (λ z. inherited_or (row_named s.keys s.stmts (key_in m k) (Some d) (s.tuples.tuple k.3)) (row_named s.keys s.stmts k z (s.tuples.tuple k.3)))
        (ap (path_of before) e ∙ front_free s.names s.path s.stood xs ys n c.least whole)
        ∙ row_comes s.keys s.stmts k m d p inherits (s.tuples.tuple k.3)

    row_is : (k : ValKey) → rows_copied rows_before m n k ≡ row_named s.keys s.stmts k (cond (nat_eq k.0 n) (Some p) (path_of before k.0)) (s.tuples.tuple k.3)
    row_is k = elim (cases_Bool (nat_eq k.0 n)) [
      | inl e ↦
          cond-true (nat_eq k.0 n) (inherited_or (rows_before (key_in m k)) (rows_before k)) (rows_before k) e
          ∙ at_new k (eqb-true k.0 n e)
          ∙ ap (λ z. row_named s.keys s.stmts k z (s.tuples.tuple k.3)) (sym (cond-true (nat_eq k.0 n) (Some p) (path_of before k.0) e))
      | inr e ↦
          cond-false (nat_eq k.0 n) (inherited_or (rows_before (key_in m k)) (rows_before k)) (rows_before k) e
          ∙ ap (λ z. row_named s.keys s.stmts k z (s.tuples.tuple k.3)) (sym (cond-false (nat_eq k.0 n) (Some p) (path_of before k.0) e))
    ]

    world_filled : HoldsRows s.keys s.stmts (path_of (with_name before n p)) s.tuples.tuple u
    world_filled = gives_same val_codec u (rows_copied rows_before m n) (row_for s.keys s.stmts (path_of (with_name before n p)) s.tuples.tuple) (λ k f. row_is k) (copies rows_before rows)

    pub one_filled : HoldsRows s.keys s.stmts (path_of (names_now s (xs ++ n ∷ []))) s.tuples.tuple u
    one_filled = subst (λ (x : Names). HoldsRows s.keys s.stmts (path_of x) s.tuples.tuple u) (sym (push_prefixes s.names s.path s.stood xs n)) world_filled

-- ---- the loop

abbrev pub rows_alone : ℕ → Bool
rows_alone n = nat_eq n 11

-- so many of the worlds have their rows, and these are so many more
pub record IsFilling (old now : Seen) (wids : List ℕ) (k count : ℕ) : Type 0 where
  pub gone : HasGone old now
  pub alone : SamePlacesBut rows_alone old.kept now.kept
  pub others : SameBut rows_alone old.kept now.kept
  pub grammar : InGrammar now.kept
  pub tuples : HaveTuples now.kept
  pub filled : (s : Before) → HaveCome s old.kept wids → HoldsRows s.keys s.stmts (path_of (names_now s (take k wids))) s.tuples.tuple now.kept
  pub counted : (s : Before) (told : List Stmt) → HaveCome s old.kept wids → AreFillable s told old.kept → (a z : ℕ) → HasRowCount old.kept a → HasRowCount now.kept z → z ≡ a + count
  pub writes : Rises count old.writes now.writes

pub filling_begins : (old : Seen) (wids : List ℕ) (count : ℕ) → count ≡ 0 → InGrammar old.kept → HaveTuples old.kept → IsFilling old old wids 0 count
filling_begins old wids count none g h = record {
  gone = gone_itself old;
  others = λ n k out. refl;
  grammar = g;
  tuples = h;
  filled = λ s c. c.rows;
  counted = λ s told c t a z x y. let e = rows_one old.kept a z x y in omega arith;
  alone = λ q out. refl;
  writes = λ small. omega arith;
}

wids_split : (wids : List ℕ) (k n : ℕ) → k < length wids → n ≡ get_or wids k 0 → wids ≡ take k wids ++ n ∷ drop (k + 1) wids
wids_split wids k n lt e = sym (take-append-drop k wids) ∙ ap (λ ys. take k wids ++ ys) (drop_more wids k 0 lt ∙ ap (λ m. m ∷ drop (k + 1) wids) (sym e))

-- what a table of links has, where the rows of worlds alone have changed
link_back : (t u : Tables) (n m : ℕ) → SameBut rows_alone t u → HasAt link_codec u n (Some m) → HasAt link_codec t n (Some m)
link_back t u n m same has = record { in_grammar = has.in_grammar; found = sym (same 7 (num_bytes n) refl) ∙ has.found }

pub has_link : (old now : Seen) (wids : List ℕ) (k n count : ℕ) → IsFilling old now wids k count → k < length wids → n ≡ get_or wids k 0 → SomeHaveCome old.kept wids → HasSomeLink now.kept n
has_link old now wids k n count f lt e some =
    let c = subst (HaveCome some.before old.kept) (wids_split wids k n lt e) some.come in
    ap is_some (f.others 7 (num_bytes n) refl) ∙ link_there some.before old.kept (take k wids) (drop (k + 1) wids) n c

module _ {T E : Type 0} (old now new : Seen) (wids : List ℕ) (k n count rows more : ℕ) (x : T) (fault : E) (f : IsFilling old now wids k count) (lt : k < length wids) (e : n ≡ get_or wids k 0)
    (filled : IsWorldFilled now.kept new.kept n) (tells : TellsCopy now new n rows) (alone : SamePlacesBut rows_alone now.kept new.kept) (written : Rises rows now.writes new.writes) (sum : more ≡ capped (count + rows))
    (grammar : InGrammar new.kept) (tuples : HaveTuples new.kept) (changing : IsChanging {T = T} {E = E} now new (Ok x) fault) where
  abbrev xs : List ℕ
  xs = take k wids

  abbrev ys : List ℕ
  ys = drop (k + 1) wids

  same_now : SameBut rows_alone old.kept new.kept
  same_now = same_then rows_alone old.kept now.kept new.kept f.others (λ m q out. alone (m ∷ q) out)

  split : (s : Before) → HaveCome s old.kept wids → HaveCome s old.kept (xs ++ n ∷ ys)
  split s c = subst (HaveCome s old.kept) (wids_split wids k n lt e) c

  taken : take (k + 1) wids ≡ xs ++ n ∷ []
  taken = take_more wids k 0 lt ∙ ap (λ z. xs ++ z ∷ []) (sym e)

  rows_more : (s : Before) → HaveCome s old.kept wids → HoldsRows s.keys s.stmts (path_of (names_now s (xs ++ n ∷ []))) s.tuples.tuple new.kept
  rows_more s c =
      let c2 = split s c in
      let m = filled.link in
      let linked = link_is s old.kept xs ys n c2 m (link_back old.kept now.kept n m f.others filled.linked) in
      one_filled s old.kept xs ys n c2 now.kept new.kept m (f.filled s c) linked filled.copied

  counted_more : (s : Before) (told : List Stmt) → HaveCome s old.kept wids → AreFillable s told old.kept → (a z : ℕ) → HasRowCount old.kept a → HasRowCount new.kept z → z ≡ a + more
  counted_more s told c t a z first last =
      let c2 = split s c in
      let c3 : HaveCome s old.kept ((xs ++ n ∷ []) ++ ys) = subst (HaveCome s old.kept) (assoc xs) c2 in
      let mid = part_count s told old.kept now.kept xs (n ∷ ys) c2 t f.others (f.filled s c) in
      let few = part_few s told old.kept now.kept xs (n ∷ ys) c2 t f.others (f.filled s c) in
      let new_count = part_count s told old.kept new.kept (xs ++ n ∷ []) ys c3 t same_now (rows_more s c) in
      let new_few = part_few s told old.kept new.kept (xs ++ n ∷ []) ys c3 t same_now (rows_more s c) in
      let same = rows_one new.kept z _ last new_count in
      let so_far = f.counted s told c t a _ first mid in
      let none = bare s (names_now s xs) now.kept n (f.filled s c) (front_free s.names s.path s.stood xs ys n c2.least (whole s old.kept xs ys n c2)) in
      let b = told_balance now new _ z rows 0 alone mid last (omega arith) (omega arith) (tells none) in
      let balance = b.balance in
      omega arith
    where
      assoc : (zs : List ℕ) → zs ++ n ∷ ys ≡ (zs ++ n ∷ []) ++ ys
      assoc [] = refl
      assoc (z ∷ zs) = ap (λ (us : List ℕ). z ∷ us) (assoc zs)

  pub filling_more : IsFilling old new wids (k + 1) more
  filling_more = record {
    gone = gone_then old now new f.gone (gone_changing now new x fault changing);
    others = same_now;
    grammar = grammar;
    tuples = tuples;
    filled = λ s c. subst (λ zs. HoldsRows s.keys s.stmts (path_of (names_now s zs)) s.tuples.tuple new.kept) (sym taken) (rows_more s c);
    counted = counted_more;
    alone = λ q out. alone q out ∙ f.alone q out;
    writes = λ small.
        let last = changing.counts.writes in
        let before = f.writes (omega arith) in
        let after = written small in
        omega arith;
  }

pub filling_ends : (old now : Seen) (wids : List ℕ) (k count : ℕ) → IsFilling old now wids k count → length wids ≤ k → FillsWorlds old.kept now.kept wids
filling_ends old now wids k count f le s c = subst (λ zs. HoldsRows s.keys s.stmts (path_of (names_now s zs)) s.tuples.tuple now.kept) (take_all k wids le) (f.filled s c)
