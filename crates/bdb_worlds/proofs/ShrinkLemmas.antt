-- Prefixes of a path that go, one after the other, the longest first.
use Rattle.std.proofs.Common.{◌≡◌, ◌∙◌, ℕ, ◌+◌, ◌-◌, ◌<◌, Bool, true, false, not, ◌&&◌, ◌||◌, nat_lt, cond, List, [], ◌∷◌, ◌++◌, refl, ap, sym, subst, inl, inr, suc, zero, arith, length, take, get_or, Option, Some, None}
use Rattle.std.specs.List.{list_all}
use Rattle.std.specs.Option.{option_map, is_some}
use Rattle.std.specs.FinMap as map
use Rattle.std.proofs.lemmas.Bool.{and_parts, and_from, and_right, or_cases, or_left, or_right, false≢true, true≢false, false_from_ne_true, cond-false, ltb-true, lt-ltb, cases_lt}
use Rattle.bdb_base.specs.Alternation.{alternates}
use Rattle.bdb_base.specs.Same.{same_path}
use Rattle.bdb_base.specs.SameLemmas.{same_path-Decides}
use Rattle.bdb_base.specs.Segments.{is_prefix}
use Rattle.bdb_base.proofs.BoolLemmas.{same_tests}
use Rattle.bdb_base.proofs.OptionLemmas.{none_is_some}
use Rattle.bdb_base.proofs.SegmentLemmas.{take_is_prefix, prefix_is_take, length-prefix}
use Rattle.bdb_keep.specs.Tables.{Tables}
use Rattle.bdb_key.specs.Bytes.{num_bytes}
use Rattle.bdb_key.specs.Grammar.{IsNum}
use Rattle.bdb_tables.specs.Codec.{place}
use Rattle.bdb_tables.specs.Explicit.{HasExplicitRow}
use Rattle.bdb_tables.specs.InUse.{link_codec, val_bytes}
use Rattle.bdb_tables.specs.Names.{Names, AreNames, path_of, number_of, is_named, without_name}
use Rattle.bdb_tables.specs.States.{HoldsStates}
use Rattle.bdb_names.proofs.NameLemmas.{is_named_by, deep_number, link_at}
use Rattle.bdb_names.proofs.Ends.{length_more}
use Rattle.bdb_worlds.specs.Dropping.{IsDroppedWithin}
use Rattle.bdb_worlds.specs.Holding.{Worlds, HoldSome}
use Rattle.bdb_worlds.specs.Reach.{LeadsDeep, HasDeepTarget}
use Rattle.bdb_worlds.specs.Shrinking.{IsNoState, AreNumbersAlong, AreAlong, without_prefixes, IsDead, AreDead, as_root, as_needed, HasShrunk, DropsStates, LeavesOthers}
use Rattle.bdb_worlds.specs.Staying.{IsNeeded, by_row, by_longer, TellsNeeded}
use Rattle.bdb_worlds.proofs.GoneLemmas.{state_is_gone}
use Rattle.bdb_worlds.proofs.GrowLemmas.{length-take-is, take_split, take_full}
use Rattle.bdb_worlds.proofs.OutsideLemmas.{SameElsewhere}
use Rattle.bdb_worlds.proofs.ReachLemmas.{ReachedTo, reached_more}
use Rattle.bdb_worlds.proofs.StayLemmas.{longer_stands}
use Rattle.bdb_worlds.proofs.WalkLemmas.{take_next}

-- ---- the numbers of a path's prefixes

get_last : (xs : List ℕ) (x : ℕ) → get_or (xs ++ x ∷ []) (length xs) 0 ≡ x
get_last [] x = refl
get_last (y ∷ xs) x = get_last xs x

get_before : (xs : List ℕ) (x k : ℕ) → k < length xs → get_or (xs ++ x ∷ []) k 0 ≡ get_or xs k 0
get_before [] x k l = absurd (omega arith)
get_before (y ∷ xs) x zero l = refl
get_before (y ∷ xs) x (suc k) l = get_before xs x k (omega arith)

-- whichever states the tables hold, the first prefixes of a path have these numbers
abbrev pub Collected : Tables → List ℕ → List ℕ → Type 0
Collected t path numbers = (s : Worlds) → HoldsStates s.users s.names t → list_all s.users path ≡ true
    → (k : ℕ) → k < length numbers → number_of s.names (take (suc k) path) ≡ Some (get_or numbers k 0)

pub collected_none : (t : Tables) (path numbers : List ℕ) → numbers ≡ [] → Collected t path numbers
collected_none t path numbers e s h own k l = let n = ap length e in absurd (omega arith)

pub collected_more : (t : Tables) (path numbers more : List ℕ) (len wid : ℕ) → length numbers ≡ len → more ≡ numbers ++ wid ∷ [] → Collected t path numbers → ReachedTo t path (len + 1) wid → Collected t path more
collected_more t path numbers more len wid count e so_far reached = subst (Collected t path) (sym e) all
  where
    all : Collected t path (numbers ++ wid ∷ [])
    all s h own k l = elim (cases_lt k (length numbers)) [
      | inl b ↦ so_far s h own k b ∙ ap Some (sym (get_before numbers wid k b))
      | inr b ↦
          let n = length_more numbers wid in
          let last : k ≡ length numbers = omega arith in
          let here : suc k ≡ len + 1 = omega arith in
          ap (λ j. number_of s.names (take j path)) here ∙ reached s h own ∙ ap Some (sym (get_last numbers wid) ∙ ap (λ j. get_or (numbers ++ wid ∷ []) j 0) (sym last))
    ]

pub along_whole : (t : Tables) (path numbers : List ℕ) → length numbers ≡ length path → Collected t path numbers → AreAlong t path numbers
along_whole t path numbers e all s h own = record { whole = e; each = all s h own }

pub deep_at : (t u : Tables) (wid uid depth : ℕ) (o q : Option ℕ) → u ≡ t → o ≡ q → HasDeepTarget u wid uid depth o → HasDeepTarget t wid uid depth q
deep_at t u wid uid depth o q e f h = subst (HasDeepTarget t wid uid depth) f (subst (λ x. HasDeepTarget x wid uid depth o) e h)

module _ (t : Tables) (path : List ℕ) (len wid : ℕ) (apart : alternates path ≡ true) (short : len < length path) (so_far : ReachedTo t path len wid) where
  pub deep_reached : (target : ℕ) → HasDeepTarget t wid (get_or path len 0) (len + 1) (Some target) → ReachedTo t path (len + 1) target
  deep_reached target leads = reached_more t path len wid apart short so_far target leads.edge (len + 1) leads.deep refl

  pub deep_ends : HasDeepTarget t wid (get_or path len 0) (len + 1) None → IsNoState t path
  deep_ends none s h own = false_from_ne_true (is_named s.names path) (λ named.
      let q = take len path in
      let i = get_or path len 0 in
      let r = take_split path (len + 1) (length path) (omega arith) in
      let begins : path ≡ take (len + 1) path ++ r.0 = sym (take_full path (length path) refl) ∙ r.1 in
      let there : is_named s.names (q ++ i ∷ []) ≡ true =
      ap (is_named s.names) (sym (take_next path len short)) ∙ h.names.prefixes (take (len + 1) path) r.0 (ap (is_named s.names) (sym begins) ∙ named) in
      let at = longer_stands s t h q wid (so_far s h own) i there in
      let deep : length q + 1 ≡ len + 1 = ap (λ n. n + 1) (length-take-is path len (omega arith)) in
      none at.target (subst (λ d. LeadsDeep t wid i d at.target) deep at.deep))

along_named : (ns : Names) (path numbers : List ℕ) → AreNames ns → AreNumbersAlong ns path numbers → is_named ns path ≡ true
along_named ns [] numbers a h = ap is_some a.root
along_named ns (x ∷ w) numbers a h =
    let e = h.whole in
    let n = h.each (length w) (omega arith) in
    is_named_by ns (x ∷ w) (get_or numbers (length w) 0) (ap (number_of ns) (sym (take_full (x ∷ w) (suc (length w)) refl)) ∙ n)

-- ---- names without prefixes, one more

push_gone : (ns : Names) (path : List ℕ) (len : ℕ) (gone : List ℕ) (n : ℕ)
    → without_prefixes ns path len (gone ++ n ∷ []) ≡ without_name (without_prefixes ns path len gone) n (take (len - length gone) path)
push_gone ns path len [] n = let e : len ≡ len - 0 = omega arith in ap (λ k. without_name ns n (take k path)) e
push_gone ns path len (m ∷ gone) n =
    let e : len - 1 - length gone ≡ len - suc (length gone) = omega arith in
    push_gone (without_name ns m (take len path)) path (len - 1) gone n
    ∙ ap (λ k. without_name (without_prefixes (without_name ns m (take len path)) path (len - 1) gone) n (take k path)) e

push_dead : (t : Tables) (ns : Names) (path : List ℕ) (len : ℕ) (gone : List ℕ) (n : ℕ) → AreDead t ns path len gone
    → IsDead t (without_prefixes ns path len gone) (take (len - length gone) path) n → AreDead t ns path len (gone ++ n ∷ [])
push_dead t ns path len [] n all last = let e : len - 0 ≡ len = omega arith in (subst (λ k. IsDead t ns (take k path) n) e last, tt)
push_dead t ns path len (m ∷ gone) n all last =
    let e : len - suc (length gone) ≡ len - 1 - length gone = omega arith in
    (all.0, push_dead t (without_name ns m (take len path)) path (len - 1) gone n all.1 (subst (λ k. IsDead t (without_prefixes (without_name ns m (take len path)) path (len - 1) gone) (take k path) n) e last))

abbrev no_number : Option ℕ
no_number = None

named_less : (ns : Names) (n : ℕ) (p w : List ℕ) → is_named (without_name ns n p) w ≡ (is_named ns w && not (same_path w p))
named_less ns n p w = by (same_path w p) (ns.number w)
  where
    by_one : (b : Bool) → b ≡ (b && true)
    by_one true = refl
    by_one false = refl

    by : (b : Bool) (o : Option ℕ) → is_some (cond b no_number o) ≡ (is_some o && not b)
    by true o = sym (and_right (is_some o) false refl)
    by false o = by_one (is_some o)

-- ---- explicit rows stay

explicit_back : (t u : Tables) (n : ℕ) → SameElsewhere t u → HasExplicitRow u n → HasExplicitRow t n
explicit_back t u n same x = record {
  key = x.key;
  sign = x.sign;
  fits = x.fits;
  world = x.world;
  row = record { in_grammar = x.row.in_grammar; found = sym (same 11 (val_bytes x.key) refl) ∙ x.row.found };
}

explicit_still : (t u : Tables) (n : ℕ) → SameElsewhere t u → HasExplicitRow t n → HasExplicitRow u n
explicit_still t u n same x = record {
  key = x.key;
  sign = x.sign;
  fits = x.fits;
  world = x.world;
  row = record { in_grammar = x.row.in_grammar; found = same 11 (val_bytes x.key) refl ∙ x.row.found };
}

needed_back : (t u : Tables) (ns : Names) (p : List ℕ) (n : ℕ) → SameElsewhere t u → IsNeeded u ns p n → IsNeeded t ns p n
needed_back t u ns p n same (by_row x) = by_row (explicit_back t u n same x)
needed_back t u ns p n same (by_longer x) = by_longer x

needed_still : (t u : Tables) (ns : Names) (p : List ℕ) (n : ℕ) → SameElsewhere t u → IsNeeded t ns p n → IsNeeded u ns p n
needed_still t u ns p n same (by_row x) = by_row (explicit_still t u n same x)
needed_still t u ns p n same (by_longer x) = by_longer x

-- ---- the loop

-- so many users of the path are left, and what was longer has gone
pub record IsShrinking (s : Worlds) (t u : Tables) (path numbers gone : List ℕ) (left : ℕ) : Type 0 where
  pub whole : left + length gone ≡ length path
  pub states : HoldsStates s.users (without_prefixes s.names path (length path) gone) u
  pub paths : (w : List ℕ) → is_named (without_prefixes s.names path (length path) gone) w ≡ (is_named s.names w && not (is_prefix w path && nat_lt left (length w)))
  pub dead : AreDead t s.names path (length path) gone
  pub each : (k : ℕ) → k < left → number_of (without_prefixes s.names path (length path) gone) (take (suc k) path) ≡ Some (get_or numbers k 0)

abbrev pub Shrinking : Tables → Tables → List ℕ → List ℕ → List ℕ → ℕ → Type 0
Shrinking t u path numbers gone left = (s : Worlds) → HoldsStates s.users s.names t → list_all s.users path ≡ true → IsShrinking s t u path numbers gone left

pub shrinking_begins : (t : Tables) (path numbers gone : List ℕ) (left : ℕ) → gone ≡ [] → left ≡ length numbers → AreAlong t path numbers → Shrinking t t path numbers gone left
shrinking_begins t path numbers gone left none all along s h own = subst (λ x. IsShrinking s t t path numbers x left) (sym none) begins
  where
    a : AreNumbersAlong s.names path numbers
    a = along s h own

    begins : IsShrinking s t t path numbers [] left
    begins = record {
      whole = let w = a.whole in omega arith;
      states = h;
      paths = λ w. stays (is_named s.names w) (is_prefix w path && nat_lt left (length w)) (false_from_ne_true (is_prefix w path && nat_lt left (length w)) (λ x.
          let k = and_parts (is_prefix w path) (nat_lt left (length w)) x in
          let l = length-prefix w path k.0 in
          let m = ltb-true left (length w) k.1 in
          let n = a.whole in
          absurd (omega arith)));
      dead = tt;
      each = λ k l. a.each k (omega arith);
    }
      where
        stays : (a b : Bool) → b ≡ false → a ≡ (a && not b)
        stays a true e = absurd (true≢false e)
        stays true false e = refl
        stays false false e = refl

combine : (a x y z : Bool) → (x || y) ≡ z → ((a && not x) && not y) ≡ (a && not z)
combine false x y z e = refl
combine true true y z e = ap not e
combine true false y z e = ap not e

module _ (t u : Tables) (path numbers gone : List ℕ) (left : ℕ) (some : 0 < left) (outside : SameElsewhere t u) (shrinking : Shrinking t u path numbers gone left) where
  abbrev p : List ℕ
  p = take left path

  module _ (s : Worlds) (h : HoldsStates s.users s.names t) (own : list_all s.users path ≡ true) where
    now : IsShrinking s t u path numbers gone left
    now = shrinking s h own

    abbrev ms : Names
    ms = without_prefixes s.names path (length path) gone

    abbrev ws : Worlds
    ws = record { users = s.users; names = without_prefixes s.names path (length path) gone }

    long : length p ≡ left
    long = let w = now.whole in length-take-is path left (omega arith)

    not_empty : p ≡ [] → ⊥
    not_empty e = let l = ap length e in let k = long in absurd (omega arith)

    module _ (n at : ℕ) (here : left ≡ at + 1) (is : n ≡ get_or numbers at 0) where
      pub number : number_of ms p ≡ Some n
      number = let e : left ≡ suc at = omega arith in ap (λ k. number_of ms (take k path)) e ∙ now.each at (omega arith) ∙ ap Some (sym is)

      pub link_there : is_some (map.get u (place link_codec n)) ≡ true
      link_there = by (path_of ms n) refl
        where
          size : IsNum n
          size = now.states.names.sized p n number

          path_is : path_of ms n ≡ Some p
          path_is = now.states.names.numbered p n number

          by : (o : Option (List ℕ)) → path_of ms n ≡ o → is_some (map.get u (place link_codec n)) ≡ true
          by None e = absurd (none_is_some p (sym e ∙ path_is))
          by (Some []) e = let f : Some [] ≡ Some p = sym e ∙ path_is in let g : p ≡ [] = cc in absurd (not_empty g)
          by (Some (a ∷ x)) e =
              let target = deep_number ms now.states.names x in
              ap is_some (now.states.tables.link.rows n size ∙ ap (option_map num_bytes) (link_at ms n a x e ∙ target.1))

      -- the next one stays
      pub shrunk_here : (deeper : ℕ) → deeper ≡ left + 1 → TellsNeeded u n deeper true → HasShrunk s t u path gone
      shrunk_here deeper deep needed = record {
        left = left;
        whole = now.whole;
        states = now.states;
        paths = now.paths;
        dead = now.dead;
        stays = as_needed n number (needed_back t u ms p n outside (needed ws p now.states number (let l = long in omega arith)));
      }

      module _ (deeper : ℕ) (deep : deeper ≡ left + 1) (needless : TellsNeeded u n deeper false) (v : Tables) (before after : ℕ) (dropped : IsDroppedWithin u v n before after) where
        free : IsNeeded u ms p n → ⊥
        free = needless ws p now.states number (let l = long in omega arith)

        pub not_longer : (i : ℕ) → is_named ms (p ++ i ∷ []) ≡ false
        not_longer i = false_from_ne_true (is_named ms (p ++ i ∷ [])) (λ e. free (by_longer (record { user = i; named = e })))

        held : HoldsStates s.users (without_name ms n p) v
        held = state_is_gone ws u v n now.states dropped.state p number not_empty not_longer

        is_dead : IsDead t ms p n
        is_dead = record { number = number; some = not_empty; needless = λ x. free (needed_still t u ms p n outside x) }

        place_is : length path - length gone ≡ left
        place_is = let w = now.whole in omega arith

        pub names_are : without_prefixes s.names path (length path) (gone ++ n ∷ []) ≡ without_name ms n p
        names_are = push_gone s.names path (length path) gone n ∙ ap (λ k. without_name ms n (take k path)) place_is

        tests : (w : List ℕ) → ((is_prefix w path && nat_lt left (length w)) || same_path w p) ≡ (is_prefix w path && nat_lt at (length w))
        tests w = same_tests ((is_prefix w path && nat_lt left (length w)) || same_path w p) (is_prefix w path && nat_lt at (length w)) there back
          where
            there : ((is_prefix w path && nat_lt left (length w)) || same_path w p) ≡ true → (is_prefix w path && nat_lt at (length w)) ≡ true
            there e = elim (or_cases (is_prefix w path && nat_lt left (length w)) (same_path w p) e) [
              | inl a ↦
                  let k = and_parts (is_prefix w path) (nat_lt left (length w)) a in
                  let l = ltb-true left (length w) k.1 in
                  and_from (is_prefix w path) (nat_lt at (length w)) k.0 (lt-ltb at (length w) (omega arith))
              | inr a ↦
                  let same = (same_path-Decides w p).0 a in
                  let l = ap length same in
                  let k = long in
                  and_from (is_prefix w path) (nat_lt at (length w)) (ap (λ x. is_prefix x path) same ∙ take_is_prefix path left) (lt-ltb at (length w) (omega arith))
            ]

            back : (is_prefix w path && nat_lt at (length w)) ≡ true → ((is_prefix w path && nat_lt left (length w)) || same_path w p) ≡ true
            back e =
                let k = and_parts (is_prefix w path) (nat_lt at (length w)) e in
                let l = ltb-true at (length w) k.1 in
                elim (cases_lt left (length w)) [
                  | inl a ↦ or_left (is_prefix w path && nat_lt left (length w)) (same_path w p) (and_from (is_prefix w path) (nat_lt left (length w)) k.0 (lt-ltb left (length w) a))
                  | inr a ↦
                      let e : length w ≡ left = omega arith in
                      or_right (is_prefix w path && nat_lt left (length w)) (same_path w p) ((same_path-Decides w p).1 (prefix_is_take w path k.0 ∙ ap (λ n. take n path) e))
                ]

        pub shrunk_more : (more : List ℕ) → more ≡ gone ++ n ∷ [] → IsShrinking s t v path numbers more at
        shrunk_more more e = subst (λ x. IsShrinking s t v path numbers x at) (sym e) record {
          whole = let w = now.whole in let l = length_more gone n in omega arith;
          states = subst (λ x. HoldsStates s.users x v) (sym names_are) held;
          paths = λ w.
              ap (λ x. is_named x w) names_are ∙ named_less ms n p w ∙ ap (λ b. b && not (same_path w p)) (now.paths w)
              ∙ combine (is_named s.names w) (is_prefix w path && nat_lt left (length w)) (same_path w p) (is_prefix w path && nat_lt at (length w)) (tests w);
          dead = push_dead t s.names path (length path) gone n now.dead (subst (λ k. IsDead t ms (take k path) n) (sym place_is) is_dead);
          each = λ k l.
              let w = now.whole in
              let short = length-take-is path (suc k) (omega arith) in
              let differs : same_path (take (suc k) path) p ≡ false = false_from_ne_true (same_path (take (suc k) path) p) (λ x.
              let e = ap length ((same_path-Decides (take (suc k) path) p).0 x) in let m = long in absurd (omega arith)) in
              ap (λ x. number_of x (take (suc k) path)) names_are ∙ cond-false (same_path (take (suc k) path) p) no_number (number_of ms (take (suc k) path)) differs ∙ now.each k (omega arith);
        }

  pub shrinking_stops : (n at deeper : ℕ) → left ≡ at + 1 → n ≡ get_or numbers at 0 → deeper ≡ left + 1 → TellsNeeded u n deeper true → DropsStates t u path gone
  shrinking_stops n at deeper here is deep needed s h own named = shrunk_here s h own n at here is deeper deep needed

  pub shrinking_more : (n at deeper : ℕ) → left ≡ at + 1 → n ≡ get_or numbers at 0 → deeper ≡ left + 1 → TellsNeeded u n deeper false → (v : Tables) (before after : ℕ) → IsDroppedWithin u v n before after
      → (more : List ℕ) → more ≡ gone ++ n ∷ [] → Shrinking t v path numbers more at
  shrinking_more n at deeper here is deep needless v before after dropped more e s h own = shrunk_more s h own n at here is deeper deep needless v before after dropped more e

  pub link_is_there : HoldSome t path → (n at : ℕ) → left ≡ at + 1 → n ≡ get_or numbers at 0 → is_some (map.get u (place link_codec n)) ≡ true
  link_is_there some n at here is = link_there some.worlds some.states some.own n at here is

pub shrinking_ends : (t u : Tables) (path numbers gone : List ℕ) (left : ℕ) → left ≡ 0 → Shrinking t u path numbers gone left → DropsStates t u path gone
shrinking_ends t u path numbers gone left none shrinking s h own named =
    let now = shrinking s h own in
    record {
      left = left;
      whole = now.whole;
      states = now.states;
      paths = now.paths;
      dead = now.dead;
      stays = as_root (ap (λ k. take k path) none);
    }

-- ---- tables that are the same

pub shrinking_at : (t u v : Tables) (path numbers gone : List ℕ) (left : ℕ) → v ≡ u → Shrinking t u path numbers gone left → Shrinking t v path numbers gone left
shrinking_at t u v path numbers gone left e h = subst (λ x. Shrinking t x path numbers gone left) (sym e) h

pub needed_then : (t u : Tables) (n deeper : ℕ) (b c : Bool) → u ≡ t → b ≡ c → TellsNeeded u n deeper b → TellsNeeded t n deeper c
needed_then t u n deeper b c e f h = subst (TellsNeeded t n deeper) f (subst (λ x. TellsNeeded x n deeper b) e h)

pub dropped_then : (t u v : Tables) (n before now : ℕ) → u ≡ t → IsDroppedWithin u v n before now → IsDroppedWithin t v n before now
dropped_then t u v n before now e h = subst (λ x. IsDroppedWithin x v n before now) e h

pub drops_at : (t u v : Tables) (path gone : List ℕ) → u ≡ t → DropsStates u v path gone → DropsStates t v path gone
drops_at t u v path gone e h = subst (λ x. DropsStates x v path gone) e h

pub drops_ends : (t u v : Tables) (path gone : List ℕ) → v ≡ u → DropsStates t u path gone → DropsStates t v path gone
drops_ends t u v path gone e h = subst (λ x. DropsStates t x path gone) (sym e) h

-- where a path is no state, nothing went
pub none_dropped : (t u : Tables) (path gone : List ℕ) → IsNoState t path → DropsStates t u path gone
none_dropped t u path gone none s h own named = absurd (false≢true (sym (none s h own) ∙ named))

pub none_went : (t u : Tables) (path gone : List ℕ) → gone ≡ [] → u ≡ t → LeavesOthers t u path gone
none_went t u path gone none same s h own other = record { none = none; kept = same }

pub whole_went : (t u : Tables) (path numbers gone : List ℕ) → AreAlong t path numbers → LeavesOthers t u path gone
whole_went t u path numbers gone along s h own other = absurd (false≢true (sym other ∙ along_named s.names path numbers h.names (along s h own)))
