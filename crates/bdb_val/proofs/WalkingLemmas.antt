-- A walk as the code goes on with it.
use Rattle.std.proofs.Common.{◌≡◌, ◌∙◌, ℕ, ◌+◌, ◌≤◌, List, [], ◌∷◌, ◌++◌, ◌⊎◌, length, drop, filter, Option, inl, inr, refl, ap, sym, subst, arith}
use Rattle.std.specs.List.{AllByRecursion}
use Rattle.std.specs.FinMap as tables
use Rattle.std.proofs.lemmas.List.{append-nil, length-append, map-append, drop-append-le}
use Rattle.bdb_base.specs.Causes.{Rises}
use Rattle.bdb_base.specs.declared.kinds.Stmt.{Stmt}
use Rattle.bdb_base.specs.declared.kinds.Value.{Value}
use Rattle.bdb_base.specs.declared.tuple.Tuple.{Tuple}
use Rattle.bdb_base.proofs.AllLemmas.{all_append}
use Rattle.bdb_keep.specs.Seen.{Seen}
use Rattle.bdb_keep.specs.Tables.{Tables}
use Rattle.bdb_key.specs.Grammar.{IsNum, AreKeyVals}
use Rattle.bdb_tables.specs.Differences.{AreDifferences}
use Rattle.bdb_tables.specs.Grammar.{InGrammar}
use Rattle.bdb_tables.specs.InUse.{ValKey, val_codec}
use Rattle.bdb_tables.specs.Marks.{Mark}
use Rattle.bdb_tables.specs.Names.{Names}
use Rattle.bdb_tables.specs.Writes.{with_rows_at}
use Rattle.bdb_tables.specs.GroupMarks.{group_bytes}
use Rattle.bdb_val.specs.Counts.{has_none, TellsDifferences}
use Rattle.bdb_val.specs.Groups.{HasLinks, IsUnsettled}
use Rattle.bdb_val.specs.Middle.{worlds_of}
use Rattle.bdb_val.specs.Others.{SamePlacesBut}
use Rattle.bdb_val.specs.Reads.{HaveTuples, is_of_group}
use Rattle.bdb_val.specs.Stated.{WhereStated}
use Rattle.bdb_val.specs.Steps.{counted}
use Rattle.bdb_val.specs.Visits.{IsFirstVisit, IsNextVisit}
use Rattle.bdb_val.specs.Walks.{AreLinkedTo, IsQuiet, Walked, changes_of, put_by, taken_by}
use Rattle.bdb_val.specs.Walks.Walked.{first, next}
use Rattle.bdb_val.specs.declared.stored.Settled.{Settled}
use Rattle.bdb_val.specs.declared.stored.SettledWorld.{SettledWorld}
use Rattle.bdb_val.proofs.Calls.{HasGone, gone_then}
use Rattle.bdb_val.proofs.LinkLemmas.{IsLink, worlds_with, linked_to, links_are, still_link}
use Rattle.bdb_val.proofs.OtherLemmas.{is_rows}
use Rattle.bdb_val.proofs.ReadLemmas.{group_span}
use Rattle.bdb_val.proofs.WalkLemmas.{is_group, walk_on_way}

-- how far a walk has come: its changes are made, each by one write
pub record IsWalked (keys : ℕ → ℕ) (old now : Seen) (prefix : ℕ → List ℕ) (start : ℕ) (list : List (ℕ × ℕ)) (total : Settled) : Type 0 where
  pub made : List (ValKey × Option Mark)
  pub put : ℕ
  pub taken : ℕ
  pub walked : Walked keys prefix old.kept start now.kept (worlds_with list) made put taken
  pub links : AllByRecursion (IsLink old.kept) list
  pub put_is : total.put ≡ counted put
  pub taken_is : total.taken ≡ counted taken
  pub writes : Rises (length made) old.writes now.writes

-- a walk goes on: this far it has come, whichever statements and lengths of keys they are where only a group was
-- not settled
pub record IsWalking (old now : Seen) (rel : ℕ) (v : List Value) (start : ℕ) (list : List (ℕ × ℕ)) (total : Settled) : Type 0 where
  pub gone : HasGone old now
  pub grammar : InGrammar now.kept
  pub tuples : HaveTuples now.kept
  pub others : SamePlacesBut is_rows old.kept now.kept
  pub walked : (keys : ℕ → ℕ) (stmts : List Stmt) (ns : Names) (tuple : ℕ → Option Tuple) (f : ValKey → Option Mark) → IsUnsettled keys stmts ns tuple f old.kept start (is_of_group keys rel v)
      → IsWalked keys old now (λ w. group_bytes w rel v) start list total

counted_both : (a b m n : ℕ) → a ≡ counted m → b ≡ n → counted (a + b) ≡ counted (m + n)
counted_both a b m n e f = omega arith

-- the first visit
first_walked : (keys : ℕ → ℕ) (ns : Names) (old new : Seen) (prefix : ℕ → List ℕ) (start : ℕ) (before list : List (ℕ × ℕ)) (s : SettledWorld) (sum : Settled) → HasLinks ns old.kept → SamePlacesBut is_rows old.kept new.kept
    → sum.put ≡ counted s.put → sum.taken ≡ counted s.taken → before ≡ [] → IsFirstVisit keys old new prefix start before list s → IsWalked keys old new prefix start list sum
first_walked keys ns old new prefix start before list s sum links same p q none v =
    let more = v.pushed.more in
    let is : list ≡ more = v.pushed.list ∙ ap (λ (xs : List (ℕ × ℕ)). xs ++ more) none in
    record {
      made = changes_of v.visit;
      put = put_by v.visit;
      taken = taken_by v.visit;
      walked = subst (λ xs. Walked keys prefix old.kept start new.kept xs (changes_of v.visit) (put_by v.visit) (taken_by v.visit)) (sym (ap worlds_with is))
          (first new.kept (worlds_with more) v.visit (linked_to new.kept start more v.pushed.linked));
      links = subst (AllByRecursion (IsLink old.kept)) (sym is) (links_are ns old.kept new.kept links same start more v.pushed.linked);
      put_is = p ∙ ap counted v.told.put;
      taken_is = q ∙ ap counted v.told.taken;
      writes = v.told.writes;
    }

pub walk_begins : (old new : Seen) (rel : ℕ) (v : List Value) (start : ℕ) (before list : List (ℕ × ℕ)) (s : SettledWorld) (sum : Settled) → HasGone old new → InGrammar new.kept → HaveTuples new.kept → SamePlacesBut is_rows old.kept new.kept
    → sum.put ≡ counted s.put → sum.taken ≡ counted s.taken → before ≡ [] → WhereStated old.kept (λ keys. IsFirstVisit keys old new (λ w. group_bytes w rel v) start before list s) → IsWalking old new rel v start list sum
walk_begins old new rel v start before list s sum gone grammar tuples others p q none visit = record {
  gone = gone;
  grammar = grammar;
  tuples = tuples;
  others = others;
  walked = λ keys stmts ns tuple f h. first_walked keys ns old new (λ w. group_bytes w rel v) start before list s sum h.links others p q none (visit keys stmts (worlds_of ns) tuple f h.explicit);
}

rises_then : (m n a b c : ℕ) → a ≤ b → b ≤ c → Rises m a b → Rises n b c → Rises (m + n) a c
rises_then m n a b c p q r s below =
    let e : c ≡ b + n = s below in
    let f : b ≡ a + m = r (omega arith) in
    omega arith

-- what is told after a read is told of the tables before it
pub told_back : (old mid new : Seen) (put taken : ℕ) → mid.kept ≡ old.kept → mid.writes ≡ old.writes → TellsDifferences mid new put taken → TellsDifferences old new put taken
told_back old mid new put taken k w h ps d =
    let x = h ps (subst (λ (t : Tables). AreDifferences (tables.get t) (tables.get new.kept) ps) (sym k) d) in
    record {
      writes = subst (λ n. Rises (length ps) n new.writes) w x.writes;
      came = x.came ∙ ap (λ (t : Tables). counted (length (filter (has_none t) ps))) k;
      went = x.went;
    }

-- a visit that puts links at the end of a list puts them at the end of what is left of it
pub left_of_visit : (keys : ℕ → ℕ) (old new : Seen) (prefix : ℕ → List ℕ) (wid n : ℕ) (before after : List (ℕ × ℕ)) (s : SettledWorld) → n ≤ length before → IsNextVisit keys old new prefix wid before after s
    → IsNextVisit keys old new prefix wid (drop n before) (drop n after) s
left_of_visit keys old new prefix wid n before after s le v = record {
  visit = v.visit;
  told = v.told;
  pushed = elim v.pushed [
    | inl k ↦ inl (ap (drop n) k.0, k.1)
    | inr k ↦ inr (record { more = k.more; linked = k.linked; list = ap (drop n) k.list ∙ drop-append-le n before k.more le })
  ];
}

-- one visit more
next_walked : (keys : ℕ → ℕ) (ns : Names) (old now new : Seen) (prefix : ℕ → List ℕ) (start : ℕ) (at : ℕ × ℕ) (list left after : List (ℕ × ℕ)) (total : Settled) (s : SettledWorld) (sum : Settled) → HasLinks ns old.kept → SamePlacesBut is_rows old.kept new.kept
    → HasGone old now → HasGone now new → IsWalked keys old now prefix start list total → AllByRecursion (IsLink old.kept) left
    → list ≡ at ∷ left → IsNextVisit keys now new prefix at.0 left after s → sum.put ≡ counted (total.put + s.put) → sum.taken ≡ counted (total.taken + s.taken) → IsWalked keys old new prefix start after sum
next_walked keys ns old now new prefix start at list left after total s sum links same before gone w behind is v p q =
    let walked : Walked keys prefix old.kept start now.kept (at.0 ∷ worlds_with left) w.made w.put w.taken =
    subst (λ xs. Walked keys prefix old.kept start now.kept xs w.made w.put w.taken) (ap worlds_with is) w.walked in
    let goes = λ (more : List ℕ) (e : worlds_with after ≡ worlds_with left ++ more) (l : ((more ≡ []) × IsQuiet v.visit) ⊎ AreLinkedTo new.kept at.0 more).
    subst (λ xs. Walked keys prefix old.kept start new.kept xs (w.made ++ changes_of v.visit) (w.put + put_by v.visit) (w.taken + taken_by v.visit)) (sym e)
    (next now.kept new.kept at.0 (worlds_with left) more w.made w.put w.taken walked v.visit l) in
    record {
      made = w.made ++ changes_of v.visit;
      put = w.put + put_by v.visit;
      taken = w.taken + taken_by v.visit;
      walked = elim v.pushed [
        | inl k ↦ goes [] (ap worlds_with k.0 ∙ sym (append-nil (worlds_with left))) (inl (refl, k.1))
        | inr k ↦ goes (worlds_with k.more) (ap worlds_with k.list ∙ map-append (λ (x : ℕ × ℕ). x.0) left k.more) (inr (linked_to new.kept at.0 k.more k.linked))
      ];
      links = elim v.pushed [
        | inl k ↦ subst (AllByRecursion (IsLink old.kept)) (sym k.0) behind
        | inr k ↦ subst (AllByRecursion (IsLink old.kept)) (sym k.list) (all_append (IsLink old.kept) left k.more behind (links_are ns old.kept new.kept links same at.0 k.more k.linked))
      ];
      put_is = p ∙ counted_both total.put s.put w.put (put_by v.visit) w.put_is v.told.put;
      taken_is = q ∙ counted_both total.taken s.taken w.taken (taken_by v.visit) w.taken_is v.told.taken;
      writes = subst (λ n. Rises n old.writes new.writes) (sym (length-append w.made (changes_of v.visit)))
          (rises_then (length w.made) (length (changes_of v.visit)) old.writes now.writes new.writes before.counts.writes gone.counts.writes w.writes v.told.writes);
    }

pub walk_more : (old now new : Seen) (rel : ℕ) (v : List Value) (start : ℕ) (at : ℕ × ℕ) (list left after : List (ℕ × ℕ)) (total : Settled) (s : SettledWorld) (sum : Settled) → IsNum rel → AreKeyVals v → IsWalking old now rel v start list total
    → list ≡ at ∷ left → HasGone now new → InGrammar new.kept → HaveTuples new.kept → SamePlacesBut is_rows now.kept new.kept
    → (IsLink now.kept at → WhereStated now.kept (λ keys. IsNextVisit keys now new (λ w. group_bytes w rel v) at.0 left after s))
    → sum.put ≡ counted (total.put + s.put) → sum.taken ≡ counted (total.taken + s.taken) → IsWalking old new rel v start after sum
walk_more old now new rel v start at list left after total s sum r plain w is gone grammar tuples others visit p q =
    let same : SamePlacesBut is_rows old.kept new.kept = λ place out. others place out ∙ w.others place out in
    record {
      gone = gone_then old now new w.gone gone;
      grammar = grammar;
      tuples = tuples;
      others = same;
      walked = λ keys stmts ns tuple f h.
          let k = w.walked keys stmts ns tuple f h in
          let prefix = λ (m : ℕ). group_bytes m rel v in
          let way = walk_on_way keys stmts ns tuple (is_of_group keys rel v) prefix h.names (λ m n. group_span keys h.explicit.rows.lengths m rel v n r plain) (is_group keys rel v) f old.kept start h now.kept (worlds_with list) k.made k.put k.taken k.walked in
          let parts = subst (AllByRecursion (IsLink old.kept)) is k.links in
          let seen = visit (still_link old.kept now.kept w.others at parts.0) keys stmts (worlds_of ns) tuple (with_rows_at val_codec f k.made) way.explicit in
          next_walked keys ns old now new prefix start at list left after total s sum h.links same w.gone gone k parts.1 is seen p q;
    }
