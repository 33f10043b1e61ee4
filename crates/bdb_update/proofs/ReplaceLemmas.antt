-- Statements go, and others come, one after the other.
use Rattle.std.proofs.Common.{◌≡◌, ◌∙◌, ℕ, ◌+◌, ◌≤◌, ◌<◌, Bool, true, false, nat_lt, List, [], ◌∷◌, ◌++◌, Some, None, Ok, Err, refl, ap, sym, subst, inl, inr, arith, length, drop, get_or}
use Rattle.std.specs.Prelude.{if◌then◌else◌}
use Rattle.std.specs.List.{list_any, list_all}
use Rattle.std.specs.Ordering.{is_eq}
use Rattle.std.proofs.lemmas.Bool.{cases_Bool, and_parts, or_cases, or_left, or_right, false≢true, leb-true, ltb-true}
use Rattle.bdb_base.specs.Bases.{Contents, IsValid, belongs, key_lengths, stands, tuple_count, world_count, with_statement, without_statement}
use Rattle.bdb_base.specs.Changes.{with_statements, without_statements}
use Rattle.bdb_base.specs.Laws.{ClashesAt}
use Rattle.bdb_base.specs.Limits.{most_statements, most_tuples, most_worlds}
use Rattle.bdb_base.specs.Order.{statement_cmp}
use Rattle.bdb_base.specs.OrderLemmas.{statement_exact}
use Rattle.bdb_base.specs.Same.{same_statement}
use Rattle.bdb_base.specs.declared.kinds.Catalog.{Catalog}
use Rattle.bdb_base.specs.declared.kinds.Stmt.{Stmt}
use Rattle.bdb_base.specs.declared.kinds.What.{What}
use Rattle.bdb_base.specs.declared.kinds.What.TheVariants.{Worlds, Tuples, Statements}
use Rattle.bdb_base.specs.Causes.{Rose}
use Rattle.bdb_base.proofs.BaseLemmas.{take_is_valid}
use Rattle.bdb_base.proofs.FirstLemmas.{statement_explicit, same_statement_itself}
use Rattle.bdb_base.proofs.LeastLemmas.{least_clash_is_least}
use Rattle.bdb_base.proofs.SetLemmas.{list_any-put_in, is_eq-Equal}
use Rattle.bdb_base.proofs.WorldLemmas.{valid_is_consistent}
use Rattle.bdb_base.proofs.UpdateLemmas.{put_stands}
use Rattle.bdb_canon.specs.Sizes.{counts_of}
use Rattle.bdb_canon.specs.declared.sizes.Counts.{Counts}
use Rattle.bdb_keep.specs.Seen.{Seen, GoesOn, IsDropped, NeverFall}
use Rattle.bdb_keep.specs.Tables.{Tables}
use Rattle.bdb_tables.specs.declared.tab.TabError.{TabError}
use Rattle.bdb_tables.specs.declared.tab.TabError.TheVariants as stop
use Rattle.bdb_val.specs.Steps.{IsChanging}
use Rattle.bdb_val.proofs.Calls.{HasGone, gone_then, changing_err}
use Rattle.bdb_update.specs.Calls.{StoresSized, MayMeet, SomeMayMeet, Drops, IsDropping, Adds, IsAdding, clash_of, with_stmts, size_passed, with_one, without_one}
use Rattle.bdb_update.specs.Replacing.{MayGo, SomeMayGo, Go, MayCome, SomeMayCome, Come, MayReplaceAll, SomeMayReplace, Replace, is_stop}
use Rattle.bdb_tables.specs.Stored.{Stores}
use Rattle.bdb_update.specs.Bounds.{WritesWithinMore}
use Rattle.bdb_update.specs.Keeping.{KeepsNumbers, ReplaceKeeps}
use Rattle.bdb_update.specs.Steps.{ComesThrough, GoesThrough, KeepsOneWay, ReplacesThrough, WritesThrough, steps_with, steps_without}
use Rattle.bdb_update.specs.Trying.{stopped_by}
use Rattle.bdb_update.specs.declared.answer.Added.{Added}
use Rattle.bdb_update.specs.declared.answer.Added.TheVariants.{New, Already}
use Rattle.bdb_update.specs.declared.answer.UpdateError.{UpdateError}
use Rattle.bdb_update.specs.declared.answer.UpdateError.TheVariants.{Clash, Full, Fault, Memory}
use Rattle.bdb_update.proofs.NextLemmas.{first_is_valid}
use Rattle.bdb_update.proofs.ReachedLemmas.{goes_first}
use Rattle.bdb_update.proofs.SpendLemmas.{still_within}
use Rattle.bdb_update.proofs.StepLemmas.{at_place}

-- ---- how calls end

-- after a stop
stopped : {T : Type 0} (old new : Seen) (e : TabError) → IsDropped old new → NeverFall old new → (e ≡ stop.Fault → Rose old.faults new.faults) → IsChanging {T = T} {E = TabError} old new (Err e) stop.Fault
stopped old new e d c f = record {
  counts = c;
  steps = record { cause = record { later = c.faults; rose = λ is. f (let same : e ≡ stop.Fault = cc in same) }; ok = tt; err = d };
}

-- ---- a statement goes

pub stands_belongs : (c : Catalog) (stmts : List Stmt) (x : Stmt) → list_all (belongs c) stmts ≡ true → stands stmts x ≡ true → belongs c x ≡ true
stands_belongs c [] x h e = absurd (false≢true e)
stands_belongs c (y ∷ ys) x h e =
    let k = and_parts (belongs c y) (list_all (belongs c) ys) h in
    elim (or_cases (is_eq (statement_cmp y x)) (stands ys x) e) [
      | inl a ↦ ap (belongs c) (sym (statement_exact.exact y x (is_eq-Equal (statement_cmp y x) a))) ∙ k.0
      | inr a ↦ stands_belongs c ys x k.1 a
    ]

may_meet : (t : Tables) (c : Counts) (x : Stmt) (gone : List Stmt) (b : Contents) → MayGo t c (x ∷ gone) b → MayMeet t c x b
may_meet t c x gone b m = record {
  base = m.base;
  belongs = stands_belongs b.catalog b.stmts x m.base.valid.stmts.belong (and_parts (stands b.stmts x) (list_all (stands b.stmts) gone) m.stand).0;
}

-- the statements that are left to go, what the base comes to, and that what is written for those that are left makes of what was
-- written so far what is written for all
pub record IsLeft (old now : Seen) (c : Counts) (all gone end : List Stmt) (b : Contents) : Type 0 where
  pub stmts : List Stmt
  pub may : MayGo now.kept c gone (with_stmts b stmts)
  pub ends : without_statements stmts gone ≡ end
  pub through : (last : Seen) → WritesThrough now (steps_without (with_stmts b stmts) gone) last → WritesThrough old (steps_without b all) last

-- statements have gone, and these are left
pub record IsGoing (old new : Seen) (before now : Counts) (all rest : List Stmt) : Type 0 where
  pub gone : HasGone old new
  pub left : (b : Contents) → MayGo old.kept before all b → IsLeft old new now all rest (without_statements b.stmts all) b

pub going_begins : (s : Seen) (c : Counts) (all : List Stmt) → HasGone s s → IsGoing s s c c all all
going_begins s c all g = record { gone = g; left = λ b m. record { stmts = b.stmts; may = m; ends = refl; through = λ last h. h } }

module _ (old new : Seen) (before now : Counts) (all : List Stmt) (i : ℕ) (none : drop i all ≡ [])
    (so_far : IsGoing old new before now all (drop i all)) where
  -- all have gone
  all_gone : IsGoing old new before now all []
  all_gone = subst (IsGoing old new before now all) none so_far

  pub going_ends : Go old.kept new.kept before now all
  going_ends b m = let l = all_gone.left b m in subst (λ ys. StoresSized new.kept now (with_stmts b ys)) l.ends l.may.base

  pub gone_through : GoesThrough before all old new
  gone_through b m = (all_gone.left b m).through new (refl, refl)

-- how a drop went on
went_on : (b : Contents) (x : Stmt) (old new : Seen) (c d : Counts) (r : Bool) → IsDropping b x old new c d (Ok r) → GoesOn old new
went_on b x old new c d true h = h.becomes.goes_on
went_on b x old new c d false h = h.untouched.goes_on

one_left : (b : Contents) (x : Stmt) (rest : List Stmt) (old new : Seen) (c d : Counts) (r : Bool) → MayGo old.kept c (x ∷ rest) b → IsDropping b x old new c d (Ok r) → MayGo new.kept d rest (without_one b x)
one_left b x rest old new c d true m h =
    let k = goes_first b.stmts x rest m.stand m.apart in
    record {
      base = record { stored = h.becomes.stored; valid = take_is_valid b.catalog b.stmts x m.base.valid; counted = h.becomes.counted };
      stand = k.later;
      apart = k.apart;
    }
one_left b x rest old new c d false m h = absurd (false≢true (sym h.none ∙ (and_parts (stands b.stmts x) (list_all (stands b.stmts) rest) m.stand).0))

drop_stops : {T : Type 0} (b : Contents) (x : Stmt) (old new : Seen) (c d : Counts) (e : TabError) → IsDropping b x old new c d (Err e) → NeverFall old new → IsChanging {T = T} {E = TabError} old new (Err e) stop.Fault
drop_stops b x old new c d stop.Fault h f = stopped old new stop.Fault h.stopped.dropped f (λ _. h.rose)
drop_stops b x old new c d stop.Memory h f = stopped old new stop.Memory h.dropped f (λ k. absurd cc)

-- the statement at a place goes
module _ (old mid : Seen) (before now : Counts) (all : List Stmt) (i : ℕ) (x : Stmt) (lt : i < length all) (is : x ≡ get_or all i x)
    (so_far : IsGoing old mid before now all (drop i all)) (some : SomeMayGo old.kept before all) where
  goes_next : IsGoing old mid before now all (x ∷ drop (i + 1) all)
  goes_next = at_place (IsGoing old mid before now all) all i x lt is so_far

  -- it may go of whichever base is left
  meets : (b : Contents) (m : MayGo old.kept before all b) → MayMeet mid.kept now x (with_stmts b (goes_next.left b m).stmts)
  meets b m = let l = goes_next.left b m in may_meet mid.kept now x (drop (i + 1) all) (with_stmts b l.stmts) l.may

  pub some_left : SomeMayMeet mid.kept now x
  some_left = record { base = with_stmts some.base (goes_next.left some.base some.may).stmts; may = meets some.base some.may }

  pub going_more : (new : Seen) (next : Counts) (r : Bool) → Drops mid new now next x (Ok r) → WritesWithinMore (length x.path + 2) 8 mid new
      → NeverFall mid new → KeepsNumbers new.kept mid.kept → IsGoing old new before next all (drop (i + 1) all)
  going_more new next r d w f n =
      let b0 = with_stmts some.base (goes_next.left some.base some.may).stmts in
      record {
        gone = gone_then old mid new goes_next.gone (record { goes = went_on b0 x mid new now next r (d b0 (meets some.base some.may)); counts = f });
        left = λ b m.
            let k = goes_next.left b m in
            let c = with_stmts b k.stmts in
            let less = one_left c x (drop (i + 1) all) mid new now next r k.may (d c (meets b m)) in
            record {
              stmts = without_statement k.stmts x;
              may = less;
              ends = k.ends;
              through = λ last h. k.through last (new, f.writes, less.base.stored, inl n, w, h);
            };
      }

  pub going_stops : {T : Type 0} (new : Seen) (next : Counts) (e : TabError) → Drops mid new now next x (Err e) → NeverFall mid new
      → IsChanging {T = T} {E = TabError} old new (Err e) stop.Fault
  going_stops {T} new next e d f =
      let b0 = with_stmts some.base (goes_next.left some.base some.may).stmts in
      changing_err {T = T} {U = T} old mid new e stop.Fault goes_next.gone
      (drop_stops {T = T} b0 x mid new now next e (d b0 (meets some.base some.may)) f)

-- ---- a statement comes

may_add : (t : Tables) (c : Counts) (x : Stmt) (come : List Stmt) (b : Contents) → MayCome t c (x ∷ come) b → MayMeet t c x b
may_add t c x come b m = record { base = m.base; belongs = (and_parts (belongs b.catalog x) (list_all (belongs b.catalog) come) m.belong).0 }

with_valid : (t : Tables) (c : Counts) (x : Stmt) (come : List Stmt) (b : Contents) → MayCome t c (x ∷ come) b → IsValid b.catalog (with_statement b.stmts x)
with_valid t c x come b m = first_is_valid b.catalog b.stmts x come m.base.valid.stmts.sorted m.next

-- a statement of a valid base clashes with none of it
pub no_clash : (b : Contents) (x least : Stmt) → IsValid b.catalog b.stmts → IsValid b.catalog (with_statement b.stmts x) → clash_of b x ≡ Some least → ⊥
no_clash b x least v w e =
    let at : ClashesAt (key_lengths b.catalog.rels) b.stmts x.path x.tuple x.sign least = (least_clash_is_least (key_lengths b.catalog.rels) b.stmts v.stmts.sorted x.path x.tuple x.sign least e).0 in
    let next = with_statement b.stmts x in
    let here : list_any (same_statement x) next ≡ true = list_any-put_in statement_exact (same_statement x) b.stmts x ∙ or_left (same_statement x x) (list_any (same_statement x) b.stmts) (same_statement_itself x) in
    let there : list_any (same_statement least) next ≡ true = list_any-put_in statement_exact (same_statement least) b.stmts x ∙ or_right (same_statement least x) (list_any (same_statement least) b.stmts) at.0 in
    let free = valid_is_consistent b.catalog next w x.path x.tuple least.tuple x.sign least.sign (statement_explicit next x.path x here refl) (statement_explicit next x.path least there at.1) in
    false≢true (sym free ∙ at.2)

-- a valid base passes no limit
pub no_limit : (b : Contents) (what : What) → IsValid b.catalog b.stmts → size_passed (counts_of b) ≡ Some what → ⊥
no_limit b what v e = by (world_count b.stmts) (tuple_count b.stmts) (length b.stmts) (leb-true (world_count b.stmts) most_worlds v.stmts.few_worlds) (leb-true (tuple_count b.stmts) most_tuples v.stmts.few_tuples)
    (leb-true (length b.stmts) most_statements v.stmts.few_stmts) e
  where
    not_lt : (m n : ℕ) → n ≤ m → nat_lt m n ≡ false
    not_lt m n le = elim (cases_Bool (nat_lt m n)) [ inl a ↦ let lt : m < n = ltb-true m n a in absurd (omega arith) | inr a ↦ a ]

    by : (w t s : ℕ) → w ≤ most_worlds → t ≤ most_tuples → s ≤ most_statements
        → (if nat_lt most_worlds w then Some Worlds else (if nat_lt most_tuples t then Some Tuples else (if nat_lt most_statements s then Some Statements else None))) ≡ Some what → ⊥
    by w t s a b c e = go (nat_lt most_worlds w) (nat_lt most_tuples t) (nat_lt most_statements s) (not_lt most_worlds w a) (not_lt most_tuples t b) (not_lt most_statements s c) e
      where
        go : (x y z : Bool) → x ≡ false → y ≡ false → z ≡ false → (if x then Some Worlds else (if y then Some Tuples else (if z then Some Statements else None))) ≡ Some what → ⊥
        go true y z p q r e = absurd cc
        go false true z p q r e = absurd cc
        go false false true p q r e = absurd cc
        go false false false p q r e = cc

-- the statements that are left to come, what the base comes to, and what is written for all
pub record IsToCome (old now : Seen) (c : Counts) (all come end : List Stmt) (b : Contents) : Type 0 where
  pub stmts : List Stmt
  pub may : MayCome now.kept c come (with_stmts b stmts)
  pub ends : with_statements stmts come ≡ end
  pub through : (last : Seen) → WritesThrough now (steps_with (with_stmts b stmts) come) last → WritesThrough old (steps_with b all) last

-- statements have come, and these are left
pub record IsComing (old new : Seen) (before now : Counts) (all rest : List Stmt) : Type 0 where
  pub gone : HasGone old new
  pub left : (b : Contents) → MayCome old.kept before all b → IsToCome old new now all rest (with_statements b.stmts all) b

pub coming_begins : (s : Seen) (c : Counts) (all : List Stmt) → HasGone s s → IsComing s s c c all all
coming_begins s c all g = record { gone = g; left = λ b m. record { stmts = b.stmts; may = m; ends = refl; through = λ last h. h } }

module _ (old new : Seen) (before now : Counts) (all : List Stmt) (i : ℕ) (none : drop i all ≡ [])
    (so_far : IsComing old new before now all (drop i all)) where
  -- all have come
  all_came : IsComing old new before now all []
  all_came = subst (IsComing old new before now all) none so_far

  pub coming_ends : Come old.kept new.kept before now all
  coming_ends b m = let l = all_came.left b m in subst (λ ys. StoresSized new.kept now (with_stmts b ys)) l.ends l.may.base

  pub come_through : ComesThrough before all old new
  come_through b m = (all_came.left b m).through new (refl, refl)

came_on : (b : Contents) (x : Stmt) (old new : Seen) (c d : Counts) (r : Added) → IsAdding b x old new c d (Ok r) → GoesOn old new
came_on b x old new c d New h = h.becomes.goes_on
came_on b x old new c d Already h = h.untouched.goes_on

one_came : (b : Contents) (x : Stmt) (rest : List Stmt) (old new : Seen) (c d : Counts) (r : Added) → MayCome old.kept c (x ∷ rest) b → IsAdding b x old new c d (Ok r) → MayCome new.kept d rest (with_one b x)
one_came b x rest old new c d New m h = record {
  base = record { stored = h.becomes.stored; valid = with_valid old.kept c x rest b m; counted = h.becomes.counted };
  belong = (and_parts (belongs b.catalog x) (list_all (belongs b.catalog) rest) m.belong).1;
  next = m.next;
}
one_came b x rest old new c d Already m h =
    let same : b.stmts ≡ with_statement b.stmts x = sym (put_stands b.stmts x m.base.valid.stmts.sorted h.there) in
    let base : StoresSized new.kept d (with_one b x) = subst (λ ys. StoresSized new.kept d (with_stmts b ys)) same (record {
      stored = subst (λ (t : Tables). Stores t b) (sym h.untouched.kept) m.base.stored;
      valid = m.base.valid;
      counted = h.untouched.counts ∙ m.base.counted;
    }) in
    record {
      base = base;
      belong = (and_parts (belongs b.catalog x) (list_all (belongs b.catalog) rest) m.belong).1;
      next = m.next;
    }

-- nothing else refuses it than a fault or running out of memory
is_stopped : (b : Contents) (x : Stmt) (rest : List Stmt) (old new : Seen) (c d : Counts) (e : UpdateError) → MayCome old.kept c (x ∷ rest) b → IsAdding b x old new c d (Err e) → is_stop e ≡ true
is_stopped b x rest old new c d (Clash least) m h = absurd (no_clash b x least m.base.valid (with_valid old.kept c x rest b m) h.clash)
is_stopped b x rest old new c d (Full what) m h = absurd (no_limit (with_one b x) what (with_valid old.kept c x rest b m) h.passed)
is_stopped b x rest old new c d Fault m h = refl
is_stopped b x rest old new c d Memory m h = refl

add_stops : {T : Type 0} (b : Contents) (x : Stmt) (old new : Seen) (c d : Counts) (e : TabError) → IsAdding b x old new c d (Err (stopped_by e)) → NeverFall old new → IsChanging {T = T} {E = TabError} old new (Err e) stop.Fault
add_stops b x old new c d stop.Fault h f = stopped old new stop.Fault h.stopped.dropped f (λ _. h.rose)
add_stops b x old new c d stop.Memory h f = stopped old new stop.Memory h.dropped f (λ k. absurd cc)

-- the statement at a place comes
module _ (old mid : Seen) (before now : Counts) (all : List Stmt) (i : ℕ) (x : Stmt) (lt : i < length all) (is : x ≡ get_or all i x)
    (so_far : IsComing old mid before now all (drop i all)) (some : SomeMayCome old.kept before all) where
  comes_next : IsComing old mid before now all (x ∷ drop (i + 1) all)
  comes_next = at_place (IsComing old mid before now all) all i x lt is so_far

  -- it may come into whichever base there is so far
  adds : (b : Contents) (m : MayCome old.kept before all b) → MayMeet mid.kept now x (with_stmts b (comes_next.left b m).stmts)
  adds b m = let l = comes_next.left b m in may_add mid.kept now x (drop (i + 1) all) (with_stmts b l.stmts) l.may

  pub some_to_come : SomeMayMeet mid.kept now x
  some_to_come = record { base = with_stmts some.base (comes_next.left some.base some.may).stmts; may = adds some.base some.may }

  pub coming_more : (new : Seen) (next : Counts) (r : Added) → Adds mid new now next x (Ok r) → WritesWithinMore (length x.path + 2) 8 mid new
      → NeverFall mid new → KeepsNumbers mid.kept new.kept → IsComing old new before next all (drop (i + 1) all)
  coming_more new next r d w f n =
      let b0 = with_stmts some.base (comes_next.left some.base some.may).stmts in
      record {
        gone = gone_then old mid new comes_next.gone (record { goes = came_on b0 x mid new now next r (d b0 (adds some.base some.may)); counts = f });
        left = λ b m.
            let k = comes_next.left b m in
            let c = with_stmts b k.stmts in
            let more = one_came c x (drop (i + 1) all) mid new now next r k.may (d c (adds b m)) in
            record {
              stmts = with_statement k.stmts x;
              may = more;
              ends = k.ends;
              through = λ last h. k.through last (new, f.writes, more.base.stored, inr n, w, h);
            };
      }

  pub coming_is_stopped : (new : Seen) (next : Counts) (e : UpdateError) → Adds mid new now next x (Err e) → is_stop e ≡ true
  coming_is_stopped new next e d =
      let l = comes_next.left some.base some.may in
      let b0 = with_stmts some.base l.stmts in
      is_stopped b0 x (drop (i + 1) all) mid new now next e l.may (d b0 (adds some.base some.may))

  pub coming_stops : {T : Type 0} (new : Seen) (next : Counts) (u : UpdateError) (e : TabError) → u ≡ stopped_by e → Adds mid new now next x (Err u)
      → NeverFall mid new → IsChanging {T = T} {E = TabError} old new (Err e) stop.Fault
  coming_stops {T} new next u e why d f =
      let b0 = with_stmts some.base (comes_next.left some.base some.may).stmts in
      let h : IsAdding b0 x mid new now next (Err (stopped_by e)) =
      subst (λ z. IsAdding b0 x mid new now next (Err z)) why (d b0 (adds some.base some.may)) in
      changing_err {T = T} {U = T} old mid new e stop.Fault comes_next.gone (add_stops {T = T} b0 x mid new now next e h f)

-- ---- statements go, and others come

pub some_gone : (t : Tables) (c : Counts) (gone come : List Stmt) → SomeMayReplace t c gone come → SomeMayGo t c gone
some_gone t c gone come s = record { base = s.base; may = s.may.may }

to_come : (t u : Tables) (c d : Counts) (gone come : List Stmt) (b : Contents) → Go t u c d gone → MayReplaceAll t c gone come b → MayCome u d come (with_stmts b (without_statements b.stmts gone))
to_come t u c d gone come b g m = record { base = g b m.may; belong = m.belong; next = m.next }

pub some_come : (t u : Tables) (c d : Counts) (gone come : List Stmt) → Go t u c d gone → SomeMayReplace t c gone come → SomeMayCome u d come
some_come t u c d gone come g s = record { base = with_stmts s.base (without_statements s.base.stmts gone); may = to_come t u c d gone come s.base g s.may }

pub replaced : (t u v : Tables) (a b c : Counts) (gone come : List Stmt) → Go t u a b gone → Come u v b c come → Replace t v a c gone come
replaced t u v a b c gone come g k base m = k (with_stmts base (without_statements base.stmts gone)) (to_come t u a b gone come base g m)

-- ---- how often is written

-- a first moment with the same rows and count of writes
pub from_still : (old mid new : Seen) (es : List (Stmt × Contents)) → mid.kept ≡ old.kept → mid.writes ≡ old.writes → WritesThrough mid es new → WritesThrough old es new
from_still old mid new [] kept writes h = (h.0 ∙ kept, h.1 ∙ writes)
from_still old mid new (e ∷ es) kept writes h = (
  h.0,
  subst (λ (n : ℕ). n ≤ h.0.writes) writes h.1,
  h.2,
  subst (λ (t : Tables). KeepsOneWay t h.0.kept) kept h.3,
  still_within (length e.0.path + 2) 8 old mid h.0 kept writes h.4,
  h.5,
)

-- steps and then others
through_then : (old mid new : Seen) (es fs : List (Stmt × Contents)) → WritesThrough old es mid → WritesThrough mid fs new → WritesThrough old (es ++ fs) new
through_then old mid new [] fs h k = from_still old mid new fs h.0 h.1 k
through_then old mid new (e ∷ es) fs h k = (h.0, h.1, h.2, h.3, h.4, through_then h.0 mid new es fs h.5 k)

pub replaced_through : (old mid new : Seen) (c d : Counts) (gone come : List Stmt) → Go old.kept mid.kept c d gone → GoesThrough c gone old mid → ComesThrough d come mid new → ReplacesThrough c gone come old new
replaced_through old mid new c d gone come g h k b m =
    let next = with_stmts b (without_statements b.stmts gone) in
    through_then old mid new (steps_without b gone) (steps_with next come) (h b m.may) (k next (to_come old.kept mid.kept c d gone come b g m))

pub replaced_keeps : (old mid new : Seen) (c d : Counts) (gone come : List Stmt) → Go old.kept mid.kept c d gone → KeepsNumbers mid.kept old.kept → KeepsNumbers mid.kept new.kept → ReplaceKeeps c gone come old new
replaced_keeps old mid new c d gone come g before after b m = record { between = mid.kept; stored = (g b m.may).stored; before = before; after = after }
