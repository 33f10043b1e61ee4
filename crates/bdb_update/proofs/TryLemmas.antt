-- What comes of trying to add a statement.
use Rattle.std.proofs.Common.{◌≡◌, ◌∙◌, ℕ, ◌+◌, ◌-◌, ◌^◌, ◌<◌, ◌≤◌, arith, Some, None, Ok, Err, refl, ap, sym, subst}
use Rattle.bdb_base.specs.Bases.{Contents}
use Rattle.bdb_base.specs.declared.kinds.Stmt.{Stmt}
use Rattle.bdb_base.specs.declared.kinds.What.{What}
use Rattle.bdb_canon.specs.Sizes.{counts_of}
use Rattle.bdb_canon.specs.declared.sizes.Counts.{Counts}
use Rattle.bdb_keep.specs.Seen.{Seen, GoesOn}
use Rattle.bdb_keep.specs.Tables.{Tables}
use Rattle.bdb_tables.specs.declared.tab.TabError.{TabError}
use Rattle.bdb_tables.specs.declared.tab.TabError.TheVariants as stop
use Rattle.bdb_val.specs.Steps.{IsChanging}
use Rattle.bdb_update.specs.Calls.{MayMeet, SomeMayMeet, HasStopped, with_one}
use Rattle.bdb_update.specs.Examining.{AreSizes, IsReady, Examines}
use Rattle.bdb_update.specs.Joining.{CountsJoined, MayJoin, SomeMayJoin, Joins}
use Rattle.bdb_tables.specs.Stored.{Stores}
use Rattle.bdb_update.specs.Numbering.{HoldsSomeTuples}
use Rattle.bdb_update.specs.Trying.{Tries, stopped_by}
use Rattle.bdb_update.specs.declared.answer.UpdateError.{UpdateError}
use Rattle.bdb_update.specs.declared.answer.UpdateError.TheVariants.{Clash, Full}
use Rattle.bdb_update.specs.declared.looking.Ready.{Ready}
use Rattle.bdb_update.specs.declared.looking.Prospect.TheVariants.{Clashes, Stands, Fills, Fits}
use Rattle.bdb_update.proofs.CallLemmas.{IsQuiet}
use Rattle.bdb_update.proofs.JoinLemmas.{may_join}
use Rattle.bdb_update.proofs.ChangingLemmas.{untouched}

-- ---- nothing was written

pub try_stands : (old new : Seen) (c : Counts) (x : Stmt) → IsQuiet old new → Examines old.kept c x Stands → Tries old new c x (Ok None)
try_stands old new c x q e b may = record { there = e b may; untouched = untouched old new c q }

pub try_clashes : (old new : Seen) (c : Counts) (x least : Stmt) → IsQuiet old new → Examines old.kept c x (Clashes least) → Tries old new c x (Err (Clash least))
try_clashes old new c x least q e b may = record { clash = e b may; untouched = untouched old new c q }

pub try_fills : (old new : Seen) (c : Counts) (x : Stmt) (what : What) → IsQuiet old new → Examines old.kept c x (Fills what) → Tries old new c x (Err (Full what))
try_fills old new c x what q e b may = let k = e b may in record { apart = k.0; passed = k.1; untouched = untouched old new c q }

-- ---- nothing could be read or written

pub try_stops : {T : Type 0} (old new : Seen) (c : Counts) (x : Stmt) (e : TabError) (u : UpdateError) → u ≡ stopped_by e → IsChanging {T = T} {E = TabError} old new (Err e) stop.Fault → Tries old new c x (Err u)
try_stops old new c x e u is h = subst (λ z. Tries old new c x (Err z)) (sym is) (by e h)
  where
    stops : {T : Type 0} (e : TabError) → IsChanging {T = T} {E = TabError} old new (Err e) stop.Fault → HasStopped old new c c
    stops e h = record { dropped = h.steps.err; counts = refl }

    by : {T : Type 0} (e : TabError) → IsChanging {T = T} {E = TabError} old new (Err e) stop.Fault → Tries old new c x (Err (stopped_by e))
    by stop.Fault h b may = record { rose = h.steps.cause.rose refl; stopped = stops stop.Fault h }
    by stop.Memory h b may = stops stop.Memory h

-- ---- it joined

module _ (t : Tables) (c : Counts) (x : Stmt) (r : Ready) (e : Examines t c x (Fits r)) where
  ready : (b : Contents) → MayMeet t c x b → IsReady t b x r
  ready b may = e b may

  pub joining : (b : Contents) → MayMeet t c x b → MayJoin b x
  joining b may = may_join b x may.base.valid may.belongs (ready b may).apart (ready b may).room

  pub some_may_join : SomeMayMeet t c x → SomeMayJoin t x c.worlds
  some_may_join s = record { base = s.base; stored = s.may.base.stored; may = joining s.base s.may; counted = ap (λ (k : Counts). k.worlds) s.may.base.counted }

made : ℕ → ℕ → ℕ → ℕ → Counts
made w t s r = record { worlds = w; tuples = t; stmts = s; rows = r }

pub same_counts : (a b : Counts) → a.worlds ≡ b.worlds → a.tuples ≡ b.tuples → a.stmts ≡ b.stmts → a.rows ≡ b.rows → a ≡ b
unfolding made
same_counts a b w t s r = ap (λ n. made n a.tuples a.stmts a.rows) w ∙ ap (λ n. made b.worlds n a.stmts a.rows) t ∙ ap (λ n. made b.worlds b.tuples n a.rows) s ∙ ap (λ n. made b.worlds b.tuples b.stmts n) r

-- the rows of some base that is stored leave room for those that came
pub moved_fits : (old mid : Seen) (c : Counts) (x : Stmt) (r : Ready) (came went : ℕ) → Examines old.kept c x (Fits r) → IsQuiet old mid → CountsJoined mid.kept x came went → SomeMayMeet old.kept c x
    → (c.rows + came < 2 ^ 32) × (went ≤ c.rows + came)
moved_fits old mid c x r came went e q joined some =
    let m = joined some.base (subst (λ (t : Tables). Stores t some.base) (sym q.kept) some.may.base.stored) (joining old.kept c x r e some.base some.may) in
    let f = m.few in
    let g = m.balance in
    let h = ap (λ (k : Counts). k.rows) some.may.base.counted in
    (omega arith, omega arith)

pub try_joins : (old mid new : Seen) (c : Counts) (x : Stmt) (r : Ready) (next : Counts) (came went : ℕ) → Examines old.kept c x (Fits r) → AreSizes next r.next → next.rows ≡ c.rows + came - went
    → IsQuiet old mid → Joins mid.kept new.kept x → CountsJoined mid.kept x came went → GoesOn old new → Tries old new c x (Ok (Some next))
try_joins old mid new c x r next came went e s rows q joins joined goes b may =
    let k = e b may in
    let stored = subst (λ (t : Tables). Stores t b) (sym q.kept) may.base.stored in
    let moved = (joined b stored (joining old.kept c x r e b may)).balance in
    let before = ap (λ (z : Counts). z.rows) may.base.counted in
    record {
      fresh = k.fresh;
      apart = k.apart;
      room = k.room;
      stored = joins b stored (joining old.kept c x r e b may);
      counted = same_counts next (counts_of (with_one b x)) (s.worlds ∙ k.sizes.worlds) (s.tuples ∙ k.sizes.tuples) (s.stmts ∙ k.sizes.stmts) (omega arith);
      goes_on = goes;
    }

-- what is known of a statement, where tables have only been read since
module _ (old mid : Seen) (c : Counts) (x : Stmt) (r : Ready) (e : Examines old.kept c x (Fits r)) (q : IsQuiet old mid) (some : SomeMayMeet old.kept c x) where
  pub may_join_now : SomeMayJoin mid.kept x c.worlds
  may_join_now = subst (λ (t : Tables). SomeMayJoin t x c.worlds) (sym q.kept) (some_may_join old.kept c x r e some)

  pub ready_now : IsReady mid.kept some.base x r
  ready_now = subst (λ (t : Tables). IsReady t some.base x r) (sym q.kept) (e some.base some.may)

-- so many tuples have numbers
pub tuples_now : (old mid : Seen) (c : Counts) (x : Stmt) → IsQuiet old mid → SomeMayMeet old.kept c x → HoldsSomeTuples mid.kept c.tuples
tuples_now old mid c x q some =
    let s = some.may.base.stored in
    subst (λ (t : Tables). HoldsSomeTuples t c.tuples) (sym q.kept)
    (record { told = some.base.stmts; numbers = s.tuples; held = s.stored.tuples; counted = ap (λ (k : Counts). k.tuples) some.may.base.counted })
