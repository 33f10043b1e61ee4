-- What comes of a change of statements of one path.
use Rattle.std.proofs.Common.{◌≡◌, ◌∙◌, ℕ, ◌≤◌, ◌<◌, List, [], ◌∷◌, length, refl, ap, sym, subst, Some, None, Ok, Err, arith}
use Rattle.std.specs.List.{slice_get, AllByRecursion}
use Rattle.bdb_base.specs.Bases.{Contents, key_lengths, tuple_count}
use Rattle.bdb_base.specs.Changes.{first_clashing, without_statements}
use Rattle.bdb_base.specs.Limits.{most_tuples}
use Rattle.bdb_base.specs.declared.kinds.Stmt.{Stmt}
use Rattle.bdb_base.specs.declared.kinds.What.TheVariants.{Tuples}
use Rattle.bdb_base.proofs.FirstLemmas.{no_first_clashing}
use Rattle.bdb_base.proofs.WorldLemmas.{valid_is_consistent}
use Rattle.std.proofs.lemmas.Bool.{leb-true}
use Rattle.bdb_canon.specs.Sizes.{counts_of}
use Rattle.bdb_canon.specs.declared.sizes.Counts.{Counts}
use Rattle.bdb_keep.specs.Seen.{Seen, GoesOn}
use Rattle.bdb_keep.specs.Tables.{Tables}
use Rattle.bdb_tables.specs.declared.tab.TabError.{TabError}
use Rattle.bdb_tables.specs.declared.tab.TabError.TheVariants as stop
use Rattle.bdb_val.specs.Steps.{IsChanging}
use Rattle.bdb_update.specs.Calls.{MayChange, SomeMayChange, Changes, IsUnwritten, HasStopped, StoresSized, with_stmts, with_others}
use Rattle.bdb_update.specs.Replacing.{MayReplaceAll, SomeMayReplace, Replace}
use Rattle.bdb_tables.specs.Stored.{Stores}
use Rattle.bdb_update.specs.Steps.{ChangesThrough, ReplacesThrough, WritesThrough, steps_of}
use Rattle.bdb_update.specs.Trying.{stopped_by}
use Rattle.bdb_update.specs.Weighing.{MayWeigh, SomeMayWeigh, IsWeight, Weighs}
use Rattle.bdb_update.specs.declared.answer.UpdateError.{UpdateError}
use Rattle.bdb_update.specs.declared.answer.UpdateError.TheVariants.{Clash, Full}
use Rattle.bdb_update.specs.declared.weighing.Weight.{Weight}
use Rattle.bdb_update.specs.declared.weighing.Weight.TheVariants.{Clashes, Fills, Fits}
use Rattle.bdb_update.proofs.CallLemmas.{IsQuiet, quiet_itself}
use Rattle.bdb_update.proofs.NextLemmas.{next_is_valid}
use Rattle.bdb_update.proofs.ReplaceLemmas.{from_still}
use Rattle.bdb_update.specs.Keeping.{ChangeKeeps, KeepsBetween, ReplaceKeeps}
use Rattle.bdb_update.proofs.StayLemmas.{keeps_same}
use Rattle.bdb_update.proofs.WeighLemmas.{may_replace}

-- ---- nothing goes

no_items : {X : Type 0} (xs : List X) → slice_get xs 0 ≡ None → xs ≡ []
no_items [] e = refl
no_items (x ∷ xs) e = absurd cc

none_come : {X : Type 0} (xs ys : List X) → ys ≡ [] → length xs ≤ length ys → xs ≡ []
none_come [] ys e l = refl
none_come (x ∷ xs) ys e l = let f : length ys ≡ 0 = ap length e in absurd (omega arith)

pub nothing_changes : (s : Seen) (c : Counts) (w : List ℕ) (gone come : List Stmt) → slice_get gone 0 ≡ None → Changes s s c c w gone come (Ok tt)
nothing_changes s c w gone come e b m = record {
  apart = subst (λ ys. first_clashing (key_lengths b.catalog.rels) ys w ≡ None) same
      ((no_first_clashing (key_lengths b.catalog.rels) b.stmts w).1 (valid_is_consistent b.catalog b.stmts m.base.valid w));
  room = subst (λ ys. tuple_count ys ≤ most_tuples) same (leb-true (tuple_count b.stmts) most_tuples m.base.valid.stmts.few_tuples);
  becomes = record {
    stored = subst (λ ys. Stores s.kept (with_stmts b ys)) same m.base.stored;
    counted = subst (λ ys. c ≡ counts_of (with_stmts b ys)) same m.base.counted;
    goes_on = (quiet_itself s).goes;
  };
}
  where
    same : b.stmts ≡ (with_others b gone come).stmts
    same =
        let g = no_items gone e in
        let k = none_come come gone g m.no_more in
        sym (ap (λ xs. (with_others b xs come).stmts) g ∙ ap (λ ys. (with_others b [] ys).stmts) k)

-- ---- some go

first_path : (w : List ℕ) (gone : List Stmt) (x : Stmt) → slice_get gone 0 ≡ Some x → AllByRecursion (λ y. y.path ≡ w) gone → x.path ≡ w
first_path w [] x e h = absurd cc
first_path w (y ∷ ys) x e h = let same : y ≡ x = cc in ap (λ (z : Stmt). z.path) (sym same) ∙ h.0

some_go : (gone : List Stmt) (x : Stmt) → slice_get gone 0 ≡ Some x → 0 < length gone
some_go [] x e = absurd cc
some_go (y ∷ ys) x e = omega arith

module _ (t : Tables) (c : Counts) (w : List ℕ) (gone come : List Stmt) (x : Stmt) (first : slice_get gone 0 ≡ Some x) where
  may_weigh : (b : Contents) → MayChange t c w gone come b → MayWeigh t c x.path gone come b
  may_weigh b m = record { may = subst (λ v. MayChange t c v gone come b) (sym (first_path w gone x first m.gone_here)) m; some = some_go gone x first }

  pub some_may_weigh : SomeMayChange t c w gone come → SomeMayWeigh t c x.path gone come
  some_may_weigh s = record { base = s.base; may = may_weigh s.base s.may }

  weight_at : (weight : Weight) → Weighs t c x.path gone come weight → (b : Contents) → MayChange t c w gone come b → IsWeight w (with_others b gone come) weight
  weight_at weight h b m = subst (λ v. IsWeight v (with_others b gone come) weight) (first_path w gone x first m.gone_here) (h b (may_weigh b m))

  may_replace_all : Weighs t c x.path gone come Fits → (b : Contents) → MayChange t c w gone come b → MayReplaceAll t c gone come b
  may_replace_all h b m =
      let k = weight_at Fits h b m in
      record {
        may = record { base = m.base; stand = m.stand; apart = m.apart };
        belong = m.belong;
        next = next_is_valid b.catalog b.stmts w gone come (may_replace t c w gone come b m) k.0 k.1;
      }

pub untouched : (old new : Seen) (c : Counts) → IsQuiet old new → IsUnwritten old new c c
untouched old new c q = record { kept = q.kept; writes = q.writes; counts = refl; goes_on = q.goes }

module _ (old mid : Seen) (c : Counts) (w : List ℕ) (gone come : List Stmt) (x : Stmt) (first : slice_get gone 0 ≡ Some x) (q : IsQuiet old mid) where
  pub change_clashes : (least : Stmt) → Weighs old.kept c x.path gone come (Clashes least) → Changes old mid c c w gone come (Err (Clash least))
  change_clashes least h b m = record { clash = weight_at old.kept c w gone come x first (Clashes least) h b m; untouched = untouched old mid c q }

  pub change_fills : Weighs old.kept c x.path gone come Fills → Changes old mid c c w gone come (Err (Full Tuples))
  change_fills h b m = let k = weight_at old.kept c w gone come x first Fills h b m in record { apart = k.0; tuples = refl; many = k.1; untouched = untouched old mid c q }

  pub may_replace_now : Weighs old.kept c x.path gone come Fits → SomeMayChange old.kept c w gone come → SomeMayReplace mid.kept c gone come
  may_replace_now h s = subst (λ (t : Tables). SomeMayReplace t c gone come) (sym q.kept) (record { base = s.base; may = may_replace_all old.kept c w gone come x first h s.base s.may })

  pub changed : (new : Seen) (next : Counts) → Weighs old.kept c x.path gone come Fits → Replace mid.kept new.kept c next gone come → GoesOn old new → Changes old new c next w gone come (Ok tt)
  changed new next h r goes b m =
      let k = weight_at old.kept c w gone come x first Fits h b m in
      let s : StoresSized new.kept next (with_others b gone come) = r b (subst (λ (t : Tables). MayReplaceAll t c gone come b) (sym q.kept) (may_replace_all old.kept c w gone come x first h b m)) in
      record {
        apart = k.0;
        room = k.1;
        becomes = record { stored = s.stored; counted = s.counted; goes_on = goes };
      }

-- ---- how often is written

pub nothing_through : (s : Seen) (c : Counts) (w : List ℕ) (gone come : List Stmt) → slice_get gone 0 ≡ None → ChangesThrough c w gone come s s
nothing_through s c w gone come e b m =
    let g = no_items gone e in
    let k = none_come come gone g m.no_more in
    subst (λ (xs : List Stmt). WritesThrough s (steps_of b xs come) s) (sym g) (subst (λ (ys : List Stmt). WritesThrough s (steps_of b [] ys) s) (sym k) (refl, refl))

pub changed_through : (old mid new : Seen) (c : Counts) (w : List ℕ) (gone come : List Stmt) (x : Stmt) → slice_get gone 0 ≡ Some x → IsQuiet old mid → Weighs old.kept c x.path gone come Fits
    → ReplacesThrough c gone come mid new → ChangesThrough c w gone come old new
changed_through old mid new c w gone come x first q h r b m =
    from_still old mid new (steps_of b gone come) q.kept q.writes (r b (subst (λ (t : Tables). MayReplaceAll t c gone come b) (sym q.kept) (may_replace_all old.kept c w gone come x first h b m)))

-- ---- which numbers stay

pub nothing_keeps : (s : Seen) (c : Counts) (w : List ℕ) (gone come : List Stmt) → slice_get gone 0 ≡ None → ChangeKeeps c w gone come s s
nothing_keeps s c w gone come e b m = record {
  between = s.kept;
  stored = subst (λ (xs : List Stmt). Stores s.kept (with_stmts b (without_statements b.stmts xs))) (sym (no_items gone e)) m.base.stored;
  before = keeps_same s.kept s.kept refl;
  after = keeps_same s.kept s.kept refl;
}

pub changed_keeps : (old mid new : Seen) (c : Counts) (w : List ℕ) (gone come : List Stmt) (x : Stmt) → slice_get gone 0 ≡ Some x → IsQuiet old mid → Weighs old.kept c x.path gone come Fits
    → ReplaceKeeps c gone come mid new → ChangeKeeps c w gone come old new
changed_keeps old mid new c w gone come x first q h r b m =
    subst (λ (t : Tables). KeepsBetween (with_stmts b (without_statements b.stmts gone)) t new.kept) q.kept
    (r b (subst (λ (t : Tables). MayReplaceAll t c gone come b) (sym q.kept) (may_replace_all old.kept c w gone come x first h b m)))

-- ---- nothing could be read or written

pub change_stops : {T : Type 0} (old new : Seen) (c : Counts) (w : List ℕ) (gone come : List Stmt) (e : TabError) (u : UpdateError) → u ≡ stopped_by e → IsChanging {T = T} {E = TabError} old new (Err e) stop.Fault
    → Changes old new c c w gone come (Err u)
change_stops {T} old new c w gone come e u is h = subst (λ z. Changes old new c c w gone come (Err z)) (sym is) (by e h)
  where
    stops : (e : TabError) → IsChanging {T = T} {E = TabError} old new (Err e) stop.Fault → HasStopped old new c c
    stops e h = record { dropped = h.steps.err; counts = refl }

    by : (e : TabError) → IsChanging {T = T} {E = TabError} old new (Err e) stop.Fault → Changes old new c c w gone come (Err (stopped_by e))
    by stop.Fault h b m = record { rose = h.steps.cause.rose refl; stopped = stops stop.Fault h }
    by stop.Memory h b m = stops stop.Memory h
