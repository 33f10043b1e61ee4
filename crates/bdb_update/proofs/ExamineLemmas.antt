-- What is said of a statement by what was read is right.
use Rattle.std.proofs.Common.{◌≡◌, ◌∙◌, ℕ, ◌+◌, ◌-◌, ◌<◌, ◌≤◌, Bool, true, false, nat_eq, nat_lt, cond, List, length, take, drop, refl, ap, sym, subst, inl, inr, Option, Some, None, is_some, suc, arith}
use Rattle.std.specs.Prelude.{if◌then◌else◌}
use Rattle.std.specs.List.{list_any}
use Rattle.std.proofs.lemmas.Bool.{false≢true, false_from_ne_true, leb-true, cases_Bool, cases_lt, cond-true, cond-false, eqb-true, eq-eqb}
use Rattle.std.proofs.lemmas.List.{take-append-drop, take_all}
use Rattle.bdb_base.specs.Alternation.{alternates}
use Rattle.bdb_base.specs.Bases.{Contents, stands, tuple_count, world_count}
use Rattle.bdb_base.specs.Limits.{most_worlds, most_tuples, most_statements}
use Rattle.bdb_base.specs.declared.kinds.Stmt.{Stmt}
use Rattle.bdb_base.specs.declared.kinds.What.{What}
use Rattle.bdb_base.specs.declared.kinds.What.TheVariants.{Worlds, Tuples, Statements}
use Rattle.bdb_canon.specs.Sizes.{counts_of}
use Rattle.bdb_canon.specs.declared.sizes.Counts.{Counts}
use Rattle.bdb_keep.specs.Tables.{Tables}
use Rattle.bdb_key.specs.Rows.{MayBeTuple}
use Rattle.bdb_tables.specs.Grammar.{InGrammar}
use Rattle.bdb_tables.specs.Names.{number_of, is_named}
use Rattle.bdb_tables.proofs.Fitting.{belonging_may_be}
use Rattle.bdb_val.specs.Reads.{HaveTuples}
use Rattle.bdb_val.specs.declared.stored.StoredRow.{StoredRow}
use Rattle.bdb_worlds.specs.Holding.{HoldSome}
use Rattle.bdb_worlds.specs.Reach.{ReachesState}
use Rattle.bdb_update.specs.Calls.{MayMeet, SomeMayMeet, clash_of, size_passed, with_one}
use Rattle.bdb_update.specs.Examining.{AreSizes, IsProspect, Examines}
use Rattle.bdb_update.specs.Joining.{IsWorldFound, IsWorldIfAny}
use Rattle.bdb_update.specs.Looking.{IsFinding, IsSmall, is_own, least_row, counts_with, filled_by, joined_by, judged_by, judged, state_of}
use Rattle.bdb_update.specs.declared.looking.Finding.{Finding}
use Rattle.bdb_update.proofs.GrammarLemmas.{stored_is_in_grammar}
use Rattle.bdb_update.proofs.JudgeLemmas.{clash_found, no_clash_found, standing_found, none_standing, worlds_with, tuples_with, stmts_with}
use Rattle.bdb_update.proofs.StageLemmas.{belongs_parts, over_has_tuples}

-- ---- what there is to know may be read

pub record MayLook (t : Tables) (x : Stmt) : Type 0 where
  pub grammar : InGrammar t
  pub tuples : HaveTuples t
  pub states : HoldSome t x.path
  pub apart : alternates x.path ≡ true
  pub tuple : MayBeTuple x.tuple

pub may_look : (t : Tables) (counts : Counts) (x : Stmt) → SomeMayMeet t counts x → MayLook t x
may_look t counts x h =
    let b = h.base in
    let s = h.may.base.stored in
    let belongs = belongs_parts b.catalog x h.may.belongs in
    record {
      grammar = stored_is_in_grammar t b s;
      tuples = over_has_tuples b.stmts b.stmts s.names s.tuples t b s.stored;
      states = record { worlds = record { users = _; names = s.names }; states = s.stored.states; own = belongs.users };
      apart = belongs.apart;
      tuple = (belonging_may_be b.catalog x h.may.base.valid.catalog h.may.belongs).tuple;
    }

-- ---- limits

-- the first limit that is passed by so many
passed_by : ℕ → ℕ → ℕ → Option What
passed_by w t s = if nat_lt most_worlds w then Some Worlds else (if nat_lt most_tuples t then Some Tuples else (if nat_lt most_statements s then Some Statements else None))

sizes_pass : (a b : Counts) → AreSizes a b → size_passed a ≡ size_passed b
unfolding passed_by
sizes_pass a b e = ap (λ n. passed_by n a.tuples a.stmts) e.worlds ∙ ap (λ n. passed_by b.worlds n a.stmts) e.tuples ∙ ap (λ n. passed_by b.worlds b.tuples n) e.stmts

-- ---- the number of the path

pub world_if_any : (t : Tables) (w : List ℕ) (len wid : ℕ) → ReachesState t w len wid → IsWorldIfAny t w wid
world_if_any t w len wid reaches s h own named =
    let r = reaches s h own in
    elim (cases_lt len (length w)) [
      | inl lt ↦
          let p = take (suc len) w in
          absurd (false≢true (sym (r.longest lt) ∙ h.names.prefixes p (drop (suc len) w) (ap (is_named s.names) (take-append-drop (suc len) w) ∙ named)))
      | inr ge ↦ ap (number_of s.names) (sym (take_all len w ge)) ∙ r.number
    ]

world_found : (t : Tables) (x : Stmt) (p : Finding) → ReachesState t x.path p.len p.wid → p.len ≤ length x.path → IsWorldFound t x.path (state_of x p)
world_found t x p reaches within = elim (cases_Bool (nat_eq p.len (length x.path))) [
  | inl e ↦ subst (IsWorldFound t x.path) (sym (cond-true (nat_eq p.len (length x.path)) (Some p.wid) None e)) (λ s h own.
      let whole : p.len ≡ length x.path = eqb-true p.len (length x.path) e in
      ap (number_of s.names) (sym (take_all p.len x.path (omega arith))) ∙ (reaches s h own).number)
  | inr e ↦ subst (IsWorldFound t x.path) (sym (cond-false (nat_eq p.len (length x.path)) (Some p.wid) None e)) (λ s h own.
      false_from_ne_true (is_named s.names x.path) (λ named.
      let front = take (suc p.len) x.path in
      false≢true (sym ((reaches s h own).longest (below (λ q. false≢true (sym e ∙ eq-eqb p.len (length x.path) q))))
      ∙ h.names.prefixes front (drop (suc p.len) x.path) (ap (is_named s.names) (take-append-drop (suc p.len) x.path) ∙ named))))
]
  where
    below : (p.len ≡ length x.path → ⊥) → p.len < length x.path
    below bad = elim (cases_lt p.len (length x.path)) [ inl lt ↦ lt | inr ge ↦ absurd (bad (omega (arith, within, ge))) ]

module _ (t : Tables) (c : Counts) (x : Stmt) (p : Finding) (place : IsFinding t x p) (b : Contents) (may : MayMeet t c x b) where
  sizes : stands b.stmts x ≡ false → AreSizes (counts_with x p c) (counts_of (with_one b x))
  sizes fresh =
      let s = may.base.stored in
      let v = may.base.valid in
      let e = may.base.counted in
      record {
        worlds = ap (λ (k : Counts). k.worlds + (length x.path - p.len)) e ∙ sym (worlds_with t x p place b s v may.belongs);
        tuples = ap (λ (k : Counts). k.tuples + cond (is_some p.tid) 0 1) e ∙ sym (tuples_with t x p place b s v may.belongs);
        stmts = ap (λ (k : Counts). k.stmts + 1) e ∙ sym (stmts_with t x p place b s v may.belongs fresh);
      }

  verdict : IsProspect t b x (judged x p c)
  verdict = by_row (least_row (λ _. p.key_len) x p.rows.items) refl
    where
      by_size : clash_of b x ≡ None → stands b.stmts x ≡ false → (o : Option What) → size_passed (counts_with x p c) ≡ o → IsProspect t b x (filled_by x p (counts_with x p c) o)
      by_size apart fresh None e = record {
        fresh = fresh;
        apart = apart;
        room = sym (sizes_pass (counts_with x p c) (counts_of (with_one b x)) (sizes fresh)) ∙ e;
        sizes = sizes fresh;
        world = world_found t x p place.reaches place.within;
        number = place.number;
        key_length = place.key_length;
        fits = place.fits;
      }
      by_size apart fresh (Some what) e = (apart, sym (sizes_pass (counts_with x p c) (counts_of (with_one b x)) (sizes fresh)) ∙ e)

      by_own : clash_of b x ≡ None → (own : Bool) → list_any (is_own x) p.rows.items ≡ own → IsProspect t b x (joined_by x p c own)
      by_own apart true e = standing_found t x p place b may.base.stored may.base.valid may.belongs e
      by_own apart false e = by_size apart (none_standing t x p place b may.base.stored may.base.valid may.belongs e) (size_passed (counts_with x p c)) refl

      by_row : (o : Option StoredRow) → least_row (λ _. p.key_len) x p.rows.items ≡ o → IsProspect t b x (judged_by x p c o)
      by_row (Some r) e = clash_found t x p place b may.base.stored may.base.valid may.belongs r e
      by_row None e = by_own (no_clash_found t x p place b may.base.stored may.base.valid may.belongs e) (list_any (is_own x) p.rows.items) refl

pub examined : (t : Tables) (c : Counts) (x : Stmt) (p : Finding) → IsFinding t x p → Examines t c x (judged x p c)
examined t c x p place b may = verdict t c x p place b may

-- the sizes are small enough to be counted
pub small : (t : Tables) (c : Counts) (x : Stmt) (p : Finding) → IsFinding t x p → SomeMayMeet t c x → IsSmall x p c
small t c x p place some =
    let v = some.may.base.valid.stmts in
    let e = some.may.base.counted in
    let b = some.base in
    record {
      worlds = subst (λ n. n ≤ most_worlds) (sym (ap (λ (k : Counts). k.worlds) e)) (leb-true (world_count b.stmts) most_worlds v.few_worlds);
      tuples = subst (λ n. n ≤ most_tuples) (sym (ap (λ (k : Counts). k.tuples) e)) (leb-true (tuple_count b.stmts) most_tuples v.few_tuples);
      stmts = subst (λ n. n ≤ most_statements) (sym (ap (λ (k : Counts). k.stmts) e)) (leb-true (length b.stmts) most_statements v.few_stmts);
      within = place.within;
      short = (belongs_parts b.catalog x some.may.belongs).short;
    }
