-- How a session tells the structure of a stored base.
use Rattle.std.proofs.Common.{◌≡◌, ◌∙◌, ℕ, true, false, nat_lt, Some, None, Result, length, refl, ap, sym}
use Rattle.std.proofs.lemmas.Bool.{cond-true, cond-false}
use Rattle.bdb_base.specs.Bases.{user_names}
use Rattle.bdb_base.specs.Limits.{most_lines}
use Rattle.bdb_base.specs.declared.kinds.Catalog.{Catalog}
use Rattle.bdb_bind.specs.declared.bound.Bound.TheVariants.{ShowTables}
use Rattle.bdb_canon.specs.Canonical.{canon_of, line_count}
use Rattle.bdb_canon.specs.Sizes.{counts_of}
use Rattle.bdb_canon.specs.declared.structure.Canon.{Canon}
use Rattle.bdb_keep.specs.Seen.{Seen, NeverFall, GoesOn}
use Rattle.bdb_keep.specs.Tables.{Tables}
use Rattle.bdb_render.specs.Tables.{tables_reply}
use Rattle.bdb_render.specs.declared.refusal.Refusal.TheVariants as refusal
use Rattle.bdb_session.specs.Known.{Known, Agrees, AgreesOnSome}
use Rattle.bdb_session.specs.Lines.{lines_by}
use Rattle.bdb_session.specs.Machine.{bound_outcome}
use Rattle.bdb_session.specs.Outcome.{State, Refused, Done}
use Rattle.bdb_session.specs.Sizes.{too_many}
use Rattle.bdb_session.specs.Within.{IsSaid, TellsWithin}
use Rattle.bdb_session.specs.declared.reply.Reply.{Reply}
use Rattle.bdb_session.specs.declared.error.StopError.{StopError}
use Rattle.bdb_session.proofs.LineLemmas.{lines_are}
use Rattle.bdb_session.proofs.OutcomeLemmas.{unless_some, unless_none}
use Rattle.bdb_session.proofs.WithinLemmas.{read_tells}
use Rattle.bdb_catalog.specs.Bases.{StoresSome}
use Rattle.bdb_catalog.specs.Opening.{IsPartOf}
use Rattle.bdb_update.proofs.CallLemmas.{gone_itself}

-- how many lines there are, by what a session knows
abbrev pub known_lines : Known → ℕ
known_lines k = lines_by (length (user_names k.catalog.users)) (length k.catalog.rels) k.counts

pub lines_known : (t : Tables) (k : Known) (s : State) → Agrees t k s → line_count s.base.catalog (canon_of s.base) ≡ known_lines k
lines_known t k s a =
    lines_are t s.base a.base.stored
    ∙ ap (λ (c : Catalog). lines_by (length (user_names c.users)) (length c.rels) (counts_of s.base)) (sym a.catalog)
    ∙ ap (lines_by (length (user_names k.catalog.users)) (length k.catalog.rels)) (sym a.counts)

-- too many lines are refused, and others told
pub many_lines : (t : Tables) (k : Known) (s : State) → Agrees t k s → nat_lt most_lines (known_lines k) ≡ true → bound_outcome s ShowTables ≡ Refused refusal.Many
many_lines t k s a many =
    let lines = line_count s.base.catalog (canon_of s.base) in
    unless_some (too_many lines) refusal.Many (Done (tables_reply s.base.catalog (canon_of s.base)) 0 s)
    (cond-true (nat_lt most_lines lines) (Some refusal.Many) None (ap (nat_lt most_lines) (lines_known t k s a) ∙ many))

pub few_lines : (t : Tables) (k : Known) (s : State) (canon : Canon) → Agrees t k s → canon ≡ canon_of s.base → nat_lt most_lines (known_lines k) ≡ false
    → bound_outcome s ShowTables ≡ Done (tables_reply k.catalog canon) 0 s
few_lines t k s canon a is few =
    let lines = line_count s.base.catalog (canon_of s.base) in
    unless_none (too_many lines) (Done (tables_reply s.base.catalog (canon_of s.base)) 0 s)
    (cond-false (nat_lt most_lines lines) (Some refusal.Many) None (ap (nat_lt most_lines) (lines_known t k s a) ∙ few))
    ∙ ap (λ (c : Canon). Done (tables_reply s.base.catalog c) 0 s) (sym is) ∙ ap (λ (c : Catalog). Done (tables_reply c canon) 0 s) (sym a.catalog)

pub many_lines_tell : (k : Known) (old new : Seen) (result : Result Reply StopError) → AgreesOnSome old.kept k → nat_lt most_lines (known_lines k) ≡ true
    → IsSaid k.catalog (Refused refusal.Many) old new result → TellsWithin (λ s. bound_outcome s ShowTables) k k old new result
many_lines_tell k old new result some many said =
    read_tells (λ s. bound_outcome s ShowTables) (λ s. Refused refusal.Many) k old old new result some (gone_itself old) refl (λ s a. many_lines old.kept k s a many) (λ s. refl) (λ s. said)

-- the structure that is read is told
pub tables_tell : (k : Known) (canon : Canon) (old mid new : Seen) (result : Result Reply StopError) → AgreesOnSome old.kept k → nat_lt most_lines (known_lines k) ≡ false
    → IsPartOf canon_of old.kept canon → NeverFall old mid → mid.kept ≡ old.kept → GoesOn old mid → ((s : State) → IsSaid k.catalog (Done (tables_reply k.catalog canon) 0 s) mid new result)
    → TellsWithin (λ s. bound_outcome s ShowTables) k k old new result
tables_tell k canon old mid new result some few is fall kept goes said =
    read_tells (λ s. bound_outcome s ShowTables) (λ s. Done (tables_reply k.catalog canon) 0 s) k old mid new result some (record { goes = goes; counts = fall }) kept
    (λ s a. few_lines old.kept k s canon a (is s.base (record { stored = a.base.stored; valid = a.base.valid })) few) (λ s. refl) said

pub some_is_stored : (t : Tables) (k : Known) → AgreesOnSome t k → StoresSome t
some_is_stored t k h = record { base = h.state.base; stores = record { stored = h.agrees.base.stored; valid = h.agrees.base.valid } }
