-- What a batch is told: lines without an error, and behind them nothing, or an error.
use Rattle.std.proofs.Common.{◌≡◌, ◌∙◌, ℕ, Bool, true, ◌&&◌, MatchBool, List, [], ◌∷◌, ◌++◌, refl, ap, sym, append_assoc}
use Rattle.std.specs.Prelude.{codes, if◌then◌else◌}
use Rattle.std.specs.List.{flat_map, list_all}
use Rattle.std.proofs.lemmas.Bool.{and_from}
use Rattle.std.proofs.lemmas.List.Concat.{flat_map-append}
use Rattle.std.proofs.lemmas.List.Folds.{list_all-append}
use Rattle.bdb_base.specs.declared.kinds.Catalog.{Catalog}
use Rattle.bdb_base.specs.Texts.{line}
use Rattle.bdb_render.specs.Refusals.{cause_text, refusal_reply}
use Rattle.bdb_session.proofs.ErrorLemmas.{IsQuietOutcome, outcome_quiet}
use Rattle.bdb_session.proofs.ErrorTexts.{is_quiet}
use Rattle.bdb_session.proofs.ErrorValid.{bases_stay_valid}
use Rattle.bdb_session.specs.Batches.{batch_text, up_to_refused}
use Rattle.bdb_session.specs.ErrorLaws.{HasValidBase}
use Rattle.bdb_session.specs.Machine.{next_state, outcome_of}
use Rattle.bdb_session.specs.Outcome.{State, Outcome, Blank, Refused, Done, is_accepted, state_after, text_of}
use Rattle.bdb_session.specs.Runs.{accepts_all, replies}
use Rattle.bdb_session.specs.declared.event.ScriptEvent.{ScriptEvent}

-- lines that tell no error, and behind them nothing, or an error
pub record AreTold (fine : Bool) (text : List ℕ) : Type 0 where
  pub texts : List (List ℕ)
  pub last : List ℕ
  pub is : text ≡ flat_map line texts ++ last
  pub quiet : list_all is_quiet texts ≡ true
  pub ends : MatchBool fine (last ≡ []) ((more : List ℕ) × (last ≡ codes "error " ++ more))

-- one outcome, and then what is told behind it
told_next : (c : Catalog) (s : State) (o : Outcome) (es : List ScriptEvent) → IsQuietOutcome o → AreTold (accepts_all (state_after s o) es) (batch_text (state_after s o) es)
    → AreTold (is_accepted o && accepts_all (state_after s o) es) (text_of c o ++ replies (state_after s o) (if is_accepted o then up_to_refused (state_after s o) es else []))
told_next c s Blank es q h = h
told_next c s (Refused r) es q h = record {
  texts = [];
  last = refusal_reply c r ++ [];
  is = refl;
  quiet = refl;
  ends = (
    (cause_text c r ++ 10 ∷ []) ++ [],
    ap (λ x. x ++ []) (append_assoc (codes "error ") (cause_text c r) (10 ∷ [])) ∙ append_assoc (codes "error ") (cause_text c r ++ 10 ∷ []) [],
  );
}
told_next c s (Done text answers next) es q h = record {
  texts = q.texts ++ h.texts;
  last = h.last;
  is = ap (λ x. x ++ batch_text next es) q.is ∙ ap (λ y. flat_map line q.texts ++ y) h.is
      ∙ sym (append_assoc (flat_map line q.texts) (flat_map line h.texts) h.last) ∙ ap (λ x. x ++ h.last) (sym (flat_map-append line q.texts h.texts));
  quiet = list_all-append is_quiet q.texts h.texts ∙ and_from (list_all is_quiet q.texts) (list_all is_quiet h.texts) q.quiet h.quiet;
  ends = h.ends;
}

pub batch_told : (s : State) (es : List ScriptEvent) → HasValidBase s → AreTold (accepts_all s es) (batch_text s es)
batch_told s [] v = record { texts = []; last = []; is = refl; quiet = refl; ends = refl }
batch_told s (e ∷ es) v = told_next s.base.catalog s (outcome_of s e) es (outcome_quiet s e v) (batch_told (next_state s e) es (bases_stay_valid s e v))
