use Rattle.std.proofs.Common.{◌≡◌, ◌∙◌, ◌++◌, codes, ap}
use Rattle.bdb_gen.specs.Draws.{next_state, drawn}
use Rattle.bdb_gen.specs.Scripts.{after_path, path_text, not_text, values_text}
use Rattle.bdb_gen.proofs.PathLemmas.{twice}
use Rattle.bdb_gen.proofs.lines.append_insert.Goals as goal

pub returns-clause-text : goal.returns-clause-text
returns-clause-text c =
    let x = c.args.draws.now in
    let out = c.args.out.now.items in
    let sign : c.draw-sign.result ≡ drawn (after_path x) 4 = c.draw-sign.ensures.drawn ∙ ap (λ s. drawn s 4) c.in_ok-append_path.ensures.state in
    let state : c.draw-sign.new.self ≡ next_state (after_path x) = c.draw-sign.ensures.state ∙ ap next_state c.in_ok-append_path.ensures.state in
    let value : c.draw-value.result ≡ drawn (next_state (after_path x)) 3 = c.draw-value.ensures.drawn ∙ ap (λ s. drawn s 3) state in
    let first = codes "insert into " in
    let path = twice out _ _ first (path_text x) c.in_ok-extend_from_slice.ensures.items c.in_ok-append_path.ensures.text in
    let negated = twice out _ _ (first ++ path_text x) (not_text c.draw-sign.result) path c.in_ok-append_not.ensures in
    twice out _ _ (first ++ path_text x ++ not_text c.draw-sign.result) (values_text c.args.key c.draw-value.result) negated c.in_ok-append_values.ensures
    ∙ ap (λ s. out ++ (first ++ path_text x ++ not_text s ++ values_text c.args.key c.draw-value.result)) sign
    ∙ ap (λ v. out ++ (first ++ path_text x ++ not_text (drawn (after_path x) 4) ++ values_text c.args.key v)) value
