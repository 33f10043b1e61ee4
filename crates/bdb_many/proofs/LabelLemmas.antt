-- Lines with labels.
use Rattle.std.proofs.Common.{◌≡◌, ◌∙◌, ℕ, true, false, not, nat_eq, List, [], ◌∷◌, ◌++◌, refl, ap, sym, append_assoc}
use Rattle.std.specs.List.{flat_map, list_all}
use Rattle.bdb_base.specs.Texts.{line}
use Rattle.std.proofs.lemmas.Bool.{and_parts, not-true}
use Rattle.bdb_lex.specs.Spans.{lacks}
use Rattle.bdb_many.specs.Labels.{label, labelled_from, LinesAreLabelled}

-- within a line there is no label
within : (m text rest : List ℕ) → lacks 10 text ≡ true → labelled_from m false (text ++ 10 ∷ rest) ≡ text ++ 10 ∷ labelled_from m true rest
within m [] rest h = refl
within m (b ∷ text) rest h =
    let parts = and_parts (not (nat_eq b 10)) (lacks 10 text) h in
    ap (λ d. b ∷ labelled_from m d (text ++ 10 ∷ rest)) (not-true (nat_eq b 10) parts.0) ∙ ap (λ v. b ∷ v) (within m text rest parts.1)

-- before it there is one
pub one_line : (m text rest : List ℕ) → lacks 10 text ≡ true → labelled_from m true (text ++ 10 ∷ rest) ≡ m ++ (text ++ 10 ∷ labelled_from m true rest)
one_line m [] rest h = refl
one_line m (b ∷ text) rest h =
    let parts = and_parts (not (nat_eq b 10)) (lacks 10 text) h in
    ap (λ d. m ++ (b ∷ labelled_from m d (text ++ 10 ∷ rest))) (not-true (nat_eq b 10) parts.0) ∙ ap (λ v. m ++ (b ∷ v)) (within m text rest parts.1)

lines_labelled : (m : List ℕ) (texts : List (List ℕ)) → list_all (lacks 10) texts ≡ true
    → labelled_from m true (flat_map line texts) ≡ flat_map (λ t. m ++ line t) texts
lines_labelled m [] h = refl
lines_labelled m (t ∷ texts) h =
    let parts = and_parts (lacks 10 t) (list_all (lacks 10) texts) h in
    ap (labelled_from m true) (append_assoc t (10 ∷ []) (flat_map line texts))
    ∙ (one_line m t (flat_map line texts) parts.0
    ∙ (ap (λ v. m ++ (t ++ 10 ∷ v)) (lines_labelled m texts parts.1)
    ∙ (ap (λ v. m ++ v) (sym (append_assoc t (10 ∷ []) (flat_map (λ t. m ++ line t) texts)))
    ∙ sym (append_assoc m (line t) (flat_map (λ t. m ++ line t) texts)))))

pub lines_are_labelled : LinesAreLabelled
lines_are_labelled n texts h = lines_labelled (label n) texts h
