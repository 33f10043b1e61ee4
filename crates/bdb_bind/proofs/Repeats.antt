-- The first column of a list whose name stands earlier, and the first item whose alias does.
use Rattle.std.proofs.Common.{◌≡◌, ℕ, ◌+◌, ◌<◌, suc, ◌++◌, ◌∷◌, [], List, length, get_or, take, drop, Some, cond, ap, ◌∙◌, sym, add-one}
use Rattle.std.proofs.Math.Seq.{drop-cons}
use Rattle.std.proofs.lemmas.List.{take_more}
use Rattle.std.specs.List.{list_any}
use Rattle.bdb_base.specs.declared.kinds.ColDef.{ColDef}
use Rattle.bdb_base.specs.Same.{same_text}
use Rattle.bdb_syntax.specs.declared.command.RawItem.{RawItem}
use Rattle.bdb_bind.specs.declared.bound.BindError.TheVariants as error
use Rattle.bdb_bind.specs.Firsts.{refused_if, or_next}
use Rattle.bdb_bind.specs.Lines.{first_repeated}
use Rattle.bdb_bind.specs.QueryLines.{alias_twice}

-- one step of the search, at a place of the list
pub first_repeated_at : (cols : List ColDef) (at : ℕ) (c : ColDef) → at < length cols → c ≡ get_or cols at c → first_repeated (take at cols) (drop at cols)
    ≡ cond (list_any (λ e. same_text c.name e.name) (take at cols)) (Some c.name) (first_repeated (take (at + 1) cols) (drop (at + 1) cols))
first_repeated_at cols at c below item =
    let here : drop at cols ≡ c ∷ drop (at + 1) cols = rw add-one (drop-cons cols at c below ∙ ap (λ x. x ∷ drop (suc at) cols) (sym item)) in
    let more : take (at + 1) cols ≡ take at cols ++ c ∷ [] = take_more cols at c below ∙ ap (λ x. take at cols ++ x ∷ []) (sym item) in
    ap (first_repeated (take at cols)) here ∙ ap (λ seen. cond (list_any (λ e. same_text c.name e.name) (take at cols))
    (Some c.name) (first_repeated seen (drop (at + 1) cols))) (sym more)

-- the same for aliases
pub alias_twice_at : (items : List RawItem) (at : ℕ) (i : RawItem) → at < length items → i ≡ get_or items at i → alias_twice (take at items) (drop at items)
    ≡ or_next (refused_if (list_any (λ e. same_text i.alias e.alias) (take at items)) (error.AliasTwice i.alias)) (alias_twice (take (at + 1) items) (drop (at + 1) items))
alias_twice_at items at i below item =
    let here : drop at items ≡ i ∷ drop (at + 1) items = rw add-one (drop-cons items at i below ∙ ap (λ x. x ∷ drop (suc at) items) (sym item)) in
    let more : take (at + 1) items ≡ take at items ++ i ∷ [] = take_more items at i below ∙ ap (λ x. take at items ++ x ∷ []) (sym item) in
    ap (alias_twice (take at items)) here ∙ ap (λ seen. or_next (refused_if (list_any (λ e. same_text i.alias e.alias) (take at items)) (error.AliasTwice i.alias))
    (alias_twice seen (drop (at + 1) items))) (sym more)
