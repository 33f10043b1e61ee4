use Rattle.std.proofs.Common.{◌≡◌, ◌∙◌, ◌+◌, ◌∷◌, List, Option, ap, sym, subst, drop}
use Rattle.std.specs.Option.{option_copied}
use Rattle.std.proofs.lemmas.List.{drop_more, drop_all}
use Rattle.bdb_base.specs.declared.kinds.Stmt.{Stmt}
use Rattle.bdb_base.specs.Bases.{key_lengths}
use Rattle.bdb_model.proofs.ClashLemmas.{HasFirst, first_begins, first_goes_on, first_is_kept, none_clashes}
use Rattle.bdb_model.proofs.conflicts.first_clashing_among.Goals as goal

pub loop-x-init : goal.loop-x-init
loop-x-init c = first_begins (key_lengths c.args.rels.now) c.args.path.now c.args.stmts.now c.requires

pub returns-then-clashes_after : goal.returns-then-clashes_after
returns-then-clashes_after c =
    let stmts = c.args.stmts.now in
    let w = c.args.path.now in
    let last = option_copied c.loop-x.last in
    let x = c.x-item.result in
    let xs = drop (c.loop-x.x-index + 1) stmts in
    let P : List Stmt → Type 0 = λ rest. HasFirst (key_lengths c.args.rels.now) w stmts last rest in
    let split : drop c.loop-x.x-index stmts ≡ x ∷ xs = drop_more stmts c.loop-x.x-index x c.loop-x-test.true ∙ ap (λ y. y ∷ xs) (sym c.x-item.is) in
    first_is_kept (key_lengths c.args.rels.now) w stmts last x xs (subst P split c.loop-x.invariant) (sym c.clashes_after.ensures ∙ c.if-clashes_after.true)

pub loop-x-preserved : goal.loop-x-preserved
loop-x-preserved c =
    let stmts = c.args.stmts.now in
    let w = c.args.path.now in
    let last = option_copied c.loop-x.last in
    let x = c.x-item.result in
    let xs = drop (c.loop-x.x-index + 1) stmts in
    let P : List Stmt → Type 0 = λ rest. HasFirst (key_lengths c.args.rels.now) w stmts last rest in
    let Q : Option Stmt → Type 0 = λ next. HasFirst (key_lengths c.args.rels.now) w stmts next xs in
    let split : drop c.loop-x.x-index stmts ≡ x ∷ xs = drop_more stmts c.loop-x.x-index x c.loop-x-test.true ∙ ap (λ y. y ∷ xs) (sym c.x-item.is) in
    subst Q (sym c.last_plus-last.ensures) (first_goes_on (key_lengths c.args.rels.now) w stmts last x xs (subst P split c.loop-x.invariant) (sym c.clashes_after.ensures ∙ c.if-clashes_after.false))

pub returns : goal.returns
returns c =
    let stmts = c.args.stmts.now in
    let last = option_copied c.loop-x.last in
    let P : List Stmt → Type 0 = λ rest. HasFirst (key_lengths c.args.rels.now) c.args.path.now stmts last rest in
    none_clashes (key_lengths c.args.rels.now) c.args.path.now stmts last (subst P (drop_all c.loop-x.x-index stmts c.loop-x-test.false) c.loop-x.invariant)
