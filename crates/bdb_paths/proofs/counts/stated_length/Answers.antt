use Rattle.std.proofs.Common.{◌≡◌, ◌∙◌, ℕ, ◌+◌, ◌<◌, max, List, length, drop, get_or, ap, sym, arith}
use Rattle.std.proofs.lemmas.List.{drop_more}
use Rattle.bdb_base.specs.declared.kinds.Stmt.{Stmt}
use Rattle.bdb_paths.specs.Shared.{shared_length, stated_length}
use Rattle.bdb_paths.proofs.SharedLemmas.{stated_length-le}
use Rattle.bdb_paths.proofs.counts.stated_length.Goals as goal

one_more : (xs : List Stmt) (i : ℕ) (x : Stmt) (w : List ℕ) → i < length xs → x ≡ get_or xs i x
    → stated_length (drop i xs) w ≡ max (shared_length w x.path) (stated_length (drop (i + 1) xs) w)
one_more xs i x w h is = ap (λ l. stated_length l w) (drop_more xs i x h) ∙ ap (λ y. max (shared_length w y.path) (stated_length (drop (i + 1) xs) w)) (sym is)

pub returns-then-shared-path-clause-value : goal.returns-then-shared-path-clause-value
returns-then-shared-path-clause-value c =
    let e = one_more c.args.stmts.now c.loop-x.x-index c.x-item.result c.args.path.now c.loop-x-test.true c.x-item.is in
    let l = stated_length-le (drop (c.loop-x.x-index + 1) c.args.stmts.now) c.args.path.now in
    let s = ap (shared_length c.args.path.now) c.as_slice.ensures.users in
    omega arith
