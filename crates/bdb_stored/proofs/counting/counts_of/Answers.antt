use Rattle.std.proofs.Common.{◌≡◌, ◌∙◌, ℕ, ◌<◌, ◌-◌, ◌^◌, List, ap, sym, length, subst, rules, arith}
use Rattle.bdb_val.specs.Reads.{HaveTuples}
use Rattle.bdb_stored.specs.Counting.{TellsCounts}
use Rattle.bdb_stored.proofs.CountingLemmas.{sizes_told, worlds_few, tuples_few, statements_few, rows_few, valid_has_tuples, read_in_turn}
use Rattle.bdb_stored.proofs.counting.counts_of.Goals as goal

pub count_rows-requires-clause-tuples : goal.count_rows-requires-clause-tuples
count_rows-requires-clause-tuples g c =
    subst HaveTuples (sym (c.in-Ok-rows_under.ensures.read.kept ∙ c.in-Ok.ensures.read.kept)) (valid_has_tuples (g.K.Keeper.seen c.args.keeper.now).kept c.requires.base)

pub overflow_cast-result : goal.overflow_cast-result
overflow_cast-result g c =
    let t = (g.K.Keeper.seen c.args.keeper.now).kept in
    let es = c.in-Ok.worlds.items in
    let ds = c.in-Ok-rows_under.tuples.items in
    let r = read_in_turn t _ _ es c.deref.result.now ds c.in-Ok-count_rows.stmts c.in-Ok-count_rows.rows c.in-Ok.ensures.read.kept c.in-Ok-rows_under.ensures.read.kept
    c.deref.ensures.value c.in-Ok.ensures.rows c.in-Ok-rows_under.ensures.rows c.in-Ok-count_rows.ensures.counts in
    let few = worlds_few t es ds c.in-Ok-count_rows.stmts c.in-Ok-count_rows.rows r c.requires.base in omega (arith, c.len.ensures)

pub overflow_cast-result-in-Ok-count_rows : goal.overflow_cast-result-in-Ok-count_rows
overflow_cast-result-in-Ok-count_rows g c =
    let t = (g.K.Keeper.seen c.args.keeper.now).kept in
    let es = c.in-Ok.worlds.items in
    let ds = c.in-Ok-rows_under.tuples.items in
    let r = read_in_turn t _ _ es c.deref.result.now ds c.in-Ok-count_rows.stmts c.in-Ok-count_rows.rows c.in-Ok.ensures.read.kept c.in-Ok-rows_under.ensures.read.kept
    c.deref.ensures.value c.in-Ok.ensures.rows c.in-Ok-rows_under.ensures.rows c.in-Ok-count_rows.ensures.counts in
    let few = tuples_few t es ds c.in-Ok-count_rows.stmts c.in-Ok-count_rows.rows r c.requires.base in omega (arith, c.len-in-Ok-count_rows.ensures)

pub overflow_cast-result-in-Ok-count_rows-2 : goal.overflow_cast-result-in-Ok-count_rows-2
overflow_cast-result-in-Ok-count_rows-2 g c =
    let t = (g.K.Keeper.seen c.args.keeper.now).kept in
    let es = c.in-Ok.worlds.items in
    let ds = c.in-Ok-rows_under.tuples.items in
    let r = read_in_turn t _ _ es c.deref.result.now ds c.in-Ok-count_rows.stmts c.in-Ok-count_rows.rows c.in-Ok.ensures.read.kept c.in-Ok-rows_under.ensures.read.kept
    c.deref.ensures.value c.in-Ok.ensures.rows c.in-Ok-rows_under.ensures.rows c.in-Ok-count_rows.ensures.counts in
    let few = statements_few t es ds c.in-Ok-count_rows.stmts c.in-Ok-count_rows.rows r c.requires.base in omega arith

pub overflow_cast-result-in-Ok-count_rows-3 : goal.overflow_cast-result-in-Ok-count_rows-3
overflow_cast-result-in-Ok-count_rows-3 g c =
    let t = (g.K.Keeper.seen c.args.keeper.now).kept in
    let es = c.in-Ok.worlds.items in
    let ds = c.in-Ok-rows_under.tuples.items in
    let r = read_in_turn t _ _ es c.deref.result.now ds c.in-Ok-count_rows.stmts c.in-Ok-count_rows.rows c.in-Ok.ensures.read.kept c.in-Ok-rows_under.ensures.read.kept
    c.deref.ensures.value c.in-Ok.ensures.rows c.in-Ok-rows_under.ensures.rows c.in-Ok-count_rows.ensures.counts in
    let few = rows_few t es ds c.in-Ok-count_rows.stmts c.in-Ok-count_rows.rows r c.requires.base in omega arith

pub returns-in-Ok-count_rows-clause-counts : goal.returns-in-Ok-count_rows-clause-counts
returns-in-Ok-count_rows-clause-counts g c =
    let t = (g.K.Keeper.seen c.args.keeper.now).kept in
    let es = c.in-Ok.worlds.items in
    let ds = c.in-Ok-rows_under.tuples.items in
    let r = read_in_turn t _ _ es c.deref.result.now ds c.in-Ok-count_rows.stmts c.in-Ok-count_rows.rows c.in-Ok.ensures.read.kept c.in-Ok-rows_under.ensures.read.kept
    c.deref.ensures.value c.in-Ok.ensures.rows c.in-Ok-rows_under.ensures.rows c.in-Ok-count_rows.ensures.counts in
    let a : c.len.result ≡ length es = search rules in
    let d : c.len-in-Ok-count_rows.result ≡ length ds = search rules in
    subst (λ n. TellsCounts t (record { worlds = n; tuples = c.len-in-Ok-count_rows.result; stmts = c.in-Ok-count_rows.stmts; rows = c.in-Ok-count_rows.rows })) (sym a)
    (subst (λ n. TellsCounts t (record { worlds = length es; tuples = n; stmts = c.in-Ok-count_rows.stmts; rows = c.in-Ok-count_rows.rows })) (sym d)
    (sizes_told t es ds c.in-Ok-count_rows.stmts c.in-Ok-count_rows.rows r))

pub returns-in-Ok-count_rows-clause-reads : goal.returns-in-Ok-count_rows-clause-reads
returns-in-Ok-count_rows-clause-reads g c =
    let t = (g.K.Keeper.seen c.args.keeper.now).kept in
    let es = c.in-Ok.worlds.items in
    let ds = c.in-Ok-rows_under.tuples.items in
    let r = read_in_turn t _ _ es c.deref.result.now ds c.in-Ok-count_rows.stmts c.in-Ok-count_rows.rows c.in-Ok.ensures.read.kept c.in-Ok-rows_under.ensures.read.kept
    c.deref.ensures.value c.in-Ok.ensures.rows c.in-Ok-rows_under.ensures.rows c.in-Ok-count_rows.ensures.counts in
    let few = rows_few t es ds c.in-Ok-count_rows.stmts c.in-Ok-count_rows.rows r c.requires.base in
    let a : c.len.result ≡ length es = search rules in
    let d : c.len-in-Ok-count_rows.result ≡ length ds = search rules in
    let w = ap (λ (xs : List (ℕ × ℕ)). length xs) c.deref.ensures.value in
    let below : c.in-Ok-count_rows.rows < 2 ^ 64 - 1 = omega arith in
    let k = c.in-Ok-count_rows.ensures.reads below in
    omega (arith, k, w, a, d, c.in-Ok.ensures.reads, c.in-Ok-rows_under.ensures.reads)
