use Rattle.std.proofs.Common.{◌≡◌, ◌+◌, ◌<◌, ◌≤◌, List, ℕ, [], length, get_or, refl, sym, subst, arith}
use Rattle.bdb_tables.specs.Codec.{IsEntryOf}
use Rattle.bdb_tables.specs.InUse.{val_codec}
use Rattle.bdb_tables.proofs.CopyLemmas.{as_many, copies_all, copies_more, next_stays}
use Rattle.bdb_tables.proofs.RangeLemmas.{entries_at}
use Rattle.bdb_tables.proofs.copies.make_copies.Goals as goal

pub make_copy-requires-clause-index : goal.make_copy-requires-clause-index
make_copy-requires-clause-index c =
    let many : length c.loop-index.span ≡ length c.args.span.now = as_many c.args.to c.loop-index.index c.args.span.now c.loop-index.span c.loop-index.invariant in
    omega (arith, many, c.len-index-end.ensures, c.loop-index-test.true)

pub make_copy-requires-clause-entry : goal.make_copy-requires-clause-entry
make_copy-requires-clause-entry c =
    let i = c.loop-index.index in
    let rows = c.args.span.now in
    let e = get_or rows i ([], []) in
    let lt : i < length rows = omega (arith, c.len-index-end.ensures, c.loop-index-test.true) in
    subst (λ (x : List ℕ × List ℕ). IsEntryOf val_codec x.0 x.1) (sym (next_stays c.args.to i rows c.loop-index.span c.loop-index.invariant))
    (entries_at val_codec rows i e.0 e.1 c.requires lt refl)

pub loop-index-preserved : goal.loop-index-preserved
loop-index-preserved c =
    let i = c.loop-index.index in
    let lt : i < length c.args.span.now = omega (arith, c.len-index-end.ensures, c.loop-index-test.true) in
    copies_more c.args.to i (i + 1) c.args.span.now c.loop-index.span c.make_copy.new.span lt refl c.loop-index.invariant c.make_copy.ensures

pub returns : goal.returns
returns c =
    let end : length c.args.span.now ≤ c.loop-index.index = omega (arith, c.len-index-end.ensures, c.loop-index-test.false) in
    copies_all c.args.to c.loop-index.index c.args.span.now c.loop-index.span end c.loop-index.invariant
