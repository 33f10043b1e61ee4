use Rattle.std.proofs.Common.{◌∙◌, ◌++◌, [], false, List, ℕ, drop, get_or, refl, ap, subst}
use Rattle.bdb_keep.specs.Spans.{with_ends}
use Rattle.bdb_key.specs.Bytes.{num_bytes}
use Rattle.bdb_key.specs.Reading.{Reads}
use Rattle.bdb_key.specs.Rows.{IsAnyMark, mark_bytes}
use Rattle.bdb_tables.proofs.CopyLemmas.{copy_made}
use Rattle.bdb_tables.proofs.copies.make_copy.Goals as goal

pub returns : goal.returns
returns c =
    let to = c.args.to in
    let i = c.args.index in
    let old = c.args.span.now in
    let e = get_or old i ([], []) in
    let m = c.mark_from-sign.result in
    let mark : List ℕ = mark_bytes (m.0, false) in
    let reads = subst (λ (r : List ℕ). Reads IsAnyMark mark_bytes r m) (ap (λ (x : List ℕ × List ℕ). x.1) c.entry.ensures) c.mark_from-sign.ensures in
    record {
      row = mark;
      copy = copy_made to e.0 e.1 m (num_bytes to ++ drop 4 e.0, mark) c.ranges.to.fits c.requires.entry reads refl;
      becomes = c.replace_ends.ensures ∙ ap (λ (w : List ℕ). with_ends w c.to_be_bytes-mark.result old i) c.to_be_bytes-world.ensures
          ∙ ap (λ (r : List ℕ). with_ends (num_bytes to) r old i) (c.to_be_bytes-mark.ensures ∙ c.inherited.ensures);
    }
