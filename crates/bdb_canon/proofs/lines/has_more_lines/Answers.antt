use Rattle.std.proofs.Common.{◌≡◌, ◌∙◌, ◌+◌, ap, length, nat_lt, sum_by, arith}
use Rattle.bdb_base.specs.Bases.{key_lengths}
use Rattle.bdb_base.specs.Queries.{user_numbers}
use Rattle.bdb_base.specs.States.{states_of}
use Rattle.bdb_base.specs.WorldRows.{tuples_of}
use Rattle.bdb_canon.specs.Canonical.{canon_of, edge_count, line_count, row_count}
use Rattle.bdb_canon.proofs.LineLemmas.{lines_by_counts, passes_whole}
use Rattle.bdb_canon.proofs.lines.has_more_lines.Goals as goal

pub returns : goal.returns
returns c =
    let base = c.args.base.now in
    let us = c.as_slice-2.result.now in
    let ps = c.as_slice-3.result.now in
    let stmts = c.stmts-stmts.ensures.value in
    let rels = c.as_slice-rels.ensures ∙ ap (λ k. k.rels) c.catalog-catalog.ensures.value in
    let users = c.in_ok-users.ensures ∙ ap user_numbers (c.as_slice.ensures ∙ ap (λ k. k.users) c.catalog-catalog.ensures.value) in
    let states = c.in_ok-states.ensures ∙ ap states_of stmts in
    let tuples = c.in_ok-tuples.ensures ∙ ap tuples_of stmts in
    let u : c.len.result ≡ length (user_numbers base.catalog.users) = c.len.ensures ∙ ap length users in
    let r : c.len-2.result ≡ length base.catalog.rels = c.len-2.ensures ∙ ap (λ k. length k.rels) c.catalog-catalog.ensures.value in
    let t : c.len-3.result ≡ length (tuples_of base.stmts) = c.len-3.ensures ∙ ap length tuples in
    let s : c.len-4.result ≡ length (states_of base.stmts) = c.len-4.ensures ∙ ap length states in
    let edges : sum_by (edge_count us) ps ≡ sum_by (edge_count (user_numbers base.catalog.users)) (states_of base.stmts) =
    ap (λ xs. sum_by (edge_count xs) ps) (c.as_slice-2.ensures ∙ users) ∙ ap (sum_by (edge_count (user_numbers base.catalog.users))) (c.as_slice-3.ensures ∙ states) in
    let keys = key_lengths base.catalog.rels in
    let found = sum_by (row_count (key_lengths c.as_slice-rels.result.now) c.stmts-stmts.result.now) ps in
    let rows : found ≡ sum_by (row_count keys base.stmts) (states_of base.stmts) =
    ap (λ rs. sum_by (row_count (key_lengths rs) c.stmts-stmts.result.now) ps) rels ∙ ap (λ xs. sum_by (row_count keys xs) ps) stmts
    ∙ ap (sum_by (row_count keys base.stmts)) (c.as_slice-3.ensures ∙ states) in
    let head = c.len.result + c.len-2.result + c.len-3.result + c.len-4.result in
    let whole = lines_by_counts base in
    let same : head + (sum_by (edge_count us) ps + found) ≡ line_count base.catalog (canon_of base) = omega arith in
    c.in_ok-more.ensures
    ∙ passes_whole c.args.most head (sum_by (edge_count us) ps + found) c.if-most-head.false
    ∙ ap (nat_lt c.args.most) same
