use Rattle.std.proofs.Common.{◌≡◌, ◌++◌, ◌∷◌, [], Some, rules, subst}
use Rattle.std.specs.BTreeMap.{get, Updates}
use Rattle.bdb_base.specs.Order.{row_cmp}
use Rattle.bdb_exec.specs.Indexes.{group_of}
use Rattle.bdb_exec.proofs.IndexLemmas.{put_at}
use Rattle.bdb_exec.proofs.index.put.Goals as goal

pub returns : goal.returns
returns c =
    let old = c.args.groups.now in
    let rest = c.taken-group.new.groups in
    let new = c.insert.new.self in
    let key = c.args.key in
    let group : c.push.new.self ≡ group_of (get row_cmp old key) ++ (c.args.shared.now ∷ []) = search rules in
    put_at old rest new key c.args.shared.now c.taken-group.ensures.rest (subst (λ ts. Updates row_cmp rest new key (Some ts)) group c.in_ok-insert.ensures.updates)
