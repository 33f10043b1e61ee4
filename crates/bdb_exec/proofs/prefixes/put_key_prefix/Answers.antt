use Rattle.std.proofs.Common.{◌≡◌, ◌∙◌, ◌++◌, ℕ, List, ap, subst}
use Rattle.std.proofs.lemmas.List.{append_assoc}
use Rattle.bdb_key.specs.Bytes.{num_bytes}
use Rattle.bdb_exec.specs.Keys.{values_behind}
use Rattle.bdb_tables.specs.Prefixes.{HasPutValues}
use Rattle.bdb_exec.proofs.prefixes.put_key_prefix.Goals as goal

pub returns : goal.returns
returns c =
    let old = c.args.prefix.now.items in
    let w = num_bytes c.args.world in
    let r = num_bytes c.args.rel in
    let n = num_bytes c.args.n in
    let front : c.put_num-3.new.out.items ≡ old ++ (w ++ (r ++ n)) =
    c.in_ok-put_num-3.ensures.ok
    ∙ ap (λ (x : List ℕ). x ++ n) (c.in_ok-put_num-2.ensures.ok ∙ ap (λ (x : List ℕ). x ++ r) (c.in_ok-put_num.ensures.ok ∙ ap (λ (x : List ℕ). x ++ w) c.in_ok-reserve.ensures.items))
    ∙ append_assoc (old ++ w) r n ∙ append_assoc old w (r ++ n) in
    subst (λ (x : List ℕ). HasPutValues c.in_ok-all.all x c.put_asked.new.prefix.items (values_behind c.args.slots.now c.args.item c.args.behind.now c.args.n 0)) front c.in_ok-all.ensures
