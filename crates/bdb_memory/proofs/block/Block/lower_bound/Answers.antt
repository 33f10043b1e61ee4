use Rattle.std.proofs.Common.{◌≡◌, ◌+◌, ◌-◌, ◌<◌, ◌≤◌, [], None, false, true, length, take, suc, ap, sym, ◌∙◌, subst, arith}
use Rattle.std.specs.Ordering.{is_lt}
use Rattle.bdb_keep.specs.Tables.{bytes_cmp}
use Rattle.bdb_memory.specs.Entries.{AreBelow}
use Rattle.bdb_memory.specs.Blocks.{entry_at}
use Rattle.bdb_memory.proofs.BlocksLemmas.{below-up-to, none-below-from}
use Rattle.bdb_memory.proofs.block.Block.lower_bound.Goals as goal
use Rattle.bdb_memory.proofs.block.Block.lower_bound.Goals.{else-len-at-via-then-len-at+else-is_below, else-len-at-via-else-len-at}

pub loop-step-preserved-then-is_below : goal.loop-step-preserved-then-is_below
loop-step-preserved-then-is_below c =
    let q = c.args.probe.now in
    let es = c.args.self.now in
    let n = c.loop-step.at + c.loop-step.step - 1 in
    let within : c.loop-step.at + c.loop-step.step ≤ length es = omega arith in
    let below : is_lt (bytes_cmp (entry_at es n).0 q) ≡ true = ap (λ e. is_lt (bytes_cmp e.0 q)) (sym c.entry.ensures) ∙ sym c.is_below.ensures ∙ c.if-is_below.true in
    let end : suc n ≡ c.loop-step.at + c.loop-step.step = omega arith in
    record {
      within = within;
      below = subst (λ m. AreBelow q (take m es)) end (below-up-to q es n ([], None) c.requires (omega arith) below);
      above = λ none. absurd (omega arith);
    }

pub loop-step-preserved : goal.loop-step-preserved
loop-step-preserved c =
    let q = c.args.probe.now in
    let es = c.args.self.now in
    record {
      within = c.loop-step.invariant.within;
      below = c.loop-step.invariant.below;
      above = λ none. none-below-from q es c.loop-step.at ([], None) c.requires (λ more. not_below (c.shorter_step-step.ensures.last none) more);
    }
  where
    not_below : c.loop-step.step ≤ 1 → c.loop-step.at < length c.args.self.now → is_lt (bytes_cmp (entry_at c.args.self.now c.loop-step.at).0 c.args.probe.now) ≡ false
    not_below one more = elim c.else-len-at.branch [
      | else-len-at-via-then-len-at+else-is_below w ↦
          let here : c.loop-step.at + c.loop-step.step - 1 ≡ c.loop-step.at = omega arith in
          ap (λ n. is_lt (bytes_cmp (entry_at c.args.self.now n).0 c.args.probe.now)) (sym here) ∙ ap (λ e. is_lt (bytes_cmp e.0 c.args.probe.now)) (sym w.entry.ensures) ∙ sym w.is_below.ensures ∙ w.if-is_below.false
      | else-len-at-via-else-len-at w ↦ absurd (omega arith)
    ]
