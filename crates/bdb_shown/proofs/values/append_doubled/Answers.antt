use Rattle.std.proofs.Common.{◌≡◌, ◌∙◌, ℕ, suc, ◌+◌, ◌-◌, ◌≤◌, nat_eq, false, List, [], ◌∷◌, ◌++◌, length, take, drop, sym, ap, subst, arith, rules}
use Rattle.std.specs.List.{flat_map}
use Rattle.std.proofs.lemmas.List.{take_rest}
use Rattle.bdb_base.specs.Texts.{quoted_byte}
use Rattle.bdb_shown.proofs.TextLemmas.{IsLeft, left_behind, left_byte, left_end, left_run, run_more}
use Rattle.bdb_shown.proofs.values.append_doubled.Goals as goal

pub returns-then-first-eq0-clause-written : goal.returns-then-first-eq0-clause-written
returns-then-first-eq0-clause-written c text more h =
    left_end c.in-Some.found.0 c.loop-found.rest.now c.in-Some.found.1.now c.loop-found.out.items (c.args.out.now.items ++ flat_map quoted_byte text) more
    c.in-Some.ensures (search rules) (c.loop-found.invariant.text text more h)

pub returns-then-first-eq0-clause-behind : goal.returns-then-first-eq0-clause-behind
returns-then-first-eq0-clause-behind c text more h =
    left_behind c.in-Some.found.0 c.loop-found.rest.now c.in-Some.found.1.now c.loop-found.out.items (c.args.out.now.items ++ flat_map quoted_byte text) more
    c.in-Some.ensures (search rules) (c.loop-found.invariant.text text more h)

pub loop-found-preserved-then-first-eq39 : goal.loop-found-preserved-then-first-eq39
loop-found-preserved-then-first-eq39 c =
    let b = c.in-Some.found.0 in
    let others = c.in-Some.found.1.now in
    let out = c.loop-found.out.items in
    let is : c.loop-found.rest.now ≡ b ∷ others = search rules in
    let some : nat_eq b 0 ≡ false = search rules in
    let quote : b ≡ 39 = search rules in
    let pushed : c.extend_from_slice.new.self.items ≡ out ++ 39 ∷ 39 ∷ [] = search rules in
    let long : length c.loop-found.rest.now ≡ suc (length others) = ap length is in
    record {
      text = λ text more h.
          let wanted = c.args.out.now.items ++ flat_map quoted_byte text in
          subst (λ (o : List ℕ). IsLeft others o wanted more) (sym pushed)
          (left_byte b others out (39 ∷ 39 ∷ []) wanted more some (ap quoted_byte quote) (subst (λ (r : List ℕ). IsLeft r out wanted more) is (c.loop-found.invariant.text text more h)));
      shorter = omega (arith, long, c.loop-found.invariant.shorter);
    }

pub loop-found-preserved : goal.loop-found-preserved
loop-found-preserved c =
    let b = c.in-Some.found.0 in
    let others = c.in-Some.found.1.now in
    let out = c.loop-found.out.items in
    let n = c.run_length-count.result in
    let is : c.loop-found.rest.now ≡ b ∷ others = search rules in
    let some : nat_eq b 0 ≡ false = search rules in
    let other : nat_eq b 39 ≡ false = search rules in
    let next : n + 1 ≡ suc n = omega arith in
    let pushed : c.extend_from_slice-else-first-eq39.new.self.items ≡ out ++ take (n + 1) c.loop-found.rest.now = search rules in
    let run : take (n + 1) c.loop-found.rest.now ≡ take (suc n) (b ∷ others) = ap (λ (r : List ℕ). take (n + 1) r) is ∙ ap (λ (k : ℕ). take k (b ∷ others)) next in
    let long : length c.loop-found.rest.now ≡ suc (length others) = ap length is in
    let within : suc n ≤ length (b ∷ others) = omega (arith, c.run_length-count.ensures.within) in
    let behind : take (length others - n) (drop n others) ≡ drop n others = take_rest others n in
    let less : length (drop n others) ≤ length others = search rules in
    let same : length (take (length others - n) (drop n others)) ≡ length (drop n others) = ap length behind in
    record {
      text = λ text more h.
          let wanted = c.args.out.now.items ++ flat_map quoted_byte text in
          subst (λ (r : List ℕ). IsLeft r c.extend_from_slice-else-first-eq39.new.self.items wanted more) (sym behind)
          (subst (λ (o : List ℕ). IsLeft (drop n others) o wanted more) (sym (pushed ∙ ap (λ (x : List ℕ). out ++ x) run))
          (left_run (suc n) (b ∷ others) out wanted more within (run_more b n others some other c.run_length-count.ensures.run)
          (subst (λ (r : List ℕ). IsLeft r out wanted more) is (c.loop-found.invariant.text text more h))));
      shorter = omega (arith, long, less, same, c.loop-found.invariant.shorter);
    }
