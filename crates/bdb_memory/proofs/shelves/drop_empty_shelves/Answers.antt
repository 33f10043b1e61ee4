use Rattle.std.proofs.Common.{◌≡◌, Bool, true, false, not, refl, sym, ap, ◌∙◌, subst, rules}
use Rattle.std.specs.Prelude.{filter}
use Rattle.std.proofs.lemmas.Fn.{filter_same}
use Rattle.bdb_memory.specs.Blocks.{joined, HaveEntries, has_any}
use Rattle.bdb_memory.proofs.BlocksLemmas.{joined-full, full-filter}
use Rattle.bdb_memory.proofs.shelves.drop_empty_shelves.Goals as goal

not_not : (b : Bool) → not (not b) ≡ b
not_not true = refl
not_not false = refl

pub returns : goal.returns
returns c =
    let e : c.retain.new.self.items ≡ filter has_any c.args.shelves.now.items = filter_same _ has_any _ (λ x b f' t. search (rules, not_not)) c.args.shelves.now.items c.retain.new.self.items c.retain.ensures.filtered in
    record { same = ap joined e ∙ joined-full c.args.shelves.now.items; full = subst HaveEntries (sym e) (full-filter c.args.shelves.now.items) }
