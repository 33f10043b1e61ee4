use Rattle.std.proofs.Common.{◌≡◌, [], get_or, None, sym, ap, ◌∙◌, subst}
use Rattle.bdb_memory.specs.Entries.{place_at}
use Rattle.bdb_memory.specs.Blocks.{has_any, HasEntry}
use Rattle.bdb_memory.specs.Shelves.{IsChangedAt}
use Rattle.bdb_memory.proofs.BlocksLemmas.{block-read}
use Rattle.bdb_memory.proofs.ShelvesLemmas.{shelf-gone, shelf-taken, got-set, not-any, not-none, none-any, entry-any}
use Rattle.bdb_memory.proofs.shelves.remove_on.Goals as goal

pub returns-then-is_empty : goal.returns-then-is_empty
returns-then-is_empty c =
    let bs = c.args.shelves.now.items in
    let q = c.args.probe.now in
    let i = c.args.at in
    let old = c.index_mut.result.now in
    let fs = c.remove-spot.new.self in
    let read : old ≡ get_or bs i [] = block-read bs i old c.index_mut.ensures.value c.requires.shelf.block in
    let change : IsChangedAt (get_or bs i []) fs q (place_at old q) None = subst (λ es. IsChangedAt es fs q (place_at old q) None) read c.remove-spot.ensures in
    let is : c.index.result.now ≡ fs = c.index.ensures ∙ got-set bs i fs c.index.result.now c.requires.shelf.block in
    let none : fs ≡ [] = none-any fs (ap has_any (sym is) ∙ not-any (has_any c.index.result.now) c.if-is_empty.ensures) in
    let gone = shelf-gone bs c.remove.new.self.items fs q i (place_at old q) c.requires.sorted c.requires.shelf change none c.remove.ensures.items in
    record { sorted = gone.sorted; set = gone.set }

pub returns-else-is_empty : goal.returns-else-is_empty
returns-else-is_empty c =
    let bs = c.args.shelves.now.items in
    let q = c.args.probe.now in
    let i = c.args.at in
    let old = c.index_mut.result.now in
    let fs = c.remove-spot.new.self in
    let read : old ≡ get_or bs i [] = block-read bs i old c.index_mut.ensures.value c.requires.shelf.block in
    let change : IsChangedAt (get_or bs i []) fs q (place_at old q) None = subst (λ es. IsChangedAt es fs q (place_at old q) None) read c.remove-spot.ensures in
    let is : c.index.result.now ≡ fs = c.index.ensures ∙ got-set bs i fs c.index.result.now c.requires.shelf.block in
    let some : HasEntry fs = entry-any fs (ap has_any (sym is) ∙ not-none (has_any c.index.result.now) c.if-is_empty.ensures) in
    let taken = shelf-taken bs fs q i (place_at old q) c.requires.sorted c.requires.shelf change some in
    record { sorted = taken.sorted; set = taken.set }
