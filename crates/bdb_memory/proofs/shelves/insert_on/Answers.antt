use Rattle.std.proofs.Common.{◌≡◌, [], get_or, Some, sym, ap, ◌∙◌, subst}
use Rattle.bdb_memory.specs.Entries.{place_at}
use Rattle.bdb_memory.specs.Blocks.{joined, AreSorted}
use Rattle.bdb_memory.specs.Shelves.{IsChangedAt}
use Rattle.bdb_memory.proofs.BlocksLemmas.{block-read}
use Rattle.bdb_memory.proofs.ShelvesLemmas.{shelf-place, shelf-set, sorted-put, set-itself}
use Rattle.bdb_memory.proofs.shelves.insert_on.Goals as goal

pub returns-in-Ok : goal.returns-in-Ok
returns-in-Ok c =
    let bs = c.args.shelves.now.items in
    let q = c.args.probe.now in
    let i = c.args.cursor.0 in
    let old = c.index_mut.result.now in
    let read : old ≡ get_or bs i [] = block-read bs i old c.index_mut.ensures.value c.requires.shelf.block in
    let change : IsChangedAt (get_or bs i []) c.insert.new.self q (place_at old q) (Some (Some c.args.row.now)) =
    subst (λ es. IsChangedAt es c.insert.new.self q (place_at old q) (Some (Some c.args.row.now))) read c.in-Ok.ensures.set in
    record {
      sorted = sorted-put bs c.insert.new.self q i (place_at old q) (Some c.args.row.now) c.requires.sorted c.requires.shelf change;
      found = shelf-place bs q i c.requires.sorted c.requires.shelf ∙ ap (λ es. place_at es q) (sym read) ∙ c.in-Ok.ensures.found;
      set = shelf-set bs c.insert.new.self q i (place_at old q) (Some (Some c.args.row.now)) c.requires.sorted c.requires.shelf change;
      err = tt;
    }

pub returns-in-Err : goal.returns-in-Err
returns-in-Err c =
    let bs = c.args.shelves.now.items in
    let i = c.args.cursor.0 in
    let old = c.index_mut.result.now in
    let read : old ≡ get_or bs i [] = block-read bs i old c.index_mut.ensures.value c.requires.shelf.block in
    let same = set-itself bs i c.insert.new.self (c.in-Err.ensures.err ∙ read) c.requires.shelf.block in
    record { sorted = subst AreSorted (sym same) c.requires.sorted; found = tt; set = tt; err = ap joined same }
