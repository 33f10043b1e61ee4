use Rattle.std.proofs.Common.{◌<◌, length, ◌∙◌, rules}
use Rattle.bdb_memory.proofs.BesideLemmas.{put-beside, shelf-same}
use Rattle.bdb_memory.proofs.beside.swap_beside.Goals as goal

pub returns-in-Ok : goal.returns-in-Ok
returns-in-Ok c =
    let bs = c.args.shelves.now.items in
    let i = c.args.cursor.0 in
    let within : i < length bs = search rules in
    let put = put-beside bs c.index_mut.result.now c.swap_beside.new.self c.args.probe.now i c.args.row c.requires within c.index_mut.ensures.value c.in-Ok.ensures.belongs c.in-Ok.ensures.set in
    record { sorted = put.0; found = put.1.0 ∙ c.in-Ok.ensures.found; set = put.1.1; back = tt; same = tt }

pub returns-in-Err : goal.returns-in-Err
returns-in-Err c =
    let bs = c.args.shelves.now.items in
    let i = c.args.cursor.0 in
    let within : i < length bs = search rules in
    let same = shelf-same bs c.index_mut.result.now c.swap_beside.new.self i c.requires within c.index_mut.ensures.value c.in-Err.ensures.same in
    record { sorted = same.0; found = tt; set = tt; back = c.in-Err.ensures.back; same = same.1 }
