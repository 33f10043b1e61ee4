use Rattle.std.proofs.Common.{◌<◌, length, None, ◌∙◌, rules}
use Rattle.bdb_memory.proofs.BesideLemmas.{put-beside, shelf-same}
use Rattle.bdb_memory.proofs.runs.empty_behind.Goals as goal

pub returns-in-Some : goal.returns-in-Some
returns-in-Some c =
    let bs = c.args.shelves.now.items in
    let i = c.args.cursor.0 in
    let within : i < length bs = search rules in
    let put = put-beside bs c.index_mut.result.now c.empty_behind.new.self c.args.probe.now i None c.requires within c.index_mut.ensures.value c.in-Some.ensures.belongs c.in-Some.ensures.set in
    record { sorted = put.0; found = put.1.0 ∙ c.in-Some.ensures.found; set = put.1.1; same = tt }

pub returns-in-None : goal.returns-in-None
returns-in-None c =
    let bs = c.args.shelves.now.items in
    let i = c.args.cursor.0 in
    let within : i < length bs = search rules in
    let same = shelf-same bs c.index_mut.result.now c.empty_behind.new.self i c.requires within c.index_mut.ensures.value c.in-None.ensures.same in
    record { sorted = same.0; found = tt; set = tt; same = same.1 }
