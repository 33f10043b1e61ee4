use Rattle.bdb_decode.proofs.ItemLemmas.{item_found, item_missing, numbers_ascend}
use Rattle.bdb_decode.proofs.items.item_of.Goals as goal

pub place_of_number-requires : goal.place_of_number-requires
place_of_number-requires g c = numbers_ascend c.args.items.now c.requires

pub returns-in-Some : goal.returns-in-Some
returns-in-Some g c = item_found c.args.items.now c.in-Some.at c.args.number c.index-items-at.result (numbers_ascend c.args.items.now c.requires) c.in-Some.ensures

pub returns-in-None : goal.returns-in-None
returns-in-None g c = item_missing c.args.items.now c.args.number c.in-None.ensures
