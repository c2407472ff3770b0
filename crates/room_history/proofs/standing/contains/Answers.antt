use Rattle.std.proofs.Common.{◌∙◌}
use Rattle.room_history.proofs.BinarySearching.{search_tells}
use Rattle.room_history.proofs.standing.contains.Goals as goal

pub returns : goal.returns
returns c = c.is_ok.ensures.value ∙ search_tells c.args.seq c.args.standing.now c.requires c.binary_search.result c.binary_search.ensures.position
