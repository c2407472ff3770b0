use Rattle.edit_simple.proofs.PurgeLoops.{cut, not_cut}
use Rattle.edit_simple.proofs.cut_short.is_cut_short.Goals as goal

pub returns-then-left-names : goal.returns-then-left-names
returns-then-left-names c = cut c.args.purged.now c.args.names.now c.count_others-left.result c.count_others-left.ensures c.if-left-names.true

pub returns-else-left-names : goal.returns-else-left-names
returns-else-left-names c = not_cut c.args.purged.now c.args.names.now c.count_others-left.result c.count_others-left.ensures c.if-left-names.false
