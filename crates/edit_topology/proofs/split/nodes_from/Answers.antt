use Rattle.std.proofs.Common.{Ok, drop, ap, ◌∙◌}
use Rattle.std.specs.declared.alloc.AllocError.{AllocError}
use Rattle.std.proofs.lemmas.Iterator.{YieldsList-from_slice, items_from_collect}
use Rattle.std.proofs.lemmas.Iterator.Adapters.{YieldsList-from_skip}
use Rattle.std.proofs.lemmas.Iterator.Consumers.{YieldsList-from_copied}
use Rattle.edit_topology.proofs.split.nodes_from.Goals as goal

pub returns : goal.returns
returns g c =
    c.from_vec.ensures
    ∙ items_from_collect {E = AllocError} (Ok c.in_ok-names.names) c.in_ok-names.ensures.ran (YieldsList-from_copied (YieldsList-from_skip c.args.place (YieldsList-from_slice c.names.result.now cc) cc))
    ∙ ap (drop c.args.place) c.names.ensures.names
