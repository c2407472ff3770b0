use Rattle.std.proofs.Common.{◌+◌, Ok, take, ap, ◌∙◌}
use Rattle.std.specs.declared.alloc.AllocError.{AllocError}
use Rattle.std.proofs.lemmas.Iterator.{YieldsList-from_slice, YieldsList-from_take, items_from_collect}
use Rattle.std.proofs.lemmas.Iterator.Consumers.{YieldsList-from_copied}
use Rattle.edit_topology.proofs.split.nodes_up_to.Goals as goal

pub returns : goal.returns
returns g c =
    c.from_vec.ensures
    ∙ items_from_collect {E = AllocError} (Ok c.in_ok-names.names) c.in_ok-names.ensures.ran (YieldsList-from_copied (YieldsList-from_take (c.args.place + 1) (YieldsList-from_slice c.names.result.now cc) cc))
    ∙ ap (take (c.args.place + 1)) c.names.ensures.names
