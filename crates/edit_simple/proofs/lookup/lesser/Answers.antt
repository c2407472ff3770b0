use Rattle.std.proofs.Common.{ap, ◌∙◌}
use Rattle.edit_simple.specs.Prelude.{ord_min, name_cmp_is}
use Rattle.edit_simple.proofs.lookup.lesser.Goals as goal

pub returns-in-Some : goal.returns-in-Some
returns-in-Some c = rw c.in-Some.is (c.min.ensures ∙ ap (λ R. ord_min R c.in-Some.other c.args.name) name_cmp_is)
