use Rattle.std.proofs.Common.{rules, tests, ◌∙◌}
use Rattle.std.proofs.lemmas.Iterator.{YieldsList-from_slice}
use Rattle.std.proofs.lemmas.Iterator.Search.{find_from_yields_List}
use Rattle.edit_topology.specs.Inner.Splitting.{is_overfull}
use Rattle.edit_topology.proofs.split.first_overfull.Goals as goal

pub returns : goal.returns
returns g c =
    c.copied.ensures
    ∙ find_from_yields_List (is_overfull c.args.rows.now c.args.way.now) _ _ c.find.result c.find.ensures.ran (YieldsList-from_slice c.args.its_users.now cc) (λ x b q k. search (rules, tests))
