use Rattle.std.proofs.Common.{◌∙◌}
use Rattle.rising_lists.proofs.lists.RisingLists.of.Goals as goal
use Rattle.rising_lists.specs.Facts.Rows.{values_found}

pub returns-in-Some : goal.returns-in-Some
returns-in-Some g c = c.as_slice.ensures ∙ values_found c.args.self.now.kept c.args.key.now _ c.in-Some.ensures.value

pub returns-in-None : goal.returns-in-None
returns-in-None g c = values_found c.args.self.now.kept c.args.key.now _ c.in-None.ensures.value
