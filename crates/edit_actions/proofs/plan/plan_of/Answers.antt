use Rattle.std.proofs.Common.{rules}
use Rattle.edit_actions.proofs.Planned.{plan_of, plan_of_move, plan_of_unglue}
use Rattle.edit_actions.proofs.plan.plan_of.Goals as goal

pub returns-in-Retag : goal.returns-in-Retag
returns-in-Retag g c = search (rules, plan_of)

pub returns-in-Move : goal.returns-in-Move
returns-in-Move g c = plan_of_move c.args.draft.now c.args.action.now c.in-Move.names c.as_slice.result.now c.in-Move.dlat c.in-Move.dlon c.plan_move.result c.in-Move.is (search rules) (search rules) (search rules) (search rules)

pub returns-in-Reverse : goal.returns-in-Reverse
returns-in-Reverse g c = search (rules, plan_of)

pub returns-in-Nodes : goal.returns-in-Nodes
returns-in-Nodes g c = search (rules, plan_of)

pub returns-in-Members : goal.returns-in-Members
returns-in-Members g c = search (rules, plan_of)

pub returns-in-Split : goal.returns-in-Split
returns-in-Split g c = search (rules, plan_of)

pub returns-in-Join : goal.returns-in-Join
returns-in-Join g c = search (rules, plan_of)

pub returns-in-Merge : goal.returns-in-Merge
returns-in-Merge g c = search (rules, plan_of)

pub returns-in-Unglue : goal.returns-in-Unglue
returns-in-Unglue g c = search (rules, plan_of_unglue)
