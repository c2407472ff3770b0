use Rattle.std.proofs.Common.{◌∷◌, sym, subst, ◌∙◌}
use Rattle.osm_refs.specs.Facts.RisingNames.{IsRising-name_set}
use Rattle.osm_refs.specs.Rising.{IsRising}
use Rattle.edit_topology.proofs.JoinPlans.{join_planned}
use Rattle.edit_topology.proofs.join.plan_join.Goals as goal

pub change_rows-requires : goal.change_rows-requires
change_rows-requires g c = subst IsRising (sym (c.deref.ensures.value ∙ c.in_ok-names.ensures))
    (IsRising-name_set (c.args.name.now ∷ c.args.other.now ∷ c.as_slice.result.now))

pub returns-clause-plan : goal.returns-clause-plan
returns-clause-plan g c =
    join_planned c.args.rows.now c.args.name.now c.args.other.now c.requires c.in_ok-joined.ensures.way.0 c.in_ok-joined.joined c.in_ok-joined.ensures.way.1 c.as_slice.result.now c.deref.result.now
    (c.as_slice.ensures ∙ c.in_ok-its_users.ensures) (c.deref.ensures.value ∙ c.in_ok-names.ensures) c.in_ok-change_rows.field-0 c.in_ok-change_rows.ensures
