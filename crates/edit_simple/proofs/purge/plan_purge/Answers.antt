use Rattle.std.proofs.Common.{refl, sym, subst, ◌∙◌}
use Rattle.edit_simple.specs.Prelude.{table_of, IsRising-name_set}
use Rattle.osm_refs.specs.Rising.{IsRising}
use Rattle.edit_simple.specs.Inner.Purging.{all_reached}
use Rattle.edit_simple.proofs.PurgePlans.{purge_planned}
use Rattle.edit_simple.proofs.purge.plan_purge.Goals as goal

pub change_rows-requires : goal.change_rows-requires
change_rows-requires g c =
    subst IsRising (sym (c.deref.ensures.value ∙ c.in_ok-reached.ensures)) (IsRising-name_set (all_reached (table_of c.args.rows.now) c.in_ok-gone.gone.keys c.args.name.now))

pub returns-clause-plan : goal.returns-clause-plan
returns-clause-plan g c =
    purge_planned c.args.rows.now c.args.name.now c.requires (sym c.if-not-is_present.ensures) (table_of c.args.rows.now) refl c.as_slice.result.now c.in_ok-gone.gone.keys c.deref.result.now
    (c.as_slice.ensures ∙ c.in_ok-its_users.ensures) c.in_ok-gone.ensures (c.deref.ensures.value ∙ c.in_ok-reached.ensures) c.in_ok-change_rows.field-0 c.in_ok-change_rows.ensures
