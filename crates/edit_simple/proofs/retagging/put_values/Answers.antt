use Rattle.std.proofs.Common.{◌≡◌, ◌<◌, ◌⊎◌, length, map}
use Rattle.edit_simple.specs.Prelude.{is_short, is_none_or, each_key, err_same, given_pair}
use Rattle.edit_simple.specs.Inner.Retagging.{all_valued}
use Rattle.edit_simple.proofs.RetagPlans.{fault_told}
use Rattle.osm_elements.specs.declared.fault.TextFault.TheVariants as faults
use Rattle.edit_simple.proofs.retagging.put_values.Goals as goal

pub put_value-requires : goal.put_value-requires
put_value-requires g c = record { key = each_key (is_none_or is_short) c.args.given.now c.requires.given c.loop-row.row-index c.row-item.result c.loop-row-test.true c.row-item.is }

pub returns-in_err-put_value-clause-err : goal.returns-in_err-put_value-clause-err
returns-in_err-put_value-clause-err g c =
    err_same (λ e. ((e ≡ faults.TooManyTags) × (1000 < length (all_valued c.args.tags.now (map given_pair c.args.given.now)))) ⊎ (e ≡ faults.Memory)) c.from_residual.result c.in_err-put_value.field-0.0 c.from_residual.ensures.1
    (fault_told c.args.given.now c.args.tags.now c.loop-row.tags c.loop-row.row-index c.row-item.result c.in_err-put_value.field-0.0 c.requires.sorted c.loop-row-test.true c.row-item.is c.loop-row.invariant c.in_err-put_value.ensures.err)
