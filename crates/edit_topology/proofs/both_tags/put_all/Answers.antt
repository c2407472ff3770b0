use Rattle.std.proofs.Common.{◌≡◌, ◌<◌, ◌⊎◌, length, map}
use Rattle.edit_topology.specs.Prelude.{is_short, tag_pair, each_key, err_same, both_tags}
use Rattle.edit_topology.proofs.BothTagsLoops.{fault_told}
use Rattle.osm_elements.specs.declared.fault.TextFault.TheVariants as faults
use Rattle.edit_topology.proofs.both_tags.put_all.Goals as goal

pub put_one-requires : goal.put_one-requires
put_one-requires g c = record { key = each_key is_short c.args.others.now c.requires.others c.loop-tag.tag-index c.tag-item.result c.loop-tag-test.true c.tag-item.is }

pub returns-in_err-put_one-clause-err : goal.returns-in_err-put_one-clause-err
returns-in_err-put_one-clause-err g c =
    err_same (λ e. ((e ≡ faults.TooManyTags) × (1000 < length (both_tags c.args.tags.now (map tag_pair c.args.others.now)))) ⊎ (e ≡ faults.Memory)) c.from_residual.result c.in_err-put_one.field-0.0 c.from_residual.ensures.1
    (fault_told c.args.others.now c.args.tags.now c.loop-tag.tags c.loop-tag.tag-index c.tag-item.result c.in_err-put_one.field-0.0 c.requires.sorted c.loop-tag-test.true c.tag-item.is c.loop-tag.invariant c.in_err-put_one.ensures.err)
