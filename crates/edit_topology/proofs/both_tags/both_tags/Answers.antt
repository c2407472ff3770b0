use Rattle.std.proofs.Common.{inl, ◌∙◌, map, refl}
use Rattle.osm_elements.specs.TagRows.{tag_pair}
use Rattle.edit_topology.proofs.BothTagsLoops.{united_well, united_over}
use Rattle.edit_topology.proofs.both_tags.both_tags.Goals as goal

pub returns-in-Ok : goal.returns-in-Ok
returns-in-Ok g c =
    let told = united_well c.args.tags.now c.in_ok-both.both c.put_all.new.tags c.args.others.now (map tag_pair c.rows-2.result.now)
    c.in_ok-both.ensures c.rows-2.ensures.rows c.in-Ok.ensures.ok c.rows-in-Ok.ensures.sound in
    (told.0, c.in_ok-new-in-Ok.ensures.exact ∙ told.1)

pub returns-in-Err-TooManyTags : goal.returns-in-Err-TooManyTags
returns-in-Err-TooManyTags g c =
    inl (
      united_over c.args.tags.now c.in_ok-both.both c.put_all.new.tags c.args.others.now (map tag_pair c.rows-2.result.now)
          c.in_ok-both.ensures c.rows-2.ensures.rows c.in-Err-TooManyTags.field-0 c.in-Err-TooManyTags.field-0-is c.in-Err-TooManyTags.ensures.err,
      refl,
    )
