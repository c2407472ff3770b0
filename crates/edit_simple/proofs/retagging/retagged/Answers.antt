use Rattle.std.proofs.Common.{inl, ◌∙◌, map, refl}
use Rattle.room_interface.specs.GivenTags.{given_pair}
use Rattle.edit_simple.proofs.RetagPlans.{retagged_well, retagged_over}
use Rattle.edit_simple.proofs.retagging.retagged.Goals as goal

pub returns-in-Ok : goal.returns-in-Ok
returns-in-Ok g c =
    let told = retagged_well c.args.tags.now c.in_ok-new.new c.remove_tags.new.tags c.put_values.new.tags c.args.given.now (map given_pair c.rows-2.result.now) (map given_pair c.rows-4.result.now)
    c.in_ok-new.ensures c.rows-2.ensures.rows c.rows-4.ensures.rows c.remove_tags.ensures c.rows.ensures.sound c.rows-2.ensures.sound c.in-Ok.ensures.ok c.rows-in-Ok.ensures.sound in
    (told.0, c.in_ok-new-in-Ok.ensures.exact ∙ told.1)

pub returns-in-Err-TooManyTags : goal.returns-in-Err-TooManyTags
returns-in-Err-TooManyTags g c =
    inl (
      retagged_over c.args.tags.now c.in_ok-new.new c.remove_tags.new.tags c.put_values.new.tags c.args.given.now (map given_pair c.rows-2.result.now) (map given_pair c.rows-4.result.now)
          c.in_ok-new.ensures c.rows-2.ensures.rows c.rows-4.ensures.rows c.remove_tags.ensures c.rows.ensures.sound c.rows-2.ensures.sound c.in-Err-TooManyTags.field-0 c.in-Err-TooManyTags.field-0-is c.in-Err-TooManyTags.ensures.err,
      refl,
    )
