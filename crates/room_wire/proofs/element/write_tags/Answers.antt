use Rattle.std.proofs.Common.{◌≡◌, T, map, OnOk, sym, ap, subst, ◌∙◌}
use Rattle.std.proofs.lemmas.Simd.{map-map}
use Rattle.serde_json.specs.Data.{object, string}
use Rattle.room_wire.specs.Prelude.{is_sorted, text_cmp, tag_pair}
use Rattle.room_wire.specs.Inner.Writing.{Tells, members_of}
use Rattle.room_wire.proofs.ToldParts.{tag_member, tags_are_members, tags_rise}
use Rattle.room_wire.proofs.element.write_tags.Goals as goal

pub write_object-requires : goal.write_object-requires
write_object-requires c =
    let told : map tag_member c.args.tags.now ≡ map (λ t. (t.key, string t.value)) c.rows.result.now = ap (map tag_member) (sym c.rows.ensures.rows) ∙ map-map tag_member tag_pair c.rows.result.now in
    subst (λ ms. T (is_sorted text_cmp ms)) told (tags_rise c.args.tags.now c.rows.ensures.sound)

pub returns : goal.returns
returns c =
    let told : map tag_member c.args.tags.now ≡ map (λ t. (t.key, string t.value)) c.rows.result.now = ap (map tag_member) (sym c.rows.ensures.rows) ∙ map-map tag_member tag_pair c.rows.result.now in
    let is = ap members_of (sym told) ∙ tags_are_members c.args.tags.now in
    subst (λ ms. OnOk c.write_object.result (Tells c.args.out.now c.write_object.new.out (object ms))) is c.write_object.ensures
