use Rattle.std.proofs.Common.{map, OnOk, sym, ap, subst, ◌∙◌}
use Rattle.std.proofs.lemmas.Simd.{map-map}
use Rattle.serde_json.specs.Data.{array}
use Rattle.serde_json.specs.View.{items_of}
use Rattle.room_wire.specs.Prelude.{member_pair, member_tree}
use Rattle.room_wire.specs.Inner.Writing.{Tells, part_tree}
use Rattle.room_wire.proofs.element.PartTold.write.Goals as goal

pub returns-in-Members : goal.returns-in-Members
returns-in-Members c =
    let told = sym (map-map member_tree member_pair c.as_slice.result.now) ∙ ap (map member_tree) c.as_slice.ensures.members in
    subst (λ p. OnOk c.write_array-in-Members.result (Tells c.args.out.now c.write_array-in-Members.new.out (part_tree p))) (sym c.in-Members.is)
    (subst (λ ds. OnOk c.write_array-in-Members.result (Tells c.args.out.now c.write_array-in-Members.new.out (array (items_of ds)))) told c.write_array-in-Members.ensures)
