use Rattle.std.proofs.Common.{map, OnOk, sym, ap, subst, ◌∙◌}
use Rattle.std.proofs.lemmas.Simd.{map-map}
use Rattle.serde_json.specs.Data.{array}
use Rattle.serde_json.specs.View.{items_of}
use Rattle.osm_elements.specs.RowPairs.{row_pair}
use Rattle.room_wire.specs.Inner.Writing.{Tells, shown_tree}
use Rattle.room_wire.proofs.ToldParts.{row_told}
use Rattle.room_wire.proofs.shown.ShownTold.write.Goals as goal

pub returns-in-Rows : goal.returns-in-Rows
returns-in-Rows c =
    let told = sym (map-map row_told row_pair c.as_slice.result.now) ∙ ap (map row_told) c.as_slice.ensures in
    subst (λ s. OnOk c.write_array-in-Rows.result (Tells c.args.out.now c.write_array-in-Rows.new.out (shown_tree s))) (sym c.in-Rows.is)
    (subst (λ ds. OnOk c.write_array-in-Rows.result (Tells c.args.out.now c.write_array-in-Rows.new.out (array (items_of ds)))) told c.write_array-in-Rows.ensures)
