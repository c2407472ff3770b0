use Rattle.std.proofs.Common.{◌≡◌, drop}
use Rattle.room_wire.specs.Prelude.{result_ok, items_view, items_in}
use Rattle.room_wire.proofs.ItemLists.{with_front}
use Rattle.room_wire.proofs.listed.rows_in.Given as goal

abbrev pub invariant-loop-item : goal.invariant-loop-item
invariant-loop-item g l = with_front (λ d. result_ok (g.T.Listed.reads d)) l.rows.items (items_view (drop l.item-index l.items)) ≡ items_in (λ d. result_ok (g.T.Listed.reads d)) (items_view l.items)
