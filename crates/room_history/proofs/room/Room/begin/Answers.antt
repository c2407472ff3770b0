use Rattle.std.proofs.Common.{◌≡◌, rules, ap, sym, ◌∙◌}
use Rattle.room_history.specs.Prelude.{is_sound, StacksState}
use Rattle.room_history.proofs.Stepping.{IsRoom-opened}
use Rattle.room_history.proofs.room.Room.begin.Goals as goal

pub invariant_of-result : goal.invariant_of-result
invariant_of-result g c =
    let base_is : c.of.result.value ≡ c.args.store.rows = (search rules) ∙ c.map.ensures.map in
    IsRoom-opened c.args.store c.new-2.result.items c.new-3.result.items c.new-4.result c.new-5.result.rows c.new-6.result.deeds c.of.result.value c.args.limit c.new.result.items
    (sym base_is) c.requires
    c.new-2.ensures.items c.new-3.ensures.items c.new-4.ensures c.new-5.ensures (ap (λ (s : StacksState). s.deeds) c.new-6.ensures)
    (ap is_sound base_is ∙ c.map.ensures.sound) c.new.ensures.items
