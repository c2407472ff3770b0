use Rattle.room_stacks.proofs.Searching.{out_where_found, out_in_gap}
use Rattle.room_stacks.proofs.author_stacks.take_out.Goals as goal

pub returns-in-Ok : goal.returns-in-Ok
returns-in-Ok g c =
    let found = rw (c.deref.ensures.value) at c.in-Ok.ensures.position in
    rw c.remove.ensures.items (out_where_found c.args.number c.args.numbers.now.items c.requires c.in-Ok.at found)

pub returns-in-Err : goal.returns-in-Err
returns-in-Err g c =
    let gap = rw (c.deref.ensures.value) at c.in-Err.ensures.position in
    out_in_gap c.args.number c.args.numbers.now.items c.requires c.in-Err.field-0 gap
