-- The text that the output took, and the entry counts of the rooms.
use Rattle.std.proofs.Common.{◌∙◌, ◌^◌, ap₂, map, subst, ℕ, List}
use Rattle.room_server.specs.Prelude.{Pools}
use Rattle.room_program.specs.Prelude.{Bor, front_lines, listening}
use Rattle.room_program.proofs.ServingLemmas.{fronts_of, told_no_more, told_then}
use Rattle.room_program.proofs.serve.serve.Goals.{then-is_told, else-is_told}
use Rattle.room_program.proofs.serve.serve.Goals as goal

pub returns-clause-ok : goal.returns-clause-ok
returns-clause-ok g c =
    let texts = map (λ (room : Bor (List ℕ)). room.now) in
    let rooms = texts c.args.asked.now.rooms.items in
    let limit = c.args.asked.now.limit in
    let opened = c.in_ok-table.ensures.ok in
    let base = opened.1.0 in
    let opens = opened.1.2 in
    let fronts = c.in_ok-fronts.fronts.items in
    let are = fronts_of c.legal_histories_hold.ensures.journal rooms base limit c.in_ok-table.table c.in_ok-table.seats.items c.in_ok-seats.seats.items fronts
    opens c.in_ok-seats.ensures.at c.in_ok-fronts.ensures in
    let lines = front_lines rooms fronts in
    let lines_are = c.in_ok-lines.ensures ∙ ap₂ (λ names numbers. front_lines (texts names) numbers) c.deref.ensures.value c.deref-2.ensures.value in
    let before = c.args.output.now in
    let between = c.tell-is_told.new.stream in
    let told = c.as_bytes.result.now in (
      base,
      opened.1.1,
      record {
        can = opened.0;
        sound = opens.sound;
        table = c.in_ok-table.table;
        first = c.in_ok-table.seats.items;
        opens = opens;
        seats = c.in_ok-seats.seats.items;
        at = c.in_ok-seats.ensures.at;
        met = c.in_ok-seats.ensures.met;
        pools = subst (λ rule. Pools c.in_ok-table.table rule (10 ^ 9) c.args.asked.now.workers c.in_ok-seats.seats.items) c.in_ok-admission.ensures c.in_ok-seats.ensures.pools;
        closed = c.in_ok-fronts.ensures;
        fronts = fronts;
        as_many = are.0;
        each = are.1;
        written = elim c.if-is_told.branch [
          | then-is_told w ↦ told_then g.W.Sink before between w.tell.new.stream c.if-is_told.output listening told lines w.deref-then-is_told.result.now c.as_bytes.ensures.value
              (w.deref-then-is_told.ensures.value ∙ lines_are) w.output-is (c.tell-is_told.ensures.whole w.if-is_told.true) w.tell.ensures.takes
          | else-is_told w ↦ told_no_more g.W.Sink before between c.if-is_told.output listening told lines c.as_bytes.ensures.value w.output-is c.tell-is_told.ensures.takes
              (c.tell-is_told.ensures.why w.if-is_told.false)
        ];
      },
    )
