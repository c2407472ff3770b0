-- Each iteration answers the next line.
use Rattle.std.proofs.Common.{inr, arith}
use Rattle.room_program.proofs.LineLemmas.{IsLine-append, after_shorter}
use Rattle.room_program.proofs.RunLemmas.{front-next}
use Rattle.room_program.proofs.blocks.answer_lines.Goals as goal

pub loop-alloc-preserved : goal.loop-alloc-preserved
loop-alloc-preserved g c =
    let inv = c.loop-alloc.invariant in
    let said = c.in_ok-answer_line.ensures.ok in
    let shorter = after_shorter c.loop-alloc.rest.now c.in-Some.line.now c.in-Some.after.now c.in-Some.ensures.1 in
    let none_held = c.in_ok-answer_line.ensures.none_held in record {
      front = front-next g.A.Answerer.answered c.args.answers.now _ c.loop-alloc.replies c.loop-alloc.begun.items c.loop-alloc.rest.now c.in-Some.line.now c.in-Some.after.now said.1
          c.answer_line.new.replies c.answer_line.new.begun.items c.loop-alloc.answers c.answer_line.new.answers said.0
          inv.front inv.held c.in-Some.ensures.0 c.in-Some.ensures.1 said.2 said.3 none_held;
      held = rw none_held tt;
      within = omega (arith, shorter);
      less = inr (omega (arith, shorter));
    }

pub returns-in_default-clause-held : goal.returns-in_default-clause-held
returns-in_default-clause-held g c =
    rw c.in_ok-extend_from_slice.ensures.items (IsLine-append c.loop-alloc.begun.items c.loop-alloc.rest.now c.loop-alloc.invariant.held c.in_default.ensures)
