-- The line gets all bytes that are read, until a line feed is read.
use Rattle.std.proofs.Common.{◌≡◌, ◌++◌, ◌∷◌, ◌||◌, ℕ, List, Bool, false, suc, take, ◌∙◌, add-one, ap, arith, subst, sym, append_assoc}
use Rattle.room_program.specs.Prelude.{Consumes, IsLine, Gets}
use Rattle.room_program.proofs.CallLemmas.{calls_made, next_gets, no_gets}
use Rattle.room_program.proofs.LineLemmas.{IsLine-append}
use Rattle.room_program.proofs.StreamLemmas.{Consumes-none, Consumes-then}
use Rattle.room_program.proofs.base.read_first_line.Goals as goal

pub loop-used-init : goal.loop-used-init
loop-used-init g c = record {
  read = subst (λ (bs : List ℕ). Consumes (g.S.Source.left c.args.reader.now) (g.S.Source.left c.args.reader.now) bs) (sym c.new-line.ensures.items) (Consumes-none (g.S.Source.left c.args.reader.now));
  is_line = subst (λ (bs : List ℕ). IsLine bs) (sym c.new-line.ensures.items) tt;
  works = c.requires.works;
  gets = no_gets g.S.Source.gets c.args.reader.now;
}

-- the line feed was read
pub returns-in-Some-clause-ok : goal.returns-in-Some-clause-ok
returns-in-Some-clause-ok g c =
    let i = c.loop-used.invariant in
    let left = g.S.Source.left in
    let parts = c.in-Some.ensures in
    let line = c.loop-used.line.items in
    let whole : line ++ take c.in-Ok.count c.get.new.buffer ≡ c.extend_from_slice.new.self.items ++ 10 ∷ c.in_ok-held.held.items =
    ap (λ bs. line ++ bs) parts.1 ∙ sym (append_assoc line c.in-Some.end.now (10 ∷ c.in-Some.behind.now))
    ∙ ap (λ bs. bs ++ 10 ∷ c.in-Some.behind.now) (sym c.in_ok-extend_from_slice.ensures.items)
    ∙ ap (λ bs. c.extend_from_slice.new.self.items ++ 10 ∷ bs) (sym c.in_ok-held.ensures.items) in
    let below = c.loop-used-test.true in
    record {
      is_line = subst (λ (bs : List ℕ). IsLine bs) (sym c.in_ok-extend_from_slice.ensures.items) (IsLine-append line c.in-Some.end.now i.is_line parts.0);
      to = (
        subst (λ (bs : List ℕ). Consumes (left c.args.reader.now) (left c.get.new.self) bs) whole
            (Consumes-then (left c.args.reader.now) (left c.loop-used.reader) (left c.get.new.self) line (take c.in-Ok.count c.get.new.buffer) i.read c.in-Ok.ensures.bytes.0),
        (suc c.loop-used.used, omega (arith, below), next_gets g.S.Source.gets c.loop-used.used c.in-Ok.count c.args.reader.now c.loop-used.reader c.get.new.self (omega arith) i.gets c.in-Ok.ensures.gets),
      );
    }

-- the line feed was not read yet
pub loop-used-preserved : goal.loop-used-preserved
loop-used-preserved g c =
    let i = c.loop-used.invariant in
    let left = g.S.Source.left in
    let line = c.loop-used.line.items in
    let piece = take c.in-Ok.count c.get.new.buffer in
    let grown = c.in_ok-extend_from_slice-2.ensures.items in
    let more : Gets g.S.Source.gets (suc c.loop-used.used) c.args.reader.now c.get.new.self =
    next_gets g.S.Source.gets c.loop-used.used c.in-Ok.count c.args.reader.now c.loop-used.reader c.get.new.self (omega arith) i.gets c.in-Ok.ensures.gets in
    record {
      read = subst (λ (bs : List ℕ). Consumes (left c.args.reader.now) (left c.get.new.self) bs) (sym grown)
          (Consumes-then (left c.args.reader.now) (left c.loop-used.reader) (left c.get.new.self) line piece i.read c.in-Ok.ensures.bytes.0);
      is_line = subst (λ (bs : List ℕ). IsLine bs) (sym grown) (IsLine-append line piece i.is_line c.in_default-split_line.ensures);
      works = c.in-Ok.ensures.failed ∙ ap (λ (b : Bool). b || false) i.works;
      gets = rw add-one more;
    }

pub returns-clause-calls : goal.returns-clause-calls
returns-clause-calls g c = calls_made g.S.Source.gets c.loop-used.used c.args.reads c.args.reader.now c.loop-used.reader (omega arith) c.loop-used.invariant.gets
