use Rattle.std.proofs.Common.{◌≡◌, false}
use Rattle.room_program.specs.Prelude.{Consumes, IsLine, Gets}
use Rattle.room_program.proofs.base.read_first_line.Given as goal

abbrev pub invariant-loop-used : goal.invariant-loop-used
invariant-loop-used g l = record {
  read : Consumes (g.S.Source.left l.initial.reader) (g.S.Source.left l.reader) l.line.items;
  is_line : IsLine l.line.items;
  works : g.S.Source.has_failed l.reader ≡ false;
  gets : Gets g.S.Source.gets l.used l.initial.reader l.reader;
}
