-- The first line feed splits the bytes into a line and what follows.
use Rattle.room_program.proofs.LineLemmas.{splits, splits-not}
use Rattle.room_program.proofs.lines.split_line.Goals as goal

pub returns-in-None : goal.returns-in-None
returns-in-None c = splits-not c.args.bytes.now c.in-None.ensures

pub returns-in-Some : goal.returns-in-Some
returns-in-Some c = splits c.args.bytes.now c.in-Some.length c.in-Some.ensures
