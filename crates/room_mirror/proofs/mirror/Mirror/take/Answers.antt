use Rattle.std.proofs.Common.{sym, ◌∙◌}
use Rattle.room_mirror.proofs.Refusing.{names_rise}
use Rattle.room_mirror.proofs.mirror.Mirror.take.Goals as goal

pub replace-requires : goal.replace-requires
replace-requires g c = names_rise c.args.self.now c.args.news.now (sym c.in_default.is ∙ c.fault.ensures)
