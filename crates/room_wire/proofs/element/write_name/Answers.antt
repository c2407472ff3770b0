use Rattle.std.proofs.Common.{sym, subst, IsAscii}
use Rattle.room_wire.proofs.Ascii.{name_text_is_ascii}
use Rattle.room_wire.proofs.element.write_name.Goals as goal

pub write_ascii-requires : goal.write_ascii-requires
write_ascii-requires c = subst IsAscii (sym c.write-length.ensures.text) (name_text_is_ascii c.args.name)
