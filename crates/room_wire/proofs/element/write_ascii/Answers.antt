use Rattle.room_wire.proofs.Ascii.{ascii_is_read}
use Rattle.room_wire.proofs.element.write_ascii.Goals as goal

pub unwrap-text-requires : goal.unwrap-text-requires
unwrap-text-requires c = ascii_is_read _ _ c.args.text.now c.from_utf8.result c.requires c.from_utf8.ensures.cases
