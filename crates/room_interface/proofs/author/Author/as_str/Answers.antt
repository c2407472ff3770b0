use Rattle.room_interface.proofs.Ascii.{name_is_read}
use Rattle.room_interface.proofs.author.Author.as_str.Goals as goal

pub unwrap-requires : goal.unwrap-requires
unwrap-requires c = name_is_read _ _ _ c.from_utf8.result c.self.invariant.name c.from_utf8.ensures.cases
