-- The tree of a welcome, and the welcome that a text spells. The members are this project's (RFC 8259: the tree).
use Rattle.std.specs.Prelude.{ℕ, List, map, Option, Result, Ok, option_and_then}
use Rattle.serde_json.specs.Data.{Data}
use Rattle.serde_json.specs.Find.{get}
use Rattle.serde_json.specs.Read.{read}
use Rattle.room_interface.specs.Prelude.{Global, Rows, row_pair}
use Rattle.room_wire.specs.declared.bad.Fault.{Fault}
use Rattle.room_wire.specs.declared.bad.Fault.TheVariants.{BadField}
use Rattle.room_wire.specs.declared.bad.Bad.{Bad}
use Rattle.room_wire.specs.declared.welcome.Welcome.{Welcome}
use Rattle.room_wire.specs.Fields.{field_text}
use Rattle.room_wire.specs.Reading.{◌>>=◌, or_fault}
use Rattle.room_wire.specs.Spelling.{count_of, with_id}
use Rattle.room_wire.specs.Lists.{row_at, rows_at}
use Rattle.room_wire.specs.News.{object_at}
use Rattle.room_wire.specs.Trees.{map_tree}
use Rattle.room_wire.specs.declared.field.Field.TheVariants as fields

-- a welcome is written as the reply to a `map`
abbrev pub welcome_tree : Welcome → Data
welcome_tree w = map_tree w.id w.rows w.seq

abbrev pub map_at : Data → Result (Rows Global) Fault
map_at d = rows_at row_at (λ r. r.name) fields.Map d >>= λ rows. Ok (map row_pair rows)

abbrev pub count_at : Data → Result ℕ Fault
count_at d = or_fault (BadField fields.Seq) (option_and_then count_of (get (field_text fields.Seq) d))

abbrev pub told_at : Data → Result (Rows Global × ℕ) Fault
told_at d = object_at fields.Ok d >>= λ ok. map_at ok >>= λ rows. count_at ok >>= λ seq. Ok (rows, seq)

-- a welcome has its rows and its number under its id
abbrev pub welcome : ℕ → Rows Global × ℕ → Welcome
welcome id told = record { id = id; seq = told.1; rows = told.0 }

abbrev pub welcome_of : Option Data → Result Welcome Bad
welcome_of = with_id welcome told_at

-- the meaning of a text: a welcome, or its one fault
abbrev pub spells_welcome : List ℕ → Result Welcome Bad
spells_welcome text = welcome_of (read text)
