-- The keys of a message's fields, which are this project's (RFC 8259, section 4: names in an object).
use Rattle.std.specs.Prelude.{ℕ, List, codes}
use Rattle.room_wire.specs.declared.field.Field.{Field}
use Rattle.room_wire.specs.declared.field.Field.TheVariants.{El, Els, Lat, Lon, Nodes, Members, Tags, Dlat, Dlon, At, Into, With, Actions, Seq, Since, Room, Name}
use Rattle.room_wire.specs.declared.field.Field.TheVariants as fields

abbrev pub field_text : Field → List ℕ
field_text El = codes "el"
field_text Els = codes "els"
field_text Lat = codes "lat"
field_text Lon = codes "lon"
field_text Nodes = codes "nodes"
field_text Members = codes "members"
field_text Tags = codes "tags"
field_text Dlat = codes "dlat"
field_text Dlon = codes "dlon"
field_text At = codes "at"
field_text Into = codes "into"
field_text With = codes "with"
field_text Actions = codes "actions"
field_text Seq = codes "seq"
field_text Since = codes "since"
field_text Room = codes "room"
field_text Name = codes "name"
field_text fields.Ok = codes "ok"
field_text fields.Map = codes "map"
field_text fields.News = codes "news"
field_text fields.By = codes "by"
field_text fields.Rows = codes "rows"
