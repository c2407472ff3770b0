-- The tree of news, and the news that a text spells. The members of news are this project's (RFC 8259: the tree).
use Rattle.std.specs.Prelude.{ℕ, Bool, true, false, List, map, Option, Some, None, Result, Ok, Err, codes, is_some, unwrap_or, if◌then◌else◌, option_and_then}
use Rattle.std.specs.declared.alloc.Global.{Global}
use Rattle.serde_json.specs.Data.{Data, boolean, string, array, object, no_members, member}
use Rattle.serde_json.specs.Find.{get, as_bool, as_object}
use Rattle.serde_json.specs.Read.{read}
use Rattle.serde_json.specs.View.{items_of}
use Rattle.osm_elements.specs.declared.name.Name.{Name}
use Rattle.osm_elements.specs.declared.element.Element.{Element}
use Rattle.room_interface.specs.declared.news.News.{News}
use Rattle.room_interface.specs.declared.news.NewsRow.{NewsRow}
use Rattle.room_wire.specs.declared.field.Field.{Field}
use Rattle.room_wire.specs.declared.bad.Fault.{Fault}
use Rattle.room_wire.specs.declared.bad.Fault.TheVariants.{NotJson, NotObject, BadField}
use Rattle.room_wire.specs.declared.bad.Bad.{Bad}
use Rattle.room_wire.specs.Fields.{field_text}
use Rattle.room_wire.specs.Reading.{◌>>=◌, or_fault, under}
use Rattle.room_wire.specs.Lists.{row_at, rows_at}
use Rattle.room_wire.specs.Spelling.{author_at, el_at, ordinal}
use Rattle.room_wire.specs.Trees.{element_tree, name_tree, whole}
use Rattle.room_wire.specs.declared.field.Field.TheVariants as fields

-- a changed name, with its current element or gone
abbrev pub gone_tree : Name → Data
gone_tree name = object (member (codes "el") (name_tree name) (member (codes "gone") (boolean true) no_members))

abbrev pub row_tree : {A : Type 0} → Name → Option (Element A) → Data
row_tree name None = gone_tree name
row_tree name (Some element) = element_tree name element

abbrev pub news_rows_tree : {A : Type 0} → List (NewsRow A) → Data
news_rows_tree rows = array (items_of (map (λ r. row_tree r.name r.element) rows))

abbrev pub told_tree : {A : Type 0} → News A → Data
told_tree n =
    object (member (codes "by") (string n.author) (member (codes "rows") (news_rows_tree n.rows)
    (member (codes "seq") (whole n.seq) no_members)))

abbrev pub news_tree : {A : Type 0} → News A → Data
news_tree n = object (member (codes "news") (told_tree n) no_members)

-- ---- reading

-- a row is gone if its `gone` is true
abbrev pub is_gone : Data → Bool
is_gone d = unwrap_or (option_and_then as_bool (get (codes "gone") d)) false

abbrev pub news_row_at : Data → Result (NewsRow Global) Fault
news_row_at d =
    if is_gone d then (el_at d >>= λ name. Ok (record { name = name; element = None }))
    else (row_at d >>= λ r. Ok (record { name = r.name; element = Some r.element }))

-- the fields of news, each with its form
abbrev pub object_at : Field → Data → Result Data Fault
object_at field d =
    or_fault (BadField field) (option_and_then (λ e. if is_some (as_object e) then Some e else None)
    (get (field_text field) d))

abbrev pub number_at : Data → Result ℕ Fault
number_at d = or_fault (BadField fields.Seq) (option_and_then ordinal (get (field_text fields.Seq) d))

abbrev pub told_at : Data → Result (News Global) Fault
told_at d =
    author_at fields.By d >>= λ author. rows_at news_row_at (λ r. r.name) fields.Rows d >>= λ rows.
    number_at d >>= λ seq. Ok (record { seq = seq; author = author; rows = rows })

abbrev pub news_at : Data → Result (News Global) Fault
news_at d = if is_some (as_object d) then (object_at fields.News d >>= told_at) else Err NotObject

abbrev pub news_told : Option Data → Result (News Global) Fault
news_told d = or_fault NotJson d >>= news_at

-- news have no id, so their faults come under 0
abbrev pub without_id : ℕ → News Global → News Global
without_id id n = n

abbrev pub news_read : Option Data → Result (News Global) Bad
news_read d = under without_id 0 (news_told d)

-- the meaning of a text: news, or its one fault
abbrev pub spells_news : List ℕ → Result (News Global) Bad
spells_news text = news_read (read text)
