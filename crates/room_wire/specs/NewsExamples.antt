-- Worked examples for the definitions of news and welcomes.
use Rattle.std.specs.Prelude.{◌≡◌, ℕ, pos, negsuc, [], ◌∷◌, Some, None, Result, Ok, Err, codes}
use Rattle.serde_json.specs.Written.{compact_text}
use Rattle.room_interface.specs.Prelude.{Global, named}
use Rattle.osm_elements.specs.declared.name.Name.{Name}
use Rattle.osm_elements.specs.declared.element.Element.TheVariants.{Way, Relation}
use Rattle.room_interface.specs.declared.news.News.{News}
use Rattle.room_wire.specs.declared.bad.Bad.{Bad}
use Rattle.room_wire.specs.declared.bad.Fault.{Fault}
use Rattle.room_wire.specs.declared.bad.Fault.TheVariants.{NotJson, NotObject, BadId, BadField}
use Rattle.room_wire.specs.Examples.{n-1, w1, greenwich}
use Rattle.room_wire.specs.News.{news_tree, spells_news}
use Rattle.room_wire.specs.Welcomes.{spells_welcome}
use Rattle.osm_elements.specs.declared.name.Kind.TheVariants as kinds
use Rattle.room_wire.specs.declared.field.Field.TheVariants as fields

abbrev pub n-2 : Name
n-2 = named kinds.Node (negsuc 1) tt

abbrev pub n-3 : Name
n-3 = named kinds.Node (negsuc 2) tt

abbrev pub w2 : Name
w2 = named kinds.Way (pos 2) tt

abbrev pub r1 : Name
r1 = named kinds.Relation (pos 1) tt

-- a purge removed a node, and a way that would have kept too few nodes; another way and a relation lost it
abbrev pub purged : News Global
purged = record {
  seq = 7;
  author = codes "bob";
  rows =
      record { name = n-1; element = None }
      ∷ record { name = w1; element = None }
      ∷ record { name = w2; element = Some (Way (n-3 ∷ n-2 ∷ []) []) }
      ∷ record { name = r1; element = Some (Relation ((w2, codes "outer") ∷ (w2, codes "outer") ∷ []) []) }
      ∷ [];
}

-- a node was created
abbrev pub created : News Global
created = record { seq = 1; author = codes "anna"; rows = record { name = n-1; element = Some greenwich } ∷ [] }

unfoldable pub writes_news : Type 0
writes_news =
    (compact_text (news_tree purged)
    ≡ codes "{\"news\":{\"by\":\"bob\",\"rows\":[{\"el\":\"n-1\",\"gone\":true},{\"el\":\"w1\",\"gone\":true},{\"el\":\"w2\",\"nodes\":[-3,-2],\"tags\":{}},{\"el\":\"r1\",\"members\":[[\"w2\",\"outer\"],[\"w2\",\"outer\"]],\"tags\":{}}],\"seq\":7}}")
    × (compact_text (news_tree created)
    ≡ codes "{\"news\":{\"by\":\"anna\",\"rows\":[{\"el\":\"n-1\",\"lat\":\"51.5000000\",\"lon\":\"-0.1000000\",\"tags\":{}}],\"seq\":1}}")

abbrev pub fails : {X : Type 0} → ℕ → Fault → Result X Bad
fails id fault = Err (record { id = id; fault = fault })

-- written news are read back, also with other members and in another order; a row whose `gone` is not true is an
-- element
unfoldable pub reads_news : Type 0
reads_news =
    (spells_news (codes "{\"news\":{\"by\":\"bob\",\"rows\":[{\"el\":\"n-1\",\"gone\":true},{\"el\":\"w1\",\"gone\":true},{\"el\":\"w2\",\"nodes\":[-3,-2],\"tags\":{}},{\"el\":\"r1\",\"members\":[[\"w2\",\"outer\"],[\"w2\",\"outer\"]],\"tags\":{}}],\"seq\":7}}") ≡ Ok purged)
    × (spells_news (codes "{\"id\":0,\"news\":{\"seq\":1,\"rows\":[{\"gone\":null,\"lon\":\"-0.1\",\"lat\":\"51.5\",\"el\":\"n-1\"}],\"by\":\"anna\"}}") ≡ Ok created)
    × (spells_news (codes "{\"news\":{\"by\":\"bob\",\"rows\":[],\"seq\":9007199254740991}}") ≡ Ok (record { seq = 9007199254740991; author = codes "bob"; rows = [] }))

unfoldable pub tells_bad_news : Type 0
tells_bad_news =
    (spells_news (codes "{\"news\"") ≡ fails 0 NotJson)
    × (spells_news (codes "[]") ≡ fails 0 NotObject)
    × (spells_news (codes "{}") ≡ fails 0 (BadField fields.News))
    × (spells_news (codes "{\"id\":1,\"news\":[]}") ≡ fails 0 (BadField fields.News))
    × (spells_news (codes "{\"news\":{\"rows\":1}}") ≡ fails 0 (BadField fields.By))
    × (spells_news (codes "{\"news\":{\"by\":\"Bob\",\"rows\":1}}") ≡ fails 0 (BadField fields.By))
    × (spells_news (codes "{\"news\":{\"by\":\"bob\",\"rows\":{},\"seq\":0}}") ≡ fails 0 (BadField fields.Rows))
    × (spells_news (codes "{\"news\":{\"by\":\"bob\",\"rows\":[{\"el\":\"n-1\"}],\"seq\":1}}") ≡ fails 0 (BadField fields.Rows))
    × (spells_news (codes "{\"news\":{\"by\":\"bob\",\"rows\":[{\"gone\":true}],\"seq\":1}}") ≡ fails 0 (BadField fields.Rows))
    × (spells_news (codes "{\"news\":{\"by\":\"bob\",\"rows\":[\"n-1\"],\"seq\":1}}") ≡ fails 0 (BadField fields.Rows))
    × (spells_news (codes "{\"news\":{\"by\":\"bob\",\"rows\":[{\"el\":\"w1\",\"gone\":true},{\"el\":\"n-1\",\"gone\":true}],\"seq\":1}}") ≡ fails 0 (BadField fields.Rows))
    × (spells_news (codes "{\"news\":{\"by\":\"bob\",\"rows\":[{\"el\":\"w1\",\"gone\":true},{\"el\":\"w1\",\"gone\":true}],\"seq\":1}}") ≡ fails 0 (BadField fields.Rows))
    × (spells_news (codes "{\"news\":{\"by\":\"bob\",\"rows\":[],\"seq\":0}}") ≡ fails 0 (BadField fields.Seq))
    × (spells_news (codes "{\"news\":{\"by\":\"bob\",\"rows\":[],\"seq\":\"1\"}}") ≡ fails 0 (BadField fields.Seq))

unfoldable pub reads_welcomes : Type 0
reads_welcomes =
    (spells_welcome (codes "{\"id\":1,\"ok\":{\"map\":[],\"seq\":0}}") ≡ Ok (record { id = 1; seq = 0; rows = [] }))
    × (spells_welcome (codes "{\"ok\":{\"seq\":9007199254740991,\"map\":[{\"el\":\"n-1\",\"lat\":\"51.5000000\",\"lon\":\"-0.1000000\",\"tags\":{}},{\"el\":\"w2\",\"nodes\":[-3,-2]}]},\"id\":9}")
    ≡ Ok (record { id = 9; seq = 9007199254740991; rows = (n-1, greenwich) ∷ (w2, Way (n-3 ∷ n-2 ∷ []) []) ∷ [] }))

unfoldable pub tells_bad_welcomes : Type 0
tells_bad_welcomes =
    (spells_welcome (codes "") ≡ fails 0 NotJson)
    × (spells_welcome (codes "1") ≡ fails 0 NotObject)
    × (spells_welcome (codes "{\"ok\":{\"map\":[],\"seq\":0}}") ≡ fails 0 BadId)
    × (spells_welcome (codes "{\"id\":0,\"ok\":{\"map\":[],\"seq\":0}}") ≡ fails 0 BadId)
    × (spells_welcome (codes "{\"id\":1,\"no\":{\"why\":\"no_room\"}}") ≡ fails 1 (BadField fields.Ok))
    × (spells_welcome (codes "{\"id\":1,\"ok\":{\"seq\":0}}") ≡ fails 1 (BadField fields.Map))
    × (spells_welcome (codes "{\"id\":1,\"ok\":{\"map\":{}}}") ≡ fails 1 (BadField fields.Map))
    × (spells_welcome (codes "{\"id\":1,\"ok\":{\"map\":[{\"el\":\"n-1\",\"gone\":true}],\"seq\":0}}") ≡ fails 1 (BadField fields.Map))
    × (spells_welcome (codes "{\"id\":1,\"ok\":{\"map\":[{\"el\":\"n2\",\"lat\":\"2\",\"lon\":\"2\"},{\"el\":\"n1\",\"lat\":\"1\",\"lon\":\"1\"}],\"seq\":0}}") ≡ fails 1 (BadField fields.Map))
    × (spells_welcome (codes "{\"id\":1,\"ok\":{\"map\":[],\"seq\":-1}}") ≡ fails 1 (BadField fields.Seq))
    × (spells_welcome (codes "{\"id\":1,\"ok\":{\"map\":[],\"seq\":9007199254740992}}") ≡ fails 1 (BadField fields.Seq))
    × (spells_welcome (codes "{\"id\":1,\"ok\":{\"map\":[],\"seq\":1.0}}") ≡ fails 1 (BadField fields.Seq))
