-- The premises under which written news and welcomes are read back as the same values.
use Rattle.std.specs.Prelude.{◌≡◌, ◌≤◌, All, IfSome, map, true}
use Rattle.room_interface.specs.Prelude.{kind_of, names_of, are_rising, is_author}
use Rattle.osm_elements.specs.declared.name.Name.{Name}
use Rattle.osm_elements.specs.declared.element.Element.{Element}
use Rattle.room_interface.specs.declared.news.News.{News}
use Rattle.room_interface.specs.declared.news.NewsRow.{NewsRow}
use Rattle.room_wire.specs.declared.welcome.Welcome.{Welcome}
use Rattle.room_wire.specs.ReadBack.{HasId, IsWhole}
use Rattle.room_wire.specs.WellFormed.{IsNumber}

-- an element is of its name's kind, and its parts are as their types require
abbrev pub IsUnder : {A : Type 0} → Name → Element A → Type 0
IsUnder name element = (kind_of element ≡ name.kind) × IsWhole element

-- a changed name, and its element, if any, are as their types require
abbrev pub IsNewsRow : {A : Type 0} → NewsRow A → Type 0
IsNewsRow r = HasId r.name × IfSome r.element (λ element. IsUnder r.name element)

-- the author, the rows and the number of news are as their types require, and the names of the rows rise
pub record AreNews {A : Type 0} (n : News A) : Type 0 where
  pub author : is_author n.author ≡ true
  pub rising : are_rising (map (λ r. r.name) n.rows) ≡ true
  pub rows : All (λ r. IsNewsRow r) n.rows
  pub number : IsNumber n.seq

-- a row of a map is as its types require
abbrev pub IsMapRow : {A : Type 0} → Name × Element A → Type 0
IsMapRow r = HasId r.0 × IsUnder r.0 r.1

-- the id, the rows and the number of a welcome are as their types require, and the names of the rows rise
pub record IsWelcome (w : Welcome) : Type 0 where
  pub id : IsNumber w.id
  pub rising : are_rising (names_of w.rows) ≡ true
  pub rows : All (λ r. IsMapRow r) w.rows
  pub number : w.seq ≤ 9007199254740991
