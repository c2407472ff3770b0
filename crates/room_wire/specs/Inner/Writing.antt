-- The trees that private functions write, token by token (RFC 8259).
use Rattle.std.specs.Prelude.{◌≡◌, ◌++◌, All, ℕ, List, [], ◌∷◌, Some, true, codes}
use Rattle.json.specs.Token.{Token, key}
use Rattle.json.specs.Tree.{HasNumbers, json_tokens}
use Rattle.json.specs.Written.{Written}
use Rattle.serde_json.specs.Data.{Data, boolean, string, object, Members, no_members, member}
use Rattle.serde_json.specs.Read.{of_json}
use Rattle.serde_json.specs.Written.{outline}
use Rattle.osm_coords.specs.Written.{written}
use Rattle.room_wire.specs.declared.element.Part.{Part}
use Rattle.room_wire.specs.declared.shown.Shown.{Shown}
use Rattle.room_wire.specs.News.{news_rows_tree}
use Rattle.room_wire.specs.Trees.{element_tree, name_tree, nodes_tree, members_tree, numbers_tree, rows_tree, tags_tree, whole}
use Rattle.room_wire.specs.declared.element.Part.TheVariants as parts
use Rattle.room_wire.specs.declared.shown.Shown.TheVariants as values

-- the tree is read back from its outline, and each number in it is a JSON number
pub record IsReadable (d : Data) : Type 0 where
  pub same : of_json (outline d) ≡ Some d
  pub numbers : HasNumbers (outline d)

abbrev pub tree_tokens : Data → List Token
tree_tokens d = json_tokens (outline d)

-- a tree was written after the earlier tokens, and any reader of JSON reads its text as this tree
pub record Tells (old new : Written) (d : Data) : Type 0 where
  pub before : new.before ≡ old.before
  pub tokens : new.tokens ≡ old.tokens ++ tree_tokens d
  pub readable : IsReadable d

-- the same for a member of an object: its key, and then its tree
pub record TellsMember (old new : Written) (m : List ℕ × Data) : Type 0 where
  pub before : new.before ≡ old.before
  pub tokens : new.tokens ≡ old.tokens ++ key m.0 ∷ tree_tokens m.1
  pub readable : IsReadable m.1

-- the same for the members of an object, without the object's brackets
abbrev pub members_tokens : List (List ℕ × Data) → List Token
members_tokens [] = []
members_tokens (m ∷ ms) = key m.0 ∷ (tree_tokens m.1 ++ members_tokens ms)

pub record TellsMembers (old new : Written) (ms : List (List ℕ × Data)) : Type 0 where
  pub before : new.before ≡ old.before
  pub tokens : new.tokens ≡ old.tokens ++ members_tokens ms
  pub readable : All (λ m. IsReadable m.1) ms

abbrev pub members_of : List (List ℕ × Data) → Members
members_of [] = no_members
members_of (m ∷ ms) = member m.0 m.1 (members_of ms)

-- an object with an id, and a tree under a word
abbrev pub under_tree : ℕ → List ℕ → Data → Data
under_tree id word d = object (members_of ((codes "id", whole id) ∷ (word, d) ∷ []))

-- the value of a member of a row of a map or of news
abbrev pub part_tree : Part → Data
part_tree (parts.Name name) = name_tree name
part_tree (parts.Lat lat) = string (written lat)
part_tree (parts.Lon lon) = string (written lon)
part_tree (parts.Nodes nodes) = nodes_tree nodes.now
part_tree (parts.Members members) = members_tree members.now
part_tree (parts.Tags tags) = tags_tree tags.now
part_tree parts.Gone = boolean true

-- the value of a member of a reply or of news
abbrev pub shown_tree : Shown → Data
shown_tree (values.Number n) = whole n
shown_tree (values.Text text) = string text.now
shown_tree (values.Name name) = name_tree name
shown_tree (values.Numbers numbers) = numbers_tree numbers.now
shown_tree (values.Element name element) = element_tree name element.now
shown_tree (values.Rows rows) = rows_tree rows.now
shown_tree (values.Map map) = rows_tree map.now
shown_tree (values.News rows) = news_rows_tree rows.now
