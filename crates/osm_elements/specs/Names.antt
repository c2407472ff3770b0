-- The order and the letters of kinds. (OpenStreetMap wiki, "Elements": nodes, ways and relations, each with its own
-- ids.)
use Rattle.std.specs.Prelude.{◌≡◌, ◌≢◌, ℕ, List, ◌∷◌}
use Rattle.osm_elements.specs.declared.name.Kind.{Kind}
use Rattle.osm_elements.specs.declared.name.Kind.TheVariants.{Node, Way, Relation}

-- nodes first, then ways, then relations
abbrev pub kind_rank : Kind → ℕ
kind_rank Node = 0
kind_rank Way = 1
kind_rank Relation = 2

-- n, w or r
abbrev pub letter_of : Kind → ℕ
letter_of Node = 110
letter_of Way = 119
letter_of Relation = 114

-- the text is the kind's letter, followed by these digits
abbrev pub Splits : List ℕ → Kind → List ℕ → Type 0
Splits text kind digits = text ≡ letter_of kind ∷ digits

-- the text does not begin with the letter of a kind
abbrev pub NoLetter : List ℕ → Type 0
NoLetter text = (kind : Kind) (digits : List ℕ) → text ≢ letter_of kind ∷ digits
