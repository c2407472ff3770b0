-- The kind and the tags of an element. (OpenStreetMap wiki, "Elements".)
use Rattle.std.specs.Prelude.{ℕ, List}
use Rattle.osm_elements.specs.declared.name.Kind.{Kind}
use Rattle.osm_elements.specs.declared.name.Kind.TheVariants as kinds
use Rattle.osm_elements.specs.declared.element.Element.{Element}
use Rattle.osm_elements.specs.declared.element.Element.TheVariants.{Node, Way, Relation}

-- the kind of an element
abbrev pub kind_of : {A : Type 0} → Element A → Kind
kind_of (Node lat lon tags) = kinds.Node
kind_of (Way nodes tags) = kinds.Way
kind_of (Relation members tags) = kinds.Relation

-- the tags of an element
abbrev pub tags_of : {A : Type 0} → Element A → List (List ℕ × List ℕ)
tags_of (Node lat lon tags) = tags
tags_of (Way nodes tags) = tags
tags_of (Relation members tags) = tags
