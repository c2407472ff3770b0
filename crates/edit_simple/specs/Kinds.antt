-- Tests of a kind. (OpenStreetMap wiki, "Elements": nodes, ways and relations.)
use Rattle.std.specs.Prelude.{Bool, true, false}
use Rattle.osm_elements.specs.declared.name.Kind.{Kind}
use Rattle.osm_elements.specs.declared.name.Kind.TheVariants.{Node, Way, Relation}

abbrev pub is_way : Kind → Bool
is_way Node = false
is_way Way = true
is_way Relation = false

abbrev pub is_relation : Kind → Bool
is_relation Node = false
is_relation Way = false
is_relation Relation = true
