-- The inverse of a table: each name that is referred to, with the names that refer to it.
use Rattle.std.specs.Prelude.{map, flat_map}
use Rattle.osm_elements.specs.Maps.{name_set}
use Rattle.osm_refs.specs.Tables.{Table, users_in}

abbrev pub turned : Table → Table
turned t = map (λ x. (x, users_in t x)) (name_set (flat_map (λ r. r.1) t))

-- the references of each name, given the users of each name
abbrev pub references_of : Table → Table
references_of users = turned users
