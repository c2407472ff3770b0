-- Sound maps. (OpenStreetMap API v0.6: nothing absent is named. The greatest lengths are this project's.)
use Rattle.std.specs.Prelude.{◌&&◌, ℕ, Bool, true, length, nat_le}
use Rattle.osm_refs.specs.Prelude.{list_all, is_sorted, kind_of, is_made, name_cmp, Rows, is_kind, is_present, references}
use Rattle.osm_elements.specs.declared.name.Name.{Name}
use Rattle.osm_elements.specs.declared.element.Element.{Element}
use Rattle.osm_elements.specs.declared.element.Element.TheVariants.{Node, Way, Relation}

-- a way has at most 2,000 nodes
abbrev pub most_nodes : ℕ
most_nodes = 2000

-- a relation has at most 32,000 members
abbrev pub most_members : ℕ
most_members = 32000

module _ {A : Type 0} where
  -- a way has 2 to 2,000 nodes, and a relation at most 32,000 members
  abbrev pub is_of_length : Element A → Bool
  is_of_length (Node lat lon tags) = true
  is_of_length (Way nodes tags) = nat_le 2 (length nodes) && nat_le (length nodes) most_nodes
  is_of_length (Relation members tags) = nat_le (length members) most_members

  -- the element is of its name's kind, is made, has an allowed length, and refers only to elements of the map
  abbrev pub is_sound_row : Rows A → Name → Element A → Bool
  is_sound_row m x v =
      is_kind (kind_of v) x.kind && (is_made v && (is_of_length v && list_all (is_present m) (references v)))

  -- the names rise, and every row is sound
  abbrev pub is_sound : Rows A → Bool
  is_sound m = is_sorted name_cmp m && list_all (λ r. is_sound_row m r.0 r.1) m
