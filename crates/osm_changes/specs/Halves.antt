-- The two halves of a row: its tags, and the rest. (Parts are this project's.)
use Rattle.std.specs.Prelude.{◌&&◌, Bool, false, Option, Some, None}
use Rattle.osm_refs.specs.Prelude.{option_eq, int_eq, tags_of, Pairs}
use Rattle.osm_elements.specs.declared.element.Element.{Element}
use Rattle.osm_elements.specs.declared.element.Element.TheVariants.{Node, Way, Relation}
use Rattle.osm_changes.specs.declared.half.Half.{Half}
use Rattle.osm_changes.specs.declared.half.Half.TheVariants.{Tags, Place, Nodes, Members}
use Rattle.osm_changes.specs.declared.part.Part.{Part}
use Rattle.osm_changes.specs.SameRows.{are_same_names, are_same_tags, are_same_members}
use Rattle.osm_changes.specs.declared.part.Part.TheVariants as parts

module _ {A : Type 0} where
  -- an element apart from its tags
  abbrev pub rest_of : Element A → Half A
  rest_of (Node lat lon tags) = Place lat lon
  rest_of (Way nodes tags) = Nodes nodes
  rest_of (Relation members tags) = Members members

  abbrev pub half_in : Part → Element A → Half A
  half_in parts.Tags v = Tags (tags_of v)
  half_in parts.Rest v = rest_of v

  -- a half of a row; an absent row has none
  abbrev pub half : Part → Option (Element A) → Option (Half A)
  half p None = None
  half p (Some v) = Some (half_in p v)

  -- the element with these tags and this rest, if the rest is not tags
  abbrev pub element_of : Pairs → Half A → Option (Element A)
  element_of tags (Tags others) = None
  element_of tags (Place lat lon) = Some (Node lat lon tags)
  element_of tags (Nodes nodes) = Some (Way nodes tags)
  element_of tags (Members members) = Some (Relation members tags)

  -- the row of two halves, if both are there and fit
  abbrev pub row_of : Option (Half A) → Option (Half A) → Option (Element A)
  row_of (Some (Tags tags)) (Some rest) = element_of tags rest
  row_of _ _ = None

  abbrev pub is_same_half : Half A → Half A → Bool
  is_same_half (Tags tags) (Tags tags2) = are_same_tags tags tags2
  is_same_half (Place lat lon) (Place lat2 lon2) = int_eq lat lat2 && int_eq lon lon2
  is_same_half (Nodes nodes) (Nodes nodes2) = are_same_names nodes nodes2
  is_same_half (Members members) (Members members2) = are_same_members members members2
  is_same_half _ _ = false

  -- both halves are there and the same, or neither is there
  abbrev pub are_same_halves : Option (Half A) → Option (Half A) → Bool
  are_same_halves = option_eq is_same_half
