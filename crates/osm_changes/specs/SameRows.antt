-- Tests of equality on elements and rows.
use Rattle.std.specs.Prelude.{◌&&◌, ℕ, Bool, false, List, Option}
use Rattle.osm_refs.specs.Prelude.{int_eq, option_eq, pointwise, Pairs, is_same, is_same_text}
use Rattle.osm_elements.specs.declared.name.Name.{Name}
use Rattle.osm_elements.specs.declared.element.Element.{Element}
use Rattle.osm_elements.specs.declared.element.Element.TheVariants.{Node, Way, Relation}

abbrev pub are_same_names : List Name → List Name → Bool
are_same_names = pointwise is_same

abbrev pub are_same_tags : Pairs → Pairs → Bool
are_same_tags = pointwise (λ p q. is_same_text p.0 q.0 && is_same_text p.1 q.1)

abbrev pub are_same_members : List (Name × List ℕ) → List (Name × List ℕ) → Bool
are_same_members = pointwise (λ r s. is_same r.0 s.0 && is_same_text r.1 s.1)

module _ {A : Type 0} where
  abbrev pub is_same_element : Element A → Element A → Bool
  is_same_element (Node lat lon tags) (Node lat2 lon2 tags2) =
      int_eq lat lat2 && (int_eq lon lon2 && are_same_tags tags tags2)
  is_same_element (Way nodes tags) (Way nodes2 tags2) = are_same_names nodes nodes2 && are_same_tags tags tags2
  is_same_element (Relation members tags) (Relation members2 tags2) =
      are_same_members members members2 && are_same_tags tags tags2
  is_same_element _ _ = false

  -- both rows are there and the same, or neither is there
  abbrev pub is_same_row : Option (Element A) → Option (Element A) → Bool
  is_same_row = option_eq is_same_element
