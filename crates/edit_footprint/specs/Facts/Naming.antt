-- The names that rows refer to.
use Rattle.std.specs.Prelude.{◌≡◌, true, false, Option, Some, None, refl}
use Rattle.edit_actions.specs.Prelude.{Rows, is_among, is_present, row_at, row_references, is_sound, nodes_of, fine}
use Rattle.osm_elements.specs.declared.name.Name.{Name}
use Rattle.osm_elements.specs.declared.element.Element.{Element}
use Rattle.osm_elements.specs.declared.element.Element.TheVariants.{Node, Way, Relation}

module _ {A : Type 0} where
  -- a sound map has each name that a row refers to
  pub named_there : (m : Rows A) → is_sound m ≡ true → (y e : Name) → is_among (row_references (row_at m y)) e ≡ true → is_present m e ≡ true
  named_there m sound y e h = by (row_at m y) refl h
    where
      by : (o : Option (Element A)) → row_at m y ≡ o → is_among (row_references o) e ≡ true → is_present m e ≡ true
      by None is i = absurd (cc)
      by (Some v) is i = (fine m sound y v is).refs e i

  -- a name that a row does not refer to is not one of its nodes
  pub none_of_nodes : (o : Option (Element A)) (e : Name) → is_among (row_references o) e ≡ false → is_among (nodes_of o) e ≡ false
  none_of_nodes None e h = refl
  none_of_nodes (Some (Node lat lon tags)) e h = refl
  none_of_nodes (Some (Way nodes tags)) e h = h
  none_of_nodes (Some (Relation members tags)) e h = refl
