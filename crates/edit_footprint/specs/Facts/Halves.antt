-- What the halves of a row determine: its references, nodes, members and tags.
use Rattle.std.proofs.Common.{sym, ap, ◌∙◌}
use Rattle.std.specs.Prelude.{◌≡◌, ℕ, List, [], Option, Some, None, refl}
use Rattle.edit_actions.specs.Prelude.{Pairs, row_references, half, nodes_of, members_of, row_tags}
use Rattle.osm_elements.specs.declared.name.Name.{Name}
use Rattle.osm_elements.specs.declared.element.Element.{Element}
use Rattle.osm_elements.specs.declared.element.Element.TheVariants.{Node, Way, Relation}
use Rattle.osm_changes.specs.declared.half.Half.{Half}
use Rattle.osm_changes.specs.declared.half.Half.TheVariants.{Tags, Members}
use Rattle.edit_footprint.specs.Footprints.{half_references, half_nodes}
use Rattle.osm_changes.specs.declared.part.Part.TheVariants as parts

module _ {A : Type 0} where
  -- the references of a row are those of its rest
  pub references_by_half : (o : Option (Element A)) → row_references o ≡ half_references (half parts.Rest o)
  references_by_half None = refl
  references_by_half (Some (Node lat lon tags)) = refl
  references_by_half (Some (Way nodes tags)) = refl
  references_by_half (Some (Relation members tags)) = refl

  pub same_references : (o q : Option (Element A)) → half parts.Rest o ≡ half parts.Rest q
      → row_references o ≡ row_references q
  same_references o q e = references_by_half o ∙ ap half_references e ∙ sym (references_by_half q)

  -- the nodes of a way are those of its rest
  pub nodes_by_half : (o : Option (Element A)) → nodes_of o ≡ half_nodes (half parts.Rest o)
  nodes_by_half None = refl
  nodes_by_half (Some (Node lat lon tags)) = refl
  nodes_by_half (Some (Way nodes tags)) = refl
  nodes_by_half (Some (Relation members tags)) = refl

  pub same_nodes_of : (o q : Option (Element A)) → half parts.Rest o ≡ half parts.Rest q → nodes_of o ≡ nodes_of q
  same_nodes_of o q e = nodes_by_half o ∙ ap half_nodes e ∙ sym (nodes_by_half q)

  -- the members of a relation are those of its rest
  abbrev members_in : Option (Half A) → List (Name × List ℕ)
  members_in (Some (Members members)) = members
  members_in _ = []

  members_by_half : (o : Option (Element A)) → members_of o ≡ members_in (half parts.Rest o)
  members_by_half None = refl
  members_by_half (Some (Node lat lon tags)) = refl
  members_by_half (Some (Way nodes tags)) = refl
  members_by_half (Some (Relation members tags)) = refl

  pub same_members_of : (o q : Option (Element A)) → half parts.Rest o ≡ half parts.Rest q → members_of o ≡ members_of q
  same_members_of o q e = members_by_half o ∙ ap members_in e ∙ sym (members_by_half q)

  abbrev pub tags_in : Option (Half A) → Pairs
  tags_in (Some (Tags tags)) = tags
  tags_in _ = []

  tags_by_half : (o : Option (Element A)) → row_tags o ≡ tags_in (half parts.Tags o)
  tags_by_half None = refl
  tags_by_half (Some (Node lat lon tags)) = refl
  tags_by_half (Some (Way nodes tags)) = refl
  tags_by_half (Some (Relation members tags)) = refl

  pub same_row_tags : (o q : Option (Element A)) → half parts.Tags o ≡ half parts.Tags q → row_tags o ≡ row_tags q
  same_row_tags o q e = tags_by_half o ∙ ap tags_in e ∙ sym (tags_by_half q)
