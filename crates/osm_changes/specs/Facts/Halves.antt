-- Rows and their halves, and the tests of equality on halves.
use Rattle.std.proofs.Common.{sym, ap, ◌∙◌}
use Rattle.std.specs.Prelude.{◌≡◌, ◌≢◌, true, false, Option, Some, None, is_some, refl}
use Rattle.osm_refs.specs.Prelude.{int_eq, both_true, first_true, second_true}
use Rattle.osm_elements.specs.declared.element.Element.{Element}
use Rattle.osm_elements.specs.declared.element.Element.TheVariants.{Node, Way, Relation}
use Rattle.osm_changes.specs.declared.half.Half.{Half}
use Rattle.osm_changes.specs.declared.half.Half.TheVariants.{Tags, Place, Nodes, Members}
use Rattle.osm_changes.specs.declared.part.Part.{Part}
use Rattle.osm_changes.specs.Halves.{half, row_of, is_same_half, are_same_halves}
use Rattle.osm_changes.specs.Facts.SameElements.{same_ints, same_tags, same_members, same_name_lists, int_itself, names_itself, tags_itself, members_itself}
use Rattle.osm_changes.specs.declared.part.Part.TheVariants as parts

module _ {A : Type 0} where
  -- a row is the row of its halves
  pub row_of-halves : (o : Option (Element A)) → row_of (half parts.Tags o) (half parts.Rest o) ≡ o
  row_of-halves None = refl
  row_of-halves (Some (Node lat lon tags)) = refl
  row_of-halves (Some (Way nodes tags)) = refl
  row_of-halves (Some (Relation members tags)) = refl

  -- rows with the same halves are the same
  pub same_whole : (o p : Option (Element A)) → half parts.Tags o ≡ half parts.Tags p
      → half parts.Rest o ≡ half parts.Rest p → o ≡ p
  same_whole o p t r = sym (row_of-halves o) ∙ (λ i. row_of (t i) (r i)) ∙ row_of-halves p

  -- a row is there if and only if a half of it is
  pub there_by_half : (q : Part) (o : Option (Element A)) → is_some o ≡ is_some (half q o)
  there_by_half q None = refl
  there_by_half q (Some v) = refl

  pub same_presence : (q : Part) (o p : Option (Element A)) → half q o ≡ half q p → is_some o ≡ is_some p
  same_presence q o p e = there_by_half q o ∙ ap is_some e ∙ sym (there_by_half q p)

  -- ---- the tests of equality

  entered : (h k : Half A) → is_same_half h k ≡ true → h ≡ k
  entered (Tags t) (Tags u) e = ap Tags (same_tags t u e)
  entered (Place lat lon) (Place lat2 lon2) e =
      let lats = same_ints lat lat2 (first_true (int_eq lat lat2) (int_eq lon lon2) e) in
      let lons = same_ints lon lon2 (second_true (int_eq lat lat2) (int_eq lon lon2) e) in
      λ i. Place (lats i) (lons i)
  entered (Nodes l) (Nodes k) e = ap Nodes (same_name_lists l k e)
  entered (Members l) (Members k) e = ap Members (same_members l k e)
  entered (Tags t) (Place lat lon) e = absurd (cc)
  entered (Tags t) (Nodes l) e = absurd (cc)
  entered (Tags t) (Members l) e = absurd (cc)
  entered (Place lat lon) (Tags t) e = absurd (cc)
  entered (Place lat lon) (Nodes l) e = absurd (cc)
  entered (Place lat lon) (Members l) e = absurd (cc)
  entered (Nodes l) (Tags t) e = absurd (cc)
  entered (Nodes l) (Place lat lon) e = absurd (cc)
  entered (Nodes l) (Members k) e = absurd (cc)
  entered (Members l) (Tags t) e = absurd (cc)
  entered (Members l) (Place lat lon) e = absurd (cc)
  entered (Members l) (Nodes k) e = absurd (cc)

  pub equal_halves : (h k : Option (Half A)) → are_same_halves h k ≡ true → h ≡ k
  equal_halves None None e = refl
  equal_halves None (Some k) e = absurd (cc)
  equal_halves (Some h) None e = absurd (cc)
  equal_halves (Some h) (Some k) e = ap Some (entered h k e)

  itself : (h : Half A) → is_same_half h h ≡ true
  itself (Tags t) = tags_itself t
  itself (Place lat lon) = both_true (int_eq lat lat) (int_eq lon lon) (int_itself lat) (int_itself lon)
  itself (Nodes l) = names_itself l
  itself (Members l) = members_itself l

  pub same_itself : (h : Option (Half A)) → are_same_halves h h ≡ true
  same_itself None = refl
  same_itself (Some h) = itself h

  pub not_same_halves : (h k : Option (Half A)) → are_same_halves h k ≡ false → k ≢ h
  not_same_halves h k f e = absurd (cc (sym f ∙ ap (are_same_halves h) e ∙ same_itself h))
