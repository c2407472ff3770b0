-- A written element is read back as the same element.
use Rattle.std.proofs.Common.{◌≡◌, ℤ, Some, Ok, refl, inl, sym, ap, ◌∙◌}
use Rattle.room_wire.specs.Prelude.{Global, latitude_of, IsLatitude, longitude_of, IsLongitude, written, Name, Element, Node, Way, Relation, kind_of, Create, HasId, IsWhole, create_at, el_at, element_at, element_tree, HasElement, HasName}
use Rattle.room_wire.proofs.WellFormedProofs.{created, el_read, element_read}

name_back : (name : Name) (element : Element Global) → HasId name → HasName (element_tree name element) name
name_back name (Node lat lon tags) f = (refl, f)
name_back name (Way nodes tags) f = (refl, f)
name_back name (Relation members tags) f = (refl, f)

pub el_back : (name : Name) (element : Element Global) → HasId name → el_at (element_tree name element) ≡ Ok name
el_back name element f = el_read (element_tree name element) name (name_back name element f)

module _ (latitude_back : (z : ℤ) → IsLatitude z → latitude_of (written z) ≡ Some z) (longitude_back : (z : ℤ) → IsLongitude z → longitude_of (written z) ≡ Some z) where
  parts_back : (name : Name) (element : Element Global) → IsWhole element → HasElement (element_tree name element) element
  parts_back name (Node lat lon tags) whole = ((written lat, refl, latitude_back lat whole.0), (written lon, refl, longitude_back lon whole.1), inl (refl, whole.2))
  parts_back name (Way nodes tags) whole = ((refl, whole.0, whole.1), inl (refl, whole.2))
  parts_back name (Relation members tags) whole = ((refl, whole.0, whole.1), inl (refl, whole.2))

  pub element_back : (name : Name) (element : Element Global) → kind_of element ≡ name.kind → IsWhole element → element_at name.kind (element_tree name element) ≡ Ok element
  element_back name element kind whole =
      let d = element_tree name element in
      ap (λ k. element_at k d) (sym kind) ∙ element_read d element (parts_back name element whole)

  pub element_read_back : (name : Name) (element : Element Global) → HasId name → kind_of element ≡ name.kind → IsWhole element → create_at (element_tree name element) ≡ Ok (Create name element)
  element_read_back name element f kind whole = created (element_tree name element) name element (el_back name element f) (element_back name element kind whole)
