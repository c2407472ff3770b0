-- The tests of equality are exact: they pass equal values, and no others.
use Rattle.std.proofs.Common.{sym, ap, arith}
use Rattle.std.specs.Prelude.{◌≡◌, ◌&&◌, Bool, true, ℕ, ℤ, List, [], ◌∷◌, Option, Some, None, refl, nat_eq}
use Rattle.std.proofs.lemmas.Bool.Decides.{nat_tests}
use Rattle.osm_refs.specs.Prelude.{tied_itself, int_cmp_total, is_eq, int_eq, int_cmp, pointwise, same_text, int_cmp-IsAntisymmetric, same, same_names, is_eq-name_cmp_itself, Pairs, is_same_text, both_true, first_true, second_true, is_same}
use Rattle.osm_elements.specs.declared.name.Name.{Name}
use Rattle.osm_elements.specs.declared.element.Element.{Element}
use Rattle.osm_elements.specs.declared.element.Element.TheVariants.{Node, Way, Relation}
use Rattle.osm_changes.specs.SameRows.{are_same_names, are_same_members, are_same_tags, is_same_element, is_same_row}

pub same_ints : (y z : ℤ) → int_eq y z ≡ true → y ≡ z
same_ints y z e = int_cmp-IsAntisymmetric y z (same (int_cmp y z) e)

same_lists : {X : Type 0} (E : X → X → Bool) → ((x y : X) → E x y ≡ true → x ≡ y) → (xs ys : List X)
    → pointwise E xs ys ≡ true → xs ≡ ys
same_lists E entered [] [] e = refl
same_lists E entered [] (y ∷ ys) e = absurd (cc)
same_lists E entered (x ∷ xs) [] e = absurd (cc)
same_lists E entered (x ∷ xs) (y ∷ ys) e =
    let head = entered x y (first_true (E x y) (pointwise E xs ys) e) in
    let tail = same_lists E entered xs ys (second_true (E x y) (pointwise E xs ys) e) in
    λ i. head i ∷ tail i

pub same_name_lists : (xs ys : List Name) → are_same_names xs ys ≡ true → xs ≡ ys
same_name_lists = same_lists is_same same_names

pub same_texts : (s t : List ℕ) → is_same_text s t ≡ true → s ≡ t
same_texts s t e = same_text s t (sym e)

pub same_tags : (p q : Pairs) → are_same_tags p q ≡ true → p ≡ q
same_tags p q e = same_lists _ entered p q e
  where
    entered : (x y : List ℕ × List ℕ) → (is_same_text x.0 y.0 && is_same_text x.1 y.1) ≡ true → x ≡ y
    entered x y h =
        let key = same_texts x.0 y.0 (first_true (is_same_text x.0 y.0) (is_same_text x.1 y.1) h) in
        let value = same_texts x.1 y.1 (second_true (is_same_text x.0 y.0) (is_same_text x.1 y.1) h) in
        λ i. (key i, value i)

pub same_members : (p q : List (Name × List ℕ)) → are_same_members p q ≡ true → p ≡ q
same_members p q e = same_lists _ entered p q e
  where
    entered : (x y : Name × List ℕ) → (is_same x.0 y.0 && is_same_text x.1 y.1) ≡ true → x ≡ y
    entered x y h =
        let name = same_names x.0 y.0 (first_true (is_same x.0 y.0) (is_same_text x.1 y.1) h) in
        let role = same_texts x.1 y.1 (second_true (is_same x.0 y.0) (is_same_text x.1 y.1) h) in
        λ i. (name i, role i)

module _ {A : Type 0} where
  same_elements : (v w : Element A) → is_same_element v w ≡ true → v ≡ w
  same_elements (Node lat lon tags) (Node lat2 lon2 tags2) e =
      let lats = same_ints lat lat2 (first_true (int_eq lat lat2) (int_eq lon lon2 && are_same_tags tags tags2) e) in
      let rest = second_true (int_eq lat lat2) (int_eq lon lon2 && are_same_tags tags tags2) e in
      let lons = same_ints lon lon2 (first_true (int_eq lon lon2) (are_same_tags tags tags2) rest) in
      let both = same_tags tags tags2 (second_true (int_eq lon lon2) (are_same_tags tags tags2) rest) in
      λ i. Node (lats i) (lons i) (both i)
  same_elements (Node lat lon tags) (Way nodes2 tags2) e = absurd (cc)
  same_elements (Node lat lon tags) (Relation members2 tags2) e = absurd (cc)
  same_elements (Way nodes tags) (Node lat2 lon2 tags2) e = absurd (cc)
  same_elements (Way nodes tags) (Relation members2 tags2) e = absurd (cc)
  same_elements (Relation members tags) (Node lat2 lon2 tags2) e = absurd (cc)
  same_elements (Relation members tags) (Way nodes2 tags2) e = absurd (cc)
  same_elements (Relation members tags) (Relation members2 tags2) e =
      let lists = same_members members members2
      (first_true (are_same_members members members2) (are_same_tags tags tags2) e) in
      let both = same_tags tags tags2 (second_true (are_same_members members members2) (are_same_tags tags tags2) e) in
      λ i. Relation (lists i) (both i)
  same_elements (Way nodes tags) (Way nodes2 tags2) e =
      let lists = same_name_lists nodes nodes2
      (first_true (are_same_names nodes nodes2) (are_same_tags tags tags2) e) in
      let both = same_tags tags tags2 (second_true (are_same_names nodes nodes2) (are_same_tags tags tags2) e) in
      λ i. Way (lists i) (both i)

  pub equal_row : (o p : Option (Element A)) → is_same_row o p ≡ true → o ≡ p
  equal_row None None e = refl
  equal_row None (Some w) e = absurd (cc)
  equal_row (Some v) None e = absurd (cc)
  equal_row (Some v) (Some w) e = ap Some (same_elements v w e)

-- ---- each value is equal to itself

list_itself : {X : Type 0} (E : X → X → Bool) → ((x : X) → E x x ≡ true) → (xs : List X) → pointwise E xs xs ≡ true
list_itself E entered [] = refl
list_itself E entered (x ∷ xs) = both_true (E x x) (pointwise E xs xs) (entered x) (list_itself E entered xs)

number_itself : (n : ℕ) → nat_eq n n ≡ true
number_itself n = grind (arith, nat_tests)

pub int_itself : (z : ℤ) → int_eq z z ≡ true
int_itself z = ap is_eq (tied_itself int_cmp_total z)

pub names_itself : (names : List Name) → are_same_names names names ≡ true
names_itself = list_itself is_same is_eq-name_cmp_itself

pub tags_itself : (tags : Pairs) → are_same_tags tags tags ≡ true
tags_itself = list_itself (λ p q. is_same_text p.0 q.0 && is_same_text p.1 q.1)
    (λ p. both_true (is_same_text p.0 p.0) (is_same_text p.1 p.1) (list_itself nat_eq number_itself p.0)
    (list_itself nat_eq number_itself p.1))

pub members_itself : (members : List (Name × List ℕ)) → are_same_members members members ≡ true
members_itself = list_itself (λ p q. is_same p.0 q.0 && is_same_text p.1 q.1)
    (λ p. both_true (is_same p.0 p.0) (is_same_text p.1 p.1) (is_eq-name_cmp_itself p.0)
    (list_itself nat_eq number_itself p.1))

module _ {A : Type 0} where
  pub same_element : (v : Element A) → is_same_element v v ≡ true
  same_element (Node lat lon tags) =
      both_true (int_eq lat lat) (int_eq lon lon && are_same_tags tags tags) (int_itself lat)
      (both_true (int_eq lon lon) (are_same_tags tags tags) (int_itself lon) (tags_itself tags))
  same_element (Way nodes tags) = both_true (are_same_names nodes nodes) (are_same_tags tags tags)
      (names_itself nodes) (tags_itself tags)
  same_element (Relation members tags) = both_true (are_same_members members members) (are_same_tags tags tags)
      (members_itself members) (tags_itself tags)

  pub same_row : (o : Option (Element A)) → is_same_row o o ≡ true
  same_row None = refl
  same_row (Some v) = same_element v
