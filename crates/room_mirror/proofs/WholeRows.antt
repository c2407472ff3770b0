-- The rows of a sound map are read back from their texts.
use Rattle.std.proofs.Common.{◌≡◌, ◌&&◌, ◌||◌, ℤ, suc, Bool, true, false, List, [], ◌∷◌, ℕ, Some, All, is_some, map, refl, sym, ap, ◌∙◌, arith}
use Rattle.std.proofs.lemmas.Bool.Decides.{nat_tests}
use Rattle.std.proofs.lemmas.Int.{ints}
use Rattle.std.proofs.lemmas.List.Elements.{All-cons, All-nil}
use Rattle.room_mirror.specs.Prelude.{list_all, is_sorted, Global, latitude, longitude, IsWithin, value_within, Name, Element, Node, Way, Relation, kind_of, is_among-names_of, is_eq-name_cmp_itself, first_true, second_true, so, are_nodes, is_made, is_node, Rows, is_among, is_kind, is_present, is_same, names_of, are_members, name_cmp, AreNodes, are_tags, references, sound_row, is_of_length, is_sound, is_sound_row, told_kind, told_node, IsMapRow, IsUnder, HasId, IsWhole}
use Rattle.osm_elements.specs.Rows.{row_at}
use Rattle.room_mirror.proofs.NamesKept.{HaveIds}
use Rattle.osm_elements.specs.declared.name.Kind.TheVariants as kinds

within : (limit : ℕ) (z : ℤ) → is_some (value_within limit z) ≡ true → IsWithin limit z
within limit z h = grind (arith, nat_tests, ints)

nodes_are : (names : List Name) → are_nodes names ≡ true → AreNodes names
nodes_are [] h = All-nil (λ n. n.kind ≡ kinds.Node)
nodes_are (n ∷ ns) h = All-cons (λ n. n.kind ≡ kinds.Node) n ns (told_node n.kind (first_true (is_node n.kind) (are_nodes ns) h)) (nodes_are ns (second_true (is_node n.kind) (are_nodes ns) h))

-- present names have ids
ids_present : (m : Rows Global) → HaveIds m → (names : List Name) → list_all (is_present m) names ≡ true → All HasId names
ids_present m ids [] h = All-nil HasId
ids_present m ids (n ∷ ns) h =
    All-cons HasId n ns (ids n (first_true (is_present m n) (list_all (is_present m) ns) h)) (ids_present m ids ns (second_true (is_present m n) (list_all (is_present m) ns) h))

ids_of_members : (members : List (Name × List ℕ)) → All HasId (map (λ (x : Name × List ℕ). x.0) members) → All (λ (x : Name × List ℕ). HasId x.0) members
ids_of_members [] h = All-nil (λ (x : Name × List ℕ). HasId x.0)
ids_of_members (x ∷ xs) h = All-cons (λ (x : Name × List ℕ). HasId x.0) x xs (h 0 x.0 (omega arith)) (ids_of_members xs (λ k d l. h (suc k) d (omega (arith, l))))

-- a made element that refers only to names with ids
whole : (v : Element Global) → is_made v ≡ true → All HasId (references v) → IsWhole v
whole (Node lat lon tags) made ids =
    let rest = second_true (is_some (latitude lat)) (is_some (longitude lon) && are_tags tags) made in (
      within 900000000 lat (first_true (is_some (latitude lat)) (is_some (longitude lon) && are_tags tags) made),
      within 1800000000 lon (first_true (is_some (longitude lon)) (are_tags tags) rest),
      so (are_tags tags) (second_true (is_some (longitude lon)) (are_tags tags) rest),
    )
whole (Way nodes tags) made ids = (nodes_are nodes (first_true (are_nodes nodes) (are_tags tags) made), ids, so (are_tags tags) (second_true (are_nodes nodes) (are_tags tags) made))
whole (Relation members tags) made ids =
    (so (are_members members) (first_true (are_members members) (are_tags tags) made), ids_of_members members ids, so (are_tags tags) (second_true (are_members members) (are_tags tags) made))

module _ (m : Rows Global) (ids : HaveIds m) where
  fine_row : (y : Name) (v : Element Global) → is_sound_row m y v ≡ true → IsUnder y v
  fine_row y v fine =
      let made_on = second_true (is_kind (kind_of v) y.kind) (is_made v && (is_of_length v && list_all (is_present m) (references v))) fine in
      let long_on = second_true (is_made v) (is_of_length v && list_all (is_present m) (references v)) made_on in (
        told_kind (kind_of v) y.kind (first_true (is_kind (kind_of v) y.kind) (is_made v && (is_of_length v && list_all (is_present m) (references v))) fine),
        whole v (first_true (is_made v) (is_of_length v && list_all (is_present m) (references v)) made_on)
            (ids_present m ids (references v) (second_true (is_of_length v) (list_all (is_present m) (references v)) long_on)),
      )

  -- the row that a sound map has at a name
  pub row_under : is_sound m ≡ true → (y : Name) (v : Element Global) → row_at m y ≡ Some v → IsUnder y v
  row_under sound y v is = fine_row y v (sound_row m sound y v is)

  own : (x : Name) (xs : List Name) → is_among (x ∷ xs) x ≡ true
  own x xs = ap (λ b. b || is_among xs x) (is_eq-name_cmp_itself x)

  behind : (x y : Name) (xs : List Name) → is_among xs y ≡ true → is_among (x ∷ xs) y ≡ true
  behind x y xs h = ap (λ b. is_same y x || b) h ∙ by (is_same y x)
    where
      by : (b : Bool) → (b || true) ≡ true
      by true = refl
      by false = refl

  rows_fine : (rows : Rows Global) → ((y : Name) → is_among (names_of rows) y ≡ true → HasId y) → list_all (λ r. is_sound_row m r.0 r.1) rows ≡ true → All (λ r. IsMapRow r) rows
  rows_fine [] has all = All-nil (λ r. IsMapRow r)
  rows_fine (r ∷ rs) has all =
      All-cons (λ r. IsMapRow r) r rs
      (has r.0 (own r.0 (names_of rs)), fine_row r.0 r.1 (first_true (is_sound_row m r.0 r.1) (list_all (λ r. is_sound_row m r.0 r.1) rs) all))
      (rows_fine rs (λ y h. has y (behind r.0 y (names_of rs) h)) (second_true (is_sound_row m r.0 r.1) (list_all (λ r. is_sound_row m r.0 r.1) rs) all))

  -- all its rows
  pub map_rows : is_sound m ≡ true → All (λ r. IsMapRow r) m
  map_rows sound = rows_fine m (λ y h. ids y (sym (is_among-names_of m y) ∙ h)) (second_true (is_sorted name_cmp m) (list_all (λ r. is_sound_row m r.0 r.1) m) sound)
