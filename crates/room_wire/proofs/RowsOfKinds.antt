-- The elements of a welcome are of their names' kinds.
use Rattle.std.proofs.Common.{◌≡◌, ℕ, Bool, true, false, cond, List, ◌∷◌, Option, Some, None, IfSome, Ok, IfOk, map, refl, subst, option_map, option_and_then}
use Rattle.serde_json.specs.Data.{Data, Items, no_items, item}
use Rattle.serde_json.specs.Find.{get, as_array}
use Rattle.room_wire.specs.Prelude.{Global, result_ok, Kind, Row, kind_of, both_true, Rows, is_kind, are_rising, are_of_kinds, row_pair, BadField, field_text, rising, row_at, rows_at, rows_in, object_at, el_at, element_at, items_in, lat_at, lon_at, members_at, nodes_at, tags_at, count_at, map_at, told_at}
use Rattle.room_wire.proofs.Found.{if_any, if_then, if_told, ok_any, ok_or, ok_then}
use Rattle.osm_elements.specs.declared.name.Kind.TheVariants as kinds
use Rattle.room_wire.specs.declared.field.Field.TheVariants as fields

-- an element is of the kind with which it is read
element_kind : (k : Kind) (d : Data) → IfOk (element_at k d) (λ v. is_kind (kind_of v) k ≡ true)
element_kind kinds.Node d = ok_any _ (lat_at d) _ (λ lat. ok_any _ (lon_at d) _ (λ lon. ok_any _ (tags_at d) _ (λ tags. refl)))
element_kind kinds.Way d = ok_any _ (nodes_at d) _ (λ nodes. ok_any _ (tags_at d) _ (λ tags. refl))
element_kind kinds.Relation d = ok_any _ (members_at d) _ (λ members. ok_any _ (tags_at d) _ (λ tags. refl))

-- the element of a row is of its name's kind
abbrev IsOfKind : Row Global → Type 0
IsOfKind r = is_kind (kind_of r.element) r.name.kind ≡ true

row_kind : (d : Data) → IfOk (row_at d) IsOfKind
row_kind d = ok_any _ (el_at d) _ (λ name. ok_then (λ v. is_kind (kind_of v) name.kind ≡ true) _ (element_at name.kind d) _ (element_kind name.kind d) (λ v h. h))

abbrev AreOfKinds : List (Row Global) → Type 0
AreOfKinds rows = are_of_kinds (map row_pair rows) ≡ true

one_more : (r : Row Global) (rows : Option (List (Row Global))) → IsOfKind r → IfSome rows AreOfKinds → IfSome (option_map (λ rs. r ∷ rs) rows) AreOfKinds
one_more r None h all = tt
one_more r (Some rs) h all = both_true (is_kind (kind_of r.element) r.name.kind) (are_of_kinds (map row_pair rs)) h all

items_kinds : (ds : Items) → IfSome (items_in (λ d. result_ok (row_at d)) ds) AreOfKinds
items_kinds no_items = refl
items_kinds (item d ds) =
    if_then IsOfKind _ (result_ok (row_at d)) _ (if_told IsOfKind (row_at d) (row_kind d)) (λ r h. one_more r (items_in (λ e. result_ok (row_at e)) ds) h (items_kinds ds))

rising_kinds : (rows : List (Row Global)) → AreOfKinds rows → IfSome (rising row_at (λ r. r.name) rows) AreOfKinds
rising_kinds rows h = by (are_rising (map (λ r. r.name) rows))
  where
    by : (b : Bool) → IfSome (cond b (Some rows) None) AreOfKinds
    by true = h
    by false = tt

map_kinds : (d : Data) → IfOk (map_at d) (λ rows. are_of_kinds rows ≡ true)
map_kinds d =
    ok_then AreOfKinds _ (rows_at row_at (λ r. r.name) fields.Map d) _
    (ok_or AreOfKinds (BadField fields.Map) (option_and_then (rising row_at (λ r. r.name)) (option_and_then (rows_in row_at (λ r. r.name)) (option_and_then as_array (get (field_text fields.Map) d))))
    (if_then AreOfKinds AreOfKinds (option_and_then (rows_in row_at (λ r. r.name)) (option_and_then as_array (get (field_text fields.Map) d))) (rising row_at (λ r. r.name))
    (if_any AreOfKinds (option_and_then as_array (get (field_text fields.Map) d)) (rows_in row_at (λ r. r.name)) items_kinds) rising_kinds))
    (λ rows h. h)

told_kinds : (d : Data) → IfOk (told_at d) (λ told. are_of_kinds told.0 ≡ true)
told_kinds d = ok_any _ (object_at fields.Ok d) _ (λ ok. ok_then (λ rows. are_of_kinds rows ≡ true) _ (map_at ok) _ (map_kinds ok) (λ rows h. ok_any _ (count_at ok) _ (λ seq. h)))

-- so are the elements of a welcome
pub kinds_told : (d : Data) (rows : Rows Global) (seq : ℕ) → told_at d ≡ Ok (rows, seq) → are_of_kinds rows ≡ true
kinds_told d rows seq is = subst (λ r. IfOk r (λ told. are_of_kinds told.0 ≡ true)) is (told_kinds d)
