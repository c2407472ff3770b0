-- Examples of the definitions, worked out by hand.
use Rattle.std.specs.Prelude.{◌≡◌, ◌++◌, [], ◌∷◌, Some, None, Ok, Err, true, false, pos, negsuc, codes}
use Rattle.std.specs.FinMap.Entries.{put}
use Rattle.osm_elements.specs.declared.name.Kind.TheVariants as kinds
use Rattle.osm_elements.specs.declared.fault.TextFault.TheVariants.{TextTooLong, EmptyKey, TooManyTags}
use Rattle.osm_elements.specs.declared.element.Element.{Element}
use Rattle.osm_elements.specs.declared.element.Element.TheVariants.{Node, Way, Relation}
use Rattle.osm_elements.specs.Elements.{kind_of, tags_of}
use Rattle.osm_elements.specs.KeyedRows.{text_cmp, are_rows, value_at, without_key, set_refusal, place}
use Rattle.osm_elements.specs.KeyedValues.{is_short, is_none_or}
use Rattle.osm_elements.specs.Made.{is_made}
use Rattle.osm_elements.specs.Maps.{is_same, is_among, is_kind, name_set, least, names_of, is_present, is_absent, rows_but}
use Rattle.osm_elements.specs.NameTexts.{name_of, name_text, named}
use Rattle.osm_elements.specs.Rows.{row_at, put_row, without_row}
use Rattle.osm_elements.specs.Scenes.{Any, n-1, n-2, n5, w-7, w5, r5, accents, path, unnamed, two_tags, thousand_tags}
use Rattle.osm_elements.specs.TagRows.{are_tags}
use Rattle.osm_elements.specs.Texts.{text_refusal, is_same_text}

-- the text of a name is a letter and an id; the id is not 0, fits 64 bits, and has one form
unfoldable pub names_read : Type 0
names_read =
    (name_of (codes "n5") ≡ Some n5)
    × (name_of (codes "w-7") ≡ Some w-7)
    × (name_of (codes "r5") ≡ Some r5)
    × (name_text w-7 ≡ codes "w-7")
    × (name_of (codes "n9223372036854775807") ≡ Some (named kinds.Node (pos 9223372036854775807) tt))
    × (name_of (codes "n-9223372036854775808") ≡ Some (named kinds.Node (negsuc 9223372036854775807) tt))
    × (name_of (codes "n9223372036854775808") ≡ None)
    × (name_of (codes "n-9223372036854775809") ≡ None)
    × (name_of (codes "n0") ≡ None)
    × (name_of (codes "n-0") ≡ None)
    × (name_of (codes "n05") ≡ None)
    × (name_of (codes "n+5") ≡ None)
    × (name_of (codes "x5") ≡ None)
    × (name_of (codes "5") ≡ None)
    × (name_of (codes "n") ≡ None)
    × (name_of [] ≡ None)

-- nodes come before ways, and ways before relations; names of a kind are ordered by id
unfoldable pub names_ordered : Type 0
names_ordered =
    (name_set (r5 ∷ w5 ∷ n5 ∷ n-1 ∷ w-7 ∷ n5 ∷ n-2 ∷ []) ≡ n-2 ∷ n-1 ∷ n5 ∷ w-7 ∷ w5 ∷ r5 ∷ [])
    × (least (w5 ∷ n5 ∷ n-2 ∷ r5 ∷ n-1 ∷ []) ≡ Some n-2)
    × (least [] ≡ None)
    × (is_same n5 n5 ≡ true)
    × (is_same n5 w5 ≡ false)
    × (is_same w-7 w5 ≡ false)
    × (is_among (w5 ∷ r5 ∷ []) w5 ≡ true)
    × (is_among (w5 ∷ r5 ∷ []) n5 ≡ false)
    × (is_kind n5.kind n-1.kind ≡ true)
    × (is_kind n5.kind w5.kind ≡ false)

-- a text has at most 255 characters, however many bytes a character has
unfoldable pub texts_limited : Type 0
texts_limited =
    (text_refusal [] ≡ None)
    × (text_refusal (accents 255) ≡ None)
    × (text_refusal (accents 256) ≡ Some TextTooLong)
    × (is_same_text (codes "Elm") (codes "Elm") ≡ true)
    × (is_same_text (codes "Elm") (codes "elm") ≡ false)
    × (is_same_text (codes "Elm") (codes "Elms") ≡ false)

-- keys rise by their bytes, each once, and have 1 to 255 characters; values have at most 255
unfoldable pub tags_made : Type 0
tags_made =
    (are_tags [] ≡ true)
    × (are_tags two_tags ≡ true)
    × (are_tags (unnamed ∷ path ∷ []) ≡ false)
    × (are_tags (path ∷ path ∷ []) ≡ false)
    × (are_tags (([], codes "yes") ∷ []) ≡ false)
    × (are_tags ((accents 255, accents 255) ∷ []) ≡ true)
    × (are_tags ((accents 256, []) ∷ []) ≡ false)
    × (are_tags ((codes "name", accents 256) ∷ []) ≡ false)
    × (are_rows (is_none_or is_short) ((codes "name", None) ∷ []) ≡ true)
    × (are_rows (is_none_or is_short) ((codes "name", Some (accents 255)) ∷ []) ≡ true)
    × (are_rows (is_none_or is_short) ((codes "name", Some (accents 256)) ∷ []) ≡ false)

-- there are at most 1,000 tags
unfoldable pub tags_counted : Type 0
tags_counted =
    (are_tags thousand_tags ≡ true)
    × (are_tags (thousand_tags ++ unnamed ∷ []) ≡ false)

-- a put replaces the value of a key, or inserts a row in order; all other rows stay
unfoldable pub tags_changed : Type 0
tags_changed =
    (put text_cmp (codes "lit") (codes "yes") two_tags ≡ path ∷ (codes "lit", codes "yes") ∷ unnamed ∷ [])
    × (put text_cmp (codes "name") (codes "Elm") two_tags ≡ path ∷ (codes "name", codes "Elm") ∷ [])
    × (without_key two_tags (codes "highway") ≡ unnamed ∷ [])
    × (without_key two_tags (codes "lit") ≡ two_tags)
    × (value_at two_tags (codes "highway") ≡ Some (codes "path"))
    × (value_at two_tags (codes "name") ≡ Some [])
    × (value_at two_tags (codes "lit") ≡ None)
    × (place (codes "name") two_tags ≡ Ok 1)
    × (place (codes "lit") two_tags ≡ Err 1)
    × (place (codes "oneway") two_tags ≡ Err 2)

-- an empty key is refused, and so is a new key if there are 1,000 tags
unfoldable pub tags_refused : Type 0
tags_refused =
    (set_refusal two_tags (codes "lit") ≡ None)
    × (set_refusal two_tags [] ≡ Some EmptyKey)
    × (set_refusal thousand_tags [] ≡ Some EmptyKey)
    × (set_refusal thousand_tags (codes "00") ≡ None)
    × (set_refusal thousand_tags (codes "name") ≡ Some TooManyTags)

-- the rows of a map are in name order, each name once
module _ (e f : Element Any) where
  unfoldable pub rows_changed : Type 0
  rows_changed =
      (put_row ((w-7, e) ∷ []) n5 f ≡ (n5, f) ∷ (w-7, e) ∷ [])
      × (put_row ((n-1, e) ∷ []) n-2 f ≡ (n-2, f) ∷ (n-1, e) ∷ [])
      × (put_row ((n5, e) ∷ (w5, e) ∷ []) w5 f ≡ (n5, e) ∷ (w5, f) ∷ [])
      × (row_at ((n5, e) ∷ (w5, f) ∷ []) w5 ≡ Some f)
      × (row_at ((w5, e) ∷ []) n5 ≡ None)
      × (without_row ((n5, e) ∷ (w5, f) ∷ []) n5 ≡ (w5, f) ∷ [])
      × (without_row ((n5, e) ∷ (w5, f) ∷ []) r5 ≡ (n5, e) ∷ (w5, f) ∷ [])
      × (rows_but n5 ((n5, e) ∷ (w5, f) ∷ []) ≡ (w5, f) ∷ [])
      × (names_of ((n5, e) ∷ (w5, f) ∷ []) ≡ n5 ∷ w5 ∷ [])
      × (is_present ((n5, e) ∷ []) n5 ≡ true)
      × (is_absent ((n5, e) ∷ []) w5 ≡ true)

-- elements have kinds and tags; coordinates lie in their ranges, ways list nodes, and roles have at most 255 characters
unfoldable pub elements_made : Type 0
elements_made =
    (kind_of {A = Any} (Way [] two_tags) ≡ kinds.Way)
    × (tags_of {A = Any} (Relation [] two_tags) ≡ two_tags)
    × (is_made {A = Any} (Node (pos 900000000) (negsuc 1799999999) two_tags) ≡ true)
    × (is_made {A = Any} (Node (pos 900000001) (pos 0) []) ≡ false)
    × (is_made {A = Any} (Node (pos 0) (negsuc 1800000000) []) ≡ false)
    × (is_made {A = Any} (Node (pos 0) (pos 0) (unnamed ∷ path ∷ [])) ≡ false)
    × (is_made {A = Any} (Way (n5 ∷ n5 ∷ []) two_tags) ≡ true)
    × (is_made {A = Any} (Way (n5 ∷ w5 ∷ []) []) ≡ false)
    × (is_made {A = Any} (Relation ((r5, accents 255) ∷ []) []) ≡ true)
    × (is_made {A = Any} (Relation ((n5, []) ∷ (w5, accents 256) ∷ []) []) ≡ false)
