-- Rows under keys, of which tags and retags consist. (OpenStreetMap wiki, "Elements": no two tags of an element have
-- the same key. The limits are this project's.)
use Rattle.std.specs.Prelude.{◌+◌, ◌||◌, ◌&&◌, ℕ, Bool, not, List, [], ◌∷◌, length, Option, Some, None, Result, Ok, Err, T, is_some, nat_eq, nat_lt, nat_le, if◌then◌else◌, filter}
use Rattle.std.specs.declared.cmp.Ordering.{Ordering}
use Rattle.std.specs.Ordering.{nat_cmp, is_eq}
use Rattle.std.specs.List.{list_all}
use Rattle.std.specs.Cmp.Lexicographic.{slice_cmp}
use Rattle.std.specs.FinMap.Entries.{is_sorted, find, by_order}
use Rattle.osm_elements.specs.declared.keyed.Keyed.{Keyed}
use Rattle.osm_elements.specs.declared.fault.TextFault.{TextFault}
use Rattle.osm_elements.specs.declared.fault.TextFault.TheVariants.{EmptyKey, TooManyTags}
use Rattle.osm_elements.specs.Texts.{is_long}

-- texts are ordered by their bytes
abbrev pub text_cmp : List ℕ → List ℕ → Ordering
text_cmp = slice_cmp nat_cmp

-- a position moved on by n, whether it is a row's or a gap's
abbrev pub further : ℕ → Result ℕ ℕ → Result ℕ ℕ
further n (Ok i) = Ok (i + n)
further n (Err i) = Err (i + n)

module _ {V : Type 0} where
  -- a key and its value
  abbrev pub keyed_pair : {A : Type 0} → Keyed V A → List ℕ × V
  keyed_pair r = (r.key, r.value)

  -- the key has 1 to 255 characters, and the value passes a test
  abbrev pub is_row : (V → Bool) → List ℕ × V → Bool
  is_row keeps e = not (nat_eq (length e.0) 0) && (not (is_long e.0) && keeps e.1)

  -- the keys rise by their bytes, there are at most 1,000 rows, and each row keeps its limits
  abbrev pub are_rows : (V → Bool) → List (List ℕ × V) → Bool
  are_rows keeps rows = is_sorted text_cmp rows && (nat_le (length rows) 1000 && list_all (is_row keeps) rows)

  -- the condition that every list of rows keeps
  abbrev pub AreRows : (V → Bool) → List (List ℕ × V) → Type 0
  AreRows keeps rows = T (are_rows keeps rows)

  -- the rows without that of a key
  abbrev pub without_key : List (List ℕ × V) → List ℕ → List (List ℕ × V)
  without_key rows key = filter (λ e. not (is_eq (text_cmp key e.0))) rows

  -- the value at a key
  abbrev pub value_at : List (List ℕ × V) → List ℕ → Option V
  value_at rows key = find text_cmp key rows

  -- the refusal of a new value: first of an empty key, and then of a new key if there are 1,000 rows
  abbrev pub set_refusal : List (List ℕ × V) → List ℕ → Option TextFault
  set_refusal rows key =
      if nat_eq (length key) 0 then Some EmptyKey
      else (if is_some (value_at rows key) || nat_lt (length rows) 1000 then None else Some TooManyTags)

  -- the position of the row with a key, or as `Err` the position where it would be inserted
  abbrev pub place : List ℕ → List (List ℕ × V) → Result ℕ ℕ
  place key [] = Err 0
  place key (e ∷ es) = by_order (text_cmp key e.0) (Err 0) (Ok 0) (further 1 (place key es))
