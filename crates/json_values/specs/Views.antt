-- The data that a value stands for, as `serde_json` reads it from the same text: a number has a value, and of members
-- with the same key the last one counts (RFC 8259, section 4, leaves that to the reader).
use Rattle.std.specs.Prelude.{ℕ, List, [], ◌∷◌, false, Option, Some, None}
use Rattle.std.specs.Borrow.{Bor}
use Rattle.std.specs.Float.{binary64}
use Rattle.std.specs.declared.alloc.Global.{Global}
use Rattle.fast_float.specs.Text.{nearest, scan}
use Rattle.json.specs.Json as json
use Rattle.json.specs.Value.{value_view, items_view as json_items}
use Rattle.json.specs.declared.value.Value.{Value}
use Rattle.serde_json.specs.Data.{Num, float, Data, null, boolean, number, string, array, object, Items, no_items, item, Members, no_members, member, put}
use Rattle.serde_json.specs.Read.{number_of}

-- a number that is too large for a float stands for an infinite one; no text that is read has one
abbrev pub number_or_infinite : List ℕ → Option Num → Num
number_or_infinite text (Some n) = n
number_or_infinite text None = float (nearest binary64 false (scan text))

-- the members go in one after another, so the last value of a key stays
abbrev mutual
  pub data_of : json.Json → Data
  data_of json.null = null
  data_of (json.boolean b) = boolean b
  data_of (json.number s) = number (number_or_infinite s (number_of s))
  data_of (json.string s) = string s
  data_of (json.array js) = array (items_data js)
  data_of (json.object ms) = object (members_data ms no_members)

  pub items_data : json.Items → Items
  items_data json.no_items = no_items
  items_data (json.item j js) = item (data_of j) (items_data js)

  pub members_data : json.Members → Members → Members
  members_data json.no_members found = found
  members_data (json.member k j ms) found = members_data ms (put k (data_of j) found)

abbrev pub view : Value Global → Data
view v = data_of (value_view v)

abbrev pub items_view : List (Value Global) → Items
items_view vs = items_data (json_items vs)

-- a member of a map whose keys and values are borrowed
abbrev pub Entry : Type 0
Entry = Bor (List ℕ) × Bor (Value Global)

abbrev pub members_view : List Entry → Members
members_view [] = no_members
members_view (m ∷ ms) = member m.0.now (view m.1.now) (members_view ms)
