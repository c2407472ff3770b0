-- A sorted multimap: each key that has values, with its list of values.
use Rattle.std.specs.Prelude.{◌≡◌, ◌&&◌, ◌||◌, Bool, true, false, not, T, List, [], ◌∷◌, Option, Some, None, unwrap_or}
use Rattle.std.specs.FinMap.Entries.{find, is_sorted}
use Rattle.std.specs.Ordering.{is_eq}
use Rattle.std.specs.declared.cmp.Ordering.{Ordering}
use Rattle.rising_lists.specs.Rising.{IsRising, is_among}

-- keys, each with its values
abbrev pub Table : Type 0 → Type 0 → Type 0
Table K V = List (K × List V)

abbrev pub has_none : {V : Type 0} → List V → Bool
has_none [] = true
has_none (x ∷ xs) = false

abbrev pub has_none_at : {V : Type 0} → Option (List V) → Bool
has_none_at None = false
has_none_at (Some values) = has_none values

module _ {K V : Type 0} (order : K → K → Ordering) where
  -- the values of a key; a key that is not there has none
  abbrev pub listed : Table K V → K → List V
  listed lists k = unwrap_or (find order k lists) []

  module _ (by_value : V → V → Ordering) where
    -- the keys rise, and each key has values, which rise too
    pub record AreLists (lists : Table K V) : Type 0 where
      pub in_order : T (is_sorted order lists)
      pub rising : (k : K) → IsRising by_value (listed lists k)
      pub none_empty : (k : K) → has_none_at (find order k lists) ≡ false

    -- the key has the value
    abbrev pub has : Table K V → K → V → Bool
    has lists k v = is_among by_value (listed lists k) v

    -- each key has the same values as before
    abbrev pub SameLists : Table K V → Table K V → Type 0
    SameLists before after = (k : K) (v : V) → has after k v ≡ has before k v

    -- none of the given keys has the value
    abbrev pub Lacks : Table K V → List K → V → Type 0
    Lacks lists keys x = (k : K) (v : V) → (is_among order keys k && is_eq (by_value v x) && has lists k v) ≡ false

    -- each of the given keys now has the value, and nothing else has changed
    abbrev pub Gains : Table K V → Table K V → List K → V → Type 0
    Gains before after keys x =
        (k : K) (v : V) → has after k v ≡ ((is_among order keys k && is_eq (by_value v x)) || has before k v)

    -- none of the given keys has the value any more, and nothing else has changed
    abbrev pub Loses : Table K V → Table K V → List K → V → Type 0
    Loses before after keys x =
        (k : K) (v : V) → has after k v ≡ (not (is_among order keys k && is_eq (by_value v x)) && has before k v)
