-- Examples of a sorted multimap, worked out by hand from the comments of its calls. Keys and values are numbers.
use Rattle.std.specs.Prelude.{◌≡◌, ℕ, [], ◌∷◌, true, false}
use Rattle.std.specs.Ordering.{nat_cmp}
use Rattle.rising_lists.specs.Lists.{Table, AreLists, Gains, Lacks, Loses, listed}
use Rattle.rising_lists.specs.Rising.{is_rising, with_value, but, but_all}

-- a value is inserted in order and once, and removed; a list without the values of another keeps its order
unfoldable pub values_listed : Type 0
values_listed =
    (is_rising nat_cmp (3 ∷ 5 ∷ 7 ∷ []) ≡ true)
    × (is_rising nat_cmp (3 ∷ 3 ∷ []) ≡ false)
    × (is_rising nat_cmp (5 ∷ 3 ∷ []) ≡ false)
    × (with_value nat_cmp 5 [] ≡ 5 ∷ [])
    × (with_value nat_cmp 5 (3 ∷ 7 ∷ []) ≡ 3 ∷ 5 ∷ 7 ∷ [])
    × (with_value nat_cmp 5 (3 ∷ 5 ∷ 7 ∷ []) ≡ 3 ∷ 5 ∷ 7 ∷ [])
    × (but nat_cmp 5 (3 ∷ 5 ∷ 7 ∷ []) ≡ 3 ∷ 7 ∷ [])
    × (but nat_cmp 5 (5 ∷ []) ≡ [])
    × (but nat_cmp 4 (3 ∷ 5 ∷ []) ≡ 3 ∷ 5 ∷ [])
    × (but_all nat_cmp (1 ∷ 3 ∷ 5 ∷ 7 ∷ []) (2 ∷ 3 ∷ 7 ∷ 9 ∷ []) ≡ 1 ∷ 5 ∷ [])

-- 1 has the value 5, and 2 has 3 and 5
abbrev pub two_keys : Table ℕ ℕ
two_keys = (1, 5 ∷ []) ∷ (2, 3 ∷ 5 ∷ []) ∷ []

-- a key that is not there has no values, and each key that is there has some, which rise
unfoldable pub keys_listed : Type 0
keys_listed =
    (listed nat_cmp two_keys 2 ≡ 3 ∷ 5 ∷ [])
    × (listed nat_cmp two_keys 4 ≡ [])
    × AreLists nat_cmp nat_cmp two_keys
    × (AreLists nat_cmp nat_cmp ((1, []) ∷ []) → ⊥)
    × (AreLists nat_cmp nat_cmp ((1, 5 ∷ 3 ∷ []) ∷ []) → ⊥)
    × (AreLists nat_cmp nat_cmp ((2, 5 ∷ []) ∷ (1, 5 ∷ []) ∷ []) → ⊥)

-- the value 5 is added to an empty multimap, between two values, and to two keys, one of which is new; no other value
-- may go
unfoldable pub values_added : Type 0
values_added =
    Gains nat_cmp nat_cmp [] ((1, 5 ∷ []) ∷ []) (1 ∷ []) 5
    × Gains nat_cmp nat_cmp ((1, 3 ∷ 7 ∷ []) ∷ []) ((1, 3 ∷ 5 ∷ 7 ∷ []) ∷ []) (1 ∷ []) 5
    × Gains nat_cmp nat_cmp ((2, 3 ∷ []) ∷ []) two_keys (1 ∷ 2 ∷ []) 5
    × (Gains nat_cmp nat_cmp ((1, 3 ∷ []) ∷ []) ((1, 5 ∷ []) ∷ []) (1 ∷ []) 5 → ⊥)
    × Lacks nat_cmp nat_cmp two_keys (1 ∷ []) 3
    × (Lacks nat_cmp nat_cmp two_keys (1 ∷ 2 ∷ []) 3 → ⊥)

-- the value 5 is removed from the first key, which goes with its last value, or from both keys
unfoldable pub values_removed : Type 0
values_removed =
    Loses nat_cmp nat_cmp two_keys ((2, 3 ∷ 5 ∷ []) ∷ []) (1 ∷ []) 5
    × Loses nat_cmp nat_cmp two_keys ((2, 3 ∷ []) ∷ []) (1 ∷ 2 ∷ []) 5
    × (Loses nat_cmp nat_cmp two_keys ((2, 3 ∷ []) ∷ []) (1 ∷ []) 5 → ⊥)
