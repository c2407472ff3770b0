-- Lists that strictly rise in an order, so that they contain each value once.
use Rattle.std.specs.Prelude.{Bool, not, T, List, [], ◌∷◌, map}
use Rattle.std.specs.List.{filter, list_any}
use Rattle.std.specs.Ordering.{is_eq, match_ordering}
use Rattle.std.specs.FinMap.Entries.{is_sorted}
use Rattle.std.specs.declared.cmp.Ordering.{Ordering}

module _ {X : Type 0} where
  -- the values, as the keys of rows without content
  abbrev pub bare_rows : List X → List (X × Unit {0})
  bare_rows xs = map (λ x. (x, tt)) xs

  -- each value is less than all values after it
  abbrev pub is_rising : (X → X → Ordering) → List X → Bool
  is_rising cmp xs = is_sorted cmp (bare_rows xs)

  abbrev pub IsRising : (X → X → Ordering) → List X → Type 0
  IsRising cmp xs = T (is_rising cmp xs)

  -- the list contains a value that is equal to x
  abbrev pub is_among : (X → X → Ordering) → List X → X → Bool
  is_among cmp xs x = list_any (λ y. is_eq (cmp x y)) xs

  -- a rising list with x, unless it already contains an equal value
  abbrev pub with_value : (X → X → Ordering) → X → List X → List X
  with_value cmp x [] = x ∷ []
  with_value cmp x (y ∷ ys) = match_ordering (cmp x y) (x ∷ y ∷ ys) (y ∷ ys) (y ∷ with_value cmp x ys)

  -- the values that are not equal to x
  abbrev pub but : (X → X → Ordering) → X → List X → List X
  but cmp x xs = filter (λ y. not (is_eq (cmp x y))) xs

  -- the values that are not among the given values
  abbrev pub but_all : (X → X → Ordering) → List X → List X → List X
  but_all cmp xs others = filter (λ x. not (is_among cmp others x)) xs
