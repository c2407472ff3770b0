-- The form of a coordinate's text, by its parts. The form is this project's rule. 45 is `-`, and 46 is `.`.
use Rattle.std.specs.Prelude.{◌≡◌, ◌⊎◌, ℕ, ℤ, pos, neg_ℤ, ◌+◌, ◌*◌, IsTrue, List, ◌∷◌, ◌++◌}
use Rattle.std.specs.Str.Parse.{digits_value}
use Rattle.osm_coords.specs.Coordinate.{is_numeral, filled}

-- the text is one to three digits, and denotes n ten-millionths
pub record SaysWhole (text : List ℕ) (n : ℕ) : Type 0 where
  pub digits : IsTrue (is_numeral 3 text)
  pub value : n ≡ digits_value 10 text * 10000000

-- the text is one to three digits, a point and one to seven digits, and denotes n ten-millionths
pub record SaysDecimals (text : List ℕ) (n : ℕ) : Type 0 where
  pub whole : List ℕ
  pub decimals : List ℕ
  pub parts : text ≡ whole ++ 46 ∷ decimals
  pub whole_digits : IsTrue (is_numeral 3 whole)
  pub decimal_digits : IsTrue (is_numeral 7 decimals)
  pub value : n ≡ digits_value 10 whole * 10000000 + digits_value 10 (filled decimals)

-- the text has no sign, and denotes n ten-millionths
abbrev pub SaysMagnitude : List ℕ → ℕ → Type 0
SaysMagnitude text n = SaysWhole text n ⊎ SaysDecimals text n

-- the text has no sign, and denotes z ten-millionths
pub record SaysUnsigned (text : List ℕ) (z : ℤ) : Type 0 where
  pub size : ℕ
  pub says : SaysMagnitude text size
  pub value : z ≡ pos size

-- the text begins with a minus, and denotes z ten-millionths
pub record SaysNegated (text : List ℕ) (z : ℤ) : Type 0 where
  pub unsigned : List ℕ
  pub size : ℕ
  pub minus : text ≡ 45 ∷ unsigned
  pub says : SaysMagnitude unsigned size
  pub value : z ≡ neg_ℤ (pos size)

-- the text has a coordinate's form, and denotes z ten-millionths
abbrev pub SaysCoordinate : List ℕ → ℤ → Type 0
SaysCoordinate text z = SaysUnsigned text z ⊎ SaysNegated text z
