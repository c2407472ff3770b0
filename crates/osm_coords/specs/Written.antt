-- The text that is written for a coordinate: degrees with exactly seven decimals, which is this project's rule. 45 is
-- `-`, 46 is `.`, and 48 is `0`.
use Rattle.std.specs.Prelude.{ℕ, zero, suc, ℤ, pos, negsuc, ◌+◌, ◌/◌, ◌%◌, nat_lt, if◌then◌else◌, List, [], ◌∷◌, ◌++◌}

-- the last `count` digits of n, with leading zeros if n has fewer
abbrev pub last_digits : ℕ → ℕ → List ℕ
last_digits zero n = []
last_digits (suc count) n = last_digits count (n / 10) ++ (48 + n % 10) ∷ []

-- the number of digits of n whole degrees
abbrev pub digit_count : ℕ → ℕ
digit_count n = if nat_lt n 10 then 1 else if nat_lt n 100 then 2 else 3

-- the whole degrees without a needless leading zero, a point, and seven digits
abbrev pub written_magnitude : ℕ → List ℕ
written_magnitude n =
    last_digits (digit_count (n / 10000000)) (n / 10000000) ++ 46 ∷ last_digits 7 (n % 10000000)

-- the text of a coordinate: a `-` if it is negative, and then its size
abbrev pub written : ℤ → List ℕ
written (pos n) = written_magnitude n
written (negsuc n) = 45 ∷ written_magnitude (n + 1)
