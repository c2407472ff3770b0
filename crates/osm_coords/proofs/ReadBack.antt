-- A written coordinate is read back as the same value.
use Rattle.std.proofs.Common.{◌≡◌, ℕ, zero, suc, ◌+◌, ◌*◌, ◌/◌, ◌%◌, ◌^◌, ◌<◌, ◌≤◌, true, List, [], ◌∷◌, ◌++◌, length, refl, ap, ◌-◌, lit<, add-one, unsigned_abs, append-nil, ◌∙◌, arith, Some, length-append, ℤ, pos, negsuc}
use Rattle.std.specs.Char.{digit_value, is_ascii_digit}
use Rattle.std.specs.Str.{all_ascii_digits}
use Rattle.std.specs.Str.Parse.{digits_value}
use Rattle.std.proofs.Math.Nat.{pow-suc}
use Rattle.std.proofs.lemmas.Bool.Decides.{nat_tests}
use Rattle.std.proofs.lemmas.Int.{ints}
use Rattle.std.proofs.lemmas.Int.Digits.{digits_value_push}
use Rattle.osm_coords.specs.Coordinate.{numeral, fraction, magnitude, coordinate}
use Rattle.osm_coords.specs.Latitude.{latitude_of, IsLatitude}
use Rattle.osm_coords.specs.Longitude.{longitude_of, IsLongitude}
use Rattle.osm_coords.specs.Range.{value_within, IsWithin}
use Rattle.osm_coords.specs.Written.{last_digits, digit_count, written_magnitude, written}
use Rattle.osm_coords.proofs.FormRead.{both, magnitude-parts, digits-first}
use Rattle.osm_coords.proofs.Numerals.{own, to_is_numeral, coordinate-unsigned}
use Rattle.std.specs.Str.{IsAscii}
use Rattle.std.proofs.lemmas.Str.{IsAscii-append}
use Rattle.std.proofs.lemmas.Str.Ascii.{IsAscii-cons}
use Rattle.std.proofs.lemmas.Fmt.{IsAscii-from_digits}

-- the value of a written digit
digit_value-digit : (d : ℕ) → d < 10 → digit_value (48 + d) ≡ d
digit_value-digit d small = grind (arith, nat_tests)

-- digits with another digit at the end are digits
all_ascii_digits-push : (xs : List ℕ) (d : ℕ) → all_ascii_digits xs ≡ true → d < 10 → all_ascii_digits (xs ++ (48 + d) ∷ []) ≡ true
all_ascii_digits-push [] d e small = grind (arith, nat_tests)
all_ascii_digits-push (x ∷ xs) d e small =
    let parts = both (is_ascii_digit x) (all_ascii_digits xs) e in
    rw (parts.0, all_ascii_digits-push xs d parts.1 small) refl

-- the last digits of a number: their count, their form and their value
length-last_digits : (count n : ℕ) → length (last_digits count n) ≡ count
length-last_digits zero n = refl
length-last_digits (suc count) n =
    length-append (last_digits count (n / 10)) ((48 + n % 10) ∷ []) ∙ omega (arith, length-last_digits count (n / 10))

all_ascii_digits-last_digits : (count n : ℕ) → all_ascii_digits (last_digits count n) ≡ true
all_ascii_digits-last_digits zero n = refl
all_ascii_digits-last_digits (suc count) n =
    all_ascii_digits-push (last_digits count (n / 10)) (n % 10) (all_ascii_digits-last_digits count (n / 10)) (omega arith)

digits_value-last_digits : (count n : ℕ) → n < 10 ^ count → digits_value 10 (last_digits count n) ≡ n
digits_value-last_digits zero n small = omega arith
digits_value-last_digits (suc count) n small =
    let step : 10 ^ suc count ≡ 10 ^ count * 10 = pow-suc 10 count in
    let front = digits_value-last_digits count (n / 10) (omega arith) in
    digits_value_push 10 (last_digits count (n / 10)) (48 + n % 10) ∙ rw (digit_value-digit (n % 10) (omega arith), front) (omega arith)

-- a number of whole degrees below 1000 has enough digits
digit_count-enough : (n : ℕ) → n < 1000 → (0 < digit_count n) × (digit_count n ≤ 3) × (n < 10 ^ digit_count n)
digit_count-enough n small = grind (arith, nat_tests)

-- last digits, if there are enough of them, denote the number
numeral-last_digits : (most count n : ℕ) → 0 < count → count ≤ most → n < 10 ^ count → numeral most (last_digits count n) ≡ Some n
numeral-last_digits most count n some few small =
    let long = length-last_digits count n in
    rw (to_is_numeral most (last_digits count n) (omega arith) (omega arith) (all_ascii_digits-last_digits count n))
    (ap (λ (v : ℕ). Some v) (digits_value-last_digits count n small))

-- seven digits after the point need no zeros
fraction-seven : (text : List ℕ) (n : ℕ) → length text ≡ 7 → all_ascii_digits text ≡ true → digits_value 10 text ≡ n → fraction text ≡ Some n
fraction-seven text n seven digits e =
    let missing : 7 - length text ≡ 0 = omega arith in
    rw (to_is_numeral 7 text (omega arith) (omega arith) digits, missing, append-nil, e) refl

-- the text of a number without a sign is read back
magnitude-written : (n : ℕ) → n < 10 ^ 10 → magnitude (written_magnitude n) ≡ Some n
magnitude-written n small =
    let whole = digit_count-enough (n / 10000000) (omega arith) in
    let below : n % 10000000 < 10 ^ 7 = omega arith in
    magnitude-parts (last_digits (digit_count (n / 10000000)) (n / 10000000)) (last_digits 7 (n % 10000000)) (n / 10000000) (n % 10000000)
    (all_ascii_digits-last_digits (digit_count (n / 10000000)) (n / 10000000))
    (numeral-last_digits 3 (digit_count (n / 10000000)) (n / 10000000) whole.0 whole.1 whole.2)
    (fraction-seven (last_digits 7 (n % 10000000)) (n % 10000000) (length-last_digits 7 (n % 10000000)) (all_ascii_digits-last_digits 7 (n % 10000000)) (digits_value-last_digits 7 (n % 10000000) below))
    ∙ ap (λ (v : ℕ). Some v) (omega arith)

-- the text of a number of up to 999 whole degrees is read back
coordinate-written : (z : ℤ) → unsigned_abs z < 10 ^ 10 → coordinate (written z) ≡ Some z
coordinate-written (pos n) small =
    let enough = digit_count-enough (n / 10000000) (omega arith) in
    let long = length-last_digits (digit_count (n / 10000000)) (n / 10000000) in
    coordinate-unsigned (written_magnitude n) (λ rest. digits-first (last_digits (digit_count (n / 10000000)) (n / 10000000)) (46 ∷ last_digits 7 (n % 10000000)) rest (omega arith) (all_ascii_digits-last_digits (digit_count (n / 10000000)) (n / 10000000)))
    ∙ rw (magnitude-written n small) refl
coordinate-written (negsuc n) small =
    rw (magnitude-written (n + 1) (omega arith), add-one) refl

-- a value in range is kept
value_within-kept : (limit : ℕ) (z : ℤ) → IsWithin limit z → value_within limit z ≡ Some z
value_within-kept limit z h = grind (arith, nat_tests, ints)

-- a value in range is small
small_within : (limit : ℕ) (z : ℤ) → limit < 10 ^ 10 → IsWithin limit z → unsigned_abs z < 10 ^ 10
small_within limit z small h = grind (arith, ints)

-- the text of a latitude is read back
pub latitude_read_back : (z : ℤ) → IsLatitude z → latitude_of (written z) ≡ Some z
latitude_read_back z h = rw (coordinate-written z (small_within 900000000 z (lit< tt) h)) (value_within-kept 900000000 z h)

-- the text of a longitude is read back
pub longitude_read_back : (z : ℤ) → IsLongitude z → longitude_of (written z) ≡ Some z
longitude_read_back z h = rw (coordinate-written z (small_within 1800000000 z (lit< tt) h)) (value_within-kept 1800000000 z h)

-- a text has at most 11 bytes without its sign, and at most 12 with it
length-written_magnitude : (n : ℕ) → n < 10 ^ 10 → length (written_magnitude n) ≤ 11
length-written_magnitude n small =
    let enough = digit_count-enough (n / 10000000) (omega arith) in
    let front = length-last_digits (digit_count (n / 10000000)) (n / 10000000) in
    let back = length-last_digits 7 (n % 10000000) in
    let sum = length-append (last_digits (digit_count (n / 10000000)) (n / 10000000)) (46 ∷ last_digits 7 (n % 10000000)) in
    omega (arith, sum, front, enough.1)

pub written_fits : (z : ℤ) → IsLongitude z → length (written z) ≤ 12
written_fits (pos n) h =
    let small : n < 10 ^ 10 = small_within 1800000000 (pos n) (lit< tt) h in
    omega (arith, length-written_magnitude n small)
written_fits (negsuc n) h =
    let small : suc n < 10 ^ 10 = small_within 1800000000 (negsuc n) (lit< tt) h in
    omega (arith, length-written_magnitude (n + 1) (omega arith))

-- the text of a coordinate is ASCII
IsAscii-last_digits : (count n : ℕ) → IsAscii (last_digits count n)
IsAscii-last_digits count n = IsAscii-from_digits (last_digits count n) (own.to (last_digits count n) (all_ascii_digits-last_digits count n))

IsAscii-written_magnitude : (n : ℕ) → IsAscii (written_magnitude n)
IsAscii-written_magnitude n =
    let front = last_digits (digit_count (n / 10000000)) (n / 10000000) in
    let back = last_digits 7 (n % 10000000) in
    IsAscii-append front (46 ∷ back) (IsAscii-last_digits (digit_count (n / 10000000)) (n / 10000000)) (IsAscii-cons 46 back (lit< tt) (IsAscii-last_digits 7 (n % 10000000)))

pub written_is_ascii : (z : ℤ) → IsAscii (written z)
written_is_ascii (pos n) = IsAscii-written_magnitude n
written_is_ascii (negsuc n) = IsAscii-cons 45 (written_magnitude (n + 1)) (lit< tt) (IsAscii-written_magnitude (n + 1))
