-- Texts of decimal digits.
use Rattle.std.proofs.Common.{◌≡◌, ◌≢◌, ℕ, zero, suc, ◌+◌, ◌-◌, ◌*◌, ◌^◌, ◌<◌, ◌≤◌, Bool, true, false, List, [], ◌∷◌, ◌++◌, length, replicate, get_or, pos, refl, sym, ap, ◌∙◌, lit<, arith, Some, None}
use Rattle.std.specs.Str.{all_ascii_digits}
use Rattle.std.specs.Str.Parse.{digits_value, digits_value_after, ParsesUnsigned}
use Rattle.std.proofs.lemmas.Str.Parse.{IsNumeralModel, numerals_by_value, tells_all_ascii_digits, parse_plain, digits_value_short}
use Rattle.std.specs.Result.{result_ok}
use Rattle.std.specs.declared.result.Result.{Result}
use Rattle.std.specs.Prelude.{Ok, Err, cond}
use Rattle.std.specs.Char.{digit_value}
use Rattle.std.specs.Option.{option_map}
use Rattle.std.proofs.Math.Nat.{pow-suc, mul-lt-mul_of_pos_right, one-le-pow}
use Rattle.std.proofs.lemmas.Nat.{pow-add}
use Rattle.std.proofs.lemmas.Bool.Decides.{nat_tests}
use Rattle.std.specs.Str.Pattern.{FindsCharPrefix}
use Rattle.std.proofs.lemmas.Str.Pattern.{strip_prefix_char}
use Rattle.osm_coords.specs.Coordinate.{is_numeral, numeral, filled, fraction, magnitude, coordinate}

-- the predicate and the value of a text of digits, in the form that std's lemmas take
pub own : IsNumeralModel (λ ds. all_ascii_digits ds ≡ true) (digits_value 10)
own = numerals_by_value _ tells_all_ascii_digits

-- the value of two lists of digits that are joined
digits_value_after-append : (xs ys : List ℕ) (n : ℕ) → digits_value_after 10 n (xs ++ ys) ≡ digits_value_after 10 (digits_value_after 10 n xs) ys
digits_value_after-append [] ys n = refl
digits_value_after-append (x ∷ xs) ys n = digits_value_after-append xs ys (n * 10 + digit_value x)

-- each further zero multiplies by ten
digits_value_after-zeros : (k n : ℕ) → digits_value_after 10 n (replicate k 48) ≡ n * 10 ^ k
digits_value_after-zeros zero n = omega arith
digits_value_after-zeros (suc k) n =
    let step : 10 ^ suc k ≡ 10 ^ k * 10 = pow-suc 10 k in
    digits_value_after-zeros k (n * 10 + 0) ∙ rw step (omega arith)

-- a plus is no digit
all_ascii_digits-plus : (bs : List ℕ) → get_or bs 0 0 ≡ 43 → all_ascii_digits bs ≡ false
all_ascii_digits-plus [] e = cc
all_ascii_digits-plus (b ∷ bs) e = let plus : b ≡ 43 = e in rw plus refl

-- a test that chose a value passed
pub chosen : (test : Bool) (v n : ℕ) → cond test (Some v) None ≡ Some n → (test ≡ true) × (v ≡ n)
chosen true v n e = (refl, cc)
chosen false v n e = cc

-- a test that does not pass chooses nothing
refused : (test : Bool) (v : ℕ) → ¬ (test ≡ true) → cond test (Some v) None ≡ None
refused true v never = absurd (never refl)
refused false v never = refl

-- a text that has a number is a numeral
pub numeral-some : (most : ℕ) (bs : List ℕ) (n : ℕ) → numeral most bs ≡ Some n → (is_numeral most bs ≡ true) × (digits_value 10 bs ≡ n)
numeral-some most bs n e = chosen (is_numeral most bs) _ _ e

-- the facts that the test for a numeral establishes, and the way back
pub from_is_numeral : (most : ℕ) (bs : List ℕ) → is_numeral most bs ≡ true → (0 < length bs) × (length bs ≤ most) × (all_ascii_digits bs ≡ true)
from_is_numeral most bs e = grind (arith, nat_tests)

pub to_is_numeral : (most : ℕ) (bs : List ℕ) → 0 < length bs → length bs ≤ most → all_ascii_digits bs ≡ true → is_numeral most bs ≡ true
to_is_numeral most bs some few digits = grind (arith, nat_tests)

-- a text with a plus is no numeral
pub numeral_of_plus : (most : ℕ) (bs : List ℕ) → get_or bs 0 0 ≡ 43 → numeral most bs ≡ None
numeral_of_plus most bs e = let no = all_ascii_digits-plus bs e in grind (arith, nat_tests)

-- a text that is too long is no numeral
pub numeral_of_long : (most : ℕ) (bs : List ℕ) → most < length bs → numeral most bs ≡ None
numeral_of_long most bs h = grind (arith, nat_tests)

-- the number that `parse` returns
pub numeral_parsed : {E : Type 0} (most : ℕ) (bs : List ℕ) (r : Result ℕ E) → most ≤ 9 → length bs ≤ most → get_or bs 0 0 ≢ 43 → ParsesUnsigned 32 10 bs r → result_ok r ≡ numeral most bs
numeral_parsed {E} most bs (Ok n) small short plain h =
    let parsed = parse_plain own {E = E} 32 bs (Ok n) h plain in
    rw (to_is_numeral most bs parsed.0.1 short parsed.0.0) (ap (λ (v : ℕ). Some v) parsed.1)
numeral_parsed {E} most bs (Err e) small short plain h =
    let parsed = parse_plain own {E = E} 32 bs (Err e) h plain in
    sym (refused (is_numeral most bs) (digits_value 10 bs) (λ yes.
    let t = from_is_numeral most bs yes in
    let below : digits_value 10 bs < 10 ^ 9 = digits_value_short own bs 9 t.2 (omega arith) in
    parsed (t.2, t.0, omega arith)))

-- the value of digits that are filled with zeros
digits_value-filled : (bs : List ℕ) → digits_value 10 (filled bs) ≡ digits_value 10 bs * 10 ^ (7 - length bs)
digits_value-filled bs = digits_value_after-append bs (replicate (7 - length bs) 48) 0 ∙ digits_value_after-zeros (7 - length bs) (digits_value 10 bs)

-- the digits after the point, by the number that they denote on their own
pub fraction_by_numeral : (bs : List ℕ) (n : ℕ) → numeral 7 bs ≡ Some n → (n * 10 ^ (7 - length bs) < 10 ^ 7) × (fraction bs ≡ Some (n * 10 ^ (7 - length bs)))
fraction_by_numeral bs n e =
    let known = numeral-some 7 bs n e in
    let t = from_is_numeral 7 bs known.0 in
    let below : digits_value 10 bs < 10 ^ length bs = digits_value_short own bs (length bs) t.2 (omega arith) in
    let whole : 10 ^ length bs * 10 ^ (7 - length bs) ≡ 10 ^ 7 =
    sym (pow-add 10 (length bs) (7 - length bs)) ∙ ap (λ (k : ℕ). 10 ^ k) (let sum : length bs + (7 - length bs) ≡ 7 = omega arith in sum) in
    let less : digits_value 10 bs * 10 ^ (7 - length bs) < 10 ^ length bs * 10 ^ (7 - length bs) =
    mul-lt-mul_of_pos_right below (one-le-pow (7 - length bs) 10 (lit< tt)) in
    (rw (← known.1) (rw whole at less), rw (known.0, digits_value-filled bs, known.1) refl)

-- a text that begins with no minus has no sign
pub coordinate-unsigned : (bs : List ℕ) → ((rest : List ℕ) → bs ≢ 45 ∷ rest) → coordinate bs ≡ option_map pos (magnitude bs)
coordinate-unsigned [] other = refl
coordinate-unsigned (b ∷ bs) other = grind (arith, nat_tests, other bs)

-- so has a text in which `strip_prefix` finds no minus
pub coordinate_without_minus : (bs : List ℕ) → FindsCharPrefix 45 bs None → coordinate bs ≡ option_map pos (magnitude bs)
coordinate_without_minus bs h = coordinate-unsigned bs (strip_prefix_char 45 bs None h (lit< tt))
