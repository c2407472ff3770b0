-- A negative whole number is a JSON number.
use Rattle.std.proofs.Common.{◌≡◌, ℕ, ◌^◌, ◌<◌, false, cond, ◌==◌, List, [], ◌∷◌, drop, get_or, option_and_then, decimal, sym, ap, ◌∙◌, arith}
use Rattle.std.proofs.lemmas.Bool.{ne_eqb}
use Rattle.std.proofs.lemmas.Fmt.{first_decimal}
use Rattle.json.specs.Word.{head, after_whole, after_fraction, after_exponent, after_number}
use Rattle.json.specs.Print.{IsNumber}
use Rattle.json.proofs.Printed.Decimals.{IsNumber-decimal}

no_minus : (ds : List ℕ) → 48 < get_or ds 0 0 → (head ds == 45) ≡ false
no_minus [] first = absurd (omega (arith, first))
no_minus (d ∷ ds) first = ne_eqb d 45 (λ e. omega (arith, first, e))

pub IsNumber-negative : (n : ℕ) → 0 < n → n < 2 ^ 64 → IsNumber (45 ∷ decimal n)
unfolding after_number
IsNumber-negative n some h =
    ap (λ b. option_and_then after_exponent (option_and_then after_fraction (after_whole (cond b (drop 1 (decimal n)) (decimal n))))) (sym (no_minus (decimal n) (first_decimal n some h)))
    ∙ IsNumber-decimal n h
