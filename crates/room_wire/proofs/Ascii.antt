-- Texts of ASCII characters.
use Rattle.std.proofs.Common.{◌<◌, ◌/◌, ◌%◌, ◌==◌, ℕ, zero, suc, ℤ, pos, negsuc, Bool, true, false, cond, List, [], ◌∷◌, Result, Ok, Err, MatchResult, refl, arith, IsAscii, IsUtf8, decimal, IsOk}
use Rattle.std.specs.Fmt.{digits}
use Rattle.std.proofs.lemmas.Str.{IsUtf8-from_ascii}
use Rattle.std.proofs.lemmas.Bool.Decides.{nat_tests}
use Rattle.room_wire.specs.Prelude.{signed_decimal, digits_onto, digit_glyph, Name, Kind, letter_of, name_text}
use Rattle.osm_elements.specs.declared.name.Kind.TheVariants.{Node, Way, Relation}

first_and_rest : (b : ℕ) (bs : List ℕ) → b < 128 → IsAscii bs → IsAscii (b ∷ bs)
first_and_rest b bs h a zero = h
first_and_rest b bs h a (suc i) = a i

none_is_ascii : IsAscii []
none_is_ascii i = omega arith

glyph_is_ascii : (n : ℕ) → digit_glyph false (n % 10) < 128
glyph_is_ascii n = grind (arith, nat_tests)

-- the digits of any number
either_is_ascii : (b : Bool) (xs ys : List ℕ) → IsAscii xs → IsAscii ys → IsAscii (cond b xs ys)
either_is_ascii true xs ys a b = a
either_is_ascii false xs ys a b = b

onto_is_ascii : (k n : ℕ) (acc : List ℕ) → IsAscii acc → IsAscii (digits_onto k 10 false n acc)
onto_is_ascii zero n acc a = a
onto_is_ascii (suc k) n acc a =
    let more : IsAscii (digit_glyph false (n % 10) ∷ acc) = first_and_rest _ acc (glyph_is_ascii n) a in
    either_is_ascii (n / 10 == 0) _ _ more (onto_is_ascii k (n / 10) (digit_glyph false (n % 10) ∷ acc) more)

decimal_is_ascii : (n : ℕ) → IsAscii (decimal n)
unfolding digits
decimal_is_ascii n = onto_is_ascii 64 n [] none_is_ascii

signed_is_ascii : (z : ℤ) → IsAscii (signed_decimal z)
signed_is_ascii (pos n) = decimal_is_ascii n
signed_is_ascii (negsuc n) = first_and_rest 45 (decimal (suc n)) (omega arith) (decimal_is_ascii (suc n))

letter_is_ascii : (kind : Kind) → letter_of kind < 128
letter_is_ascii Node = omega arith
letter_is_ascii Way = omega arith
letter_is_ascii Relation = omega arith

pub name_text_is_ascii : (n : Name) → IsAscii (name_text n)
name_text_is_ascii n = first_and_rest (letter_of n.kind) (signed_decimal n.id) (letter_is_ascii n.kind) (signed_is_ascii n.id)

-- ASCII bytes are read as a text
pub ascii_is_read : {X E : Type 0} (P : X → Type 0) (Q : E → Type 0) (bs : List ℕ) (r : Result X E) → IsAscii bs → MatchResult r P (λ e. (IsUtf8 bs → ⊥) × Q e) → IsOk r
ascii_is_read P Q bs (Ok x) a h = refl
ascii_is_read P Q bs (Err e) a h = absurd (h.0 (IsUtf8-from_ascii bs a))
