-- Names of authors are ASCII.
use Rattle.std.proofs.Common.{◌≡◌, ◌<◌, ◌&&◌, ℕ, zero, suc, true, List, [], ◌∷◌, length, nat_le, Result, Ok, Err, MatchResult, refl, arith, IsAscii, IsUtf8, IsOk}
use Rattle.std.proofs.lemmas.Bool.Decides.{nat_tests}
use Rattle.std.proofs.lemmas.Str.{IsUtf8-from_ascii}
use Rattle.room_interface.specs.Prelude.{list_all, first_true, second_true, is_author, is_name_character}

character_is_ascii : (b : ℕ) → is_name_character b ≡ true → b < 128
character_is_ascii b h = grind (h, arith, nat_tests)

characters_are_ascii : (bs : List ℕ) → list_all is_name_character bs ≡ true → IsAscii bs
characters_are_ascii [] h i = omega arith
characters_are_ascii (b ∷ bs) h zero = character_is_ascii b (first_true (is_name_character b) (list_all is_name_character bs) h)
characters_are_ascii (b ∷ bs) h (suc i) = characters_are_ascii bs (second_true (is_name_character b) (list_all is_name_character bs) h) i

name_is_ascii : (name : List ℕ) → is_author name ≡ true → IsAscii name
name_is_ascii name h =
    let within = second_true (nat_le 1 (length name)) (nat_le (length name) 32 && list_all is_name_character name) h in
    characters_are_ascii name (second_true (nat_le (length name) 32) (list_all is_name_character name) within)

-- a name is read as a text
pub name_is_read : {X E : Type 0} (P : X → Type 0) (Q : E → Type 0) (name : List ℕ) (r : Result X E) → is_author name ≡ true → MatchResult r P (λ e. (IsUtf8 name → ⊥) × Q e) → IsOk r
name_is_read P Q name (Ok x) a h = refl
name_is_read P Q name (Err e) a h = absurd (h.0 (IsUtf8-from_ascii name (name_is_ascii name a)))
