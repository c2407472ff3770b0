-- A name padded to 32 bytes.
use Rattle.std.proofs.Common.{◌≡◌, ◌++◌, ◌-◌, ◌+◌, ◌≤◌, ◌&&◌, Bool, true, false, ℕ, List, length, take, drop, replicate, refl, nat_le, ap, ◌∙◌, arith}
use Rattle.std.proofs.Math.Seq.{take-append_seam, drop-append_seam}
use Rattle.std.proofs.lemmas.List.{length-append, drop-replicate, length-replicate}
use Rattle.std.proofs.lemmas.Bool.Decides.{nat_tests}
use Rattle.room_interface.specs.Prelude.{list_all, is_author, is_name_character}
use Rattle.room_interface.specs.Inner.Authors.{IsPadded}

second : (a b : Bool) → (a && b) ≡ true → b ≡ true
second true b p = p
second false b p = absurd (cc)

first : (a b : Bool) → (a && b) ≡ true → a ≡ true
first true b p = refl
first false b p = absurd (cc)

-- a name has at most 32 bytes
pub short : (text : List ℕ) → is_author text ≡ true → length text ≤ 32
short text h =
    let t : nat_le (length text) 32 ≡ true = first (nat_le (length text) 32) (list_all is_name_character text) (second (nat_le 1 (length text)) _ h) in grind (arith, nat_tests)

-- a name copied over 32 zeros
pub padded : (text : List ℕ) → is_author text ≡ true → IsPadded (text ++ drop (length text) (replicate 32 0)) (length text)
padded text h =
    let n : length text ≤ 32 = short text h in
    let filled : length text + (32 - length text) ≡ 32 = omega (arith, n) in
    let zeros : drop (length text) (replicate 32 0) ≡ replicate (32 - length text) 0 = drop-replicate (length text) 32 0 in
    record {
      whole = length-append text (drop (length text) (replicate 32 0)) ∙ ap (λ z. length text + length z) zeros ∙ ap (λ k. length text + k) (length-replicate (32 - length text) 0) ∙ filled;
      fits = n;
      zeros = drop-append_seam text (drop (length text) (replicate 32 0)) ∙ zeros;
      name = ap is_author (take-append_seam text (drop (length text) (replicate 32 0))) ∙ h;
    }

-- a name is the prefix of its padded bytes
pub taken_back : (text rest : List ℕ) → take (length text) (text ++ rest) ≡ text
taken_back text rest = take-append_seam text rest
