-- A name padded to 32 bytes.
use Rattle.std.proofs.Common.{sym, ap, ◌∙◌, arith}
use Rattle.std.specs.Prelude.{◌≡◌, ◌≤◌, ◌++◌, ◌-◌, ℕ, true, List, length, take, drop, replicate}
use Rattle.std.proofs.lemmas.List.{take-append-drop, length-take-le}
use Rattle.room_interface.specs.Authors.{is_author}
use Rattle.room_interface.specs.declared.author.Author.TheInside.{Inside}

-- a name, followed by zeros to 32 bytes
abbrev pub padded_author : List ℕ → List ℕ
padded_author text = text ++ replicate (32 - length text) 0

-- 32 bytes that are a name of this length, followed by zeros
pub record IsPadded (bytes : List ℕ) (n : ℕ) : Type 0 where
  pub whole : length bytes ≡ 32
  pub fits : n ≤ 32
  pub zeros : drop n bytes ≡ replicate (32 - n) 0
  pub name : is_author (take n bytes) ≡ true

-- the 32 bytes that hold a name
abbrev pub inside_of : List ℕ → Inside
inside_of text = record { bytes = padded_author text; length = length text }

taken : (bytes : List ℕ) (n : ℕ) → IsPadded bytes n → length (take n bytes) ≡ n
taken bytes n h = length-take-le n bytes (omega (arith, h.whole, h.fits))

pub inside_of_view : (a : Inside) → IsPadded a.bytes a.length → inside_of (take a.length a.bytes) ≡ a
inside_of_view a h =
    let n : length (take a.length a.bytes) ≡ a.length = taken a.bytes a.length h in
    let text : padded_author (take a.length a.bytes) ≡ a.bytes = ap (λ k. take a.length a.bytes ++ replicate (32 - k) 0) n ∙ ap (λ z. take a.length a.bytes ++ z) (sym h.zeros) ∙ take-append-drop a.length a.bytes in
    λ i. record { bytes = text i; length = n i }
