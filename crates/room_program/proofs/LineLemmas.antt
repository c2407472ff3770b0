-- The lines of bytes whose line feeds are known.
use Rattle.std.proofs.Common.{◌≡◌, ◌≢◌, ℕ, suc, ◌+◌, ◌-◌, ◌<◌, List, [], ◌∷◌, ◌++◌, Some, None, length, take, drop, refl, zero, cond, true, false, length-append, append_assoc, get_or, sym, ap, ◌∙◌, arith, add-one, eqb}
use Rattle.std.proofs.lemmas.Bool.{ne_eqb, eq-eqb, eqb-true}
use Rattle.std.proofs.lemmas.List.{take_rest}
use Rattle.memchr.specs.Find.{IsFirstByte, is_byte}
use Rattle.room_program.specs.Prelude.{lines, with_byte, ended, before, IsLine, joined, AreLines}

pub IsLine-from_places : (bs : List ℕ) → ((k : ℕ) → k < length bs → get_or bs k 0 ≡ 10 → ⊥) → IsLine bs
IsLine-from_places [] h = tt
IsLine-from_places (b ∷ bs) h = (h 0 (omega arith), IsLine-from_places bs (λ k lt. h (suc k) (omega arith)))

pub IsLine-append : (xs ys : List ℕ) → IsLine xs → IsLine ys → IsLine (xs ++ ys)
IsLine-append [] ys h k = k
IsLine-append (x ∷ xs) ys h k = (h.0, IsLine-append xs ys h.1 k)

pub joined-more : (xs : List (List ℕ)) (rest more : List ℕ) → joined xs rest ++ more ≡ joined xs (rest ++ more)
joined-more [] rest more = refl
joined-more (x ∷ xs) rest more = append_assoc x (10 ∷ joined xs rest) more ∙ ap (λ bs. x ++ 10 ∷ bs) (joined-more xs rest more)

-- the position of the first line feed splits the bytes
pub IsLine-take_places : (bs : List ℕ) (n : ℕ) → ((k : ℕ) → k < n → get_or bs k 0 ≡ 10 → ⊥) → IsLine (take n bs)
IsLine-take_places bs zero h = tt
IsLine-take_places [] (suc n) h = tt
IsLine-take_places (b ∷ bs) (suc n) h = (h 0 (omega arith), IsLine-take_places bs n (λ k lt. h (suc k) (omega arith)))

pub split-at : (bs : List ℕ) (n : ℕ) → n < length bs → get_or bs n 0 ≡ 10 → bs ≡ take n bs ++ 10 ∷ drop (suc n) bs
split-at [] n lt e = absurd (omega arith)
split-at (b ∷ bs) zero lt e = ap (λ x. x ∷ bs) e
split-at (b ∷ bs) (suc n) lt e = ap (λ xs. b ∷ xs) (split-at bs n (omega arith) e)

lines-line : (line rest : List ℕ) → IsLine line → lines (line ++ 10 ∷ rest) ≡ line ∷ lines rest
lines-line [] rest h = refl
lines-line (b ∷ bs) rest h =
    rw (ne_eqb b 10 h.0) (ap (with_byte b) (lines-line bs rest h.1))

pub lines-joined : (whole : List (List ℕ)) (rest : List ℕ) → AreLines whole → lines (joined whole rest) ≡ whole ++ lines rest
lines-joined [] rest h = refl
lines-joined (line ∷ later) rest h =
    lines-line line (joined later rest) h.0 ∙ ap (λ ls. line ∷ ls) (lines-joined later rest h.1)

-- the rest is a line if it is not empty
pub lines-rest : (b : ℕ) (bs : List ℕ) → IsLine (b ∷ bs) → lines (b ∷ bs) ≡ (b ∷ bs) ∷ []
lines-rest b [] h = rw (ne_eqb b 10 h.0)
lines-rest b (c ∷ cs) h = rw (ne_eqb b 10 h.0) (ap (with_byte b) (lines-rest c cs h.1))

ended-line : (line rest : List ℕ) → IsLine line → ended (line ++ 10 ∷ rest) ≡ line ++ 10 ∷ ended rest
ended-line [] rest h = refl
ended-line (b ∷ []) rest h = rw (ne_eqb b 10 h.0)
ended-line (b ∷ c ∷ cs) rest h = rw (ne_eqb b 10 h.0) (ap (before b) (ended-line (c ∷ cs) rest h.1))

ended-rest : (rest : List ℕ) → IsLine rest → ended rest ≡ []
ended-rest [] h = refl
ended-rest (b ∷ bs) h = rw (ne_eqb b 10 h.0) (ap (before b) (ended-rest bs h.1))

pub ended-joined : (whole : List (List ℕ)) (rest : List ℕ) → AreLines whole → IsLine rest → ended (joined whole rest) ≡ joined whole []
ended-joined [] rest h k = ended-rest rest k
ended-joined (line ∷ later) rest h k =
    ended-line line (joined later rest) h.0 ∙ ap (λ bs. line ++ 10 ∷ bs) (ended-joined later rest h.1 k)

-- a line feed after a line ends it
pub lines-fed : (begun : List ℕ) → IsLine begun → begun ≢ [] → lines (begun ++ 10 ∷ []) ≡ lines begun
lines-fed [] h some = absurd (some refl)
lines-fed (b ∷ bs) h some = lines-line (b ∷ bs) [] h ∙ sym (lines-rest b bs h)

before-fed : (b : ℕ) (bs : List ℕ) → before b (bs ++ 10 ∷ []) ≡ b ∷ (bs ++ 10 ∷ [])
before-fed b [] = refl
before-fed b (c ∷ cs) = refl

ended-fed : (bs : List ℕ) → ended (bs ++ 10 ∷ []) ≡ bs ++ 10 ∷ []
ended-fed [] = refl
ended-fed (b ∷ bs) =
    let e = ended-fed bs in
    elim (eqb b 10) as (λ t. cond t (b ∷ ended (bs ++ 10 ∷ [])) (before b (ended (bs ++ 10 ∷ []))) ≡ b ∷ (bs ++ 10 ∷ [])) [
      | true ↦ ap (λ xs. b ∷ xs) e
      | false ↦ ap (before b) e ∙ before-fed b bs
    ]

pub nil-from_length : (xs : List ℕ) → length xs ≡ 0 → xs ≡ []
nil-from_length [] e = refl
nil-from_length (x ∷ xs) e = absurd (omega arith)

-- nothing is left after the last line feed
pub rest-fed : (whole : List (List ℕ)) (rest bs : List ℕ) → AreLines whole → IsLine rest → bs ++ 10 ∷ [] ≡ joined whole rest → rest ≡ []
rest-fed whole rest bs h k e =
    let same : joined whole [] ≡ joined whole rest = sym (ended-joined whole rest h k) ∙ (ap ended (sym e) ∙ (ended-fed bs ∙ e)) in
    let longer : length (joined whole []) + length rest ≡ length (joined whole rest) = sym (length-append (joined whole []) rest) ∙ ap length (joined-more whole [] rest) in
    nil-from_length rest (omega (arith, ap length same, longer))

-- the result of a search for a line feed
pub splits : (bs : List ℕ) (n : ℕ) → IsFirstByte (is_byte 10) bs (Some n) → IsLine (take n bs) × (bs ≡ take n bs ++ 10 ∷ take (length bs - (n + 1)) (drop (n + 1) bs))
splits bs n h = (
  IsLine-take_places bs n (λ k lt e. h.0.before k (omega arith) lt (eq-eqb (get_or bs k 0) 10 e)),
  rw take_rest (let e = split-at bs n h.0.high (eqb-true (get_or bs n 0) 10 h.1) in rw (add-one) e),
)

pub splits-not : (bs : List ℕ) → IsFirstByte (is_byte 10) bs None → IsLine bs
splits-not bs h = IsLine-from_places bs (λ k lt e. h k (omega arith) lt (eq-eqb (get_or bs k 0) 10 e))

-- the bytes after a line are fewer
pub after_shorter : (rest line after : List ℕ) → rest ≡ line ++ 10 ∷ after → length after < length rest
after_shorter rest line after split = rw split (omega (arith, length-append line (10 ∷ after)))
