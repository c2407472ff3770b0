-- A text is read as a coordinate if and only if it has a coordinate's form.
use Rattle.std.proofs.Common.{◌≡◌, ◌≢◌, ℕ, ◌+◌, ◌*◌, ◌<◌, Bool, true, false, cond, List, [], ◌∷◌, ◌++◌, length, take, drop, get_or, Option, Some, None, ℤ, pos, neg_ℤ, length-append, refl, sym, ap, ◌∙◌, inl, inr, add-one, append-nil, arith}
use Rattle.std.specs.Prelude.{◌==◌, ◌&&◌, ◌↔◌, nat_lt, not, suc}
use Rattle.std.specs.Char.{is_ascii_digit}
use Rattle.std.specs.List.{position, position_or_len}
use Rattle.std.specs.Option.{option_map, option_and_then}
use Rattle.std.specs.Str.{all_ascii_digits}
use Rattle.std.specs.Str.Parse.{digits_value}
use Rattle.std.proofs.Math.Seq.{drop-cons, take-append_seam, drop-append-add}
use Rattle.std.proofs.lemmas.Bool.Decides.{nat_tests}
use Rattle.std.proofs.lemmas.List.{take-append-drop}
use Rattle.std.proofs.lemmas.List.Sums.{prefix_len_stops}
use Rattle.osm_coords.specs.Coordinate.{is_numeral, numeral, filled, fraction, magnitude, magnitude_by_point, coordinate}
use Rattle.osm_coords.specs.Form.{SaysMagnitude, SaysCoordinate}
use Rattle.osm_coords.proofs.Numerals.{chosen, numeral-some, from_is_numeral, coordinate-unsigned}

-- two tests that both pass
pub both : (a b : Bool) → (a && b) ≡ true → (a ≡ true) × (b ≡ true)
both true b e = (refl, e)
both false b e = cc

-- a result of `option_map` or `option_and_then` comes from a value that was there
mapped : {A : Type 0} (f : ℕ → A) (o : Option ℕ) (y : A) → option_map f o ≡ Some y → (n : ℕ) × (o ≡ Some n) × (f n ≡ y)
mapped f None y e = cc
mapped f (Some n) y e = (n, refl, cc)

chained : (f : ℕ → Option ℕ) (o : Option ℕ) (y : ℕ) → option_and_then f o ≡ Some y → (n : ℕ) × (o ≡ Some n) × (f n ≡ Some y)
chained f None y e = cc
chained f (Some n) y e = (n, refl, e)

-- a text is cut at its first point
cut : (text : List ℕ) (i : ℕ) → i < length text → get_or text i 0 ≡ 46 → text ≡ take i text ++ 46 ∷ drop (i + 1) text
cut text i within point =
    rw add-one (sym (take-append-drop i text) ∙ ap (λ (y : List ℕ). take i text ++ y) (drop-cons text i 0 within ∙ ap (λ (b : ℕ). b ∷ drop (suc i) text) point))

cut_at_point : (text : List ℕ) (i : ℕ) → position (λ c. c == 46) text ≡ Some i → text ≡ take i text ++ 46 ∷ drop (i + 1) text
cut_at_point text i e =
    let found = chosen (nat_lt (position_or_len (λ c. c == 46) text) (length text)) (position_or_len (λ c. c == 46) text) i e in
    let within : position_or_len (λ c. c == 46) text < length text = grind (arith, nat_tests, found.0) in
    let stops = prefix_len_stops (λ x. not (x == 46)) text 0 within in
    let point : get_or text (position_or_len (λ c. c == 46) text) 0 ≡ 46 = grind (arith, nat_tests, stops) in
    cut text i (rw found.1 at within) (rw found.1 at point)

-- digits in front of the first point do not move it
position_or_len-digits : (xs ys : List ℕ) → all_ascii_digits xs ≡ true → position_or_len (λ c. c == 46) (xs ++ 46 ∷ ys) ≡ length xs
position_or_len-digits [] ys e = refl
position_or_len-digits (x ∷ xs) ys e =
    let parts = both (is_ascii_digit x) (all_ascii_digits xs) e in
    let other : (x == 46) ≡ false = grind (arith, nat_tests) in
    rw (other, position_or_len-digits xs ys parts.1) (omega arith)

-- so the text is cut there
position-digits : (xs ys : List ℕ) → all_ascii_digits xs ≡ true → position (λ c. c == 46) (xs ++ 46 ∷ ys) ≡ Some (length xs)
position-digits xs ys e =
    grind (arith, nat_tests, position_or_len-digits xs ys e, length-append xs (46 ∷ ys))

-- the value of digits on both sides of a point
pub magnitude-parts : (whole part : List ℕ) (w p : ℕ) → all_ascii_digits whole ≡ true → numeral 3 whole ≡ Some w → fraction part ≡ Some p → magnitude (whole ++ 46 ∷ part) ≡ Some (w * 10000000 + p)
magnitude-parts whole part w p e front back =
    ap (magnitude_by_point (whole ++ 46 ∷ part)) (position-digits whole part e)
    ∙ rw (take-append_seam whole (46 ∷ part), drop-append-add whole (46 ∷ part) 1, front, back) refl

-- digits have no point
no_point : (text : List ℕ) → all_ascii_digits text ≡ true → position_or_len (λ c. c == 46) text ≡ length text
no_point [] e = refl
no_point (x ∷ xs) e =
    let parts = both (is_ascii_digit x) (all_ascii_digits xs) e in
    let other : (x == 46) ≡ false = grind (arith, nat_tests) in
    rw (other, no_point xs parts.1) (omega arith)

position-none : (text : List ℕ) → all_ascii_digits text ≡ true → position (λ c. c == 46) text ≡ None
position-none text e = grind (arith, nat_tests, no_point text e)

-- two equal sums
same_sum : (w p v q n : ℕ) → v ≡ w → q ≡ p → w * 10000000 + p ≡ n → n ≡ v * 10000000 + q
same_sum w p v q n front back sum = omega arith

-- a text that is read has the form
says_at : (text : List ℕ) (point : Option ℕ) (n : ℕ) → position (λ c. c == 46) text ≡ point → magnitude_by_point text point ≡ Some n → SaysMagnitude text n
says_at text None n at e =
    let whole = mapped (λ w. w * 10000000) (numeral 3 text) n e in
    let known = numeral-some 3 text whole.0 whole.1 in
    inl (record { digits = known.0; value = rw known.1 (sym whole.2) })
says_at text (Some i) n at e =
    let whole = chained (λ w. option_map (λ part. w * 10000000 + part) (fraction (drop (i + 1) text))) (numeral 3 (take i text)) n e in
    let part = mapped (λ p. whole.0 * 10000000 + p) (fraction (drop (i + 1) text)) n whole.2 in
    let front = numeral-some 3 (take i text) whole.0 whole.1 in
    let back = chosen (is_numeral 7 (drop (i + 1) text)) (digits_value 10 (filled (drop (i + 1) text))) part.0 part.1 in
    inr (record {
      whole = take i text;
      decimals = drop (i + 1) text;
      parts = cut_at_point text i at;
      whole_digits = front.0;
      decimal_digits = back.0;
      value = same_sum whole.0 part.0 _ _ n front.1 back.1 part.2;
    })

magnitude-says : (text : List ℕ) (n : ℕ) → magnitude text ≡ Some n → SaysMagnitude text n
magnitude-says text n e = says_at text (position (λ c. c == 46) text) n refl e

-- a text that has the form is read
magnitude-said : (text : List ℕ) (n : ℕ) → SaysMagnitude text n → magnitude text ≡ Some n
magnitude-said text n (inl s) =
    let t = from_is_numeral 3 text s.digits in
    ap (magnitude_by_point text) (position-none text t.2) ∙ rw s.digits (ap (λ (v : ℕ). Some v) (sym s.value))
magnitude-said text n (inr s) =
    let t = from_is_numeral 3 s.whole s.whole_digits in
    let front : numeral 3 s.whole ≡ Some (digits_value 10 s.whole) = rw s.whole_digits refl in
    let back : fraction s.decimals ≡ Some (digits_value 10 (filled s.decimals)) = rw s.decimal_digits refl in
    ap magnitude s.parts
    ∙ magnitude-parts s.whole s.decimals (digits_value 10 s.whole) (digits_value 10 (filled s.decimals)) t.2 front back
    ∙ ap (λ (v : ℕ). Some v) (sym s.value)

-- a text that begins with a digit begins with no minus
pub digits-first : (xs ys rest : List ℕ) → 0 < length xs → all_ascii_digits xs ≡ true → xs ++ ys ≢ 45 ∷ rest
digits-first [] ys rest some e same = absurd (omega (arith, some))
digits-first (x ∷ xs) ys rest some e same =
    let parts = both (is_ascii_digit x) (all_ascii_digits xs) e in
    let minus : x ≡ 45 = cc in
    let digit : is_ascii_digit 45 ≡ true = rw minus at parts.0 in
    cc

-- a text with no sign begins with no minus
says-first : (text : List ℕ) (n : ℕ) → SaysMagnitude text n → (rest : List ℕ) → text ≢ 45 ∷ rest
says-first text n (inl s) rest same =
    let t = from_is_numeral 3 text s.digits in
    digits-first text [] rest t.0 t.2 (append-nil text ∙ same)
says-first text n (inr s) rest same =
    let t = from_is_numeral 3 s.whole s.whole_digits in
    digits-first s.whole (46 ∷ s.decimals) rest t.0 t.2 (sym s.parts ∙ same)

-- a text that is read with its sign has the form
signed : (c : ℕ) (rest : List ℕ) (z : ℤ) (minus : Bool) → (c == 45) ≡ minus → cond minus (option_map (λ n. neg_ℤ (pos n)) (magnitude rest)) (option_map pos (magnitude (c ∷ rest))) ≡ Some z → SaysCoordinate (c ∷ rest) z
signed c rest z true is e =
    let same : c ≡ 45 = grind (arith, nat_tests) in
    let m = mapped (λ n. neg_ℤ (pos n)) (magnitude rest) z e in
    inr (record { unsigned = rest; size = m.0; minus = ap (λ (x : ℕ). x ∷ rest) same; says = magnitude-says rest m.0 m.1; value = sym m.2 })
signed c rest z false is e =
    let m = mapped pos (magnitude (c ∷ rest)) z e in
    inl (record { size = m.0; says = magnitude-says (c ∷ rest) m.0 m.1; value = sym m.2 })

coordinate-says : (text : List ℕ) (z : ℤ) → coordinate text ≡ Some z → SaysCoordinate text z
coordinate-says [] z e = cc
coordinate-says (c ∷ rest) z e = signed c rest z (c == 45) refl e

coordinate-said : (text : List ℕ) (z : ℤ) → SaysCoordinate text z → coordinate text ≡ Some z
coordinate-said text z (inl s) =
    coordinate-unsigned text (says-first text s.size s.says) ∙ rw (magnitude-said text s.size s.says) (ap (λ (y : ℤ). Some y) (sym s.value))
coordinate-said text z (inr s) =
    rw (s.minus, magnitude-said s.unsigned s.size s.says) (ap (λ (y : ℤ). Some y) (sym s.value))

-- a text is read if and only if it has the form
pub coordinate_is_said : (text : List ℕ) (z : ℤ) → (coordinate text ≡ Some z) ↔ SaysCoordinate text z
coordinate_is_said text z = (coordinate-says text z, coordinate-said text z)
