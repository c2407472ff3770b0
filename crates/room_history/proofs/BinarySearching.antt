-- The result of a binary search among rising numbers, and the position of a list's last item.
use Rattle.std.proofs.Common.{◌≡◌, ◌+◌, ◌-◌, ◌<◌, ◌≤◌, ℕ, zero, suc, Bool, true, false, List, [], ◌∷◌, ◌++◌, Option, Some, None, Result, Ok, Err, is_ok, length, refl, nat_eq, nat_lt, reverse, slice_get, get_or, sym, ap, ◌∙◌, arith, nat_cmp}
use Rattle.std.proofs.lemmas.Bool.Decides.{nat_tests}
use Rattle.std.proofs.lemmas.List.{reverse-append}
use Rattle.std.proofs.lemmas.List.Elements.{All-from_get_or}
use Rattle.std.proofs.lemmas.List.Folds.{list_any_at, list_any_none}
use Rattle.std.proofs.lemmas.List.Sorted.{searched}
use Rattle.room_history.specs.Prelude.{list_any, IsBinarySearchResult, IsNonDecreasing, option_or, Author, Entry, last, standing, undos, numbered, is_by, asked}
use Rattle.room_history.proofs.Growing.{Rise, Rise-standing_from}
use Rattle.room_history.proofs.RisingNumbers.{Rise-filter}

-- rising numbers are at least their start, and do not fall
risen : (n : ℕ) (xs : List ℕ) (end : ℕ) → Rise n xs end → (k d : ℕ) → k < length xs → n ≤ get_or xs k d
risen n [] end r k d within = absurd (omega arith)
risen n (x ∷ xs) end r zero d within = r.0
risen n (x ∷ xs) end r (suc k) d within = let more = risen (x + 1) xs end r.1 k d (omega arith) in omega (arith, r.0, more)

rises : (n : ℕ) (xs : List ℕ) (end : ℕ) → Rise n xs end → IsNonDecreasing xs
rises n [] end r i j d up within = absurd (omega arith)
rises n (x ∷ xs) end r zero zero d up within = omega arith
rises n (x ∷ xs) end r zero (suc j) d up within = let more = risen (x + 1) xs end r.1 j d (omega arith) in omega arith
rises n (x ∷ xs) end r (suc i) zero d up within = absurd (omega arith)
rises n (x ∷ xs) end r (suc i) (suc j) d up within = rises (x + 1) xs end r.1 i j d (omega arith) (omega arith)

-- an author's active entries rise
pub undos_rise : {A : Type 0} (j : List (Entry A)) (author : Author) → IsNonDecreasing (undos j author)
undos_rise j author = rises 1 (undos j author) (1 + length j) (Rise-filter (λ s. is_by author (numbered j s)) 1 (standing j) (1 + length j) (Rise-standing_from 1 j))

equal : (a b : ℕ) → a ≡ b → nat_eq a b ≡ true
equal a b h = grind (arith, nat_tests)

below : (a b : ℕ) → a < b → nat_eq a b ≡ false
below a b h = grind (arith, nat_tests)

above : (a b : ℕ) → b < a → nat_eq a b ≡ false
above a b h = grind (arith, nat_tests)

is_below : (a b : ℕ) → nat_lt a b ≡ true → a < b
is_below a b h = grind (arith, nat_tests)

is_not_below : (a b : ℕ) → nat_lt a b ≡ false → b ≤ a
is_not_below a b h = grind (arith, nat_tests)

-- the search finds a number exactly if it is among them
pub search_tells : (x : ℕ) (xs : List ℕ) → IsNonDecreasing xs → (r : Result ℕ ℕ) → IsBinarySearchResult (λ y. nat_cmp y x) xs r → is_ok r ≡ list_any (λ y. nat_eq y x) xs
search_tells x xs up (Ok i) found =
    let at = searched xs x (Ok i) found (λ i j. up i j 0) in
    sym (list_any_at (λ y. nat_eq y x) xs i 0 at.0 (equal (get_or xs i 0) x at.1))
search_tells x xs up (Err i) gap =
    let at = searched xs x (Err i) gap (λ i j. up i j 0) in
    sym (list_any_none (λ y. nat_eq y x) xs (All-from_get_or (λ y. nat_eq y x ≡ false) xs 0 (differs at.1 at.2)))
  where
    differs : ((k : ℕ) → k < i → get_or xs k 0 < x) → ((k : ℕ) → i ≤ k → k < length xs → x < get_or xs k 0) → (k : ℕ) → k < length xs → nat_eq (get_or xs k 0) x ≡ false
    differs low high k within = by (nat_lt k i) refl
      where
        by : (b : Bool) → nat_lt k i ≡ b → nat_eq (get_or xs k 0) x ≡ false
        by true t = below (get_or xs k 0) x (low k (is_below k i t))
        by false t = above (get_or xs k 0) x (high k (is_not_below k i t) within)

-- the last item of a list is at its length less one
module _ {X : Type 0} where
  first_stays : (xs : List X) (y z : X) → slice_get ((xs ++ y ∷ []) ++ z ∷ []) 0 ≡ slice_get (xs ++ y ∷ []) 0
  first_stays [] y z = refl
  first_stays (x ∷ xs) y z = refl

  last_of_more : (x y : X) (ys : List X) → last (x ∷ y ∷ ys) ≡ last (y ∷ ys)
  last_of_more x y ys =
      ap (λ zs. slice_get zs 0) (reverse-append (x ∷ []) (y ∷ ys) ∙ ap (λ zs. zs ++ x ∷ []) (reverse-append (y ∷ []) ys))
      ∙ first_stays (reverse ys) y x
      ∙ ap (λ zs. slice_get zs 0) (sym (reverse-append (y ∷ []) ys))

  pub last_is : (xs : List X) → slice_get xs (length xs - 1) ≡ last xs
  last_is [] = refl
  last_is (x ∷ []) = refl
  last_is (x ∷ y ∷ ys) = ap (slice_get (x ∷ y ∷ ys)) (one_less (length ys)) ∙ last_is (y ∷ ys) ∙ sym (last_of_more x y ys)
    where
      one_less : (n : ℕ) → suc (suc n) - 1 ≡ suc (suc n - 1)
      one_less n = omega arith

-- the entry that an undo asks for: the given one, or the author's last active entry
pub asked_is : {A : Type 0} (j : List (Entry A)) (author : Author) (own : List ℕ) (number : Option ℕ) → own ≡ undos j author → option_or number (slice_get own (length own - 1)) ≡ asked j author number
asked_is j author own (Some s) e = refl
asked_is j author own None e = last_is own ∙ ap last e
