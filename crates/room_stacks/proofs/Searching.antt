-- A binary search among rising numbers finds the position of a number, or finds that it is absent.
use Rattle.std.proofs.Common.{◌≡◌, ℕ, suc, ◌<◌, ◌≤◌, Bool, true, false, List, [], ◌∷◌, length, Result, Ok, Err, nat_eq, nat_lt, refl, get_or, sym, ap, ◌∙◌, arith, remove, nat_cmp}
use Prim.Native.Nat.{zero}
use Rattle.std.proofs.lemmas.Bool.Decides.{nat_tests}
use Rattle.std.proofs.lemmas.List.Elements.{All-weaker, All-from_get_or}
use Rattle.std.proofs.lemmas.List.Sorted.{searched}
use Rattle.room_stacks.specs.Prelude.{IsBinarySearchResult, keeps, drops, without_none}
use Rattle.room_stacks.specs.Inner.Lists.{without, IsRising}

abbrev pub found_at : ℕ → Result ℕ ℕ
found_at i = Ok i

abbrev pub gap_at : ℕ → Result ℕ ℕ
gap_at i = Err i

equal : (a b : ℕ) → a ≡ b → nat_eq a b ≡ true
equal a b h = grind (arith, nat_tests)

below : (a b : ℕ) → a < b → nat_eq a b ≡ false
below a b h = grind (arith, nat_tests)

above : (a b : ℕ) → b < a → nat_eq a b ≡ false
above a b h = grind (arith, nat_tests)

is_below : (a b : ℕ) → nat_lt a b ≡ true → a < b
is_below a b h = grind (arith, nat_tests)

is_not_below : (a b : ℕ) → nat_lt a b ≡ false → b ≤ a
is_not_below a b h = grind (arith, nat_tests)

nondecreasing : (xs : List ℕ) → IsRising xs → (i j : ℕ) → i ≤ j → j < length xs → get_or xs i 0 ≤ get_or xs j 0
nondecreasing [] h i j up within = absurd (omega arith)
nondecreasing (y ∷ ys) h zero zero up within = omega arith
nondecreasing (y ∷ ys) h zero (suc j) up within = let more : y < get_or ys j 0 = h.0 j 0 (omega arith) in omega arith
nondecreasing (y ∷ ys) h (suc i) zero up within = absurd (omega arith)
nondecreasing (y ∷ ys) h (suc i) (suc j) up within = nondecreasing ys h.1 i j (omega arith) (omega arith)

module _ (x : ℕ) where
  taken : (xs : List ℕ) (i : ℕ) → IsRising xs → i < length xs → get_or xs i 0 ≡ x → remove xs i ≡ without x xs
  taken [] i h within here = absurd (omega arith)
  taken (y ∷ ys) zero h within here =
      sym (drops x y ys (equal y x here) ∙ without_none x ys (All-weaker (λ z. y < z) (λ z. nat_eq z x ≡ false) (λ z more. above z x (omega arith)) ys h.0))
  taken (y ∷ ys) (suc i) h within here =
      let more : y < get_or ys i 0 = h.0 i 0 (omega arith) in
      ap (λ zs. y ∷ zs) (taken ys i h.1 (omega arith) here) ∙ sym (keeps x y ys (below y x (omega arith)))

  module _ (xs : List ℕ) (h : IsRising xs) where
    pub out_where_found : (i : ℕ) → IsBinarySearchResult (λ y. nat_cmp y x) xs (found_at i) → remove xs i ≡ without x xs
    out_where_found i found =
        let tells = searched xs x (found_at i) found (nondecreasing xs h) in
        taken xs i h tells.0 tells.1

    differs : (i : ℕ) → ((k : ℕ) → k < i → get_or xs k 0 < x) → ((k : ℕ) → i ≤ k → k < length xs → x < get_or xs k 0) → (k : ℕ) → k < length xs → nat_eq (get_or xs k 0) x ≡ false
    differs i low high k within = by (nat_lt k i) refl
      where
        by : (b : Bool) → nat_lt k i ≡ b → nat_eq (get_or xs k 0) x ≡ false
        by true t = below (get_or xs k 0) x (low k (is_below k i t))
        by false t = above (get_or xs k 0) x (high k (is_not_below k i t) within)

    pub out_in_gap : (i : ℕ) → IsBinarySearchResult (λ y. nat_cmp y x) xs (gap_at i) → xs ≡ without x xs
    out_in_gap i gap =
        let tells = searched xs x (gap_at i) gap (nondecreasing xs h) in
        sym (without_none x xs (All-from_get_or (λ y. nat_eq y x ≡ false) xs 0 (differs i tells.1 tells.2)))
