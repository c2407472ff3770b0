-- Rising numbers: one appended, one removed, and the first above a number.
use Rattle.std.proofs.Common.{sym, ap, subst, ◌∙◌, arith}
use Rattle.std.specs.Prelude.{◌≡◌, ◌||◌, ◌<◌, ◌≤◌, ℕ, Bool, true, false, not, cond, T, List, [], ◌∷◌, ◌++◌, Some, None, nat_eq, nat_lt, refl, find}
use Rattle.std.proofs.lemmas.Bool.Decides.{nat_tests}
use Rattle.edit_actions.specs.Prelude.{nat_cmp_is, Equal-is, is_lt, is_eq, nat_cmp, nat_cmp-IsAntisymmetric, below_all, Less, Equal, Greater, bare_rows}
use Rattle.rising_lists.specs.Rising.{IsRising, but}
use Rattle.rising_lists.specs.Rising.{is_among}
use Rattle.rising_lists.specs.Facts.Sorted.{both, first, second}

pub less : (a b : ℕ) → a < b → nat_cmp a b ≡ Less
less a b h = sym (nat_cmp_is a b Less h)

pub greater : (a b : ℕ) → b < a → nat_cmp a b ≡ Greater
greater a b h = sym (nat_cmp_is a b Greater h)

pub same : (a : ℕ) → is_eq (nat_cmp a a) ≡ true
same a = ap is_eq (sym (nat_cmp_is a a Equal refl))

pub same_number : (a b : ℕ) → is_eq (nat_cmp a b) ≡ true → a ≡ b
same_number a b e = nat_cmp-IsAntisymmetric a b ((Equal-is (nat_cmp a b)).0 e)

-- equal numbers are the same
pub tied : (a b : ℕ) → is_eq (nat_cmp a b) ≡ nat_eq b a
tied a b = by (nat_lt a b) refl (nat_eq a b) refl
  where
    turned : nat_eq a b ≡ nat_eq b a
    turned = grind (arith, nat_tests)

    apart : nat_lt a b ≡ true → false ≡ nat_eq b a
    apart e = grind (arith, nat_tests)

    by : (t : Bool) → nat_lt a b ≡ t → (u : Bool) → nat_eq a b ≡ u → is_eq (cond t Less (cond u Equal Greater)) ≡ nat_eq b a
    by true e u f = apart e
    by false e true f = sym f ∙ turned
    by false e false f = sym f ∙ turned

pub is_below : (a b : ℕ) → T (is_lt (nat_cmp a b)) → a < b
is_below a b h = by (nat_lt a b) refl (nat_eq a b) h
  where
    below : nat_lt a b ≡ true → a < b
    below e = grind (arith, nat_tests)

    by : (t : Bool) → nat_lt a b ≡ t → (u : Bool) → T (is_lt (cond t Less (cond u Equal Greater))) → a < b
    by true e u p = below e
    by false e true p = absurd p
    by false e false p = absurd p

or_else : (a b : Bool) → b ≡ true → (a || b) ≡ true
or_else true b e = refl
or_else false b e = e

-- all numbers are below s
abbrev pub AreBelow : List ℕ → ℕ → Type 0
AreBelow xs s = (n : ℕ) → is_among nat_cmp xs n ≡ true → n < s

first_below : (x s : ℕ) (xs : List ℕ) → AreBelow (x ∷ xs) s → x < s
first_below x s xs h = h x (ap (λ b. b || is_among nat_cmp xs x) (same x))

others_below : (x s : ℕ) (xs : List ℕ) → AreBelow (x ∷ xs) s → AreBelow xs s
others_below x s xs h n e = h n (or_else (is_eq (nat_cmp n x)) (is_among nat_cmp xs n) e)

-- the numbers after the first of rising numbers are above it
above_first : (x : ℕ) (xs : List ℕ) → T (below_all nat_cmp x (bare_rows xs)) → (n : ℕ) → is_among nat_cmp xs n ≡ true → x < n
above_first x [] h n e = absurd (cc)
above_first x (y ∷ ys) h n e = by (is_eq (nat_cmp n y)) refl e (above_first x ys (second _ _ h) n)
  where
    by : (b : Bool) → is_eq (nat_cmp n y) ≡ b → (b || is_among nat_cmp ys n) ≡ true → (is_among nat_cmp ys n ≡ true → x < n) → x < n
    by true f g go = let is = same_number n y f in let low = is_below x y (first _ _ h) in omega (arith, is, low)
    by false f g go = go g

below_last : (x s : ℕ) (xs : List ℕ) → x < s → T (below_all nat_cmp x (bare_rows xs)) → T (below_all nat_cmp x (bare_rows (xs ++ s ∷ [])))
below_last x s [] h low = both _ _ (subst (λ o. T (is_lt o)) (sym (less x s h)) tt) tt
below_last x s (y ∷ ys) h low = both _ _ (first _ _ low) (below_last x s ys h (second _ _ low))

-- appending a number above all others keeps the list rising
pub IsRising-last : (s : ℕ) (xs : List ℕ) → AreBelow xs s → IsRising nat_cmp xs → IsRising nat_cmp (xs ++ s ∷ [])
IsRising-last s [] h r = tt
IsRising-last s (x ∷ xs) h r = both _ _ (below_last x s xs (first_below x s xs h) (first _ _ r)) (IsRising-last s xs (others_below x s xs h) (second _ _ r))

pub is_among-last : (s : ℕ) (xs : List ℕ) (n : ℕ) → is_among nat_cmp (xs ++ s ∷ []) n ≡ (is_eq (nat_cmp n s) || is_among nat_cmp xs n)
is_among-last s [] n = refl
is_among-last s (x ∷ xs) n = ap (λ b. is_eq (nat_cmp n x) || b) (is_among-last s xs n) ∙ swap (is_eq (nat_cmp n x)) (is_eq (nat_cmp n s)) (is_among nat_cmp xs n)
  where
    swap : (a b c : Bool) → (a || (b || c)) ≡ (b || (a || c))
    swap true true c = refl
    swap true false c = refl
    swap false b c = refl

-- removing a number that is absent changes nothing
pub but-none : (s : ℕ) (xs : List ℕ) → is_among nat_cmp xs s ≡ false → but nat_cmp s xs ≡ xs
but-none s [] e = refl
but-none s (x ∷ xs) e = by (is_eq (nat_cmp s x)) e (but-none s xs)
  where
    by : (b : Bool) → (b || is_among nat_cmp xs s) ≡ false → (is_among nat_cmp xs s ≡ false → but nat_cmp s xs ≡ xs) → cond (not b) (x ∷ but nat_cmp s xs) (but nat_cmp s xs) ≡ x ∷ xs
    by true f go = absurd (cc)
    by false f go = ap (λ ys. x ∷ ys) (go f)

-- a number above all others is not in the list
pub not_among : (s : ℕ) (xs : List ℕ) → AreBelow xs s → is_among nat_cmp xs s ≡ false
not_among s xs h = by (is_among nat_cmp xs s) refl
  where
    by : (b : Bool) → is_among nat_cmp xs s ≡ b → b ≡ false
    by true e = absurd (let low = h s e in omega (arith, low))
    by false e = refl

-- removing an appended number restores the list
pub but-last : (s : ℕ) (xs : List ℕ) → AreBelow xs s → but nat_cmp s (xs ++ s ∷ []) ≡ xs
but-last s [] h = ap (λ b. cond (not b) (s ∷ []) []) (same s)
but-last s (x ∷ xs) h =
    ap (λ o. cond (not (is_eq o)) (x ∷ but nat_cmp s (xs ++ s ∷ [])) (but nat_cmp s (xs ++ s ∷ []))) (greater s x (first_below x s xs h))
    ∙ ap (λ ys. x ∷ ys) (but-last s xs (others_below x s xs h))

-- the first of rising numbers above a number is in the list, and is the least above it
pub first_above : (s : ℕ) (xs : List ℕ) (m : ℕ) → find (nat_lt s) xs ≡ Some m → (s < m) × (is_among nat_cmp xs m ≡ true)
first_above s [] m e = absurd (cc)
first_above s (x ∷ xs) m e = by (nat_lt s x) refl e (first_above s xs m)
  where
    above : nat_lt s x ≡ true → s < x
    above e = grind (arith, nat_tests)

    by : (b : Bool) → nat_lt s x ≡ b → cond b (Some x) (find (nat_lt s) xs) ≡ Some m → (find (nat_lt s) xs ≡ Some m → (s < m) × (is_among nat_cmp xs m ≡ true)) → (s < m) × (is_among nat_cmp (x ∷ xs) m ≡ true)
    by true f g go = let is : x ≡ m = cc in let up = above f in (omega (arith, is, up), ap (λ k. is_eq (nat_cmp m k) || is_among nat_cmp xs m) is ∙ ap (λ b. b || is_among nat_cmp xs m) (same m))
    by false f g go = let found = go g in (found.0, or_else (is_eq (nat_cmp m x)) (is_among nat_cmp xs m) found.1)

pub least_above : (s : ℕ) (xs : List ℕ) (m : ℕ) → IsRising nat_cmp xs → find (nat_lt s) xs ≡ Some m → (n : ℕ) → s < n → is_among nat_cmp xs n ≡ true → m ≤ n
least_above s [] m r e n up there = absurd (cc)
least_above s (x ∷ xs) m r e n up there = by (nat_lt s x) refl e (is_eq (nat_cmp n x)) refl there (least_above s xs m (second _ _ r))
  where
    not_above : nat_lt s x ≡ false → x ≤ s
    not_above e = grind (arith, nat_tests)

    by : (b : Bool) → nat_lt s x ≡ b → cond b (Some x) (find (nat_lt s) xs) ≡ Some m → (t : Bool) → is_eq (nat_cmp n x) ≡ t → (t || is_among nat_cmp xs n) ≡ true
        → (find (nat_lt s) xs ≡ Some m → (n : ℕ) → s < n → is_among nat_cmp xs n ≡ true → m ≤ n) → m ≤ n
    by true f g true i h go = let is : x ≡ m = cc in let it = same_number n x i in omega (arith, is, it)
    by true f g false i h go = let is : x ≡ m = cc in let high = above_first x xs (first _ _ r) n h in omega (arith, is, high)
    by false f g true i h go = let it = same_number n x i in let low = not_above f in absurd (omega (arith, it, low, up))
    by false f g false i h go = go g n up h

pub none_above : (s : ℕ) (xs : List ℕ) → find (nat_lt s) xs ≡ None → (n : ℕ) → s < n → is_among nat_cmp xs n ≡ true → ⊥
none_above s [] e n up there = cc
none_above s (x ∷ xs) e n up there = by (nat_lt s x) refl e (is_eq (nat_cmp n x)) refl there (none_above s xs)
  where
    not_above : nat_lt s x ≡ false → x ≤ s
    not_above e = grind (arith, nat_tests)

    by : (b : Bool) → nat_lt s x ≡ b → cond b (Some x) (find (nat_lt s) xs) ≡ None → (t : Bool) → is_eq (nat_cmp n x) ≡ t → (t || is_among nat_cmp xs n) ≡ true
        → (find (nat_lt s) xs ≡ None → (n : ℕ) → s < n → is_among nat_cmp xs n ≡ true → ⊥) → ⊥
    by true f g t i h go = cc
    by false f g true i h go = let it = same_number n x i in let low = not_above f in omega (arith, it, low, up)
    by false f g false i h go = go g n up h
