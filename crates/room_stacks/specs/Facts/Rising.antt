-- Rising numbers, and the numbers of the deeds that pass a test.
use Rattle.std.proofs.Common.{ap, subst, ◌∙◌, arith}
use Rattle.std.specs.Prelude.{◌≡◌, ◌||◌, ◌<◌, ℕ, Bool, true, false, cond, List, [], ◌∷◌, ◌++◌, map, nat_eq, not, ◌+◌, refl, get_or, filter, All}
use Prim.Native.Nat.{zero, suc}
use Rattle.std.proofs.lemmas.Bool.Decides.{nat_tests}
use Rattle.std.proofs.lemmas.List.Elements.{All-head, All-tail, All-nil, All-cons, All-push, All-filter, All-map, All-weaker}
use Rattle.room_interface.specs.Prelude.{list_any, IsStrictlyIncreasing}
use Rattle.room_stacks.specs.declared.deed.Deed.{Deed}
use Rattle.room_stacks.specs.Stacks.{number, IsAboveAll}
use Rattle.room_stacks.specs.Inner.Lists.{IsRising, without}

pub IsRising-push : (xs : List ℕ) (n : ℕ) → IsRising xs → All (λ m. m < n) xs → IsRising (xs ++ n ∷ [])
IsRising-push [] n h low = (All-nil (λ m. n < m), tt)
IsRising-push (x ∷ xs) n h low = (All-push (λ m. x < m) xs n h.0 (All-head (λ m. m < n) x xs low), IsRising-push xs n h.1 (All-tail (λ m. m < n) x xs low))

pub IsRising-filter : (p : ℕ → Bool) (xs : List ℕ) → IsRising xs → IsRising (filter p xs)
IsRising-filter p [] h = tt
IsRising-filter p (x ∷ xs) h = by (p x) (IsRising-filter p xs h.1)
  where
    by : (b : Bool) → IsRising (filter p xs) → IsRising (cond b (x ∷ filter p xs) (filter p xs))
    by true rest = (All-filter p (λ m. x < m) xs h.0, rest)
    by false rest = rest

-- each number is below the next
pub increasing : (xs : List ℕ) → IsRising xs → IsStrictlyIncreasing xs
increasing [] h k within = absurd (omega arith)
increasing (x ∷ xs) h zero within = h.0 0 0 (omega arith)
increasing (x ∷ xs) h (suc k) within =
    let same : suc (k + 1) ≡ suc k + 1 = omega arith in
    subst (λ j. get_or xs k 0 < get_or (x ∷ xs) j 0) same (increasing xs h.1 k (omega arith))

-- the numbers without x, if x is not among them
module _ (x : ℕ) where
  pub keeps : (y : ℕ) (ys : List ℕ) → nat_eq y x ≡ false → without x (y ∷ ys) ≡ y ∷ without x ys
  keeps y ys e = ap (λ b. cond (not b) (y ∷ without x ys) (without x ys)) e

  pub drops : (y : ℕ) (ys : List ℕ) → nat_eq y x ≡ true → without x (y ∷ ys) ≡ without x ys
  drops y ys e = ap (λ b. cond (not b) (y ∷ without x ys) (without x ys)) e

  pub without_none : (ys : List ℕ) → All (λ y. nat_eq y x ≡ false) ys → without x ys ≡ ys
  without_none [] h = refl
  without_none (y ∷ ys) h =
      keeps y ys (All-head (λ z. nat_eq z x ≡ false) y ys h) ∙ ap (λ zs. y ∷ zs) (without_none ys (All-tail (λ z. nat_eq z x ≡ false) y ys h))

-- a property of all deeds' numbers is a property of the passing deeds' numbers
pub All-passing : (P : ℕ → Type 0) (p : Deed → Bool) (ds : List Deed) → All P (map number ds) → All P (map number (filter p ds))
All-passing P p [] h = h
All-passing P p (d ∷ ds) h = by (p d) (All-passing P p ds (All-tail P (number d) (map number ds) h))
  where
    by : (b : Bool) → All P (map number (filter p ds)) → All P (map number (cond b (d ∷ filter p ds) (filter p ds)))
    by true rest = All-cons P (number d) (map number (filter p ds)) (All-head P (number d) (map number ds) h) rest
    by false rest = rest

pub IsRising-passing : (p : Deed → Bool) (ds : List Deed) → IsRising (map number ds) → IsRising (map number (filter p ds))
IsRising-passing p [] h = tt
IsRising-passing p (d ∷ ds) h = by (p d) (IsRising-passing p ds h.1)
  where
    by : (b : Bool) → IsRising (map number (filter p ds)) → IsRising (map number (cond b (d ∷ filter p ds) (filter p ds)))
    by true rest = (All-passing (λ m. number d < m) p ds h.0, rest)
    by false rest = rest

pub below_numbers : (seq : ℕ) (ds : List Deed) → IsAboveAll seq ds → All (λ m. m < seq) (map number ds)
below_numbers seq ds h = All-map (λ m. m < seq) number ds h

among_rest : (a b : Bool) → (a || b) ≡ true → a ≡ false → b ≡ true
among_rest true b h e = absurd (cc)
among_rest false b h e = h

-- a number among the selected numbers is among all numbers
pub among_filter : (t p : ℕ → Bool) (xs : List ℕ) → list_any t (filter p xs) ≡ true → list_any t xs ≡ true
among_filter t p [] h = h
among_filter t p (x ∷ xs) h = by (p x) (t x) refl h (among_filter t p xs)
  where
    by : (b c : Bool) → t x ≡ c → list_any t (cond b (x ∷ filter p xs) (filter p xs)) ≡ true → (list_any t (filter p xs) ≡ true → list_any t xs ≡ true) → (t x || list_any t xs) ≡ true
    by b true e m more = rw e refl
    by true false e m more = rw e (more (among_rest (t x) _ m e))
    by false false e m more = rw e (more m)

below_same : (n x s : ℕ) → n < x → nat_eq x s ≡ true → n < s
below_same n x s h e = grind (arith, nat_tests)

-- if all numbers are above n, each of them is above n
above_among : (n s : ℕ) (xs : List ℕ) → All (λ m. n < m) xs → list_any (λ t. nat_eq t s) xs ≡ true → n < s
above_among n s [] h among = absurd (cc)
above_among n s (x ∷ xs) h among = by (nat_eq x s) refl (above_among n s xs (All-tail (λ m. n < m) x xs h))
  where
    first : n < x
    first = All-head (λ m. n < m) x xs h

    by : (b : Bool) → nat_eq x s ≡ b → (list_any (λ t. nat_eq t s) xs ≡ true → n < s) → n < s
    by true e rest = below_same n x s first e
    by false e rest = rest (among_rest (nat_eq x s) _ among e)

same_or_not : (n s m : ℕ) → nat_eq n s ≡ true → n < m → nat_eq m s ≡ false
same_or_not n s m e h = grind (arith, nat_tests)

less_differs : (n s : ℕ) → n < s → nat_eq n s ≡ false
less_differs n s h = grind (arith, nat_tests)

-- if the numbers of deeds rise and no deed passes both tests, no number belongs both to a deed that passes the first
-- test and to a deed that passes the second
module _ (p r : Deed → Bool) (never : (d : Deed) → p d ≡ true → r d ≡ true → ⊥) (s : ℕ) where
  pub none_of_others : (ds : List Deed) → IsRising (map number ds) → list_any (λ t. nat_eq t s) (map number (filter p ds)) ≡ true → All (λ t. nat_eq t s ≡ false) (map number (filter r ds))
  none_of_others [] h among = absurd (cc)
  none_of_others (d ∷ ds) h among = by (p d) (r d) refl refl among (none_of_others ds h.1)
    where
      P : ℕ → Type 0
      P t = nat_eq t s ≡ false

      by : (x y : Bool) → p d ≡ x → r d ≡ y → list_any (λ t. nat_eq t s) (map number (cond x (d ∷ filter p ds) (filter p ds))) ≡ true
          → (list_any (λ t. nat_eq t s) (map number (filter p ds)) ≡ true → All P (map number (filter r ds)))
          → All P (map number (cond y (d ∷ filter r ds) (filter r ds)))
      by true true e f m more = absurd (never d e f)
      by true false e f m more = first (nat_eq (number d) s) refl
        where
          first : (b : Bool) → nat_eq (number d) s ≡ b → All P (map number (filter r ds))
          first true e = All-weaker (λ k. number d < k) P (λ k up. same_or_not (number d) s k e up) (map number (filter r ds)) (All-passing (λ k. number d < k) r ds h.0)
          first false e = more (among_rest (nat_eq (number d) s) _ m e)
      by false true e f m more =
          All-cons P (number d) (map number (filter r ds)) (less_differs (number d) s (above_among (number d) s (map number (filter p ds)) (All-passing (λ k. number d < k) p ds h.0) m)) (more m)
      by false false e f m more = more m
