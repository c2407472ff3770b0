-- Rising numbers: membership, positions, and the greatest number.
use Rattle.std.proofs.Common.{◌≡◌, ◌++◌, ◌+◌, ◌<◌, ◌≤◌, ◌||◌, ℕ, Bool, true, false, not, List, [], ◌∷◌, Some, refl, cond, nat_eq, nat_lt, sym, ap, ◌∙◌, arith, filter}
use Rattle.std.proofs.lemmas.Bool.Decides.{nat_tests}
use Rattle.room_history.specs.Prelude.{list_any, last}
use Rattle.room_history.proofs.Growing.{Rise, Rise-from, equal_numbers}
use Rattle.room_history.proofs.LastItems.{last-append}

-- a number is among the numbers
abbrev pub is_in : ℕ → List ℕ → Bool
is_in t ss = list_any (λ x. nat_eq x t) ss

other : (t s : ℕ) → s < t → nat_eq t s ≡ false
other t s h = grind (arith, nat_tests)

other_way : (t s : ℕ) → t < s → nat_eq t s ≡ false
other_way t s h = grind (arith, nat_tests)

pub above : (s t : ℕ) → s < t → nat_lt s t ≡ true
above s t h = grind (arith, nat_tests)

pub is_above : (s t : ℕ) → nat_lt s t ≡ true → s < t
is_above s t h = grind (arith, nat_tests)

not_above : (s t : ℕ) → t ≤ s → nat_lt s t ≡ false
not_above s t h = grind (arith, nat_tests)

pub itself : (t : ℕ) → nat_eq t t ≡ true
itself t = grind (arith, nat_tests)

pub or_else : (a b : Bool) → b ≡ true → (a || b) ≡ true
or_else true b h = refl
or_else false b h = h

-- no number of rising numbers is below the first
pub at_least : (m u : ℕ) (ss : List ℕ) (end : ℕ) → Rise m ss end → is_in u ss ≡ true → m ≤ u
at_least m u [] end r h = absurd (cc)
at_least m u (x ∷ xs) end r h = by (nat_eq x u) refl h (at_least (x + 1) u xs end r.1)
  where
    by : (b : Bool) → nat_eq x u ≡ b → (b || is_in u xs) ≡ true → (is_in u xs ≡ true → x + 1 ≤ u) → m ≤ u
    by true e h go = let same = equal_numbers x u e in omega (arith, r.0, same)
    by false e h go = let low = go h in omega (arith, r.0, low)

-- the numbers in front of one of them, and the numbers after it
pub record Parted (s : ℕ) (ss : List ℕ) : Type 0 where
  pub earlier : List ℕ
  pub later : List ℕ
  pub whole : ss ≡ earlier ++ s ∷ later
  pub others : filter (λ t. not (nat_eq t s)) ss ≡ earlier ++ later
  pub behind : filter (nat_lt s) ss ≡ later

all_above : (s n : ℕ) (ss : List ℕ) (end : ℕ) → s < n → Rise n ss end → (filter (λ t. not (nat_eq t s)) ss ≡ ss) × (filter (nat_lt s) ss ≡ ss)
all_above s n [] end low r = (refl, refl)
all_above s n (x ∷ xs) end low r =
    let rest = all_above s (x + 1) xs end (omega (arith, low, r.0)) r.1 in (
      ap (λ b. cond (not b) (x ∷ filter (λ t. not (nat_eq t s)) xs) (filter (λ t. not (nat_eq t s)) xs)) (other x s (omega (arith, low, r.0))) ∙ ap (λ l. x ∷ l) rest.0,
      ap (λ b. cond b (x ∷ filter (nat_lt s) xs) (filter (nat_lt s) xs)) (above s x (omega (arith, low, r.0))) ∙ ap (λ l. x ∷ l) rest.1,
    )

pub parted : (s n : ℕ) (ss : List ℕ) (end : ℕ) → Rise n ss end → is_in s ss ≡ true → Parted s ss
parted s n [] end r h = absurd (cc)
parted s n (x ∷ xs) end r h = by (nat_eq x s) refl h (parted s (x + 1) xs end r.1)
  where
    by : (b : Bool) → nat_eq x s ≡ b → (b || is_in s xs) ≡ true → (is_in s xs ≡ true → Parted s xs) → Parted s (x ∷ xs)
    by true e h go =
        let same = equal_numbers x s e in
        let kept = all_above s (x + 1) xs end (omega (arith, same)) r.1 in
        record {
          earlier = [];
          later = xs;
          whole = ap (λ y. y ∷ xs) same;
          others = ap (λ b. cond (not b) (x ∷ filter (λ t. not (nat_eq t s)) xs) (filter (λ t. not (nat_eq t s)) xs)) e ∙ kept.0;
          behind = ap (λ b. cond b (x ∷ filter (nat_lt s) xs) (filter (nat_lt s) xs)) (not_above s x (omega (arith, same))) ∙ kept.1;
        }
    by false e h go =
        let p = go h in
        let up = at_least (x + 1) s xs end r.1 h in
        record {
          earlier = x ∷ p.earlier;
          later = p.later;
          whole = ap (λ l. x ∷ l) p.whole;
          others = ap (λ b. cond (not b) (x ∷ filter (λ t. not (nat_eq t s)) xs) (filter (λ t. not (nat_eq t s)) xs)) e ∙ ap (λ l. x ∷ l) p.others;
          behind = ap (λ b. cond b (x ∷ filter (nat_lt s) xs) (filter (nat_lt s) xs)) (not_above s x (omega (arith, up))) ∙ p.behind;
        }

-- numbers that pass a test rise, and are exactly those of the list that pass it
module _ (p : ℕ → Bool) where
  pub Rise-filter : (m : ℕ) (ss : List ℕ) (end : ℕ) → Rise m ss end → Rise m (filter p ss) end
  Rise-filter m [] end r = r
  Rise-filter m (x ∷ xs) end r = by (p x) (Rise-filter (x + 1) xs end r.1)
    where
      by : (b : Bool) → Rise (x + 1) (filter p xs) end → Rise m (cond b (x ∷ filter p xs) (filter p xs)) end
      by true h = (r.0, h)
      by false h = Rise-from m (x + 1) (filter p xs) end (let l = r.0 in omega (arith, l)) h

  pub into_filter : (t : ℕ) (ss : List ℕ) → p t ≡ true → is_in t ss ≡ true → is_in t (filter p ss) ≡ true
  into_filter t [] e h = h
  into_filter t (x ∷ xs) e h = by (p x) refl (nat_eq x t) refl h (into_filter t xs e)
    where
      by : (b : Bool) → p x ≡ b → (a : Bool) → nat_eq x t ≡ a → (a || is_in t xs) ≡ true → (is_in t xs ≡ true → is_in t (filter p xs) ≡ true) → is_in t (cond b (x ∷ filter p xs) (filter p xs)) ≡ true
      by true f true g h go = ap (λ a. a || is_in t (filter p xs)) g
      by true f false g h go = or_else (nat_eq x t) (is_in t (filter p xs)) (go h)
      by false f true g h go = let same = equal_numbers x t g in absurd (cc (sym e ∙ ap p (sym same) ∙ f))
      by false f false g h go = go h

  pub out_of_filter : (t : ℕ) (ss : List ℕ) → is_in t (filter p ss) ≡ true → (p t ≡ true) × (is_in t ss ≡ true)
  out_of_filter t [] h = absurd (cc)
  out_of_filter t (x ∷ xs) h = by (p x) refl h (out_of_filter t xs)
    where
      on : (a : Bool) → nat_eq x t ≡ a → p x ≡ true → (a || is_in t (filter p xs)) ≡ true → (is_in t (filter p xs) ≡ true → (p t ≡ true) × (is_in t xs ≡ true)) → (p t ≡ true) × ((nat_eq x t || is_in t xs) ≡ true)
      on true g f i go = let same = equal_numbers x t g in (ap p (sym same) ∙ f, ap (λ a. a || is_in t xs) g)
      on false g f i go = let r = go i in (r.0, or_else (nat_eq x t) (is_in t xs) r.1)

      by : (b : Bool) → p x ≡ b → is_in t (cond b (x ∷ filter p xs) (filter p xs)) ≡ true → (is_in t (filter p xs) ≡ true → (p t ≡ true) × (is_in t xs ≡ true)) → (p t ≡ true) × ((nat_eq x t || is_in t xs) ≡ true)
      by true f i go = on (nat_eq x t) refl f i go
      by false f i go = let r = go i in (r.0, or_else (nat_eq x t) (is_in t xs) r.1)

-- the greatest number is the last
pub greatest_is_last : (s m : ℕ) (ss : List ℕ) (end : ℕ) → Rise m ss end → is_in s ss ≡ true → ((t : ℕ) → is_in t ss ≡ true → t ≤ s) → last ss ≡ Some s
greatest_is_last s m ss end r there low = ap last (cut.whole ∙ ap (λ l. cut.earlier ++ s ∷ l) (none cut.later cut.behind)) ∙ last-append cut.earlier s
  where
    cut : Parted s ss
    cut = parted s m ss end r there

    none : (later : List ℕ) → filter (nat_lt s) ss ≡ later → later ≡ []
    none [] h = refl
    none (x ∷ xs) h =
        let k = out_of_filter (nat_lt s) x ss (ap (is_in x) h ∙ ap (λ b. b || is_in x xs) (itself x)) in
        let up = is_above s x k.0 in
        let down = low x k.1 in
        absurd (omega (arith, up, down))

-- rising numbers are below their end
pub below_end : (n : ℕ) (x : ℕ) (xs : List ℕ) (end : ℕ) → Rise (x + 1) xs end → end ≤ n → x < n
below_end n x [] end r h = omega (arith, r, h)
below_end n x (y ∷ ys) end r h = let low = below_end n y ys end r.1 h in omega (arith, r.0, low)

-- the number appended to rising numbers is among them, is the greatest, and removing it leaves the others
pub last_there : (n : ℕ) (ss : List ℕ) → is_in n (ss ++ n ∷ []) ≡ true
last_there n [] = ap (λ b. b || false) (itself n)
last_there n (x ∷ xs) = or_else (nat_eq x n) (is_in n (xs ++ n ∷ [])) (last_there n xs)

pub none_behind : (n m : ℕ) (ss : List ℕ) (end : ℕ) → Rise m ss end → end ≤ n → filter (nat_lt n) (ss ++ n ∷ []) ≡ []
none_behind n m [] end r h = ap (λ b. cond b (n ∷ []) []) (not_above n n (omega arith))
none_behind n m (x ∷ xs) end r h =
    let low = below_end n x xs end r.1 h in
    ap (λ b. cond b (x ∷ filter (nat_lt n) (xs ++ n ∷ [])) (filter (nat_lt n) (xs ++ n ∷ []))) (not_above n x (omega (arith, low))) ∙ none_behind n (x + 1) xs end r.1 h

pub others_stay : (n m : ℕ) (ss : List ℕ) (end : ℕ) → Rise m ss end → end ≤ n → filter (λ t. not (nat_eq t n)) (ss ++ n ∷ []) ≡ ss
others_stay n m [] end r h = ap (λ b. cond (not b) (n ∷ []) []) (itself n)
others_stay n m (x ∷ xs) end r h =
    ap (λ b. cond (not b) (x ∷ filter (λ t. not (nat_eq t n)) (xs ++ n ∷ [])) (filter (λ t. not (nat_eq t n)) (xs ++ n ∷ []))) (other_way x n (below_end n x xs end r.1 h)) ∙ ap (λ l. x ∷ l) (others_stay n (x + 1) xs end r.1 h)
