-- The last entry that passes one of two tests is the greater of the last that pass each.
use Rattle.std.proofs.Common.{◌≡◌, ◌&&◌, ◌||◌, ◌⊎◌, ◌+◌, ◌<◌, ◌≤◌, inl, inr, ℕ, zero, suc, Bool, true, false, not, List, [], ◌∷◌, nat_lt, refl, cond, sym, ap, ◌∙◌, arith}
use Rattle.std.proofs.lemmas.Bool.Decides.{nat_tests}
use Rattle.room_history.specs.Prelude.{is_same_author, Author, Entry, Recorded}
use Rattle.room_history.specs.Inner.Changers.{greater}
use Rattle.room_history.proofs.LastOfOthers.{or_other, last_of_others, first_kept, none_or_late}

on_the_left : (a b : ℕ) → b ≤ a → greater a b ≡ a
on_the_left a b low = ap (λ t. cond t b a) (let no : nat_lt a b ≡ false = grind (arith, nat_tests) in no)

on_the_right : (a b : ℕ) → a < b → greater a b ≡ b
on_the_right a b low = ap (λ t. cond t b a) (let yes : nat_lt a b ≡ true = grind (arith, nat_tests) in yes)

positive : (a b : ℕ) → 0 < a → 0 < greater a b
positive a b pos = by (nat_lt a b) refl
  where
    by : (t : Bool) → nat_lt a b ≡ t → 0 < cond t b a
    by true e = let low : a < b = grind (arith, nat_tests) in omega (arith, low)
    by false e = pos

small : (b : Bool) (k : ℕ) → cond b k 0 ≤ k
small true k = omega arith
small false k = omega arith

-- one more entry, with number k
step : (k a b : ℕ) → 0 < k → (a ≡ 0) ⊎ (k + 1 ≤ a) → (b ≡ 0) ⊎ (k + 1 ≤ b) → (p q : Bool) → or_other (greater a b) (cond (p || q) k 0) ≡ greater (or_other a (cond p k 0)) (or_other b (cond q k 0))
step k zero zero pos h i true true = sym (on_the_left k k (omega arith))
step k zero zero pos h i true false = sym (on_the_left k 0 (omega arith))
step k zero zero pos h i false true = sym (on_the_right 0 k (omega (arith, pos)))
step k zero zero pos h i false false = refl
step k (suc a) b pos (inl z) i p q = absurd (omega (arith, z))
step k a (suc b) pos h (inl z) p q = absurd (omega (arith, z))
step k (suc a) zero pos (inr h) i p q = ap (λ x. or_other x (cond (p || q) k 0)) (on_the_left (suc a) 0 (omega arith)) ∙ sym (on_the_left (suc a) (cond q k 0) (let low = small q k in omega (arith, low, h)))
step k zero (suc b) pos h (inr i) p q = ap (λ x. or_other x (cond (p || q) k 0)) (on_the_right 0 (suc b) (omega arith)) ∙ sym (on_the_right (cond p k 0) (suc b) (let low = small p k in omega (arith, low, i)))
step k (suc a) (suc b) pos (inr h) (inr i) p q = first_kept (greater (suc a) (suc b)) (cond (p || q) k 0) (positive (suc a) (suc b) (omega arith))

both_off : (o p q : Bool) → (o && (p || q)) ≡ ((o && p) || (o && q))
both_off true p q = refl
both_off false p q = refl

module _ {A : Type 0} where
  pub greater_of_two : (p q : Recorded A → Bool) (author : Author) (k : ℕ) → 0 < k → (es : List (Entry A)) (rs : List (Recorded A))
      → last_of_others (λ r. p r || q r) author k es rs ≡ greater (last_of_others p author k es rs) (last_of_others q author k es rs)
  greater_of_two p q author k pos [] rs = refl
  greater_of_two p q author k pos (e ∷ es) [] = refl
  greater_of_two p q author k pos (e ∷ es) (r ∷ rs) =
      ap (λ m. or_other m (cond (other && (p r || q r)) k 0)) (greater_of_two p q author (k + 1) (omega arith) es rs)
      ∙ ap (λ t. or_other (greater one two) (cond t k 0)) (both_off other (p r) (q r))
      ∙ step k one two pos (none_or_late p author (k + 1) es rs) (none_or_late q author (k + 1) es rs) (other && p r) (other && q r)
    where
      other : Bool
      other = not (is_same_author author e.author)

      one : ℕ
      one = last_of_others p author (k + 1) es rs

      two : ℕ
      two = last_of_others q author (k + 1) es rs
