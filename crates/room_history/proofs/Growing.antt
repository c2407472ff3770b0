-- A journal with one more entry.
use Rattle.std.proofs.Common.{◌≡◌, ◌+◌, ◌≤◌, ◌&&◌, ◌||◌, ◌++◌, ◌∷◌, ℕ, zero, suc, Bool, true, false, not, List, [], Some, length, refl, cond, nat_eq, slice_get, sym, ap, subst, ◌∙◌, arith, filter}
use Rattle.std.proofs.lemmas.List.Folds.{list_any-append}
use Rattle.std.proofs.lemmas.Bool.Decides.{nat_tests}
use Rattle.room_history.specs.Prelude.{list_any, Entry, EntryKind, numbered, is_undo_of, is_work, standing_from}

-- the numbered items of a list stay, and the next number is that of the new item
pub numbered_within : {X : Type 0} (xs : List X) (y : X) (s : ℕ) → s ≤ length xs → numbered (xs ++ y ∷ []) s ≡ numbered xs s
numbered_within xs y zero h = refl
numbered_within xs y (suc i) h = at xs i h
  where
    at : (xs : List _) (i : ℕ) → suc i ≤ length xs → slice_get (xs ++ y ∷ []) i ≡ slice_get xs i
    at [] i h = absurd (omega arith)
    at (x ∷ xs) zero h = refl
    at (x ∷ xs) (suc i) h = at xs i (omega arith)

pub numbered_next : {X : Type 0} (xs : List X) (y : X) → numbered (xs ++ y ∷ []) (suc (length xs)) ≡ Some y
numbered_next [] y = refl
numbered_next (x ∷ xs) y = numbered_next xs y

-- numbers from n on, each above the previous number, and all below the end
abbrev pub Rise : ℕ → List ℕ → ℕ → Type 0
Rise n [] end = n ≤ end
Rise n (s ∷ ss) end = (n ≤ s) × Rise (s + 1) ss end

pub Rise-from : (m n : ℕ) (ss : List ℕ) (end : ℕ) → m ≤ n → Rise n ss end → Rise m ss end
Rise-from m n [] end h r = omega arith
Rise-from m n (s ∷ ss) end h r = (omega (arith, r.0), r.1)

pub equal_numbers : (t s : ℕ) → nat_eq t s ≡ true → t ≡ s
equal_numbers t s e = grind (arith, nat_tests)

module _ {A : Type 0} where
  abbrev pub new_number : EntryKind A → ℕ → List ℕ
  new_number k n = cond (is_work k) (n ∷ []) []

  -- one more entry removes the entry that it undoes from the active ones, and adds its own number if it does or redoes
  -- an action
  pub standing_from-append : (n : ℕ) (j : List (Entry A)) (e : Entry A) → standing_from n (j ++ e ∷ []) ≡ filter (λ s. not (is_undo_of s e.kind)) (standing_from n j) ++ new_number e.kind (n + length j)
  standing_from-append n [] e = by (is_work e.kind) n (omega arith)
    where
      by : (b : Bool) (m : ℕ) → m ≡ n + 0 → cond (b && true) (m ∷ []) [] ≡ cond b ((n + 0) ∷ []) []
      by true m h = ap (λ k. k ∷ []) h
      by false m h = refl
  standing_from-append n (x ∷ j) e =
      ap (λ b. cond (is_work x.kind && not b) (n ∷ standing_from (n + 1) (j ++ e ∷ [])) (standing_from (n + 1) (j ++ e ∷ []))) (list_any-append (λ (l : Entry A). is_undo_of n l.kind) j (e ∷ []))
      ∙ by (is_work x.kind) (list_any (λ (l : Entry A). is_undo_of n l.kind) j) (is_undo_of n e.kind) refl
      (standing_from (n + 1) (j ++ e ∷ [])) (new_number e.kind (n + suc (length j)))
      (standing_from-append (n + 1) j e ∙ ap (λ k. filter (λ s. not (is_undo_of s e.kind)) (standing_from (n + 1) j) ++ new_number e.kind k) (omega arith))
    where
      by : (w a u : Bool) → is_undo_of n e.kind ≡ u → (rest new : List ℕ) → rest ≡ filter (λ s. not (is_undo_of s e.kind)) (standing_from (n + 1) j) ++ new
          → cond (w && not (a || (u || false))) (n ∷ rest) rest ≡ filter (λ s. not (is_undo_of s e.kind)) (cond (w && not a) (n ∷ standing_from (n + 1) j) (standing_from (n + 1) j)) ++ new
      by false a u h rest new i = i
      by true true u h rest new i = i
      by true false true h rest new i = i ∙ ap (λ b. cond (not b) (n ∷ filter (λ s. not (is_undo_of s e.kind)) (standing_from (n + 1) j)) (filter (λ s. not (is_undo_of s e.kind)) (standing_from (n + 1) j)) ++ new) (sym h)
      by true false false h rest new i = ap (λ r. n ∷ r) i ∙ ap (λ b. cond (not b) (n ∷ filter (λ s. not (is_undo_of s e.kind)) (standing_from (n + 1) j)) (filter (λ s. not (is_undo_of s e.kind)) (standing_from (n + 1) j)) ++ new) (sym h)

  pub Rise-standing_from : (n : ℕ) (j : List (Entry A)) → Rise n (standing_from n j) (n + length j)
  Rise-standing_from n [] = omega arith
  Rise-standing_from n (x ∷ j) = by (is_work x.kind && not (list_any (λ (l : Entry A). is_undo_of n l.kind) j)) (Rise-standing_from (n + 1) j)
    where
      wide : (ss : List ℕ) → Rise (n + 1) ss ((n + 1) + length j) → Rise (n + 1) ss (n + suc (length j))
      wide ss r = let e : (n + 1) + length j ≡ n + suc (length j) = omega arith in subst (λ k. Rise (n + 1) ss k) e r

      by : (b : Bool) → Rise (n + 1) (standing_from (n + 1) j) ((n + 1) + length j) → Rise n (cond b (n ∷ standing_from (n + 1) j) (standing_from (n + 1) j)) (n + suc (length j))
      by true r = (omega arith, wide (standing_from (n + 1) j) r)
      by false r = Rise-from n (n + 1) (standing_from (n + 1) j) (n + suc (length j)) (omega arith) (wide (standing_from (n + 1) j) r)
