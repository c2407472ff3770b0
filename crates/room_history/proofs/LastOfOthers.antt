-- The last of the entries of others whose records pass a test.
use Rattle.std.proofs.Common.{◌≡◌, ◌&&◌, ◌⊎◌, ◌+◌, ◌<◌, ◌≤◌, inl, inr, ℕ, zero, suc, Bool, true, false, not, List, [], ◌∷◌, All, refl, cond, arith}
use Rattle.room_history.specs.Prelude.{is_same_author, Author, Entry, Recorded}

-- the first number, unless it is 0
abbrev pub or_other : ℕ → ℕ → ℕ
or_other zero m = m
or_other (suc n) m = suc n

pub or_other_assoc : (a b c : ℕ) → or_other a (or_other b c) ≡ or_other (or_other a b) c
or_other_assoc zero b c = refl
or_other_assoc (suc a) b c = refl

pub nothing_new : (b : Bool) → (b && false) ≡ false
nothing_new true = refl
nothing_new false = refl

pub first_kept : (k z : ℕ) → 0 < k → or_other k z ≡ k
first_kept zero z pos = absurd (omega (arith, pos))
first_kept (suc k) z pos = refl

module _ {A : Type 0} where
  -- the last of the entries, numbered from k, that is not the author's and whose record passes; 0 if there is none
  abbrev pub last_of_others : (Recorded A → Bool) → Author → ℕ → List (Entry A) → List (Recorded A) → ℕ
  last_of_others p author k (e ∷ es) (r ∷ rs) = or_other (last_of_others p author (k + 1) es rs) (cond (not (is_same_author author e.author) && p r) k 0)
  last_of_others p author k es rs = 0

  -- it is none, or one of the entries
  pub none_or_late : (p : Recorded A → Bool) (author : Author) (k : ℕ) (es : List (Entry A)) (rs : List (Recorded A)) → (last_of_others p author k es rs ≡ 0) ⊎ (k ≤ last_of_others p author k es rs)
  none_or_late p author k [] rs = inl refl
  none_or_late p author k (e ∷ es) [] = inl refl
  none_or_late p author k (e ∷ es) (r ∷ rs) = by (last_of_others p author (k + 1) es rs) (none_or_late p author (k + 1) es rs) (not (is_same_author author e.author) && p r)
    where
      by : (m : ℕ) → (m ≡ 0) ⊎ (k + 1 ≤ m) → (b : Bool) → (or_other m (cond b k 0) ≡ 0) ⊎ (k ≤ or_other m (cond b k 0))
      by zero h true = inr (omega arith)
      by zero h false = inl refl
      by (suc m) (inl h) b = absurd (omega (arith, h))
      by (suc m) (inr h) b = inr (omega (arith, h))

  -- tests that say the same of each record have the same last entry
  pub same_last : (p q : Recorded A → Bool) (author : Author) (k : ℕ) (es : List (Entry A)) (rs : List (Recorded A)) → All (λ r. p r ≡ q r) rs
      → last_of_others p author k es rs ≡ last_of_others q author k es rs
  same_last p q author k [] rs h = refl
  same_last p q author k (e ∷ es) [] h = refl
  same_last p q author k (e ∷ es) (r ∷ rs) h = λ i.
      or_other (same_last p q author (k + 1) es rs (λ n s l. h (suc n) s (omega (arith, l))) i) (cond (not (is_same_author author e.author) && h 0 r (omega arith) i) k 0)
