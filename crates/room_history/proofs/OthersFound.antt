-- Where the last of the entries of others is whose records pass a test.
use Rattle.std.proofs.Common.{◌≡◌, ◌&&◌, ◌+◌, ◌<◌, ◌≤◌, ℕ, zero, suc, Bool, true, false, not, List, [], ◌∷◌, Some, slice_get, refl, cond, ap, ◌∙◌, arith}
use Rattle.room_history.specs.Prelude.{is_same_author, Author, Entry, Recorded}
use Rattle.room_history.proofs.LastOfOthers.{or_other, last_of_others, none_or_late}
use Rattle.std.proofs.Common.{◌⊎◌, inl, inr}

module _ {A : Type 0} (p : Recorded A → Bool) (author : Author) where
  -- an entry of another author whose record passes, numbered from k
  pub record IsFound (k : ℕ) (es : List (Entry A)) (rs : List (Recorded A)) (m : ℕ) : Type 0 where
    pub place : ℕ
    pub number : m ≡ k + place
    pub entry : Entry A
    pub recorded : Recorded A
    pub is : slice_get es place ≡ Some entry
    pub record_is : slice_get rs place ≡ Some recorded
    pub other : is_same_author author entry.author ≡ false
    pub passes : p recorded ≡ true

  pub last_found : (k : ℕ) (es : List (Entry A)) (rs : List (Recorded A)) (m : ℕ) → last_of_others p author k es rs ≡ m → 0 < m → IsFound k es rs m
  last_found k [] rs m e pos = absurd (omega (arith, e, pos))
  last_found k (d ∷ es) [] m e pos = absurd (omega (arith, e, pos))
  last_found k (d ∷ es) (r ∷ rs) m e pos = by (last_of_others p author (k + 1) es rs) refl (is_same_author author d.author) refl (p r) refl e (last_found (k + 1) es rs)
    where
      by : (n : ℕ) → last_of_others p author (k + 1) es rs ≡ n → (o : Bool) → is_same_author author d.author ≡ o → (b : Bool) → p r ≡ b → or_other n (cond (not o && b) k 0) ≡ m
          → ((l : ℕ) → last_of_others p author (k + 1) es rs ≡ l → 0 < l → IsFound (k + 1) es rs l) → IsFound k (d ∷ es) (r ∷ rs) m
      by (suc n) f o g b h e go =
          let rest = go (suc n) f (omega arith) in
          let at = rest.number in
          record { place = suc rest.place; number = omega (arith, e, at); entry = rest.entry; recorded = rest.recorded; is = rest.is; record_is = rest.record_is; other = rest.other; passes = rest.passes }
      by zero f false g true h e go = record { place = 0; number = omega (arith, e); entry = d; recorded = r; is = refl; record_is = refl; other = g; passes = h }
      by zero f false g false h e go = absurd (omega (arith, e, pos))
      by zero f true g b h e go = absurd (omega (arith, e, pos))

  -- no such entry is later than the last
  pub none_later : (k : ℕ) → 0 < k → (es : List (Entry A)) (rs : List (Recorded A)) (i : ℕ) (e : Entry A) (r : Recorded A) → slice_get es i ≡ Some e → slice_get rs i ≡ Some r → is_same_author author e.author ≡ false → p r ≡ true
      → k + i ≤ last_of_others p author k es rs
  none_later k pos [] rs i e r is record_is other passes = absurd (cc)
  none_later k pos (d ∷ es) [] i e r is record_is other passes = absurd (cc)
  none_later k pos (d ∷ es) (q ∷ rs) zero e r is record_is other passes = by (last_of_others p author (k + 1) es rs) (none_or_late p author (k + 1) es rs) (not (is_same_author author d.author) && p q) here
    where
      same_entry : d ≡ e
      same_entry = cc

      same_record : q ≡ r
      same_record = cc

      here : (not (is_same_author author d.author) && p q) ≡ true
      here = ap (λ (x : Entry A). not (is_same_author author x.author) && p q) same_entry ∙ ap (λ b. not b && p q) other ∙ ap p same_record ∙ passes

      by : (n : ℕ) → (n ≡ 0) ⊎ (k + 1 ≤ n) → (b : Bool) → b ≡ true → k + 0 ≤ or_other n (cond b k 0)
      by zero h true f = omega arith
      by zero h false f = absurd (cc)
      by (suc n) (inl h) b f = absurd (omega (arith, h))
      by (suc n) (inr h) b f = omega (arith, h)
  none_later k pos (d ∷ es) (q ∷ rs) (suc i) e r is record_is other passes =
      by (last_of_others p author (k + 1) es rs) (none_later (k + 1) (omega arith) es rs i e r is record_is other passes)
    where
      by : (n : ℕ) → k + 1 + i ≤ n → k + suc i ≤ or_other n (cond (not (is_same_author author d.author) && p q) k 0)
      by zero h = absurd (omega (arith, h))
      by (suc n) h = omega (arith, h)
