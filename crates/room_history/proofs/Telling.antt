-- The news of entries, collected in order.
use Rattle.std.proofs.Common.{◌≡◌, ◌+◌, ◌<◌, ◌≤◌, ◌++◌, ℕ, zero, suc, List, [], ◌∷◌, length, drop, refl, get_or, sym, ap, ◌∙◌, append_assoc, append-nil, arith}
use Rattle.room_history.specs.Prelude.{Entry, Effect, News, Rows, Recorded, past}
use Rattle.osm_changes.specs.Changes.{changed}
use Rattle.room_history.specs.Inner.Telling.{kept_from, kept, told_of, told_from}
use Rattle.room_history.proofs.Appending.{recorded_each}

module _ {A : Type 0} where
  -- the next news
  next_told : (n i : ℕ) (es : List (Entry A)) (ks : List (Effect A)) (d : Entry A) (other : Effect A) → i < length es → length ks ≡ length es
      → drop i (told_from n es ks) ≡ told_of (n + i) (get_or es i d) (get_or ks i other) ∷ drop (i + 1) (told_from n es ks)
  next_told n i [] ks d other l same = absurd (omega (arith, l))
  next_told n i (e ∷ es) [] d other l same = absurd (omega (arith, same))
  next_told n zero (e ∷ es) (c ∷ ks) d other l same = let here : n ≡ n + 0 = omega arith in ap (λ k. told_of k e c ∷ told_from (n + 1) es ks) here
  next_told n (suc i) (e ∷ es) (c ∷ ks) d other l same =
      let number : (n + 1) + i ≡ n + suc i = omega arith in
      let place : suc i + 1 ≡ suc (i + 1) = omega arith in
      next_told (n + 1) i es ks d other (omega (arith, l)) (omega (arith, same))
      ∙ ap (λ k. told_of k (get_or es i d) (get_or ks i other) ∷ drop (i + 1) (told_from (n + 1) es ks)) number
      ∙ ap (λ k. told_of (n + suc i) (get_or es i d) (get_or ks i other) ∷ drop k (told_from n (e ∷ es) (c ∷ ks))) (sym place)

  -- the collected news, one more, and the remaining news
  pub one_more_told : (i : ℕ) (es : List (Entry A)) (ks : List (Effect A)) (told all : List (News A)) (e d : Entry A) (c other : Effect A) (new : News A) → i < length es → length ks ≡ length es
      → e ≡ get_or es i d → c ≡ get_or ks i other → new ≡ told_of (i + 1) e c
      → told ++ drop i (told_from 1 es ks) ≡ all → (told ++ new ∷ []) ++ drop (i + 1) (told_from 1 es ks) ≡ all
  one_more_told i es ks told all e d c other new l same entry changes is before =
      let number : 1 + i ≡ i + 1 = omega arith in
      append_assoc told (new ∷ []) (drop (i + 1) (told_from 1 es ks))
      ∙ ap (λ x. told ++ x ∷ drop (i + 1) (told_from 1 es ks)) (is ∙ (λ k. told_of (i + 1) (entry k) (changes k)) ∙ ap (λ k. told_of k (get_or es i d) (get_or ks i other)) (sym number))
      ∙ ap (λ rest. told ++ rest) (sym (next_told 1 i es ks d other l same)) ∙ before

  none_left : (n i : ℕ) (es : List (Entry A)) (ks : List (Effect A)) → length es ≤ i → drop i (told_from n es ks) ≡ []
  none_left n zero [] ks l = refl
  none_left n (suc i) [] ks l = refl
  none_left n zero (e ∷ es) ks l = absurd (omega (arith, l))
  none_left n (suc i) (e ∷ es) [] l = refl
  none_left n (suc i) (e ∷ es) (c ∷ ks) l = none_left (n + 1) i es ks (omega (arith, l))

  -- all news are collected
  pub all_told : (i : ℕ) (es : List (Entry A)) (ks : List (Effect A)) (told all : List (News A)) → length es ≤ i → told ++ drop i (told_from 1 es ks) ≡ all → told ≡ all
  all_told i es ks told all l before = sym (append-nil told) ∙ ap (λ rest. told ++ rest) (sym (none_left 1 i es ks l)) ∙ before

  kept_of_all : (m : Rows A) (rs : List (Recorded A)) → length (kept_from m rs) ≡ length rs
  kept_of_all m [] = refl
  kept_of_all m (r ∷ rs) = let rest = kept_of_all (changed m r.changes) rs in omega (arith, rest)

  -- each entry has a kept effect
  pub kept_of_each : (base : Rows A) (j : List (Entry A)) → length (kept base j) ≡ length j
  kept_of_each base j = kept_of_all base (past base j).entries ∙ recorded_each base j
