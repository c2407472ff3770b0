-- The first entries of a journal are a journal.
use Rattle.std.proofs.Common.{◌≡◌, ◌⊎◌, ◌+◌, ◌≤◌, ◌++◌, ℕ, zero, suc, Bool, true, false, List, [], ◌∷◌, length, nat_le, take, refl, inl, inr, length-append, sym, ap, subst, ◌∙◌, arith}
use Rattle.std.proofs.lemmas.Bool.Decides.{nat_tests}
use Rattle.std.proofs.lemmas.List.{take-append-le}
use Rattle.room_history.specs.Prelude.{Rows, Entry, Reply, answer, IsJournal, opened, called}
use Rattle.room_history.proofs.Outcomes.{Appended, Left, outcome}

take_of_none : {X : Type 0} (n : ℕ) → take {A = X} n [] ≡ []
take_of_none zero = refl
take_of_none (suc n) = refl

take_all : {X : Type 0} (n : ℕ) (xs : List X) → length xs ≤ n → take n xs ≡ xs
take_all n [] l = take_of_none n
take_all zero (x ∷ xs) l = absurd (omega (arith, l))
take_all (suc n) (x ∷ xs) l = ap (λ rest. x ∷ rest) (take_all n xs (omega (arith, l)))

module _ {A : Type 0} (base : Rows A) (limit : ℕ) where
  pub first_entries : (j : List (Entry A)) → IsJournal base limit j → (n : ℕ) → IsJournal base limit (take n j)
  first_entries j opened n = subst (IsJournal base limit) (sym (take_of_none n)) opened
  first_entries j (called i c before made) n = by (outcome base limit i c) (first_entries i before n)
    where
      next : List (Entry A)
      next = (answer base limit i c).1

      taken : (e : Entry A) → next ≡ i ++ e ∷ [] → (b : Bool) → nat_le n (length i) ≡ b → IsJournal base limit (take n i) → IsJournal base limit (take n next)
      taken e is true short front =
          let l : n ≤ length i = grind (arith, nat_tests) in
          subst (IsJournal base limit) (sym (ap (take n) is ∙ take-append-le n i (e ∷ []) l)) front
      taken e is false long front =
          let longer : length (i ++ e ∷ []) ≡ length i + 1 = length-append i (e ∷ []) in
          let l : length (i ++ e ∷ []) ≤ n = grind (arith, nat_tests) in
          let whole : length next ≤ n = subst (λ k. length k ≤ n) (sym is) l in
          subst (IsJournal base limit) (sym (take_all n next whole)) (called i c before made)

      by : Appended base i c (answer base limit i c) ⊎ Left i (answer base limit i c) → IsJournal base limit (take n i) → IsJournal base limit (take n next)
      by (inl a) front = taken (record { author = c.author; id = c.id; kind = a.kind }) (ap (λ (p : Reply A × List (Entry A)). p.1) a.is) (nat_le n (length i)) refl front
      by (inr l) front = subst (λ k. IsJournal base limit (take n k)) (sym l.same) front
