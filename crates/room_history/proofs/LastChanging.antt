-- The last entries of others that changed a touch, from its last changes.
use Rattle.std.proofs.Common.{◌≡◌, ◌&&◌, ◌+◌, ◌<◌, ℕ, suc, Bool, true, false, not, List, [], ◌∷◌, Some, nat_eq, slice_get, map, refl, cond, sym, ap, ◌∙◌, arith}
use Rattle.std.proofs.lemmas.Bool.Decides.{nat_tests}
use Rattle.room_history.specs.Prelude.{is_same_author, same_texts, Author, Entry, Recorded, Touch, does, is_by, numbered}
use Rattle.room_history.specs.declared.changers.LastChange.{LastChange}
use Rattle.room_history.specs.Inner.Changers.{written_by, by_another, changed_again, last_changes}
use Rattle.room_history.proofs.LastOfOthers.{or_other, or_other_assoc, nothing_new, first_kept, last_of_others}

module _ {A : Type 0} where
  -- the entries es are those of the journal from number k on
  abbrev pub AreFromNumber : List (Entry A) → ℕ → List (Entry A) → Type 0
  AreFromNumber j k es = (i : ℕ) → numbered j (k + i) ≡ slice_get es i

  next_number : (j : List (Entry A)) (k : ℕ) (e : Entry A) (es : List (Entry A)) → AreFromNumber j k (e ∷ es) → AreFromNumber j (k + 1) es
  next_number j k e es from i = ap (numbered j) (let same : k + 1 + i ≡ k + suc i = omega arith in same) ∙ from (suc i)

  module _ (j : List (Entry A)) (author : Author) (t : Touch) where
    abbrev pub writes : Recorded A → Bool
    writes r = does (map written_by r.changes) t

    -- one more entry
    again : (k : ℕ) → 0 < k → (e : Entry A) → numbered j k ≡ Some e → (c : LastChange) → c.last < k
        → by_another j author (changed_again j e.author k c) ≡ or_other (cond (not (is_same_author author e.author) && true) k 0) (by_another j author c)
    again k pos e is c low =
        ap (λ b. by_another j author (cond b c (record { last = k; before = by_another j e.author c }))) (let new : nat_eq c.last k ≡ false = grind (arith, nat_tests) in new)
        ∙ ap (λ o. cond (is_by author o) (by_another j e.author c) k) is
        ∙ by (is_same_author author e.author) refl
      where
        by : (b : Bool) → is_same_author author e.author ≡ b → cond b (by_another j e.author c) k ≡ or_other (cond (not b && true) k 0) (by_another j author c)
        by true same = ap (λ a. by_another j a c) (sym (same_texts author e.author same))
        by false same = sym (first_kept k (by_another j author c) pos)

    -- from the last changes of a touch after the entries es, the last by another author
    abbrev pub Onward : ℕ → List (Entry A) → List (Recorded A) → Type 0
    Onward k es rs = (c : LastChange) → c.last < k → by_another j author (last_changes j t k es rs c) ≡ or_other (last_of_others writes author k es rs) (by_another j author c)

    pub from_changes : (k : ℕ) → 0 < k → (es : List (Entry A)) (rs : List (Recorded A)) → AreFromNumber j k es → Onward k es rs
    from_changes k pos [] rs from c low = refl
    from_changes k pos (e ∷ es) [] from c low = refl
    from_changes k pos (e ∷ es) (r ∷ rs) from c low = by (from_changes (k + 1) (omega arith) es rs (next_number j k e es from)) (writes r) refl
      where
        is : numbered j k ≡ Some e
        is = ap (numbered j) (let same : k ≡ k + 0 = omega arith in same) ∙ from 0

        own : ℕ
        own = cond (not (is_same_author author e.author) && writes r) k 0

        later : Onward (k + 1) es rs → (d : LastChange) → d.last < k + 1 → by_another j author d ≡ or_other own (by_another j author c)
            → by_another j author (last_changes j t (k + 1) es rs d) ≡ or_other (or_other (last_of_others writes author (k + 1) es rs) own) (by_another j author c)
        later rest d high e1 = rest d high
            ∙ ap (or_other (last_of_others writes author (k + 1) es rs)) e1
            ∙ or_other_assoc (last_of_others writes author (k + 1) es rs) own (by_another j author c)

        by : Onward (k + 1) es rs → (b : Bool) → writes r ≡ b → by_another j author (last_changes j t (k + 1) es rs (cond (writes r) (changed_again j e.author k c) c))
            ≡ or_other (or_other (last_of_others writes author (k + 1) es rs) own) (by_another j author c)
        by rest true w = ap (λ b. by_another j author (last_changes j t (k + 1) es rs (cond b (changed_again j e.author k c) c))) w
            ∙ later rest (changed_again j e.author k c) (recent (nat_eq c.last k)) (again k pos e is c low ∙ ap (λ b. or_other (cond (not (is_same_author author e.author) && b) k 0) (by_another j author c)) (sym w))
          where
            recent : (b : Bool) → (cond b c (record { last = k; before = by_another j e.author c })).last < k + 1
            recent true = omega (arith, low)
            recent false = omega arith
        by rest false w = ap (λ b. by_another j author (last_changes j t (k + 1) es rs (cond b (changed_again j e.author k c) c))) w
            ∙ later rest c (omega (arith, low)) (sym (ap (λ b. or_other (cond b k 0) (by_another j author c)) (ap (λ b. not (is_same_author author e.author) && b) w ∙ nothing_new (not (is_same_author author e.author)))))
