-- The last changes of a touch after one more entry.
use Rattle.std.proofs.Common.{◌≡◌, ◌+◌, ◌++◌, ◌≤◌, ℕ, suc, Bool, true, false, List, [], ◌∷◌, length, nat_eq, map, refl, cond, ap, ◌∙◌, arith}
use Rattle.edit_footprint.specs.Touches.{Touch, does}
use Rattle.room_history.specs.Prelude.{Author, Entry, Recorded, is_by}
use Rattle.room_history.specs.declared.changers.LastChange.{LastChange}
use Rattle.room_history.specs.Inner.Changers.{by_another, changed_again, last_changes, never, written_by}
use Rattle.room_history.proofs.Growing.{numbered_within}

module _ {A : Type 0} where
  -- the last changes after one more entry, with its record
  one_more : (j : List (Entry A)) (t : Touch) (k : ℕ) (es : List (Entry A)) (rs : List (Recorded A)) (e : Entry A) (r : Recorded A) (c : LastChange) → length es ≡ length rs
      → last_changes j t k (es ++ e ∷ []) (rs ++ r ∷ []) c ≡ cond (does (map written_by r.changes) t) (changed_again j e.author (k + length es) (last_changes j t k es rs c)) (last_changes j t k es rs c)
  one_more j t k [] [] e r c s = ap (λ n. cond (does (map written_by r.changes) t) (changed_again j e.author n c) c) (let same : k ≡ k + 0 = omega arith in same)
  one_more j t k [] (q ∷ rs) e r c s = absurd (omega (arith, s))
  one_more j t k (d ∷ es) [] e r c s = absurd (omega (arith, s))
  one_more j t k (d ∷ es) (q ∷ rs) e r c s =
      let next : LastChange = cond (does (map written_by q.changes) t) (changed_again j d.author k c) c in
      one_more j t (k + 1) es rs e r next (omega (arith, s))
      ∙ ap (λ n. cond (does (map written_by r.changes) t) (changed_again j e.author n (last_changes j t (k + 1) es rs next)) (last_changes j t (k + 1) es rs next)) (let same : k + 1 + length es ≡ k + suc (length es) = omega arith in same)

  module _ (j : List (Entry A)) (y : Entry A) where
    same_another : (author : Author) (c : LastChange) → c.last ≤ length j → by_another (j ++ y ∷ []) author c ≡ by_another j author c
    same_another author c low = ap (λ o. cond (is_by author o) c.before c.last) (numbered_within j y c.last low)

    same_again : (author : Author) (k : ℕ) (c : LastChange) → c.last ≤ length j → changed_again (j ++ y ∷ []) author k c ≡ changed_again j author k c
    same_again author k c low = ap (λ n. cond (nat_eq c.last k) c (record { last = k; before = n })) (same_another author c low)

    within : (w : Bool) (author : Author) (k : ℕ) (c : LastChange) → c.last ≤ length j → k ≤ length j → (cond w (changed_again j author k c) c).last ≤ length j
    within false author k c low high = low
    within true author k c low high = by (nat_eq c.last k)
      where
        by : (b : Bool) → (cond b c (record { last = k; before = by_another j author c })).last ≤ length j
        by true = low
        by false = high

    -- a later entry changes nothing of these
    pub grown : (t : Touch) (k : ℕ) (es : List (Entry A)) (rs : List (Recorded A)) (c : LastChange) → c.last ≤ length j → k + length es ≤ length j + 1
        → last_changes (j ++ y ∷ []) t k es rs c ≡ last_changes j t k es rs c
    grown t k [] rs c low high = refl
    grown t k (e ∷ es) [] c low high = refl
    grown t k (e ∷ es) (r ∷ rs) c low high =
        let w : Bool = does (map written_by r.changes) t in
        ap (λ d. last_changes (j ++ y ∷ []) t (k + 1) es rs (cond w d c)) (same_again e.author k c low)
        ∙ grown t (k + 1) es rs (cond w (changed_again j e.author k c) c) (within w e.author k c low (omega (arith, high))) (omega (arith, high))

    latest : (t : Touch) (k : ℕ) (es : List (Entry A)) (rs : List (Recorded A)) (c : LastChange) → c.last ≤ length j → k + length es ≤ length j + 1 → (last_changes j t k es rs c).last ≤ length j
    latest t k [] rs c low high = low
    latest t k (e ∷ es) [] c low high = low
    latest t k (e ∷ es) (r ∷ rs) c low high =
        let w : Bool = does (map written_by r.changes) t in
        latest t (k + 1) es rs (cond w (changed_again j e.author k c) c) (within w e.author k c low (omega (arith, high))) (omega (arith, high))

    -- the last changes of a journal with one more entry are those of the journal, changed again if the entry wrote the touch
    pub appended : (t : Touch) (rs : List (Recorded A)) (r : Recorded A) → length j ≡ length rs
        → last_changes (j ++ y ∷ []) t 1 (j ++ y ∷ []) (rs ++ r ∷ []) never
        ≡ cond (does (map written_by r.changes) t) (changed_again j y.author (length j + 1) (last_changes j t 1 j rs never)) (last_changes j t 1 j rs never)
    appended t rs r s =
        one_more (j ++ y ∷ []) t 1 j rs y r never s
        ∙ ap (λ d. cond (does (map written_by r.changes) t) (changed_again (j ++ y ∷ []) y.author (1 + length j) d) d) (grown t 1 j rs never (omega arith) (omega arith))
        ∙ ap (λ d. cond (does (map written_by r.changes) t) d (last_changes j t 1 j rs never)) (same_again y.author (1 + length j) (last_changes j t 1 j rs never) (latest t 1 j rs never (omega arith) (omega arith)))
        ∙ ap (λ n. cond (does (map written_by r.changes) t) (changed_again j y.author n (last_changes j t 1 j rs never)) (last_changes j t 1 j rs never)) (let same : 1 + length j ≡ length j + 1 = omega arith in same)
