-- The lists of numbers after an entry becomes active or ceases to be.
use Rattle.std.proofs.Common.{◌≡◌, ◌&&◌, ◌||◌, ℕ, Result, Ok, Err, OnErr, Bool, true, false, not, cond, List, [], ◌∷◌, ◌++◌, refl, sym, ap, ◌∙◌, arith, is_eq, nat_cmp}
use Rattle.std.proofs.lemmas.Cmp.{nat_cmp_total}
use Rattle.edit_footprint.specs.Prelude.{nat_cmp-IsAntisymmetric, Touch, touch_cmp, does, IsFootprint, touch_cmp_total, touch_cmp-IsAntisymmetric, but, AreLists, Gains, Lacks, Loses, SameLists, same_rising, IsRising-but, is_among-but, IsTable-lists, same_holders, holding-standing, AreHeld-standing, holding-fallen, AreHeld-fallen, AreBelow, IsRising-last, is_among-last, same_number, Held, IsNext, HoldsOnly, fallen, holding, holds, standing}
use Rattle.rising_lists.specs.Rising.{is_among}
use Rattle.rising_lists.specs.Facts.Tables.{same_lists}
use Rattle.rising_lists.specs.Rising as rising

same_numbers : (xs ys : List ℕ) → rising.IsRising nat_cmp xs → rising.IsRising nat_cmp ys → ((n : ℕ) → is_among nat_cmp xs n ≡ is_among nat_cmp ys n) → xs ≡ ys
same_numbers = same_rising nat_cmp nat_cmp_total nat_cmp-IsAntisymmetric

-- lists with the same content are the same holders
pub same_held : (before after : Held) → AreLists touch_cmp nat_cmp before → AreLists touch_cmp nat_cmp after → SameLists touch_cmp nat_cmp before after → after ≡ before
same_held before after h k same = same_lists touch_cmp touch_cmp_total touch_cmp-IsAntisymmetric nat_cmp_total nat_cmp-IsAntisymmetric before after h k same

module _ (before after : Held) (touches : List Touch) (seq : ℕ) where
  -- no touch has the number that comes next
  pub lacks_next : IsNext before seq → Lacks touch_cmp nat_cmp before touches seq
  lacks_next next c n = by (does touches c) (is_eq (nat_cmp n seq)) refl (holds before c n) refl
    where
      by : (a b : Bool) → is_eq (nat_cmp n seq) ≡ b → (d : Bool) → holds before c n ≡ d → ((a && b) && d) ≡ false
      by true true e true f = let same = same_number n seq e in let below = next c n f in absurd (omega (arith, same, below))
      by true true e false f = refl
      by true false e d f = refl
      by false b e d f = refl

  module _ (h : AreLists touch_cmp nat_cmp before) (k : AreLists touch_cmp nat_cmp after) where
    values_gained : ((c : Touch) → AreBelow (holding before c) seq) → Gains touch_cmp nat_cmp before after touches seq → (c : Touch) → holding after c ≡ cond (does touches c) (holding before c ++ seq ∷ []) (holding before c)
    values_gained next gains c = by (does touches c) (gains c)
      where
        by : (b : Bool) → ((n : ℕ) → holds after c n ≡ ((b && is_eq (nat_cmp n seq)) || holds before c n)) → holding after c ≡ cond b (holding before c ++ seq ∷ []) (holding before c)
        by true g =
            same_numbers (holding after c) (holding before c ++ seq ∷ []) (k.rising c) (IsRising-last seq (holding before c) (next c) (h.rising c))
            (λ n. g n ∙ sym (is_among-last seq (holding before c) n))
        by false g = same_numbers (holding after c) (holding before c) (k.rising c) (h.rising c) g

    -- an entry becomes active
    pub stands : IsFootprint touches → IsNext before seq → Gains touch_cmp nat_cmp before after touches seq → after ≡ standing before touches seq
    stands rises next gains =
        same_holders after (standing before touches seq) (IsTable-lists touch_cmp touch_cmp_total after k) (AreHeld-standing before touches seq (IsTable-lists touch_cmp touch_cmp_total before h))
        (λ c. values_gained (λ c n there. next c n there) gains c ∙ sym (holding-standing before touches seq c rises))

    values_lost : HoldsOnly before touches seq → Loses touch_cmp nat_cmp before after touches seq → (c : Touch) → holding after c ≡ but nat_cmp seq (holding before c)
    values_lost only loses c =
        same_numbers (holding after c) (but nat_cmp seq (holding before c)) (k.rising c) (IsRising-but nat_cmp seq (holding before c) (h.rising c))
        (λ n. loses c n ∙ by n (does touches c) refl (is_eq (nat_cmp n seq)) refl ∙ sym (is_among-but nat_cmp nat_cmp_total seq (holding before c) n))
      where
        held_here : (n : ℕ) → n ≡ seq → does touches c ≡ false → (b : Bool) → holds before c n ≡ b → b ≡ false
        held_here n e out true there = absurd (cc (sym out ∙ only c (ap (holds before c) (sym e) ∙ there)))
        held_here n e out false there = refl

        by : (n : ℕ) (a : Bool) → does touches c ≡ a → (b : Bool) → is_eq (nat_cmp n seq) ≡ b → (not (a && b) && holds before c n) ≡ (not b && holds before c n)
        by n true e b f = refl
        by n false e true f = held_here n (same_number n seq f) e (holds before c n) refl
        by n false e false f = refl

    -- an entry ceases to be active
    pub falls : HoldsOnly before touches seq → Loses touch_cmp nat_cmp before after touches seq → after ≡ fallen before seq
    falls only loses =
        same_holders after (fallen before seq) (IsTable-lists touch_cmp touch_cmp_total after k) (AreHeld-fallen before seq h.in_order)
        (λ c. values_lost only loses c ∙ sym (holding-fallen before seq c h.in_order))

pub on_err : {X E P : Type 0} (r : Result X E) → P → OnErr r P
on_err (Ok x) p = tt
on_err (Err e) p = p
