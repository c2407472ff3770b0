-- The first of rising entries that meets a footprint.
use Rattle.std.proofs.Common.{◌≡◌, ◌+◌, ◌≤◌, ◌||◌, ℕ, Bool, true, false, List, [], ◌∷◌, Option, Some, None, nat_eq, refl, sym, ap, subst, ◌∙◌, arith, option_map}
use Rattle.room_history.specs.Prelude.{option_or, Name, Touch, does, rivals, meets, apart, first_meeting}
use Rattle.room_history.proofs.Growing.{Rise, equal_numbers}
use Rattle.room_history.proofs.HeldEntries.{with_touches}
use Rattle.room_history.proofs.RisingNumbers.{is_in, itself, or_else, at_least}

module _ (touches : List Touch) (f : ℕ → List Touch) where
  -- if none is found, no entry meets the footprint
  pub none_met : (ss : List ℕ) → first_meeting touches (with_touches f ss) ≡ None → (t : ℕ) → is_in t ss ≡ true → meets touches (f t) ≡ None
  none_met [] none t i = absurd (cc)
  none_met (s ∷ ss) none t i = by (meets touches (f s)) refl none (nat_eq s t) refl i (λ n k. none_met ss n t k)
    where
      by : (o : Option Name) → meets touches (f s) ≡ o → option_or (option_map (λ e. (s, e)) o) (first_meeting touches (with_touches f ss)) ≡ None → (a : Bool) → nat_eq s t ≡ a → (a || is_in t ss) ≡ true
          → (first_meeting touches (with_touches f ss) ≡ None → is_in t ss ≡ true → meets touches (f t) ≡ None) → meets touches (f t) ≡ None
      by None e n true g i go = ap (λ u. meets touches (f u)) (sym (equal_numbers s t g)) ∙ e
      by None e n false g i go = go n i
      by (Some x) e n a g i go = absurd (cc)

  -- the first of rising entries that meets the footprint
  pub record First (ss : List ℕ) (b : ℕ × Name) : Type 0 where
    pub there : is_in b.0 ss ≡ true
    pub shares : meets touches (f b.0) ≡ Some b.1
    pub none_before : (t : ℕ) (c d : Touch) → is_in t ss ≡ true → does touches c ≡ true → does (rivals c) d ≡ true → does (f t) d ≡ true → b.0 ≤ t

  pub first_met : (n : ℕ) (ss : List ℕ) (end : ℕ) → Rise n ss end → (b : ℕ × Name) → first_meeting touches (with_touches f ss) ≡ Some b → First ss b
  first_met n [] end r b h = absurd (cc)
  first_met n (s ∷ ss) end r b h = by (meets touches (f s)) refl h (first_met (s + 1) ss end r.1 b)
    where
      or_b : Option (ℕ × Name) → ℕ × Name
      or_b None = b
      or_b (Some q) = q

      here : (y : Name) → meets touches (f s) ≡ Some y → First (s ∷ ss) (s, y)
      here y e = record {
        there = ap (λ a. a || is_in s ss) (itself s);
        shares = e;
        none_before = λ t c d i one rival two. at_least s t (s ∷ ss) end (omega arith, r.1) i;
      }

      by : (o : Option Name) → meets touches (f s) ≡ o → option_or (option_map (λ e. (s, e)) o) (first_meeting touches (with_touches f ss)) ≡ Some b → (first_meeting touches (with_touches f ss) ≡ Some b → First ss b) → First (s ∷ ss) b
      by (Some y) e h go = subst (First (s ∷ ss)) (ap or_b h) (here y e)
      by None e h go =
          let rest = go h in
          record {
            there = or_else (nat_eq s b.0) (is_in b.0 ss) rest.there;
            shares = rest.shares;
            none_before = λ t c d i one rival two. later t c d one rival two (nat_eq s t) refl i (rest.none_before t c d);
          }
        where
          later : (t : ℕ) (c d : Touch) → does touches c ≡ true → does (rivals c) d ≡ true → does (f t) d ≡ true → (a : Bool) → nat_eq s t ≡ a → (a || is_in t ss) ≡ true
              → (is_in t ss ≡ true → does touches c ≡ true → does (rivals c) d ≡ true → does (f t) d ≡ true → b.0 ≤ t) → b.0 ≤ t
          later t c d one rival two true g i go = absurd (apart touches (f t) (ap (λ u. meets touches (f u)) (sym (equal_numbers s t g)) ∙ e) c d one rival two)
          later t c d one rival two false g i go = go i one rival two
