-- The holders that a room keeps follow its journal.
use Rattle.std.proofs.Common.{◌≡◌, ◌+◌, ◌<◌, ◌≤◌, ◌++◌, ◌||◌, ℕ, suc, Bool, true, false, not, List, [], ◌∷◌, Option, Some, length, nat_eq, nat_lt, refl, sym, ap, subst, ◌∙◌, arith, filter, flat_map}
use Rattle.std.proofs.lemmas.List.Folds.{list_any-append}
use Rattle.room_history.specs.Prelude.{Name, Rows, Touch, rivals, footprint, IsFootprint, IsFootprint-footprint, just_one, Held, IsNext, HoldsOnly, fallen, IsFirstAfter, Entry, Undo, recorded_footprint, footprint_of_recorded, held, blocker, first_meeting, holders_of, is_work, standing, is_standing, Past, past, mapof, recorded_of, recorded_next}
use Rattle.edit_footprint.specs.Holding.{standing as stands}
use Rattle.room_interface.specs.declared.edit.Edit.{Edit as Action}
use Rattle.room_history.specs.Inner.Holders.{AreHolders}
use Rattle.room_history.proofs.Appending.{recorded-last, standing-work, standing-undo}
use Rattle.room_history.proofs.Growing.{Rise, Rise-standing_from, equal_numbers}
use Rattle.room_history.proofs.HeldEntries.{with_touches, blocker_is, earlier_stay, held-work, held-undo, is_next}
use Rattle.room_history.proofs.Holders.{holders_of-last, holders_of-without, AreRising-with_touches, IsNext-holders_of, HoldsOnly-holders_of, IsFirstAfter-holders_of}
use Rattle.room_history.proofs.RisingNumbers.{is_in, at_least, out_of_filter}

-- rising numbers are below their end
within : (s n : ℕ) (ss : List ℕ) (end : ℕ) → Rise n ss end → is_in s ss ≡ true → s < end
within s n [] end r there = absurd (cc)
within s n (x ∷ xs) end r there = by (nat_eq x s) refl there (within s (x + 1) xs end r.1)
  where
    ends : (m : ℕ) (ys : List ℕ) → Rise m ys end → m ≤ end
    ends m [] h = h
    ends m (y ∷ ys) h = let up = ends (y + 1) ys h.1 in omega (arith, up, h.0)

    by : (b : Bool) → nat_eq x s ≡ b → (b || is_in s xs) ≡ true → (is_in s xs ≡ true → s < end) → s < end
    by true e f go = let same = equal_numbers x s e in let up = ends (x + 1) xs r.1 in omega (arith, same, up)
    by false e f go = go f

or_false : (a : Bool) → (a || (false || false)) ≡ a
or_false true = refl
or_false false = refl

module _ {A : Type 0} where
  -- a room with an empty journal
  pub AreHolders-opened : (base : Rows A) → AreHolders (past base []) [] []
  AreHolders-opened base = record {
    rising = λ s e. absurd (cc);
    holders_are = refl;
  }

  -- the number of an active entry
  pub stands_within : (j : List (Entry A)) (s : ℕ) → is_standing j s ≡ true → (1 ≤ s) × (s ≤ length j)
  stands_within j s there =
      let low = at_least 1 s (standing j) (1 + length j) (Rise-standing_from 1 j) there in
      let high = within s 1 (standing j) (1 + length j) (Rise-standing_from 1 j) there in
      (low, omega (arith, high))

  module _ (p : Past A) (j : List (Entry A)) (holders : Held) (kept : AreHolders p j holders) where
    -- the first entry that the holders find after an active entry is its blocker
    pub blocker_found : (s : ℕ) (found : Option (ℕ × Name)) → is_standing j s ≡ true → IsFirstAfter holders (recorded_footprint p s) s found → found ≡ blocker p j s
    blocker_found s found there told =
        let touches = recorded_footprint p s in
        let first = IsFirstAfter-holders_of (recorded_footprint p) (standing j) kept.rising touches s (1 + length j) (kept.rising s there) (Rise-standing_from 1 j) in
        just_one holders (flat_map rivals touches) s found (blocker p j s) told
        (subst (λ (o : Option (ℕ × Name)). IsFirstAfter holders touches s o) (sym (blocker_is p j s there)) (subst (λ (h : Held). IsFirstAfter h touches s (first_meeting touches (with_touches (recorded_footprint p) (filter (nat_lt s) (standing j))))) (sym kept.holders_are) first))

    -- an active entry holds exactly the touches of its footprint
    pub holds_own : (s : ℕ) → is_standing j s ≡ true → HoldsOnly holders (recorded_footprint p s) s
    holds_own s there = subst (λ (h : Held). HoldsOnly h (recorded_footprint p s) s) (sym kept.holders_are) (HoldsOnly-holders_of (recorded_footprint p) (standing j) kept.rising s)

  module _ (base : Rows A) (j : List (Entry A)) (holders : Held) (kept : AreHolders (past base j) j holders) where
    -- the next number is greater than all that are held
    pub holders_next : IsNext holders (length j + 1)
    holders_next =
        subst (λ (h : Held). IsNext h (length j + 1)) (sym kept.holders_are)
        (IsNext-holders_of (held (past base j) j) (length j + 1) (AreRising-with_touches (recorded_footprint (past base j)) (standing j) kept.rising) (is_next base j))

    -- an entry that does an action is active, with the footprint of the action on the map
    pub AreHolders-work : (e : Entry A) (a : Action A) (holders' : Held) (touches : List Touch) → is_work e.kind ≡ true → recorded_next (past base j) e.kind ≡ recorded_of (mapof base j) a
        → touches ≡ footprint (mapof base j) a → holders' ≡ stands holders touches (length j + 1) → AreHolders (past base (j ++ e ∷ [])) (j ++ e ∷ []) holders'
    AreHolders-work e a holders' touches work records is holders_is = record {
      rising = λ s there. rises s (nat_eq (1 + length j) s) refl (sym (now_standing s) ∙ there);
      holders_are = holders_is ∙ ap (λ h. stands h touches (length j + 1)) kept.holders_are ∙ ap (λ l. stands (holders_of (held (past base j) j)) l (length j + 1)) is
          ∙ sym (holders_of-last (held (past base j) j) (length j + 1) (footprint (mapof base j) a)) ∙ ap holders_of (sym (held-work base j e a work records));
    }
      where
        now_standing : (s : ℕ) → is_standing (j ++ e ∷ []) s ≡ (is_standing j s || (nat_eq (1 + length j) s || false))
        now_standing s = ap (is_in s) (standing-work j e work) ∙ list_any-append (λ t. nat_eq t s) (standing j) ((1 + length j) ∷ [])

        last_footprint : recorded_footprint (past base (j ++ e ∷ [])) (1 + length j) ≡ touches
        last_footprint = ap (recorded_footprint (past base (j ++ e ∷ []))) next ∙ ap footprint_of_recorded (recorded-last base j e ∙ ap Some records) ∙ sym is
          where
            next : 1 + length j ≡ suc (length j)
            next = omega arith

        touches_rise : IsFootprint touches
        touches_rise = subst IsFootprint (sym is) (IsFootprint-footprint (mapof base j) a)

        rises : (s : ℕ) (b : Bool) → nat_eq (1 + length j) s ≡ b → (is_standing j s || (b || false)) ≡ true → IsFootprint (recorded_footprint (past base (j ++ e ∷ [])) s)
        rises s true f there = subst IsFootprint (sym (ap (recorded_footprint (past base (j ++ e ∷ []))) (sym (equal_numbers (1 + length j) s f)) ∙ last_footprint)) touches_rise
        rises s false f there =
            let stood = sym (or_false (is_standing j s)) ∙ there in
            let at = stands_within j s stood in
            subst IsFootprint (sym (earlier_stay base j e s (omega (arith, at.1)))) (kept.rising s stood)

    -- the entry that an undo takes back is not active any more
    pub AreHolders-undo : (e : Entry A) (s : ℕ) (holders' : Held) → e.kind ≡ Undo s → is_standing j s ≡ true
        → holders' ≡ fallen holders s → AreHolders (past base (j ++ e ∷ [])) (j ++ e ∷ []) holders'
    AreHolders-undo e s holders' k there holders_is = record {
      rising = λ t stays. rises t (out_of_filter (λ u. not (nat_eq u s)) t (standing j) (sym (ap (is_in t) (standing-undo j e s k)) ∙ stays)).1;
      holders_are = holders_is ∙ ap (λ h. fallen h s) kept.holders_are ∙ sym (holders_of-without (held (past base j) j) s (AreRising-with_touches (recorded_footprint (past base j)) (standing j) kept.rising))
          ∙ ap holders_of (sym (held-undo base j e s k));
    }
      where
        rises : (t : ℕ) → is_standing j t ≡ true → IsFootprint (recorded_footprint (past base (j ++ e ∷ [])) t)
        rises t stood = let here = stands_within j t stood in subst IsFootprint (sym (earlier_stay base j e t (omega (arith, here.1)))) (kept.rising t stood)
