-- The active entries with their footprints: which of them blocks an entry, and how they follow a growing journal.
use Rattle.std.proofs.Common.{◌≡◌, ◌+◌, ◌<◌, ◌≤◌, ◌++◌, ◌||◌, ℕ, suc, Bool, true, false, not, List, [], ◌∷◌, Option, Some, None, All, length, map, nat_eq, nat_lt, unwrap_or, refl, cond, sym, ap, ◌∙◌, arith, filter, option_map, nat_cmp}
use Rattle.std.proofs.lemmas.List.{map-append}
use Rattle.std.proofs.lemmas.List.Elements.{All-cons}
use Rattle.room_history.specs.Prelude.{option_or, find, Name, Rows, Touch, tied, footprint, meets, Holdings, behind, first_meeting, without, Entry, Undo, footprint_of_recorded, recorded_footprint, held, blocker, is_work, standing, is_standing, Past, past, mapof, recorded_of, recorded_next}
use Rattle.room_interface.specs.declared.edit.Edit.{Edit as Action}
use Rattle.room_history.proofs.Appending.{past-append, recorded_each, recorded-last, standing-work, standing-undo}
use Rattle.room_history.proofs.Chains.{Work, touched, IsApart}
use Rattle.room_history.proofs.Growing.{numbered_within, Rise, Rise-standing_from, equal_numbers}
use Rattle.room_history.proofs.RisingNumbers.{is_in, below_end}
use Rattle.room_history.proofs.Works.{IsRecorded, AreRecorded}

module _ (f : ℕ → List Touch) where
  -- numbers, each with its footprint
  abbrev pub with_touches : List ℕ → Holdings
  with_touches ss = map (λ s. (s, f s)) ss

  found_there : (s : ℕ) (ss : List ℕ) → is_in s ss ≡ true → find nat_cmp s (with_touches ss) ≡ Some (f s)
  found_there s [] h = absurd (cc)
  found_there s (x ∷ xs) h = ap (λ b. cond b (Some (f x)) (find nat_cmp s (with_touches xs))) (tied s x) ∙ by (nat_eq x s) refl h (found_there s xs)
    where
      by : (b : Bool) → nat_eq x s ≡ b → (b || is_in s xs) ≡ true → (is_in s xs ≡ true → find nat_cmp s (with_touches xs) ≡ Some (f s)) → cond b (Some (f x)) (find nat_cmp s (with_touches xs)) ≡ Some (f s)
      by true e h go = ap (λ t. Some (f t)) (equal_numbers x s e)
      by false e h go = go h

  behind_is : (s : ℕ) (ss : List ℕ) → behind (with_touches ss) s ≡ with_touches (filter (nat_lt s) ss)
  behind_is s [] = refl
  behind_is s (x ∷ xs) = by (nat_lt s x) (behind_is s xs)
    where
      by : (b : Bool) → behind (with_touches xs) s ≡ with_touches (filter (nat_lt s) xs) → cond b ((x, f x) ∷ behind (with_touches xs) s) (behind (with_touches xs) s) ≡ with_touches (cond b (x ∷ filter (nat_lt s) xs) (filter (nat_lt s) xs))
      by true h = ap (λ l. (x, f x) ∷ l) h
      by false h = h

  without_is : (s : ℕ) (ss : List ℕ) → without (with_touches ss) s ≡ with_touches (filter (λ t. not (nat_eq t s)) ss)
  without_is s [] = refl
  without_is s (x ∷ xs) = by (nat_eq x s) (without_is s xs)
    where
      by : (b : Bool) → without (with_touches xs) s ≡ with_touches (filter (λ t. not (nat_eq t s)) xs)
          → cond (not b) ((x, f x) ∷ without (with_touches xs) s) (without (with_touches xs) s) ≡ with_touches (cond (not b) (x ∷ filter (λ t. not (nat_eq t s)) xs) (filter (λ t. not (nat_eq t s)) xs))
      by true h = h
      by false h = ap (λ l. (x, f x) ∷ l) h

  all_below : (n m : ℕ) (ss : List ℕ) (end : ℕ) → Rise m ss end → end ≤ n → All (λ h. h.0 < n) (with_touches ss)
  all_below n m [] end r h = λ k d w. absurd (omega arith)
  all_below n m (x ∷ xs) end r h = All-cons (λ h. h.0 < n) _ _ (below_end n x xs end r.1 h) (all_below n (x + 1) xs end r.1 h)

-- numbers below an end get the same footprints from two functions that agree there
same_below : (f g : ℕ → List Touch) (n m : ℕ) (ss : List ℕ) (end : ℕ) → Rise m ss end → end ≤ n → ((t : ℕ) → t < n → g t ≡ f t) → with_touches g ss ≡ with_touches f ss
same_below f g n m [] end r h same = refl
same_below f g n m (x ∷ xs) end r h same = (λ i. (x, same x (below_end n x xs end r.1 h) i) ∷ same_below f g n (x + 1) xs end r.1 h same i)

module _ {A : Type 0} where
  -- the blocker of an active entry
  pub blocker_is : (p : Past A) (j : List (Entry A)) (s : ℕ) → is_standing j s ≡ true → blocker p j s ≡ first_meeting (recorded_footprint p s) (with_touches (recorded_footprint p) (filter (nat_lt s) (standing j)))
  blocker_is p j s stands =
      ap (λ o. first_meeting (unwrap_or o []) (behind (held p j) s)) (found_there (recorded_footprint p) s (standing j) stands)
      ∙ ap (first_meeting (recorded_footprint p s)) (behind_is (recorded_footprint p) s (standing j))

  -- the recorded footprint of a work is that of its entry
  footprint_is : (p : Past A) (s : ℕ) (w : Work A) → IsRecorded p.entries s w → recorded_footprint p s ≡ touched w
  footprint_is p s w h = ap footprint_of_recorded h

  -- if no later entry meets a work, it meets none of the later works
  pub is_apart : (p : Past A) (s : ℕ) (w : Work A) (later : List ℕ) (ws : List (Work A)) → IsRecorded p.entries s w → AreRecorded p.entries later ws
      → first_meeting (recorded_footprint p s) (with_touches (recorded_footprint p) later) ≡ None → IsApart w ws
  is_apart p s w [] [] is are none = tt
  is_apart p s w [] (v ∷ vs) is are none = absurd are
  is_apart p s w (t ∷ ts) [] is are none = absurd are
  is_apart p s w (t ∷ ts) (v ∷ vs) is are none = by (meets (recorded_footprint p s) (recorded_footprint p t)) refl none (is_apart p s w ts vs is are.1)
    where
      rest : Option (ℕ × Name)
      rest = first_meeting (recorded_footprint p s) (with_touches (recorded_footprint p) ts)

      by : (o : Option Name) → meets (recorded_footprint p s) (recorded_footprint p t) ≡ o → option_or (option_map (λ e. (t, e)) o) rest ≡ None → (rest ≡ None → IsApart w vs) → IsApart w (v ∷ vs)
      by None e none go = (ap (meets (touched w)) (sym (footprint_is p t v are.0)) ∙ ap (λ l. meets l (recorded_footprint p t)) (sym (footprint_is p s w is)) ∙ e, go none)
      by (Some x) e none go = absurd (cc)

module _ {A : Type 0} (base : Rows A) (j : List (Entry A)) where
  -- the records of earlier entries stay
  pub earlier_stay : (e : Entry A) (t : ℕ) → t < 1 + length j → recorded_footprint (past base (j ++ e ∷ [])) t ≡ recorded_footprint (past base j) t
  earlier_stay e t low =
      ap (λ (p : Past A). recorded_footprint p t) (past-append base j e)
      ∙ ap footprint_of_recorded (numbered_within (past base j).entries (recorded_next (past base j) e.kind) t (let same = recorded_each base j in omega (arith, low, same)))

  same_held : (e : Entry A) → with_touches (recorded_footprint (past base (j ++ e ∷ []))) (standing j) ≡ held (past base j) j
  same_held e = same_below (recorded_footprint (past base j)) (recorded_footprint (past base (j ++ e ∷ []))) (1 + length j) 1 (standing j) (1 + length j) (Rise-standing_from 1 j) (omega arith) (earlier_stay e)

  -- the next number is greater than all
  pub is_next : All (λ h. h.0 < length j + 1) (held (past base j) j)
  is_next = all_below (recorded_footprint (past base j)) (length j + 1) 1 (standing j) (1 + length j) (Rise-standing_from 1 j) (omega arith)

  -- an entry that does an action is active, with the footprint of the action on the map
  pub held-work : (e : Entry A) (a : Action A) → is_work e.kind ≡ true → recorded_next (past base j) e.kind ≡ recorded_of (mapof base j) a
      → held (past base (j ++ e ∷ [])) (j ++ e ∷ []) ≡ held (past base j) j ++ (length j + 1, footprint (mapof base j) a) ∷ []
  held-work e a work records =
      ap (with_touches f) (standing-work j e work) ∙ map-append (λ s. (s, f s)) (standing j) ((1 + length j) ∷ []) ∙ ap (λ l. l ++ (1 + length j, f (1 + length j)) ∷ []) (same_held e)
      ∙ ap (λ n. held (past base j) j ++ (1 + length j, f n) ∷ []) next ∙ ap (λ o. held (past base j) j ++ (1 + length j, footprint_of_recorded o) ∷ []) (recorded-last base j e ∙ ap Some records)
      ∙ ap (λ n. held (past base j) j ++ (n, footprint (mapof base j) a) ∷ []) number
    where
      f : ℕ → List Touch
      f = recorded_footprint (past base (j ++ e ∷ []))

      next : 1 + length j ≡ suc (length j)
      next = omega arith

      number : 1 + length j ≡ length j + 1
      number = omega arith

  -- the entry that an undo takes back is not active any more
  pub held-undo : (e : Entry A) (s : ℕ) → e.kind ≡ Undo s → held (past base (j ++ e ∷ [])) (j ++ e ∷ []) ≡ without (held (past base j) j) s
  held-undo e s k =
      ap (with_touches f) (standing-undo j e s k) ∙ sym (without_is f s (standing j)) ∙ ap (λ h. without h s) (same_held e)
    where
      f : ℕ → List Touch
      f = recorded_footprint (past base (j ++ e ∷ []))
