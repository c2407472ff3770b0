-- The meaning of the blocker.
use Rattle.std.proofs.Common.{◌≡◌, ◌+◌, ◌≤◌, ℕ, true, false, List, None, Some, length, nat_lt, sym, ap, subst, ◌∙◌, filter, is_lt}
use Rattle.room_history.specs.Prelude.{Name, name_cmp, Rows, Touch, IsFootprint, apart, both_have, none_lesser, first_meeting, Entry, footprint_of_recorded, recorded_footprint, blocker, Share, Blocks, standing, is_standing, past}
use Rattle.room_history.proofs.FirstMeeting.{First, none_met, first_met}
use Rattle.room_history.proofs.Growing.{Rise-standing_from}
use Rattle.room_history.proofs.HeldEntries.{with_touches, blocker_is}
use Rattle.room_history.proofs.Leading.{IsLed}
use Rattle.room_history.proofs.RisingNumbers.{is_in, above, is_above, Rise-filter, into_filter, out_of_filter}
use Rattle.room_history.proofs.Works.{one_of}

module _ {A : Type 0} (base : Rows A) (j : List (Entry A)) (s : ℕ) (stands : is_standing j s ≡ true) where
  abbrev footprint_at : ℕ → List Touch
  footprint_at = recorded_footprint (past base j)

  abbrev behind_s : List ℕ
  behind_s = filter (nat_lt s) (standing j)

  is : blocker (past base j) j s ≡ first_meeting (footprint_at s) (with_touches footprint_at behind_s)
  is = blocker_is (past base j) j s stands

  -- if there is no blocker, no entry blocks
  pub nothing_blocks : blocker (past base j) j s ≡ None → (t : ℕ) (e : Name) → Blocks base j s t e → ⊥
  nothing_blocks none t e b = apart (footprint_at s) (footprint_at t) (none_met (footprint_at s) footprint_at behind_s (sym is ∙ none) t (into_filter (nat_lt s) t (standing j) (above s t b.0) b.1)) b.2.touch b.2.rival b.2.in_one b.2.is_rival b.2.in_two

  -- the recorded footprint of an active entry rises
  pub rising : IsLed base j → IsFootprint (footprint_at s)
  rising led =
      let w = one_of (past base j).entries s (standing j) led.works led.recorded stands in
      subst IsFootprint (ap footprint_of_recorded (sym w.1)) w.0.rises

  -- the blocker blocks, no entry in front of it does, and it blocks by no lesser name
  pub record IsFirst (b : ℕ) (e : Name) : Type 0 where
    pub blocks : Blocks base j s b e
    pub none_before : (t : ℕ) (x : Name) → Blocks base j s t x → b ≤ t
    pub none_less : (x : Name) → Share base j s b x → is_lt (name_cmp x e) ≡ false

  pub first_blocks : IsLed base j → (b : ℕ) (e : Name) → blocker (past base j) j s ≡ Some (b, e) → IsFirst b e
  first_blocks led b e h = record {
    blocks = (is_above s b later.0, later.1, both_have (footprint_at s) (footprint_at b) e at.shares);
    none_before = λ t x k. at.none_before t k.2.touch k.2.rival (into_filter (nat_lt s) t (standing j) (above s t k.0) k.1) k.2.in_one k.2.is_rival k.2.in_two;
    none_less = λ x k. ap (λ y. is_lt (name_cmp y e)) (sym k.name) ∙ none_lesser (footprint_at s) (footprint_at b) e (rising led) at.shares k.touch k.rival k.in_one k.is_rival k.in_two;
  }
    where
      at : First (footprint_at s) footprint_at behind_s (b, e)
      at = first_met (footprint_at s) footprint_at 1 behind_s (1 + length j) (Rise-filter (nat_lt s) 1 (standing j) (1 + length j) (Rise-standing_from 1 j)) (b, e) (sym is ∙ h)

      later : (nat_lt s b ≡ true) × (is_in b (standing j) ≡ true)
      later = out_of_filter (nat_lt s) b (standing j) at.there
