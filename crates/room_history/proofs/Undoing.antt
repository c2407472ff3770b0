-- The facts of an accepted undo.
use Rattle.std.proofs.Common.{◌≡◌, ℕ, Bool, true, false, not, List, [], ◌∷◌, Option, Some, None, is_none, refl, option_map}
use Rattle.room_history.specs.Prelude.{then_some, Author, Entry, NotStanding, NotYours, NoSuch, first_that_holds, conflict, undo_refusal, blocker, numbered, is_by, is_standing, Past}

-- if none of four checks holds, none of the last three holds
last_three : {X : Type 0} (o p q r : Option X) → first_that_holds (o ∷ p ∷ q ∷ r ∷ []) ≡ None → (p ≡ None) × (q ≡ None) × (r ≡ None)
last_three None None None None e = (refl, refl, refl)
last_three None None None (Some x) e = absurd (cc)
last_three None None (Some x) r e = absurd (cc)
last_three None (Some x) q r e = absurd (cc)
last_three (Some x) p q r e = absurd (cc)

passed : {X : Type 0} (b : Bool) (x : X) → then_some (not b) x ≡ None → b ≡ true
passed true x e = refl
passed false x e = absurd (cc)

pub mapped_none : {X Y : Type 0} (f : X → Y) (o : Option X) → option_map f o ≡ None → o ≡ None
mapped_none f None e = refl
mapped_none f (Some x) e = absurd (cc)

module _ {A : Type 0} where
  -- the entry is the author's and active, and nothing blocks it
  pub record Found (p : Past A) (j : List (Entry A)) (author : Author) (s : ℕ) : Type 0 where
    pub own : is_by author (numbered j s) ≡ true
    pub there : is_standing j s ≡ true
    pub free : blocker p j s ≡ None

  pub found : (p : Past A) (j : List (Entry A)) (author : Author) (s : ℕ) → undo_refusal p j author s ≡ None → Found p j author s
  found p j author s e =
      let three = last_three (then_some (is_none (numbered j s)) NoSuch) (then_some (not (is_by author (numbered j s))) NotYours) (then_some (not (is_standing j s)) NotStanding) (option_map conflict (blocker p j s)) e in
      record { own = passed (is_by author (numbered j s)) NotYours three.0; there = passed (is_standing j s) NotStanding three.1; free = mapped_none conflict (blocker p j s) three.2 }
