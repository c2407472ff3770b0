-- The entry that an undo asks for, and its refusal.
use Rattle.std.proofs.Common.{◌≡◌, ℕ, Bool, true, false, not, List, [], ◌∷◌, Option, Some, None, Ok, Err, is_none, refl, Result, IfErr, ◌⊎◌, sym, ap, ◌∙◌, inr, IsErr, IsErrAnd, option_map}
use Rattle.room_history.specs.Prelude.{then_some, Name, first_that_holds, Held, IsFirstAfter, Author, Entry, Reply, Memory, NoSuch, NotYours, NotStanding, conflict, undo_refusal, recorded_footprint, blocker, numbered, is_by, is_standing, Past}
use Rattle.room_history.specs.Inner.Holders.{AreHolders}
use Rattle.room_history.specs.Inner.Undoing.{undone_or, asked_or, standing_refusal}
use Rattle.room_history.proofs.KeptHolders.{blocker_found}

-- a refusal that is passed on
pub refused_on : {A X : Type 0} (r : Result X (Reply A)) (q : Reply A) (chosen : Result ℕ (Reply A)) → IsErr r → IsErrAnd r (λ f. f ≡ q) → Err q ≡ chosen → IfErr r (λ f. (f ≡ Memory) ⊎ (Err f ≡ chosen))
refused_on (Ok x) q chosen err same is = absurd (cc)
refused_on (Err f) q chosen err same is = inr (ap Err same ∙ is)

-- if none of the first three checks holds, the fourth decides
fourth : {X : Type 0} (o p q r : Option X) → first_that_holds (o ∷ p ∷ q ∷ []) ≡ None → first_that_holds (o ∷ p ∷ q ∷ r ∷ []) ≡ r
fourth None None None None e = refl
fourth None None None (Some x) e = refl
fourth None None (Some x) r e = absurd (cc)
fourth None (Some x) q r e = absurd (cc)
fourth (Some x) p q r e = absurd (cc)

-- otherwise the first of the three that holds decides
sooner : {X : Type 0} (o p q r : Option X) (x : X) → first_that_holds (o ∷ p ∷ q ∷ []) ≡ Some x → first_that_holds (o ∷ p ∷ q ∷ r ∷ []) ≡ Some x
sooner None None None r x e = absurd (cc)
sooner None None (Some y) r x e = e
sooner None (Some y) q r x e = e
sooner (Some y) p q r x e = e

third : {X : Type 0} (o p q : Option X) → first_that_holds (o ∷ p ∷ q ∷ []) ≡ None → q ≡ None
third None None None e = refl
third None None (Some x) e = absurd (cc)
third None (Some x) q e = absurd (cc)
third (Some x) p q e = absurd (cc)

passed : {X : Type 0} (b : Bool) (x : X) → then_some (not b) x ≡ None → b ≡ true
passed true x e = refl
passed false x e = absurd (cc)

there : {A : Type 0} (author : Author) (o : Option (Entry A)) → is_by author o ≡ true → is_none o ≡ false
there author None h = absurd (cc)
there author (Some e) h = refl

module _ {A : Type 0} (j : List (Entry A)) (author : Author) where
  -- the refusal of an author's own entry, if it is active and if it is not
  own_entry : (s : ℕ) (b : Bool) → is_by author (numbered j s) ≡ true → is_standing j s ≡ b → standing_refusal j author s ≡ first_that_holds (then_some (not b) NotStanding ∷ [])
  own_entry s b own stands =
      ap (λ c. first_that_holds (then_some c NoSuch ∷ then_some (not (is_by author (numbered j s))) NotYours ∷ then_some (not (is_standing j s)) NotStanding ∷ [])) (there author (numbered j s) own)
      ∙ ap (λ c. first_that_holds (then_some (not c) NotYours ∷ then_some (not (is_standing j s)) NotStanding ∷ [])) own
      ∙ ap (λ c. first_that_holds (then_some (not c) NotStanding ∷ [])) stands

  pub own_fallen : (s : ℕ) → is_by author (numbered j s) ≡ true → is_standing j s ≡ false → standing_refusal j author s ≡ Some NotStanding
  own_fallen s own fallen = own_entry s false own fallen

  pub own_standing : (s : ℕ) → is_by author (numbered j s) ≡ true → is_standing j s ≡ true → standing_refusal j author s ≡ None
  own_standing s own stands = own_entry s true own stands

  -- if nothing else refuses it, the asked entry is active
  pub asked_stands : (o : Option ℕ) (s : ℕ) → Ok s ≡ asked_or (standing_refusal j author) o → is_standing j s ≡ true
  asked_stands None s e = absurd (cc)
  asked_stands (Some t) s e = by (standing_refusal j author t) refl e
    where
      by : (r : Option (Reply A)) → standing_refusal j author t ≡ r → Ok s ≡ undone_or t r → is_standing j s ≡ true
      by None ok e =
          let same : t ≡ s = cc in
          ap (is_standing j) (sym same) ∙ passed (is_standing j t) NotStanding (third (then_some (is_none (numbered j t)) NoSuch) (then_some (not (is_by author (numbered j t))) NotYours) (then_some (not (is_standing j t)) NotStanding) ok)
      by (Some r) ok e = absurd (cc)

  module _ (p : Past A) where
    by_blocker : (s : ℕ) → standing_refusal j author s ≡ None → undo_refusal p j author s ≡ option_map conflict (blocker p j s)
    by_blocker s e = fourth (then_some (is_none (numbered j s)) NoSuch) (then_some (not (is_by author (numbered j s))) NotYours) (then_some (not (is_standing j s)) NotStanding) (option_map conflict (blocker p j s)) e

    before_blocker : (s : ℕ) (r : Reply A) → standing_refusal j author s ≡ Some r → undo_refusal p j author s ≡ Some r
    before_blocker s r e = sooner (then_some (is_none (numbered j s)) NoSuch) (then_some (not (is_by author (numbered j s))) NotYours) (then_some (not (is_standing j s)) NotStanding) (option_map conflict (blocker p j s)) r e

    -- the refusals of the asked entry that come before its blocker
    pub asked_refused : (o : Option ℕ) (r : Reply A) → Err r ≡ asked_or (standing_refusal j author) o → Err r ≡ asked_or (undo_refusal p j author) o
    asked_refused None r e = e
    asked_refused (Some t) r e = by (standing_refusal j author t) refl e
      where
        by : (o : Option (Reply A)) → standing_refusal j author t ≡ o → Err r ≡ undone_or t o → Err r ≡ undone_or t (undo_refusal p j author t)
        by None ok e = absurd (cc)
        by (Some q) ok e = e ∙ ap (undone_or t) (sym (before_blocker t q ok))

    -- without such a refusal, its blocker decides
    pub asked_blocked : (o : Option ℕ) (s : ℕ) → Ok s ≡ asked_or (standing_refusal j author) o → undone_or s (option_map conflict (blocker p j s)) ≡ asked_or (undo_refusal p j author) o
    asked_blocked None s e = absurd (cc)
    asked_blocked (Some t) s e = by (standing_refusal j author t) refl e
      where
        by : (r : Option (Reply A)) → standing_refusal j author t ≡ r → Ok s ≡ undone_or t r → undone_or s (option_map conflict (blocker p j s)) ≡ undone_or t (undo_refusal p j author t)
        by None ok e = let same : s ≡ t = cc in ap (λ u. undone_or u (option_map conflict (blocker p j u))) same ∙ ap (undone_or t) (sym (by_blocker t ok))
        by (Some r) ok e = absurd (cc)

    -- so the reply follows from what the holders find after it
    pub asked_answered : (holders : Held) → AreHolders p j holders → (o : Option ℕ) (s : ℕ) (found : Option (ℕ × Name)) → Ok s ≡ asked_or (standing_refusal j author) o → IsFirstAfter holders (recorded_footprint p s) s found
        → undone_or s (option_map conflict found) ≡ asked_or (undo_refusal p j author) o
    asked_answered holders held o s found e first =
        ap (λ b. undone_or s (option_map conflict b)) (blocker_found p j holders held s found (asked_stands o s e) first) ∙ asked_blocked o s e
