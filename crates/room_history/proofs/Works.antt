-- Works, and the entries that record them.
use Rattle.std.proofs.Common.{◌≡◌, ◌++◌, ◌||◌, ℕ, suc, zero, Bool, true, false, List, [], ◌∷◌, Some, map, length, nat_eq, slice_get, refl, sym, ap, ◌∙◌, option_and_then}
use Rattle.room_history.specs.Prelude.{cons_option, Rows, after, numbered, Recorded, Past, recorded_of, actions_of, AreAccepted}
use Rattle.room_history.proofs.Chains.{Work, touched, Accepts, Leads}
use Rattle.room_history.proofs.Growing.{equal_numbers}
use Rattle.room_history.proofs.RisingNumbers.{is_in}

slice_get-append : {X : Type 0} (xs ys : List X) (i : ℕ) (x : X) → slice_get xs i ≡ Some x → slice_get (xs ++ ys) i ≡ Some x
slice_get-append [] ys i x h = absurd (cc)
slice_get-append (y ∷ xs) ys zero x h = h
slice_get-append (y ∷ xs) ys (suc i) x h = slice_get-append xs ys i x h

-- the item with a number stays when the list gets longer
pub numbered-append : {X : Type 0} (xs ys : List X) (s : ℕ) (x : X) → numbered xs s ≡ Some x → numbered (xs ++ ys) s ≡ Some x
numbered-append xs ys zero x h = absurd (cc)
numbered-append xs ys (suc i) x h = slice_get-append xs ys i x h

module _ {A : Type 0} where
  -- the record of a work
  abbrev pub as_recorded : Work A → Recorded A
  as_recorded w = record { action = Some w.action; changes = w.changes; footprint = touched w }

  -- the entry s has the record of the work
  abbrev pub IsRecorded : List (Recorded A) → ℕ → Work A → Type 0
  IsRecorded entries s w = numbered entries s ≡ Some (as_recorded w)

  -- each work's record is that of the entry at its position
  abbrev pub AreRecorded : List (Recorded A) → List ℕ → List (Work A) → Type 0
  AreRecorded entries [] [] = Unit {0}
  AreRecorded entries [] (w ∷ ws) = ⊥
  AreRecorded entries (s ∷ ss) [] = ⊥
  AreRecorded entries (s ∷ ss) (w ∷ ws) = IsRecorded entries s w × AreRecorded entries ss ws

  pub recorded-grown : (entries : List (Recorded A)) (r : Recorded A) (ss : List ℕ) (ws : List (Work A)) → AreRecorded entries ss ws → AreRecorded (entries ++ r ∷ []) ss ws
  recorded-grown entries r [] [] h = tt
  recorded-grown entries r [] (w ∷ ws) h = absurd h
  recorded-grown entries r (s ∷ ss) [] h = absurd h
  recorded-grown entries r (s ∷ ss) (w ∷ ws) h = (numbered-append entries (r ∷ []) s (as_recorded w) h.0, recorded-grown entries r ss ws h.1)

  pub recorded-joined : (entries : List (Recorded A)) (ss ts : List ℕ) (ws vs : List (Work A)) → AreRecorded entries ss ws → AreRecorded entries ts vs → AreRecorded entries (ss ++ ts) (ws ++ vs)
  recorded-joined entries [] ts [] vs h k = k
  recorded-joined entries [] ts (w ∷ ws) vs h k = absurd h
  recorded-joined entries (s ∷ ss) ts [] vs h k = absurd h
  recorded-joined entries (s ∷ ss) ts (w ∷ ws) vs h k = (h.0, recorded-joined entries ss ts ws vs h.1 k)

  -- the work of s, and the works of the entries in front of it and after it
  pub record Places (entries : List (Recorded A)) (before : List ℕ) (s : ℕ) (after : List ℕ) (ws : List (Work A)) : Type 0 where
    pub earlier : List (Work A)
    pub one : Work A
    pub later : List (Work A)
    pub whole : ws ≡ earlier ++ one ∷ later
    pub are_earlier : AreRecorded entries before earlier
    pub is_one : IsRecorded entries s one
    pub are_later : AreRecorded entries after later

  pub placed : (entries : List (Recorded A)) (before : List ℕ) (s : ℕ) (after : List ℕ) (ws : List (Work A)) → AreRecorded entries (before ++ s ∷ after) ws → Places entries before s after ws
  placed entries [] s after [] h = absurd h
  placed entries [] s after (w ∷ ws) h = record { earlier = []; one = w; later = ws; whole = refl; are_earlier = tt; is_one = h.0; are_later = h.1 }
  placed entries (b ∷ bs) s after [] h = absurd h
  placed entries (b ∷ bs) s after (w ∷ ws) h =
      let p = placed entries bs s after ws h.1 in
      record { earlier = w ∷ p.earlier; one = p.one; later = p.later; whole = ap (λ l. w ∷ l) p.whole; are_earlier = (h.0, p.are_earlier); is_one = p.is_one; are_later = p.are_later }

  -- each of the entries has a work
  pub one_of : (entries : List (Recorded A)) (s : ℕ) (ss : List ℕ) (ws : List (Work A)) → AreRecorded entries ss ws → is_in s ss ≡ true → (w : Work A) × IsRecorded entries s w
  one_of entries s [] ws h there = absurd (cc)
  one_of entries s (t ∷ ts) [] h there = absurd h
  one_of entries s (t ∷ ts) (w ∷ ws) h there = by (nat_eq t s) refl there (one_of entries s ts ws h.1)
    where
      by : (b : Bool) → nat_eq t s ≡ b → (b || is_in s ts) ≡ true → (is_in s ts ≡ true → (v : Work A) × IsRecorded entries s v) → (v : Work A) × IsRecorded entries s v
      by true e i go = (w, ap (numbered entries) (sym (equal_numbers t s e)) ∙ h.0)
      by false e i go = go i

  -- the recorded actions of the entries are those of the works
  pub told : (p : Past A) (ss : List ℕ) (ws : List (Work A)) → AreRecorded p.entries ss ws → actions_of p ss ≡ map (λ (w : Work A). w.action) ws
  told p [] [] h = refl
  told p [] (w ∷ ws) h = absurd h
  told p (s ∷ ss) [] h = absurd h
  told p (s ∷ ss) (w ∷ ws) h = ap (λ o. cons_option (option_and_then (λ (r : Recorded A). r.action) o) (actions_of p ss)) h.0 ∙ ap (λ l. w.action ∷ l) (told p ss ws h.1)

  pub all_told : (p : Past A) (ss : List ℕ) (ws : List (Work A)) → AreRecorded p.entries ss ws → length (actions_of p ss) ≡ length ss
  all_told p [] [] h = refl
  all_told p [] (w ∷ ws) h = absurd h
  all_told p (s ∷ ss) [] h = absurd h
  all_told p (s ∷ ss) (w ∷ ws) h = ap (λ o. length (cons_option (option_and_then (λ (r : Recorded A). r.action) o) (actions_of p ss))) h.0 ∙ ap suc (all_told p ss ws h.1)

  -- the record of a work that a map accepts is that of its action on the map
  same_record : (m : Rows A) (w : Work A) → Accepts m w → as_recorded w ≡ recorded_of m w.action
  same_record m w h = (λ i. record { action = Some w.action; changes = sym h.same_changes i; footprint = sym h.same_footprint i })

  -- if the works lead from a map to another, the actions of their entries do too
  pub accepted_each : (p : Past A) (m : Rows A) (ss : List ℕ) (ws : List (Work A)) (end : Rows A) → AreRecorded p.entries ss ws → Leads m ws end → AreAccepted p m ss end
  accepted_each p m [] [] end h leads = leads
  accepted_each p m [] (w ∷ ws) end h leads = absurd h
  accepted_each p m (s ∷ ss) [] end h leads = absurd h
  accepted_each p m (s ∷ ss) (w ∷ ws) end h leads = (w.action, h.0 ∙ ap Some (same_record m w leads.0), leads.0.accepted, accepted_each p (after m w.action) ss ws end h.1 leads.1)
