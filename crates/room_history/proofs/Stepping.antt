-- One step of a room.
use Rattle.std.proofs.Common.{◌≡◌, Result, OnOk, OnErr, IfOk, IfErr, ◌<◌, ◌≤◌, ◌+◌, ◌++◌, ◌∷◌, ℕ, Bool, true, false, is_some, List, [], Option, Some, None, Ok, Err, length, refl, ◌-◌, slice_get, ◌⊎◌, zero, suc, map, nat_le, sym, ap, subst, ◌∙◌, arith, get_or, inl, inr, fold, IsErr, option_map, option_and_then}
use Rattle.std.proofs.lemmas.Bool.Decides.{nat_tests}
use Rattle.std.proofs.lemmas.List.Sums.{fold-append}
use Rattle.room_history.specs.Prelude.{then_some, One, Group, Author, Call, Request, Entry, EntryKind, Do, Undo, Redo, Refusal, Reply, Undid, Repeat, Full, NothingToRedo, Refused, Memory, Touch, IsFootprint, Rows, is_sound, after, changes, refusal, footprint, first_that_holds, is_work, is_standing, numbered, last, redos, standing, Past, Recorded, past, past_after, mapof, action_at, recorded_of, recorded_next, done_again, taken_back, spent, asked, meant, undo_refusal, redo_refusal, kind_refusal, guarded_refusal, seen, meaning_refusal, accepted, with_entry, answer_by, answer, IsJournal, opened, called, is_made_request, IsStep, applied, Deed, AreInOrder, Change, differences, inverse, AreChanges, AreFrom, StoreState, applied_to, counted, IsEditPlan, EditRefusal, refusal_reply, refused_by, Effect, changed-differences, sound_in_order, AreInOrder-after, IsFootprint-footprint, footprint_of, Held, IsNext, HoldsOnly, fallen, footprint_of_recorded, recorded_footprint}
use Rattle.osm_changes.specs.Changes.{changed}
use Rattle.edit_footprint.specs.Holding.{standing as stands}
use Rattle.room_interface.specs.declared.action.Action.{Action as SingleAction}
use Rattle.room_interface.specs.declared.edit.Edit.{Edit as Action}
use Rattle.room_history.specs.declared.changers.LastChange.{LastChange}
use Rattle.room_history.specs.Inner.Changers.{AreChangers, last_at}
use Rattle.room_history.specs.Inner.Holders.{AreHolders}
use Rattle.room_history.specs.Inner.Deeds.{deed_by, deeds, MayNote}
use Rattle.room_history.specs.Inner.Origins.{done_by, origin_next, origins}
use Rattle.room_history.proofs.Origins.{origins-append, origins_each, action_by_origin}
use Rattle.room_history.proofs.Deeds.{deeds-append, spent_deeds, stands_among, redo_deeds}
use Rattle.room_stacks.specs.declared.deed.Deed.TheVariants.{Undid}
use Rattle.room_history.specs.Inner.Undoing.{undone_or, asked_or}
use Rattle.room_history.specs.Inner.Rooms.{IsRoom, MayAppend, MayWork}
use Rattle.room_history.specs.Inner.Telling.{is_group, group_touches, footprint_by, effect_of, kept_from, kept}
use Rattle.room_history.proofs.Telling.{kept_of_each}
use Rattle.room_history.proofs.BinarySearching.{last_is}
use Rattle.room_history.proofs.Deciding.{unspent}
use Rattle.room_history.proofs.Keeping.{journal_led}
use Rattle.room_history.proofs.Appending.{past-append, mapof-append, applied-append, recorded-redo}
use Rattle.room_history.proofs.KeptChangers.{IsNoted, AreChangers-opened, AreChangers-next}
use Rattle.room_history.proofs.KeptHolders.{AreHolders-opened, AreHolders-work, AreHolders-undo, stands_within, holds_own, holders_next}
use Rattle.room_history.proofs.Leading.{IsLed, led_sound}
use Rattle.room_history.proofs.TakingBack.{Undone, undone}
use Rattle.room_history.proofs.Undoing.{Found, found}
use Rattle.room_history.proofs.Chains.{Work}
use Rattle.room_history.proofs.Works.{IsRecorded, one_of}
use Rattle.room_interface.specs.declared.call.Request.TheVariants as requests
use Rattle.room_history.proofs.Deeds as journals
use Rattle.room_stacks.specs.Stacks as stacks
use Rattle.room_interface.specs.declared.refusal.Refusal.TheVariants as refusals

-- the reply for a refusal: the refusal itself, or `Memory`
reply_is : {A : Type 0} (at : Option ℕ) (why : Refusal A) → (refused_by at why ≡ Refused (record { action = at; why = why })) ⊎ (refused_by at why ≡ Memory)
reply_is at (refusals.Absent x) = inl refl
reply_is at (refusals.Present x) = inl refl
reply_is at (refusals.WrongKind x) = inl refl
reply_is at (refusals.Same x) = inl refl
reply_is at refusals.BadPosition = inl refl
reply_is at refusals.NotEndToEnd = inl refl
reply_is at (refusals.TagConflict key) = inl refl
reply_is at (refusals.OutOfRange x) = inl refl
reply_is at (refusals.TooFew x) = inl refl
reply_is at (refusals.TooMany x) = inl refl
reply_is at (refusals.InUse x u) = inl refl
reply_is at refusals.Nothing = inl refl
reply_is at refusals.Memory = inr refl

below : (limit n : ℕ) → n < limit → nat_le limit n ≡ false
below limit n h = grind (arith, nat_tests)

-- the item with a number in a mapped list
numbered_mapped : {X Y : Type 0} (f : X → Y) (xs : List X) (s : ℕ) → numbered (map f xs) s ≡ option_map f (numbered xs s)
numbered_mapped f xs zero = refl
numbered_mapped f [] (suc i) = refl
numbered_mapped f (x ∷ xs) (suc zero) = refl
numbered_mapped f (x ∷ xs) (suc (suc i)) = numbered_mapped f xs (suc i)

-- each number within a list has an item
none_there : {X : Type 0} (xs : List X) (s : ℕ) → 1 ≤ s → s ≤ length xs → numbered xs s ≡ None → ⊥
none_there xs zero low high e = absurd (omega (arith, low))
none_there [] (suc i) low high e = absurd (omega (arith, high))
none_there (y ∷ ys) (suc zero) low high e = absurd (cc)
none_there (y ∷ ys) (suc (suc i)) low high e = none_there ys (suc i) (omega arith) (omega (arith, high)) e

numbered_item : {X : Type 0} (xs : List X) (s : ℕ) (k d : X) → numbered xs s ≡ Some k → get_or xs (s - 1) d ≡ k
numbered_item xs zero k d e = absurd (cc)
numbered_item {X} xs (suc i) k d e = ap (λ n. get_or xs n d) less ∙ at xs i e
  where
    less : suc i - 1 ≡ i
    less = omega arith

    at : (ys : List X) (n : ℕ) → slice_get ys n ≡ Some k → get_or ys n d ≡ k
    at [] n e = absurd (cc)
    at (y ∷ ys) zero e = cc
    at (y ∷ ys) (suc n) e = at ys n e

-- the changes read at a position are those that the list has there
pub kept_changes : {A : Type 0} (recorded : List (Effect A)) (s : ℕ) (d : Effect A) (cs : List (Change A)) → cs ≡ d.changes → d ≡ get_or recorded (s - 1) d → (k : Effect A) → numbered recorded s ≡ Some k → cs ≡ k.changes
kept_changes recorded s d cs told item k is = told ∙ ap (λ (e : Effect _). e.changes) (item ∙ numbered_item recorded s k d is)

injective : {X : Type 0} {x y : X} → Some x ≡ Some y → x ≡ y
injective e = cc

-- a refused call has no result, so any property of the result is true
pub on_ok : {X E : Type 0} (r : Result X E) (P : X → Type 0) → IsErr r → IfOk r P
on_ok (Ok x) P e = absurd (cc)
on_ok (Err e) P is = tt

-- a true statement is also true after a refusal
pub on_err : {X E : Type 0} (r : Result X E) (P : Type 0) → P → OnErr r P
on_err (Ok x) P p = tt
on_err (Err e) P p = p

-- the reply to an action whose plan refuses
pub plan_refused : {A : Type 0} (m : Rows A) (a : Action A) (r : EditRefusal A) (reply : Reply A) → reply ≡ refusal_reply r → IsEditPlan m a (Err r)
    → (reply ≡ Memory) ⊎ (option_map Refused (refusal m a) ≡ Some reply)
plan_refused m a r reply is (inr e) = inl (is ∙ ap refusal_reply e)
plan_refused m a r reply is (inl e) = by (reply_is r.action r.why)
  where
    by : (refusal_reply r ≡ Refused r) ⊎ (refusal_reply r ≡ Memory) → (reply ≡ Memory) ⊎ (option_map Refused (refusal m a) ≡ Some reply)
    by (inl same) = inr (ap (option_map Refused) e ∙ ap Some (sym (is ∙ same)))
    by (inr same) = inl (is ∙ same)

-- the plan of a redo's action gives what the redo needs; the action of a redo is the entry's action
pub again_does : {A : Type 0} (m : Rows A) (o : Option (Action A)) → (done_again m o).action ≡ o
again_does m None = refl
again_does m (Some a) = refl

pub accepted_again : {A X E : Type 0} (m : Rows A) (o : Option (Action A)) (a : Action A) (r : Result X E) → o ≡ Some a → OnOk r (refusal m a ≡ None) → OnOk r (redo_refusal m o ≡ None)
accepted_again m o a (Ok x) acts e = ap (redo_refusal m) acts ∙ ap (option_map Refused) e
accepted_again m o a (Err x) acts e = tt

pub changed_again : {A F E : Type 0} (m : Rows A) (o : Option (Action A)) (a : Action A) (r : Result (List (Change A) × F) E) → o ≡ Some a → IfOk r (λ p. p.0 ≡ changes m a) → IfOk r (λ p. p.0 ≡ (done_again m o).changes)
changed_again m o a (Ok x) acts e = e ∙ sym (ap (λ q. (done_again m q).changes) acts)
changed_again m o a (Err x) acts e = tt

pub touched_again : {A C E : Type 0} (m : Rows A) (o : Option (Action A)) (a : Action A) (r : Result (C × List Touch) E) → o ≡ Some a → IfOk r (λ p. p.1 ≡ footprint m a) → IfOk r (λ p. p.1 ≡ (done_again m o).footprint)
touched_again m o a (Ok x) acts e = e ∙ sym (ap (λ q. (done_again m q).footprint) acts)
touched_again m o a (Err x) acts e = tt

pub refused_again : {A X : Type 0} (m : Rows A) (o : Option (Action A)) (a : Action A) (r : Result X (Reply A)) → o ≡ Some a → IfErr r (λ reply. (reply ≡ Memory) ⊎ (option_map Refused (refusal m a) ≡ Some reply)) → IfErr r (λ reply. (reply ≡ Memory) ⊎ (redo_refusal m o ≡ Some reply))
refused_again m o a (Ok x) acts e = tt
refused_again m o a (Err x) acts (inl e) = inl e
refused_again m o a (Err x) acts (inr e) = inr (ap (redo_refusal m) acts ∙ e)

module _ {A : Type 0} where
  pub step_full : (base : Rows A) (limit : ℕ) (j : List (Entry A)) (c : Call A) → spent j c.author c.id ≡ None → limit ≤ length j → IsStep base limit j c Full j
  step_full base limit j c fresh full =
      let k = meant j c.author c.request in
      let why = meaning_refusal (past base j) j c k in
      let is_full : nat_le limit (length j) ≡ true = grind (arith, nat_tests) in
      inl (sym (ap (λ o. answer_by j c (first_that_holds (option_map Repeat o ∷ then_some (nat_le limit (length j)) Full ∷ why ∷ [])) k) fresh
      ∙ ap (λ b. answer_by j c (first_that_holds (then_some b Full ∷ why ∷ [])) k) is_full))

  pub step_repeat : (base : Rows A) (limit : ℕ) (j : List (Entry A)) (c : Call A) (seq : ℕ) → spent j c.author c.id ≡ Some seq → IsStep base limit j c (Repeat seq) j
  step_repeat base limit j c seq is =
      let k = meant j c.author c.request in
      let why = meaning_refusal (past base j) j c k in
      inl (sym (ap (λ o. answer_by j c (first_that_holds (option_map Repeat o ∷ then_some (nat_le limit (length j)) Full ∷ why ∷ [])) k) is))

  -- a call is determined by its parts
  pub same_call : (base : Rows A) (limit : ℕ) (j k : List (Entry A)) (c : Call A) (r : Request A) (reply : Reply A) → c.request ≡ r → IsStep base limit j (record { author = c.author; id = c.id; request = r }) reply k → IsStep base limit j c reply k
  same_call base limit j k c r reply is h = subst (λ q. IsStep base limit j (record { author = c.author; id = c.id; request = q }) reply k) (sym is) h

  module _ (base : Rows A) (limit : ℕ) (j : List (Entry A)) (author : Author) (id : ℕ) (may : MayAppend limit j author id) where
    -- the answer to a call whose id is unspent, in a journal that is not full
    answer_is : (r : Request A) → answer base limit j (record { author = author; id = id; request = r }) ≡ answer_by j (record { author = author; id = id; request = r }) (meaning_refusal (past base j) j (record { author = author; id = id; request = r }) (meant j author r)) (meant j author r)
    answer_is r = unspent base limit j (record { author = author; id = id; request = r }) may.0 (below limit (length j) may.1)

    -- a request for an entry of the kind k
    module _ (r : Request A) (k : EntryKind A) (means : meant j author r ≡ Some k) where
      abbrev call : Call A
      call = record { author = author; id = id; request = r }

      -- the reply to the request is the refusal of k, if there is one
      meaning_is : answer base limit j call ≡ answer_by j call (guarded_refusal (past base j) j author k (seen r)) (Some k)
      meaning_is = answer_is r ∙ ap (λ o. answer_by j call (meaning_refusal (past base j) j call o) o) means

      pub step_refused : (reply : Reply A) → (reply ≡ Memory) ⊎ (guarded_refusal (past base j) j author k (seen r) ≡ Some reply) → IsStep base limit j call reply j
      step_refused reply (inl is) = inr (is, refl)
      step_refused reply (inr is) = inl (sym (meaning_is ∙ ap (λ o. answer_by j call o (Some k)) is))

      module _ (ok : guarded_refusal (past base j) j author k (seen r) ≡ None) where
        accepted_is : answer base limit j call ≡ (accepted (length j + 1) k, with_entry j author id k)
        accepted_is = meaning_is ∙ ap (λ o. answer_by j call o (Some k)) ok

        pub step_accepted : (seq : ℕ) → seq ≡ length j + 1 → IsStep base limit j call (accepted seq k) (with_entry j author id k)
        step_accepted seq is = inl (ap (λ n. (accepted n k, with_entry j author id k)) is ∙ sym accepted_is)

        -- calls lead to the journal with the entry
        legal : IsJournal base limit j → is_made_request r ≡ true → IsJournal base limit (with_entry j author id k)
        legal h made = subst (λ l. IsJournal base limit l) (ap (λ (p : Reply A × List (Entry A)). p.1) accepted_is) (called j call h made)

    pub step_nothing_to_redo : last (redos j author) ≡ None → IsStep base limit j (record { author = author; id = id; request = requests.Redo }) NothingToRedo j
    step_nothing_to_redo none = inl (sym (answer_is requests.Redo ∙ ap (λ o. answer_by j (record { author = author; id = id; request = requests.Redo }) (meaning_refusal (past base j) j (record { author = author; id = id; request = requests.Redo }) (option_map Redo o)) (option_map Redo o)) none))

    -- the entry that an undo takes back
    record Taken (number : Option ℕ) (s : ℕ) : Type 0 where
      is : asked j author number ≡ Some s
      ok : undo_refusal (past base j) j author s ≡ None

    taken_by : (number o : Option ℕ) (s : ℕ) → asked j author number ≡ o → Ok s ≡ asked_or (undo_refusal (past base j) j author) o → Taken number s
    taken_by number None s is e = absurd (cc)
    taken_by number (Some t) s is e = by (undo_refusal (past base j) j author t) refl e
      where
        by : (o : Option (Reply A)) → undo_refusal (past base j) j author t ≡ o → Ok s ≡ undone_or t o → Taken number s
        by None ok e = let same : t ≡ s = cc in record { is = is ∙ ap Some same; ok = ap (undo_refusal (past base j) j author) (sym same) ∙ ok }
        by (Some r) ok e = absurd (cc)

    pub can_undo : (number : Option ℕ) (s : ℕ) → Ok s ≡ asked_or (undo_refusal (past base j) j author) (asked j author number) → undo_refusal (past base j) j author s ≡ None
    can_undo number s e = (taken_by number (asked j author number) s refl e).ok

    pub step_undid : (number : Option ℕ) (s seq : ℕ) → Ok s ≡ asked_or (undo_refusal (past base j) j author) (asked j author number) → seq ≡ length j + 1
        → IsStep base limit j (record { author = author; id = id; request = requests.Undo number }) (Undid seq s) (with_entry j author id (Undo s))
    step_undid number s seq e is =
        let t = taken_by number (asked j author number) s refl e in
        step_accepted (requests.Undo number) (Undo s) (ap (option_map Undo) t.is) t.ok seq is

    step_not_undone : (number : Option ℕ) (r : Reply A) → Err r ≡ asked_or (undo_refusal (past base j) j author) (asked j author number) → IsStep base limit j (record { author = author; id = id; request = requests.Undo number }) r j
    step_not_undone number r e = inl (sym (answer_is (requests.Undo number) ∙ by (asked j author number) e))
      where
        by : (o : Option ℕ) → Err r ≡ asked_or (undo_refusal (past base j) j author) o → answer_by j (record { author = author; id = id; request = requests.Undo number }) (meaning_refusal (past base j) j (record { author = author; id = id; request = requests.Undo number }) (option_map Undo o)) (option_map Undo o) ≡ (r, j)
        by None e = ap (λ p. (p, j)) (cc)
        by (Some t) e = why (undo_refusal (past base j) j author t) e
          where
            why : (o : Option (Reply A)) → Err r ≡ undone_or t o → answer_by j (record { author = author; id = id; request = requests.Undo number }) o (Some (Undo t)) ≡ (r, j)
            why None e = absurd (cc)
            why (Some p) e = ap (λ q. (q, j)) (cc)

    -- the refusal of an undo
    pub step_undo_refused : (number : Option ℕ) (r : Reply A) → (r ≡ Memory) ⊎ (Err r ≡ asked_or (undo_refusal (past base j) j author) (asked j author number)) → IsStep base limit j (record { author = author; id = id; request = requests.Undo number }) r j
    step_undo_refused number r (inl is) = inr (is, refl)
    step_undo_refused number r (inr is) = step_not_undone number r is

  -- a room that begins with a sound map, with an empty journal
  pub IsRoom-opened : (store : StoreState A) (recorded : List (Effect A)) (firsts : List ℕ) (holders : Held) (changers : List (Touch × LastChange)) (done : List Deed) (base : Rows A) (limit : ℕ) (j : List (Entry A))
      → store.rows ≡ base → store.applied ≡ 0 → recorded ≡ [] → firsts ≡ [] → holders ≡ [] → changers ≡ [] → done ≡ [] → is_sound base ≡ true → j ≡ [] → IsRoom store recorded firsts holders changers done base limit j
  IsRoom-opened store recorded firsts holders changers done base limit j begins none_applied no_changes no_firsts no_holders no_changers no_deeds sound no_entries = record {
    base_sound = sound;
    journal = subst (λ k. IsJournal base limit k) (sym no_entries) opened;
    rows_are = begins ∙ ap (mapof base) (sym no_entries);
    count_is = none_applied ∙ ap (applied base) (sym no_entries);
    recorded_are = no_changes ∙ ap (kept base) (sym no_entries);
    firsts_are = no_firsts ∙ ap origins (sym no_entries);
    holders_are = opened_holders;
    changers_are = opened_changers;
    deeds_are = no_deeds ∙ ap deeds (sym no_entries);
  }
    where
      none_held : AreHolders (past base []) [] holders
      none_held = subst (λ (h : Held). AreHolders (past base []) [] h) (sym no_holders) (AreHolders-opened base)

      opened_holders : AreHolders (past base j) j holders
      opened_holders = subst (λ k. AreHolders (past base k) k holders) (sym no_entries) none_held

      opened_changers : AreChangers (past base j) j changers
      opened_changers = subst (λ k. AreChangers (past base k) k changers) (sym no_entries) (subst (λ l. AreChangers (past base []) [] l) (sym no_changers) (AreChangers-opened base))

  -- the record of one more entry
  recorded-append : (base : Rows A) (j : List (Entry A)) (e : Entry A) → (past base (j ++ e ∷ [])).entries ≡ (past base j).entries ++ recorded_next (past base j) e.kind ∷ []
  recorded-append base j e = ap (λ (p : Past A). p.entries) (past-append base j e)

  -- the map after the changes of recorded entries
  abbrev led_by : Rows A → List (Recorded A) → Rows A
  led_by m rs = fold (λ n (r : Recorded A). changed n r.changes) m rs

  -- the kept effect of one more entry
  kept_from-append : (m : Rows A) (rs : List (Recorded A)) (r : Recorded A) → kept_from m (rs ++ r ∷ []) ≡ kept_from m rs ++ effect_of (led_by m rs) r ∷ []
  kept_from-append m [] r = refl
  kept_from-append m (q ∷ rs) r = ap (λ ks. effect_of m q ∷ ks) (kept_from-append (changed m q.changes) rs r)

  -- the changes of the entries, in order, lead to the map
  changes_lead_on : (p : Past A) (base : Rows A) (j : List (Entry A)) → p.map ≡ led_by base p.entries
      → let q = fold (λ (p : Past A) (e : Entry A). past_after p e.kind) p j in q.map ≡ led_by base q.entries
  changes_lead_on p base [] h = h
  changes_lead_on p base (e ∷ j) h =
      let r = recorded_next p e.kind in
      changes_lead_on (past_after p e.kind) base j
      (ap (λ m. changed m r.changes) h ∙ sym (fold-append (λ n (r : Recorded A). changed n r.changes) base p.entries (r ∷ [])))

  changes_lead : (base : Rows A) (j : List (Entry A)) → mapof base j ≡ led_by base (past base j).entries
  changes_lead base j = changes_lead_on (record { map = base; entries = [] }) base j refl

  kept-append : (base : Rows A) (j : List (Entry A)) (e : Entry A) → kept base (j ++ e ∷ []) ≡ kept base j ++ effect_of (mapof base j) (recorded_next (past base j) e.kind) ∷ []
  kept-append base j e =
      let r = recorded_next (past base j) e.kind in
      ap (kept_from base) (recorded-append base j e) ∙ kept_from-append base (past base j).entries r ∙ ap (λ m. kept base j ++ effect_of m r ∷ []) (sym (changes_lead base j))

  -- kept effects have the recorded changes, and the recorded footprints of groups
  changes_kept : (m : Rows A) (rs : List (Recorded A)) → map (λ (k : Effect A). k.changes) (kept_from m rs) ≡ map (λ (r : Recorded A). r.changes) rs
  changes_kept m [] = refl
  changes_kept m (r ∷ rs) = ap (λ rest. r.changes ∷ rest) (changes_kept (changed m r.changes) rs)

  groups_kept : (m : Rows A) (rs : List (Recorded A)) → map (λ (k : Effect A). k.group) (kept_from m rs) ≡ map (λ (r : Recorded A). group_touches r.action r.footprint) rs
  groups_kept m [] = refl
  groups_kept m (r ∷ rs) = ap (λ rest. group_touches r.action r.footprint ∷ rest) (groups_kept (changed m r.changes) rs)

  module _ (store : StoreState A) (recorded : List (Effect A)) (firsts : List ℕ) (holders : Held) (changers : List (Touch × LastChange)) (done : List Deed) (base : Rows A) (limit : ℕ) (j : List (Entry A)) (r : IsRoom store recorded firsts holders changers done base limit j) where
    -- an invariant of a room's journal
    room_led : IsLed base j
    room_led = journal_led base r.base_sound limit j r.journal

    -- a room with another table of the same last changes
    pub IsRoom-same_changers : (changers' : List (Touch × LastChange)) → ((t : Touch) → last_at changers' t ≡ last_at changers t) → IsRoom store recorded firsts holders changers' done base limit j
    IsRoom-same_changers changers' same = record {
      base_sound = r.base_sound;
      journal = r.journal;
      rows_are = r.rows_are;
      count_is = r.count_is;
      recorded_are = r.recorded_are;
      firsts_are = r.firsts_are;
      holders_are = r.holders_are;
      changers_are = λ t. same t ∙ r.changers_are t;
      deeds_are = r.deeds_are;
    }

    -- the next number is greater than all that are held
    pub stands_next : (n : ℕ) → n ≡ length j → IsNext holders (n + 1)
    stands_next n is = subst (λ m. IsNext holders (m + 1)) (sym is) (holders_next base j holders r.holders_are)

    -- the action that the code finds for an entry is the recorded one
    pub action_told : (es : List (Entry A)) (os : List ℕ) (t : ℕ) (o : Option (Action A)) → es ≡ j → os ≡ firsts → o ≡ option_and_then (λ n. done_by (numbered es n)) (numbered os t) → action_at (past base j) t ≡ o
    action_told es os t o entries_are origins_are is =
        action_by_origin base j t ∙ sym (is ∙ (λ i. option_and_then (λ n. done_by (numbered (entries_are i) n)) (numbered ((origins_are ∙ r.firsts_are) i) t)))

    -- an active entry: its action, its kept effect, and its footprint
    module _ (s : ℕ) (there : is_standing j s ≡ true) where
      stood : (w : Work A) × IsRecorded (past base j).entries s w
      stood = one_of (past base j).entries s (standing j) room_led.works room_led.recorded there

      its_action : action_at (past base j) s ≡ Some stood.0.action
      its_action = ap (option_and_then (λ (r : Recorded A). r.action)) stood.1

      kept_each : length recorded ≡ length j
      kept_each = ap length r.recorded_are ∙ kept_of_each base j

      pub is_first : 1 ≤ s
      is_first = (stands_within j s there).0

      pub is_kept : s ≤ length recorded
      is_kept = let at = (stands_within j s there).1 in let n = kept_each in omega (arith, at, n)

      pub has_action : action_at (past base j) s ≡ None → ⊥
      has_action none = absurd (cc (sym none ∙ its_action))

      its_changes : (k : Effect A) → numbered recorded s ≡ Some k → k.changes ≡ stood.0.changes
      its_changes k is = let same : Some k.changes ≡ Some stood.0.changes = sym (ap (option_map (λ (k : Effect A). k.changes)) is) ∙ told in cc
        where
          told : option_map (λ (k : Effect A). k.changes) (numbered recorded s) ≡ Some stood.0.changes
          told =
              sym (numbered_mapped (λ (k : Effect A). k.changes) recorded s) ∙ ap (λ ks. numbered (map (λ (k : Effect A). k.changes) ks) s) r.recorded_are
              ∙ ap (λ css. numbered css s) (changes_kept base (past base j).entries) ∙ numbered_mapped (λ (r : Recorded A). r.changes) (past base j).entries s
              ∙ ap (option_map (λ (r : Recorded A). r.changes)) stood.1

      -- an undo records the inverse of the entry's changes
      pub next_is : (cs : List (Change A)) → ((k : Effect A) → numbered recorded s ≡ Some k → cs ≡ k.changes) → inverse cs ≡ (recorded_next (past base j) (Undo s)).changes
      next_is cs told = by (numbered recorded s) refl
        where
          by : (o : Option (Effect A)) → numbered recorded s ≡ o → inverse cs ≡ (recorded_next (past base j) (Undo s)).changes
          by None e = absurd (none_there recorded s is_first is_kept e)
          by (Some k) e = ap inverse (told k e ∙ its_changes k e) ∙ ap (λ o. (taken_back o).changes) (sym stood.1)

      -- the footprint of a group is kept, and none of one action
      its_group : (k : Effect A) → numbered recorded s ≡ Some k → k.group ≡ group_touches (Some stood.0.action) stood.0.touches
      its_group k is = let same : Some k.group ≡ Some (group_touches (Some stood.0.action) stood.0.touches) = sym (ap (option_map (λ (k : Effect A). k.group)) is) ∙ told in cc
        where
          told : option_map (λ (k : Effect A). k.group) (numbered recorded s) ≡ Some (group_touches (Some stood.0.action) stood.0.touches)
          told =
              sym (numbered_mapped (λ (k : Effect A). k.group) recorded s) ∙ ap (λ ks. numbered (map (λ (k : Effect A). k.group) ks) s) r.recorded_are
              ∙ ap (λ gs. numbered gs s) (groups_kept base (past base j).entries) ∙ numbered_mapped (λ (r : Recorded A). group_touches r.action r.footprint) (past base j).entries s
              ∙ ap (option_map (λ (r : Recorded A). group_touches r.action r.footprint)) stood.1

      -- its action is that of its entry
      same_action : (e : Action A) → action_at (past base j) s ≡ Some e → e ≡ stood.0.action
      same_action e acts = let same : Some e ≡ Some stood.0.action = sym acts ∙ its_action in cc

      -- the touches that its action touches with these changes are its footprint
      touched_is : (a : SingleAction A) → action_at (past base j) s ≡ Some (One a) → (cs : List (Change A)) → ((k : Effect A) → numbered recorded s ≡ Some k → cs ≡ k.changes) → footprint_of a cs ≡ recorded_footprint (past base j) s
      touched_is a acts cs told = by (numbered recorded s) refl
        where
          by : (o : Option (Effect A)) → numbered recorded s ≡ o → footprint_of a cs ≡ recorded_footprint (past base j) s
          by None e = absurd (none_there recorded s is_first is_kept e)
          by (Some k) e = ap (footprint_of a) (told k e ∙ its_changes k e) ∙ sym (stood.0.of_one a (sym (same_action (One a) acts))) ∙ sym (ap footprint_of_recorded stood.1)

      -- the effect kept at the entry's position has the footprint of a group
      pub group_told : (e : Action A) → action_at (past base j) s ≡ Some e → (d : Effect A) → d ≡ get_or recorded (s - 1) d → d.group ≡ group_touches (Some e) (recorded_footprint (past base j) s)
      group_told e acts d item = by (numbered recorded s) refl
        where
          by : (o : Option (Effect A)) → numbered recorded s ≡ o → d.group ≡ group_touches (Some e) (recorded_footprint (past base j) s)
          by None n = absurd (none_there recorded s is_first is_kept n)
          by (Some k) n =
              ap (λ (x : Effect A). x.group) (item ∙ numbered_item recorded s k d n) ∙ its_group k n ∙ ap (λ a. group_touches (Some a) stood.0.touches) (sym (same_action e acts))
              ∙ ap (group_touches (Some e)) (sym (ap footprint_of_recorded stood.1))

      pub is_group_told : (e : Action A) → action_at (past base j) s ≡ Some e → (d : Effect A) → d ≡ get_or recorded (s - 1) d → is_group (Some e) ≡ is_some d.group
      is_group_told e acts d item = by (is_group (Some e)) ∙ sym (ap is_some (group_told e acts d item))
        where
          by : (b : Bool) → b ≡ is_some (then_some b (recorded_footprint (past base j) s))
          by true = refl
          by false = refl

      -- the footprint that the code finds for the entry is its own
      pub footprint_told : (e : Action A) → action_at (past base j) s ≡ Some e → (cs : List (Change A)) → ((k : Effect A) → numbered recorded s ≡ Some k → cs ≡ k.changes) → (d : Effect A) → d ≡ get_or recorded (s - 1) d
          → footprint_by e d.group cs ≡ recorded_footprint (past base j) s
      footprint_told (One a) acts cs told d item = touched_is a acts cs told
      footprint_told (Group g) acts cs told d item = ap (λ o. footprint_by (Group g) o cs) (group_told (Group g) acts d item)

    -- an author's redo stack from its deeds is that from its entries
    pub redos_told : (author : Author) → stacks.redo done author ≡ redos j author
    redos_told author = ap (λ ds. stacks.redo ds author) r.deeds_are ∙ redo_deeds j author

    -- an id is spent by a deed exactly if it is spent by an entry
    pub spent_is : (author : Author) (id : ℕ) → stacks.spent done author id ≡ spent j author id
    spent_is author id = ap (λ d. stacks.spent d author id) r.deeds_are ∙ spent_deeds j author id

    module _ (author : Author) (id : ℕ) (may : MayAppend limit j author id) where
      -- no deed spent the id, and the next number is greater than those of all deeds
      pub unspent_deed : (ds : List Deed) → ds ≡ done → stacks.spent ds author id ≡ None
      unspent_deed ds is = ap (λ d. stacks.spent d author id) (is ∙ r.deeds_are) ∙ spent_deeds j author id ∙ may.0

      pub above_deeds : (ds : List Deed) (n : ℕ) → ds ≡ done → n ≡ length j + 1 → stacks.IsAboveAll n ds
      above_deeds ds n is next = subst (λ d. stacks.IsAboveAll n d) (sym (is ∙ r.deeds_are)) (subst (λ m. stacks.IsAboveAll m (deeds j)) (sym next) (journals.above_deeds j))

      -- a room with one more entry
      grown : (k : EntryKind A) (l : List (Entry A)) (store' : StoreState A) (recorded' : List (Effect A)) (firsts' : List ℕ) (holders' : Held) (changers' : List (Touch × LastChange)) (done' : List Deed) (cs : List (Change A)) (effect : Effect A)
          → IsJournal base limit (with_entry j author id k) → cs ≡ (recorded_next (past base j) k).changes
          → store' ≡ applied_to store cs → effect ≡ effect_of store.rows (recorded_next (past base j) k) → recorded' ≡ recorded ++ effect ∷ [] → firsts' ≡ firsts ++ origin_next (origins j) k ∷ [] → AreHolders (past base (with_entry j author id k)) (with_entry j author id k) holders'
          → IsNoted j author changers changers' cs → done' ≡ done ++ deed_by (length j + 1) author id k ∷ [] → l ≡ with_entry j author id k
          → IsRoom store' recorded' firsts' holders' changers' done' base limit l
      grown k l store' recorded' firsts' holders' changers' done' cs effect legal is store_is effect_is recorded_is firsts_is holders_is noted deeds_is l_is =
          let e : Entry A = record { author = author; id = id; kind = k } in
          subst (λ l. IsRoom store' recorded' firsts' holders' changers' done' base limit l) (sym l_is) (record {
            base_sound = r.base_sound;
            journal = legal;
            rows_are = ap (λ (s : StoreState A). s.rows) store_is ∙ ap (λ m. changed m cs) r.rows_are ∙ ap (changed (mapof base j)) is ∙ sym (mapof-append base j e);
            count_is = ap (λ (s : StoreState A). s.applied) store_is ∙ ap (λ n. counted n cs) r.count_is ∙ ap (counted (applied base j)) is ∙ sym (applied-append base j e);
            recorded_are = recorded_is ∙ (λ i. r.recorded_are i ++ (effect_is ∙ ap (λ m. effect_of m (recorded_next (past base j) k)) r.rows_are) i ∷ []) ∙ sym (kept-append base j e);
            firsts_are = firsts_is ∙ ap (λ os. os ++ origin_next (origins j) k ∷ []) r.firsts_are ∙ sym (origins-append j e);
            holders_are = holders_is;
            changers_are = AreChangers-next base j e changers changers' cs r.changers_are is noted;
            deeds_are = deeds_is ∙ ap (λ ds. ds ++ deed_by (length j + 1) author id k ∷ []) r.deeds_are ∙ sym (deeds-append j e);
          })

      -- the origin of a new action
      own_origin : length j + 1 ≡ length (origins j) + 1
      own_origin = ap (λ n. n + 1) (sym (origins_each j))

      -- the action of an entry, as it is recorded
      record Does (k : EntryKind A) : Type 0 where
        action : Action A
        works : is_work k ≡ true
        records : recorded_next (past base j) k ≡ recorded_of (mapof base j) action

      does_again : (t : ℕ) (o : Option (Action A)) → action_at (past base j) t ≡ o → redo_refusal (mapof base j) o ≡ None → Does (Redo t)
      does_again t None e ok = absurd (cc)
      does_again t (Some a) e ok = record { action = a; works = refl; records = recorded-redo base j t a e }

      does_of : (k : EntryKind A) → MayWork j author k → kind_refusal (past base j) j author k ≡ None → Does k
      does_of (Do a) work ok = record { action = a; works = refl; records = refl }
      does_of (Undo s) work ok = absurd work
      does_of (Redo t) work ok = does_again t (action_at (past base j) t) refl ok

      legal_work : (k : EntryKind A) → MayWork j author k → kind_refusal (past base j) j author k ≡ None → IsJournal base limit (with_entry j author id k)
      legal_work (Do a) work ok = legal base limit j author id may (requests.Do a None) (Do a) refl ok r.journal work
      legal_work (Undo s) work ok = absurd work
      legal_work (Redo t) work ok = legal base limit j author id may requests.Redo (Redo t) (ap (option_map Redo) work) ok r.journal refl

      -- the entry may be recorded among the deeds
      pub work_noted : (k : EntryKind A) → MayWork j author k → (ds : List Deed) → ds ≡ done → MayNote ds author k
      work_noted (Do a) work ds is = tt
      work_noted (Undo s) work ds is = absurd work
      work_noted (Redo t) work ds is = ap (λ d. stacks.top (stacks.redo d author)) (is ∙ r.deeds_are) ∙ ap stacks.top (redo_deeds j author) ∙ last_is (redos j author) ∙ work

      -- an accepted entry that does or redoes an action
      module _ (k : EntryKind A) (work : MayWork j author k) (ok : kind_refusal (past base j) j author k ≡ None) where
        does : Does k
        does = does_of k work ok

        -- its footprint rises
        pub work_rises : (touches : List Touch) → touches ≡ (recorded_next (past base j) k).footprint → IsFootprint touches
        work_rises touches is = subst IsFootprint (sym (is ∙ ap (λ (w : Recorded A). w.footprint) does.records)) (IsFootprint-footprint (mapof base j) does.action)

        -- the room after it
        pub IsRoom-work : (l : List (Entry A)) (store' : StoreState A) (recorded' : List (Effect A)) (firsts' : List ℕ) (holders' : Held) (changers' : List (Touch × LastChange)) (done' : List Deed) (cs : List (Change A)) (touches : List Touch) (effect : Effect A)
            → cs ≡ (recorded_next (past base j) k).changes → touches ≡ (recorded_next (past base j) k).footprint
            → store' ≡ applied_to store cs → effect ≡ effect_of store.rows (recorded_next (past base j) k) → recorded' ≡ recorded ++ effect ∷ [] → firsts' ≡ firsts ++ origin_next firsts k ∷ [] → holders' ≡ stands holders touches (length j + 1)
            → IsNoted j author changers changers' cs → done' ≡ done ++ deed_by (length j + 1) author id k ∷ [] → l ≡ with_entry j author id k
            → IsRoom store' recorded' firsts' holders' changers' done' base limit l
        IsRoom-work l store' recorded' firsts' holders' changers' done' cs touches effect cs_are touches_are store_is effect_is recorded_is firsts_is holders_is noted deeds_is l_is =
            grown k l store' recorded' firsts' holders' changers' done' cs effect (legal_work k work ok) cs_are store_is effect_is recorded_is
            (firsts_is ∙ ap (λ os. firsts ++ origin_next os k ∷ []) r.firsts_are)
            (AreHolders-work base j holders r.holders_are (record { author = author; id = id; kind = k }) does.action holders' touches does.works does.records
            (touches_are ∙ ap (λ (w : Recorded A). w.footprint) does.records) holders_is)
            noted deeds_is l_is

      -- an accepted undo in a room
      module _ (s : ℕ) (ok : undo_refusal (past base j) j author s ≡ None) where
        there : Found (past base j) j author s
        there = found (past base j) j author s ok

        finds : Undone base j s (record { author = author; id = id; kind = Undo s })
        finds = undone base j (record { author = author; id = id; kind = Undo s }) s r.base_sound room_led refl there.there there.free

        -- the entry is among the author's active deeds
        pub stands_there : (ds : List Deed) → ds ≡ done → stacks.is_standing ds author s ≡ true
        stands_there ds is = ap (λ d. stacks.is_standing d author s) (is ∙ r.deeds_are) ∙ stands_among j author s there.there there.own

        -- the entry holds exactly the touches of its footprint
        pub holds_just : HoldsOnly holders (recorded_footprint (past base j) s) s
        holds_just = holds_own (past base j) j holders r.holders_are s there.there

        after_sound : is_sound (mapof base (with_entry j author id (Undo s))) ≡ true
        after_sound = led_sound base (with_entry j author id (Undo s)) r.base_sound finds.led

        pub undo_from : ((m n : Rows A) → AreChanges (differences m n)) → ((m n : Rows A) → AreFrom m (differences m n)) → ((m : Rows A) (cs : List (Change A)) → AreInOrder m → AreChanges cs → AreFrom m cs → AreFrom (changed m cs) (inverse cs))
            → AreFrom store.rows (recorded_next (past base j) (Undo s)).changes
        undo_from differ from back =
            let order = sound_in_order before after_sound in
            let leads : changed before taken ≡ store.rows = changed-differences before (after before finds.action) order (AreInOrder-after before finds.action order) ∙ finds.before ∙ sym r.rows_are in
            subst (λ cs. AreFrom store.rows cs) (sym finds.takes_back) (subst (λ m. AreFrom m (inverse taken)) leads (back before taken order (differ before (after before finds.action)) (from before (after before finds.action))))
          where
            before : Rows A
            before = mapof base (with_entry j author id (Undo s))

            taken : List (Change A)
            taken = changes before finds.action

        pub undo_sound : is_sound (changed store.rows (recorded_next (past base j) (Undo s)).changes) ≡ true
        undo_sound =
            ap (λ m. is_sound (changed m (recorded_next (past base j) (Undo s)).changes)) r.rows_are
            ∙ ap is_sound (sym (mapof-append base j (record { author = author; id = id; kind = Undo s }))) ∙ after_sound

        pub IsRoom-undo : (l : List (Entry A)) (store' : StoreState A) (recorded' : List (Effect A)) (firsts' : List ℕ) (holders' : Held) (changers' : List (Touch × LastChange)) (done' : List Deed) (cs : List (Change A)) (effect : Effect A)
            → cs ≡ (recorded_next (past base j) (Undo s)).changes
            → store' ≡ applied_to store cs → effect ≡ effect_of store.rows (recorded_next (past base j) (Undo s)) → recorded' ≡ recorded ++ effect ∷ [] → firsts' ≡ firsts ++ (length j + 1) ∷ [] → holders' ≡ fallen holders s
            → IsNoted j author changers changers' cs → done' ≡ done ++ Undid author id s (length j + 1) ∷ [] → l ≡ with_entry j author id (Undo s)
            → IsRoom store' recorded' firsts' holders' changers' done' base limit l
        IsRoom-undo l store' recorded' firsts' holders' changers' done' cs effect cs_are store_is effect_is recorded_is firsts_is holders_is noted deeds_is l_is =
            grown (Undo s) l store' recorded' firsts' holders' changers' done' cs effect (legal base limit j author id may (requests.Undo (Some s)) (Undo s) refl ok r.journal refl) cs_are store_is effect_is recorded_is
            (firsts_is ∙ ap (λ n. firsts ++ n ∷ []) own_origin)
            (AreHolders-undo base j holders r.holders_are (record { author = author; id = id; kind = Undo s }) s holders' refl there.there holders_is)
            noted deeds_is l_is
