-- No lost update: an accepted edit changes nothing that another author changed after what its author had seen.
use Rattle.std.proofs.Common.{◌≡◌, ◌⊎◌, ◌↔◌, ◌+◌, ◌<◌, ◌≤◌, ◌-◌, ℕ, zero, suc, Bool, true, false, List, [], ◌∷◌, Option, Some, None, length, slice_get, nat_lt, nat_le, refl, sym, ap, subst, ◌∙◌, arith, inl, inr, option_map, is_lt}
use Rattle.std.proofs.lemmas.Bool.Decides.{nat_tests}
use Rattle.std.proofs.lemmas.List.{take_all}
use Rattle.osm_changes.specs.Cells.{IsRising, has}
use Rattle.osm_changes.specs.Changes.{changed}
use Rattle.room_interface.specs.declared.edit.Edit.{Edit as Action}
use Rattle.room_interface.specs.declared.call.Request.TheVariants as requests
use Rattle.room_history.specs.Prelude.{then_some, first_that_holds, Name, name_cmp, Cell, Rows, AreInOrder, Change, changed_cells, half_at, differences, inverse, AreChanges, AreFrom, is_sound, sound_in_order, changed-differences, after, AreInOrder-after, changes, refusal, Author, is_same_author, Call, Entry, Do, Reply, Done, NoSuch, Refused, Changed, Repeat, Full, IsJournal, Recorded, past, mapof, recorded_next, numbered, is_by, spent, meant, kind_refusal, guarded_refusal, seen, changed_since, overwritten, answer_by, answer, Changes, Differ, map_at, Overwritten, IsNothingLost, IsRefusedExactlyWhere, IsSameUnseen}
use Rattle.room_history.specs.Inner.Changers.{IsLast, IsOutcome}
use Rattle.room_history.proofs.Appending.{mapof-work}
use Rattle.room_history.proofs.ChangedCells.{differs_there, same_elsewhere}
use Rattle.room_history.proofs.Deciding.{unspent}
use Rattle.room_history.proofs.EntryCells.{IsOf, entry_of}
use Rattle.room_history.proofs.Keeping.{journal_led}
use Rattle.room_history.proofs.Leading.{led_sound}
use Rattle.room_history.proofs.OthersFound.{IsFound, last_found, none_later}
use Rattle.room_history.proofs.Outcomes.{Appended, Left, no_acceptance, outcome, unguarded, guarded_refused, Refuses}
use Rattle.room_history.proofs.Overwriting.{last_to_change}
use Rattle.room_history.proofs.Overwriting as overwriting

item_within : {X : Type 0} (xs : List X) (i : ℕ) (x : X) → slice_get xs i ≡ Some x → i < length xs
item_within [] i x e = absurd (cc)
item_within (y ∷ ys) zero x e = omega arith
item_within (y ∷ ys) (suc i) x e = let low = item_within ys i x e in omega (arith, low)

module _ {A : Type 0} where
  -- the checks of an edit whose author had seen the first entries
  record Passes (b : Bool) (o : Option (Reply A)) (q : Option (ℕ × Name)) : Type 0 where
    not_ahead : b ≡ false
    fits : o ≡ None
    free : q ≡ None

  passes : (b : Bool) (o : Option (Reply A)) (q : Option (ℕ × Name)) → first_that_holds (then_some b NoSuch ∷ o ∷ option_map changed_since q ∷ []) ≡ None → Passes b o q
  passes true o q e = absurd (cc)
  passes false (Some r) q e = absurd (cc)
  passes false None (Some b) e = absurd (cc)
  passes false None None e = record { not_ahead = refl; fits = refl; free = refl }

  module _ (differ : (m n : Rows A) → AreChanges (differences m n)) (from : (m n : Rows A) → AreFrom m (differences m n))
      (back : (m : Rows A) (cs : List (Change A)) → AreInOrder m → AreChanges cs → AreFrom m cs → AreFrom (changed m cs) (inverse cs)) (base : Rows A) (sound : is_sound base ≡ true) (limit : ℕ) (j : List (Entry A)) (legal : IsJournal base limit j) where
    order : AreInOrder (mapof base j)
    order = sound_in_order (mapof base j) (led_sound base j sound (journal_led base sound limit j legal))

    of_entry : (s : ℕ) → 0 < s → s ≤ length j → IsOf differ from back base sound limit j legal s
    of_entry = entry_of differ from back base sound limit j legal

    -- an author's edit, who had seen the first n entries
    module _ (author : Author) (n : ℕ) (a : Action A) where
      abbrev cells : List Cell
      cells = changed_cells (changes (mapof base j) a)

      abbrev last : Cell → ℕ
      last x = last_to_change author x 1 j (past base j).entries

      rising : IsRising cells
      rising = (differ (mapof base j) (after (mapof base j) a)).rising

      leads : changed (mapof base j) (changes (mapof base j) a) ≡ after (mapof base j) a
      leads = changed-differences (mapof base j) (after (mapof base j) a) order (AreInOrder-after (mapof base j) a order)

      would : (x : Cell) → has cells x ≡ true → Differ (after (mapof base j) a) (mapof base j) x
      would x h same = differs_there (mapof base j) (changes (mapof base j) a) (differ (mapof base j) (after (mapof base j) a)) (from (mapof base j) (after (mapof base j) a)) x h (ap (λ m. half_at m x) leads ∙ same)

      would_not : (x : Cell) → has cells x ≡ false → half_at (after (mapof base j) a) x ≡ half_at (mapof base j) x
      would_not x h = ap (λ m. half_at m x) (sym leads) ∙ same_elsewhere (mapof base j) (changes (mapof base j) a) (differ (mapof base j) (after (mapof base j) a)) (from (mapof base j) (after (mapof base j) a)) x h

      found : IsOutcome n last cells (overwritten author n cells 1 j (past base j).entries)
      found = overwriting.outcome author n cells rising 1 (omega arith) j (past base j).entries

      -- the entry that is found would be overwritten
      is_overwritten : (x : Cell) (s : ℕ) → IsFound (λ (r : Recorded A). has (changed_cells r.changes) x) author 1 j (past base j).entries s → n < s → has cells x ≡ true → Overwritten base j author n a s x.name
      is_overwritten x s f late inside = (late, low, not_own, x, refl, there, would x inside)
        where
          number : s ≡ suc f.place
          number = let at = f.number in omega (arith, at)

          low : s ≤ length j
          low = let within = item_within j f.place f.entry f.is in omega (arith, within, number)

          entry_is : numbered j s ≡ Some f.entry
          entry_is = ap (numbered j) number ∙ f.is

          not_own : is_by author (numbered j s) ≡ true → ⊥
          not_own own = absurd (cc (sym own ∙ ap (is_by author) entry_is ∙ f.other))

          of : IsOf differ from back base sound limit j legal s
          of = of_entry s (omega (arith, late)) low

          same_record : of.recorded ≡ f.recorded
          same_record = let same : Some of.recorded ≡ Some f.recorded = sym of.record_is ∙ ap (numbered (past base j).entries) number ∙ f.record_is in cc

          there : Changes base j s x
          there = of.changes_there x (ap (λ (r : Recorded A). has (changed_cells r.changes) x) same_record ∙ f.passes)

      -- an entry that would be overwritten at a cell is at most the last that changed it
      record IsBefore (s : ℕ) (x : Cell) : Type 0 where
        inside : has cells x ≡ true
        low : s ≤ last x

      is_before : (s : ℕ) (x : Cell) → n < s → s ≤ length j → (is_by author (numbered j s) ≡ true → ⊥) → Changes base j s x → Differ (after (mapof base j) a) (mapof base j) x → IsBefore s x
      is_before zero x late low not_own there here = absurd (omega (arith, late))
      is_before (suc i) x late low not_own there here = record {
        inside = inside (has cells x) refl;
        low =
            let at = none_later (λ (r : Recorded A). has (changed_cells r.changes) x) author 1 (omega arith) j (past base j).entries i of.entry of.recorded of.is of.record_is
            (other (is_same_author author of.entry.author) refl) (changed_it (has (changed_cells of.recorded.changes) x) refl) in
            omega (arith, at);
      }
        where
          of : IsOf differ from back base sound limit j legal (suc i)
          of = of_entry (suc i) (omega arith) low

          inside : (b : Bool) → has cells x ≡ b → has cells x ≡ true
          inside true e = e
          inside false e = absurd (here (would_not x e))

          changed_it : (b : Bool) → has (changed_cells of.recorded.changes) x ≡ b → has (changed_cells of.recorded.changes) x ≡ true
          changed_it true e = e
          changed_it false e = absurd (there (of.stays_elsewhere x e))

          other : (b : Bool) → is_same_author author of.entry.author ≡ b → is_same_author author of.entry.author ≡ false
          other false e = e
          other true e = absurd (not_own (ap (is_by author) of.is ∙ e))

      none_overwritten : overwritten author n cells 1 j (past base j).entries ≡ None → (s : ℕ) (e : Name) → Overwritten base j author n a s e → ⊥
      none_overwritten none s e (late, low, not_own, x, named, there, here) =
          let before = is_before s x late low not_own there here in
          let few = subst (IsOutcome n last cells) none found x before.inside in
          let high = before.low in
          absurd (omega (arith, late, few, high))

      -- the last entry that would be overwritten, with the least name
      record IsTheLast (b : ℕ) (x : Name) : Type 0 where
        it : Overwritten base j author n a b x
        most : (t : ℕ) (y : Name) → Overwritten base j author n a t y → t ≤ b
        least : (y : Name) → Overwritten base j author n a b y → is_lt (name_cmp y x) ≡ false

      last_overwritten : (b : ℕ) (x : Name) → overwritten author n cells 1 j (past base j).entries ≡ Some (b, x) → IsTheLast b x
      last_overwritten b x some = record {
        it = subst (Overwritten base j author n a b) is.name
            (is_overwritten is.cell b (last_found (λ (r : Recorded A). has (changed_cells r.changes) is.cell) author 1 j (past base j).entries b is.number (let late = is.later in omega (arith, late))) is.later is.inside);
        most = λ t y (late, low, not_own, z, named, there, here).
            let before = is_before t z late low not_own there here in let few = is.most z before.inside in let high = before.low in omega (arith, few, high);
        least = λ y (late, low, not_own, z, named, there, here).
            let before = is_before b z late low not_own there here in let few = is.most z before.inside in let high = before.low in
            ap (λ w. is_lt (name_cmp w x)) (sym named) ∙ is.least z before.inside (omega (arith, few, high));
      }
        where
          is : IsLast n last cells b x
          is = subst (IsOutcome n last cells) some found

      -- the decision on the edit, if the map accepts it
      module _ (id : ℕ) (fresh : spent j author id ≡ None) (room : nat_le limit (length j) ≡ false) (low : n ≤ length j) (ok : refusal (mapof base j) a ≡ None) where
        abbrev c : Call A
        c = record { author = author; id = id; request = requests.Do a (Some n) }

        abbrev reply : Reply A
        reply = (answer base limit j c).0

        says : (o : Option (ℕ × Name)) → overwritten author n cells 1 j (past base j).entries ≡ o → reply ≡ (answer_by j c (option_map changed_since o) (Some (Do a))).0
        says o e =
            ap (λ (q : Reply A × List (Entry A)). q.0) (unspent base limit j c fresh room)
            ∙ ap (λ b. (answer_by j c (first_that_holds (then_some b NoSuch ∷ option_map Refused (refusal (mapof base j) a) ∷ option_map changed_since (overwritten author n cells 1 j (past base j).entries) ∷ [])) (Some (Do a))).0) not_ahead
            ∙ ap (λ r. (answer_by j c (first_that_holds (option_map Refused r ∷ option_map changed_since (overwritten author n cells 1 j (past base j).entries) ∷ [])) (Some (Do a))).0) ok
            ∙ ap (λ q. (answer_by j c (first_that_holds (option_map changed_since q ∷ [])) (Some (Do a))).0) e ∙ by o
          where
            not_ahead : nat_lt (length j) n ≡ false
            not_ahead = grind (arith, nat_tests)

            by : (o : Option (ℕ × Name)) → (answer_by j c (first_that_holds (option_map changed_since o ∷ [])) (Some (Do a))).0 ≡ (answer_by j c (option_map changed_since o) (Some (Do a))).0
            by None = refl
            by (Some b) = refl

        not_both : (r : Reply A) (seq b : ℕ) (x : Name) → r ≡ Done seq → r ≡ Changed b x → ⊥
        not_both r seq b x e f = absurd (cc (sym e ∙ f))

        decided : (o : Option (ℕ × Name)) → overwritten author n cells 1 j (past base j).entries ≡ o
            → ((reply ≡ Done (length j + 1)) ↔ ((s : ℕ) (e : Name) → Overwritten base j author n a s e → ⊥))
            × ((s : ℕ) (e : Name) → Overwritten base j author n a s e
            → (b : ℕ) × (x : Name) × (reply ≡ Changed b x) × Overwritten base j author n a b x
            × ((t : ℕ) (y : Name) → Overwritten base j author n a t y → t ≤ b)
            × ((y : Name) → Overwritten base j author n a b y → is_lt (name_cmp y x) ≡ false))
        decided None e = (
          (λ _. none_overwritten e, λ _. says None e),
          λ s y h. absurd (none_overwritten e s y h),
        )
        decided (Some b) e =
            let is = last_overwritten b.0 b.1 e in
            let refused : reply ≡ Changed b.0 b.1 = says (Some b) e in (
              (λ done. absurd (not_both reply (length j + 1) b.0 b.1 done refused), λ free. absurd (free b.0 b.1 is.it)),
              λ s y h. (b.0, b.1, refused, is.it, is.most, is.least),
            )

    pub is_refused_exactly_where : IsRefusedExactlyWhere base limit j
    is_refused_exactly_where author id n a fresh room low ok = decided author n a id fresh room low ok (overwritten author n (cells author n a) 1 j (past base j).entries) refl

    -- an accepted edit
    module _ (c : Call A) (a : Action A) (n seq : ℕ) (asks : c.request ≡ requests.Do a (Some n)) (done : (answer base limit j c).0 ≡ Done seq) where
      record IsDone : Type 0 where
        guarded : guarded_refusal (past base j) j c.author (Do a) (Some n) ≡ None
        map_is : mapof base (answer base limit j c).1 ≡ after (mapof base j) a

      was_done : IsDone
      was_done = by (outcome base limit j c)
        where
          by : Appended base j c (answer base limit j c) ⊎ Left j (answer base limit j c) → IsDone
          by (inr l) = absurd (no_acceptance ((answer base limit j c).0) (Done seq) l.refused refl done)
          by (inl app) =
              let kind_is : Do a ≡ app.kind = let same : Some (Do a) ≡ Some app.kind = ap (meant j c.author) (sym asks) ∙ app.means in cc in
              let e : Entry A = record { author = c.author; id = c.id; kind = app.kind } in
              record {
                guarded = ap (λ k. guarded_refusal (past base j) j c.author k (Some n)) kind_is ∙ ap (λ r. guarded_refusal (past base j) j c.author app.kind (seen r)) (sym asks) ∙ app.guarded;
                map_is = ap (λ (q : Reply A × List (Entry A)). mapof base q.1) app.is ∙ mapof-work base j e a order (ap (recorded_next (past base j)) (sym kind_is));
              }

      checks : Passes (nat_lt (length j) n) (option_map Refused (refusal (mapof base j) a)) (overwritten c.author n (cells c.author n a) 1 j (past base j).entries)
      checks = passes (nat_lt (length j) n) (option_map Refused (refusal (mapof base j) a)) (overwritten c.author n (cells c.author n a) 1 j (past base j).entries) was_done.guarded

      all_seen : n ≤ length j
      all_seen = let not_ahead = checks.not_ahead in grind (arith, nat_tests)

      own : (s : ℕ) (x : Cell) → n < s → s ≤ length j → Changes base j s x → Differ (mapof base (answer base limit j c).1) (mapof base j) x → is_by c.author (numbered j s) ≡ true
      own s x late low there here = by (is_by c.author (numbered j s)) refl
        where
          by : (b : Bool) → is_by c.author (numbered j s) ≡ b → is_by c.author (numbered j s) ≡ true
          by true e = e
          by false e = absurd (none_overwritten c.author n a checks.free s x.name (late, low, (λ own. absurd (cc (sym own ∙ e))), x, refl, there, λ same. here (ap (λ m. half_at m x) was_done.map_is ∙ same)))

      module _ (alone : (s : ℕ) → n < s → is_by c.author (numbered j s) ≡ true → ⊥) (x : Cell) (here : Differ (mapof base (answer base limit j c).1) (mapof base j) x) where
        stays : (d : ℕ) → n + d ≤ length j → half_at (map_at base j (n + d)) x ≡ half_at (map_at base j n) x
        stays zero low = ap (λ m. half_at (map_at base j m) x) (let same : n + 0 ≡ n = omega arith in same)
        stays (suc d) low = by (has (changed_cells of.recorded.changes) x) refl (stays d (omega (arith, low)))
          where
            of : IsOf differ from back base sound limit j legal (n + suc d)
            of = of_entry (n + suc d) (omega arith) low

            by : (b : Bool) → has (changed_cells of.recorded.changes) x ≡ b → half_at (map_at base j (n + d)) x ≡ half_at (map_at base j n) x → half_at (map_at base j (n + suc d)) x ≡ half_at (map_at base j n) x
            by true e go = absurd (alone (n + suc d) (omega arith) (own (n + suc d) x (omega arith) low (of.changes_there x e) here))
            by false e go = of.stays_elsewhere x e ∙ ap (λ m. half_at (map_at base j m) x) (let same : n + suc d - 1 ≡ n + d = omega arith in same) ∙ go

        unchanged : half_at (mapof base j) x ≡ half_at (map_at base j n) x
        unchanged =
            let low = all_seen in
            let whole : n + (length j - n) ≡ length j = omega (arith, low) in
            ap (λ k. half_at (mapof base k) x) (sym (take_all (length j) j (omega arith))) ∙ ap (λ m. half_at (map_at base j m) x) (sym whole) ∙ stays (length j - n) (omega (arith, whole))

    pub is_nothing_lost : IsNothingLost base limit j
    is_nothing_lost c a n seq asks done = (all_seen c a n seq asks done, own c a n seq asks done, λ alone x here. unchanged c a n seq asks done alone x here)

  pub is_same_unseen : (base : Rows A) (limit : ℕ) (j : List (Entry A)) → IsSameUnseen base limit j
  is_same_unseen base limit j author id n seq a done =
      by (spent j author id) (nat_le limit (length j)) (guarded_refusal (past base j) j author (Do a) (Some n)) refl (guarded_refused (past base j) j author (Do a) (Some n)) done
    where
      c : Option ℕ → Call A
      c since = record { author = author; id = id; request = requests.Do a since }

      by : (o : Option ℕ) (full : Bool) (g : Option (Reply A)) → guarded_refusal (past base j) j author (Do a) (Some n) ≡ g → Refuses g
          → (answer_by j (c (Some n)) (first_that_holds (option_map Repeat o ∷ then_some full Full ∷ guarded_refusal (past base j) j author (Do a) (Some n) ∷ [])) (Some (Do a))).0 ≡ Done seq
          → answer_by j (c (Some n)) (first_that_holds (option_map Repeat o ∷ then_some full Full ∷ guarded_refusal (past base j) j author (Do a) (Some n) ∷ [])) (Some (Do a))
          ≡ answer_by j (c None) (first_that_holds (option_map Repeat o ∷ then_some full Full ∷ kind_refusal (past base j) j author (Do a) ∷ [])) (Some (Do a))
      by (Some s) full g is refuses e = absurd (cc)
      by None true g is refuses e = absurd (cc)
      by None false (Some r) is refuses e =
          absurd (no_acceptance r (Done seq) refuses refl (sym (ap (λ g. (answer_by j (c (Some n)) (first_that_holds (g ∷ [])) (Some (Do a))).0) is) ∙ e))
      by None false None is refuses e =
          ap (λ g. answer_by j (c (Some n)) (first_that_holds (g ∷ [])) (Some (Do a))) is
          ∙ sym (ap (λ g. answer_by j (c None) (first_that_holds (g ∷ [])) (Some (Do a))) (unguarded (past base j) j author (Do a) (Some n) is))
