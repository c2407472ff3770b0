-- An accepted action that is undone in the next accepted call.
use Rattle.std.proofs.Common.{◌≡◌, ◌+◌, ◌++◌, ◌∷◌, ◌⊎◌, ◌&&◌, ℕ, suc, Bool, true, false, not, List, [], Option, Some, None, length, refl, cond, nat_eq, nat_lt, nat_le, sym, ap, ◌∙◌, arith, inl, inr, length-append, filter, option_map}
use Rattle.std.proofs.lemmas.Bool.Decides.{nat_tests}
use Rattle.std.proofs.lemmas.List.Elements.{filter-append}
use Rattle.room_history.specs.Prelude.{Name, AreInOrder, Rows, is_same_text, users, inverse, is_sound, changed-inverse, sound_in_order, after, changes, AreInOrder-after, first_meeting, Author, is_same_author, Call, Entry, EntryKind, Do, Undo, Redo, Reply, Undid, spent, conflict, asked, meant, undo_refusal, redo_refusal, kind_refusal, guarded_refusal, seen, meaning_refusal, answer_by, answer, answers, recorded_footprint, blocker, IsUndoneAtOnce, numbered, is_by, is_work, is_standing, standing, last, Past, past, mapof, recorded_of, recorded_next, taken_back, action_at, done_again}
use Rattle.osm_changes.specs.Changes.{changed}
use Rattle.room_interface.specs.declared.edit.Edit.{Edit as Action}
use Rattle.room_history.proofs.Appending.{mapof-append, mapof-work, recorded-last, standing-work, standing-undo}
use Rattle.room_history.proofs.Deciding.{unspent, own_refusal}
use Rattle.room_history.proofs.Growing.{numbered_next, Rise, Rise-standing_from}
use Rattle.room_history.proofs.HeldEntries.{with_touches, blocker_is}
use Rattle.room_history.proofs.LastItems.{last-append}
use Rattle.room_history.proofs.Outcomes.{outcome, got_longer}
use Rattle.room_history.proofs.RisingNumbers.{is_in, last_there, none_behind, others_stay}
use Rattle.room_interface.specs.declared.call.Request.TheVariants as requests

pub same_author : (text : List ℕ) → is_same_author text text ≡ true
same_author [] = refl
same_author (x ∷ text) = let same : nat_eq x x ≡ true = grind (arith, nat_tests) in ap (λ b. b && is_same_text text text) same ∙ same_author text

last-filter_last : {X : Type 0} (p : X → Bool) (xs : List X) (y : X) → p y ≡ true → last (filter p (xs ++ y ∷ [])) ≡ Some y
last-filter_last p xs y e =
    ap last (filter-append p xs (y ∷ []) ∙ ap (λ b. filter p xs ++ cond b (y ∷ []) []) e) ∙ last-append (filter p xs) y

-- the record of an accepted entry that does or redoes an action is that of the action
worked : {A : Type 0} (p : Past A) (j : List (Entry A)) (author : Author) (k : EntryKind A) → kind_refusal p j author k ≡ None → is_work k ≡ true → (a : Action A) × (recorded_next p k ≡ recorded_of p.map a)
worked p j author (Do a) passes h = (a, refl)
worked p j author (Undo t) passes h = absurd (cc)
worked p j author (Redo t) passes h = by (action_at p t) refl passes
  where
    by : (o : Option (Action _)) → action_at p t ≡ o → redo_refusal p.map o ≡ None → (a : Action _) × (done_again p.map (action_at p t) ≡ recorded_of p.map a)
    by None is e = absurd (cc)
    by (Some a) is e = (a, ap (done_again p.map) is)

module _ {A : Type 0} (base : Rows A) (j : List (Entry A)) (order : AreInOrder (mapof base j)) (e : Entry A) (work : is_work e.kind ≡ true) (a : Action A) (records : recorded_next (past base j) e.kind ≡ recorded_of (mapof base j) a) where
  -- the number of the new entry, in both forms that lemmas use
  number : suc (length j) ≡ length j + 1
  number = omega arith

  standing_is : standing (j ++ e ∷ []) ≡ standing j ++ (length j + 1) ∷ []
  standing_is = standing-work j e work ∙ ap (λ n. standing j ++ n ∷ []) (let n : 1 + length j ≡ length j + 1 = omega arith in n)

  is_there : numbered (j ++ e ∷ []) (length j + 1) ≡ Some e
  is_there = ap (numbered (j ++ e ∷ [])) (sym number) ∙ numbered_next j e

  is_mine : is_by e.author (numbered (j ++ e ∷ []) (length j + 1)) ≡ true
  is_mine = ap (is_by e.author) is_there ∙ same_author e.author

  is_last : asked (j ++ e ∷ []) e.author None ≡ Some (length j + 1)
  is_last =
      ap (λ ss. last (filter (λ s. is_by e.author (numbered (j ++ e ∷ []) s)) ss)) standing_is
      ∙ last-filter_last (λ s. is_by e.author (numbered (j ++ e ∷ []) s)) (standing j) (length j + 1) is_mine

  stands : is_standing (j ++ e ∷ []) (length j + 1) ≡ true
  stands = ap (is_in (length j + 1)) standing_is ∙ last_there (length j + 1) (standing j)

  rise : Rise 1 (standing j) (1 + length j)
  rise = Rise-standing_from 1 j

  unblocked : blocker (past base (j ++ e ∷ [])) (j ++ e ∷ []) (length j + 1) ≡ None
  unblocked =
      blocker_is (past base (j ++ e ∷ [])) (j ++ e ∷ []) (length j + 1) stands
      ∙ ap (λ ss. first_meeting (recorded_footprint (past base (j ++ e ∷ [])) (length j + 1)) (with_touches (recorded_footprint (past base (j ++ e ∷ []))) ss))
      (ap (filter (nat_lt (length j + 1))) standing_is ∙ none_behind (length j + 1) 1 (standing j) (1 + length j) rise (omega arith))

  undo_accepted : undo_refusal (past base (j ++ e ∷ [])) (j ++ e ∷ []) e.author (length j + 1) ≡ None
  undo_accepted = own_refusal (past base (j ++ e ∷ [])) (j ++ e ∷ []) e.author (length j + 1) is_mine stands ∙ ap (option_map conflict) unblocked

  -- the map after the undo
  back : (u : Entry A) → u.kind ≡ Undo (length j + 1) → mapof base ((j ++ e ∷ []) ++ u ∷ []) ≡ mapof base j
  back u is =
      mapof-append base (j ++ e ∷ []) u
      ∙ ap (λ w. changed (mapof base (j ++ e ∷ [])) (recorded_next (past base (j ++ e ∷ [])) w).changes) is
      ∙ ap (λ n. changed (mapof base (j ++ e ∷ [])) (taken_back (numbered (past base (j ++ e ∷ [])).entries n)).changes) (sym number)
      ∙ ap (λ o. changed (mapof base (j ++ e ∷ [])) (taken_back o).changes) (recorded-last base j e ∙ ap Some records)
      ∙ ap (λ m. changed m (inverse (changes (mapof base j) a))) (mapof-work base j e a order records)
      ∙ changed-inverse (mapof base j) (after (mapof base j) a) order (AreInOrder-after (mapof base j) a order)

  stands_again : (u : Entry A) → u.kind ≡ Undo (length j + 1) → standing ((j ++ e ∷ []) ++ u ∷ []) ≡ standing j
  stands_again u is =
      standing-undo (j ++ e ∷ []) u (length j + 1) is ∙ ap (filter (λ t. not (nat_eq t (length j + 1)))) standing_is
      ∙ others_stay (length j + 1) 1 (standing j) (1 + length j) rise (omega arith)

  -- the first clause of the theorem
  is_undone_at_once_by : (limit : ℕ) (between : List (Call A)) (c : Call A)
      → (answers base limit (j ++ e ∷ []) between).1 ≡ j ++ e ∷ []
      → c.author ≡ e.author
      → (c.request ≡ requests.Undo None) ⊎ (c.request ≡ requests.Undo (Some (length j + 1)))
      → spent (j ++ e ∷ []) c.author c.id ≡ None
      → nat_le limit (length (j ++ e ∷ [])) ≡ false
      → let step = answer base limit (answers base limit (j ++ e ∷ []) between).1 c in
      (step.0 ≡ Undid (length j + 2) (length j + 1))
      × (mapof base step.1 ≡ mapof base j)
      × ((x : Name) → users (mapof base step.1) x ≡ users (mapof base j) x)
      × (standing step.1 ≡ standing j)
  is_undone_at_once_by limit between c kept mine asks fresh room =
      let k = j ++ e ∷ [] in
      let u : Entry A = record { author = c.author; id = c.id; kind = Undo (length j + 1) } in
      let size : length k ≡ length j + 1 = length-append j (e ∷ []) in
      let step_is : answer base limit (answers base limit k between).1 c ≡ (Undid (length j + 2) (length j + 1), k ++ u ∷ []) =
      ap (λ l. answer base limit l c) kept ∙ unspent base limit k c fresh room
      ∙ ap (λ o. answer_by k c (meaning_refusal (past base k) k c o) o) (asked_for asks)
      ∙ ap (λ o. answer_by k c (guarded_refusal (past base k) k c.author (Undo (length j + 1)) o) (Some (Undo (length j + 1)))) (says_nothing asks)
      ∙ ap (λ o. answer_by k c o (Some (Undo (length j + 1)))) (ap (λ w. undo_refusal (past base k) k w (length j + 1)) mine ∙ undo_accepted)
      ∙ ap (λ n. (Undid n (length j + 1), k ++ u ∷ [])) (ap (λ n. n + 1) size ∙ omega arith) in
      let map_is : mapof base (answer base limit (answers base limit k between).1 c).1 ≡ mapof base j = ap (λ (p : Reply A × List (Entry A)). mapof base p.1) step_is ∙ back u refl in (
        ap (λ (p : Reply A × List (Entry A)). p.0) step_is,
        map_is,
        λ x. ap (λ m. users m x) map_is,
        ap (λ (p : Reply A × List (Entry A)). standing p.1) step_is ∙ stands_again u refl,
      )
    where
      says_nothing : (c.request ≡ requests.Undo None) ⊎ (c.request ≡ requests.Undo (Some (length j + 1))) → seen c.request ≡ None
      says_nothing (inl is) = ap seen is
      says_nothing (inr is) = ap seen is

      asked_for : (c.request ≡ requests.Undo None) ⊎ (c.request ≡ requests.Undo (Some (length j + 1))) → meant (j ++ e ∷ []) c.author c.request ≡ Some (Undo (length j + 1))
      asked_for (inl is) = ap (meant (j ++ e ∷ []) c.author) is ∙ ap (λ w. option_map Undo (asked (j ++ e ∷ []) w None)) mine ∙ ap (option_map Undo) is_last
      asked_for (inr is) = ap (meant (j ++ e ∷ []) c.author) is

pub is_undone_at_once : {A : Type 0} (base : Rows A) (limit : ℕ) (j : List (Entry A)) → is_sound (mapof base j) ≡ true → IsUndoneAtOnce base limit j
is_undone_at_once base limit j sound accepted e between c appended work =
    let got = got_longer base j accepted (answer base limit j accepted) e (outcome base limit j accepted) appended in
    let kind_is : e.kind ≡ got.0.kind = ap (λ (f : Entry _). f.kind) got.1 in
    let w = worked (past base j) j accepted.author e.kind (ap (kind_refusal (past base j) j accepted.author) kind_is ∙ got.0.passes) work in
    is_undone_at_once_by base j (sound_in_order (mapof base j) sound) e work w.0 w.1 limit between c
