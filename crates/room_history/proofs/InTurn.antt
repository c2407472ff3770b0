-- Undos of an author, followed by as many redos.
use Rattle.std.proofs.Common.{◌≡◌, ◌⊎◌, ◌+◌, ◌++◌, ℕ, suc, true, List, [], ◌∷◌, Option, Some, length, map, reverse, refl, inl, inr, sym, ap, subst, ◌∙◌, arith, length-append}
use Rattle.std.proofs.lemmas.List.{map-append, length-reverse, reverse-append}
use Rattle.room_history.specs.Prelude.{Rows, users, is_sound, Author, Call, Entry, Undo, Redo, Reply, Undid, Redid, with_entry, answer, answers, undo_by, redo_by, undid_from, redid_from, AreFresh, IsRedoneInTurn, past, action_at}
use Rattle.room_interface.specs.declared.edit.Edit.{Edit as Action}
use Rattle.room_history.proofs.LastItems.{ended}
use Rattle.room_history.proofs.Leading.{IsLed}
use Rattle.room_history.proofs.Outcomes.{Appended, Left, no_acceptance, outcome}
use Rattle.room_history.proofs.Redoable.{action_stays}
use Rattle.room_history.proofs.Redoing.{IsBack, Undoes, redone, undo_found}
use Rattle.room_history.proofs.RestLeft.{undoes}

module _ {A : Type 0} where
  -- one more redo
  redid_from-append : (n : ℕ) (ts : List ℕ) (t : ℕ) → redid_from {A = A} n (ts ++ t ∷ []) ≡ redid_from n ts ++ Redid (n + length ts) t ∷ []
  redid_from-append n [] t = ap (λ m. Redid m t ∷ []) (omega arith)
  redid_from-append n (s ∷ ts) t = ap (λ rs. Redid n s ∷ rs) (redid_from-append (n + 1) ts t ∙ ap (λ m. redid_from (n + 1) ts ++ Redid m t ∷ []) (omega arith))

  module _ (base : Rows A) (limit : ℕ) where
    -- one more call
    answers-append : (j : List (Entry A)) (cs : List (Call A)) (c : Call A)
        → answers base limit j (cs ++ c ∷ []) ≡ ((answers base limit j cs).0 ++ (answer base limit (answers base limit j cs).1 c).0 ∷ [], (answer base limit (answers base limit j cs).1 c).1)
    answers-append j [] c = refl
    answers-append j (d ∷ cs) c = ap (λ (p : List (Reply A) × List (Entry A)). ((answer base limit j d).0 ∷ p.0, p.1)) (answers-append (answer base limit j d).1 cs c)

    fresh-append : (j : List (Entry A)) (cs ds : List (Call A)) → AreFresh base limit j (cs ++ ds) → AreFresh base limit j cs × AreFresh base limit (answers base limit j cs).1 ds
    fresh-append j [] ds h = (tt, h)
    fresh-append j (c ∷ cs) ds h = let rest = fresh-append (answer base limit j c).1 cs ds h.2 in ((h.0, h.1, rest.0), rest.1)

    -- the recorded action of an entry stays after any calls
    stays_answered : (j : List (Entry A)) (t : ℕ) (a : Action A) → action_at (past base j) t ≡ Some a → (cs : List (Call A)) → action_at (past base (answers base limit j cs).1) t ≡ Some a
    stays_answered j t a acts [] = acts
    stays_answered j t a acts (c ∷ cs) = stays_answered (answer base limit j c).1 t a (by (answer base limit j c) (outcome base limit j c)) cs
      where
        by : (step : Reply A × List (Entry A)) → Appended base j c step ⊎ Left j step → action_at (past base step.1) t ≡ Some a
        by step (inl w) = ap (λ (p : Reply A × List (Entry A)). action_at (past base p.1) t) w.is ∙ action_stays base j (record { author = c.author; id = c.id; kind = w.kind }) t a acts
        by step (inr l) = ap (λ k. action_at (past base k) t) l.same ∙ acts

    -- redos, after undos of these entries, that lead from the journal k back to the state at the journal j
    record AreRedone (j k : List (Entry A)) (undone : List ℕ) (last : List (Reply A) × List (Entry A)) : Type 0 where
      replies : last.0 ≡ redid_from (length k + 1) (reverse undone)
      back : IsBack base limit j last.1
      size : length last.1 ≡ length k + length undone

    -- the entry that an accepted undo appends
    undid : (j : List (Entry A)) (c : Call A) (n s : ℕ) → (answer base limit j c).0 ≡ Undid n s → answer base limit j c ≡ (Undid n s, with_entry j c.author c.id (Undo s))
    undid j c n s h = by (answer base limit j c) (outcome base limit j c) h
      where
        by : (step : Reply A × List (Entry A)) → Appended base j c step ⊎ Left j step → step.0 ≡ Undid n s → step ≡ (Undid n s, with_entry j c.author c.id (Undo s))
        by step (inl w) h =
            let kind_is : w.kind ≡ Undo s = undoes w.kind (length j + 1) n s (sym (ap (λ (p : Reply A × List (Entry A)). p.0) w.is) ∙ h) in
            (λ i. (h i, (ap (λ (p : Reply A × List (Entry A)). p.1) w.is ∙ ap (with_entry j c.author c.id) kind_is) i))
        by step (inr l) h = absurd (no_acceptance step.0 (Undid n s) l.refused refl h)

    module _ (sound : is_sound base ≡ true) (author : Author) where
      abbrev redos_by : List ℕ → List (Call A)
      redos_by ids = map (redo_by author) ids

      abbrev undos_by : List (ℕ × Option ℕ) → List (Call A)
      undos_by asked = map (undo_by author) asked

      -- an undo in front of the other undos, and a redo after their redos
      one_more : (j : List (Entry A)) → IsLed base j → (q : ℕ × Option ℕ) (s : ℕ) → (answer base limit j (undo_by author q)).0 ≡ Undid (length j + 1) s
          → (qs : List (ℕ × Option ℕ)) (ss front : List ℕ) (id : ℕ)
          → let step = answer base limit j (undo_by author q) in
          let k = (answers base limit step.1 (undos_by qs)).1 in
          AreFresh base limit k (redos_by (front ++ id ∷ []))
          → (AreFresh base limit k (redos_by front) → AreRedone step.1 k ss (answers base limit k (redos_by front)))
          → AreRedone j k (s ∷ ss) (answers base limit k (redos_by (front ++ id ∷ [])))
      one_more j led q s h qs ss front id fresh redone_before = record {
        replies = ap (λ (p : List (Reply A) × List (Entry A)). p.0) whole ∙ (λ i. before.replies i ++ Redid (length l + 1) s ∷ [])
            ∙ ap (λ n. redid_from (length k + 1) (reverse ss) ++ Redid n s ∷ []) number ∙ sym (redid_from-append (length k + 1) (reverse ss) s) ∙ ap (redid_from (length k + 1)) (sym (reverse-append (s ∷ []) ss));
        back = subst (IsBack base limit j) (sym (ap (λ (p : List (Reply A) × List (Entry A)). p.1) whole)) redo.1;
        size = ap (λ (p : List (Reply A) × List (Entry A)). length p.1) whole ∙ length-append l (record { author = author; id = id; kind = Redo s } ∷ []) ∙ omega (arith, before.size);
      }
        where
          u : Entry A
          u = record { author = author; id = q.0; kind = Undo s }

          step_is : answer base limit j (undo_by author q) ≡ (Undid (length j + 1) s, j ++ u ∷ [])
          step_is = undid j (undo_by author q) (length j + 1) s h

          found : Undoes base limit j (undo_by author q) s u
          found = undo_found base limit sound j led (undo_by author q) (length j + 1) s u step_is

          k : List (Entry A)
          k = (answers base limit (answer base limit j (undo_by author q)).1 (undos_by qs)).1

          l : List (Entry A)
          l = (answers base limit k (redos_by front)).1

          parts : AreFresh base limit k (redos_by front) × AreFresh base limit l (redo_by author id ∷ [])
          parts = fresh-append k (redos_by front) (redo_by author id ∷ []) (subst (AreFresh base limit k) (map-append (redo_by author) front (id ∷ [])) fresh)

          before : AreRedone (answer base limit j (undo_by author q)).1 k ss (answers base limit k (redos_by front))
          before = redone_before parts.0

          acts : action_at (past base l) s ≡ Some found.did.action
          acts = stays_answered k s found.did.action
              (stays_answered (answer base limit j (undo_by author q)).1 s found.did.action (ap (λ (p : Reply A × List (Entry A)). action_at (past base p.1) s) step_is ∙ action_stays base j u s found.did.action found.did.acts) (undos_by qs))
              (redos_by front)

          redo : (answer base limit l (redo_by author id) ≡ (Redid (length l + 1) s, with_entry l author id (Redo s))) × IsBack base limit j (with_entry l author id (Redo s))
          redo = redone base limit sound j u s refl found.did l (subst (λ m. IsBack base limit m l) (ap (λ (p : Reply A × List (Entry A)). p.1) step_is) before.back) (redo_by author id) refl refl parts.1.0 parts.1.1 acts

          whole : answers base limit k (redos_by (front ++ id ∷ [])) ≡ ((answers base limit k (redos_by front)).0 ++ Redid (length l + 1) s ∷ [], with_entry l author id (Redo s))
          whole = ap (answers base limit k) (map-append (redo_by author) front (id ∷ [])) ∙ answers-append k (redos_by front) (redo_by author id)
              ∙ ap (λ (p : Reply A × List (Entry A)). ((answers base limit k (redos_by front)).0 ++ p.0 ∷ [], p.1)) redo.0

          number : length l + 1 ≡ (length k + 1) + length (reverse ss)
          number = let n : length (reverse ss) ≡ length ss = length-reverse ss in omega (arith, n, before.size)

      -- as many redos as undos
      in_turn : (asked : List (ℕ × Option ℕ)) (undone ids : List ℕ) (j : List (Entry A)) → IsLed base j
          → let first = answers base limit j (undos_by asked) in
          first.0 ≡ undid_from (length j + 1) undone
          → length ids ≡ length undone
          → AreFresh base limit first.1 (redos_by ids)
          → AreRedone j first.1 undone (answers base limit first.1 (redos_by ids))
      in_turn [] [] [] j led h n fresh = record { replies = refl; back = record { same_map = refl; same_redos = λ other. refl }; size = omega arith }
      in_turn [] [] (x ∷ ids) j led h n fresh = absurd (omega (arith, n))
      in_turn [] (s ∷ ss) ids j led h n fresh = absurd (cc)
      in_turn (q ∷ qs) [] ids j led h n fresh = absurd (cc)
      in_turn (q ∷ qs) (s ∷ ss) [] j led h n fresh = absurd (omega (arith, n))
      in_turn (q ∷ qs) (s ∷ ss) (x ∷ xs) j led h n fresh =
          let one = ended x xs in
          let step = answer base limit j (undo_by author q) in
          let u : Entry A = record { author = author; id = q.0; kind = Undo s } in
          let replied : step.0 ≡ Undid (length j + 1) s = cc in
          let step_is : step ≡ (Undid (length j + 1) s, j ++ u ∷ []) = undid j (undo_by author q) (length j + 1) s replied in
          let longer : length step.1 ≡ length j + 1 = ap (λ (p : Reply A × List (Entry A)). length p.1) step_is ∙ length-append j (u ∷ []) in
          let led_then : IsLed base step.1 = subst (λ k. IsLed base k) (sym (ap (λ (p : Reply A × List (Entry A)). p.1) step_is)) (undo_found base limit sound j led (undo_by author q) (length j + 1) s u step_is).did.led in
          let rest : (answers base limit step.1 (undos_by qs)).0 ≡ undid_from (length j + 1 + 1) ss = cc in
          let size : length one.front ≡ length ss = let e : length one.front + 1 ≡ suc (length ss) = sym (length-append one.front (one.end ∷ [])) ∙ ap length (sym one.is) ∙ n in omega (arith, e) in
          let k = (answers base limit step.1 (undos_by qs)).1 in
          subst (λ ids. AreRedone j k (s ∷ ss) (answers base limit k (redos_by ids))) (sym one.is)
          (one_more j led q s replied qs ss one.front one.end (subst (λ ids. AreFresh base limit k (redos_by ids)) one.is fresh)
          (in_turn qs ss one.front step.1 led_then (rest ∙ ap (λ m. undid_from (m + 1) ss) (sym longer)) size))

pub is_redone_in_turn : {A : Type 0} (base : Rows A) (limit : ℕ) → is_sound base ≡ true → (j : List (Entry A)) → IsLed base j → IsRedoneInTurn base limit j
is_redone_in_turn base limit sound j led author asked undone ids h n fresh =
    let r = in_turn base limit sound author asked undone ids j led h n fresh in
    (r.replies, r.back.same_map, λ x. ap (λ m. users m x) r.back.same_map, r.back.same_redos)
