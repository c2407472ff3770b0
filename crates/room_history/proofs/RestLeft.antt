-- After an accepted undo, the other entries stay active, and their replay gives the map.
use Rattle.std.proofs.Common.{◌≡◌, ◌⊎◌, ◌+◌, ℕ, true, List, Some, None, length, refl, inl, inr, sym, ap, subst, ◌∙◌}
use Rattle.room_history.specs.Prelude.{Rows, is_sound, Call, Entry, EntryKind, Do, Undo, Redo, Reply, Undid, kind_refusal, accepted, with_entry, answer, IsRestLeft, standing, others, past, mapof, replay, actions_of}
use Rattle.room_history.proofs.Appending.{standing-undo}
use Rattle.room_history.proofs.Leading.{IsLed}
use Rattle.room_history.proofs.Outcomes.{Appended, Left, no_acceptance, outcome}
use Rattle.room_history.proofs.TakingBack.{rest_replays}
use Rattle.room_history.proofs.Undoing.{Found, found}

module _ {A : Type 0} where
  -- the reply to an accepted undo has the undone entry
  pub undoes : (k : EntryKind A) (n seq s : ℕ) → accepted n k ≡ Undid seq s → k ≡ Undo s
  undoes (Do a) n seq s e = absurd (cc)
  undoes (Undo t) n seq s e = let same : t ≡ s = cc in ap Undo same
  undoes (Redo t) n seq s e = absurd (cc)

  module _ (base : Rows A) (limit : ℕ) (j : List (Entry A)) (sound : is_sound base ≡ true) (led : IsLed base j) (c : Call A) (seq s : ℕ) where
    -- after a step whose reply is to an accepted undo, the rest is left
    abbrev LeavesRest : Reply A × List (Entry A) → Type 0
    LeavesRest step = step.0 ≡ Undid seq s → (standing step.1 ≡ others j s) × (replay base (actions_of (past base j) (others j s)) ≡ Some (mapof base step.1))

    leaves_rest : kind_refusal (past base j) j c.author (Undo s) ≡ None → (standing (with_entry j c.author c.id (Undo s)) ≡ others j s) × (replay base (actions_of (past base j) (others j s)) ≡ Some (mapof base (with_entry j c.author c.id (Undo s))))
    leaves_rest passes =
        let u : Entry A = record { author = c.author; id = c.id; kind = Undo s } in
        let f : Found (past base j) j c.author s = found (past base j) j c.author s passes in
        (standing-undo j u s refl, rest_replays base j u s sound led refl f.there f.free)

    by_outcome : (step : Reply A × List (Entry A)) → Appended base j c step ⊎ Left j step → LeavesRest step
    by_outcome step (inl a) e =
        let kind_is : a.kind ≡ Undo s = undoes a.kind (length j + 1) seq s (sym (ap (λ (p : Reply A × List (Entry A)). p.0) a.is) ∙ e) in
        let journal_is : step.1 ≡ with_entry j c.author c.id (Undo s) = ap (λ (p : Reply A × List (Entry A)). p.1) a.is ∙ ap (with_entry j c.author c.id) kind_is in
        subst (λ k. (standing k ≡ others j s) × (replay base (actions_of (past base j) (others j s)) ≡ Some (mapof base k))) (sym journal_is) (leaves_rest (ap (kind_refusal (past base j) j c.author) (sym kind_is) ∙ a.passes))
    by_outcome step (inr l) e = absurd (no_acceptance step.0 (Undid seq s) l.refused refl e)

  pub is_rest_left : (base : Rows A) (limit : ℕ) (j : List (Entry A)) → is_sound base ≡ true → IsLed base j → IsRestLeft base limit j
  is_rest_left base limit j sound led c seq s = by_outcome base limit j sound led c seq s (answer base limit j c) (outcome base limit j c)
