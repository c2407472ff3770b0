-- The redo stacks after accepted calls.
use Rattle.std.proofs.Common.{◌≡◌, ◌⊎◌, ◌+◌, ◌++◌, ℕ, false, List, [], ◌∷◌, Some, length, refl, cond, inl, inr, sym, ap, subst, ◌∙◌}
use Rattle.room_history.specs.Prelude.{Rows, Author, is_same_author, Call, Entry, EntryKind, Do, Undo, Redo, Reply, Done, Undid, Redid, meant, accepted, with_entry, answer, IsRedoStacked, redos, redos_after}
use Rattle.room_history.proofs.Appending.{redos-append}
use Rattle.room_history.proofs.AtOnce.{same_author}
use Rattle.room_history.proofs.Keeping.{meant_redo}
use Rattle.room_history.proofs.LastItems.{last_put_back}
use Rattle.room_history.proofs.Outcomes.{Appended, Left, no_acceptance, outcome}

module _ {A : Type 0} (j : List (Entry A)) (c : Call A) where
  -- an accepted call of each kind changes the redo stacks in this way
  abbrev Stacks : ℕ → ℕ → Reply A × List (Entry A) → Type 0
  Stacks seq s step =
      (step.0 ≡ Done seq → redos step.1 c.author ≡ [])
      × (step.0 ≡ Undid seq s → redos step.1 c.author ≡ redos j c.author ++ s ∷ [])
      × (step.0 ≡ Redid seq s → redos j c.author ≡ redos step.1 c.author ++ s ∷ [])
      × ((other : Author) → is_same_author other c.author ≡ false → redos step.1 other ≡ redos j other)

  own_stack : (k : EntryKind A) → redos (with_entry j c.author c.id k) c.author ≡ redos_after (redos j c.author) k
  own_stack k = let e : Entry A = record { author = c.author; id = c.id; kind = k } in redos-append j e c.author ∙ ap (λ b. cond b (redos_after (redos j c.author) k) (redos j c.author)) (same_author c.author)

  other_stack : (k : EntryKind A) (other : Author) → is_same_author other c.author ≡ false → redos (with_entry j c.author c.id k) other ≡ redos j other
  other_stack k other apart = let e : Entry A = record { author = c.author; id = c.id; kind = k } in redos-append j e other ∙ ap (λ b. cond b (redos_after (redos j other) k) (redos j other)) apart

  of_kind : (n seq s : ℕ) (k : EntryKind A) → meant j c.author c.request ≡ Some k → Stacks seq s (accepted n k, with_entry j c.author c.id k)
  of_kind n seq s (Do a) means = (λ e. own_stack (Do a), λ e. absurd (cc), λ e. absurd (cc), other_stack (Do a))
  of_kind n seq s (Undo t) means = (λ e. absurd (cc), λ e. own_stack (Undo t) ∙ ap (λ u. redos j c.author ++ u ∷ []) (same (Undid n t) refl e), λ e. absurd (cc), other_stack (Undo t))
    where
      same : (r : Reply A) → r ≡ Undid n t → r ≡ Undid seq s → t ≡ s
      same r is e = cc
  of_kind n seq s (Redo t) means = (
    λ e. absurd (cc),
    λ e. absurd (cc),
    λ e. last_put_back (redos j c.author) t (meant_redo j c.author c.request t means) ∙ ap (λ stack. stack ++ t ∷ []) (sym (own_stack (Redo t))) ∙ ap (λ u. redos (with_entry j c.author c.id (Redo t)) c.author ++ u ∷ []) (same (Redid n t) refl e),
    other_stack (Redo t),
  )
    where
      same : (r : Reply A) → r ≡ Redid n t → r ≡ Redid seq s → t ≡ s
      same r is e = cc

  stacks : (base : Rows A) (seq s : ℕ) (step : Reply A × List (Entry A)) → Appended base j c step ⊎ Left j step → Stacks seq s step
  stacks base seq s step (inl a) = subst (Stacks seq s) (sym a.is) (of_kind (length j + 1) seq s a.kind a.means)
  stacks base seq s step (inr l) = (
    λ e. absurd (no_acceptance step.0 (Done seq) l.refused refl e),
    λ e. absurd (no_acceptance step.0 (Undid seq s) l.refused refl e),
    λ e. absurd (no_acceptance step.0 (Redid seq s) l.refused refl e),
    λ other apart. ap (λ k. redos k other) l.same,
  )

pub is_redo_stacked : {A : Type 0} (base : Rows A) (limit : ℕ) (j : List (Entry A)) → IsRedoStacked base limit j
is_redo_stacked base limit j c seq s = stacks j c base seq s (answer base limit j c) (outcome base limit j c)
