-- Invariants of every journal that calls lead to.
use Rattle.std.proofs.Common.{◌≡◌, ◌⊎◌, ℕ, true, List, [], Option, Some, None, refl, inl, inr, sym, ap, subst, ◌∙◌, option_map}
use Rattle.room_history.specs.Prelude.{Rows, is_sound, refusal, Author, Call, Request, Entry, EntryKind, Do, Undo, Redo, Reply, Refused, asked, meant, redo_refusal, kind_refusal, with_entry, answer, last, redos, is_made_request, IsJournal, opened, called, past, mapof}
use Rattle.room_interface.specs.MadeCalls.{is_made_edit as is_made_action}
use Rattle.room_interface.specs.declared.edit.Edit.{Edit as Action}
use Rattle.room_history.proofs.Leading.{IsLed, led-do, led-redo}
use Rattle.room_history.proofs.Outcomes.{Appended, Left, outcome}
use Rattle.room_history.proofs.Redoable.{Acts, AreRedoable, redoable-append, top_acts}
use Rattle.room_history.proofs.TakingBack.{Undone, undone}
use Rattle.room_history.proofs.Undoing.{Found, found, mapped_none}
use Rattle.room_interface.specs.declared.call.Request.TheVariants as requests

module _ {A : Type 0} where
  no_do : (a : Action A) (f : ℕ → EntryKind A) (o : Option ℕ) → ((s : ℕ) → f s ≡ Do a → ⊥) → option_map f o ≡ Some (Do a) → ⊥
  no_do a f None not e = absurd (cc)
  no_do a f (Some s) not e = not s (cc)

  -- the action that a made request asks for is made
  meant_made : (j : List (Entry A)) (author : Author) (r : Request A) (a : Action A) → is_made_request r ≡ true → meant j author r ≡ Some (Do a) → is_made_action a ≡ true
  meant_made j author (requests.Do b since) a made e = let same : b ≡ a = cc in ap is_made_action (sym same) ∙ made
  meant_made j author (requests.Undo s) a made e = absurd (no_do a Undo (asked j author s) (λ s e. cc) e)
  meant_made j author requests.Redo a made e = absurd (no_do a Redo (last (redos j author)) (λ t e. cc) e)

  -- a redo is of the top of its author's redo stack
  pub meant_redo : (j : List (Entry A)) (author : Author) (r : Request A) (t : ℕ) → meant j author r ≡ Some (Redo t) → last (redos j author) ≡ Some t
  meant_redo j author (requests.Do a since) t e = absurd (cc)
  meant_redo j author (requests.Undo s) t e = absurd (by (asked j author s) e)
    where
      by : (o : Option ℕ) → option_map {T = ℕ} {U = EntryKind A} Undo o ≡ Some (Redo t) → ⊥
      by None e = absurd (cc)
      by (Some s) e = absurd (cc)
  meant_redo j author requests.Redo t e = by (last (redos j author)) e
    where
      by : (o : Option ℕ) → option_map {T = ℕ} {U = EntryKind A} Redo o ≡ Some (Redo t) → o ≡ Some t
      by None e = absurd (cc)
      by (Some s) e = cc

  module _ (base : Rows A) (sound : is_sound base ≡ true) where
    -- the works of the active entries lead to the map, and each entry on a redo stack has an action
    pub record IsKept (j : List (Entry A)) : Type 0 where
      pub led : IsLed base j
      pub redoable : AreRedoable base j

    -- the effect of an accepted undo
    pub undone_by : (j : List (Entry A)) → IsLed base j → (e : Entry A) (s : ℕ) → e.kind ≡ Undo s → kind_refusal (past base j) j e.author (Undo s) ≡ None → Undone base j s e
    undone_by j led e s is passes = let f : Found (past base j) j e.author s = found (past base j) j e.author s passes in undone base j e s sound led is f.there f.free

    kept_next : (j : List (Entry A)) (c : Call A) → IsKept j → is_made_request c.request ≡ true → (k : EntryKind A) → meant j c.author c.request ≡ Some k → kind_refusal (past base j) j c.author k ≡ None → IsKept (with_entry j c.author c.id k)
    kept_next j c kept made (Do a) means passes = record {
      led = led-do base j e a sound kept.led refl (meant_made j c.author c.request a made means) (mapped_none Refused (refusal (mapof base j) a) passes);
      redoable = redoable-append base j e kept.redoable (λ s is. absurd (cc));
    }
      where
        e : Entry A
        e = record { author = c.author; id = c.id; kind = Do a }
    kept_next j c kept made (Undo s) means passes = record {
      led = back.led;
      redoable = redoable-append base j e kept.redoable (λ t is. subst (Acts base j) (same t is) (record { action = back.action; acts = back.acts; made = back.made }));
    }
      where
        e : Entry A
        e = record { author = c.author; id = c.id; kind = Undo s }

        same : (t : ℕ) → e.kind ≡ Undo t → s ≡ t
        same t is = cc

        back : Undone base j s e
        back = undone_by j kept.led e s refl passes
    kept_next j c kept made (Redo t) means passes = record {
      led = led-redo base j e t top.action sound kept.led refl top.acts top.made (mapped_none Refused (refusal (mapof base j) top.action) (ap (redo_refusal (mapof base j)) (sym top.acts) ∙ passes));
      redoable = redoable-append base j e kept.redoable (λ s is. absurd (cc));
    }
      where
        e : Entry A
        e = record { author = c.author; id = c.id; kind = Redo t }

        top : Acts base j t
        top = top_acts base j kept.redoable c.author t (meant_redo j c.author c.request t means)

    pub journal_kept : (limit : ℕ) (j : List (Entry A)) → IsJournal base limit j → IsKept j
    journal_kept limit j opened = record { led = record { works = []; recorded = tt; leads = refl }; redoable = λ author t h. absurd (cc) }
    journal_kept limit j (called i c before made) = by (outcome base limit i c) (journal_kept limit i before)
      where
        by : Appended base i c (answer base limit i c) ⊎ Left i (answer base limit i c) → IsKept i → IsKept (answer base limit i c).1
        by (inl a) kept = subst IsKept (sym (ap (λ (p : Reply A × List (Entry A)). p.1) a.is)) (kept_next i c kept made a.kind a.means a.passes)
        by (inr l) kept = subst IsKept (sym l.same) kept

    pub journal_led : (limit : ℕ) (j : List (Entry A)) → IsJournal base limit j → IsLed base j
    journal_led limit j h = (journal_kept limit j h).led
