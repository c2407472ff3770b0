-- The table of last changes that a room keeps follows its journal.
use Rattle.std.proofs.Common.{◌≡◌, ◌+◌, ◌++◌, ℕ, List, [], ◌∷◌, length, map, refl, cond, sym, ap, ◌∙◌}
use Rattle.edit_footprint.specs.Touches.{Touch, does}
use Rattle.room_history.specs.Prelude.{Rows, Change, Author, Entry, Past, past, recorded_next}
use Rattle.room_history.specs.declared.changers.LastChange.{LastChange}
use Rattle.room_history.specs.Inner.Changers.{AreChangers, changed_again, last_at, last_changes, never, written_by}
use Rattle.room_history.proofs.Appending.{past-append, recorded_each}
use Rattle.room_history.proofs.LastChangesGrown.{appended}

module _ {A : Type 0} where
  -- a table without changes
  pub AreChangers-opened : (base : Rows A) → AreChangers (past base []) [] []
  AreChangers-opened base t = refl

  -- a table after changes by an author's next entry
  abbrev pub IsNoted : List (Entry A) → Author → List (Touch × LastChange) → List (Touch × LastChange) → List (Change A) → Type 0
  IsNoted j author table table' cs = (t : Touch) → last_at table' t ≡ cond (does (map written_by cs) t) (changed_again j author (length j + 1) (last_at table t)) (last_at table t)

  -- a table with the same last changes that then notes the changes
  pub noted : (j : List (Entry A)) (author : Author) (seq : ℕ) (table ready table' : List (Touch × LastChange)) (entries : List (Entry A)) (rows cs : List (Change A)) → entries ≡ j → seq ≡ length j + 1
      → ((t : Touch) → last_at ready t ≡ last_at table t) → rows ≡ cs
      → ((t : Touch) → last_at table' t ≡ cond (does (map written_by rows) t) (changed_again entries author seq (last_at ready t)) (last_at ready t)) → IsNoted j author table table' cs
  noted j author seq table ready table' entries rows cs entries_are seq_is same rows_are h t =
      h t ∙ (λ i. cond (does (map written_by (rows_are i)) t) (changed_again (entries_are i) author (seq_is i) (same t i)) (same t i))

  pub AreChangers-next : (base : Rows A) (j : List (Entry A)) (e : Entry A) (table table' : List (Touch × LastChange)) (cs : List (Change A)) → AreChangers (past base j) j table
      → cs ≡ (recorded_next (past base j) e.kind).changes → IsNoted j e.author table table' cs → AreChangers (past base (j ++ e ∷ [])) (j ++ e ∷ []) table'
  AreChangers-next base j e table table' cs are is noted t =
      noted t
      ∙ (λ i. cond (does (map written_by (is i)) t) (changed_again j e.author (length j + 1) (are t i)) (are t i))
      ∙ sym (appended j e t (past base j).entries (recorded_next (past base j) e.kind) (sym (recorded_each base j)))
      ∙ sym (ap (λ (p : Past A). last_changes (j ++ e ∷ []) t 1 (j ++ e ∷ []) p.entries never) (past-append base j e))
