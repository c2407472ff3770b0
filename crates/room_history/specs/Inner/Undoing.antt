-- The choice of the entry to undo.
use Rattle.std.specs.Prelude.{ℕ, not, List, [], ◌∷◌, Option, Some, None, is_none, Result, Ok, Err}
use Rattle.edit_groups.specs.Prelude.{then_some, first_that_holds}
use Rattle.room_interface.specs.declared.author.Author.{Author}
use Rattle.room_history.specs.declared.entry.Entry.{Entry}
use Rattle.room_interface.specs.declared.reply.Reply.{Reply}
use Rattle.room_interface.specs.declared.reply.Reply.TheVariants.{NothingToUndo, NoSuch, NotYours, NotStanding}
use Rattle.room_history.specs.Journals.{is_by, is_standing, numbered}

-- the entry s, or its refusal
abbrev pub undone_or : {A : Type 0} → ℕ → Option (Reply A) → Result ℕ (Reply A)
undone_or s None = Ok s
undone_or s (Some r) = Err r

abbrev pub asked_or : {A : Type 0} → (ℕ → Option (Reply A)) → Option ℕ → Result ℕ (Reply A)
asked_or refused None = Err NothingToUndo
asked_or refused (Some s) = undone_or s (refused s)

-- the refusal of an entry that is not an active entry of the author: the first check that holds
abbrev pub standing_refusal : {A : Type 0} → List (Entry A) → Author → ℕ → Option (Reply A)
standing_refusal j author s = first_that_holds (
    then_some (is_none (numbered j s)) NoSuch
    ∷ then_some (not (is_by author (numbered j s))) NotYours
    ∷ then_some (not (is_standing j s)) NotStanding
    ∷ [])
