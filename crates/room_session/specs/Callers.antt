-- Who may speak in a session. The rules are this project's.
use Rattle.std.specs.Prelude.{◌≡◌, ◌++◌, cond, ℕ, List, All, Result, Ok, Err}
use Rattle.room_history.specs.Prelude.{Global}
use Rattle.room_history.specs.declared.entry.Entry.{Entry}
use Rattle.room_interface.specs.SameAuthors.{is_same_author}
use Rattle.room_interface.specs.declared.author.Author.{Author}
use Rattle.serde_json.specs.Written.{compact_text}
use Rattle.room_session.specs.Rooms.{Known}
use Rattle.room_session.specs.declared.caller.Barred.{Barred}
use Rattle.room_session.specs.declared.caller.Barred.TheVariants.{WrongName, NoName}
use Rattle.room_session.specs.declared.caller.Caller.{Caller}
use Rattle.room_session.specs.declared.caller.Caller.TheVariants.{Anyone, Only, Nobody}
use Rattle.room_session.specs.declared.caller.Speaker.{Speaker}
use Rattle.room_session.specs.declared.session.State.{State}
use Rattle.room_session.specs.declared.session.State.TheVariants.{BeforeHello, Open, Closed}
use Rattle.room_wire.specs.Prelude.{answer_text, wrong_name_tree}
use Rattle.room_session.specs.declared.caller.Caller.TheVariants as callers
use Rattle.room_session.specs.declared.caller.Speaker.TheVariants as speakers
use Rattle.room_wire.specs.declared.answer.Answer.TheVariants as answers

-- as whom a caller speaks after a hello under this name, or why the hello is refused
abbrev pub greeted : Caller → Author → Result Speaker Barred
greeted Anyone author = Ok (speakers.Author author)
greeted (Only own) author = cond (is_same_author own author) (Ok (speakers.Author own)) (Err (WrongName own))
greeted callers.Watcher author = Ok speakers.Watcher
greeted Nobody author = Err NoName

-- the text that refuses a hello
abbrev pub barred_text : ℕ → Barred → List ℕ
barred_text id (WrongName own) = compact_text (wrong_name_tree id own)
barred_text id NoName = answer_text id answers.NoName

-- the caller may make changes as this author
abbrev pub MayBe : Caller → Author → Type 0
MayBe Anyone author = Unit {0}
MayBe (Only own) author = author ≡ own
MayBe callers.Watcher author = ⊥
MayBe Nobody author = ⊥

-- the caller may be this speaker
abbrev pub MaySpeakAs : Caller → Speaker → Type 0
MaySpeakAs caller (speakers.Author author) = MayBe caller author
MaySpeakAs caller speakers.Watcher = Unit {0}

-- the session is this caller's, and the caller may be who speaks in it
abbrev pub IsOf : Caller → State → Type 0
IsOf caller (BeforeHello own) = own ≡ caller
IsOf caller (Open room speaker told) = MaySpeakAs caller speaker
IsOf caller Closed = Unit {0}

-- each entry that was made through these rooms is by an author as whom the caller may make changes
abbrev pub MakesAs : Caller → Known → Known → Type 0
MakesAs caller before after = (room : ℕ) → (made : List (Entry Global))
    × ((after.at room).mine ≡ (before.at room).mine ++ made) × All (λ entry. MayBe caller entry.author) made
