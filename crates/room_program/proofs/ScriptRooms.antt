-- Calls lead to the journals of the rooms through which a script leads.
use Rattle.std.proofs.Common.{◌≡◌, ℕ, Bool, true, false, cond, List, [], ◌∷◌, Option, Some, None, Result, Ok, Err, IfOk, refl, sym, subst}
use Rattle.room_program.specs.Prelude.{is_utf8, Global, Author, Call, answer, IsJournal, opened, called, Rows, RoomState, Bad, NotJson, Incoming, Body, Hello, Change, Get, Map, Undos, is_made_body, spells, said, spelled, body_answer, message_answer, line_answer, opened_on, Loss, Nothing, Answer_lost, Answer_and_id_lost, first_loss, later_losses, room_after}
use Rattle.room_program.specs.LineAnswers.{answered}

-- the room began with this map and this limit, and calls lead to its journal
pub record IsLegal (base : Rows Global) (limit : ℕ) (room : RoomState Global) : Type 0 where
  pub base_is : room.base ≡ base
  pub limit_is : room.limit ≡ limit
  pub journal : IsJournal base limit room.journal

-- the values of a message that was read are as their types require
abbrev pub IsMade : Result Incoming Bad → Type 0
IsMade r = IfOk r (λ message. is_made_body message.body ≡ true)

body_step : (base : Rows Global) (limit : ℕ) (room : RoomState Global) (author : Author) (id : ℕ) (body : Body) → is_made_body body ≡ true → IsLegal base limit room → IsLegal base limit (body_answer room author id body).1
body_step base limit room author id (Change request) made h =
    let c : Call Global = record { author = author; id = id; request = request } in
    record {
      base_is = h.base_is;
      limit_is = h.limit_is;
      journal = subst (λ (b : Rows Global). IsJournal base limit (answer b room.limit room.journal c).1) (sym h.base_is)
          (subst (λ l. IsJournal base limit (answer base l room.journal c).1) (sym h.limit_is) (called room.journal c h.journal made));
    }
body_step base limit room author id (Get name) made h = record { base_is = h.base_is; limit_is = h.limit_is; journal = h.journal }
body_step base limit room author id Map made h = record { base_is = h.base_is; limit_is = h.limit_is; journal = h.journal }
body_step base limit room author id Undos made h = record { base_is = h.base_is; limit_is = h.limit_is; journal = h.journal }
body_step base limit room author id (Hello to name) made h = h

message_step : (base : Rows Global) (limit : ℕ) (room : RoomState Global) (author : Author) (r : Result Incoming Bad) → IsMade r → IsLegal base limit room → IsLegal base limit (message_answer room author r).1
message_step base limit room author (Ok message) made h = body_step base limit room author message.id message.body made h
message_step base limit room author (Err bad) made h = h

made_choice : (b : Bool) (r : Result Incoming Bad) → IsMade r → IsMade (cond b r (Err (record { id = 0; fault = NotJson })))
made_choice true r h = h
made_choice false r h = tt

module _ (made : (text : List ℕ) → IsMade (spells text)) (base : Rows Global) (limit : ℕ) where
  line_step : (room : RoomState Global) (line : Option (Author × List ℕ)) → IsLegal base limit room → IsLegal base limit (line_answer room line).1
  line_step room None h = h
  line_step room (Some p) h = message_step base limit room p.0 (spelled p.1) (made_choice (is_utf8 p.1) (spells p.1) (made p.1)) h

  answered_step : (loss : Loss) (room : RoomState Global) (line : List ℕ) → IsLegal base limit room → IsLegal base limit (answered loss room line).1
  unfolding answered
  answered_step Nothing room line h = line_step room (said line) h
  answered_step Answer_lost room line h = h
  answered_step Answer_and_id_lost room line h = h

  stays_legal : (lines : List (List ℕ)) (lost : List Loss) (room : RoomState Global) → IsLegal base limit room → IsLegal base limit (room_after answered room lines lost)
  stays_legal [] lost room h = h
  stays_legal (line ∷ later) lost room h = stays_legal later (later_losses lost) (answered (first_loss lost) room line).1 (answered_step (first_loss lost) room line h)

  pub script_is_legal : (lines : List (List ℕ)) (lost : List Loss) → IsLegal base limit (room_after answered (opened_on base limit) lines lost)
  script_is_legal lines lost = stays_legal lines lost (opened_on base limit) (record { base_is = refl; limit_is = refl; journal = opened })
