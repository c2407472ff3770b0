-- What goes out to a client: texts (RFC 6455, section 5.6), and a close (section 5.5.1) with a code (section 7.4.1).
use Rattle.std.specs.Prelude.{◌≡◌, ◌≢◌, ◌==◌, ◌≤◌, ◌⊎◌, cond, ℕ, zero, suc, List, [], ◌∷◌, Option, Some, None, Result, Ok, Err, IsErr}
use Rattle.tungstenite.specs.declared.CloseCode.{CloseCode}
use Rattle.tungstenite.specs.declared.error.Error.{Error}
use Rattle.tungstenite.specs.declared.message.Message.{Message}
use Rattle.tungstenite.specs.Connection.{write_step}
use Rattle.tungstenite.specs.Content.{text, close}
use Rattle.tungstenite.specs.Socket.{Socket, Flushed, Reads, Writes}
use Rattle.room_session.specs.declared.sent.Sent.{Sent}
use Rattle.room_session.specs.declared.session.Ended.{Ended}
use Rattle.room_socket.specs.declared.end.End.{End}
use Rattle.room_socket.specs.declared.end.End.TheVariants.{Binary, Memory, Fault}
use Rattle.tungstenite.specs.declared.CloseCode.TheVariants as codes

-- the close code and the end of a session that closes with this number
abbrev pub code_of : ℕ → CloseCode
code_of number = cond (number == 1003) codes.Unsupported codes.Error

abbrev pub end_of : ℕ → End
end_of number = cond (number == 1003) Binary Memory

module _ {S : Type 0} (contents : S → Option (List ℕ)) where
  -- the texts were written in order, each as a text message
  abbrev pub WritesTexts : List (List ℕ) → Socket S → Socket S → Type 0
  WritesTexts [] old new = new ≡ old
  WritesTexts (words ∷ later) old new =
      (next : Socket S) × Writes contents old next (write_step old.conn (text words)) × WritesTexts later next new

  -- the texts were written, and then all that waited was sent
  abbrev pub SendsTexts : List (List ℕ) → Socket S → Socket S → Type 0
  SendsTexts [] old new = new ≡ old
  SendsTexts (words ∷ later) old new =
      (written : Socket S) × WritesTexts (words ∷ later) old written × Flushed contents written new × (new.output ≡ [])

  -- a close with this code and no reason was written, or memory or room for it was lacking, or it may not be sent
  abbrev pub AsksToClose : CloseCode → Socket S → Socket S → Type 0
  AsksToClose code old new =
      let step = write_step old.conn (close (Some (code, []))) in
      Writes contents old new step ⊎ (new ≡ old) ⊎ IsErr step

module _ {S : Type 0} (remaining : S → Option (List ℕ)) where
  -- the socket was read this number of times
  abbrev pub ReadsOn : ℕ → Socket S → Socket S → Type 0
  ReadsOn zero old new = new ≡ old
  ReadsOn (suc count) old new =
      (last : Socket S) × ReadsOn count old last × ((result : Result Message Error) × Reads remaining last new result)

module _ {S : Type 0} (remaining contents : S → Option (List ℕ)) where
  -- a close went out, and then the socket was read at most 64 times for the answer
  abbrev pub Closes : CloseCode → Socket S → Socket S → Type 0
  Closes code old new =
      (asked : Socket S) × AsksToClose contents code old asked
      × ((count : ℕ) × (count ≤ 64) × ReadsOn remaining count asked new)

  -- the session goes on, or it ends with a close of this number
  abbrev pub EndsBy : Option ℕ → Socket S → Option End → Socket S → Type 0
  EndsBy None old end new = (end ≡ None) × (new ≡ old)
  EndsBy (Some number) old end new = (end ≡ Some (end_of number)) × Closes (code_of number) old new

  -- What the core returned was sent: its texts, and then its close, if it has one. If it returned nothing to send, or
  -- its texts could not be sent, the session ends with a fault.
  abbrev pub Sends : Result Sent Ended → Socket S → Option End → Socket S → Type 0
  Sends (Err ended) old end new = (end ≡ Some Fault) × (new ≡ old)
  Sends (Ok sent) old end new =
      ((written : Socket S) × SendsTexts contents sent.texts old written × EndsBy sent.close written end new)
      ⊎ ((end ≡ Some Fault) × (sent.texts ≢ []))
