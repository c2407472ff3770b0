-- What the calls of a socket wrote, as what a session sends.
use Rattle.std.proofs.Common.{inl, inr, subst, arith, ◌≡◌, ◌≢◌, ◌≤◌, ◌+◌, ℕ, zero, suc, List, [], ◌∷◌, Option, Some, Ok, Err, Result, false, is_err, drop, length, refl, OnOk, IfErr}
use Rattle.tungstenite.specs.declared.CloseCode.{CloseCode}
use Rattle.tungstenite.specs.declared.error.Error.{Error}
use Rattle.tungstenite.specs.declared.error.Error.TheVariants.{Io, OutOfMemory, WriteBufferFull}
use Rattle.tungstenite.specs.declared.message.Message.{Message}
use Rattle.tungstenite.specs.Connection.{write_step}
use Rattle.tungstenite.specs.Content.{Content, close}
use Rattle.tungstenite.specs.Failure.{IsIo, IsOutside, WriteFails}
use Rattle.tungstenite.specs.Socket.{Socket, Flushed, Reads, Writes}
use Rattle.room_socket.specs.Prelude.{Sent, Ended, End, AsksToClose, EndsBy, ReadsOn, Sends, SendsTexts, WritesTexts}

pub drop_past : {X : Type 0} (n : ℕ) (xs : List X) → length xs ≤ n → drop n xs ≡ []
drop_past zero [] short = refl
drop_past (suc n) [] short = refl
drop_past zero (x ∷ xs) short = absurd (omega arith)
drop_past (suc n) (x ∷ xs) short = drop_past n xs (omega arith)

module _ {S : Type 0} where
  pub sent_all : {A : Type 0} (contents : S → Option (List ℕ)) (result : Result A Error) (texts : List (List ℕ)) (old written new : Socket S) → texts ≢ [] → WritesTexts contents texts old written → Flushed contents written new → OnOk result (new.output ≡ []) → OnOk result (SendsTexts contents texts old new)
  sent_all contents (Ok x) [] old written new some writes flushed empty = absurd (some refl)
  sent_all contents (Ok x) (words ∷ later) old written new some writes flushed empty = (written, writes, flushed, empty)
  sent_all contents (Err e) texts old written new some writes flushed empty = tt

  pub asks : {A : Type 0} (contents : S → Option (List ℕ)) (result : Result A Error) (code : CloseCode) (content : Content) (old new : Socket S)
      → content ≡ close (Some (code, []))
      → OnOk result (Writes contents old new (write_step old.conn content))
      → IfErr result (WriteFails (write_step old.conn content))
      → IfErr result (λ e. e ≡ WriteBufferFull → new ≡ old)
      → IfErr result (λ e. IsIo e → Writes contents old new (write_step old.conn content))
      → IfErr result (λ e. e ≡ OutOfMemory → new ≡ old)
      → AsksToClose contents code old new
  asks contents (Ok x) code content old new is wrote failed full stream memory = inl (rw is at wrote)
  asks contents (Err e) code content old new is wrote failed full stream memory = elim (rw is at failed) [
    | inl is_full ↦ inr (inl (full is_full))
    | inr more ↦ elim more [
      | inl outside ↦ from_outside e outside (λ io. rw is at stream io) memory
      | inr bad ↦ inr (inr (rw bad.1 refl))
    ]
  ]
    where
      from_outside : (e : Error) → IsOutside e → (IsIo e → Writes contents old new (write_step old.conn (close (Some (code, []))))) → (e ≡ OutOfMemory → new ≡ old) → AsksToClose contents code old new
      from_outside (Io cause) outside stream memory = inl (stream tt)
      from_outside OutOfMemory outside stream memory = inr (inl (memory refl))
      from_outside e outside stream memory = absurd outside

  pub read_again : (remaining : S → Option (List ℕ)) (count : ℕ) (old last new : Socket S) (result : Result Message Error) → ReadsOn remaining count old last → Reads remaining last new result → ReadsOn remaining (count + 1) old new
  read_again remaining count old last new result before read =
      let more : suc count ≡ count + 1 = omega arith in
      subst (λ n. ReadsOn remaining n old new) more (last, before, (result, read))

  pub sends : {A : Type 0} (remaining contents : S → Option (List ℕ)) (outcome : Result Sent Ended) (sent : Sent) (texts : Result A Error) (old written new : Socket S) (end : Option End)
      → outcome ≡ Ok sent → is_err texts ≡ false → OnOk texts (SendsTexts contents sent.texts old written)
      → EndsBy remaining contents sent.close written end new → Sends remaining contents outcome old end new
  sends remaining contents outcome sent (Ok x) old written new end is fine wrote ends = rw is (inl (written, wrote, ends))
  sends remaining contents outcome sent (Err e) old written new end is fine wrote ends = absurd (cc)
