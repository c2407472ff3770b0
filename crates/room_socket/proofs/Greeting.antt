-- The answer to a request's head.
use Rattle.std.proofs.Common.{◌≡◌, ◌∙◌, List, ℕ, Result, Ok, Err, refl, sym}
use Rattle.websocket.specs.Handshake.{Answers, IsValidKey}
use Rattle.websocket.specs.declared.handshake.failure.HandshakeError.{HandshakeError}

-- a request that was answered asked with a valid key
pub answered : (answer asked : Result (List ℕ) HandshakeError) (accept : List ℕ) → answer ≡ Ok accept → Answers answer asked → (key : List ℕ) × (asked ≡ Ok key) × IsValidKey key
answered (Ok one) (Ok key) accept is answers = (key, refl, answers.0)
answered (Ok one) (Err e) accept is answers = absurd (cc)
answered (Err e) asked accept is answers = absurd (cc)
