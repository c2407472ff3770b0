-- The reply of a room, from the results of its own calls.
use Rattle.std.proofs.Common.{◌≡◌, ℕ, List, Option, Result, Ok, Err, IfOk, length, refl, ap, inl, inr}
use Rattle.room_history.specs.Prelude.{AllocError, Name, Element, row_at, Author, Undoable, Call, Entry, Reply, Rows, News, undos, redos, news, mapof, IsStep, IsAnswered}
use Rattle.room_interface.specs.declared.ask.RoomCall.TheVariants as calls
use Rattle.room_interface.specs.declared.ask.RoomReply.TheVariants as replies

module _ {A : Type 0} (base : Rows A) (limit : ℕ) (j : List (Entry A)) where
  pub took : (k : List (Entry A)) (c : Call A) (reply : Reply A) → IsStep base limit j c reply k → IsAnswered base limit j (calls.Take c) (replies.Take reply) k
  took k c reply (inl e) = inl (ap (λ (p : Reply A × List (Entry A)). (replies.Take p.0, p.1)) e)
  took k c reply (inr e) = inr (ap replies.Take e.0, e.1)

  pub got : (x : Name) (r : Result (Option (Element A)) AllocError) → IfOk r (λ found. found ≡ row_at (mapof base j) x) → IsAnswered base limit j (calls.Get x) (replies.Get x r) j
  got x (Ok found) h = inl (ap (λ o. (replies.Get x (Ok o), j)) h)
  got x (Err e) h = inr (refl, refl)

  pub listed : (r : Result (ℕ × Rows A) AllocError) → IfOk r (λ rows. rows ≡ (length j, mapof base j)) → IsAnswered base limit j calls.Rows (replies.Rows r) j
  listed (Ok rows) h = inl (ap (λ p. (replies.Rows (Ok p), j)) h)
  listed (Err e) h = inr (refl, refl)

  pub gave : (author : Author) (r : Result (Undoable A) AllocError) → IfOk r (λ lists. lists ≡ record { undos = undos j author; redos = redos j author }) → IsAnswered base limit j (calls.Undos author) (replies.Undos r) j
  gave author (Ok lists) h = inl (ap (λ l. (replies.Undos (Ok l), j)) h)
  gave author (Err e) h = inr (refl, refl)

  pub told : (from : ℕ) (r : Result (List (News A)) AllocError) → IfOk r (λ ns. ns ≡ news base j from) → IsAnswered base limit j (calls.News from) (replies.News r) j
  told from (Ok ns) h = inl (ap (λ l. (replies.News (Ok l), j)) h)
  told from (Err e) h = inr (refl, refl)
