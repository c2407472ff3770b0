-- The results of a reader.
use Rattle.std.specs.Prelude.{◌≡◌, ◌⊎◌, ℕ, Option, Some, None, Result, Ok, Err}
use Rattle.room_wire.specs.declared.bad.Fault.{Fault}
use Rattle.room_wire.specs.declared.bad.Fault.TheVariants.{Memory}
use Rattle.room_wire.specs.declared.bad.Bad.{Bad}
use Rattle.room_wire.specs.declared.incoming.Incoming.{Incoming}

infixl 10 ◌>>=◌
-- two steps in order, up to the first fault
abbrev pub ◌>>=◌ : {A B : Type 0} → Result A Fault → (A → Result B Fault) → Result B Fault
(Ok x) >>= f = f x
(Err e) >>= f = Err e

-- the value if there is one, and otherwise the fault
abbrev pub or_fault : {X : Type 0} → Fault → Option X → Result X Fault
or_fault fault None = Err fault
or_fault fault (Some x) = Ok x

-- the value or the fault, under an id
abbrev pub under : {X Y : Type 0} → (ℕ → X → Y) → ℕ → Result X Fault → Result Y Bad
under made id (Ok x) = Ok (made id x)
under made id (Err fault) = Err (record { id = id; fault = fault })

-- the reader's result is the specified one, or an allocation failed
abbrev pub Gives : {X : Type 0} → Result X Fault → Result X Fault → Type 0
Gives (Ok x) read = read ≡ Ok x
Gives (Err f) read = (f ≡ Memory) ⊎ (read ≡ Err f)

-- the id of a result, of its value or of its fault
abbrev pub id_of : {X : Type 0} → (X → ℕ) → Result X Bad → ℕ
id_of id (Ok x) = id x
id_of id (Err bad) = bad.id

-- the same for a whole text: if an allocation failed, the id may have been read before
abbrev pub GivesUnder : {X : Type 0} → (X → ℕ) → Result X Bad → Result X Bad → Type 0
GivesUnder id (Ok x) read = read ≡ Ok x
GivesUnder id (Err bad) read = ((bad.fault ≡ Memory) × ((bad.id ≡ 0) ⊎ (bad.id ≡ id_of id read))) ⊎ (read ≡ Err bad)

-- the same for a message
abbrev pub id_told : Result Incoming Bad → ℕ
id_told = id_of (λ m. m.id)

abbrev pub GivesMessage : Result Incoming Bad → Result Incoming Bad → Type 0
GivesMessage = GivesUnder (λ m. m.id)
