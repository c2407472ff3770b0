-- The base map in the first line of a stream. The line is a welcome; this is the project's own format.
use Rattle.std.specs.Prelude.{◌==◌, ◌≡◌, ◌⊎◌, ℕ, Bool, true, false, List, [], ◌∷◌, Option, IfSome, Result, Ok, Err, if◌then◌else◌, option_map}
use Rattle.room_server.specs.Prelude.{is_utf8, Global, Rows, IsFirstUnsound, spells_welcome}
use Rattle.room_wire.specs.declared.bad.Bad.{Bad}
use Rattle.room_wire.specs.declared.bad.Fault.TheVariants.{NotJson}
use Rattle.room_wire.specs.declared.welcome.Welcome.{Welcome}
use Rattle.room_program.specs.declared.fault.ReplayFault.{ReplayFault}
use Rattle.room_program.specs.declared.fault.ReplayFault.TheVariants.{Read, Memory, BadBase, Unsound}
use Rattle.room_program.specs.Streams.{Gets}
use Rattle.room_program.specs.declared.source.Source as sources

-- the bytes before the first line feed and the bytes after it; without a line feed, these are all bytes and none
abbrev pub first_line : List ℕ → List ℕ
first_line [] = []
first_line (b ∷ bs) = if b == 10 then [] else b ∷ first_line bs

abbrev pub behind_line : List ℕ → List ℕ
behind_line [] = []
behind_line (b ∷ bs) = if b == 10 then bs else behind_line bs

-- the meaning of a line: the welcome that its bytes spell, or its fault; a line that is not UTF-8 is not JSON
abbrev pub spelled_base : List ℕ → Result Welcome Bad
spelled_base line = if is_utf8 line then spells_welcome line else Err (record { id = 0; fault = NotJson })

-- the line is a welcome with this map
abbrev pub Tells : List ℕ → Rows Global → Type 0
Tells line base = (w : Welcome) × (spelled_base line ≡ Ok w) × (w.rows ≡ base)

-- the bytes that a reader has left after the first line, if they are known
abbrev pub behind : Option (List ℕ) → Option (List ℕ)
behind left = option_map behind_line left

-- this is the first line of the reader's bytes, if they are known
abbrev pub IsFirstLineOf : List ℕ → Option (List ℕ) → Type 0
IsFirstLineOf line left = IfSome left (λ bytes. first_line bytes ≡ line)

module _ {S : Type 0} (source : sources.Ghosts S) where
  -- the first line of the reader's bytes has this map
  abbrev pub IsTold : S → Rows Global → Type 0
  IsTold reader base = (line : List ℕ) × IsFirstLineOf line (source.left reader) × Tells line base

  -- a room begins with this map: the map in the first line if a base is asked for, and otherwise the empty map
  abbrev pub BeginsOn : Bool → S → Rows Global → Type 0
  BeginsOn true reader base = IsTold reader base
  BeginsOn false reader base = base ≡ []

  -- the reason for which no map was read from the first line, by at most this number of reads
  abbrev pub IsUnread : ℕ → S → S → ReplayFault → Type 0
  IsUnread reads reader reader' Read = (source.has_failed reader' ≡ true) ⊎ Gets source.gets reads reader reader'
  IsUnread reads reader reader' (BadBase bad) =
      (source.has_failed reader' ≡ false)
      × ((line : List ℕ) × IsFirstLineOf line (source.left reader) × (spelled_base line ≡ Err bad))
  IsUnread reads reader reader' Memory = source.has_failed reader' ≡ false
  IsUnread reads reader reader' _ = ⊥

  -- the reason for which no room begins with the map in the first line
  abbrev pub IsNoBase : ℕ → S → S → ReplayFault → Type 0
  IsNoBase reads reader reader' (Unsound x why) =
      (source.has_failed reader' ≡ false) × ((base : Rows Global) × IsTold reader base × IsFirstUnsound base x why)
  IsNoBase reads reader reader' fault = IsUnread reads reader reader' fault
