-- How far a stream is read for its first line.
use Rattle.std.specs.Prelude.{◌≡◌, ◌⊎◌, ◌+◌, ℕ, true, false, List, ◌∷◌, ◌++◌, Option, Some, None, Err}
use Rattle.std.specs.Io.KnownBytes.{Consumes, IsAtEnd}
use Rattle.room_program.specs.declared.base.FirstLine.{FirstLine}
use Rattle.room_program.specs.declared.base.Later.{Later}
use Rattle.room_program.specs.declared.fault.ReplayFault.{ReplayFault}
use Rattle.room_program.specs.declared.fault.StreamFault.{StreamFault}
use Rattle.room_program.specs.declared.fault.StreamFault.TheVariants.{Read, Write, Memory}
use Rattle.room_program.specs.Bases.{spelled_base}
use Rattle.room_program.specs.Lines.{IsLine}
use Rattle.room_program.specs.Streams.{Gets}
use Rattle.room_program.specs.declared.fault.ReplayFault.TheVariants as replays
use Rattle.room_program.specs.declared.source.Source as sources

module _ {S : Type 0} (source : sources.Ghosts S) where
  -- the line was read with its line feed and possibly more bytes, by some of the reads; or the stream ended with the
  -- line
  abbrev pub ReadsTo : ℕ → S → S → List ℕ → Option Later → Type 0
  ReadsTo reads reader reader' line None =
      Consumes (source.left reader) (source.left reader') line × IsAtEnd (source.left reader')
  ReadsTo reads reader reader' line (Some later) =
      Consumes (source.left reader) (source.left reader') (line ++ 10 ∷ later.held.items)
      × ((used : ℕ) × (used + later.reads ≡ reads) × Gets source.gets used reader reader')

  pub record ReadsLine (reads : ℕ) (reader reader' : S) (first : FirstLine) : Type 0 where
    pub is_line : IsLine first.line.items
    pub to : ReadsTo reads reader reader' first.line.items first.later

  -- the reason for which the line was not read
  abbrev pub EndsLine : ℕ → S → S → StreamFault → Type 0
  EndsLine reads reader reader' Read = (source.has_failed reader' ≡ true) ⊎ Gets source.gets reads reader reader'
  EndsLine reads reader reader' Memory = source.has_failed reader' ≡ false
  EndsLine reads reader reader' Write = ⊥

-- the reason for which a line has no map
abbrev pub IsBadLine : List ℕ → ReplayFault → Type 0
IsBadLine line (replays.BadBase bad) = spelled_base line ≡ Err bad
IsBadLine line replays.Memory = Unit {0}
IsBadLine line _ = ⊥
