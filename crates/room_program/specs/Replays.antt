-- The outcome of a run over a reader and a writer.
use Rattle.std.specs.Prelude.{◌≡◌, ◌⊎◌, ℕ, true, false, List, Option, Result, Ok, Err}
use Rattle.room_program.specs.declared.fault.ReplayFault.{ReplayFault}
use Rattle.room_program.specs.declared.fault.ReplayFault.TheVariants.{Read, Write, Memory}
use Rattle.room_program.specs.declared.sink.Sink as sinks
use Rattle.room_program.specs.declared.source.Source as sources
use Rattle.room_program.specs.Scripts.{Loss}
use Rattle.room_program.specs.Streams.{Gets, TookNone, WritesAll, WritesEnded, WritesFront}

-- `script` is the text to be written for bytes, and `left` the bytes that the reader had left, if they are known
module _ {S W : Type 0} (source : sources.Ghosts S) (sink : sinks.Ghosts W) (script : List ℕ → List Loss → List ℕ)
    (left : Option (List ℕ)) where
  -- The run ended with this fault, after at most this number of reads. If a read failed, the script of the lines whose
  -- line feeds were read was written.
  abbrev pub EndsBy : ℕ → S → S → W → W → ReplayFault → Type 0
  EndsBy reads reader reader' writer writer' Read =
      WritesEnded script left (source.left reader') (sink.taken writer) (sink.taken writer')
      × ((source.has_failed reader' ≡ true) ⊎ Gets source.gets reads reader reader')
  EndsBy reads reader reader' writer writer' Write = (sink.has_failed writer' ≡ true) ⊎ TookNone sink.puts writer'
  EndsBy reads reader reader' writer writer' Memory =
      (source.has_failed reader' ≡ false) × (sink.has_failed writer' ≡ false)
  EndsBy reads reader reader' writer writer' _ = ⊥

  -- all was read and its script was written; or a fault ended the run, and a prefix of the script was written
  abbrev pub HasRun : ℕ → S → S → W → W → Result (Unit {0}) ReplayFault → Type 0
  HasRun reads reader reader' writer writer' (Ok done) =
      WritesAll script left (source.left reader') (sink.taken writer) (sink.taken writer')
      × (source.has_failed reader' ≡ false) × (sink.has_failed writer' ≡ false)
  HasRun reads reader reader' writer writer' (Err fault) =
      WritesFront script left (source.left reader') (sink.taken writer) (sink.taken writer')
      × EndsBy reads reader reader' writer writer' fault
