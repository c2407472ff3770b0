-- What the program's arguments ask for, and what a run that they ask for did to its streams.
use Rattle.std.specs.Prelude.{◌≡◌, ◌≤◌, ◌⊎◌, ◌^◌, ℕ, Bool, true, false, List, [], Option, Some, codes, map}
use Rattle.clap.specs.Words.{Text}
use Rattle.room_server.specs.Prelude.{Global, is_sound, Rows}
use Rattle.room_program.specs.declared.asked.Asked.{Asked}
use Rattle.room_program.specs.declared.asked.ServeOptions.{ServeOptions}
use Rattle.room_program.specs.declared.fault.ProgramFault.TheVariants.{Replay}
use Rattle.room_program.specs.declared.fault.ReplayFault.{ReplayFault}
use Rattle.room_program.specs.Bases.{IsNoBase, IsTold, behind}
use Rattle.room_program.specs.Faults.{Takes, fault_line}
use Rattle.room_program.specs.LineAnswers.{script}
use Rattle.room_program.specs.Replays.{EndsBy}
use Rattle.room_program.specs.Servings.{rule_of_asked}
use Rattle.room_program.specs.Streams.{GetsAtMost, WritesAll, WritesFront}
use Rattle.room_program.specs.CommandLine.{IsTaken, addr_asked, base_asked, limit_asked, rooms_asked, rule_asked, sessions_asked, subcommand_asked, workers_asked}
use Rattle.room_program.specs.declared.asked.Asked.TheVariants as asked
use Rattle.room_program.specs.declared.sink.Sink as sinks
use Rattle.room_program.specs.declared.source.Source as sources

-- the arguments are taken, and ask for a replay with this limit, on a base or not
pub record AsksForReplay (words : List Text) (limit : ℕ) (base : Bool) : Type 0 where
  pub taken : IsTaken words
  pub subcommand : subcommand_asked words ≡ Some (codes "replay")
  pub limit_is : limit ≡ limit_asked words
  pub base_is : base ≡ base_asked words

-- the arguments are taken, and ask to serve with these options
pub record AsksForServe (words : List Text) (serve : ServeOptions) : Type 0 where
  pub taken : IsTaken words
  pub subcommand : subcommand_asked words ≡ Some (codes "serve")
  pub addr_is : serve.addr.now ≡ addr_asked words
  pub workers_are : serve.workers ≡ workers_asked words
  pub sessions_are : serve.sessions ≡ sessions_asked words
  pub limit_is : serve.limit ≡ limit_asked words
  pub base_is : serve.base ≡ base_asked words
  pub rule_is : rule_of_asked serve ≡ rule_asked words
  pub rooms_are : map (λ room. room.now) serve.rooms.items ≡ rooms_asked words

-- the arguments are taken, and ask for this
abbrev pub IsAsked : List Text → Asked → Type 0
IsAsked words (asked.Replay limit base) = AsksForReplay words limit base
IsAsked words (asked.Serve serve) = AsksForServe words serve

-- the contracts' view of an input, of an output, and of a stream for errors
module _ {S W E : Type 0} (source : sources.Ghosts S) (sink : sinks.Ghosts W) (errors_sink : sinks.Ghosts E) where
  -- a room with this limit that began with this map was run on what the input had left, and the run ended with this
  -- status
  pub record Ran (base : Rows Global) (left : Option (List ℕ)) (limit status : ℕ) (input input' : S)
      (output output' : W) (errors errors' : E) : Type 0 where
    pub range : status ≤ 1
    -- done: the script of all remaining bytes was written, and nothing is reported
    pub done : status ≡ 0
        → WritesAll (script base limit) left (source.left input') (sink.taken output) (sink.taken output')
    pub silent : status ≡ 0 → errors' ≡ errors
    -- failed: a prefix of the script was written, and the fault's line is written to the errors
    pub failed : status ≡ 1
        → WritesFront (script base limit) left (source.left input') (sink.taken output) (sink.taken output')
    pub told : status ≡ 1 → (fault : ReplayFault) × Takes errors_sink errors errors' (fault_line (Replay fault))
        × EndsBy source sink (script base limit) left (2 ^ 40) input input' output output' fault

  -- no room was opened: nothing was written to the output, and the fault's line is written to the errors
  pub record RanNothing (status : ℕ) (input input' : S) (output output' : W) (errors errors' : E) : Type 0 where
    pub failed : status ≡ 1
    pub unwritten : output' ≡ output
    pub told : (fault : ReplayFault) × Takes errors_sink errors errors' (fault_line (Replay fault))
        × IsNoBase source (2 ^ 40) input input' fault

  -- A replay: without a base, of all lines by a room with the empty map. With a base, of all lines but the first by a
  -- room with the map in the first line.
  abbrev pub RanBy : Bool → ℕ → ℕ → S → S → W → W → E → E → Type 0
  RanBy false limit status input input' output output' errors errors' =
      Ran [] (source.left input) limit status input input' output output' errors errors'
  RanBy true limit status input input' output output' errors errors' =
      ((base : Rows Global) × IsTold source input base × (is_sound base ≡ true)
      × Ran base (behind (source.left input)) limit status input input' output output' errors errors')
      ⊎ RanNothing status input input' output output' errors errors'

  pub record Replays (base : Bool) (limit status : ℕ) (input input' : S) (output output' : W) (errors errors' : E)
      : Type 0 where
    pub ran : RanBy base limit status input input' output output' errors errors'
    -- at most 2^40 reads were made, and none after a read that gave the end
    pub calls : GetsAtMost source.gets (2 ^ 40) input input'
