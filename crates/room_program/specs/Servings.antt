-- The outcome of serving rooms.
use Rattle.std.specs.Prelude.{◌≡◌, ◌≤◌, ◌<◌, ◌⊎◌, ◌^◌, ℕ, Bool, true, false, List, All, length, map, option_map, ◌++◌, codes}
use Rattle.clap.specs.Words.{Text}
use Rattle.room_socket.specs.Admitting.{Rule as Admitted}
use Rattle.room_server.specs.Prelude.{Global, is_sound, Rows, IsJournal, AreAt, AreFronts, AreFine, HaveMet, IsNameFault, Opens, Pools, SeatView, TableView}
use Rattle.room_history.specs.declared.entry.Entry.{Entry}
use Rattle.room_program.specs.declared.asked.ServeOptions.{ServeOptions}
use Rattle.room_program.specs.declared.fault.ProgramFault.{ProgramFault}
use Rattle.room_program.specs.declared.fault.ProgramFault.TheVariants.{Replay, Memory, Listen, Worker, TooManyRooms, BadName, Twice}
use Rattle.room_program.specs.Bases.{BeginsOn, IsNoBase}
use Rattle.room_program.specs.Faults.{Takes, fault_line, fault_status}
use Rattle.room_program.specs.Fronts.{front_lines}
use Rattle.room_program.specs.Streams.{GetsAtMost}
use Rattle.room_program.specs.declared.sink.Sink as sinks
use Rattle.room_program.specs.declared.source.Source as sources
use Rattle.room_server.specs.declared.table.TableFault.TheVariants as tables

-- the rooms can be served: there are at most 64, each with a name of its own
abbrev pub CanBeServed : List Text → Type 0
CanBeServed rooms = (length rooms ≤ 64) × AreFine rooms (length rooms)

-- the number is the length of a journal with this limit, to which calls lead from this map
abbrev pub IsFrontOf : Rows Global → ℕ → ℕ → Type 0
IsFrontOf base limit front = (journal : List (Entry Global)) × IsJournal base limit journal × (front ≡ length journal)

-- whom the server lets in, as it was asked for
abbrev pub rule_of_asked : ServeOptions → Admitted
rule_of_asked asked = record {
  name_header = option_map (λ name. name.now) asked.name_header;
  watchers = asked.watchers;
  origins = map (λ origin. origin.now) asked.origins.items;
}

-- the line that is written once clients can connect
abbrev pub listening : Text
listening = codes "listening\n"

-- the contracts' view of an input, and whether a base is asked for
module _ {S : Type 0} (source : sources.Ghosts S) (on_base : Bool) where
  -- the reason for which the rooms were not opened
  abbrev pub IsUnopened : List Text → S → S → ProgramFault → Type 0
  IsUnopened rooms input input' TooManyRooms = (64 < length rooms) × (input' ≡ input)
  IsUnopened rooms input input' BadName =
      (length rooms ≤ 64) × ((position : ℕ) × IsNameFault rooms (tables.BadName position)) × (input' ≡ input)
  IsUnopened rooms input input' Twice =
      (length rooms ≤ 64) × ((position : ℕ) × IsNameFault rooms (tables.Twice position)) × (input' ≡ input)
  IsUnopened rooms input input' (Replay fault) =
      CanBeServed rooms × (on_base ≡ true) × IsNoBase source (2 ^ 40) input input' fault
  IsUnopened rooms input input' Memory = length rooms ≤ 64
  IsUnopened rooms input input' _ = ⊥

-- the contracts' view of an output
module _ {W : Type 0} (sink : sinks.Ghosts W) where
  -- The rooms were served to the end, each from this map on. The output took the line `listening`, and then for each
  -- room a line with the entry count of its journal, which has the entries of the workers' sessions and no others.
  pub record ServesAll (rooms : List Text) (base : Rows Global) (limit workers : ℕ) (rule : Admitted) (output output' : W)
      : Type 0 where
    pub can : CanBeServed rooms
    pub sound : is_sound base ≡ true
    -- the rooms' desks with their first seats
    pub table : TableView
    pub first : List SeatView
    pub opens : Opens rooms base limit table first
    -- these seats at the end, after the seats through which the workers served sessions were met into them
    pub seats : List SeatView
    pub at : AreAt table seats
    pub met : HaveMet workers seats
    pub pools : Pools table rule (10 ^ 9) workers seats
    -- the entry counts of the desks that were closed with these seats, in the rooms' order
    pub fronts : List ℕ
    pub closed : AreFronts table.desks seats fronts
    pub as_many : length fronts ≡ length rooms
    pub each : All (IsFrontOf base limit) fronts
    pub written : Takes sink output output' (listening ++ front_lines rooms fronts)

-- the contracts' view of both
module _ {S W : Type 0} (source : sources.Ghosts S) (sink : sinks.Ghosts W) (on_base : Bool) where
  -- a fault ended the serving, before the line `listening` was written or afterwards
  abbrev pub StopsBy : List Text → S → S → W → W → ProgramFault → Type 0
  StopsBy rooms input input' output output' Listen = CanBeServed rooms × (output' ≡ output)
  StopsBy rooms input input' output output' Worker = CanBeServed rooms × Takes sink output output' listening
  StopsBy rooms input input' output output' Memory =
      (length rooms ≤ 64) × ((output' ≡ output) ⊎ Takes sink output output' listening)
  StopsBy rooms input input' output output' fault =
      IsUnopened source on_base rooms input input' fault × (output' ≡ output)

  -- rooms were served with this limit, and the call ended with this status; the line of a fault is written to the
  -- errors
  pub record Serves {E : Type 0} (errors_sink : sinks.Ghosts E) (rooms : List Text) (limit workers : ℕ)
      (rule : Admitted) (status : ℕ) (input input' : S) (output output' : W) (errors errors' : E) : Type 0 where
    pub range : status ≤ 2
    pub done : status ≡ 0 → ((base : Rows Global) × BeginsOn source on_base input base
        × ServesAll sink rooms base limit workers rule output output') × (errors' ≡ errors)
    pub failed : 0 < status → (fault : ProgramFault) × (status ≡ fault_status fault)
        × Takes errors_sink errors errors' (fault_line fault)
        × StopsBy rooms input input' output output' fault
    -- nothing was read except a base, by at most 2^40 reads and never after the end
    pub unread : on_base ≡ false → input' ≡ input
    pub calls : GetsAtMost source.gets (2 ^ 40) input input'
