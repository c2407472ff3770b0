-- The lines and exit statuses of faults.
use Rattle.std.specs.Prelude.{◌≡◌, ◌⊎◌, ℕ, Bool, true, false, List, [], ◌∷◌, ◌++◌, codes}
use Rattle.room_server.specs.Prelude.{Global, Appends, name_text}
use Rattle.osm_elements.specs.declared.name.Name.{Name}
use Rattle.room_history.specs.declared.base.BaseFault.{BaseFault}
use Rattle.room_program.specs.declared.fault.ProgramFault.{ProgramFault}
use Rattle.room_program.specs.declared.fault.ProgramFault.TheVariants.{Replay, Memory, Listen, Worker, TooManyRooms, BadName, Twice}
use Rattle.room_program.specs.declared.fault.ReplayFault.{ReplayFault}
use Rattle.room_program.specs.declared.fault.StreamFault.{StreamFault}
use Rattle.room_program.specs.declared.sink.Sink.{Ghosts}
use Rattle.room_program.specs.Streams.{TookNone}
use Rattle.room_server.specs.declared.pool.PoolFault.{PoolFault}
use Rattle.room_server.specs.declared.table.TableFault.{TableFault}
use Rattle.room_history.specs.declared.base.BaseFault.TheVariants as bases
use Rattle.room_program.specs.declared.fault.ReplayFault.TheVariants as faults
use Rattle.room_program.specs.declared.fault.StreamFault.TheVariants as streams
use Rattle.room_server.specs.declared.pool.PoolFault.TheVariants as pools
use Rattle.room_server.specs.declared.table.TableFault.TheVariants as tables

-- the line with the name whose row is not sound
abbrev pub unsound_line : Name → List ℕ
unsound_line x = codes "maproom: unsound base " ++ name_text x ++ 10 ∷ []

-- the line of the fault has a name
abbrev pub names_row : ProgramFault → Bool
names_row (Replay (faults.Unsound x why)) = true
names_row _ = false

-- the line of a fault
abbrev pub fault_line : ProgramFault → List ℕ
fault_line (Replay faults.Read) = codes "maproom: read failed\n"
fault_line (Replay faults.Write) = codes "maproom: write failed\n"
fault_line (Replay faults.Memory) = codes "maproom: no memory\n"
fault_line (Replay (faults.BadBase bad)) = codes "maproom: bad base\n"
fault_line (Replay (faults.Unsound x why)) = unsound_line x
fault_line Memory = codes "maproom: no memory\n"
fault_line Listen = codes "maproom: cannot listen\n"
fault_line Worker = codes "maproom: cannot start a worker\n"
fault_line TooManyRooms = codes "maproom: too many rooms\n"
fault_line BadName = codes "maproom: bad room name\n"
fault_line Twice = codes "maproom: room twice\n"

-- the exit status of a fault, which is 2 if the arguments are to blame
abbrev pub fault_status : ProgramFault → ℕ
fault_status TooManyRooms = 2
fault_status BadName = 2
fault_status Twice = 2
fault_status _ = 1

-- a fault of a run over streams, and a fault of a base map, as a fault of a replay
abbrev pub stream_fault : StreamFault → ReplayFault
stream_fault streams.Read = faults.Read
stream_fault streams.Write = faults.Write
stream_fault streams.Memory = faults.Memory

abbrev pub base_fault : BaseFault Global → ReplayFault
base_fault (bases.Unsound x why) = faults.Unsound x why
base_fault bases.Memory = faults.Memory

-- a fault of a base map, of the table of rooms and of the pool of workers, as a fault of the program
abbrev pub opening_fault : BaseFault Global → ProgramFault
opening_fault (bases.Unsound x why) = Replay (faults.Unsound x why)
opening_fault bases.Memory = Memory

abbrev pub table_fault : TableFault → ProgramFault
table_fault (tables.BadName position) = BadName
table_fault (tables.Twice position) = Twice
table_fault (tables.Unsound x why) = Replay (faults.Unsound x why)
table_fault tables.Memory = Memory

abbrev pub pool_fault : PoolFault → ProgramFault
pool_fault pools.Worker = Worker
pool_fault pools.Memory = Memory

-- a writer took a text; or it took a prefix of the text and then failed or took no more
module _ {W : Type 0} (sink : Ghosts W) where
  pub record Takes (before after : W) (text : List ℕ) : Type 0 where
    pub front : List ℕ
    pub rest : List ℕ
    pub text_is : text ≡ front ++ rest
    pub written : Appends (sink.taken before) (sink.taken after) front
    pub why : (rest ≡ []) ⊎ ((sink.has_failed after ≡ true) ⊎ TookNone sink.puts after)

  -- a writer took some text so
  abbrev pub TakesOne : W → W → Type 0
  TakesOne before after = (text : List ℕ) × Takes before after text
