-- The faults of maps that a room cannot begin with.
use Rattle.edit_groups.specs.Prelude.{Rows, IsFirstUnsound}
use Rattle.room_history.specs.declared.base.BaseFault.{BaseFault}
use Rattle.room_history.specs.declared.base.BaseFault.TheVariants.{Unsound, Memory}

-- the fault of a base map; `Memory` is possible for any map
abbrev pub IsBaseFault : {A : Type 0} → Rows A → BaseFault A → Type 0
IsBaseFault m (Unsound x why) = IsFirstUnsound m x why
IsBaseFault m Memory = Unit {0}
