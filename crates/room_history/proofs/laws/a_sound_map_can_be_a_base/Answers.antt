use Rattle.std.proofs.Common.{◌≡◌, true, refl}
use Rattle.room_history.specs.Prelude.{sound_in_order, is_sound, Rows, IsBaseFault, BaseFault, Unsound, sound_kinds, unsound_map}
use Rattle.room_history.specs.declared.base.BaseFault.TheVariants.{Memory}
use Rattle.room_history.proofs.laws.a_sound_map_can_be_a_base.Goals as goal

memory_alone : {A : Type 0} (m : Rows A) (fault : BaseFault A) → is_sound m ≡ true → IsBaseFault m fault → fault ≡ Memory
memory_alone m (Unsound x why) sound u = let not = unsound_map m x why u in absurd (cc)
memory_alone m Memory sound u = refl

pub returns-clause-order : goal.returns-clause-order
returns-clause-order g c = sound_in_order

pub returns-clause-kinds : goal.returns-clause-kinds
returns-clause-kinds g c = sound_kinds

pub returns-clause-memory : goal.returns-clause-memory
returns-clause-memory g c = memory_alone
