-- Groups of actions, and refusals of them. (Groups are this project's.)
use Rattle.std.specs.Prelude.{◌&&◌, ℕ, nat_le, Bool, Some, None}
use Rattle.room_interface.specs.declared.refusal.Refusal.{Refusal}
use Rattle.room_interface.specs.declared.edit_refusal.EditRefusal.{EditRefusal}

-- a group has 1 to 10,000 actions (limits of this project)
abbrev pub is_group_length : ℕ → Bool
is_group_length n = nat_le 1 n && nat_le n 10000

module _ {A : Type 0} where
  -- a refusal of the action at a position of a group, and a refusal without a position
  abbrev pub at_position : ℕ → Refusal A → EditRefusal A
  at_position k why = record { action = Some k; why = why }

  abbrev pub alone : Refusal A → EditRefusal A
  alone why = record { action = None; why = why }
