-- Commutation of two actions. (Footprints are this project's.)
use Rattle.std.specs.Prelude.{◌≡◌}
use Rattle.edit_actions.specs.Prelude.{Rows, after}
use Rattle.room_interface.specs.declared.action.Action.{Action}
use Rattle.edit_footprint.specs.Locality.{AcceptedAlike}

-- the second action b is accepted alike before a, a is accepted alike after b, and both orders lead to the same map
pub record ChangePlaces {A : Type 0} (m : Rows A) (a b : Action A) : Type 0 where
  pub second_first : AcceptedAlike (after m a) m b
  pub first_second : AcceptedAlike m (after m b) a
  pub same_map : after (after m b) a ≡ after (after m a) b
