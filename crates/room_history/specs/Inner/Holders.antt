-- The holders that a room keeps.
use Rattle.std.specs.Prelude.{◌≡◌, ℕ, true, List}
use Rattle.edit_footprint.specs.Holding.{Held}
use Rattle.edit_footprint.specs.Touches.{IsFootprint}
use Rattle.room_history.specs.declared.entry.Entry.{Entry}
use Rattle.room_history.specs.Blockers.{held, recorded_footprint}
use Rattle.room_history.specs.Holdings.{holders_of}
use Rattle.room_history.specs.Journals.{is_standing}
use Rattle.room_history.specs.Replays.{Past}

module _ {A : Type 0} where
  -- the holders are those of the active entries, and the footprints rise
  pub record AreHolders (p : Past A) (j : List (Entry A)) (holders : Held) : Type 0 where
    pub rising : (s : ℕ) → is_standing j s ≡ true → IsFootprint (recorded_footprint p s)
    pub holders_are : holders ≡ holders_of (held p j)
