-- The premise under which changes may be applied to a store.
use Rattle.std.specs.Prelude.{◌≡◌, true, List}
use Rattle.osm_changes.specs.Prelude.{Rows, changed, AreFrom, is_sound}
use Rattle.osm_changes.specs.declared.change.Change.{Change}

module _ {A : Type 0} where
  -- the changes are from the map, and the map after them is sound
  abbrev pub MayApply : Rows A → List (Change A) → Type 0
  MayApply m cs = AreFrom m cs × (is_sound (changed m cs) ≡ true)
