-- The cells that are subjects of an action, the elements that it owns, and what is outside of its footprint.
use Rattle.std.proofs.Common.{sym, ap, ◌∙◌}
use Rattle.std.specs.Prelude.{◌≡◌, true, false, List, [], ◌∷◌}
use Rattle.std.proofs.lemmas.Bool.{or_left, or_right, false_from_ne_true}
use Rattle.edit_actions.specs.Prelude.{Rows, is_same, is_among, is_eq-name_cmp_itself}
use Rattle.osm_changes.specs.Prelude.{same_names}
use Rattle.osm_changes.specs.Cells.{has}
use Rattle.osm_elements.specs.declared.name.Name.{Name}
use Rattle.osm_changes.specs.declared.cell.Cell.{Cell}
use Rattle.osm_changes.specs.declared.part.Part.{Part}
use Rattle.room_interface.specs.declared.action.Action.{Action}
use Rattle.edit_footprint.specs.Footprints.{owned, subjects, footprint, reaches}
use Rattle.edit_footprint.specs.Facts.CellSets.{has-own}
use Rattle.edit_footprint.specs.Facts.Footprints.{owned_inside, subjects_inside}
use Rattle.edit_footprint.specs.Facts.Reaching.{whole_reached}

-- a list of one cell, of one name, and of two names has each of them
pub alone : (c : Cell) → has (c ∷ []) c ≡ true
alone c = has-own c []

pub first : (x : Name) (xs : List Name) → is_among (x ∷ xs) x ≡ true
first x xs = or_left (is_same x x) (is_among xs x) (is_eq-name_cmp_itself x)

pub second : (x y : Name) → is_among (x ∷ y ∷ []) y ≡ true
second x y = or_right (is_same y x) (is_among (y ∷ []) y) (first y [])

module _ {A : Type 0} (m : Rows A) (a : Action A) where
  -- both cells of an element that the action owns are reached
  pub owned_reached : (p : Part) (x : Name) → is_among (owned a) x ≡ true → reaches (footprint m a) (record { name = x; part = p }) ≡ true
  owned_reached p x own = whole_reached (footprint m a) (record { name = x; part = p }) (owned_inside m a x own)

  -- a name with a cell outside differs from each name that the action owns, and from each that is a subject with this
  -- part
  apart_from : (p : Part) (x y : Name) → reaches (footprint m a) (record { name = x; part = p }) ≡ true → reaches (footprint m a) (record { name = y; part = p }) ≡ false → is_same y x ≡ false
  apart_from p x y own out =
      false_from_ne_true (is_same y x) (λ same. cc (sym own ∙ ap (λ (z : Name). reaches (footprint m a) (record { name = z; part = p })) (sym (same_names y x same)) ∙ out))

  pub another : (p : Part) (x y : Name) → is_among (owned a) x ≡ true → reaches (footprint m a) (record { name = y; part = p }) ≡ false → is_same y x ≡ false
  another p x y own = apart_from p x y (owned_reached p x own)

  pub no_subject : (p : Part) (x y : Name) → has (subjects a) (record { name = x; part = p }) ≡ true → reaches (footprint m a) (record { name = y; part = p }) ≡ false → is_same y x ≡ false
  no_subject p x y own = apart_from p x y (subjects_inside m a (record { name = x; part = p }) own)
