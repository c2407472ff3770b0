-- Moves, node by node.
use Rattle.std.specs.Prelude.{◌≡◌, ◌⊎◌, ◌&&◌, ℤ, pos, Bool, true, false, List, [], Option, Some, None, Result, MatchResult, filter}
use Rattle.osm_drafts.specs.Prelude.{list_all, int_eq, Rows, least, row_at, rows_changes}
use Rattle.osm_elements.specs.declared.name.Name.{Name}
use Rattle.osm_elements.specs.declared.element.Element.{Element}
use Rattle.osm_elements.specs.declared.element.Element.TheVariants.{Node, Way, Relation}
use Rattle.osm_refs.specs.Rising.{IsRising}
use Rattle.osm_changes.specs.declared.change.Change.{Change}
use Rattle.room_interface.specs.declared.refusal.Refusal.{Refusal}
use Rattle.room_interface.specs.declared.refusal.Refusal.TheVariants.{OutOfRange, Memory}
use Rattle.edit_simple.specs.Inner.Moving.{row_leaves, moved_row}

module _ {A : Type 0} where
  abbrev pub is_node_row : Option (Element A) → Bool
  is_node_row None = false
  is_node_row (Some (Node lat lon tags)) = true
  is_node_row (Some (Way nodes tags)) = false
  is_node_row (Some (Relation members tags)) = false

  -- the names rise and are those of nodes of the map, and the distance is not 0
  pub record MayMove (m : Rows A) (moved : List Name) (dlat dlon : ℤ) : Type 0 where
    pub rising : IsRising moved
    pub there : list_all (λ y. is_node_row (row_at m y)) moved ≡ true
    pub distance : (int_eq dlat (pos 0) && int_eq dlon (pos 0)) ≡ false

  -- the names that would leave the range
  abbrev pub leaving : Rows A → ℤ → ℤ → List Name → List Name
  leaving m dlat dlon names = filter (λ y. row_leaves dlat dlon (row_at m y)) names

  -- the changes of all names if no name leaves the range, otherwise the refusal of the first that does, or `Memory`
  abbrev pub IsMoved : Rows A → List Name → ℤ → ℤ → Result (List (Change A)) (Refusal A) → Type 0
  IsMoved m moved dlat dlon r =
      MatchResult r (λ cs. (leaving m dlat dlon moved ≡ []) × (cs ≡ rows_changes m (moved_row m dlat dlon) moved))
      (λ e. ((y : Name) × (least (leaving m dlat dlon moved) ≡ Some y) × (e ≡ OutOfRange y)) ⊎ (e ≡ Memory))
