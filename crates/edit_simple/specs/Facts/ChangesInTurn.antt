-- The changes of rising names, made name by name.
use Rattle.std.proofs.Common.{sym, subst}
use Rattle.std.specs.Prelude.{◌≡◌, ◌<◌, ℕ, List, ◌++◌, Option, length, take, get_or}
use Rattle.osm_drafts.specs.Prelude.{Rows, row_at, row_changes, rows_changes, AreChanges, next_name_fits}
use Rattle.osm_elements.specs.declared.name.Name.{Name}
use Rattle.osm_elements.specs.declared.element.Element.{Element}
use Rattle.osm_refs.specs.Rising.{IsRising}
use Rattle.osm_changes.specs.declared.change.Change.{Change}

module _ {A : Type 0} (m : Rows A) (after : Name → Option (Element A)) where
  -- the changes of the next name can follow those of the earlier names
  pub one_fits : (xs : List Name) (i : ℕ) (x : Name) → i < length xs → x ≡ get_or xs i x → IsRising xs
      → (cs : List (Change A)) (o p : Option (Element A)) → cs ≡ rows_changes m after (take i xs) → o ≡ row_at m x → p ≡ after x → AreChanges (cs ++ row_changes x o p)
  one_fits xs i x l is rising cs o p e f g =
      subst AreChanges (λ j. sym e j ++ row_changes x (sym f j) (sym g j)) (next_name_fits m after xs i x l is rising)
