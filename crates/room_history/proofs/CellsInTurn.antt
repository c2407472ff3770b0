-- The cells of changes, one after the other.
use Rattle.std.proofs.Common.{◌≡◌, ◌||◌, ◌+◌, ◌++◌, ◌<◌, ℕ, zero, suc, Bool, true, false, List, [], ◌∷◌, length, take, get_or, refl, sym, ap, ◌∙◌, arith}
use Rattle.std.proofs.lemmas.List.{take_more, map-append}
use Rattle.osm_changes.specs.Prelude.{name_cmp, is_lt, cell_of, changed_cells, same_cells}
use Rattle.osm_changes.specs.Cells.{Cell, has, IsRising, is_same_cell}
use Rattle.osm_changes.specs.declared.change.Change.{Change}
use Rattle.edit_footprint.specs.Facts.CellSets.{has-own, has-more}
use Rattle.rising_lists.specs.Facts.Sorted.{second}
use Rattle.room_history.proofs.Overwriting.{first_is_least}

module _ {A : Type 0} where
  pub next_cells : (cs : List (Change A)) (i : ℕ) (d : Change A) → i < length cs → d ≡ get_or cs i d → changed_cells (take (i + 1) cs) ≡ changed_cells (take i cs) ++ cell_of d ∷ []
  next_cells cs i d within is = ap changed_cells (take_more cs i d within ∙ ap (λ z. take i cs ++ z ∷ []) (sym is)) ∙ map-append cell_of (take i cs) (d ∷ [])

  item_in : (cs : List (Change A)) (i : ℕ) (d : Change A) → i < length cs → d ≡ get_or cs i d → has (changed_cells cs) (cell_of d) ≡ true
  item_in [] i d within is = absurd (omega (arith, within))
  item_in (z ∷ zs) zero d within is = ap (λ (w : Change A). has (changed_cells (w ∷ zs)) (cell_of d)) (sym is) ∙ has-own (cell_of d) (changed_cells zs)
  item_in (z ∷ zs) (suc i) d within is = has-more (cell_of d) (cell_of z) (changed_cells zs) (item_in zs i d (omega (arith, within)) is)

  -- the cells before a change have no greater names
  pub before_it : (cs : List (Change A)) (i : ℕ) (d : Change A) → IsRising (changed_cells cs) → i < length cs → d ≡ get_or cs i d → (q : Cell) → has (changed_cells (take i cs)) q ≡ true → is_lt (name_cmp d.name q.name) ≡ false
  before_it [] i d rise within is q h = absurd (omega (arith, within))
  before_it (z ∷ zs) zero d rise within is q h = absurd (cc)
  before_it (z ∷ zs) (suc i) d rise within is q h = by (is_same_cell q (cell_of z)) refl h (before_it zs i d (second _ _ rise) (omega (arith, within)) is q)
    where
      by : (b : Bool) → is_same_cell q (cell_of z) ≡ b → (b || has (changed_cells (take i zs)) q) ≡ true → (has (changed_cells (take i zs)) q ≡ true → is_lt (name_cmp d.name q.name) ≡ false) → is_lt (name_cmp d.name q.name) ≡ false
      by true e j go = ap (λ (w : Cell). is_lt (name_cmp d.name w.name)) (same_cells q (cell_of z) e)
          ∙ first_is_least (cell_of z) (changed_cells zs) rise (cell_of d) (has-more (cell_of d) (cell_of z) (changed_cells zs) (item_in zs i d (omega (arith, within)) is))
      by false e j go = go j
