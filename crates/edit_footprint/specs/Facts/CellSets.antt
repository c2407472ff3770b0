-- The cells of a list.
use Rattle.std.proofs.Common.{ap, ◌∙◌}
use Rattle.std.specs.Prelude.{◌≡◌, ◌||◌, Bool, true, false, T, List, [], ◌∷◌, map, refl}
use Rattle.osm_changes.specs.Prelude.{is_eq, below_all, is_among, rest_at, cell_cmp, is_same_cell, IsRising, has, is_same_cell-itself, rest_rest, bare_rows, less}
use Rattle.rising_lists.specs.Facts.Sorted.{first, second}
use Rattle.osm_elements.specs.declared.name.Name.{Name}
use Rattle.osm_changes.specs.declared.cell.Cell.{Cell}

-- a list has its first cell, and keeps its cells when it gets longer
pub has-own : (c : Cell) (cs : List Cell) → has (c ∷ cs) c ≡ true
has-own c cs = ap (λ b. b || has cs c) (is_same_cell-itself c)

pub has-more : (c d : Cell) (cs : List Cell) → has cs c ≡ true → has (d ∷ cs) c ≡ true
has-more c d cs i = by (is_same_cell c d)
  where
    by : (b : Bool) → (b || has cs c) ≡ true
    by true = refl
    by false = i

-- a list of rests has the rest of a name exactly if the names have the name
pub has-rests : (names : List Name) (e : Name) → has (map rest_at names) (rest_at e) ≡ is_among names e
has-rests [] e = refl
has-rests (x ∷ xs) e = λ i. rest_rest e x i || has-rests xs e i

-- a list does not have a cell that is below all of its cells
pub none_above : (c : Cell) (cs : List Cell) → T (below_all cell_cmp c (bare_rows cs)) → has cs c ≡ false
none_above c [] h = refl
none_above c (d ∷ ds) h = ap (λ o. is_eq o || has ds c) (less _ (first _ _ h)) ∙ none_above c ds (second _ _ h)

-- the rest of a rising list does not have its first cell
pub first_not_among_rest : (c : Cell) (cs : List Cell) → IsRising (c ∷ cs) → has cs c ≡ false
first_not_among_rest c cs h = none_above c cs (first _ _ h)
