-- Cells, each a name and a part, and lists of them. (Parts are this project's.)
use Rattle.std.specs.Prelude.{Bool, ℕ, List, [], ◌∷◌, Option, fold, flat_map}
use Rattle.osm_refs.specs.Prelude.{is_eq, nat_cmp, then_cmp, on, Ordering, name_cmp, Rows, row_at, with_value}
use Rattle.rising_lists.specs.Rising.{is_among}
use Rattle.osm_elements.specs.declared.name.Name.{Name}
use Rattle.osm_changes.specs.declared.half.Half.{Half}
use Rattle.osm_changes.specs.declared.part.Part.{Part}
use Rattle.osm_changes.specs.declared.part.Part.TheVariants.{Tags, Rest}
use Rattle.osm_changes.specs.Halves.{half}
use Rattle.rising_lists.specs.Rising as lists

-- a name and a part of its row
pub record Cell : Type 0 where
  pub name : Name
  pub part : Part

abbrev pub tags_at : Name → Cell
tags_at x = record { name = x; part = Tags }

abbrev pub rest_at : Name → Cell
rest_at x = record { name = x; part = Rest }

abbrev pub both_at : Name → List Cell
both_at x = tags_at x ∷ rest_at x ∷ []

-- both cells of each name
abbrev pub cells_of : List Name → List Cell
cells_of names = flat_map both_at names

abbrev pub part_rank : Part → ℕ
part_rank Tags = 0
part_rank Rest = 1

-- cells are ordered by name, and tags come in front of the rest
abbrev pub cell_cmp : Cell → Cell → Ordering
cell_cmp = then_cmp (on (λ (c : Cell). c.name) name_cmp) (on (λ (c : Cell). part_rank c.part) nat_cmp)

abbrev pub is_same_cell : Cell → Cell → Bool
is_same_cell c d = is_eq (cell_cmp c d)

-- the list contains the cell
abbrev pub has : List Cell → Cell → Bool
has cells c = is_among cell_cmp cells c

-- the cells of a list, rising, each once
abbrev pub cell_set : List Cell → List Cell
cell_set cells = fold (λ set c. with_value cell_cmp c set) [] cells

-- the cells strictly rise
abbrev pub IsRising : List Cell → Type 0
IsRising cells = lists.IsRising cell_cmp cells

-- the half in a cell of a map
abbrev pub half_at : {A : Type 0} → Rows A → Cell → Option (Half A)
half_at m c = half c.part (row_at m c.name)
