use Rattle.std.proofs.Common.{rules, tests}
use Rattle.std.proofs.lemmas.Iterator.{YieldsList-from_slice}
use Rattle.std.proofs.lemmas.Iterator.Search.{find_from_yields_List}
use Rattle.edit_footprint.specs.Prelude.{Change, is_same_cell, cell_of}
use Rattle.edit_footprint.proofs.touching.change_of.Goals as goal

pub returns : goal.returns
returns g c =
    find_from_yields_List (λ (d : Change g.row.A.Denot). is_same_cell c.args.cell.now (cell_of d)) _ _ c.find.result c.find.ensures.ran (YieldsList-from_slice c.args.rows.now cc) (λ x b q k. search (rules, tests))
