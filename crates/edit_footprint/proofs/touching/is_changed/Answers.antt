use Rattle.std.proofs.Common.{rules, ◌∙◌}
use Rattle.std.proofs.lemmas.Fn.{always_returns_same}
use Rattle.edit_footprint.specs.Prelude.{cell_cmp, cell_of}
use Rattle.edit_footprint.proofs.Finding.{search_finds}
use Rattle.edit_footprint.proofs.touching.is_changed.Goals as goal

pub returns : goal.returns
returns g c =
    c.is_ok.ensures.value
    ∙ search_finds c.args.rows.now c.args.cell.now c.requires c.binary_search_by.result c.binary_search_by.ensures.bound
    (c.binary_search_by.ensures.position (λ d. cell_cmp (cell_of d) c.args.cell.now) (always_returns_same _ _ _ (λ x r f' called. search rules)))
