use Rattle.std.proofs.Common.{◌∙◌, sym}
use Rattle.osm_changes.specs.Prelude.{half_after, half, row_of, row_at-changed}
use Rattle.osm_changes.proofs.rows.row_of_name.Goals as goal

pub returns : goal.returns
returns g c =
    let cs = c.args.changes.now in
    let x = c.args.name.now in
    let tags = c.in_ok-tags.ensures ∙ (λ i. half_after cs (c.of.ensures i) (half (c.of.ensures i).part (c.element-row.ensures i))) in
    let rest = c.in_ok-rest.ensures ∙ (λ i. half_after cs (c.of-2.ensures i) (half (c.of-2.ensures i).part (c.element-row.ensures i))) in
    let after = c.row_of.ensures ∙ (λ i. row_of (tags i) (rest i)) ∙ sym (row_at-changed (g.R.Lookup.rows c.args.rows.now) cs x) in
    let before = c.in_ok-copy_of.ensures ∙ c.element-row.ensures in
    λ i. record { name = x; before = before i; after = after i }
