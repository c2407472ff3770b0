use Rattle.std.proofs.Common.{◌∙◌}
use Rattle.osm_changes.specs.Prelude.{pointwise, name_eq_is}
use Rattle.osm_changes.proofs.same.are_same_names.Goals as goal

pub returns : goal.returns
returns c = c.eq.ensures ∙ (λ i. pointwise (λ a b. name_eq_is a b i) c.args.one.now c.args.other.now)
