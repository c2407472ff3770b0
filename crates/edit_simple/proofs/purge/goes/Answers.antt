use Rattle.std.proofs.Common.{ap, ◌∙◌, Ordering}
use Rattle.edit_simple.specs.Prelude.{contains_by, Name, name_cmp_is}
use Rattle.edit_simple.proofs.purge.goes.Goals as goal

pub returns : goal.returns
returns g c = c.contains.ensures ∙ ap (λ (cmp : Name → Name → Ordering). contains_by (cmp c.args.name.now) c.args.gone.now) name_cmp_is
