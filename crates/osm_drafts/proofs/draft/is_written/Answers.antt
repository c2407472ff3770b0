use Rattle.std.proofs.Common.{ap, ◌∙◌, Ordering}
use Rattle.osm_drafts.specs.Prelude.{contains_by, Name, name_cmp_is}
use Rattle.osm_drafts.proofs.draft.is_written.Goals as goal

pub returns : goal.returns
returns g c = c.contains.ensures ∙ ap (λ (cmp : Name → Name → Ordering). contains_by (cmp c.args.name.now) c.args.written.now) name_cmp_is
