use Rattle.std.proofs.Common.{◌∙◌}
use Rattle.osm_drafts.specs.Prelude.{sound_in_order, drafted, drafted_itself}
use Rattle.osm_drafts.proofs.draft.Draft.of.Goals as goal

pub returns : goal.returns
returns g c = (λ i. drafted c.args.store.now.rows (c.new.ensures.empty i) (c.new-2.ensures i)) ∙ drafted_itself c.args.store.now.rows (sound_in_order c.args.store.now.rows c.map.ensures.sound)
