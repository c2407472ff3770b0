use Rattle.std.proofs.Common.{sym, subst, ◌∙◌}
use Rattle.edit_footprint.specs.Prelude.{IsRising-name_set, half_references}
use Rattle.osm_refs.specs.Rising.{IsRising}
use Rattle.edit_footprint.proofs.touching.push_begun_or_ceased.Goals as goal

pub push_but-requires-clause-from : goal.push_but-requires-clause-from
push_but-requires-clause-from g c = subst IsRising (sym (c.as_slice.ensures ∙ c.in_ok-before.ensures)) (IsRising-name_set (half_references c.args.change.now.before))

pub push_but-requires-clause-others : goal.push_but-requires-clause-others
push_but-requires-clause-others g c = subst IsRising (sym (c.as_slice-2.ensures ∙ c.in_ok-after.ensures)) (IsRising-name_set (half_references c.args.change.now.after))

pub push_but-requires-2-clause-from : goal.push_but-requires-2-clause-from
push_but-requires-2-clause-from g c = subst IsRising (sym (c.as_slice-3.ensures ∙ c.in_ok-after.ensures)) (IsRising-name_set (half_references c.args.change.now.after))

pub push_but-requires-2-clause-others : goal.push_but-requires-2-clause-others
push_but-requires-2-clause-others g c = subst IsRising (sym (c.as_slice-4.ensures ∙ c.in_ok-before.ensures)) (IsRising-name_set (half_references c.args.change.now.before))
