use Rattle.std.proofs.Common.{sym, ap, subst, ◌∙◌}
use Rattle.edit_groups.specs.Prelude.{is_among, is_among-name_set, IsRising-name_set}
use Rattle.osm_refs.specs.Rising.{IsRising}
use Rattle.edit_groups.proofs.differing.changes_between.Goals as goal

pub changes_at-requires-clause-rising : goal.changes_at-requires-clause-rising
changes_at-requires-clause-rising g c =
    subst IsRising (sym (c.deref.ensures.value ∙ c.in_ok-names.ensures.set)) (IsRising-name_set c.args.names.items)

pub changes_at-requires-clause-rest : goal.changes_at-requires-clause-rest
changes_at-requires-clause-rest g c =
    λ y out. c.requires y (sym (is_among-name_set y c.args.names.items) ∙ sym (ap (λ names. is_among names y) (c.deref.ensures.value ∙ c.in_ok-names.ensures.set)) ∙ out)
