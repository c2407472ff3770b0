use Rattle.std.proofs.Common.{sym, subst, ap, ◌∙◌}
use Rattle.osm_elements.specs.Facts.NameOrder.{name_cmp_is}
use Rattle.rising_lists.specs.Rising as lists
use Rattle.osm_refs.proofs.but.names_but.Goals as goal

pub but_all-requires-clause-values : goal.but_all-requires-clause-values
but_all-requires-clause-values g c = subst (λ cmp. lists.IsRising cmp c.args.names.now) (sym name_cmp_is) c.requires.names

pub but_all-requires-clause-others : goal.but_all-requires-clause-others
but_all-requires-clause-others g c = subst (λ cmp. lists.IsRising cmp c.args.others.now) (sym name_cmp_is) c.requires.others

pub returns : goal.returns
returns g c = c.from_vec.ensures ∙ c.in_ok-kept.ensures ∙ ap (λ cmp. lists.but_all cmp c.args.names.now c.args.others.now) name_cmp_is
