-- Each holds by evaluation.
use Rattle.std.proofs.Common.{refl}
use Rattle.std.specs.Fmt.{digits}
use Rattle.std.specs.Str.{chars}
use Rattle.osm_elements.specs.Examples.{names_read, names_ordered, texts_limited, tags_made, tags_counted, tags_changed, tags_refused, rows_changed, elements_made}
use Rattle.osm_elements.specs.NameOrder.{name_cmp}
use Rattle.osm_elements.specs.Texts.{is_long}
use Rattle.osm_elements.proofs.laws.examples_are_as_worked.Goals as goal

pub returns-clause-names_read : goal.returns-clause-names_read
unfolding names_read digits
returns-clause-names_read c = (refl, refl, refl, refl, refl, refl, refl, refl, refl, refl, refl, refl, refl, refl, refl, refl)

pub returns-clause-names_ordered : goal.returns-clause-names_ordered
unfolding names_ordered name_cmp
returns-clause-names_ordered c = (refl, refl, refl, refl, refl, refl, refl, refl, refl, refl)

pub returns-clause-texts_limited : goal.returns-clause-texts_limited
unfolding texts_limited is_long chars
returns-clause-texts_limited c = (refl, refl, refl, refl, refl, refl)

pub returns-clause-tags_made : goal.returns-clause-tags_made
unfolding tags_made is_long chars
returns-clause-tags_made c = (refl, refl, refl, refl, refl, refl, refl, refl, refl, refl, refl)

pub returns-clause-tags_counted : goal.returns-clause-tags_counted
unfolding tags_counted is_long chars
returns-clause-tags_counted c = (refl, refl)

pub returns-clause-tags_changed : goal.returns-clause-tags_changed
unfolding tags_changed
returns-clause-tags_changed c = (refl, refl, refl, refl, refl, refl, refl, refl, refl, refl)

pub returns-clause-tags_refused : goal.returns-clause-tags_refused
unfolding tags_refused
returns-clause-tags_refused c = (refl, refl, refl, refl, refl)

pub returns-clause-rows_changed : goal.returns-clause-rows_changed
unfolding rows_changed name_cmp
returns-clause-rows_changed c = λ e f. (refl, refl, refl, refl, refl, refl, refl, refl, refl, refl, refl)

pub returns-clause-elements_made : goal.returns-clause-elements_made
unfolding elements_made is_long chars
returns-clause-elements_made c = (refl, refl, refl, refl, refl, refl, refl, refl, refl, refl)
