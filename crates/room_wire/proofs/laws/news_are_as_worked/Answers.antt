-- Each holds by evaluation.
use Rattle.std.proofs.Common.{refl}
use Rattle.std.specs.Fmt.{digits}
use Rattle.std.specs.Str.{chars}
use Rattle.serde_json.proofs.OnLiterals.{serde_json_on_literals}
use Rattle.osm_elements.specs.NameOrder.{name_cmp}
use Rattle.osm_elements.specs.Texts.{is_long}
use Rattle.room_wire.specs.NewsExamples.{writes_news, reads_news, tells_bad_news, reads_welcomes, tells_bad_welcomes}
use Rattle.room_wire.proofs.laws.news_are_as_worked.Goals as goal

pub returns-clause-writes_news : goal.returns-clause-writes_news
unfolding writes_news serde_json_on_literals digits
returns-clause-writes_news c = (refl, refl)

pub returns-clause-reads_news : goal.returns-clause-reads_news
unfolding reads_news serde_json_on_literals digits chars is_long name_cmp
returns-clause-reads_news c = (refl, refl, refl)

pub returns-clause-tells_bad_news : goal.returns-clause-tells_bad_news
unfolding tells_bad_news serde_json_on_literals digits chars is_long name_cmp
returns-clause-tells_bad_news c = (refl, refl, refl, refl, refl, refl, refl, refl, refl, refl, refl, refl, refl, refl)

pub returns-clause-reads_welcomes : goal.returns-clause-reads_welcomes
unfolding reads_welcomes serde_json_on_literals digits chars is_long name_cmp
returns-clause-reads_welcomes c = (refl, refl)

pub returns-clause-tells_bad_welcomes : goal.returns-clause-tells_bad_welcomes
unfolding tells_bad_welcomes serde_json_on_literals digits chars is_long name_cmp
returns-clause-tells_bad_welcomes c = (refl, refl, refl, refl, refl, refl, refl, refl, refl, refl, refl, refl)
