use Rattle.std.proofs.Common.{not, rules, tests, ◌∙◌}
use Rattle.std.proofs.lemmas.Iterator.{YieldsList-from_slice}
use Rattle.std.proofs.lemmas.Iterator.Search.{find_from_yields_List}
use Rattle.osm_elements.specs.Maps.{is_among}
use Rattle.osm_drafts.proofs.draft.first_unwritten.Goals as goal

pub returns : goal.returns
returns g c =
    c.copied.ensures
    ∙ find_from_yields_List (λ name. not (is_among c.args.written.now.keys name)) _ _ c.find.result c.find.ensures.ran (YieldsList-from_slice c.args.names.now cc) (λ x b q k. search (rules, tests))
