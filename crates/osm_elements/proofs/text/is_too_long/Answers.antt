use Rattle.std.proofs.Common.{rules}
use Rattle.std.proofs.lemmas.Str.{chars_from_encodes}
use Rattle.osm_elements.specs.Texts.{is_long}
use Rattle.osm_elements.proofs.text.is_too_long.Goals as goal

pub returns : goal.returns
unfolding is_long
returns c = search (rules, chars_from_encodes)
