use lib.Utf8.{encode}
use Rattle.osm_elements.proofs.Letters.{no_letter}
use Rattle.osm_elements.proofs.name.split_letter.Goals as goal

pub returns-in_default-strip_prefix-2 : goal.returns-in_default-strip_prefix-2
unfolding encode
returns-in_default-strip_prefix-2 c =
    no_letter c.args.text.now c.in_default.ensures.cases c.in_default-strip_prefix.ensures.cases c.in_default-strip_prefix-2.ensures.cases
