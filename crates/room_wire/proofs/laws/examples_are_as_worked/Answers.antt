-- Each holds by evaluation.
use Rattle.std.proofs.Common.{refl}
use Rattle.std.specs.Fmt.{digits}
use Rattle.std.specs.Str.{chars}
use Rattle.serde_json.proofs.OnLiterals.{serde_json_on_literals}
use Rattle.osm_elements.specs.Texts.{is_long}
use Rattle.room_wire.specs.Examples.{reads_messages, tells_no_id, tells_an_id, writes_replies, writes_elements}
use Rattle.room_wire.proofs.laws.examples_are_as_worked.Goals as goal

pub returns-clause-reads_messages : goal.returns-clause-reads_messages
unfolding reads_messages serde_json_on_literals digits chars is_long
returns-clause-reads_messages c = (refl, refl, refl, refl, refl, refl, refl, refl, refl, refl, refl, refl, refl, refl, refl, refl, refl, refl, refl, refl, refl, refl, refl, refl, refl, refl, refl)

pub returns-clause-tells_no_id : goal.returns-clause-tells_no_id
unfolding tells_no_id serde_json_on_literals
returns-clause-tells_no_id c = (refl, refl, refl, refl, refl, refl, refl, refl, refl, refl)

pub returns-clause-tells_an_id : goal.returns-clause-tells_an_id
unfolding tells_an_id serde_json_on_literals digits chars is_long
returns-clause-tells_an_id c = (refl, refl, refl, refl, refl, refl, refl, refl, refl, refl, refl, refl, refl, refl, refl, refl, refl, refl, refl, refl, refl, refl, refl, refl, refl, refl, refl, refl, refl, refl, refl, refl, refl, refl, refl, refl, refl, refl, refl, refl, refl, refl, refl, refl, refl, refl, refl, refl, refl, refl)

pub returns-clause-writes_replies : goal.returns-clause-writes_replies
unfolding writes_replies serde_json_on_literals digits
returns-clause-writes_replies c = (refl, refl, refl, refl, refl, refl, refl, refl, refl, refl, refl, refl, refl, refl, refl, refl, refl, refl, refl, refl, refl, refl, refl, refl, refl, refl)

pub returns-clause-writes_elements : goal.returns-clause-writes_elements
unfolding writes_elements serde_json_on_literals digits
returns-clause-writes_elements c = (refl, refl, refl)
