use Rattle.std.proofs.Common.{◌≡◌, rules}
use Rattle.std.proofs.lemmas.Fmt.{parse-signed_decimal}
use Rattle.osm_elements.specs.Prelude.{w64, signed_decimal, other_text, mag_fits}
use Rattle.osm_elements.proofs.name.read_id.Goals as goal

pub returns-in_default : goal.returns-in_default
returns-in_default c = λ id fits e.
    let read = parse-signed_decimal w64 id c.args.digits.now c.parse.result fits (mag_fits id fits) e c.parse.ensures.value.0 in
    let written : c.format.result.now ≡ signed_decimal c.in-Ok.id = search rules in
    let same : c.in-Ok.id ≡ id = cc (read, c.in-Ok.is) in
    let text : c.format.result.now ≡ c.args.digits.now = cc (written, same, e) in
    other_text c.format.result.now c.args.digits.now c.if-eq.ensures text

pub returns-in_default-2 : goal.returns-in_default-2
returns-in_default-2 c = λ id fits e.
    absurd (cc (parse-signed_decimal w64 id c.args.digits.now c.parse.result fits (mag_fits id fits) e c.parse.ensures.value.0, c.in_default.is))
