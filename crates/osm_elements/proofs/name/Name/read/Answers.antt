use Rattle.std.proofs.Common.{◌≡◌, ap, sym, ◌∙◌, option_and_then}
use Rattle.std.proofs.lemmas.Int.{to_z-of_z}
use Rattle.osm_elements.specs.Prelude.{w64, name_of, name_with, id_of, name_of-split, name_of-no_letter, id_of-signed_decimal, new_is, no_name}
use Rattle.osm_elements.proofs.name.Name.read.Goals as goal

read_name : (c : goal.After-new) → c.new.result ≡ name_of c.args.text.now
read_name c =
    let kind = c.in-Some.kind in
    let id = c.in-Some-read_id.id in
    new_is kind _ c.new.result c.new.ensures
    ∙ ap (name_with kind) (to_z-of_z w64 id c.in-Some-read_id.ensures.0)
    ∙ sym (ap (option_and_then (name_with kind)) (ap id_of c.in-Some-read_id.ensures.1 ∙ id_of-signed_decimal id c.in-Some-read_id.ensures.0))
    ∙ sym (name_of-split c.args.text.now kind c.in-Some.digits.now c.in-Some.ensures)

pub returns-in-Some-read_id-clause-value : goal.returns-in-Some-read_id-clause-value
returns-in-Some-read_id-clause-value c = read_name c

pub returns-in-Some-read_id-clause-only : goal.returns-in-Some-read_id-clause-only
returns-in-Some-read_id-clause-only c = no_name c.args.text.now c.new.result (read_name c)

pub returns-in-None-clause-value : goal.returns-in-None-clause-value
returns-in-None-clause-value c = sym (name_of-no_letter c.args.text.now c.in-None.ensures)
