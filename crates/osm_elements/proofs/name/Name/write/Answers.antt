use Rattle.std.proofs.Common.{◌≡◌, ◌+◌, ◌-◌, ◌<◌, ◌≤◌, ◌∷◌, ◌++◌, List, ℕ, length, slice_set, arith, ap, ◌∙◌, rules}
use Rattle.std.specs.Fmt.{signed_decimal}
use Rattle.std.proofs.lemmas.Slice.{take-put_mid, drop-put_mid}
use Rattle.osm_elements.proofs.Buffers.{take-slice_set_first, drop-slice_set_first}
use Rattle.osm_elements.proofs.name.Name.write.Goals as goal

pub returns-clause-text : goal.returns-clause-text
returns-clause-text c =
    let digits : List ℕ = c.as_bytes-digits.result.now in
    let buffer : List ℕ = slice_set c.args.buffer.now 0 c.letter.result in
    let written : List ℕ = c.copy_from_slice.new.self in
    let same : written ≡ digits = c.copy_from_slice.ensures.after in
    let text : digits ≡ signed_decimal c.args.self.now.id = search rules in
    let some : 1 ≤ length buffer = search rules in
    let first : 0 < length c.args.buffer.now = search rules in
    take-put_mid 1 (length digits + 1 - 1) buffer written (length digits + 1) (omega (arith, ap length same)) some
    ∙ ap (λ l. l ++ written) (take-slice_set_first c.args.buffer.now c.letter.result first)
    ∙ (λ i. c.letter.ensures i ∷ (same ∙ text) i)

pub returns-clause-rest : goal.returns-clause-rest
returns-clause-rest c =
    let digits : List ℕ = c.as_bytes-digits.result.now in
    let buffer : List ℕ = slice_set c.args.buffer.now 0 c.letter.result in
    let written : List ℕ = c.copy_from_slice.new.self in
    let same : written ≡ digits = c.copy_from_slice.ensures.after in
    let some : 1 ≤ length buffer = search rules in
    drop-put_mid 1 (length digits + 1 - 1) buffer written (length digits + 1) (omega arith) some (omega (arith, ap length same))
    ∙ drop-slice_set_first c.args.buffer.now c.letter.result (length digits)
