-- The number that clap reads is the one that the digits write.
use Rattle.std.proofs.Common.{◌≡◌, ◌<◌, ◌^◌, refl, ℕ, Option, Some, None, IfSome, Ok, Err, Result, unwrap_or, ◌∙◌, ap, sym, subst}
use Rattle.clap.specs.Matches.{ReadsOne, found_of, one_text}
use Rattle.clap.specs.Walk.{Text}
use Rattle.clap.proofs.WalkLemmas.{one_text-rows}
use Rattle.room_program.specs.Prelude.{option_map_or, ExplainsUnsignedError, HasUnsignedDigitsIfOk, IsNumeral, ParsesUnsigned, without_leading_plus, number_of}
use Rattle.room_program.proofs.command_line.number.Goals as goal

abbrev IsSmall : Option Text → Type 0
IsSmall o = IfSome o (λ text. IsNumeral 10 (without_leading_plus text) × (number_of text < 2 ^ 32))

read : {E : Type 0} (G : Text → Result ℕ E → Type 0) (only : (t : Text) (x : Result ℕ E) → G t x → ParsesUnsigned 32 10 t x) (o : Option Text) (r : Option ℕ)
    → (o ≡ None → r ≡ None) → ((t : Text) → o ≡ Some t → ReadsOne G t r) → IsSmall o → unwrap_or r 0 ≡ option_map_or number_of o 0
read G only None r none value small = ap (λ x. unwrap_or x 0) (none refl)
read G only (Some t) (Some n) none value small = (only t (Ok n) (value t refl)).1
read G only (Some t) None none value small =
    let bad = value t refl in
    absurd (only t (Err bad.0) bad.1 small)

pub returns : goal.returns
returns c =
    let f = found_of c.args.options.now in
    let id = c.args.id.now in
    let rows = one_text-rows f id in
    c.unwrap_or.ensures ∙ (read (λ t r. ParsesUnsigned 32 10 t r × ExplainsUnsignedError 10 t r × HasUnsignedDigitsIfOk t r) (λ t r given. given.0) (one_text f id) c.get_one.result
    c.get_one.ensures.none c.get_one.ensures.value (subst IsSmall (sym rows) c.requires) ∙ ap (λ o. option_map_or number_of o 0) rows)
