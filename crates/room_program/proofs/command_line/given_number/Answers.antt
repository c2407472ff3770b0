-- The number that clap reads, if any, is the one that the digits write.
use Rattle.std.proofs.Common.{◌≡◌, ◌<◌, ◌^◌, refl, ℕ, Option, Some, None, IfSome, Ok, Err, Result, option_map, ◌∙◌, ap, sym, subst}
use Rattle.clap.specs.Matches.{ReadsOne, found_of, one_text}
use Rattle.clap.specs.Walk.{Text}
use Rattle.clap.proofs.WalkLemmas.{one_text-rows}
use Rattle.room_program.specs.Prelude.{ExplainsUnsignedError, HasUnsignedDigitsIfOk, IsNumeral, ParsesUnsigned, without_leading_plus, number_of}
use Rattle.room_program.proofs.command_line.given_number.Goals as goal

abbrev IsSmall : Option Text → Type 0
IsSmall o = IfSome o (λ text. IsNumeral 10 (without_leading_plus text) × (number_of text < 2 ^ 32))

read : {E : Type 0} (G : Text → Result ℕ E → Type 0) (only : (t : Text) (x : Result ℕ E) → G t x → ParsesUnsigned 32 10 t x) (o : Option Text) (r : Option ℕ)
    → (o ≡ None → r ≡ None) → ((t : Text) → o ≡ Some t → ReadsOne G t r) → IsSmall o → r ≡ option_map number_of o
read G only None r none value small = none refl
read G only (Some t) (Some n) none value small = ap Some (only t (Ok n) (value t refl)).1
read G only (Some t) None none value small =
    let bad = value t refl in
    absurd (only t (Err bad.0) bad.1 small)

pub returns : goal.returns
returns c =
    let f = found_of c.args.options.now in
    let id = c.args.id.now in
    let rows = one_text-rows f id in
    read (λ t r. ParsesUnsigned 32 10 t r × ExplainsUnsignedError 10 t r × HasUnsignedDigitsIfOk t r) (λ t r given. given.0) (one_text f id) c.get_one.result
    c.get_one.ensures.none c.get_one.ensures.value (subst IsSmall (sym rows) c.requires) ∙ ap (λ o. option_map number_of o) rows
