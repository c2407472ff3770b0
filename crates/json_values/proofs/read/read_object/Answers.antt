use Rattle.std.proofs.Common.{◌≡◌, ◌≢◌, [], sym, ap, ◌∙◌, subst, IsTrue, is_some, rules, Option, Some, None, false, refl}
use Rattle.json.specs.Json.{value}
use Rattle.json.specs.Lex.{tokens}
use Rattle.json.specs.Reads.{opens}
use Rattle.json.specs.Value.{value_view}
use Rattle.json.specs.declared.error.Error.{Error}
use Rattle.json.specs.declared.error.Error.TheVariants as errors
use Rattle.json_values.proofs.Texts.{opened, whole}
use Rattle.json_values.specs.declared.fault.Fault.{Fault}
use Rattle.json_values.specs.declared.fault.Fault.TheVariants.{Memory, NotJson}
use Rattle.json_values.specs.Views.{view}
use Rattle.serde_json.specs.Data.{Members}
use Rattle.serde_json.specs.Find.{as_object}
use Rattle.json_values.proofs.read.read_object.Goals as goal

full_is : (e : Error) (f : Fault) → (e ≢ errors.OutOfMemory → f ≡ NotJson) → f ≡ Memory → e ≡ errors.OutOfMemory
full_is errors.Invalid f other is = absurd (let not = other (λ same. absurd (cc)) in cc)
full_is errors.OutOfMemory f other is = refl
full_is errors.TooLong f other is = absurd (let not = other (λ same. absurd (cc)) in cc)
full_is errors.DuplicateKey f other is = absurd (let not = other (λ same. absurd (cc)) in cc)

pub returns-in_err-value-clause-memory : goal.returns-in_err-value-clause-memory
returns-in_err-value-clause-memory c full =
    let e = c.in_err-value.field-0.0 in
    let out : e ≡ errors.OutOfMemory = full_is e Memory (grind rules) refl in
    let opening : IsTrue (opens c.in_ok-reader.reader) = c.read.ensures.memory (grind (rules, out)) in
    opened c.args.text.now (subst (λ ts. IsTrue (opens ts)) c.in_ok-reader.ensures.ok opening)

nothing : (o : Option Members) → is_some o ≡ false → o ≡ None
nothing None h = refl
nothing (Some ms) h = absurd (cc)

pub returns-then-not-is_object-clause-not_object : goal.returns-then-not-is_object-clause-not_object
returns-then-not-is_object-clause-not_object c refused =
    let v = c.in_ok-value.value in
    let text = c.args.text.now in
    let first : value 127 (tokens text) ≡ Some (value_view v, c.read.new.reader) = ap (value 127) (sym c.in_ok-reader.ensures.ok) ∙ c.in_ok-value.ensures.ok in
    let over : c.read.new.reader ≡ [] = grind rules in
    (view v, whole text (value_view v) c.read.new.reader first over (sym c.if-not-is_in_range.ensures), nothing (as_object (view v)) (sym c.if-not-is_object.ensures))

pub returns-clause-ok : goal.returns-clause-ok
returns-clause-ok c =
    let v = c.in_ok-value.value in
    let text = c.args.text.now in
    let first : value 127 (tokens text) ≡ Some (value_view v, c.read.new.reader) = ap (value 127) (sym c.in_ok-reader.ensures.ok) ∙ c.in_ok-value.ensures.ok in
    let over : c.read.new.reader ≡ [] = grind rules in
    whole text (value_view v) c.read.new.reader first over (sym c.if-not-is_in_range.ensures)
