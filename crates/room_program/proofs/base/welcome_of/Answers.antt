-- Bytes that are not UTF-8 are not JSON.
use Rattle.std.proofs.Common.{◌≡◌, ◌⊎◌, Result, Ok, Err, MatchResult, sym, ap, subst, inl, inr, ◌∙◌}
use Rattle.room_program.specs.Prelude.{Bad, Welcome, GivesUnder, spells_welcome}
use Rattle.room_wire.specs.declared.bad.Fault.TheVariants.{Memory}
use Rattle.room_program.proofs.FirstLineLemmas.{base-text, base-no_text}
use Rattle.room_program.proofs.base.welcome_of.Goals as goal

abbrev IsSpelled : Result Welcome Bad → Result Welcome Bad → Type 0
IsSpelled read r = MatchResult r (λ w. read ≡ Ok w) (λ bad. (bad.fault ≡ Memory) ⊎ (read ≡ Err bad))

-- if an allocation failed, the id of the result does not matter
spelled_alike : (r read : Result Welcome Bad) → GivesUnder (λ w. w.id) r read → IsSpelled read r
spelled_alike (Ok w) read is = is
spelled_alike (Err bad) read (inl wanting) = inl wanting.0
spelled_alike (Err bad) read (inr told) = inr told

pub returns-in-Ok-clause-exact : goal.returns-in-Ok-clause-exact
returns-in-Ok-clause-exact c =
    let cases = c.in-Ok.ensures.cases in
    subst (λ (read : Result Welcome Bad). IsSpelled read c.read_welcome.result) (ap spells_welcome cases.0 ∙ sym (base-text c.args.line.now cases.1))
    (spelled_alike c.read_welcome.result (spells_welcome c.in-Ok.text.now) c.read_welcome.ensures.exact)

pub returns-in-Err-clause-exact : goal.returns-in-Err-clause-exact
returns-in-Err-clause-exact c = inr (base-no_text c.args.line.now c.in-Err.ensures.cases.0 ∙ ap (λ (b : Bad). Err b) (sym c.unread.ensures))
