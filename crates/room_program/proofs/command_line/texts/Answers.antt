-- The texts are the values that were found.
use Rattle.std.proofs.Common.{◌∙◌, ap, ℕ, List, [], map, codes, unwrap_or}
use Rattle.std.specs.Borrow.{Bor}
use Rattle.std.proofs.lemmas.Result.{IfOk-weaker}
use Rattle.clap.specs.Matches.{found_of}
use Rattle.clap.proofs.WalkLemmas.{raw_values-rows}
use Rattle.room_program.proofs.command_line.texts.Goals as goal

pub returns-in-Some : goal.returns-in-Some
returns-in-Some c =
    let is = ap (λ o. unwrap_or o []) (c.in-Some.ensures ∙ raw_values-rows (found_of c.args.options.now) c.args.id.now) in
    IfOk-weaker c.from_slice.result _ _ (λ v items. ap (map (λ (s : Bor (List ℕ)). s.now)) items ∙ is) c.from_slice.ensures.items

pub returns-in-None : goal.returns-in-None
returns-in-None c =
    ap (map (λ (s : Bor (List ℕ)). s.now)) c.new.ensures.items
    ∙ ap (λ o. unwrap_or o []) (c.in-None.ensures ∙ raw_values-rows (found_of c.args.options.now) c.args.id.now)
