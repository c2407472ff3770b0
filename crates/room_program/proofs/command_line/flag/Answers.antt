-- An option without a value is given if its first value is `true`.
use Rattle.std.proofs.Common.{◌≡◌, refl, ℕ, List, [], Option, Some, None, codes, unwrap_or, option_map, ◌∙◌, ap, bytes_eq}
use Rattle.std.specs.Borrow.{Bor}
use Rattle.clap.specs.Matches.{found_of}
use Rattle.clap.proofs.WalkLemmas.{first_value-rows}
use Rattle.room_program.proofs.command_line.flag.Goals as goal

-- the value of the reference, or nothing
behind : (o : Option (Bor (List ℕ))) (none : Bor (List ℕ)) → none.now ≡ [] → (unwrap_or o none).now ≡ unwrap_or (option_map (λ s. s.now) o) []
behind None none is = is
behind (Some s) none is = refl

pub returns : goal.returns
returns c =
    let found = ap (λ (s : Bor (List ℕ)). s.now) c.unwrap_or.ensures ∙ (behind c.get_str.result _ refl
    ∙ ap (λ o. unwrap_or o []) (c.get_str.ensures ∙ first_value-rows (found_of c.args.options.now) c.args.id.now)) in
    c.eq.ensures ∙ ap (λ (text : List ℕ). bytes_eq text (codes "true")) found
