-- The address is the first value that was found.
use Rattle.std.proofs.Common.{◌≡◌, refl, ℕ, List, [], Option, Some, None, codes, unwrap_or, option_map, ◌∙◌, ap}
use Rattle.std.specs.Borrow.{Bor}
use Rattle.clap.specs.Matches.{found_of}
use Rattle.clap.proofs.WalkLemmas.{first_value-rows}
use Rattle.room_program.proofs.command_line.addr.Goals as goal

-- the value of the reference, or nothing
behind : (o : Option (Bor (List ℕ))) (none : Bor (List ℕ)) → none.now ≡ [] → (unwrap_or o none).now ≡ unwrap_or (option_map (λ s. s.now) o) []
behind None none is = is
behind (Some s) none is = refl

pub returns : goal.returns
returns c =
    ap (λ (s : Bor (List ℕ)). s.now) c.unwrap_or.ensures ∙ (behind c.get_str.result _ refl
    ∙ ap (λ o. unwrap_or o []) (c.get_str.ensures ∙ first_value-rows (found_of c.args.options.now) (codes "addr")))
