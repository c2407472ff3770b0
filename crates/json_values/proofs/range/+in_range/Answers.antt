use Rattle.std.proofs.Common.{◌≡◌, ◌+◌, ◌∷◌, ◌&&◌, drop, is_some, true, sym, ap, ◌∙◌, arith}
use Rattle.std.proofs.lemmas.List.{drop_more}
use Rattle.json.specs.Value.{members_view, value_view}
use Rattle.json_values.proofs.Trees.{members_convert}
use Rattle.serde_json.specs.Data.{no_members}
use Rattle.serde_json.specs.Read.{of_json, of_members}
use Rattle.json_values.proofs.range.+in_range.Goals as goal

pub members_are_in_range-loop-member-preserved : goal.members_are_in_range-loop-member-preserved
members_are_in_range-loop-member-preserved t c =
    let l = c.loop-member in
    let xs = c.deref-member-items.result.now in
    let x = c.member-item.result in
    let left = members_view (drop (l.member-index + 1) xs) in
    let here : drop l.member-index xs ≡ x ∷ drop (l.member-index + 1) xs = drop_more xs l.member-index x (omega arith) ∙ ap (λ y. y ∷ drop (l.member-index + 1) xs) (sym c.member-item.is) in
    let yes_it_is : is_some (of_json (value_view x.1)) ≡ true = grind arith in
    sym (ap (λ ys. is_some (of_members (members_view ys) no_members)) here ∙ members_convert x.0.now (value_view x.1) left ∙ ap (λ b. b && is_some (of_members left no_members)) yes_it_is)
    ∙ l.invariant
