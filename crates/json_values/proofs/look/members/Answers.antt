use Rattle.std.proofs.Common.{◌≡◌, ◌+◌, [], ◌∷◌, Some, drop, sym, ap, ◌∙◌, arith}
use Rattle.std.proofs.lemmas.List.{drop_more, drop_all}
use Rattle.json.proofs.Trees.{view-Object}
use Rattle.json.specs.Value.{members_view as json_members, value_view}
use Rattle.json_values.proofs.Inserted.{members_view-insert_entry}
use Rattle.json_values.specs.Views.{data_of, members_data, members_view}
use Rattle.serde_json.specs.Data.{no_members}
use Rattle.serde_json.specs.Find.{as_object}
use Rattle.json_values.proofs.look.members.Goals as goal

pub members-preserved : goal.members-preserved
members-preserved c =
    let l = c.members in
    let xs = c.deref-member-items.result.now in
    let x = c.member-item.result in
    let left = json_members (drop (l.member-index + 1) xs) in
    let here : drop l.member-index xs ≡ x ∷ drop (l.member-index + 1) xs = drop_more xs l.member-index x (omega arith) ∙ ap (λ y. y ∷ drop (l.member-index + 1) xs) (sym c.member-item.is) in
    ap (λ es. members_data left (members_view es)) (c.in_ok-insert.ensures.entries)
    ∙ ap (members_data left) (members_view-insert_entry l.found.entries _ _)
    ∙ sym (ap (λ ys. members_data (json_members ys) (members_view l.found.entries)) here)
    ∙ l.invariant

pub returns : goal.returns
returns c =
    let l = c.members in
    let xs = c.deref-member-items.result.now in
    let none : drop l.member-index xs ≡ [] = drop_all l.member-index xs (omega arith) in
    let seen = ap value_view c.in-Object.is ∙ view-Object c.in-Object.members in
    ap Some (sym (ap (λ ys. members_data (json_members ys) (members_view l.found.entries)) none) ∙ l.invariant ∙ ap (λ ys. members_data (json_members ys) no_members) c.deref-member-items.ensures.value)
    ∙ sym (ap (λ j. as_object (data_of j)) seen)
