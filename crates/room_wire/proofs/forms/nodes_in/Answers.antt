use Rattle.std.proofs.Common.{◌≡◌, ◌+◌, [], ◌∷◌, None, drop, inr, sym, ap, ◌∙◌, arith}
use Rattle.std.proofs.lemmas.List.{drop_more, drop_all}
use Rattle.room_wire.specs.Prelude.{items_view, view, or_fault, node_of, nodes_in, BadField}
use Rattle.room_wire.proofs.ItemLists.{with_front, items_in-some, items_in-none, items_in-nil}
use Rattle.room_wire.specs.declared.field.Field.TheVariants as field
use Rattle.room_wire.proofs.forms.nodes_in.Goals as goal

pub loop-item-preserved : goal.loop-item-preserved
loop-item-preserved c =
    let l = c.loop-item in
    let xs = c.args.items.now in
    let x = c.item-item.result in
    let here : drop l.item-index xs ≡ x ∷ drop (l.item-index + 1) xs = drop_more xs l.item-index x (omega arith) ∙ ap (λ y. y ∷ drop (l.item-index + 1) xs) (sym c.item-item.is) in
    let more = items_view (drop (l.item-index + 1) xs) in
    ap (λ ns. with_front node_of ns more) c.in_ok-push-in-Some.ensures.ok
    ∙ sym (items_in-some node_of l.nodes c.in-Some.node (view x) more (sym c.in-Some.ensures.value))
    ∙ ap (λ ys. with_front node_of l.nodes (items_view ys)) (sym here)
    ∙ l.invariant

pub returns-in-None : goal.returns-in-None
returns-in-None c =
    let l = c.loop-item in
    let xs = c.args.items.now in
    let x = c.item-item.result in
    let here : drop l.item-index xs ≡ x ∷ drop (l.item-index + 1) xs = drop_more xs l.item-index x (omega arith) ∙ ap (λ y. y ∷ drop (l.item-index + 1) xs) (sym c.item-item.is) in
    let none : nodes_in (items_view xs) ≡ None = sym l.invariant ∙ ap (λ ys. with_front node_of l.nodes (items_view ys)) here ∙ items_in-none node_of l.nodes (view x) (items_view (drop (l.item-index + 1) xs)) (sym c.in-None.ensures.value) in
    inr (ap (or_fault (BadField field.Nodes)) none)

pub returns : goal.returns
returns c =
    let l = c.loop-item in
    let xs = c.args.items.now in
    let none : drop l.item-index xs ≡ [] = drop_all l.item-index xs (omega arith) in
    ap (or_fault (BadField field.Nodes)) (sym l.invariant ∙ ap (λ ys. with_front node_of l.nodes (items_view ys)) none ∙ items_in-nil node_of l.nodes)
