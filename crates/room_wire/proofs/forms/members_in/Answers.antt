use Rattle.std.proofs.Common.{◌≡◌, ◌⊎◌, ◌+◌, ◌∷◌, ◌++◌, [], Some, None, Err, drop, inl, inr, sym, ap, ap₂, ◌∙◌, arith}
use Rattle.std.proofs.lemmas.List.{drop_more}
use Rattle.room_wire.specs.Prelude.{items_view, view, member_of, members_in, or_fault, BadField, Memory, Members}
use Rattle.room_wire.proofs.ItemLists.{with_front, items_in-some, items_in-none}
use Rattle.room_wire.proofs.EntryLists.{or_fault_ok}
use Rattle.room_wire.proofs.FaultsToldOn.{or_fault_err, told_on}
use Rattle.room_wire.proofs.forms.members_in.Goals as goal

pub loop-item-preserved : goal.loop-item-preserved
loop-item-preserved c =
    let l = c.loop-item in
    let xs = c.args.items.now in
    let x = c.item-item.result in
    let name = c.in_ok-name.name in
    let role = c.in_ok-name.role in
    let here : drop l.item-index xs ≡ x ∷ drop (l.item-index + 1) xs = drop_more xs l.item-index x (omega arith) ∙ ap (λ y. y ∷ drop (l.item-index + 1) xs) (sym c.item-item.is) in
    let more = items_view (drop (l.item-index + 1) xs) in
    let read : member_of (view x) ≡ Some (name, role) = or_fault_ok _ _ (name, role) c.in_ok-name.ensures in
    let pushed : c.push.new.self ≡ l.members ++ (name, role) ∷ [] = c.in_ok-push.ensures.ok ∙ ap₂ (λ n r. l.members ++ (n, r) ∷ []) c.new.ensures.name c.new.ensures.role in
    ap (λ ms. with_front member_of ms more) pushed
    ∙ sym (items_in-some member_of l.members (name, role) (view x) more read)
    ∙ ap (λ ys. with_front member_of l.members (items_view ys)) (sym here)
    ∙ l.invariant

pub returns-in_err-name : goal.returns-in_err-name
returns-in_err-name c = told_on c.from_residual-in_err-name.result c.in_err-name.field-0.0 _ c.from_residual-in_err-name.ensures.0 c.from_residual-in_err-name.ensures.1 (by c.in_err-name.ensures)
  where
    missing : member_of (view c.item-item.result) ≡ None → members_in (items_view c.args.items.now) ≡ None
    missing none =
        let l = c.loop-item in
        let xs = c.args.items.now in
        let x = c.item-item.result in
        let here : drop l.item-index xs ≡ x ∷ drop (l.item-index + 1) xs = drop_more xs l.item-index x (omega arith) ∙ ap (λ y. y ∷ drop (l.item-index + 1) xs) (sym c.item-item.is) in
        sym l.invariant
        ∙ ap (λ ys. with_front member_of l.members (items_view ys)) here
        ∙ items_in-none member_of l.members (view x) (items_view (drop (l.item-index + 1) xs)) none

    by : (c.in_err-name.field-0.0 ≡ Memory) ⊎ (or_fault (BadField Members) (member_of (view c.item-item.result)) ≡ Err c.in_err-name.field-0.0)
        → (c.in_err-name.field-0.0 ≡ Memory) ⊎ (or_fault (BadField Members) (members_in (items_view c.args.items.now)) ≡ Err c.in_err-name.field-0.0)
    by (inl memory) = inl memory
    by (inr bad) = inr (or_fault_err (BadField Members) c.in_err-name.field-0.0 (member_of (view c.item-item.result)) (members_in (items_view c.args.items.now)) bad missing)
