use Rattle.std.proofs.Common.{rules, sym, subst, ◌∙◌, ◌≡◌, ◌∷◌, [], All}
use Rattle.std.proofs.lemmas.List.Elements.{All-cons, All-nil}
use Rattle.room_mirror.specs.Prelude.{Global, Element, Name, names_of, HasId}
use Rattle.room_mirror.proofs.brought.map_has_ids.Goals as goal

pub loop-name-init : goal.loop-name-init
loop-name-init c =
    let is : c.into_iter-name-iterator.result ≡ c.args.map.now = c.into_iter-name-iterator.ensures.into_iter_gives ∙ c.iter-name-items.ensures.rest in
    subst (λ rs. All HasId (names_of rs)) is

pub loop-name-preserved : goal.loop-name-preserved
loop-name-preserved c =
    let l = c.loop-name in
    let row : Name × Element Global = (c.in-Some.name.now, c.in-Some.field-0-1.now) in
    let rest = c.next.new.self in
    let is : l.name-iterator ≡ row ∷ rest = search rules in
    λ others. l.invariant (subst (λ rs. All HasId (names_of rs)) (sym is) (All-cons HasId row.0 (names_of rest) c.name_has_id.ensures others))

pub returns : goal.returns
returns c =
    let none : c.loop-name.name-iterator ≡ [] = search rules in
    c.loop-name.invariant (subst (λ rs. All HasId (names_of rs)) (sym none) (All-nil HasId))
