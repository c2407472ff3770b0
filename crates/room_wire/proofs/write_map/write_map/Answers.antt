use Rattle.std.proofs.Common.{rules, sym, ap, subst, ◌∙◌, arith, ◌≡◌, ◌∷◌, ◌++◌, [], All, map, refl}
use Rattle.json.specs.Token.{begin_array}
use Rattle.room_wire.specs.Prelude.{Global, Name, Element}
use Rattle.room_wire.specs.Inner.Writing.{IsReadable}
use Rattle.room_wire.proofs.ToldParts.{row_told}
use Rattle.room_wire.proofs.Written.{array_is_readable, item_written, items_left, opened, put_first}
use Rattle.room_wire.proofs.write_map.write_map.Goals as goal

pub loop-name-init : goal.loop-name-init
loop-name-init c =
    let is : c.into_iter-name-iterator.result ≡ c.args.map.now = c.into_iter-name-iterator.ensures.into_iter_gives ∙ c.iter-name-items.ensures.rest in (
      refl,
      ap (λ rs. c.begin_array.new.self.tokens ++ items_left (map row_told rs)) is,
      λ rest. subst (λ rs. All IsReadable (map row_told rs)) is rest,
    )

pub loop-name-preserved : goal.loop-name-preserved
loop-name-preserved c =
    let l = c.loop-name in
    let row : Name × Element Global = (c.in-Some.name.now, c.in-Some.element.now) in
    let told = c.in_ok-write_element.ensures in
    let rest = c.next.new.self in
    let is : l.name-iterator ≡ row ∷ rest = search rules in (
      told.before ∙ l.invariant.0,
      item_written l.out.tokens c.write_element.new.out.tokens _ (row_told row) (map row_told rest) told.tokens (ap (λ rs. l.out.tokens ++ items_left (map row_told rs)) (sym is) ∙ l.invariant.1),
      λ others. l.invariant.2 (subst (λ rs. All IsReadable (map row_told rs)) (sym is) (put_first IsReadable (row_told row) (map row_told rest) told.readable others)),
    )

pub returns : goal.returns
returns c =
    let l = c.loop-name in
    let none : l.name-iterator ≡ [] = search rules in
    record {
      before = c.in_ok-end_array.ensures.room.0 ∙ l.invariant.0 ∙ c.in_ok-begin_array.ensures.room.0;
      tokens = c.in_ok-end_array.ensures.ok ∙ ap (λ rs. l.out.tokens ++ items_left (map row_told rs)) (sym none) ∙ l.invariant.1 ∙ opened _ _ begin_array c.in_ok-begin_array.ensures.ok (items_left (map row_told c.args.map.now));
      readable = array_is_readable (map row_told c.args.map.now) (l.invariant.2 (subst (λ rs. All IsReadable (map row_told rs)) (sym none) (λ i d l. absurd (omega (arith, l)))));
    }
