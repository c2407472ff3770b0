use Rattle.std.proofs.Common.{◌++◌, ◌+◌, map, drop, refl, sym, ap, ◌∙◌, arith}
use Rattle.std.proofs.lemmas.List.{drop_all}
use Rattle.json.specs.Token.{begin_array}
use Rattle.room_wire.specs.Inner.Writing.{IsReadable}
use Rattle.room_wire.proofs.Prefixes.{one_more}
use Rattle.room_wire.proofs.Written.{all_given, array_is_readable, item_written, items_left, next_left, opened}
use Rattle.room_wire.proofs.told.write_array.Goals as goal

pub loop-item-init : goal.loop-item-init
loop-item-init g c = (refl, refl, λ i d l. absurd (omega (arith, l)))

pub loop-item-preserved : goal.loop-item-preserved
loop-item-preserved g c =
    let l = c.loop-item in
    let f = g.V.Told.tree in
    let x = c.item-item.result in
    let told = c.in_ok-write.ensures in
    let left = next_left f c.args.items.now l.item-index x (omega arith) c.item-item.is in (
      told.before ∙ l.invariant.0,
      item_written l.out.tokens c.write.new.out.tokens _ (f x) (map f (drop (l.item-index + 1) c.args.items.now)) told.tokens (ap (λ ds. l.out.tokens ++ items_left ds) (sym left) ∙ l.invariant.1),
      one_more (λ y. IsReadable (f y)) c.args.items.now l.item-index x (omega arith) c.item-item.is told.readable l.invariant.2,
    )

pub returns : goal.returns
returns g c =
    let l = c.loop-item in
    let f = g.V.Told.tree in
    let none = drop_all l.item-index c.args.items.now (omega arith) in
    record {
      before = c.in_ok-end_array.ensures.room.0 ∙ l.invariant.0 ∙ c.in_ok-begin_array.ensures.room.0;
      tokens = c.in_ok-end_array.ensures.ok ∙ ap (λ xs. l.out.tokens ++ items_left (map f xs)) (sym none) ∙ l.invariant.1 ∙ opened _ _ begin_array c.in_ok-begin_array.ensures.ok (items_left (map f c.args.items.now));
      readable = array_is_readable (map f c.args.items.now) (all_given f IsReadable c.args.items.now l.item-index (omega arith) l.invariant.2);
    }
