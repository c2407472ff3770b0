use Rattle.std.proofs.Common.{◌++◌, ◌+◌, map, drop, refl, sym, ap, ◌∙◌, append-nil, arith}
use Rattle.std.proofs.lemmas.List.{drop_all}
use Rattle.room_wire.specs.Inner.Writing.{IsReadable, members_tokens}
use Rattle.room_wire.proofs.Prefixes.{one_more}
use Rattle.room_wire.proofs.Written.{all_given, member_told, next_left}
use Rattle.room_wire.proofs.told.write_members.Goals as goal

pub loop-member-init : goal.loop-member-init
loop-member-init g c = (refl, refl, λ i d l. absurd (omega (arith, l)))

pub loop-member-preserved : goal.loop-member-preserved
loop-member-preserved g c =
    let l = c.loop-member in
    let f = g.M.ToldMember.pair in
    let x = c.member-item.result in
    let told = c.in_ok-write.ensures in
    let left = next_left f c.args.members.now l.member-index x (omega arith) c.member-item.is in (
      told.before ∙ l.invariant.0,
      member_told l.out.tokens c.write.new.out.tokens _ (f x) (map f (drop (l.member-index + 1) c.args.members.now)) told.tokens (ap (λ ds. l.out.tokens ++ members_tokens ds) (sym left) ∙ l.invariant.1),
      one_more (λ y. IsReadable (f y).1) c.args.members.now l.member-index x (omega arith) c.member-item.is told.readable l.invariant.2,
    )

pub returns : goal.returns
returns g c =
    let l = c.loop-member in
    let f = g.M.ToldMember.pair in
    let none = drop_all l.member-index c.args.members.now (omega arith) in
    record {
      before = l.invariant.0;
      tokens = sym (append-nil l.out.tokens) ∙ ap (λ xs. l.out.tokens ++ members_tokens (map f xs)) (sym none) ∙ l.invariant.1;
      readable = all_given f (λ m. IsReadable m.1) c.args.members.now l.member-index (omega arith) l.invariant.2;
    }
