use Rattle.std.proofs.Common.{◌≡◌, ◌++◌, All, map, take, drop}
use Rattle.room_wire.specs.Inner.Writing.{IsReadable, members_tokens}
use Rattle.room_wire.proofs.told.write_members.Given as goal

-- the tokens that were written, and those that are left, make the whole
abbrev pub invariant-loop-member : goal.invariant-loop-member
invariant-loop-member g l =
    (l.out.before ≡ l.initial.out.before)
    × (l.out.tokens ++ members_tokens (map g.M.ToldMember.pair (drop l.member-index l.members)) ≡ l.initial.out.tokens ++ members_tokens (map g.M.ToldMember.pair l.members))
    × All (λ x. IsReadable (g.M.ToldMember.pair x).1) (take l.member-index l.members)
