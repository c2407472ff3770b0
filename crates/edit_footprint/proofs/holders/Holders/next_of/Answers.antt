use Rattle.std.proofs.Common.{nat_lt, find, sym, ap, subst, ◌∙◌, nat_cmp}
use Rattle.edit_footprint.specs.Prelude.{IsRising, Held, holding}
use Rattle.edit_footprint.proofs.holders.Holders.next_of.Goals as goal

pub next-requires : goal.next-requires
next-requires g c = subst (IsRising nat_cmp) (sym c.of.ensures) (c.self.inside.lists.kept.rising c.args.touch.now)

pub returns-clause-first : goal.returns-clause-first
returns-clause-first g c = c.next.ensures ∙ ap (find (nat_lt c.args.seq)) (c.of.ensures ∙ ap (λ (h : Held). holding h c.args.touch.now) c.self.view_is)

pub returns-clause-rising : goal.returns-clause-rising
returns-clause-rising g c = λ t. subst (λ (h : Held). IsRising nat_cmp (holding h t)) c.self.view_is (c.self.inside.lists.kept.rising t)
