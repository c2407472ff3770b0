use Rattle.std.proofs.Common.{sym, ap, subst, ◌∙◌}
use Rattle.room_history.specs.Prelude.{Held, HoldsOnly, fallen, HoldsOnly-standing, fallen_again}
use Rattle.room_history.proofs.effects.stand.Goals as goal

pub fall-requires : goal.fall-requires
fall-requires g c =
    subst (λ (h : Held). HoldsOnly h c.args.footprint.now c.args.seq) (sym c.in_ok-stand.ensures.ok)
    (HoldsOnly-standing c.args.holders.now c.args.footprint.now c.args.seq c.requires.rising c.requires.next)

pub returns-in-Err-clause-err : goal.returns-in-Err-clause-err
returns-in-Err-clause-err g c = (
  c.in-Err.ensures.err,
  c.fall.ensures ∙ ap (λ (h : Held). fallen h c.args.seq) c.in_ok-stand.ensures.ok ∙ fallen_again c.args.holders.now c.args.footprint.now c.args.seq c.in_ok-stand.ensures.held c.requires.rising c.requires.next,
)
