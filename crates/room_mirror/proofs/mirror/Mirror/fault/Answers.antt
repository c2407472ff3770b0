use Rattle.std.proofs.Common.{ap, ◌∙◌}
use Rattle.room_mirror.specs.Mirrors.{fault, fits}
use Rattle.room_mirror.proofs.Refusing.{gap_told, mismatch_told, none_told}
use Rattle.room_mirror.proofs.mirror.Mirror.fault.Goals as goal

pub returns-then-not-is_next : goal.returns-then-not-is_next
returns-then-not-is_next g c =
    gap_told (record { seq = c.self.inside.seq; rows = c.self.inside.map }) c.args.news.now c.due_after.result c.if-not-is_next.ensures c.due_after.ensures ∙ ap (λ s. fault s c.args.news.now) c.self.view_is

pub returns-then-not-fits : goal.returns-then-not-fits
returns-then-not-fits g c =
    mismatch_told (record { seq = c.self.inside.seq; rows = c.self.inside.map }) c.args.news.now c.if-not-is_next.ensures (c.if-not-fits.ensures ∙ ap (fits c.self.inside.map) c.as_slice.ensures) ∙ ap (λ s. fault s c.args.news.now) c.self.view_is

pub returns : goal.returns
returns g c =
    none_told (record { seq = c.self.inside.seq; rows = c.self.inside.map }) c.args.news.now c.if-not-is_next.ensures (c.if-not-fits.ensures ∙ ap (fits c.self.inside.map) c.as_slice.ensures) ∙ ap (λ s. fault s c.args.news.now) c.self.view_is
