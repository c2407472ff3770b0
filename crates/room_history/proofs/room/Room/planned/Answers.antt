use Rattle.std.proofs.Common.{◌≡◌, true, Err, sym, ap, subst, ◌∙◌}
use Rattle.room_history.specs.Prelude.{AreFrom, is_sound, changes, footprint, refusal, IsEditPlan, mapof}
use Rattle.osm_changes.specs.Changes.{changed}
use Rattle.room_history.proofs.Stepping.{plan_refused}
use Rattle.room_history.proofs.room.Room.planned.Goals as goal

pub returns-in-Ok-clause-accepted : goal.returns-in-Ok-clause-accepted
returns-in-Ok-clause-accepted g c =
    let here = sym (ap (λ s. mapof s.base s.journal) c.self.view_is) ∙ sym c.self.invariant.rows_are in
    ap (λ m. refusal m c.args.edit.now) here ∙ c.in-Ok.ensures.plan.0

pub returns-in-Ok-clause-changes : goal.returns-in-Ok-clause-changes
returns-in-Ok-clause-changes g c =
    let here = sym (ap (λ s. mapof s.base s.journal) c.self.view_is) ∙ sym c.self.invariant.rows_are in
    c.in-Ok.ensures.plan.1 ∙ sym (ap (λ m. changes m c.args.edit.now) here)

pub returns-in-Ok-clause-footprint : goal.returns-in-Ok-clause-footprint
returns-in-Ok-clause-footprint g c =
    let here = sym (ap (λ s. mapof s.base s.journal) c.self.view_is) ∙ sym c.self.invariant.rows_are in
    c.in-Ok.ensures.plan.2 ∙ sym (ap (λ m. footprint m c.args.edit.now) here)

pub returns-in-Ok-clause-from : goal.returns-in-Ok-clause-from
returns-in-Ok-clause-from g c =
    let here = sym (ap (λ s. mapof s.base s.journal) c.self.view_is) ∙ sym c.self.invariant.rows_are in
    subst (λ m. AreFrom m c.in-Ok.planned.0) (sym here) c.in-Ok.ensures.from

pub returns-in-Ok-clause-sound : goal.returns-in-Ok-clause-sound
returns-in-Ok-clause-sound g c =
    let here = sym (ap (λ s. mapof s.base s.journal) c.self.view_is) ∙ sym c.self.invariant.rows_are in
    subst (λ m. is_sound (changed m c.in-Ok.planned.0) ≡ true) (sym here) c.in-Ok.ensures.sound

pub returns-in-Err-clause-refused : goal.returns-in-Err-clause-refused
returns-in-Err-clause-refused g c =
    let here = sym (ap (λ s. mapof s.base s.journal) c.self.view_is) ∙ sym c.self.invariant.rows_are in
    plan_refused (mapof c.args.self.now.base c.args.self.now.journal) c.args.edit.now c.in-Err.refusal c.into.result c.into.ensures
    (subst (λ m. IsEditPlan m c.args.edit.now (Err c.in-Err.refusal)) (sym here) c.in-Err.ensures.plan)
