-- What the arguments ask for was done, or an error has one of the kinds that the arguments can lead to.
use Rattle.std.proofs.Common.{◌≤◌, ℕ, refl, map, inl, inr, subst, sym}
use Rattle.room_program.specs.CommandLine.{faults, is_mistake, is_request}
use Rattle.room_program.proofs.AskedLemmas.{workers_number}
use Rattle.room_program.proofs.CommandLineLemmas.{kind_among}
use Rattle.room_program.proofs.command.command.Goals as goal

pub run_server-requires-clause-workers : goal.run_server-requires-clause-workers
run_server-requires-clause-workers g c κs lives =
    let asked = rw c.in-Ok-Serve.field-0-is at c.in-Ok-Serve.ensures in
    subst (λ (n : ℕ). n ≤ 1024) (sym asked.workers_are) (workers_number (map g.T.AsStr.text c.args.words.now) asked.taken asked.subcommand).most_is

pub returns-in-Ok-Serve : goal.returns-in-Ok-Serve
returns-in-Ok-Serve g c =
    let asked = rw c.in-Ok-Serve.field-0-is at c.in-Ok-Serve.ensures in
    inr (inl (c.in-Ok-Serve.asked, asked, c.run_server.ensures))

pub returns-in-Err : goal.returns-in-Err
returns-in-Err g c =
    let kinds = faults (map g.T.AsStr.text c.args.words.now) in
    elim c.answer_error.ensures [
      | inl shown ↦ inr (inr (inl (kind_among is_request kinds c.in-Err.error refl shown.0 c.in-Err.ensures, shown.1, refl, shown.2, shown.3)))
      | inr (inl refused) ↦ inr (inr (inr (inl (kind_among is_mistake kinds c.in-Err.error refl refused.0 c.in-Err.ensures, refused.1, refl, refused.2, refused.3))))
      | inr (inr wanting) ↦ inr (inr (inr (inr (wanting.0, refl, wanting.1, wanting.2))))
    ]
