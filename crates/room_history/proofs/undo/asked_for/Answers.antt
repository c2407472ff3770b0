use Rattle.std.proofs.Common.{sym, ap, ◌∙◌}
use Rattle.std.specs.Option.{option_or}
use Rattle.room_history.specs.Inner.Undoing.{asked_or, standing_refusal}
use Rattle.room_history.proofs.BinarySearching.{asked_is}
use Rattle.room_history.proofs.undo.asked_for.Goals as goal

pub returns-in-Some : goal.returns-in-Some
returns-in-Some g c =
    let asked = asked_is c.args.entries.now c.args.author.now c.args.own.now c.args.number c.requires in
    let is = sym c.in-Some.is ∙ c.or.ensures ∙ ap (option_or c.args.number) (c.copied.ensures ∙ c.last.ensures.value) ∙ asked in
    c.standing.ensures ∙ ap (asked_or (standing_refusal c.args.entries.now c.args.author.now)) is

pub returns-in-None : goal.returns-in-None
returns-in-None g c =
    let asked = asked_is c.args.entries.now c.args.author.now c.args.own.now c.args.number c.requires in
    let is = sym c.in-None.is ∙ c.or.ensures ∙ ap (option_or c.args.number) (c.copied.ensures ∙ c.last.ensures.value) ∙ asked in
    ap (asked_or (standing_refusal c.args.entries.now c.args.author.now)) is
