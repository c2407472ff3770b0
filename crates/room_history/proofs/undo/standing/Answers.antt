use Rattle.std.proofs.Common.{nat_eq, sym, ap, subst, ◌∙◌, option_copied}
use Rattle.room_history.specs.Prelude.{list_any, IsNonDecreasing, is_by}
use Rattle.room_history.specs.Inner.Undoing.{undone_or}
use Rattle.room_history.proofs.BinarySearching.{undos_rise}
use Rattle.room_history.proofs.Choosing.{own_fallen, own_standing}
use Rattle.room_history.proofs.Deeds.{own_stands}
use Rattle.room_history.proofs.undo.standing.Goals as goal

pub contains-requires : goal.contains-requires
contains-requires g c = subst IsNonDecreasing (sym c.requires) (undos_rise c.args.entries.now c.args.author.now)

pub returns-in-Some-2 : goal.returns-in-Some-2
returns-in-Some-2 g c =
    let own = ap (is_by c.args.author.now) (sym c.numbered.ensures ∙ ap option_copied c.in-Some.is) ∙ sym c.is.ensures ∙ c.if-not-is.false in
    let told = c.contains.ensures ∙ ap (list_any (λ t. nat_eq t c.args.seq)) c.requires ∙ own_stands c.args.entries.now c.args.author.now c.args.seq own in
    sym (ap (undone_or c.args.seq) (own_fallen c.args.entries.now c.args.author.now c.args.seq own (sym told ∙ c.if-not-contains.true)))

pub returns-in-Some-3 : goal.returns-in-Some-3
returns-in-Some-3 g c =
    let own = ap (is_by c.args.author.now) (sym c.numbered.ensures ∙ ap option_copied c.in-Some.is) ∙ sym c.is.ensures ∙ c.if-not-is.false in
    let told = c.contains.ensures ∙ ap (list_any (λ t. nat_eq t c.args.seq)) c.requires ∙ own_stands c.args.entries.now c.args.author.now c.args.seq own in
    sym (ap (undone_or c.args.seq) (own_standing c.args.entries.now c.args.author.now c.args.seq own (sym told ∙ c.if-not-contains.false)))
