use Rattle.std.proofs.Common.{sym, ap, ◌∙◌}
use Rattle.room_stacks.specs.Stacks.{StacksState, spent}
use Rattle.room_stacks.specs.Inner.Lists.{authors_of}
use Rattle.room_stacks.proofs.Numbering.{own_number}
use Rattle.room_stacks.proofs.Spending.{spent-lookup, unmet_spent}
use Rattle.room_stacks.proofs.stacks.Stacks.spent.Goals as goal

pub returns-in_default : goal.returns-in_default
returns-in_default g c =
    let s = c.self.inside in
    unmet_spent (authors_of s.lists) c.args.author.now c.args.id (sym c.number.ensures ∙ c.in_default.is) s.ids.works c.self.invariant.numbered.within
    ∙ ap (λ (t : StacksState). spent t.deeds c.args.author.now c.args.id) c.self.view_is

pub returns : goal.returns
returns g c =
    let s = c.self.inside in
    let own = own_number (authors_of s.lists) c.args.author.now c.in-Some.author (sym c.number.ensures ∙ c.in-Some.is) in
    c.spent.ensures
    ∙ spent-lookup (authors_of s.lists) c.args.author.now c.args.id c.in-Some.author own.0 own.1 s.ids.works c.self.invariant.numbered
    ∙ ap (λ (t : StacksState). spent t.deeds c.args.author.now c.args.id) c.self.view_is
