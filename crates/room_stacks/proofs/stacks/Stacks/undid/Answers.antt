use Rattle.std.proofs.Common.{List, refl, sym, ap, subst, ◌∙◌}
use Rattle.room_stacks.specs.Prelude.{Deed, StacksState, IsAboveAll, is_standing, spent}
use Rattle.room_stacks.proofs.Entering.{entered_undo, is_no_key, standing_at_rises}
use Rattle.room_stacks.proofs.stacks.Stacks.undid.Goals as goal

pub spend-requires-clause-unspent : goal.spend-requires-clause-unspent
spend-requires-clause-unspent g c =
    let s = c.self.inside in
    let who = ap (λ (t : StacksState). t.ready) c.self.view_is ∙ c.requires.ready in
    is_no_key s.ready s.ids s.lists c.self.invariant c.in-Some.ready c.in-Some.is c.args.author who c.args.id (ap (λ (t : StacksState). spent t.deeds c.args.author c.args.id) c.self.view_is ∙ c.requires.unspent)

pub undid-requires-clause-rising : goal.undid-requires-clause-rising
undid-requires-clause-rising g c =
    let s = c.self.inside in
    let who = ap (λ (t : StacksState). t.ready) c.self.view_is ∙ c.requires.ready in
    standing_at_rises s.ready s.ids s.lists c.self.invariant c.in-Some.ready c.in-Some.is c.args.author who

pub invariant_of-self : goal.invariant_of-self
invariant_of-self g c =
    let s = c.self.inside in
    let who = ap (λ (t : StacksState). t.ready) c.self.view_is ∙ c.requires.ready in
    let deeds = ap (λ (t : StacksState). t.deeds) c.self.view_is in
    let last = subst (λ (ds : List Deed). IsAboveAll c.args.seq ds) (sym deeds) c.requires.last in
    let stood = ap (λ (ds : List Deed). is_standing ds c.args.author c.args.of) deeds ∙ c.requires.stands in
    entered_undo s.ready s.ids s.lists c.self.invariant c.in-Some.ready c.in-Some.is c.args.author who c.spend.new.self c.undid.new.self c.args.id _ c.spend.ensures c.undid.ensures.authors
    c.args.of c.args.seq refl last stood c.undid.ensures.stacks
