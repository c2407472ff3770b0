use Rattle.std.proofs.Common.{List, refl, sym, ap, subst, ◌∙◌}
use Rattle.room_stacks.specs.Prelude.{Deed, Did, StacksState, IsAboveAll, spent}
use Rattle.room_stacks.proofs.Entering.{entered_work, is_no_key}
use Rattle.room_stacks.proofs.stacks.Stacks.did.Goals as goal

pub spend-requires-clause-unspent : goal.spend-requires-clause-unspent
spend-requires-clause-unspent g c =
    let s = c.self.inside in
    let who = ap (λ (t : StacksState). t.ready) c.self.view_is ∙ c.requires.ready in
    is_no_key s.ready s.ids s.lists c.self.invariant c.in-Some.ready c.in-Some.is c.args.author who c.args.id (ap (λ (t : StacksState). spent t.deeds c.args.author c.args.id) c.self.view_is ∙ c.requires.unspent)

pub invariant_of-self : goal.invariant_of-self
invariant_of-self g c =
    let s = c.self.inside in
    let who = ap (λ (t : StacksState). t.ready) c.self.view_is ∙ c.requires.ready in
    let last = subst (λ (ds : List Deed). IsAboveAll c.args.seq ds) (sym (ap (λ (t : StacksState). t.deeds) c.self.view_is)) c.requires.last in
    entered_work s.ready s.ids s.lists c.self.invariant c.in-Some.ready c.in-Some.is c.args.author who c.spend.new.self c.did.new.self c.args.id _ c.spend.ensures c.did.ensures.authors
    (Did c.args.author c.args.id c.args.seq) refl refl (λ t. refl) last refl c.did.ensures.stacks
