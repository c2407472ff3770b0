-- A whole turn, from what the seat learned in its steps.
use Rattle.std.proofs.Common.{◌≡◌, ℕ, ◌-◌, ◌^◌, List, [], ◌∷◌, sym, ap, ◌∙◌, subst, arith, Option, Some}
use Rattle.atomic_table.specs.Table.{Me}
use Rattle.turn_desk.specs.History.{IsAmong, entries, BeginsWith}
use Rattle.turn_desk.specs.Rule.{kin_of, Agrees}
use Rattle.turn_desk.specs.Inner.Plays.{Draws, Stores, waiting, turning, looking, TakesTurn, Enters}
use Rattle.turn_desk.specs.Inner.Steps.{IsAtRest, HoldsRoom, GetsTurn, MakesCall}
use Rattle.turn_desk.specs.declared.view.View.{View}
use Rattle.turn_desk.specs.declared.view.Stage.TheVariants.{Waiting}
use Rattle.turn_desk.proofs.Known.{agrees_still}
use Rattle.turn_desk.proofs.Storing.{slot_of}

module _ {R E F C P : Type 0} (fixed : R → F) (list : R → List E) (answers : F → List E → C → P → List E → Type 0) (f : F) where
  abbrev M : Type 0
  M = Me (Option R) (View E F)

  -- a seat drew a ticket and got the turn with it
  pub gets : (before drawn after : M) (found : ℕ) → IsAtRest before → Draws before found drawn
      → ((t : ℕ) → drawn.0.stage ≡ Waiting t → TakesTurn fixed list answers f t drawn after) → GetsTurn fixed list answers f before after
  gets before drawn after found rest draw turn =
      let t = draw.0 in
      let is = draw.3 in
      let took = turn t (ap (λ (x : M). x.0.stage) is) in
      let seen : drawn.0.seen ≡ before.0.seen = ap (λ (x : M). x.0.seen) is in
      let agrees : Agrees took.h (waiting t before.0) = subst (λ (x : M). Agrees took.h x.0) is took.agrees in record {
        ticket = t;
        h = took.h;
        room = took.room;
        part = draw.2;
        legal = took.legal;
        begins = subst (BeginsWith took.h) seen took.seen;
        agrees = agrees_still took.h (waiting t before.0) before.0.stage before.0.parts before.0.seen before.0.looks before.0.tickets agrees;
        all = λ full n has. subst (λ (x : M). IsAmong n (kin_of x.0)) is (took.all (ap (λ (x : M). x.0.parts) is ∙ (let less : before.0.parts - 1 ≡ 2 ^ 64 - 2 = omega (arith, full) in less)) n has);
        stands = took.stands;
        after = took.after ∙ (ap (λ (x : M). (turning t took.h x.0, (0, Some took.room) ∷ x.1)) is ∙ ap (λ (c : List (ℕ × Option R)). (turning t took.h (waiting t before.0), (0, Some took.room) ∷ c)) rest.slots);
      }

  -- the seat after a call in its turn
  pub calls : (m put after : M) (call : C) (reply : P) (room room' : R) (n : ℕ) → m.0.fixed ≡ Some f → m.1 ≡ (0, Some room) ∷ [] → HoldsRoom fixed list f m
      → answers (fixed room) (list room) call reply (list room') → put ≡ (m.0, (0, Some room') ∷ []) → Stores fixed list answers put n after → MakesCall fixed list answers f m call reply after
  calls m put after call reply room room' n own carried holds answer is stored =
      let slot : Some room ≡ Some holds.0 = ap slot_of (sym carried ∙ holds.1) in
      let same : room ≡ holds.0 = cc in
      let entered = stored f room' (ap (λ (x : M). x.0.fixed) is ∙ own) (ap (λ (x : M). x.1) is) in
      let now : Enters fixed list answers f room' n (m.0, (0, Some room') ∷ []) after = subst (λ (x : M). Enters fixed list answers f room' n x after) is entered in
      let at : answers f (entries m.0.seen) call reply (list room') =
      subst (λ (x : F × List E). answers x.0 x.1 call reply (list room')) (λ i. ((ap fixed same ∙ holds.2.0) i, (ap list same ∙ holds.2.1) i)) answer in record {
        h = now.h;
        mine = now.mine;
        room = room';
        legal = now.legal;
        entry = now.entry;
        answer = subst (answers f (entries m.0.seen) call reply) now.stands.1 at;
        agrees = now.agrees;
        stands = now.stands;
        after = now.after ∙ ap (λ (k : ℕ). (looking k now.h (record m.0 { mine = now.mine }), (0, Some room') ∷ [])) now.length_is;
      }
