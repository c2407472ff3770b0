-- The step that passes the turn on.
use Rattle.std.proofs.Common.{◌≡◌, ◌≢◌, ℕ, ◌+◌, ◌%◌, ◌^◌, List, [], ◌∷◌, length, slice_index, slice_set, sym, refl, ap, ◌∙◌, subst, arith, Option, Some}
use Rattle.std.proofs.Math.Nat.{mod-add-mod}
use mathlib.Core.Option.{some}
use Rattle.atomic_table.specs.Table.{Me, gives, put_back, rest, Allows}
use Rattle.turn_desk.specs.Rule.{Moment, HoldsTicket, StandsFor, Kept}
use Rattle.turn_desk.specs.Inner.Plays.{resting, PassesOn}
use Rattle.turn_desk.specs.declared.view.View.{View}
use Rattle.turn_desk.specs.declared.view.Stage.{Stage}
use Rattle.turn_desk.specs.declared.view.Stage.TheVariants.{Idle, Waiting, Turning}
use Rattle.turn_desk.proofs.Lists.{total-set}
use Rattle.turn_desk.proofs.Known.{agrees_still, fits, fits_still, seats_stay, known_still}

module _ {R E F C P : Type 0} (fixed : R → F) (list : R → List E) (answers : F → List E → C → P → List E → Type 0) (f : F) where
  one_slot : {A : Type 0} (xs : List A) (x : A) → length xs ≡ 1 → slice_set xs 0 x ≡ x ∷ []
  one_slot [] x one = absurd (omega arith)
  one_slot (y ∷ []) x one = refl
  one_slot (y ∷ z ∷ zs) x one = absurd (omega arith)

  -- a ticket of another seat is not the ticket that was served
  others_wait : (now : Moment E) (id j : ℕ) (v : View E F) (st : Stage) → now.drawer now.served ≡ id → j ≢ id → HoldsTicket now j v st → HoldsTicket (record now { served = now.served + 1 }) j v st
  others_wait now id j v Idle mine other h = h
  others_wait now id j v (Waiting t) mine other h = let low = h.0 in
      let later : now.served ≢ t = (λ e. other (sym h.2 ∙ (ap now.drawer (sym e) ∙ mine))) in (omega arith, h.1, h.2)
  others_wait now id j v (Turning t) mine other h = absurd (other (sym h.2 ∙ (ap now.drawer (sym h.0) ∙ mine)))

  pub passes_on : (slots id t : ℕ) (room : R) (me : Me (Option R) (View E F)) → slots ≡ 1 → me.0.fixed ≡ Some f → me.0.stage ≡ Turning t
      → me.1 ≡ (0, Some room) ∷ [] → StandsFor fixed list f room me.0.seen
      → Allows (Kept fixed list answers f) slots id me 2 (λ n. (n + 1) % 2 ^ 64) (PassesOn me)
  passes_on slots id t room me one own stage carried stands s r deep at _ =
      let now = r.now in
      let it = fits now f id me.0 own (r.seats id me.0 at) in
      let ticket : HoldsTicket now id me.0 (Turning t) = subst (HoldsTicket now id me.0) stage it.ticket in
      let mine : now.drawer now.served ≡ id = ap now.drawer ticket.0 ∙ ticket.2 in
      let later : Moment E = record now { served = now.served + 1 } in
      let w : View E F = resting me.0 in
      let sum = total-set (λ (v : View E F). v.parts) s.views id me.0 w at in
      let parts = r.parts in
      let served = ticket.0 in
      let drawn = ticket.1 in (
        w,
        gives,
        tt,
        record {
          now = later;
          legal = r.legal;
          gates = r.gates;
          words = ap (λ (ws : List ℕ). slice_set ws 2 ((slice_index ws 2 + 1) % 2 ^ 64)) r.words ∙ ap (λ (n : ℕ). length now.log ∷ (now.drawn % 2 ^ 64) ∷ n ∷ r.gates) (mod-add-mod now.served (2 ^ 64) 1);
          order = omega arith;
          parts = omega arith;
          home = λ none_turning. (
            room,
            ap (put_back s.homes) carried ∙ one_slot s.homes (some (Some room)) (deep ∙ one),
            subst (StandsFor fixed list f room) ticket.3 stands,
          );
          seats = seats_stay now later f s.views id w record {
            fixed = it.fixed;
            seen = it.seen;
            told = it.told;
            agrees = agrees_still now.log me.0 w.stage w.parts w.seen w.looks w.tickets it.agrees;
            kin = it.kin;
            supply = it.supply;
            ticket = omega arith;
          } (λ j v other known. fits_still now later.drawn later.served later.drawer j f v known (others_wait now id j v v.stage mine other known.ticket)) r.seats;
          known = λ n has. known_still now.owner f s.views id n me.0 w at it.fixed (λ among. among) (r.known n has);
        },
        ap (λ c. (w, rest c)) carried,
      )
