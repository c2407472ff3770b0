-- The step that draws a ticket.
use Rattle.std.proofs.Common.{◌≡◌, ℕ, ◌+◌, ◌%◌, ◌^◌, ◌<◌, List, [], ◌∷◌, length, slice_index, slice_set, sym, refl, ap, ◌∙◌, subst, arith, Option, Some}
use Rattle.std.proofs.Math.Nat.{mod-add-mod}
use native.Mathlib.Decide.{ℕ_discrete}
use Rattle.atomic_table.specs.Table.{Me, keeps, Allows}
use Rattle.turn_desk.specs.Rule.{HasTurn, Moment, HoldsTicket, Kept}
use Rattle.turn_desk.specs.Inner.Plays.{Draws, waiting}
use Rattle.turn_desk.specs.declared.view.View.{View}
use Rattle.turn_desk.specs.declared.view.Stage.{Stage}
use Rattle.turn_desk.specs.declared.view.Stage.TheVariants.{Idle, Waiting, Turning}
use Rattle.turn_desk.proofs.Lists.{total-set}
use Rattle.turn_desk.proofs.Known.{put, put_here, put_else, agrees_still, fits, fits_still, seats_stay, known_still, none_had_turn}

module _ {R E F C P : Type 0} (fixed : R → F) (list : R → List E) (answers : F → List E → C → P → List E → Type 0) (f : F) where
  -- the moment after: one ticket more was drawn, by the seat
  abbrev with_ticket : Moment E → ℕ → Moment E
  with_ticket now id = record now { drawn = now.drawn + 1; drawer = put (λ t. t ≡ now.drawn) (λ t. ℕ_discrete t now.drawn) now.drawer id }

  -- another seat still has its own ticket
  others_keep : (now : Moment E) (id j : ℕ) (v : View E F) (st : Stage) → HoldsTicket now j v st → HoldsTicket (with_ticket now id) j v st
  others_keep now id j v Idle h = h
  others_keep now id j v (Waiting t) h = let low = h.1 in (h.0, omega arith, put_else (λ t. t ≡ now.drawn) (λ t. ℕ_discrete t now.drawn) now.drawer id t (λ e. omega arith) ∙ h.2)
  others_keep now id j v (Turning t) h = let low = h.1 in (h.0, omega arith, put_else (λ t. t ≡ now.drawn) (λ t. ℕ_discrete t now.drawn) now.drawer id t (λ e. omega arith) ∙ h.2, h.3)

  pub draws : (slots id : ℕ) (me : Me (Option R) (View E F)) → me.0.fixed ≡ Some f → me.0.stage ≡ Idle
      → Allows (Kept fixed list answers f) slots id me 1 (λ n. (n + 1) % 2 ^ 64) (Draws me)
  draws slots id me own idle s r _ at _ =
      let now = r.now in
      let it = fits now f id me.0 own (r.seats id me.0 at) in
      let has_part : 0 < me.0.parts = subst (HoldsTicket now id me.0) idle it.ticket in
      let later : Moment E = with_ticket now id in
      let w : View E F = waiting now.drawn me.0 in
      let sum = total-set (λ (v : View E F). v.parts) s.views id me.0 w at in
      let before = r.parts in
      let order = r.order in (
        w,
        keeps,
        tt,
        record {
          now = later;
          legal = r.legal;
          gates = r.gates;
          words = ap (λ (ws : List ℕ). slice_set ws 1 ((slice_index ws 1 + 1) % 2 ^ 64)) r.words ∙ ap (λ (n : ℕ). length now.log ∷ n ∷ (now.served % 2 ^ 64) ∷ r.gates) (mod-add-mod now.drawn (2 ^ 64) 1);
          order = omega arith;
          parts = omega arith;
          home = λ none_turning. r.home (none_had_turn s.views id me.0 w at (subst (λ (st : Stage). ¬ HasTurn st) (sym idle) (λ h. h)) none_turning);
          seats = seats_stay now later f s.views id w record {
            fixed = it.fixed;
            seen = it.seen;
            told = it.told;
            agrees = agrees_still now.log me.0 w.stage w.parts w.seen w.looks w.tickets it.agrees;
            kin = it.kin;
            supply = it.supply;
            ticket = (order, omega arith, put_here (λ t. t ≡ now.drawn) (λ t. ℕ_discrete t now.drawn) now.drawer id now.drawn refl);
          } (λ j v other known. fits_still now later.drawn later.served later.drawer j f v known (others_keep now id j v v.stage known.ticket)) r.seats;
          known = λ n has. known_still now.owner f s.views id n me.0 w at it.fixed (λ among. among) (r.known n has);
        },
        (now.drawn, ap (λ (ws : List ℕ). slice_index ws 1) r.words, has_part, refl),
      )
