-- The step that looks at the length of the history.
use Rattle.std.proofs.Common.{◌≡◌, ℕ, List, length, slice_index, slice_set, sym, refl, ap, ◌∙◌, subst, arith, Option, Some}
use Rattle.atomic_table.specs.Table.{Me, keeps, Allows}
use Rattle.atomic_table.specs.declared.shared.Seat.{Seat}
use Rattle.turn_desk.specs.Desk.{sitting, LooksAt}
use Rattle.turn_desk.specs.History.{History, BeginsWith, IsLegal}
use Rattle.turn_desk.specs.Rule.{HasTurn, HoldsTicket, Kept}
use Rattle.turn_desk.specs.Inner.Plays.{looking, Sees, Looks}
use Rattle.turn_desk.specs.declared.view.View.{View}
use Rattle.turn_desk.specs.declared.view.Stage.{Stage}
use Rattle.turn_desk.specs.declared.view.Stage.TheVariants.{Idle}
use Rattle.turn_desk.proofs.Lists.{total-set, starts_with_itself}
use Rattle.turn_desk.proofs.Known.{agrees_still, fits, seats_stay, known_still, none_had_turn}

module _ {R E F C P : Type 0} (fixed : R → F) (list : R → List E) (answers : F → List E → C → P → List E → Type 0) (f : F) where
  pub looks : (slots id : ℕ) (me : Me (Option R) (View E F)) → me.0.fixed ≡ Some f → me.0.stage ≡ Idle
      → Allows (Kept fixed list answers f) slots id me 0 (λ n. n) (Looks fixed list answers me)
  looks slots id me own idle s r _ at _ =
      let now = r.now in
      let it = fits now f id me.0 own (r.seats id me.0 at) in
      let found = slice_index s.words 0 in
      let w : View E F = looking found now.log me.0 in
      let sum = total-set (λ (v : View E F). v.parts) s.views id me.0 w at in
      let parts = r.parts in (
        w,
        keeps,
        tt,
        record {
          now = now;
          legal = r.legal;
          gates = r.gates;
          words = ap (λ (ws : List ℕ). slice_set ws 0 (slice_index ws 0)) r.words;
          order = r.order;
          parts = omega arith;
          home = λ none_turning. r.home (none_had_turn s.views id me.0 w at (subst (λ (st : Stage). ¬ HasTurn st) (sym idle) (λ h. h)) none_turning);
          seats = seats_stay now now f s.views id w record {
            fixed = it.fixed;
            seen = starts_with_itself now.log;
            told = it.told;
            agrees = agrees_still now.log me.0 w.stage w.parts w.seen w.looks w.tickets it.agrees;
            kin = it.kin;
            supply = it.supply;
            ticket = subst (HoldsTicket now id w) (sym idle) (subst (HoldsTicket now id me.0) idle it.ticket);
          } (λ j v other known. known) r.seats;
          known = λ n has. known_still now.owner f s.views id n me.0 w at it.fixed (λ among. among) (r.known n has);
        },
        λ f' own'. subst (λ (x : F). Sees fixed list answers x found me (w, me.1)) (let same : f ≡ f' = cc in same) record {
          h = now.log;
          legal = r.legal;
          seen = it.seen;
          told = it.told;
          length_is = sym (ap (λ (ws : List ℕ). slice_index ws 0) r.words);
          agrees = it.agrees;
          after = refl;
        },
      )

  -- the seat after a look
  pub looked : (before after : Seat (Option R) (View E F)) (found : ℕ) → Sees fixed list answers f found before.me after.me → LooksAt answers f (sitting before) found (sitting after)
  looked before after found it =
      let is = it.after in
      let seen : after.me.0.seen ≡ it.h = ap (λ (x : Me (Option R) (View E F)). x.0.seen) is in record {
        h = it.h;
        legal = it.legal;
        front = subst (BeginsWith it.h) (sym seen) (starts_with_itself it.h);
        begins = subst (λ (x : History E). BeginsWith x before.me.0.seen) (sym seen) it.seen;
        stays_legal = subst (IsLegal answers f) (sym seen) it.legal;
        whole = it.length_is;
        count_is = ap length seen ∙ it.length_is;
        look = ap (λ (x : Me (Option R) (View E F)). x.0.looks) is;
        mine = ap (λ (x : Me (Option R) (View E F)). x.0.mine) is;
        tickets = ap (λ (x : Me (Option R) (View E F)). x.0.tickets) is;
      }
