-- The step that asks for the turn.
use Rattle.std.proofs.Common.{◌≡◌, ◌≢◌, ℕ, ◌+◌, ◌-◌, ◌%◌, ◌^◌, ◌<◌, ◌≤◌, List, [], ◌∷◌, slice_index, slice_set, sym, refl, ap, ◌∙◌, subst, arith, Option, Some}
use Rattle.std.proofs.lemmas.List.{set-get_or}
use mathlib.Core.Option.{some, some-injective}
use mathlib.Core.Logic.{dite}
use native.Mathlib.Decide.{ℕ_discrete}
use lib.ListN.{get_elem?}
use Rattle.atomic_table.specs.Table.{State, Me, keeps, takes, Allows}
use Rattle.atomic_table.proofs.Lists.{set_again, one_turn}
use Rattle.turn_desk.specs.History.{IsAmong, entries_by}
use Rattle.turn_desk.specs.Rule.{HasTurn, HoldsTicket, Kept, kin_of, total}
use Rattle.turn_desk.specs.Inner.Plays.{turning, TakesTurn, Asks}
use Rattle.turn_desk.specs.Inner.Steps.{IsWaiting}
use Rattle.turn_desk.specs.declared.view.View.{View}
use Rattle.turn_desk.specs.declared.view.Stage.{Stage}
use Rattle.turn_desk.specs.declared.view.Stage.TheVariants.{Idle, Waiting, Turning}
use Rattle.turn_desk.proofs.Lists.{total-set, total-two, set_at, starts_with_itself}
use Rattle.turn_desk.proofs.Known.{agrees_still, fits, seats_stay, known_still, turner}

module _ {R E F C P : Type 0} (fixed : R → F) (list : R → List E) (answers : F → List E → C → P → List E → Type 0) (f : F) where
  -- if the words say that a waiting seat's ticket is served, it is served
  is_served : (s : State (Option R) (View E F)) (r : Kept fixed list answers f s) (t : ℕ) → r.now.served ≤ t → t < r.now.drawn → slice_index s.words 2 ≡ t % 2 ^ 64 → r.now.served ≡ t
  is_served s r t low high found = let now = r.now in let parts = r.parts in
      one_turn now.served t (2 ^ 64) low (omega arith) (sym (ap (λ (ws : List ℕ). slice_index ws 2) r.words) ∙ found)

  -- while a seat waits with the served ticket, no seat has the turn
  none_has_turn : (s : State (Option R) (View E F)) (r : Kept fixed list answers f s) (id t : ℕ) (v : View E F) → get_elem? s.views id ≡ some v → v.stage ≡ Waiting t → r.now.served ≡ t → r.now.drawer t ≡ id
      → (j : ℕ) (u : View E F) → get_elem? s.views j ≡ some u → ¬ HasTurn u.stage
  none_has_turn s r id t v at stage served drawer j u here turn =
      let me : j ≡ id = sym (turner r.now f j u (r.seats j u here) turn) ∙ (ap r.now.drawer served ∙ drawer) in
      let same : u ≡ v = some-injective u v (sym here ∙ (ap (get_elem? s.views) me ∙ at)) in
      subst HasTurn (ap (λ (x : View E F). x.stage) same ∙ stage) turn

  -- a seat with a ticket that is served and all other parts is the only one left
  nobody_else : (s : State (Option R) (View E F)) (r : Kept fixed list answers f s) (id t : ℕ) (v : View E F) → get_elem? s.views id ≡ some v → t < r.now.drawn → r.now.served ≡ t → r.now.drawer t ≡ id
      → v.parts ≡ 2 ^ 64 - 2 → (j : ℕ) (u : View E F) → j ≢ id → get_elem? s.views j ≡ some u → u.fixed ≡ Some f → ⊥
  nobody_else s r id t v at drawn served drawer most j u other there own =
      let parts = r.parts in
      let two = total-two (λ (x : View E F). x.parts) s.views j id u v other there at in
      by parts two u.stage (fits r.now f j u own (r.seats j u there)).ticket
    where
      by : total (λ (x : View E F). x.parts) s.views + r.now.drawn ≡ r.now.served + (2 ^ 64 - 1) → u.parts + v.parts ≤ total (λ (x : View E F). x.parts) s.views → (st : Stage) → HoldsTicket r.now j u st → ⊥
      by parts two Idle h = omega (arith, h, parts, two, most, served, drawn)
      by parts two (Waiting k) h =
          let low = h.0 in
          let high = h.1 in
          let same : k ≡ t = omega (arith, parts, two, most, served, drawn, low, high) in
          other (sym h.2 ∙ (ap r.now.drawer same ∙ drawer))
      by parts two (Turning k) h = other (sym h.2 ∙ (ap r.now.drawer (sym h.0 ∙ served) ∙ drawer))

  -- so all entries are those of its kin
  only_mine : (s : State (Option R) (View E F)) (r : Kept fixed list answers f s) (id t : ℕ) (v : View E F) → get_elem? s.views id ≡ some v → t < r.now.drawn → r.now.served ≡ t → r.now.drawer t ≡ id
      → v.parts ≡ 2 ^ 64 - 2 → (n : ℕ) → entries_by n r.now.log ≢ [] → IsAmong n (kin_of v)
  only_mine s r id t v at drawn served drawer most n has =
      let it = r.known n has in
      dite (ℕ_discrete (r.now.owner n) id)
      (λ (e : r.now.owner n ≡ id). subst (λ (x : View E F). IsAmong n (kin_of x)) (some-injective it.0 v (sym it.1 ∙ (ap (get_elem? s.views) e ∙ at))) it.3)
      (λ (other : r.now.owner n ≢ id). absurd (nobody_else s r id t v at drawn served drawer most (r.now.owner n) it.0 other it.1 it.2))

  pub asks : (slots id t : ℕ) (me : Me (Option R) (View E F)) → me.0.fixed ≡ Some f → me.0.stage ≡ Waiting t
      → Allows (Kept fixed list answers f) slots id me 2 (λ n. n) (Asks fixed list answers me)
  asks slots id t me own stage s r _ at _ =
      let now = r.now in
      let it = fits now f id me.0 own (r.seats id me.0 at) in
      let ticket : HoldsTicket now id me.0 (Waiting t) = subst (HoldsTicket now id me.0) stage it.ticket in
      dite (ℕ_discrete (slice_index s.words 2) (t % 2 ^ 64))
      (λ found.
      let served = is_served s r t ticket.0 ticket.1 found in
      let home = r.home (none_has_turn s r id t me.0 at stage served ticket.2) in
      let w : View E F = turning t now.log me.0 in
      let sum = total-set (λ (v : View E F). v.parts) s.views id me.0 w at in
      let parts = r.parts in (
        w,
        takes 0 (Some home.0),
        ap (λ hs. get_elem? hs 0) home.1,
        record {
          now = now;
          legal = r.legal;
          gates = r.gates;
          words = ap (λ (ws : List ℕ). slice_set ws 2 (slice_index ws 2)) r.words;
          order = r.order;
          parts = omega arith;
          home = λ none_turning. absurd (none_turning id w (set_at s.views id me.0 w at) tt);
          seats = seats_stay now now f s.views id w record {
            fixed = it.fixed;
            seen = starts_with_itself now.log;
            told = it.told;
            agrees = agrees_still now.log me.0 w.stage w.parts w.seen w.looks w.tickets it.agrees;
            kin = it.kin;
            supply = it.supply;
            ticket = (served, ticket.1, ticket.2, refl);
          } (λ j v other known. known) r.seats;
          known = λ n has. known_still now.owner f s.views id n me.0 w at it.fixed (λ among. among) (r.known n has);
        },
        λ f' t' own' stage'.
            let same_f : f ≡ f' = cc in
            let same_t : t ≡ t' = cc in (
              (λ e. subst (λ (x : F × ℕ). TakesTurn fixed list answers x.0 x.1 me (turning t now.log me.0, (0, Some home.0) ∷ me.1)) (λ i. (same_f i, same_t i)) record {
                h = now.log;
                room = home.0;
                legal = r.legal;
                seen = it.seen;
                agrees = it.agrees;
                all = only_mine s r id t me.0 at ticket.1 served ticket.2;
                stands = home.2;
                after = refl;
              }),
              (λ other. absurd (other (found ∙ ap (λ (x : ℕ). x % 2 ^ 64) same_t))),
            ),
      ))
      (λ missed. (
        me.0,
        keeps,
        tt,
        subst (Kept fixed list answers f) (λ i. record { words = sym (set-get_or s.words 2 0) i; homes = s.homes; views = sym (set_again s.views id me.0 at) i }) r,
        λ f' t' own' stage'. let same_t : t ≡ t' = cc in ((λ e. absurd (missed (e ∙ ap (λ (x : ℕ). x % 2 ^ 64) (sym same_t)))), λ _. refl),
      ))

  -- a seat that did not find its ticket knows what it knew before
  pub misses : (m before after : Me (Option R) (View E F)) (found ticket : ℕ) → Asks fixed list answers m found after → m ≡ before → before.0.fixed ≡ Some f → IsWaiting before.0 ticket → found ≢ ticket → after ≡ before
  misses m before after found ticket asked same own wait other =
      let stage : m.0.stage ≡ Waiting wait.0 = ap (λ (x : Me (Option R) (View E F)). x.0.stage) same ∙ wait.1 in
      let fixed_is : m.0.fixed ≡ Some f = ap (λ (x : Me (Option R) (View E F)). x.0.fixed) same ∙ own in
      (asked f wait.0 fixed_is stage).1 (λ e. other (e ∙ sym wait.2)) ∙ same
