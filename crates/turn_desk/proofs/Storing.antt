-- The step that enters an event into the history.
use Rattle.std.proofs.Common.{◌≡◌, ◌≢◌, ℕ, ◌%◌, ◌^◌, List, [], ◌∷◌, ◌++◌, length, slice_set, sym, refl, ap, ◌∙◌, subst, inl, inr, arith, Option, Some, None}
use Rattle.std.proofs.lemmas.List.{map-append}
use lib.ListN.{length-map}
use mathlib.Core.Option.{some}
use mathlib.Core.Logic.{dite}
use native.Mathlib.Decide.{ℕ_discrete}
use lib.ListN.{get_elem?}
use Rattle.atomic_table.specs.Table.{State, Me, Act, keeps, stepped, Allows}
use Rattle.turn_desk.specs.History.{History, entries, entries_by, BeginsWith, MayFollow, IsLegal}
use Rattle.turn_desk.specs.Rule.{HasTurn, IsKnown, kin_of, Agrees, Moment, HoldsTicket, Fits, StandsFor, Kept}
use Rattle.turn_desk.specs.Inner.Plays.{looking, Grows, Enters, Stores}
use Rattle.turn_desk.specs.Inner.Steps.{MayLead}
use Rattle.turn_desk.specs.declared.view.View.{View}
use Rattle.turn_desk.specs.declared.view.Stage.{Stage}
use Rattle.turn_desk.specs.declared.view.Stage.TheVariants.{Idle, Waiting, Turning}
use Rattle.turn_desk.proofs.Lists.{total-set, All-head, All-tail, All-more, set_at, entries_by-own, entries_by-other, entries_by-others, starts_with_itself, starts_later, legal-one_more}
use Rattle.turn_desk.proofs.Known.{agrees_still, fits, known_still, seats_stay}

-- the content of the slot that was taken last
abbrev pub slot_of : {S : Type 0} → List (ℕ × Option S) → Option S
slot_of [] = None
slot_of (x ∷ xs) = x.1

module _ {R E F C P : Type 0} (fixed : R → F) (list : R → List E) (answers : F → List E → C → P → List E → Type 0) (f : F) where
  -- the history does not affect a seat's ticket, unless the seat has the turn
  others_hold : (now : Moment E) (id j : ℕ) (h : History E) (v : View E F) (st : Stage) → now.drawer now.served ≡ id → j ≢ id → HoldsTicket now j v st → HoldsTicket (record now { log = h }) j v st
  others_hold now id j h v Idle mine other k = k
  others_hold now id j h v (Waiting t) mine other k = k
  others_hold now id j h v (Turning t) mine other k = absurd (other (sym k.2 ∙ (ap now.drawer (sym k.0) ∙ mine)))

  -- what another seat knows is still true after an entry under a number that it does not own
  others_fit : (now : Moment E) (id j n : ℕ) (e : E) (v : View E F) → now.drawer now.served ≡ id → now.owner n ≡ id → j ≢ id → Fits now j f v → Fits (record now { log = now.log ++ (n, e) ∷ [] }) j f v
  others_fit now id j n e v mine owner other known =
      let apart : (k : ℕ) → now.owner k ≡ j → k ≢ n = λ k at e'. other (sym at ∙ (ap now.owner e' ∙ owner)) in record {
        fixed = known.fixed;
        seen = starts_later now.log v.seen (n, e) known.seen;
        told = starts_later now.log v.told (n, e) known.told;
        agrees = record {
          kin = entries_by-others n e now.log (kin_of v) (λ i d below. apart _ (known.kin i d below)) known.agrees.kin;
          apart = known.agrees.apart;
          supply = λ k s. (entries_by-other k n e now.log (apart k (known.supply k s)) ∙ (known.agrees.supply k s).0, (known.agrees.supply k s).1);
          stride = known.agrees.stride;
        };
        kin = known.kin;
        supply = known.supply;
        ticket = others_hold now id j (now.log ++ (n, e) ∷ []) v v.stage mine other known.ticket;
      }

  -- what the seat knows is still true after an entry under its own number
  own_agrees : (h : History E) (e : E) (v : View E F) → Agrees h v → Agrees (h ++ (v.number, e) ∷ []) (record v { mine = v.mine ++ e ∷ [] })
  own_agrees h e v a =
      let n = v.number in record {
        kin = All-more (λ k. entries_by k.0 (h ++ (n, e) ∷ []) ≡ k.1) (n, v.mine ++ e ∷ []) v.met (entries_by-own n e h ∙ ap (λ l. l ++ e ∷ []) (All-head (λ k. entries_by k.0 h ≡ k.1) (n, v.mine) v.met a.kin))
            (entries_by-others n e h v.met a.apart.0 (All-tail (λ k. entries_by k.0 h ≡ k.1) (n, v.mine) v.met a.kin));
        apart = a.apart;
        supply = λ k s.
            let free = a.supply k s in
            let not_own : n ≢ k = All-head (λ p. p.0 ≢ k) (n, v.mine) v.met free.1 in (
              entries_by-other k n e h (λ same. not_own (sym same)) ∙ free.0,
              All-more (λ p. p.0 ≢ k) (n, v.mine ++ e ∷ []) v.met not_own (All-tail (λ p. p.0 ≢ k) (n, v.mine) v.met free.1),
            );
        stride = a.stride;
      }

  -- the store, if the history after it and the seat's entries in that history are known
  stores_as : (slots id t : ℕ) (room : R) (n : ℕ) (me : Me (Option R) (View E F)) → me.0.fixed ≡ Some f → me.0.stage ≡ Turning t → me.1 ≡ (0, Some room) ∷ []
      → (s : State (Option R) (View E F)) (r : Kept fixed list answers f s) → get_elem? s.views id ≡ some me.0
      → (h : History E) (mine : List E) → IsLegal answers f h → Grows me.0 h mine → n ≡ length h → StandsFor fixed list f room h → Agrees h (record me.0 { mine = mine }) → BeginsWith h me.0.told
      → ((j : ℕ) (v : View E F) → j ≢ id → Fits r.now j f v → Fits (record r.now { log = h }) j f v)
      → ((k : ℕ) → entries_by k h ≢ [] → IsKnown r.now.owner f s.views k)
      → (w : View E F) × (a : Act (Option R)) × Rattle.atomic_table.specs.Table.Valid s.homes me.1 a × Kept fixed list answers f (stepped s 0 n id me.1 w a)
      × Stores fixed list answers me n (w, Rattle.atomic_table.specs.Table.carried_after me.1 a)
  stores_as slots id t room n me own stage carried s r at h mine legal grows count stands agrees told others knows =
      let now = r.now in
      let it = fits now f id me.0 own (r.seats id me.0 at) in
      let ticket : HoldsTicket now id me.0 (Turning t) = subst (HoldsTicket now id me.0) stage it.ticket in
      let v : View E F = record me.0 { mine = mine } in
      let w : View E F = looking n h v in
      let sum = total-set (λ (x : View E F). x.parts) s.views id me.0 w at in
      let parts = r.parts in (
        w,
        keeps,
        tt,
        record {
          now = record now { log = h };
          legal = legal;
          gates = r.gates;
          words = ap (λ (ws : List ℕ). slice_set ws 0 n) r.words ∙ ap (λ (k : ℕ). k ∷ (now.drawn % 2 ^ 64) ∷ (now.served % 2 ^ 64) ∷ r.gates) count;
          order = r.order;
          parts = omega arith;
          home = λ none_turning. absurd (none_turning id w (set_at s.views id me.0 w at) (subst HasTurn (sym stage) tt));
          seats = seats_stay now (record now { log = h }) f s.views id w record {
            fixed = it.fixed;
            seen = starts_with_itself h;
            told = told;
            agrees = agrees_still h v w.stage w.parts w.seen w.looks w.tickets agrees;
            kin = All-more (λ k. now.owner k.0 ≡ id) (v.number, mine) v.met (All-head (λ k. now.owner k.0 ≡ id) (v.number, me.0.mine) v.met it.kin) (All-tail (λ k. now.owner k.0 ≡ id) (v.number, me.0.mine) v.met it.kin);
            supply = it.supply;
            ticket = subst (HoldsTicket (record now { log = h }) id w) (sym stage) (ticket.0, ticket.1, ticket.2, refl);
          } others r.seats;
          known = λ k has. known_still now.owner f s.views id k me.0 w at it.fixed (λ among. among) (knows k has);
        },
        λ f' room' own' carried'.
            let same_f : f ≡ f' = cc in
            let slot : Some room ≡ Some room' = ap slot_of (sym carried ∙ carried') in
            let same_room : room ≡ room' = cc in
            subst (λ (x : F × R). Enters fixed list answers x.0 x.1 n me (w, me.1)) (λ i. (same_f i, same_room i)) record {
              h = h;
              mine = mine;
              legal = legal;
              entry = grows;
              length_is = count;
              stands = stands;
              agrees = agrees;
              after = refl;
            },
      )

  pub stores : (slots id t : ℕ) (room : R) (n : ℕ) (me : Me (Option R) (View E F)) → me.0.fixed ≡ Some f → me.0.stage ≡ Turning t → me.1 ≡ (0, Some room) ∷ []
      → fixed room ≡ f → MayLead answers f (entries me.0.seen) (list room) → n ≡ length (list room)
      → Allows (Kept fixed list answers f) slots id me 0 (λ _. n) (λ _. Stores fixed list answers me n)
  stores slots id t room n me own stage carried same_part (inl stayed) count s r _ at _ =
      let now = r.now in
      let it = fits now f id me.0 own (r.seats id me.0 at) in
      let ticket : HoldsTicket now id me.0 (Turning t) = subst (HoldsTicket now id me.0) stage it.ticket in
      let list_is : list room ≡ entries now.log = stayed ∙ ap entries ticket.3 in
      stores_as slots id t room n me own stage carried s r at now.log me.0.mine r.legal (inl (sym ticket.3, refl)) (count ∙ (ap length list_is ∙ length-map now.log (λ (p : ℕ × E). p.1)))
      (same_part, list_is) it.agrees it.told (λ j v other known. known) r.known
  stores slots id t room n me own stage carried same_part (inr added) count s r _ at _ =
      let now = r.now in
      let it = fits now f id me.0 own (r.seats id me.0 at) in
      let ticket : HoldsTicket now id me.0 (Turning t) = subst (HoldsTicket now id me.0) stage it.ticket in
      let e = added.0 in
      let h : History E = now.log ++ (me.0.number, e) ∷ [] in
      let list_is : list room ≡ entries h = added.1 ∙ (ap (λ (x : History E). entries x ++ e ∷ []) ticket.3 ∙ sym (map-append (λ (p : ℕ × E). p.1) now.log ((me.0.number, e) ∷ []))) in
      let may : MayFollow answers f (entries now.log) e = subst (λ (x : History E). MayFollow answers f (entries x) e) ticket.3 added.2 in
      let mine : now.drawer now.served ≡ id = ap now.drawer ticket.0 ∙ ticket.2 in
      let owner : now.owner me.0.number ≡ id = All-head (λ k. now.owner k.0 ≡ id) (me.0.number, me.0.mine) me.0.met it.kin in
      stores_as slots id t room n me own stage carried s r at h (me.0.mine ++ e ∷ []) (legal-one_more answers f now.log me.0.number e r.legal may)
      (inr (e, ap (λ (x : History E). x ++ (me.0.number, e) ∷ []) (sym ticket.3), refl)) (count ∙ (ap length list_is ∙ length-map h (λ (p : ℕ × E). p.1)))
      (same_part, list_is) (own_agrees now.log e me.0 it.agrees) (starts_later now.log me.0.told (me.0.number, e) it.told)
      (λ j v other known. others_fit now id j me.0.number e v mine owner other known)
      (λ k has. dite (ℕ_discrete k me.0.number)
      (λ (own_number : k ≡ me.0.number). (me.0, ap (get_elem? s.views) (ap now.owner own_number ∙ owner) ∙ at, it.fixed, inl own_number))
      (λ (other : k ≢ me.0.number). r.known k (λ none. has (entries_by-other k me.0.number e now.log other ∙ none))))
