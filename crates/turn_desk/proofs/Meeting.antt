-- The step that meets one seat into another.
use Rattle.std.proofs.Common.{◌≡◌, ◌≢◌, ℕ, ◌<◌, List, [], ◌∷◌, ◌++◌, length, set, sym, refl, ap, ◌∙◌, subst, inl, inr, ⊎_elim, arith, Option, Some}
use Rattle.std.proofs.lemmas.List.Elements.{All-append}
use mathlib.Core.Option.{some, some-injective}
use mathlib.Core.Logic.{dite}
use native.Mathlib.Decide.{ℕ_discrete}
use lib.ListN.{get_elem?}
use Rattle.atomic_table.specs.Table.{Me, Joins}
use Rattle.atomic_table.specs.declared.shared.Seat.{Seat}
use Rattle.atomic_table.proofs.Lists.{at_set, set_else}
use Rattle.turn_desk.specs.History.{History, IsAmong, entries_by, BeginsWith, IsLegal}
use Rattle.turn_desk.specs.Desk.{sitting, MeetsAt}
use Rattle.turn_desk.specs.Rule.{HasTurn, IsKnown, kin_of, Agrees, Moment, HoldsTicket, Fits, Kept}
use Rattle.turn_desk.specs.Inner.Plays.{Sees}
use Rattle.turn_desk.specs.Inner.Sharing.{joined, spent}
use Rattle.turn_desk.specs.Inner.Steps.{IsAtRest}
use Rattle.turn_desk.specs.declared.view.View.{View}
use Rattle.turn_desk.specs.declared.view.Stage.{Stage}
use Rattle.turn_desk.specs.declared.view.Stage.TheVariants.{Idle}
use Rattle.turn_desk.proofs.Lists.{total-set, set_at, among_first, among_second, All-head, All-tail, apart-append}
use Rattle.turn_desk.proofs.Known.{Known, put, put_here, put_else, agrees_still, fits, same_ticket, known_still, none_had_turn}

-- the owner of each number, after the numbers of `other` went to `id`
abbrev passed : (ℕ → ℕ) → ℕ → ℕ → ℕ → ℕ
passed owner other id = put (λ n. owner n ≡ other) (λ n. ℕ_discrete (owner n) other) owner id

passed_on : (owner : ℕ → ℕ) (other id n : ℕ) → owner n ≡ other → passed owner other id n ≡ id
passed_on owner other id n at = put_here (λ k. owner k ≡ other) (λ k. ℕ_discrete (owner k) other) owner id n at

-- a number of any seat but `other` keeps its owner
stays_with : (owner : ℕ → ℕ) (other id n j : ℕ) → j ≢ other → owner n ≡ j → passed owner other id n ≡ j
stays_with owner other id n j apart at = put_else (λ k. owner k ≡ other) (λ k. ℕ_discrete (owner k) other) owner id n (λ e. apart (sym at ∙ e)) ∙ at

-- the moment after: the numbers of the other seat are the remaining seat's
abbrev with_met : {E : Type 0} → Moment E → ℕ → ℕ → Moment E
with_met now other id = record now { owner = passed now.owner other id }

module _ {E F : Type 0} where
  -- the remaining seat knows what both knew of their kin
  joined_agrees : (now : Moment E) (f : F) (id other : ℕ) (v w : View E F) → other ≢ id → Fits now id f v → Fits now other f w → Agrees now.log (joined v w)
  joined_agrees now f id other v w apart it its =
      let differ : (n m : ℕ) → now.owner n ≡ other → now.owner m ≡ id → n ≢ m = λ n m a b e. apart (sym a ∙ (ap now.owner e ∙ b)) in
      let own : now.owner v.number ≡ id = All-head (λ k. now.owner k.0 ≡ id) (v.number, v.mine) v.met it.kin in record {
        kin = All-append (λ k. entries_by k.0 now.log ≡ k.1) (kin_of v) (kin_of w) it.agrees.kin its.agrees.kin;
        apart = (
          All-append (λ k. k.0 ≢ v.number) v.met (kin_of w) it.agrees.apart.0 (λ i d below. differ _ v.number (its.kin i d below) own),
          apart-append v.met (kin_of w) it.agrees.apart.1 its.agrees.apart
              (λ j e under i d below. differ _ _ (its.kin i d below) (All-tail (λ k. now.owner k.0 ≡ id) (v.number, v.mine) v.met it.kin j e under)),
        );
        supply = λ n s. (
          (it.agrees.supply n s).0,
          All-append (λ k. k.0 ≢ n) (kin_of v) (kin_of w) (it.agrees.supply n s).1 (λ i d below. differ _ n (its.kin i d below) (it.supply n s)),
        );
        stride = it.agrees.stride;
      }

  joined_fits : (now : Moment E) (f : F) (id other : ℕ) (v w : View E F) → other ≢ id → v.stage ≡ Idle → Fits now id f v → Fits now other f w → Fits (with_met now other id) id f (joined v w)
  joined_fits now f id other v w apart idle it its =
      let here : id ≢ other = λ e. apart (sym e) in
      let part : 0 < v.parts = subst (HoldsTicket now id v) idle it.ticket in record {
        fixed = it.fixed;
        seen = it.seen;
        told = its.seen;
        agrees = joined_agrees now f id other v w apart it its;
        kin = All-append (λ k. passed now.owner other id k.0 ≡ id) (kin_of v) (kin_of w) (λ i d below. stays_with now.owner other id _ id here (it.kin i d below)) (λ i d below. passed_on now.owner other id _ (its.kin i d below));
        supply = λ n s. stays_with now.owner other id n id here (it.supply n s);
        ticket = subst (HoldsTicket (with_met now other id) id (joined v w)) (sym idle) (omega arith);
      }

  -- a third seat knows what it knew before
  thirds_stay : (now : Moment E) (f : F) (id other j : ℕ) (u : View E F) → j ≢ other → Fits now j f u → Fits (with_met now other id) j f u
  thirds_stay now f id other j u apart known = record {
    fixed = known.fixed;
    seen = known.seen;
    told = known.told;
    agrees = known.agrees;
    kin = λ i d below. stays_with now.owner other id _ j apart (known.kin i d below);
    supply = λ n s. stays_with now.owner other id n j apart (known.supply n s);
    ticket = same_ticket now (passed now.owner other id) j u u.stage known.ticket;
  }

  seats_meet : (now : Moment E) (f : F) (views : List (View E F)) (id other : ℕ) (v w : View E F) → other ≢ id → v.stage ≡ Idle → Fits now id f v → Fits now other f w
      → ((j : ℕ) (u : View E F) → get_elem? views j ≡ some u → Known now f j u)
      → (j : ℕ) (u : View E F) → get_elem? (set (set views id (joined v w)) other spent) j ≡ some u → Known (with_met now other id) f j u
  seats_meet now f views id other v w apart idle it its known j u at =
      let later = with_met now other id in ⊎_elim
      (λ (t : (j ≡ other) × (spent ≡ u)). inl (ap (λ (x : View E F). x.fixed) (sym t.1), ap (λ (x : View E F). x.stage) (sym t.1)))
      (λ (t : (j ≢ other) × (get_elem? (set views id (joined v w)) j ≡ some u)). ⊎_elim
      (λ (h : (j ≡ id) × (joined v w ≡ u)). inr (subst (λ (x : ℕ × View E F). Fits later x.0 f x.1) (λ i. (sym h.0 i, h.1 i)) (joined_fits now f id other v w apart idle it its)))
      (λ (h : (j ≢ id) × (get_elem? views j ≡ some u)). third later j u t.0 (known j u h.1))
      (at_set views id j (joined v w) u t.1))
      (at_set (set views id (joined v w)) other j spent u at)
    where
      third : (later : Moment E) (j : ℕ) (u : View E F) → j ≢ other → Known now f j u → Known (with_met now other id) f j u
      third later j u far (inl gone) = inl gone
      third later j u far (inr fit) = inr (thirds_stay now f id other j u far fit)

  -- the numbers of both are known by the seat that stays
  known_met : (owner : ℕ → ℕ) (f : F) (views : List (View E F)) (id other n : ℕ) (v w : View E F) → other ≢ id → get_elem? views id ≡ some v → get_elem? views other ≡ some w → v.fixed ≡ Some f
      → IsKnown owner f views n → IsKnown (passed owner other id) f (set (set views id (joined v w)) other spent) n
  known_met owner f views id other n v w apart at there own it =
      let both : get_elem? (set (set views id (joined v w)) other spent) id ≡ some (joined v w) = set_else (set views id (joined v w)) other id spent (λ e. apart (sym e)) ∙ set_at views id v (joined v w) at in
      dite (ℕ_discrete (owner n) other)
      (λ (e : owner n ≡ other).
      let same : it.0 ≡ w = some-injective it.0 w (sym it.1 ∙ (ap (get_elem? views) e ∙ there)) in (
        joined v w,
        ap (get_elem? (set (set views id (joined v w)) other spent)) (passed_on owner other id n e) ∙ both,
        own,
        inr (among_second n v.met (kin_of w) (subst (λ (x : View E F). IsAmong n (kin_of x)) same it.3)),
      ))
      (λ (far : owner n ≢ other).
      let still = stays_with owner other id n (owner n) far refl in
      let one = known_still owner f views id n v (joined v w) at own (among_first n (kin_of v) (kin_of w)) it in
      (one.0, ap (get_elem? (set (set views id (joined v w)) other spent)) still ∙ (set_else (set views id (joined v w)) other (owner n) spent far ∙ one.1), one.2, one.3))

  -- the remaining seat has the fixed part, and is idle
  pub met_fixed : {S : Type 0} (before other place : Me S (View E F)) (f : F) → place ≡ (joined before.0 other.0, before.1) → before.0.fixed ≡ Some f → place.0.fixed ≡ Some f
  met_fixed {S} before other place f is own = ap (λ (x : Me S (View E F)). x.0.fixed) is ∙ own

  pub met_stage : {S : Type 0} (before other place : Me S (View E F)) → place ≡ (joined before.0 other.0, before.1) → before.0.stage ≡ Idle → place.0.stage ≡ Idle
  met_stage {S} before other place is idle = ap (λ (x : Me S (View E F)). x.0.stage) is ∙ idle

module _ {R E F C P : Type 0} (fixed : R → F) (list : R → List E) (answers : F → List E → C → P → List E → Type 0) (f : F) where
  pub meets : (id other : ℕ) (v w : View E F) → v.fixed ≡ Some f → v.stage ≡ Idle → w.fixed ≡ Some f → w.stage ≡ Idle → Joins (Kept fixed list answers f) id v other w (joined v w) spent
  meets id other v w own idle owned idling s r at apart at' =
      let now = r.now in
      let there : get_elem? s.views other ≡ some w = sym (set_else s.views id other (joined v w) apart) ∙ at' in
      let it = fits now f id v own (r.seats id v at) in
      let its = fits now f other w owned (r.seats other w there) in
      let one = total-set (λ (u : View E F). u.parts) s.views id v (joined v w) at in
      let two = total-set (λ (u : View E F). u.parts) (set s.views id (joined v w)) other w spent at' in
      let parts = r.parts in record {
        now = with_met now other id;
        legal = r.legal;
        gates = r.gates;
        words = r.words;
        order = r.order;
        parts = omega arith;
        home = λ none_turning. r.home (none_had_turn s.views id v (joined v w) at (subst (λ (st : Stage). ¬ HasTurn st) (sym idle) (λ h. h))
            (none_had_turn (set s.views id (joined v w)) other w spent at' (subst (λ (st : Stage). ¬ HasTurn st) (sym idling) (λ h. h)) none_turning));
        seats = seats_meet now f s.views id other v w apart idle it its r.seats;
        known = λ n has. known_met now.owner f s.views id other n v w apart at there own (r.known n has);
      }

  -- the seat after a meeting and the look that follows it
  pub met : (before other after : Seat (Option R) (View E F)) (place : Me (Option R) (View E F)) (found : ℕ) → place ≡ (joined before.me.0 other.me.0, before.me.1) → Sees fixed list answers f found place after.me
      → MeetsAt answers f (sitting before) (sitting other) (sitting after)
  met before other after place found is it =
      let end = it.after in
      let seen : after.me.0.seen ≡ it.h = ap (λ (x : Me (Option R) (View E F)). x.0.seen) end in record {
        legal = subst (IsLegal answers f) (sym seen) it.legal;
        begins = subst (λ (x : History E × History E). BeginsWith x.0 x.1) (λ i. (sym seen i, ap (λ (x : Me (Option R) (View E F)). x.0.seen) is i)) it.seen;
        other_begins = subst (λ (x : History E × History E). BeginsWith x.0 x.1) (λ i. (sym seen i, ap (λ (x : Me (Option R) (View E F)). x.0.told) is i)) it.told;
        number = ap (λ (x : Me (Option R) (View E F)). x.0.number) end ∙ ap (λ (x : Me (Option R) (View E F)). x.0.number) is;
        mine = ap (λ (x : Me (Option R) (View E F)). x.0.mine) end ∙ ap (λ (x : Me (Option R) (View E F)). x.0.mine) is;
        met = ap (λ (x : Me (Option R) (View E F)). x.0.met) end ∙ ap (λ (x : Me (Option R) (View E F)). x.0.met) is;
        look = ap (λ (x : Me (Option R) (View E F)). x.0.looks) end ∙ (ap (λ (x : Me (Option R) (View E F)). x.0.looks ++ found ∷ []) is ∙ ap (λ (n : ℕ). before.me.0.looks ++ n ∷ []) (sym (ap length seen ∙ it.length_is)));
        tickets = ap (λ (x : Me (Option R) (View E F)). x.0.tickets) end ∙ ap (λ (x : Me (Option R) (View E F)). x.0.tickets) is;
        parts = ap (λ (x : Me (Option R) (View E F)). x.0.parts) end ∙ ap (λ (x : Me (Option R) (View E F)). x.0.parts) is;
      }

  -- this seat is at rest
  pub met_rests : (before other place after : Me (Option R) (View E F)) (found : ℕ) → place ≡ (joined before.0 other.0, before.1) → IsAtRest before → Sees fixed list answers f found place after → IsAtRest after
  met_rests before other place after found is rest it = subst IsAtRest (sym it.after) record {
    slots = ap (λ (x : Me (Option R) (View E F)). x.1) is ∙ rest.slots;
    stage = met_stage before other place is rest.stage;
    agrees = agrees_still it.h place.0 place.0.stage place.0.parts it.h (place.0.looks ++ found ∷ []) place.0.tickets it.agrees;
  }
