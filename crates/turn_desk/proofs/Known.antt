-- What the rule says of all seats after a step of one seat.
use Rattle.std.proofs.Common.{◌≡◌, ◌≢◌, ◌⊎◌, ℕ, List, set, sym, refl, ap, ◌∙◌, subst, ⊎_elim, inl, inr, Some, None}
use mathlib.Core.Option.{some, some-injective}
use mathlib.Core.Logic.{dite}
use native.Mathlib.Decide.{ℕ_discrete}
use lib.ListN.{get_elem?}
use Rattle.atomic_table.proofs.Lists.{at_set, set_else}
use Rattle.turn_desk.specs.History.{History, IsAmong}
use Rattle.turn_desk.specs.Rule.{HasTurn, IsKnown, kin_of, Agrees, IsSpent, Moment, HoldsTicket, Fits}
use Rattle.turn_desk.proofs.Lists.{set_at}
use Rattle.turn_desk.specs.declared.view.View.{View}
use Rattle.turn_desk.specs.declared.view.Stage.{Stage}
use Rattle.turn_desk.specs.declared.view.Stage.TheVariants.{Idle, Waiting, Turning}

pick : {P : Type 0} → Dec P → ℕ → ℕ → ℕ
pick (yes _) a b = a
pick (no _) a b = b

-- the function g, but with the value x at each number that has P
pub put : (P : ℕ → Type 0) → ((n : ℕ) → Dec (P n)) → (ℕ → ℕ) → ℕ → ℕ → ℕ
put P is g x n = pick (is n) x (g n)

pub put_here : (P : ℕ → Type 0) (is : (n : ℕ) → Dec (P n)) (g : ℕ → ℕ) (x n : ℕ) → P n → put P is g x n ≡ x
unfolding put pick
put_here P is g x n here = go (is n)
  where
    go : (d : Dec (P n)) → pick d x (g n) ≡ x
    go (yes _) = refl
    go (no other) = absurd (other here)

pub put_else : (P : ℕ → Type 0) (is : (n : ℕ) → Dec (P n)) (g : ℕ → ℕ) (x n : ℕ) → ¬ P n → put P is g x n ≡ g n
unfolding put pick
put_else P is g x n other = go (is n)
  where
    go : (d : Dec (P n)) → pick d x (g n) ≡ g n
    go (yes here) = absurd (other here)
    go (no _) = refl

-- a seat that has the turn has a ticket
pub turn_ticket : (st : Stage) → HasTurn st → (t : ℕ) × (st ≡ Turning t)
turn_ticket Idle h = absurd h
turn_ticket (Waiting t) h = absurd h
turn_ticket (Turning t) h = (t, refl)

module _ {E F : Type 0} where
  -- what the rule says of a seat
  abbrev pub Known : Moment E → F → ℕ → View E F → Type 0
  Known now f j v = IsSpent v ⊎ Fits now j f v

  -- what a seat knows of its kin does not depend on its stage or on what it has seen
  pub agrees_still : (h : History E) (v : View E F) (stage : Stage) (parts : ℕ) (seen : History E) (looks tickets : List ℕ) → Agrees h v
      → Agrees h (record v { stage = stage; parts = parts; seen = seen; looks = looks; tickets = tickets })
  agrees_still h v stage parts seen looks tickets a = record { kin = a.kin; apart = a.apart; supply = a.supply; stride = a.stride }

  -- a seat that has its fixed part was not met into another seat
  pub fits : (now : Moment E) (f : F) (j : ℕ) (v : View E F) → v.fixed ≡ Some f → Known now f j v → Fits now j f v
  fits now f j v own (inl spent) = let e : None ≡ Some f = sym spent.0 ∙ own in cc
  fits now f j v own (inr it) = it

  -- a step that leaves the history unchanged leaves true what a seat knows
  pub fits_still : (now : Moment E) (drawn served : ℕ) (drawer : ℕ → ℕ) (j : ℕ) (f : F) (v : View E F) → Fits now j f v
      → HoldsTicket (record now { drawn = drawn; served = served; drawer = drawer }) j v v.stage → Fits (record now { drawn = drawn; served = served; drawer = drawer }) j f v
  fits_still now drawn served drawer j f v it ticket = record { fixed = it.fixed; seen = it.seen; told = it.told; agrees = it.agrees; kin = it.kin; supply = it.supply; ticket = ticket }

  -- the owners of the numbers do not affect tickets
  pub same_ticket : (now : Moment E) (owner : ℕ → ℕ) (j : ℕ) (v : View E F) (st : Stage) → HoldsTicket now j v st → HoldsTicket (record now { owner = owner }) j v st
  same_ticket now owner j v Idle k = k
  same_ticket now owner j v (Waiting t) k = k
  same_ticket now owner j v (Turning t) k = k

  -- after a step of the seat `id`, what each other seat knows is still true
  pub seats_stay : (now later : Moment E) (f : F) (views : List (View E F)) (id : ℕ) (w : View E F) → Fits later id f w
      → ((j : ℕ) (v : View E F) → j ≢ id → Fits now j f v → Fits later j f v) → ((j : ℕ) (v : View E F) → get_elem? views j ≡ some v → Known now f j v)
      → (j : ℕ) (v : View E F) → get_elem? (set views id w) j ≡ some v → Known later f j v
  seats_stay now later f views id w mine others known j v at = ⊎_elim
      (λ (t : (j ≡ id) × (w ≡ v)). inr (subst (λ (x : ℕ × View E F). Fits later x.0 f x.1) (λ i. (sym t.0 i, t.1 i)) mine))
      (λ (t : (j ≢ id) × (get_elem? views j ≡ some v)). ⊎_elim (λ (s : IsSpent v). inl s) (λ (s : Fits now j f v). inr (others j v t.0 s)) (known j v t.1))
      (at_set views id j w v at)

  -- if no seat has the turn after a step of a seat that had no turn, no seat had it before
  pub none_had_turn : (views : List (View E F)) (id : ℕ) (v w : View E F) → get_elem? views id ≡ some v → ¬ HasTurn v.stage
      → ((j : ℕ) (u : View E F) → get_elem? (set views id w) j ≡ some u → ¬ HasTurn u.stage) → (j : ℕ) (u : View E F) → get_elem? views j ≡ some u → ¬ HasTurn u.stage
  none_had_turn views id v w at idle none j u here = dite (ℕ_discrete j id)
      (λ (e : j ≡ id). let same : v ≡ u = some-injective v u (sym at ∙ (ap (get_elem? views) (sym e) ∙ here)) in subst (λ (x : View E F). ¬ HasTurn x.stage) same idle)
      (λ (other : j ≢ id). none j u (set_else views id j w other ∙ here))

  -- a number that a seat knew is known after a step of the seat `id`, if that seat knows what it knew
  pub known_still : (owner : ℕ → ℕ) (f : F) (views : List (View E F)) (id n : ℕ) (v w : View E F) → get_elem? views id ≡ some v → w.fixed ≡ Some f
      → (IsAmong n (kin_of v) → IsAmong n (kin_of w)) → IsKnown owner f views n → IsKnown owner f (set views id w) n
  known_still owner f views id n v w at own more it = dite (ℕ_discrete (owner n) id)
      (λ (e : owner n ≡ id).
      let same : it.0 ≡ v = some-injective it.0 v (sym it.1 ∙ (ap (get_elem? views) e ∙ at)) in
      (w, ap (get_elem? (set views id w)) e ∙ set_at views id v w at, own, more (subst (λ (x : View E F). IsAmong n (kin_of x)) same it.3)))
      (λ (other : owner n ≢ id). (it.0, set_else views id (owner n) w other ∙ it.1, it.2, it.3))

  -- the seat with the turn drew the ticket that is being served
  pub turner : (now : Moment E) (f : F) (j : ℕ) (v : View E F) → Known now f j v → HasTurn v.stage → now.drawer now.served ≡ j
  turner now f j v (inl spent) turn = absurd (subst HasTurn spent.1 turn)
  turner now f j v (inr it) turn = let t = turn_ticket v.stage turn in
      let ticket : HoldsTicket now j v (Turning t.0) = subst (HoldsTicket now j v) t.1 it.ticket in ap now.drawer ticket.0 ∙ ticket.2
