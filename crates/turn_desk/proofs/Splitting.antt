-- The step that splits a seat.
use Rattle.std.proofs.Common.{◌≡◌, ◌≢◌, ℕ, suc, ◌+◌, ◌-◌, ◌*◌, ◌/◌, ◌%◌, ◌<◌, ◌≤◌, List, [], ◌∷◌, ◌++◌, length, set, sym, refl, ap, ◌∙◌, subst, ⊎_elim, inr, arith, mul-le-mul_right, suc-mul, lt_of_not-le, div-add-mod', Some}
use Rattle.std.proofs.lemmas.List.{length-set}
use Rattle.std.proofs.lemmas.List.Elements.{All-nil}
use Rattle.std.proofs.Math.Nat.{add-mul, mul-add, mul-mod_left}
use mathlib.Core.Option.{some}
use mathlib.Core.Logic.{dite}
use native.Mathlib.Decide.{dec_le, ℕ_discrete}
use lib.ListN.{get_elem?}
use Rattle.atomic_table.specs.Table.{Me, Splits}
use Rattle.atomic_table.proofs.Lists.{at_longer}
use Rattle.turn_desk.specs.History.{History, entries_by}
use Rattle.turn_desk.specs.Rule.{HasTurn, IsKnown, Supplies, Agrees, Moment, HoldsTicket, Fits, Kept}
use Rattle.turn_desk.specs.Inner.Sharing.{kept, split_off}
use Rattle.turn_desk.specs.Inner.Steps.{IsAtRest}
use Rattle.turn_desk.specs.declared.view.View.{View}
use Rattle.turn_desk.specs.declared.view.Stage.{Stage}
use Rattle.turn_desk.specs.declared.view.Stage.TheVariants.{Idle}
use Rattle.turn_desk.proofs.Lists.{total-set, total-append, at_end, All-more}
use Rattle.turn_desk.proofs.Known.{Known, put, put_here, put_else, fits, same_ticket, seats_stay, known_still, none_had_turn}

-- x, x + 2s, x + 4s and so on are different from x + s, x + 3s and so on
second : (x s k j : ℕ) → 0 < s → (x + s) + k * (s + s) ≢ x + j * (s + s)
second x s k j some_stride e = dite (dec_le j k)
    (λ (low : j ≤ k). let m : j * (s + s) ≤ k * (s + s) = mul-le-mul_right (s + s) low in omega arith)
    (λ (high : ¬ (j ≤ k)). let m : suc k * (s + s) ≤ j * (s + s) = mul-le-mul_right (s + s) (lt_of_not-le high) in omega (arith, suc-mul k (s + s)))

module _ {E F : Type 0} where
  -- the numbers that go to the seat that is split off: the next number, and every second number after it
  abbrev Given : View E F → ℕ → Type 0
  Given v n = (k : ℕ) × (n ≡ v.next + k * (v.stride + v.stride))

  is_given : (v : View E F) (n : ℕ) → Dec (Given v n)
  is_given v n = go (dec_le v.next n) (ℕ_discrete ((n - v.next) % (v.stride + v.stride)) 0)
    where
      go : Dec (v.next ≤ n) → Dec ((n - v.next) % (v.stride + v.stride) ≡ 0) → Dec (Given v n)
      go (yes low) (yes whole) = let p = div-add-mod' (n - v.next) (v.stride + v.stride) in let k = (n - v.next) / (v.stride + v.stride) in yes (k, omega arith)
      go (yes low) (no rest) = no (λ g. rest (ap (λ (x : ℕ). x % (v.stride + v.stride)) (let e : n - v.next ≡ g.0 * (v.stride + v.stride) = omega (arith, g.1) in e) ∙ mul-mod_left g.0 (v.stride + v.stride)))
      go (no low) _ = no (λ g. low (omega (arith, g.1)))

  -- the seat could give each number that it gave, and each that it kept
  given_was_own : (v : View E F) (n : ℕ) → Given v n → Supplies v n
  given_was_own v n g = (g.0 + g.0, omega (arith, g.1, mul-add g.0 v.stride v.stride, add-mul g.0 g.0 v.stride))

  kept_was_own : (v : View E F) (n : ℕ) → Supplies (kept v) n → Supplies v n
  kept_was_own v n s = (suc (s.0 + s.0), omega (arith, s.1, mul-add s.0 v.stride v.stride, add-mul s.0 s.0 v.stride, suc-mul (s.0 + s.0) v.stride))

  split_off_gives : (v : View E F) (n : ℕ) → Supplies (split_off v) n → Given v n
  split_off_gives v n s = (suc s.0, omega (arith, s.1, suc-mul s.0 (v.stride + v.stride)))

  -- no number is both kept and given
  kept_or_given : (v : View E F) (n : ℕ) → 0 < v.stride → Supplies (kept v) n → ¬ Given v n
  kept_or_given v n some_stride s g = second v.next v.stride s.0 g.0 some_stride (sym s.1 ∙ g.1)

  -- the owner of each number, after the given numbers went to the new seat
  abbrev handed : View E F → (ℕ → ℕ) → ℕ → ℕ → ℕ
  handed v = put (Given v) (is_given v)

  handed_given : (v : View E F) (owner : ℕ → ℕ) (new n : ℕ) → Given v n → handed v owner new n ≡ new
  handed_given v = put_here (Given v) (is_given v)

  handed_else : (v : View E F) (owner : ℕ → ℕ) (new n : ℕ) → ¬ Given v n → handed v owner new n ≡ owner n
  handed_else v = put_else (Given v) (is_given v)

  -- the seat that keeps its kin knows what it knew of them
  pub kept_agrees : (h : History E) (v : View E F) → Agrees h v → Agrees h (kept v)
  kept_agrees h v a = let stride = a.stride in record { kin = a.kin; apart = a.apart; supply = λ n s. a.supply n (kept_was_own v n s); stride = omega arith }

  -- the history has no entry under the new seat's number, or under the numbers that it may give
  pub split_off_agrees : (h : History E) (v : View E F) → Agrees h v → Agrees h (split_off v)
  split_off_agrees h v a =
      let stride = a.stride in
      let next_free = (a.supply v.next (0, omega arith)).0 in
      let later : (n : ℕ) → Supplies (split_off v) n → v.next ≢ n = λ n s e. let is = s.1 in omega arith in record {
        kin = All-more (λ k. entries_by k.0 h ≡ k.1) (v.next, []) [] next_free (All-nil (λ k. entries_by k.0 h ≡ k.1));
        apart = (All-nil (λ k. k.0 ≢ v.next), tt);
        supply = λ n s. (
          (a.supply n (given_was_own v n (split_off_gives v n s))).0,
          All-more (λ k. k.0 ≢ n) (v.next, []) [] (later n s) (All-nil (λ k. k.0 ≢ n)),
        );
        stride = omega arith;
      }

  -- if the seat was at rest, both seats are
  pub kept_rests : {S : Type 0} (before after : Me S (View E F)) → IsAtRest before → after ≡ (kept before.0, before.1) → IsAtRest after
  kept_rests before after rest is = subst IsAtRest (sym is) record { slots = rest.slots; stage = rest.stage; agrees = kept_agrees before.0.seen before.0 rest.agrees }

  pub split_off_rests : {S : Type 0} (before new : Me S (View E F)) → IsAtRest before → new ≡ (split_off before.0, []) → IsAtRest new
  split_off_rests before new rest is = subst IsAtRest (sym is) record { slots = refl; stage = refl; agrees = split_off_agrees before.0.seen before.0 rest.agrees }

  -- the moment after: the given numbers are the new seat's
  abbrev with_seat : Moment E → View E F → ℕ → Moment E
  with_seat now v new = record now { owner = handed v now.owner new }

  -- no other seat has a number that was given
  others_own : (now : Moment E) (f : F) (id new : ℕ) (v : View E F) → Fits now id f v → (j : ℕ) (u : View E F) → j ≢ id → Fits now j f u → Fits (with_seat now v new) j f u
  others_own now f id new v it j u other known =
      let apart : (n : ℕ) → now.owner n ≡ j → ¬ Given v n = λ n at g. other (sym at ∙ it.supply n (given_was_own v n g)) in record {
        fixed = known.fixed;
        seen = known.seen;
        told = known.told;
        agrees = known.agrees;
        kin = λ i d below. handed_else v now.owner new _ (apart _ (known.kin i d below)) ∙ known.kin i d below;
        supply = λ n s. handed_else v now.owner new n (apart n (known.supply n s)) ∙ known.supply n s;
        ticket = same_ticket now (handed v now.owner new) j u u.stage known.ticket;
      }

  kept_fits : (now : Moment E) (f : F) (id new : ℕ) (v : View E F) → v.stage ≡ Idle → 2 ≤ v.parts → Fits now id f v → Fits (with_seat now v new) id f (kept v)
  kept_fits now f id new v idle two it =
      record {
        fixed = it.fixed;
        seen = it.seen;
        told = it.told;
        agrees = kept_agrees now.log v it.agrees;
        kin = λ i d below. handed_else v now.owner new _ (λ g. (it.agrees.supply _ (given_was_own v _ g)).1 i d below refl) ∙ it.kin i d below;
        supply = λ n s. handed_else v now.owner new n (kept_or_given v n it.agrees.stride s) ∙ it.supply n (kept_was_own v n s);
        ticket = subst (HoldsTicket (with_seat now v new) id (kept v)) (sym idle) (omega arith);
      }

  split_off_fits : (now : Moment E) (f : F) (id new : ℕ) (v : View E F) → 2 ≤ v.parts → Fits now id f v → Fits (with_seat now v new) new f (split_off v)
  split_off_fits now f id new v two it = record {
    fixed = it.fixed;
    seen = it.seen;
    told = (now.log, refl);
    agrees = split_off_agrees now.log v it.agrees;
    kin = All-more (λ k. handed v now.owner new k.0 ≡ new) (v.next, []) [] (handed_given v now.owner new v.next (0, omega arith)) (All-nil (λ k. handed v now.owner new k.0 ≡ new));
    supply = λ n s. handed_given v now.owner new n (split_off_gives v n s);
    ticket = omega arith;
  }

  seats_split : (now : Moment E) (f : F) (views : List (View E F)) (id : ℕ) (v : View E F) → v.stage ≡ Idle → 2 ≤ v.parts → Fits now id f v
      → ((j : ℕ) (u : View E F) → get_elem? views j ≡ some u → Known now f j u)
      → (j : ℕ) (u : View E F) → get_elem? (set views id (kept v) ++ split_off v ∷ []) j ≡ some u → Known (with_seat now v (length views)) f j u
  seats_split now f views id v idle two it known j u at =
      let new = length views in
      let later = with_seat now v new in ⊎_elim
      (λ (here : get_elem? (set views id (kept v)) j ≡ some u). seats_stay now later f views id (kept v) (kept_fits now f id new v idle two it) (others_own now f id new v it) known j u here)
      (λ (t : (j ≡ length (set views id (kept v))) × (split_off v ≡ u)).
      let is : new ≡ j = sym (t.0 ∙ length-set views id (kept v)) in inr (subst (λ (x : ℕ × View E F). Fits later x.0 f x.1) (λ i. (is i, t.1 i)) (split_off_fits now f id new v two it)))
      (at_end (set views id (kept v)) (split_off v) u j at)

  -- no entry is under a number that is given, so what was known is known by the same seat
  known_split : (now : Moment E) (f : F) (views : List (View E F)) (id n : ℕ) (v : View E F) → get_elem? views id ≡ some v → Fits now id f v → entries_by n now.log ≢ []
      → IsKnown now.owner f views n → IsKnown (handed v now.owner (length views)) f (set views id (kept v) ++ split_off v ∷ []) n
  known_split now f views id n v at it has known =
      let still = handed_else v now.owner (length views) n (λ g. has (it.agrees.supply n (given_was_own v n g)).0) in
      let one = known_still now.owner f views id n v (kept v) at it.fixed (λ among. among) known in
      (one.0, ap (get_elem? (set views id (kept v) ++ split_off v ∷ [])) still ∙ at_longer (set views id (kept v)) (split_off v ∷ []) (now.owner n) one.0 one.1, one.2, one.3)

module _ {R E F C P : Type 0} (fixed : R → F) (list : R → List E) (answers : F → List E → C → P → List E → Type 0) (f : F) where
  pub splits : (id : ℕ) (v : View E F) → v.fixed ≡ Some f → v.stage ≡ Idle → 2 ≤ v.parts → Splits (Kept fixed list answers f) id v (kept v) (split_off v)
  splits id v own idle two s r at =
      let now = r.now in
      let it = fits now f id v own (r.seats id v at) in
      let sum = total-set (λ (u : View E F). u.parts) s.views id v (kept v) at in
      let both = total-append (λ (u : View E F). u.parts) (set s.views id (kept v)) (split_off v ∷ []) in
      let parts = r.parts in record {
        now = with_seat now v (length s.views);
        legal = r.legal;
        gates = r.gates;
        words = r.words;
        order = r.order;
        parts = omega arith;
        home = λ none_turning. r.home (none_had_turn s.views id v (kept v) at (subst (λ (st : Stage). ¬ HasTurn st) (sym idle) (λ h. h)) (λ j u here. none_turning j u (at_longer (set s.views id (kept v)) (split_off v ∷ []) j u here)));
        seats = seats_split now f s.views id v idle two it r.seats;
        known = λ n has. known_split now f s.views id n v at it has (r.known n has);
      }
