-- Facts about the result of a plan.
use Rattle.std.proofs.Common.{◌≡◌, ℕ, ℤ, true, List, Result, Ok, Err, IfOk, FitsSigned, w64, to_z, of_z, sym, ap, subst, ◌∙◌}
use Rattle.std.proofs.lemmas.Int.{to_z-of_z}
use Rattle.edit_actions.specs.Prelude.{Rows, Change, differences, AreFrom, is_sound, Refusal, IsPlan, Action, after, accepted_keeps_sound, changes_lead, is_made_action, checks, Name, Move, move_checks, after_move, after_unglue}
use Rattle.edit_topology.specs.Prelude.{unglue_checks}
use Rattle.room_interface.specs.declared.action.Action.TheVariants.{Unglue}
use Rattle.osm_changes.specs.Changes.{changed}

module _ {A : Type 0} where
  -- the plan of an action that was matched
  pub plan_of : (m : Rows A) (a b : Action A) (r : Result (List (Change A)) (Refusal A)) → a ≡ b → IsPlan m (checks m b) (after m b) r → IsPlan m (checks m a) (after m a) r
  plan_of m a b r e p = subst (λ c. IsPlan m (checks m c) (after m c) r) (sym e) p

  -- the plan of a move, whose list is lent, and whose distances are read as signed numbers
  pub plan_of_move : (m : Rows A) (a : Action A) (names list : List Name) (dlat dlon : ℤ) (r : Result (List (Change A)) (Refusal A)) → a ≡ Move names dlat dlon → list ≡ names → FitsSigned w64 dlat → FitsSigned w64 dlon
      → IsPlan m (move_checks m list (to_z w64 (of_z w64 dlat)) (to_z w64 (of_z w64 dlon))) (after_move m list (to_z w64 (of_z w64 dlat)) (to_z w64 (of_z w64 dlon))) r
      → IsPlan m (checks m a) (after m a) r
  plan_of_move m a names list dlat dlon r e same lat lon p =
      plan_of m a (Move names dlat dlon) r e
      (subst (λ z. IsPlan m (move_checks m names dlat z) (after_move m names dlat z) r) (to_z-of_z w64 dlon lon)
      (subst (λ z. IsPlan m (move_checks m names z (to_z w64 (of_z w64 dlon))) (after_move m names z (to_z w64 (of_z w64 dlon))) r) (to_z-of_z w64 dlat lat)
      (subst (λ l. IsPlan m (move_checks m l (to_z w64 (of_z w64 dlat)) (to_z w64 (of_z w64 dlon))) (after_move m l (to_z w64 (of_z w64 dlat)) (to_z w64 (of_z w64 dlon))) r) same p)))

  abbrev place_in : Action A → ℕ
  place_in (Unglue w i v) = i
  place_in a = 0

  abbrev into_in : Name → Action A → Name
  into_in x (Unglue w i v) = v
  into_in x a = x

  -- the plan of an unglue, each field of which is read by itself
  pub plan_of_unglue : (m : Rows A) (a : Action A) (w w' w'' : Name) (i i' i'' : ℕ) (v v' v'' : Name) (r : Result (List (Change A)) (Refusal A)) → a ≡ Unglue w i v → a ≡ Unglue w' i' v' → a ≡ Unglue w'' i'' v''
      → IsPlan m (unglue_checks m w i' v'') (after_unglue m w i' v'') r → IsPlan m (checks m a) (after m a) r
  plan_of_unglue m a w w' w'' i i' i'' v v' v'' r one two three p =
      plan_of m a (Unglue w i v) r one
      (subst (λ x. IsPlan m (unglue_checks m w i x) (after_unglue m w i x) r) (ap (into_in v) (sym three ∙ one))
      (subst (λ k. IsPlan m (unglue_checks m w k v'') (after_unglue m w k v'') r) (ap place_in (sym two ∙ one)) p))

  -- the changes of a plan are from the map
  pub is_from : (m : Rows A) (a : Action A) (r : Result (List (Change A)) (Refusal A)) → ((k n : Rows A) → AreFrom k (differences k n))
      → IsPlan m (checks m a) (after m a) r → IfOk r (λ cs. AreFrom m cs)
  is_from m a (Ok cs) from p = subst (AreFrom m) (sym p.1) (from m (after m a))
  is_from m a (Err r) from p = tt

  -- the changes of a plan keep a sound map sound
  pub stays_sound : (m : Rows A) (a : Action A) (r : Result (List (Change A)) (Refusal A)) → is_sound m ≡ true → is_made_action a ≡ true → IsPlan m (checks m a) (after m a) r → IfOk r (λ cs. is_sound (changed m cs) ≡ true)
  stays_sound m a (Ok cs) sound made p = ap (λ ds. is_sound (changed m ds)) p.1 ∙ ap is_sound (changes_lead m a sound made p.0) ∙ (accepted_keeps_sound m a sound made p.0).0
  stays_sound m a (Err r) sound made p = tt
