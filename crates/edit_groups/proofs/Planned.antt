-- The changes of an accepted edit can be applied.
use Rattle.std.proofs.Common.{◌≡◌, true, List, Result, Ok, Err, IfOk, sym, ap, subst, ◌∙◌}
use Rattle.edit_groups.specs.Prelude.{Rows, Touch, Change, differences, AreFrom, is_sound, Edit, EditRefusal, after, is_made_edit, IsEditPlan, changes_lead, keeps_sound}
use Rattle.osm_changes.specs.Changes.{changed}

module _ {A : Type 0} where
  pub plan_from : (m : Rows A) (e : Edit A) (r : Result (List (Change A) × List Touch) (EditRefusal A)) → ((n k : Rows A) → AreFrom n (differences n k)) → IsEditPlan m e r → IfOk r (λ p. AreFrom m p.0)
  plan_from m e (Ok p) from plan = subst (AreFrom m) (sym plan.1) (from m (after m e))
  plan_from m e (Err r) from plan = tt

  pub plan_sound : (m : Rows A) (e : Edit A) (r : Result (List (Change A) × List Touch) (EditRefusal A)) → is_sound m ≡ true → is_made_edit e ≡ true → IsEditPlan m e r
      → IfOk r (λ p. is_sound (changed m p.0) ≡ true)
  plan_sound m e (Ok p) sound made plan = ap (λ cs. is_sound (changed m cs)) plan.1 ∙ ap is_sound (changes_lead m e sound) ∙ keeps_sound m e sound made plan.0
  plan_sound m e (Err r) sound made plan = tt
