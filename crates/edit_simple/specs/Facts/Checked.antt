-- The facts that follow if no check holds.
use Rattle.std.proofs.Common.{sym, ap, subst}
use Rattle.std.specs.Prelude.{◌≡◌, Bool, true, false, not, List, [], ◌∷◌, ◌++◌, Option, Some, None, Result, Ok, Err, IfErr, refl, IsErr, IsErrAnd}
use Rattle.std.specs.Bool.{then_some}
use Rattle.osm_elements.specs.declared.name.Name.{Name}
use Rattle.room_interface.specs.declared.refusal.Refusal.{Refusal}
use Rattle.edit_simple.specs.Checks.{first_that_holds, the_least}
use Rattle.edit_simple.specs.Plans.{IsNamed}

pub first_none : {X : Type 0} (o : Option X) (os : List (Option X)) → first_that_holds (o ∷ os) ≡ None → (o ≡ None) × (first_that_holds os ≡ None)
first_none None os e = (refl, e)
first_none (Some x) os e = absurd (cc)

-- the first check that holds is also the first of a longer list
pub first_stays : {X : Type 0} (early late : List (Option X)) (x : X) → first_that_holds early ≡ Some x → first_that_holds (early ++ late) ≡ Some x
first_stays [] late x e = absurd (cc)
first_stays (None ∷ early) late x e = first_stays early late x e
first_stays (Some y ∷ early) late x e = e

-- if no check of the first list holds, the second list decides
pub rest_decides : {X : Type 0} (early late : List (Option X)) → first_that_holds early ≡ None → first_that_holds (early ++ late) ≡ first_that_holds late
rest_decides [] late e = refl
rest_decides (None ∷ early) late e = rest_decides early late e
rest_decides (Some x ∷ early) late e = absurd (cc)

pub none_before : {X : Type 0} (early late : List (Option X)) → first_that_holds (early ++ late) ≡ None → first_that_holds early ≡ None
none_before [] late e = refl
none_before (None ∷ early) late e = none_before early late e
none_before (Some x ∷ early) late e = absurd (cc)

-- no check of the list holds
abbrev pub Nones : {X : Type 0} → List (Option X) → Type 0
Nones [] = Unit
Nones (o ∷ os) = (o ≡ None) × Nones os

pub nones : {X : Type 0} (os : List (Option X)) → first_that_holds os ≡ None → Nones os
nones [] h = tt
nones (o ∷ os) h = let parts = first_none o os h in (parts.0, nones os parts.1)

pub not_so : {X : Type 0} (b : Bool) (x : X) → then_some b x ≡ None → b ≡ false
not_so true x e = absurd (cc)
not_so false x e = refl

pub from_false : (b : Bool) → not b ≡ false → b ≡ true
from_false true e = refl
from_false false e = absurd (cc)

pub from_not : (b : Bool) → not b ≡ true → b ≡ false
from_not true e = absurd (cc)
from_not false e = refl

-- a list without a least name is empty
pub no_least : {A : Type 0} (why : Name → Refusal A) (names : List Name) → the_least why names ≡ None → names ≡ []
no_least why [] e = refl
no_least why (x ∷ names) e = absurd (cc)

module _ {A X : Type 0} (checks : List (Option (Refusal A))) where
  -- if no check holds, every result is named
  pub named_if_none : (result : Result X (Refusal A)) → first_that_holds checks ≡ None → IsNamed checks result
  named_if_none result none r e = absurd (cc)

  -- the first check that holds is named
  pub named_if_first : (first : Refusal A) → first_that_holds checks ≡ Some first → IsNamed {X = X} checks (Err first)
  named_if_first first is r e = ap Err (cc)

-- a fact about the expected error is a fact about the returned error
pub err_same : {X E : Type 0} (Q : E → Type 0) (r : Result X E) (e : E) → IsErrAnd r (λ x. x ≡ e) → Q e → IfErr r Q
err_same Q (Ok x) e h q = tt
err_same Q (Err x) e h q = subst Q (sym h) q

-- a fact about the expected error, as a result, is a fact about the returned result
pub err_result : {X E : Type 0} (Q : Result X E → Type 0) (r : Result X E) (e : E) → IsErr r → IsErrAnd r (λ x. x ≡ e) → Q (Err e) → Q r
err_result Q (Ok x) e h k q = absurd (cc)
err_result Q (Err x) e h k q = subst (λ z. Q (Err z)) (sym k) q
