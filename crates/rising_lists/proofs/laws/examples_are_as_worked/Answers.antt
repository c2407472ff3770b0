-- They hold by evaluation, for each key and each value.
use Rattle.std.proofs.Common.{◌≡◌, false, refl, subst, sym, true, arith, T}
use Rattle.std.specs.Ordering.{nat_cmp}
use Rattle.rising_lists.specs.Examples.{values_listed, two_keys, keys_listed, values_added, values_removed}
use Rattle.rising_lists.specs.Lists.{AreLists}
use Rattle.rising_lists.proofs.laws.examples_are_as_worked.Goals as goal

pub returns-clause-values_listed : goal.returns-clause-values_listed
unfolding values_listed
returns-clause-values_listed c = (refl, refl, refl, refl, refl, refl, refl, refl, refl, refl)

are_lists : AreLists nat_cmp nat_cmp two_keys
are_lists = record { in_order = tt; rising = λ k. grind (arith); none_empty = λ k. grind (arith) }

true_is_not_false : true ≡ false → ⊥
true_is_not_false e = subst T e tt

pub returns-clause-keys_listed : goal.returns-clause-keys_listed
unfolding keys_listed
returns-clause-keys_listed c = (refl, refl, are_lists, λ h. true_is_not_false (h.none_empty 1), λ h. h.rising 1, λ h. h.in_order)

pub returns-clause-values_added : goal.returns-clause-values_added
unfolding values_added
returns-clause-values_added c = (λ k v. grind (arith), λ k v. grind (arith), λ k v. grind (arith), λ h. true_is_not_false (sym (h 1 3)), λ k v. grind (arith), λ h. true_is_not_false (h 2 3))

pub returns-clause-values_removed : goal.returns-clause-values_removed
unfolding values_removed
returns-clause-values_removed c = (λ k v. grind (arith), λ k v. grind (arith), λ h. true_is_not_false (sym (h 2 5)))
