-- The kept effect of an entry is the one that the journal records.
use Rattle.std.proofs.Common.{◌≡◌, List, Option, Some, None, refl, sym, ap, ◌∙◌}
use Rattle.room_history.specs.Prelude.{then_some, Rows, Touch, Change, changed_rows, Effect, Recorded, taken_back}
use Rattle.room_history.specs.Inner.Telling.{is_group, group_touches, single_effect, effect_of}

module _ {A : Type 0} (m : Rows A) (cs : List (Change A)) (effect kept : Effect A) (group : Option (List Touch)) (effect_is : effect ≡ single_effect m cs) (kept_is : kept ≡ record effect { group = group }) where
  effect_with : kept ≡ record { changes = cs; rows = changed_rows m cs; group = group }
  effect_with = kept_is ∙ (λ i. record (effect_is i) { group = group })

  -- of an action or a group
  pub worked_effect : (r : Recorded A) (touches : List Touch) → cs ≡ r.changes → touches ≡ r.footprint → group ≡ then_some (is_group r.action) touches → kept ≡ effect_of m r
  worked_effect r touches changes_are touches_are group_is =
      effect_with ∙ (λ i. record { changes = changes_are i; rows = changed_rows m (changes_are i); group = (group_is ∙ ap (then_some (is_group r.action)) touches_are) i })

  none_back : (o : Option (Recorded A)) → group_touches (taken_back o).action (taken_back o).footprint ≡ None
  none_back None = refl
  none_back (Some r) = refl

  -- of an undo
  pub undone_effect : (o : Option (Recorded A)) → cs ≡ (taken_back o).changes → group ≡ None → kept ≡ effect_of m (taken_back o)
  undone_effect o changes_are none = effect_with ∙ (λ i. record { changes = changes_are i; rows = changed_rows m (changes_are i); group = (none ∙ sym (none_back o)) i })
