-- The deeds of a journal's entries.
use Rattle.std.specs.Prelude.{◌&&◌, ◌+◌, ℕ, Bool, not, List, [], ◌∷◌, if◌then◌else◌}
use Rattle.std.specs.List.{list_any}
use Rattle.room_stacks.specs.declared.deed.Deed.{Deed}

module _ {E : Type 0} where
  -- the deeds of entries numbered from n on
  abbrev pub deeds_from : (ℕ → E → Deed) → ℕ → List E → List Deed
  deeds_from deed n [] = []
  deeds_from deed n (e ∷ later) = deed n e ∷ deeds_from deed (n + 1) later

  -- the numbers, from n on, of the entries that pass a test and that no later entry undid
  abbrev pub kept_from : (E → Bool) → (ℕ → E → Bool) → ℕ → List E → List ℕ
  kept_from test undid n [] = []
  kept_from test undid n (e ∷ later) =
      if test e && not (list_any (undid n) later)
      then n ∷ kept_from test undid (n + 1) later
      else kept_from test undid (n + 1) later
