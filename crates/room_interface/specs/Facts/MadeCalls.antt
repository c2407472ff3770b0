-- Made actions, one after the other.
use Rattle.std.proofs.Common.{sym, ap, ◌∙◌}
use Rattle.std.specs.Prelude.{◌≡◌, ◌+◌, ◌<◌, ◌&&◌, ◌++◌, ℕ, true, List, [], ◌∷◌, length, take, get_or}
use Rattle.std.proofs.lemmas.Bool.{and_parts}
use Rattle.std.proofs.lemmas.List.{take_more}
use Rattle.room_interface.specs.declared.action.Action.{Action}
use Rattle.room_interface.specs.MadeCalls.{is_made_action, are_made}

module _ {A : Type 0} where
  pub are_made-one : (xs : List (Action A)) (a : Action A) → are_made xs ≡ true → is_made_action a ≡ true → are_made (xs ++ a ∷ []) ≡ true
  are_made-one [] a made h = ap (λ b. b && true) h
  are_made-one (x ∷ xs) a made h =
      let both = and_parts (is_made_action x) (are_made xs) made in
      (λ i. both.0 i && are_made-one xs a both.1 h i)

  -- the actions and the next one are made
  pub are_made_next : (g : List (Action A)) (i : ℕ) (a : Action A) → i < length g → a ≡ get_or g i a → are_made (take i g) ≡ true → is_made_action a ≡ true → are_made (take (i + 1) g) ≡ true
  are_made_next g i a l is made own = ap are_made (take_more g i a l ∙ ap (λ y. take i g ++ y ∷ []) (sym is)) ∙ are_made-one (take i g) a made own
