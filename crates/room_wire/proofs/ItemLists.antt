-- Reading an array, item by item.
use Rattle.std.proofs.Common.{◌≡◌, List, [], ◌∷◌, ◌++◌, Option, Some, None, option_map, refl, sym, ap, append_assoc, append-nil}
use Rattle.serde_json.specs.Data.{Data, Items, no_items, item}
use Rattle.room_wire.specs.Spelling.{items_in}

module _ {X : Type 0} (reading : Data → Option X) where
  -- the values that were read, followed by those of the remaining items
  abbrev pub with_front : List X → Items → Option (List X)
  with_front front ds = option_map (λ xs. front ++ xs) (items_in reading ds)

  one_more : (front : List X) (x : X) (rest : Option (List X)) → option_map (λ xs. front ++ xs) (option_map (λ xs. x ∷ xs) rest) ≡ option_map (λ xs. (front ++ x ∷ []) ++ xs) rest
  one_more front x None = refl
  one_more front x (Some xs) = ap Some (sym (append_assoc front (x ∷ []) xs))

  pub items_in-some : (front : List X) (x : X) (d : Data) (ds : Items) → reading d ≡ Some x → with_front front (item d ds) ≡ with_front (front ++ x ∷ []) ds
  items_in-some front x d ds h = rw h (one_more front x (items_in reading ds))

  pub items_in-none : (front : List X) (d : Data) (ds : Items) → reading d ≡ None → with_front front (item d ds) ≡ None
  items_in-none front d ds h = rw h refl

  pub items_in-nil : (front : List X) → with_front front no_items ≡ Some front
  items_in-nil front = ap Some (append-nil front)
