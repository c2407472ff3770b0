-- A list that is split by a test, item by item.
use Rattle.std.proofs.Common.{◌≡◌, ◌<◌, ◌+◌, ℕ, Bool, true, false, List, [], ◌∷◌, ◌++◌, length, map, take, get_or, sym, ap, ap₂, append-nil, ◌∙◌, filter}
use Rattle.std.proofs.lemmas.List.{map-append, take_more}
use Rattle.std.proofs.lemmas.List.Elements.{filter-append}

module _ {X Y : Type 0} (f : X → Y) (p : X → Bool) (xs : List X) (i : ℕ) (x : X) (h : i < length xs) (is : x ≡ get_or xs i x) where
  one_more : map f (filter p (take (i + 1) xs)) ≡ map f (filter p (take i xs)) ++ map f (filter p (x ∷ []))
  one_more = ap (λ ys. map f (filter p ys)) (take_more xs i x h ∙ ap (λ y. take i xs ++ y ∷ []) (sym is))
      ∙ ap (map f) (filter-append p (take i xs) (x ∷ [])) ∙ map-append f (filter p (take i xs)) (filter p (x ∷ []))

  -- the next item passes, and what is made of it is appended
  pub next_in : (old new : List Y) (y : Y) → p x ≡ true → y ≡ f x → new ≡ old ++ y ∷ [] → old ≡ map f (filter p (take i xs)) → new ≡ map f (filter p (take (i + 1) xs))
  next_in old new y passes same pushed before = rw one_more (rw passes (pushed ∙ ap₂ (λ ys z. ys ++ z ∷ []) before same))

  -- the next item does not pass
  pub next_out : (old : List Y) → p x ≡ false → old ≡ map f (filter p (take i xs)) → old ≡ map f (filter p (take (i + 1) xs))
  next_out old fails before = rw one_more (rw fails (before ∙ sym (append-nil (map f (filter p (take i xs))))))
