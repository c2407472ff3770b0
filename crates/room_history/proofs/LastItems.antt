-- The last item of a list.
use Rattle.std.proofs.Common.{◌≡◌, ◌-◌, ◌++◌, List, [], ◌∷◌, Some, length, take, refl, slice_get, sym, ap, subst, ◌∙◌, arith, append-nil, append_assoc, length-append}
use Rattle.std.proofs.lemmas.List.{reverse-append}
use Rattle.room_history.specs.Journals.{last}

module _ {X : Type 0} where
  pub last-append : (xs : List X) (x : X) → last (xs ++ x ∷ []) ≡ Some x
  last-append xs x = ap (λ ys. slice_get ys 0) (reverse-append xs (x ∷ []))

  -- if two lists differ at most in their last item and are equal, their last items are equal
  pub same_end : (xs : List X) (x y : X) → xs ++ x ∷ [] ≡ xs ++ y ∷ [] → x ≡ y
  same_end xs x y e = let ends : Some x ≡ Some y = sym (last-append xs x) ∙ ap last e ∙ last-append xs y in cc

  -- a list that is not empty has a last item after the others
  pub record Ended (xs : List X) : Type 0 where
    pub front : List X
    pub end : X
    pub is : xs ≡ front ++ end ∷ []

  pub ended : (x : X) (xs : List X) → Ended (x ∷ xs)
  ended x [] = record { front = []; end = x; is = refl }
  ended x (y ∷ ys) = let rest = ended y ys in record { front = x ∷ rest.front; end = rest.end; is = ap (λ l. x ∷ l) rest.is }

  take_front : (xs ys : List X) → take (length xs) (xs ++ ys) ≡ xs
  take_front [] ys = refl
  take_front (x ∷ xs) ys = ap (λ l. x ∷ l) (take_front xs ys)

  -- without its last item, the others are left
  pub all_but_last : (xs : List X) (x : X) → take (length (xs ++ x ∷ []) - 1) (xs ++ x ∷ []) ≡ xs
  all_but_last xs x = ap (λ n. take (n - 1) (xs ++ x ∷ [])) (length-append xs (x ∷ [])) ∙ ap (λ n. take n (xs ++ x ∷ [])) (omega arith) ∙ take_front xs (x ∷ [])

  -- the last item put back gives the list
  pub last_put_back : (xs : List X) (x : X) → last xs ≡ Some x → xs ≡ take (length xs - 1) xs ++ x ∷ []
  last_put_back [] x e = absurd (cc)
  last_put_back (y ∷ ys) x e =
      let whole = ended y ys in
      let ends : Some whole.end ≡ Some x = sym (last-append whole.front whole.end) ∙ ap last (sym whole.is) ∙ e in
      let same : whole.end ≡ x = cc in
      whole.is ∙ ap (λ l. l ++ whole.end ∷ []) (sym (all_but_last whole.front whole.end)) ∙ ap (λ l. take (length l - 1) l ++ whole.end ∷ []) (sym whole.is) ∙ ap (λ z. take (length (y ∷ ys) - 1) (y ∷ ys) ++ z ∷ []) same

  -- induction from the end: a property of the empty list, which one more item keeps, is a property of each list
  pub from_the_end : (P : List X → Type 0) → P [] → ((xs : List X) (x : X) → P xs → P (xs ++ x ∷ [])) → (xs : List X) → P xs
  from_the_end P none more xs = go [] xs none
    where
      go : (xs ys : List X) → P xs → P (xs ++ ys)
      go xs [] p = subst P (sym (append-nil xs)) p
      go xs (y ∷ ys) p = subst P (append_assoc xs (y ∷ []) ys) (go (xs ++ y ∷ []) ys (more xs y p))
