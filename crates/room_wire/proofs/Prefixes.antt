-- Facts about a prefix of a list and its next item.
use Rattle.std.proofs.Common.{◌≡◌, ◌<◌, ◌+◌, ◌++◌, ℕ, zero, suc, List, [], ◌∷◌, length, get_or, take, map, All, sym, ap, ap₂, subst, ◌∙◌, arith}
use Rattle.std.proofs.lemmas.List.{map-append, take_more}
use Rattle.std.proofs.lemmas.List.Elements.{All-append}

one : {X : Type 0} (P : X → Type 0) (x : X) → P x → All P (x ∷ [])
one P x h zero d l = h
one P x h (suc i) d l = absurd (omega (arith, l))

pub one_more : {X : Type 0} (P : X → Type 0) (xs : List X) (i : ℕ) (x : X) → i < length xs → x ≡ get_or xs i x → P x → All P (take i xs) → All P (take (i + 1) xs)
one_more P xs i x h is next before =
    let longer : take (i + 1) xs ≡ take i xs ++ x ∷ [] = take_more xs i x h ∙ ap (λ y. take i xs ++ y ∷ []) (sym is) in
    subst (All P) (sym longer) (All-append P (take i xs) (x ∷ []) before (one P x next))

-- a loop over a list that appends one value for each item
pub one_made : {X Y Z : Type 0} (f : X → Z) (g : Y → Z) (xs : List X) (i : ℕ) (x : X) (old new : List Y) (y : Y) → i < length xs → x ≡ get_or xs i x
    → new ≡ old ++ y ∷ [] → map g old ≡ map f (take i xs) → g y ≡ f x → map g new ≡ map f (take (i + 1) xs)
one_made f g xs i x old new y h is pushed before made =
    let longer : take (i + 1) xs ≡ take i xs ++ x ∷ [] = take_more xs i x h ∙ ap (λ z. take i xs ++ z ∷ []) (sym is) in
    ap (map g) pushed ∙ map-append g old (y ∷ []) ∙ ap₂ (λ a b. a ++ b ∷ []) before made ∙ sym (ap (map f) longer ∙ map-append f (take i xs) (x ∷ []))
