-- Rising names have no repetitions.
use Rattle.std.proofs.Common.{◌≡◌, ◌||◌, false, T, List, [], ◌∷◌, ◌++◌, map, refl, sym, ap, ◌∙◌, is_lt, is_eq, Ordering, Less, Equal, Greater}
use Rattle.room_mirror.specs.Prelude.{below_all, Name, name_cmp, is_same, is_among, are_rising, same_either_way, first, second}

-- names, each with nothing
abbrev bare : List Name → List (Name × Unit {0})
bare names = map (λ x. (x, tt)) names

below_is_other : (o : Ordering) → T (is_lt o) → is_eq o ≡ false
below_is_other Less h = refl
below_is_other Equal h = absurd h
below_is_other Greater h = absurd h

-- a name of rising names is not among those in front of it
pub earlier : (done : List Name) (x : Name) (rest : List Name) → T (are_rising (done ++ x ∷ rest)) → is_among done x ≡ false
earlier [] x rest h = refl
earlier (y ∷ ys) x rest h = ap (λ b. b || is_among ys x) (sym (same_either_way y x) ∙ apart ys (first _ _ h)) ∙ earlier ys x rest (second _ _ h)
  where
    apart : (zs : List Name) → T (below_all name_cmp y (bare (zs ++ x ∷ rest))) → is_same y x ≡ false
    apart [] t = below_is_other (name_cmp y x) (first _ _ t)
    apart (z ∷ zs) t = apart zs (second _ _ t)
