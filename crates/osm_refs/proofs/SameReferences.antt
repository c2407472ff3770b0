-- References that stay the same.
use Rattle.std.proofs.Common.{◌≡◌, ◌&&◌, Bool, true, false, List, [], ◌∷◌, not, refl, ap, ◌∙◌}
use Rattle.osm_refs.specs.Prelude.{pointwise, same_names, is_among, is_same, Name, IsRising-filter, is_among-passing, same_rising, IsRising, names_but}

both : (a b : Bool) → (a && b) ≡ true → (a ≡ true) × (b ≡ true)
both true b e = (refl, e)
both false b e = absurd (cc)

pub same_lists : (xs ys : List Name) → pointwise is_same xs ys ≡ true → xs ≡ ys
same_lists [] [] e = refl
same_lists [] (y ∷ ys) e = absurd (cc)
same_lists (x ∷ xs) [] e = absurd (cc)
same_lists (x ∷ xs) (y ∷ ys) e =
    let parts = both (is_same x y) (pointwise is_same xs ys) e in
    ap (λ z. z ∷ xs) (same_names x y parts.0) ∙ ap (λ zs. y ∷ zs) (same_lists xs ys parts.1)

-- a list without its own names is empty
pub none_but_itself : (names : List Name) → IsRising names → names_but names names ≡ []
none_but_itself names rises = same_rising (names_but names names) [] (IsRising-filter (λ e. not (is_among names e)) names rises) tt (λ q. is_among-passing (λ e. not (is_among names e)) names q ∙ by (is_among names q))
  where
    by : (b : Bool) → (not b && b) ≡ false
    by true = refl
    by false = refl
