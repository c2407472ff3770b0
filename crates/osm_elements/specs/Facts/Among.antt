-- Names that a list contains.
use Rattle.std.proofs.Common.{sym, ap, ◌∙◌}
use Rattle.std.specs.Prelude.{◌≡◌, ◌||◌, Bool, true, false, List, [], ◌∷◌, ◌++◌, Some, is_some, refl, cond, filter, fold}
use Rattle.std.specs.Ordering.{match_ordering}
use Rattle.std.specs.declared.cmp.Ordering.{Ordering}
use Rattle.std.specs.declared.cmp.Ordering.TheVariants.{Less, Equal, Greater}
use Rattle.osm_elements.specs.declared.name.Name.{Name}
use Rattle.osm_elements.specs.NameOrder.{name_cmp}
use Rattle.osm_elements.specs.Facts.Names.{name_cmp-IsAntisymmetric}
use Rattle.osm_elements.specs.Facts.Rows.{same_names}
use Rattle.osm_elements.specs.Rows.{row_at}
use Rattle.osm_elements.specs.Maps.{Rows, is_same, is_among, with_name, name_set, names_of, is_present}

or_twice : (a b : Bool) → (a || b) ≡ (a || (a || b))
or_twice true b = refl
or_twice false b = refl

or_swap : (a b c : Bool) → (a || (b || c)) ≡ (b || (a || c))
or_swap true true c = refl
or_swap true false c = refl
or_swap false b c = refl

or_false : (a : Bool) → (a || false) ≡ a
or_false true = refl
or_false false = refl

or_assoc : (a b c : Bool) → ((a || b) || c) ≡ (a || (b || c))
or_assoc true b c = refl
or_assoc false b c = refl

is_among-with_name : (x y : Name) (set : List Name) → is_among (with_name y set) x ≡ (is_same x y || is_among set x)
is_among-with_name x y [] = refl
is_among-with_name x y (z ∷ zs) = by (name_cmp y z) refl (is_among-with_name x y zs)
  where
    by : (o : Ordering) → name_cmp y z ≡ o → is_among (with_name y zs) x ≡ (is_same x y || is_among zs x)
        → is_among (match_ordering o (y ∷ z ∷ zs) (z ∷ zs) (z ∷ with_name y zs)) x ≡ (is_same x y || (is_same x z || is_among zs x))
    by Less e i = refl
    by Equal e i = or_twice (is_same x z) (is_among zs x) ∙ ap (λ w. is_same x w || (is_same x z || is_among zs x)) (sym (name_cmp-IsAntisymmetric y z e))
    by Greater e i = ap (λ b. is_same x z || b) i ∙ or_swap (is_same x z) (is_same x y) (is_among zs x)

is_among-fold : (x : Name) (set names : List Name) → is_among (fold (λ s y. with_name y s) set names) x ≡ (is_among set x || is_among names x)
is_among-fold x set [] = sym (or_false (is_among set x))
is_among-fold x set (y ∷ ys) =
    is_among-fold x (with_name y set) ys ∙ ap (λ b. b || is_among ys x) (is_among-with_name x y set)
    ∙ or_assoc (is_same x y) (is_among set x) (is_among ys x) ∙ or_swap (is_same x y) (is_among set x) (is_among ys x)

pub is_among-name_set : (x : Name) (names : List Name) → is_among (name_set names) x ≡ is_among names x
is_among-name_set x names = is_among-fold x [] names

pub is_among-append : (x : Name) (xs ys : List Name) → is_among (xs ++ ys) x ≡ (is_among xs x || is_among ys x)
is_among-append x [] ys = refl
is_among-append x (y ∷ xs) ys = ap (λ b. is_same x y || b) (is_among-append x xs ys) ∙ sym (or_assoc (is_same x y) (is_among xs x) (is_among ys x))

-- a filter keeps each name that passes
pub is_among-filter : (q : Name → Bool) (x : Name) → q x ≡ true → (names : List Name) → is_among (filter q names) x ≡ is_among names x
is_among-filter q x t [] = refl
is_among-filter q x t (y ∷ ys) = by (q y) refl (is_same x y) refl (is_among-filter q x t ys)
  where
    by : (b : Bool) → q y ≡ b → (s : Bool) → is_same x y ≡ s → is_among (filter q ys) x ≡ is_among ys x → is_among (cond b (y ∷ filter q ys) (filter q ys)) x ≡ (s || is_among ys x)
    by true e s f i = ap (λ b. b || is_among (filter q ys) x) f ∙ ap (λ b. s || b) i
    by false e true f i = absurd (cc (ap q (same_names x y f)))
    by false e false f i = i

module _ {A : Type 0} where
  pub is_among-names_of : (m : Rows A) (x : Name) → is_among (names_of m) x ≡ is_present m x
  is_among-names_of [] x = refl
  is_among-names_of (e ∷ es) x = by (is_same x e.0) (is_among-names_of es x)
    where
      by : (b : Bool) → is_among (names_of es) x ≡ is_present es x → (b || is_among (names_of es) x) ≡ is_some (cond b (Some e.1) (row_at es x))
      by true i = refl
      by false i = i
