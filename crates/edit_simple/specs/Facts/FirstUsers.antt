-- The least user of a name is the first that a search of the rows finds.
use Rattle.std.proofs.Common.{sym, ap, ◌∙◌}
use Rattle.std.specs.Prelude.{◌≡◌, Bool, true, false, T, [], ◌∷◌, Option, Some, None, refl, cond, slice_get, filter}
use Rattle.room_interface.specs.Prelude.{ord_min, is_lt, ordering_reverse, is_sorted, below_all, Ordering, Less, Equal, Greater, name_cmp, name_cmp_total, AreInOrder, first, second, Rows, lesser, least, names_of}
use Rattle.osm_elements.specs.declared.name.Name.{Name}
use Rattle.osm_elements.specs.declared.element.Element.{Element}
use Rattle.edit_simple.specs.Facts.LeastNames.{min_assoc}

less : (r : Ordering) → T (is_lt r) → r ≡ Less
less Less t = refl
less Equal t = absurd t
less Greater t = absurd t

pub min_below : (x y : Name) → T (is_lt (name_cmp x y)) → ord_min name_cmp x y ≡ x
min_below x y t = ap (λ r. cond (is_lt r) y x) (name_cmp_total.antisymm y x ∙ ap ordering_reverse (less (name_cmp x y) t))

module _ {A : Type 0} where
  module _ (p : Name × Element A → Bool) where
    -- a name below all rows is less than all names of rows that pass
    below_passing : (x : Name) (es : Rows A) → T (below_all name_cmp x es) → lesser x (least (names_of (filter p es))) ≡ x
    below_passing x [] h = refl
    below_passing x (e ∷ es) h = by (p e) (below_passing x es (second (is_lt (name_cmp x e.0)) (below_all name_cmp x es) h))
      where
        least_of : (l : Option Name) → lesser x l ≡ x → lesser x (Some (lesser e.0 l)) ≡ x
        least_of None i = min_below x e.0 (first (is_lt (name_cmp x e.0)) (below_all name_cmp x es) h)
        least_of (Some y) i = min_assoc x e.0 y ∙ ap (λ z. ord_min name_cmp z y) (min_below x e.0 (first (is_lt (name_cmp x e.0)) (below_all name_cmp x es) h)) ∙ i

        by : (b : Bool) → lesser x (least (names_of (filter p es))) ≡ x → lesser x (least (names_of (cond b (e ∷ filter p es) (filter p es)))) ≡ x
        by true i = least_of (least (names_of (filter p es))) i
        by false i = i

    -- in rising rows, the first that passes is the least
    pub first_is_least : (es : Rows A) → AreInOrder es → slice_get (names_of (filter p es)) 0 ≡ least (names_of (filter p es))
    first_is_least [] h = refl
    first_is_least (e ∷ es) h = by (p e) (first_is_least es (second (below_all name_cmp e.0 es) (is_sorted name_cmp es) h))
      where
        by : (b : Bool) → slice_get (names_of (filter p es)) 0 ≡ least (names_of (filter p es)) → slice_get (names_of (cond b (e ∷ filter p es) (filter p es))) 0 ≡ least (names_of (cond b (e ∷ filter p es) (filter p es)))
        by true i = ap Some (sym (below_passing e.0 es (first (below_all name_cmp e.0 es) (is_sorted name_cmp es) h)))
        by false i = i
