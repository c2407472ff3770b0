-- The names of the rows that pass a test.
use Rattle.std.proofs.Common.{sym, ap, ◌∙◌}
use Rattle.std.specs.Prelude.{◌≡◌, ◌||◌, Bool, true, false, T, [], ◌∷◌, Option, Some, None, refl, cond, filter}
use Rattle.osm_refs.specs.Prelude.{is_lt, is_sorted, below_all, Rows, is_same, is_among, names_of, name_cmp, AreInOrder, row_at, both, first, second, find_below, same_names, row_at_is_find, IsRising, bare_rows}
use Rattle.osm_elements.specs.declared.name.Name.{Name}
use Rattle.osm_elements.specs.declared.element.Element.{Element}

module _ {A : Type 0} where
  -- the row is there and passes
  abbrev pub passes_at : (Name × Element A → Bool) → Name → Option (Element A) → Bool
  passes_at p y None = false
  passes_at p y (Some v) = p (y, v)

  below_names : (p : Name × Element A → Bool) (x : Name) (es : Rows A) → T (below_all name_cmp x es) → T (below_all name_cmp x (bare_rows (names_of (filter p es))))
  below_names p x [] h = tt
  below_names p x (e ∷ es) h = by (p e) (below_names p x es (second (is_lt (name_cmp x e.0)) (below_all name_cmp x es) h))
    where
      by : (b : Bool) → T (below_all name_cmp x (bare_rows (names_of (filter p es)))) → T (below_all name_cmp x (bare_rows (names_of (cond b (e ∷ filter p es) (filter p es)))))
      by true i = both (is_lt (name_cmp x e.0)) (below_all name_cmp x (bare_rows (names_of (filter p es)))) (first (is_lt (name_cmp x e.0)) (below_all name_cmp x es) h) i
      by false i = i

  -- the names of the rows that pass rise
  pub rising_names : (p : Name × Element A → Bool) (es : Rows A) → AreInOrder es → IsRising (names_of (filter p es))
  rising_names p [] h = tt
  rising_names p (e ∷ es) h = by (p e) (rising_names p es (second (below_all name_cmp e.0 es) (is_sorted name_cmp es) h))
    where
      by : (b : Bool) → IsRising (names_of (filter p es)) → IsRising (names_of (cond b (e ∷ filter p es) (filter p es)))
      by true i = both (below_all name_cmp e.0 (bare_rows (names_of (filter p es)))) (is_sorted name_cmp (bare_rows (names_of (filter p es)))) (below_names p e.0 es (first (below_all name_cmp e.0 es) (is_sorted name_cmp es) h)) i
      by false i = i

  -- a name is among those of the rows that pass if and only if its row is there and passes
  pub among_rows : (p : Name × Element A → Bool) (es : Rows A) → AreInOrder es → (y : Name) → is_among (names_of (filter p es)) y ≡ passes_at p y (row_at es y)
  among_rows p [] h y = refl
  among_rows p (e ∷ es) h y = by (is_same y e.0) refl (p e) refl (among_rows p es (second (below_all name_cmp e.0 es) (is_sorted name_cmp es) h) y)
    where
      none : is_same y e.0 ≡ true → passes_at p y (row_at es y) ≡ false
      none s = ap (passes_at p y) (ap (row_at es) (same_names y e.0 s) ∙ row_at_is_find es e.0 ∙ find_below name_cmp e.0 es (first (below_all name_cmp e.0 es) (is_sorted name_cmp es) h))

      by : (s : Bool) → is_same y e.0 ≡ s → (b : Bool) → p e ≡ b → is_among (names_of (filter p es)) y ≡ passes_at p y (row_at es y)
          → is_among (names_of (cond b (e ∷ filter p es) (filter p es))) y ≡ passes_at p y (cond s (Some e.1) (row_at es y))
      by true f true g i = ap (λ b. b || is_among (names_of (filter p es)) y) f ∙ sym g ∙ ap (λ z. p (z, e.1)) (sym (same_names y e.0 f))
      by true f false g i = i ∙ none f ∙ sym g ∙ ap (λ z. p (z, e.1)) (sym (same_names y e.0 f))
      by false f true g i = ap (λ b. b || is_among (names_of (filter p es)) y) f ∙ i
      by false f false g i = i
