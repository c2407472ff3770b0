-- Maps with the same differences.
use Rattle.std.proofs.Common.{sym, ap, ◌∙◌}
use Rattle.std.specs.Prelude.{◌≡◌, Bool, true, false, not, List, [], ◌∷◌, map, refl}
use Rattle.osm_changes.specs.Prelude.{Rows, has, IsRising, half_at, differing, change_at, differences, half_after, are_same_halves, same_rising, has-differing, IsRising-differing, half_after-differences, same_itself}
use Rattle.osm_changes.specs.declared.cell.Cell.{Cell}
use Rattle.edit_footprint.specs.Facts.CellSets.{has-own, has-more}

-- functions that agree at the cells of a list give the same list
map_same : {X : Type 0} (f g : Cell → X) (cells : List Cell) → ((c : Cell) → has cells c ≡ true → f c ≡ g c) → map f cells ≡ map g cells
map_same f g [] h = refl
map_same f g (c ∷ cs) h =
    let own = h c (has-own c cs) in
    let rest = map_same f g cs (λ d i. h d (has-more d c cs i)) in
    λ i. own i ∷ rest i

module _ {A : Type 0} where
  -- rising cells are the differing cells of two maps if they pass the same test
  differing_are : (m n : Rows A) (cells : List Cell) → IsRising cells → ((c : Cell) → has cells c ≡ not (are_same_halves (half_at m c) (half_at n c))) → cells ≡ differing m n
  differing_are m n cells up are = same_rising cells (differing m n) up (IsRising-differing m n) (λ c. are c ∙ sym (has-differing m n c))

  -- maps with the same half at a cell do not differ there
  alike_there : (m n : Rows A) (c : Cell) → half_at n c ≡ half_at m c → not (are_same_halves (half_at m c) (half_at n c)) ≡ false
  alike_there m n c p = ap (λ h. not (are_same_halves (half_at m c) h)) p ∙ ap not (same_itself (half_at m c))

  -- two pairs of maps have the same differences if they are equal at some cells, and neither pair differs elsewhere
  pub same_differences : (m m2 n n2 : Rows A) (reached : Cell → Bool)
      → ((c : Cell) → reached c ≡ true → (half_at n c ≡ half_at m c) × (half_at n2 c ≡ half_at m2 c))
      → ((c : Cell) → reached c ≡ false → half_at m2 c ≡ half_at m c)
      → ((c : Cell) → reached c ≡ false → half_at n2 c ≡ half_at n c)
      → differences n n2 ≡ differences m m2
  same_differences m m2 n n2 reached same kept kept_n =
      ap (map (change_at n n2)) (sym (differing_are n n2 (differing m m2) (IsRising-differing m m2) (λ c. has-differing m m2 c ∙ sym (test c (reached c) refl))))
      ∙ map_same (change_at n n2) (change_at m m2) (differing m m2) (λ c i. alike c (within c i (reached c) refl))
    where
      test : (c : Cell) (b : Bool) → reached c ≡ b → not (are_same_halves (half_at n c) (half_at n2 c)) ≡ not (are_same_halves (half_at m c) (half_at m2 c))
      test c true i = λ j. not (are_same_halves ((same c i).0 j) ((same c i).1 j))
      test c false i = alike_there n n2 c (kept_n c i) ∙ sym (alike_there m m2 c (kept c i))

      -- a cell at which the first pair differs is one of these
      within : (c : Cell) → has (differing m m2) c ≡ true → (b : Bool) → reached c ≡ b → reached c ≡ true
      within c i true e = e
      within c i false e = absurd (cc (sym i ∙ has-differing m m2 c ∙ alike_there m m2 c (kept c e)))

      alike : (c : Cell) → reached c ≡ true → change_at n n2 c ≡ change_at m m2 c
      alike c i = λ j. record { name = c.name; part = c.part; before = (same c i).0 j; after = (same c i).1 j }

  -- the same changes turn the same half into the same half
  pub same_after : (m m2 n n2 : Rows A) (c : Cell) → differences n n2 ≡ differences m m2 → half_at n c ≡ half_at m c → half_at n2 c ≡ half_at m2 c
  same_after m m2 n n2 c e p = sym (half_after-differences n n2 c) ∙ (λ i. half_after (e i) c (p i)) ∙ half_after-differences m m2 c
