-- The order of cells, and lists of cells that rise, each once. The cells in such a list determine it.
use Rattle.std.proofs.Common.{sym, ap, subst, ◌∙◌}
use Rattle.std.specs.Prelude.{◌≡◌, ◌||◌, ◌&&◌, Bool, true, false, T, List, [], ◌∷◌, ◌++◌, refl, filter, fold}
use Rattle.std.proofs.lemmas.Cmp.{on_total, then_total, nat_cmp_total}
use Rattle.std.proofs.lemmas.List.Folds.{list_any-append}
use Rattle.osm_refs.specs.Prelude.{IsTotalOrder, tied_itself, IsAntisymmetric, nat_cmp-IsAntisymmetric, below_all, is_eq, is_lt, nat_cmp, ordering_then, Ordering, Less, Equal, Greater, name_cmp, is_same, is_among, name_cmp_total, name_cmp-IsAntisymmetric, same, bare_rows, with_value}
use Rattle.osm_elements.specs.declared.name.Name.{Name}
use Rattle.rising_lists.specs.Facts.Sorted.{both, first, second}
use Rattle.osm_changes.specs.declared.part.Part.{Part}
use Rattle.osm_changes.specs.declared.part.Part.TheVariants.{Tags, Rest}
use Rattle.osm_changes.specs.Cells.{Cell, tags_at, rest_at, cells_of, part_rank, cell_cmp, is_same_cell, has, cell_set, IsRising}
use Rattle.osm_refs.specs.Rising as names
use Rattle.rising_lists.specs.Facts.Rising as rising

pub cell_cmp_total : IsTotalOrder cell_cmp
cell_cmp_total = then_total (on_total (λ (c : Cell). c.name) name_cmp_total)
    (on_total (λ (c : Cell). part_rank c.part) nat_cmp_total)

equal_rank : (p q : Part) → part_rank p ≡ part_rank q → p ≡ q
equal_rank Tags Tags e = refl
equal_rank Tags Rest e = absurd (cc)
equal_rank Rest Tags e = absurd (cc)
equal_rank Rest Rest e = refl

then_equal : (o p : Ordering) → ordering_then o p ≡ Equal → (o ≡ Equal) × (p ≡ Equal)
then_equal Less p e = absurd (cc)
then_equal Equal p e = (refl, e)
then_equal Greater p e = absurd (cc)

pub cell_cmp-IsAntisymmetric : IsAntisymmetric cell_cmp
cell_cmp-IsAntisymmetric c d e =
    let both = then_equal (name_cmp c.name d.name) (nat_cmp (part_rank c.part) (part_rank d.part)) e in
    let names = name_cmp-IsAntisymmetric c.name d.name both.0 in
    let parts = equal_rank c.part d.part (nat_cmp-IsAntisymmetric (part_rank c.part) (part_rank d.part) both.1) in
    λ i. record { name = names i; part = parts i }

pub same_cells : (c d : Cell) → is_same_cell c d ≡ true → c ≡ d
same_cells c d e = cell_cmp-IsAntisymmetric c d (same (cell_cmp c d) e)

pub is_same_cell-itself : (c : Cell) → is_same_cell c c ≡ true
is_same_cell-itself c = ap is_eq (tied_itself cell_cmp_total c)

pub same_either_way : (c d : Cell) → is_same_cell c d ≡ is_same_cell d c
same_either_way c d = by (is_same_cell c d) refl (is_same_cell d c) refl
  where
    by : (a : Bool) → is_same_cell c d ≡ a → (b : Bool) → is_same_cell d c ≡ b → a ≡ b
    by true e true f = refl
    by true e false f = sym (is_same_cell-itself d) ∙ ap (λ z. is_same_cell d z) (sym (same_cells c d e)) ∙ f
    by false e true f = sym e ∙ ap (λ z. is_same_cell c z) (same_cells d c f) ∙ is_same_cell-itself c
    by false e false f = refl

-- ---- cells are the same if and only if both their names and their parts are

tied : (o p : Ordering) → is_eq p ≡ true → is_eq (ordering_then o p) ≡ is_eq o
tied Less p e = refl
tied Equal p e = e
tied Greater p e = refl

parted : (o p : Ordering) → is_eq p ≡ false → is_eq (ordering_then o p) ≡ false
parted Less p e = refl
parted Equal p e = e
parted Greater p e = refl

pub tags_tags : (x y : Name) → is_same_cell (tags_at x) (tags_at y) ≡ is_same x y
tags_tags x y = tied (name_cmp x y) Equal refl

pub rest_rest : (x y : Name) → is_same_cell (rest_at x) (rest_at y) ≡ is_same x y
rest_rest x y = tied (name_cmp x y) Equal refl

pub tags_rest : (x y : Name) → is_same_cell (tags_at x) (rest_at y) ≡ false
tags_rest x y = parted (name_cmp x y) Less refl

pub rest_tags : (x y : Name) → is_same_cell (rest_at x) (tags_at y) ≡ false
rest_tags x y = parted (name_cmp x y) Greater refl

pub other_cell : (x y : Name) (p q : Part) → is_same x y ≡ false
    → is_same_cell (record { name = x; part = p }) (record { name = y; part = q }) ≡ false
other_cell x y p q = by (name_cmp x y)
  where
    by : (o : Ordering) → is_eq o ≡ false → is_eq (ordering_then o (nat_cmp (part_rank p) (part_rank q))) ≡ false
    by Less e = refl
    by Equal e = absurd (cc)
    by Greater e = refl

-- cells of a lesser name are less, and the tags of a name are less than its rest
pub lesser_cell : (x y : Name) (p q : Part) → T (is_lt (name_cmp x y))
    → T (is_lt (cell_cmp (record { name = x; part = p }) (record { name = y; part = q })))
lesser_cell x y p q = by (name_cmp x y)
  where
    by : (o : Ordering) → T (is_lt o) → T (is_lt (ordering_then o (nat_cmp (part_rank p) (part_rank q))))
    by Less h = tt
    by Equal h = absurd h
    by Greater h = absurd h

pub tags_first : (x : Name) → T (is_lt (cell_cmp (tags_at x) (rest_at x)))
tags_first x = subst (λ o. T (is_lt (ordering_then o Less))) (sym (tied_itself name_cmp_total x)) tt

-- ---- the cells in a list

pub has-append : (x : Cell) (xs ys : List Cell) → has (xs ++ ys) x ≡ (has xs x || has ys x)
has-append x xs ys = list_any-append (λ y. is_same_cell x y) xs ys

-- the cells that a filter keeps
pub has-passing : (p : Cell → Bool) (cells : List Cell) (q : Cell) → has (filter p cells) q ≡ (p q && has cells q)
has-passing p cells q = rising.is_among-passing cell_cmp p cells q (λ y e. ap p (sym (cell_cmp-IsAntisymmetric q y e)))

pub IsRising-filter : (p : Cell → Bool) (cells : List Cell) → IsRising cells → IsRising (filter p cells)
IsRising-filter = rising.IsRising-filter cell_cmp

-- rising lists with the same cells are equal
pub same_rising : (xs ys : List Cell) → IsRising xs → IsRising ys → ((q : Cell) → has xs q ≡ has ys q) → xs ≡ ys
same_rising = rising.same_rising cell_cmp cell_cmp_total cell_cmp-IsAntisymmetric

or_false : (b : Bool) → (b || false) ≡ b
or_false true = refl
or_false false = refl

swapped : (a b c : Bool) → ((a || b) || c) ≡ (b || (a || c))
swapped true true c = refl
swapped true false c = refl
swapped false b c = refl

has-fold : (x : Cell) (set cells : List Cell)
    → has (fold (λ s y. with_value cell_cmp y s) set cells) x ≡ (has set x || has cells x)
has-fold x set [] = sym (or_false (has set x))
has-fold x set (y ∷ ys) =
    has-fold x (with_value cell_cmp y set) ys
    ∙ ap (λ b. b || has ys x) (rising.is_among-with_value cell_cmp cell_cmp_total y set x)
    ∙ swapped (is_same_cell x y) (has set x) (has ys x)

pub has-cell_set : (x : Cell) (cells : List Cell) → has (cell_set cells) x ≡ has cells x
has-cell_set x cells = has-fold x [] cells

IsRising-fold : (set cells : List Cell) → IsRising set → IsRising (fold (λ s y. with_value cell_cmp y s) set cells)
IsRising-fold set [] h = h
IsRising-fold set (y ∷ ys) h = IsRising-fold (with_value cell_cmp y set) ys
    (rising.IsRising-with_value cell_cmp cell_cmp_total y set h)

pub IsRising-cell_set : (cells : List Cell) → IsRising (cell_set cells)
IsRising-cell_set cells = IsRising-fold [] cells tt

-- a rising list with the cells of a second list is the set of that list
pub same_as_cell_set : (xs cells : List Cell) → IsRising xs → ((q : Cell) → has xs q ≡ has cells q)
    → xs ≡ cell_set cells
same_as_cell_set xs cells h is = same_rising xs (cell_set cells) h (IsRising-cell_set cells)
    (λ q. is q ∙ sym (has-cell_set q cells))

-- ---- both cells of each given name

pub has-cells_of : (xs : List Name) (c : Cell) → has (cells_of xs) c ≡ is_among xs c.name
has-cells_of [] c = refl
has-cells_of (x ∷ xs) c = ap (λ b. is_same_cell c (tags_at x) || (is_same_cell c (rest_at x) || b))
    (has-cells_of xs c) ∙ by c.part (is_among xs c.name)
  where
    by : (p : Part) (b : Bool) → (is_same_cell (record { name = c.name; part = p }) (tags_at x) ||
        (is_same_cell (record { name = c.name; part = p }) (rest_at x) || b)) ≡ (is_same c.name x || b)
    by Tags b = (λ i. tags_tags c.name x i || (tags_rest c.name x i || b))
    by Rest b = (λ i. rest_tags c.name x i || (rest_rest c.name x i || b))

below_cells : (x : Name) (p : Part) (xs : List Name) → T (below_all name_cmp x (bare_rows xs))
    → T (below_all cell_cmp (record { name = x; part = p }) (bare_rows (cells_of xs)))
below_cells x p [] h = tt
below_cells x p (y ∷ ys) h = let low = first _ _ h in both _ _ (lesser_cell x y p Tags low)
    (both _ _ (lesser_cell x y p Rest low) (below_cells x p ys (second _ _ h)))

pub IsRising-cells_of : (xs : List Name) → names.IsRising xs → IsRising (cells_of xs)
IsRising-cells_of [] h = tt
IsRising-cells_of (x ∷ xs) h =
    let low = first _ _ h in
    both _ _ (both _ _ (tags_first x) (below_cells x Tags xs low))
    (both _ _ (below_cells x Rest xs low) (IsRising-cells_of xs (second _ _ h)))
