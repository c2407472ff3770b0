-- Moves, node by node.
use Rattle.std.proofs.Common.{◌≡◌, ◌⊎◌, ◌<◌, ◌+◌, ◌+ℤ◌, ℕ, ℤ, pos, zero, suc, Bool, true, false, not, ◌&&◌, T, List, [], ◌∷◌, ◌++◌, Option, Some, None, is_some, neg_ℤ, int_le, length, take, drop, refl, cond, inl, inr, get_or, sym, ap, subst, ◌∙◌, arith, option_map, is_lt}
use Rattle.std.proofs.lemmas.List.{take_more, take-append-drop}
use Rattle.std.proofs.lemmas.List.Elements.{filter-append}
use Rattle.edit_simple.specs.Prelude.{list_all, is_sorted, below_all, latitude, longitude, value_within, Name, Element, Node, name_cmp, Rows, least, lesser, row_at, Pairs, first, second, first_true, second_true, bare_rows, Change, row_changes, rows_changes, AreChanges, Refusal, OutOfRange, Memory, moved_by, drop_at, one_fits, min_below, min_assoc}
use Rattle.osm_refs.specs.Facts.RisingNames.{IsRising-filter}
use Rattle.osm_refs.specs.Rising.{IsRising}
use Rattle.edit_simple.specs.Inner.Moving.{row_leaves, moved_row}
use Rattle.edit_simple.specs.Inner.Moves.{MayMove, leaving}

-- ---- the first of a rising list is the least

lesser_below : (x : Name) (ys : List Name) → T (below_all name_cmp x (bare_rows ys)) → lesser x (least ys) ≡ x
lesser_below x [] h = refl
lesser_below x (y ∷ ys) h = by (least ys) (lesser_below x ys (second (is_lt (name_cmp x y)) (below_all name_cmp x (bare_rows ys)) h))
  where
    less : T (is_lt (name_cmp x y))
    less = first (is_lt (name_cmp x y)) (below_all name_cmp x (bare_rows ys)) h

    by : (l : Option Name) → lesser x l ≡ x → lesser x (Some (lesser y l)) ≡ x
    by None i = min_below x y less
    by (Some z) i = min_assoc x y z ∙ ap (λ w. lesser w (Some z)) (min_below x y less) ∙ i

pub least_first : (x : Name) (ys : List Name) → IsRising (x ∷ ys) → least (x ∷ ys) ≡ Some x
least_first x ys h = ap Some (lesser_below x ys (first (below_all name_cmp x (bare_rows ys)) (is_sorted name_cmp (bare_rows ys)) h))

all_take : (p : Name → Bool) (xs : List Name) (i : ℕ) → list_all p xs ≡ true → list_all p (take i xs) ≡ true
all_take p xs zero h = refl
all_take p [] (suc i) h = refl
all_take p (y ∷ ys) (suc i) h = ap (λ b. b && list_all p (take i ys)) (first_true (p y) (list_all p ys) h) ∙ all_take p ys i (second_true (p y) (list_all p ys) h)

pub all_at : (p : Name → Bool) (xs : List Name) (i : ℕ) (x : Name) → list_all p xs ≡ true → i < length xs → x ≡ get_or xs i x → p x ≡ true
all_at p [] i x h l is = absurd (omega (arith, l))
all_at p (y ∷ ys) zero x h l is = ap p is ∙ first_true (p y) (list_all p ys) h
all_at p (y ∷ ys) (suc i) x h l is = all_at p ys i x (second_true (p y) (list_all p ys) h) (omega (arith, l)) is

module _ {A : Type 0} (m : Rows A) (dlat dlon : ℤ) where
  -- the changes of one more node
  module _ (xs : List Name) (i : ℕ) (x : Name) (l : i < length xs) (is : x ≡ get_or xs i x) where
    pub push_fits : (cs : List (Change A)) (o p : Option (Element A)) → MayMove m xs dlat dlon → cs ≡ rows_changes m (moved_row m dlat dlon) (take i xs) → o ≡ row_at m x → p ≡ moved_row m dlat dlon x
        → AreChanges (cs ++ row_changes x o p)
    push_fits cs o p h e f g =
        one_fits m (moved_row m dlat dlon) xs i x l is h.rising cs o p e f g

    pub none_more : leaving m dlat dlon (take i xs) ≡ [] → row_leaves dlat dlon (row_at m x) ≡ false → leaving m dlat dlon (take (i + 1) xs) ≡ []
    none_more none stays =
        ap (leaving m dlat dlon) (take_more xs i x l ∙ ap (λ y. take i xs ++ y ∷ []) (sym is)) ∙ filter-append (λ y. row_leaves dlat dlon (row_at m y)) (take i xs) (x ∷ [])
        ∙ (λ j. none j ++ cond (stays j) (x ∷ []) [])

    pub first_leaving : MayMove m xs dlat dlon → leaving m dlat dlon (take i xs) ≡ [] → row_leaves dlat dlon (row_at m x) ≡ true → least (leaving m dlat dlon xs) ≡ Some x
    first_leaving h none leaves = ap least split ∙ least_first x rest (subst IsRising split (IsRising-filter (λ y. row_leaves dlat dlon (row_at m y)) xs h.rising))
      where
        rest : List Name
        rest = leaving m dlat dlon (drop (i + 1) xs)

        split : leaving m dlat dlon xs ≡ x ∷ rest
        split =
            ap (leaving m dlat dlon) (sym (take-append-drop i xs) ∙ ap (λ r. take i xs ++ r) (drop_at xs i x l is))
            ∙ filter-append (λ y. row_leaves dlat dlon (row_at m y)) (take i xs) (x ∷ drop (i + 1) xs)
            ∙ (λ j. none j ++ cond (leaves j) (x ∷ rest) rest)

told_within : (limit : ℕ) (z new : ℤ) → Some new ≡ value_within limit z → new ≡ z
told_within limit z new e = by (int_le (neg_ℤ (pos limit)) z && int_le z (pos limit)) e
  where
    by : (b : Bool) → Some new ≡ cond b (Some z) None → new ≡ z
    by true f = cc
    by false f = absurd (cc)

module _ {A : Type 0} (m : Rows A) (dlat dlon : ℤ) where
  -- the element of a moved node
  pub node_moved : (x : Name) (v : Element A) (lat lon new_lat new_lon : ℤ) (tags copied : Pairs) (before : Element A) → Some v ≡ row_at m x → v ≡ Node lat lon tags
      → Some new_lat ≡ latitude (lat +ℤ dlat) → Some new_lon ≡ longitude (lon +ℤ dlon) → copied ≡ tags → before ≡ v
      → (row_leaves dlat dlon (row_at m x) ≡ false) × (Some before ≡ row_at m x) × (Some (Node new_lat new_lon copied) ≡ moved_row m dlat dlon x)
  node_moved x v lat lon new_lat new_lon tags copied before there is lat_is lon_is copy same = (
    ap (row_leaves dlat dlon) row ∙ (λ i. not (is_some (sym lat_is i) && is_some (sym lon_is i))),
    ap Some same ∙ there,
    moved,
  )
    where
      row : row_at m x ≡ Some (Node lat lon tags)
      row = sym there ∙ ap Some is

      moved : Some (Node new_lat new_lon copied) ≡ moved_row m dlat dlon x
      moved = (λ i. Some (Node (told_within 900000000 (lat +ℤ dlat) new_lat lat_is i) (told_within 1800000000 (lon +ℤ dlon) new_lon lon_is i) (copy i))) ∙ ap (option_map (moved_by dlat dlon)) (sym row)

  -- the refusal of one node is the refusal of the whole move
  pub leaving_told : (xs : List Name) (i : ℕ) (x : Name) → i < length xs → x ≡ get_or xs i x → MayMove m xs dlat dlon → leaving m dlat dlon (take i xs) ≡ [] → (r : Refusal A)
      → (((row_leaves dlat dlon (row_at m x) ≡ true) × (r ≡ OutOfRange x)) ⊎ (r ≡ Memory)) → ((y : Name) × (least (leaving m dlat dlon xs) ≡ Some y) × (r ≡ OutOfRange y)) ⊎ (r ≡ Memory)
  leaving_told xs i x l is may none r (inl h) = inl (x, first_leaving m dlat dlon xs i x l is may none h.0, h.1)
  leaving_told xs i x l is may none r (inr h) = inr h

-- a fact about two distances holds for equal distances
pub of_distances : (P : ℤ → ℤ → Type 0) (d e dlat dlon : ℤ) → d ≡ dlat → e ≡ dlon → P d e → P dlat dlon
of_distances P d e dlat dlon a b h = subst (λ z. P dlat z) b (subst (λ z. P z e) a h)
