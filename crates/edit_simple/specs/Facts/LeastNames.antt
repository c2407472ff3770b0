-- The least name of a list.
use Rattle.std.proofs.Common.{sym, ap, ◌∙◌, append-nil}
use Rattle.std.specs.Prelude.{◌≡◌, ◌<◌, ◌+◌, ℕ, length, take, Bool, true, false, List, [], ◌∷◌, ◌++◌, Option, Some, None, refl, cond, map, get_or, filter}
use Rattle.std.proofs.lemmas.List.{take_more, map-append}
use Rattle.std.proofs.lemmas.List.Elements.{filter-append}
use Rattle.room_interface.specs.Prelude.{ord_min, is_lt, ordering_reverse, Ordering, Less, Equal, Greater, name_cmp, name_cmp_total, name_cmp-IsAntisymmetric, lesser, least}
use Rattle.osm_elements.specs.declared.name.Name.{Name}
use Rattle.edit_simple.specs.Inner.Least.{lesser_of}

less : (r : Ordering) → is_lt r ≡ true → r ≡ Less
less Less e = refl
less Equal e = absurd (cc)
less Greater e = absurd (cc)

-- if x is not less than o, and o is not less than y, then x is not less than y
below_both : (x y o : Name) → is_lt (name_cmp x o) ≡ false → is_lt (name_cmp o y) ≡ false → is_lt (name_cmp x y) ≡ false
below_both x y o p q = by (is_lt (name_cmp x y)) refl
  where
    down : (r : Ordering) → name_cmp o y ≡ r → name_cmp x y ≡ Less → name_cmp x o ≡ Less
    down Less e h = absurd (cc (ap is_lt e))
    down Equal e h = ap (name_cmp x) (name_cmp-IsAntisymmetric o y e) ∙ h
    down Greater e h = name_cmp_total.trans x y o h (name_cmp_total.antisymm y o ∙ ap ordering_reverse e)

    by : (b : Bool) → is_lt (name_cmp x y) ≡ b → b ≡ false
    by true e = absurd (cc (ap is_lt (down (name_cmp o y) refl (less (name_cmp x y) e))))
    by false e = refl

pub min_assoc : (y o x : Name) → ord_min name_cmp y (ord_min name_cmp o x) ≡ ord_min name_cmp (ord_min name_cmp y o) x
min_assoc y o x = by (is_lt (name_cmp x o)) refl (is_lt (name_cmp o y)) refl
  where
    by : (a : Bool) → is_lt (name_cmp x o) ≡ a → (b : Bool) → is_lt (name_cmp o y) ≡ b
        → cond (is_lt (name_cmp (cond a x o) y)) (cond a x o) y ≡ cond (is_lt (name_cmp x (cond b o y))) x (cond b o y)
    by true p true q =
        let xy : is_lt (name_cmp x y) ≡ true = ap is_lt (name_cmp_total.trans x o y (less (name_cmp x o) p) (less (name_cmp o y) q)) in
        rw (xy, p) refl
    by true p false q = refl
    by false p true q = rw (q, p) refl
    by false p false q = rw (q, below_both x y o p q) refl

lesser_last : (y x : Name) (o : Option Name) → lesser y (Some (lesser_of o x)) ≡ lesser_of (Some (lesser y o)) x
lesser_last y x None = refl
lesser_last y x (Some o) = min_assoc y o x

pub least-append : (xs : List Name) (x : Name) → least (xs ++ x ∷ []) ≡ Some (lesser_of (least xs) x)
least-append [] x = refl
least-append (y ∷ xs) x = ap (λ o. Some (lesser y o)) (least-append xs x) ∙ ap Some (lesser_last y x (least xs))

module _ (p : Name → Bool) (names : List Name) (i : ℕ) (x : Name) (h : i < length names) (is : x ≡ get_or names i x) where
  pub filter_more : filter p (take (i + 1) names) ≡ filter p (take i names) ++ cond (p x) (x ∷ []) []
  filter_more = ap (filter p) (take_more names i x h ∙ ap (λ y. take i names ++ y ∷ []) (sym is)) ∙ filter-append p (take i names) (x ∷ [])

  -- the least of the names that pass, if the next name passes
  pub least_taken : (old : Option Name) → old ≡ least (filter p (take i names)) → true ≡ p x → Some (lesser_of old x) ≡ least (filter p (take (i + 1) names))
  least_taken old e t =
      ap (λ o. Some (lesser_of o x)) e ∙ sym (least-append (filter p (take i names)) x)
      ∙ ap (λ b. least (filter p (take i names) ++ cond b (x ∷ []) [])) t ∙ ap least (sym filter_more)

  -- the least of the names that pass, if the next name does not pass
  pub least_passed : (old : Option Name) → old ≡ least (filter p (take i names)) → false ≡ p x → old ≡ least (filter p (take (i + 1) names))
  least_passed old e t =
      e ∙ ap least (sym (append-nil (filter p (take i names)))) ∙ ap (λ b. least (filter p (take i names) ++ cond b (x ∷ []) [])) t ∙ ap least (sym filter_more)

-- the same for names that are parts of items
module _ {X : Type 0} (f : X → Name) (p : Name → Bool) (xs : List X) (i : ℕ) (x : X) (h : i < length xs) (is : x ≡ get_or xs i x) where
  mapped_more : map f (take (i + 1) xs) ≡ map f (take i xs) ++ f x ∷ []
  mapped_more = ap (map f) (take_more xs i x h ∙ ap (λ y. take i xs ++ y ∷ []) (sym is)) ∙ map-append f (take i xs) (x ∷ [])

  passing_more : filter p (map f (take (i + 1) xs)) ≡ filter p (map f (take i xs)) ++ cond (p (f x)) (f x ∷ []) []
  passing_more = ap (filter p) mapped_more ∙ filter-append p (map f (take i xs)) (f x ∷ [])

  pub least_taken_by : (old : Option Name) → old ≡ least (filter p (map f (take i xs))) → true ≡ p (f x) → Some (lesser_of old (f x)) ≡ least (filter p (map f (take (i + 1) xs)))
  least_taken_by old e t =
      ap (λ o. Some (lesser_of o (f x))) e ∙ sym (least-append (filter p (map f (take i xs))) (f x))
      ∙ ap (λ b. least (filter p (map f (take i xs)) ++ cond b (f x ∷ []) [])) t ∙ ap least (sym passing_more)

  pub least_passed_by : (old : Option Name) → old ≡ least (filter p (map f (take i xs))) → false ≡ p (f x) → old ≡ least (filter p (map f (take (i + 1) xs)))
  least_passed_by old e t =
      e ∙ ap least (sym (append-nil (filter p (map f (take i xs))))) ∙ ap (λ b. least (filter p (map f (take i xs)) ++ cond b (f x ∷ []) [])) t ∙ ap least (sym passing_more)
