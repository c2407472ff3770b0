-- The meaning of a meeting of two footprints.
use Rattle.std.proofs.Common.{sym, ap, ◌∙◌}
use Rattle.std.specs.Prelude.{◌≡◌, ◌||◌, Bool, true, false, T, List, [], ◌∷◌, Option, Some, None, refl, cond, find, option_map}
use Rattle.osm_changes.specs.Prelude.{is_lt, ordering_then, ordering_reverse, nat_cmp, tied_itself, below_all, Ordering, Less, Equal, Greater, name_cmp, first, second, name_cmp_total, name_cmp-IsAntisymmetric, bare_rows}
use Rattle.osm_elements.specs.declared.name.Name.{Name}
use Rattle.edit_footprint.specs.Touches.{Touch, rivals, access_rank, touch_cmp, is_same_touch, does, IsFootprint}
use Rattle.edit_footprint.specs.Footprints.{meets, Shares}
use Rattle.edit_footprint.specs.Facts.Rivals.{clash, any_from, any_gives, rival_name, rival_either_way}
use Rattle.edit_footprint.specs.Facts.Touches.{same_touches, does-own, does-more}

-- if two footprints do not meet, no touch of one conflicts with one of the other
pub apart : (one two : List Touch) → meets one two ≡ None → (t u : Touch) → does one t ≡ true → does (rivals t) u ≡ true → does two u ≡ true → ⊥
apart [] two none t u i r k = absurd (cc)
apart (x ∷ xs) two none t u i r k = by (clash two x) refl none (is_same_touch t x) refl i (λ n h. apart xs two n t u h r k)
  where
    by : (b : Bool) → clash two x ≡ b → option_map (λ (z : Touch). z.name) (cond b (Some x) (find (clash two) xs)) ≡ None → (s : Bool) → is_same_touch t x ≡ s → (s || does xs t) ≡ true
        → (meets xs two ≡ None → does xs t ≡ true → ⊥) → ⊥
    by true g n s f j go = absurd (cc)
    by false g n true f j go = cc (sym (any_from (does two) (rivals t) u r k) ∙ ap (clash two) (same_touches t x f) ∙ g)
    by false g n false f j go = go n j

-- where two footprints meet, a touch of one conflicts with one of the other
pub both_have : (one two : List Touch) (x : Name) → meets one two ≡ Some x → Shares one two x
both_have [] two x h = absurd (cc)
both_have (y ∷ ys) two x h = by (clash two y) refl h (both_have ys two x)
  where
    by : (b : Bool) → clash two y ≡ b → option_map (λ (z : Touch). z.name) (cond b (Some y) (find (clash two) ys)) ≡ Some x → (meets ys two ≡ Some x → Shares ys two x) → Shares (y ∷ ys) two x
    by true e f go =
        let same : y.name ≡ x = cc in
        let found = any_gives (does two) (rivals y) e in
        record { touch = y; rival = found.touch; name = same; is_rival = found.inside; in_one = does-own y ys; in_two = found.passes }
    by false e f go =
        let found = go f in
        record { touch = found.touch; rival = found.rival; name = found.name; is_rival = found.is_rival; in_one = does-more found.touch y ys found.in_one; in_two = found.in_two }

-- the same from the other footprint
pub turned : (one two : List Touch) (x : Name) → Shares one two x → Shares two one x
turned one two x s = record {
  touch = s.rival;
  rival = s.touch;
  name = rival_name s.touch s.rival s.is_rival ∙ s.name;
  is_rival = rival_either_way s.touch s.rival s.is_rival;
  in_one = s.in_two;
  in_two = s.in_one;
}

-- a touch after another touch has no lesser name
pub not_less : (t u : Touch) → T (is_lt (touch_cmp t u)) → is_lt (name_cmp u.name t.name) ≡ false
not_less t u h = ap is_lt (name_cmp_total.antisymm u.name t.name) ∙ by (name_cmp t.name u.name) h
  where
    by : (o : Ordering) → T (is_lt (ordering_then o (nat_cmp (access_rank t.access) (access_rank u.access)))) → is_lt (ordering_reverse o) ≡ false
    by Less h = refl
    by Equal h = refl
    by Greater h = absurd h

pub not_less_itself : (x : Name) → is_lt (name_cmp x x) ≡ false
not_less_itself x = ap is_lt (tied_itself name_cmp_total x)

not_less_among : (t : Touch) (ts : List Touch) → T (below_all touch_cmp t (bare_rows ts)) → (u : Touch) → does ts u ≡ true → is_lt (name_cmp u.name t.name) ≡ false
not_less_among t [] low u h = absurd (cc)
not_less_among t (z ∷ zs) low u h = by (is_same_touch u z) refl h (not_less_among t zs (second _ _ low) u)
  where
    by : (b : Bool) → is_same_touch u z ≡ b → (b || does zs u) ≡ true → (does zs u ≡ true → is_lt (name_cmp u.name t.name) ≡ false) → is_lt (name_cmp u.name t.name) ≡ false
    by true e h go = ap (λ (q : Touch). is_lt (name_cmp q.name t.name)) (same_touches u z e) ∙ not_less t z (first _ _ low)
    by false e h go = go h

-- the first of rising touches has the least name
pub first_is_least : (t : Touch) (ts : List Touch) → IsFootprint (t ∷ ts) → (u : Touch) → does (t ∷ ts) u ≡ true → is_lt (name_cmp u.name t.name) ≡ false
first_is_least t ts rise u h = by (is_same_touch u t) refl h
  where
    by : (b : Bool) → is_same_touch u t ≡ b → (b || does ts u) ≡ true → is_lt (name_cmp u.name t.name) ≡ false
    by true e h = ap (λ (q : Touch). is_lt (name_cmp q.name t.name)) (same_touches u t e) ∙ not_less_itself t.name
    by false e h = not_less_among t ts (first _ _ rise) u h

-- no touch of one that conflicts with one of the other has a lesser name than the one at which they meet
pub none_lesser : (one two : List Touch) (e : Name) → IsFootprint one → meets one two ≡ Some e → (t u : Touch) → does one t ≡ true → does (rivals t) u ≡ true → does two u ≡ true → is_lt (name_cmp t.name e) ≡ false
none_lesser [] two e rise h t u i r k = absurd (cc)
none_lesser (y ∷ ys) two e rise h t u i r k = by (clash two y) refl h (is_same_touch t y) refl i (λ m g. none_lesser ys two e (second _ _ rise) m t u g r k)
  where
    by : (b : Bool) → clash two y ≡ b → option_map (λ (z : Touch). z.name) (cond b (Some y) (find (clash two) ys)) ≡ Some e → (s : Bool) → is_same_touch t y ≡ s → (s || does ys t) ≡ true
        → (meets ys two ≡ Some e → does ys t ≡ true → is_lt (name_cmp t.name e) ≡ false) → is_lt (name_cmp t.name e) ≡ false
    by true g m s f j go = let same : y.name ≡ e = cc in ap (λ n. is_lt (name_cmp t.name n)) (sym same) ∙ first_is_least y ys rise t i
    by false g m true f j go = absurd (cc (sym (any_from (does two) (rivals t) u r k) ∙ ap (clash two) (same_touches t y f) ∙ g))
    by false g m false f j go = go m j

-- two names are the same if neither is less
pub neither_less : (x y : Name) → is_lt (name_cmp x y) ≡ false → is_lt (name_cmp y x) ≡ false → x ≡ y
neither_less x y low high = by (name_cmp x y) refl low
  where
    by : (o : Ordering) → name_cmp x y ≡ o → is_lt o ≡ false → x ≡ y
    by Less e f = absurd (cc)
    by Equal e f = name_cmp-IsAntisymmetric x y e
    by Greater e f = absurd (cc (sym high ∙ ap is_lt (name_cmp_total.antisymm y x ∙ ap ordering_reverse e)))

-- the order of the two footprints does not matter
pub either_way : (one two : List Touch) → IsFootprint one → IsFootprint two → meets one two ≡ meets two one
either_way one two r s = by (meets one two) refl (meets two one) refl
  where
    none : (o t : List Touch) (y : Name) → meets o t ≡ None → Shares o t y → ⊥
    none o t y e have = apart o t e have.touch have.rival have.in_one have.is_rival have.in_two

    least : (o t : List Touch) (x y : Name) → IsFootprint o → meets o t ≡ Some y → Shares o t x → is_lt (name_cmp x y) ≡ false
    least o t x y rise e have = ap (λ n. is_lt (name_cmp n y)) (sym have.name) ∙ none_lesser o t y rise e have.touch have.rival have.in_one have.is_rival have.in_two

    by : (o : Option Name) → meets one two ≡ o → (p : Option Name) → meets two one ≡ p → o ≡ p
    by None e None f = refl
    by None e (Some y) f = absurd (none one two y e (turned two one y (both_have two one y f)))
    by (Some x) e None f = absurd (none two one x f (turned one two x (both_have one two x e)))
    by (Some x) e (Some y) f = ap Some (neither_less x y (least two one x y s f (turned one two x (both_have one two x e))) (least one two y x r e (turned two one y (both_have two one y f))))
