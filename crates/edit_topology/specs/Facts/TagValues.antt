-- The value that united tags have at a key, and the meaning of a conflict.
use Rattle.std.proofs.Common.{sym, ap, subst, ◌∙◌}
use Rattle.std.specs.Prelude.{◌≡◌, ◌≢◌, ℕ, Bool, true, false, not, T, List, [], ◌∷◌, Option, Some, None, refl, cond, option_map, unwrap_or}
use Rattle.edit_simple.specs.Prelude.{tied_itself, nat_list_cmp_total, option_or, is_eq, is_lt, Less, put, is_sorted, below_all, find-put, text_cmp, value_at, Pairs, are_tags, is_same_text, both, first, second, find_below, below_less, same_texts, tags_sorted}
use Rattle.edit_topology.specs.BothTags.{both_tags, is_another, conflict, HasTwo}
use Rattle.edit_topology.specs.Facts.BothTags.{same_keys, same_text_itself, later}
use Rattle.std.specs.List as lists

-- the value at each key is the others', or else the tags' own
values_both : (others tags : Pairs) → T (is_sorted text_cmp others) → (key : List ℕ) → value_at (both_tags tags others) key ≡ option_or (value_at others key) (value_at tags key)
values_both [] tags h key = refl
values_both (p ∷ ps) tags h key =
    values_both ps (put text_cmp p.0 p.1 tags) (second (below_all text_cmp p.0 ps) (is_sorted text_cmp ps) h) key
    ∙ ap (option_or (value_at ps key)) (find-put text_cmp nat_list_cmp_total key p.0 p.1 tags) ∙ by (is_eq (text_cmp key p.0)) refl
  where
    by : (b : Bool) → is_eq (text_cmp key p.0) ≡ b → option_or (value_at ps key) (cond b (Some p.1) (value_at tags key)) ≡ option_or (cond b (Some p.1) (value_at ps key)) (value_at tags key)
    by true e = ap (λ o. option_or o (Some p.1)) (ap (value_at ps) (same_keys key p.0 e) ∙ find_below text_cmp p.0 ps (first (below_all text_cmp p.0 ps) (is_sorted text_cmp ps) h))
    by false e = refl

pub united_values : (tags others : Pairs) → are_tags others ≡ true → (key : List ℕ) → value_at (both_tags tags others) key ≡ option_or (value_at others key) (value_at tags key)
united_values tags others h key = values_both others tags (tags_sorted others h) key

-- ---- conflicts

-- the value at the key of the first tag
own_value : (p : List ℕ × List ℕ) (ps : Pairs) → value_at (p ∷ ps) p.0 ≡ Some p.1
own_value p ps = ap (λ o. cond (is_eq o) (Some p.1) (value_at ps p.0)) (tied_itself nat_list_cmp_total p.0)

some_same : {X : Type 0} (x y : X) → Some x ≡ Some y → x ≡ y
some_same x y e = ap (λ o. unwrap_or o x) e

-- the first key has two values if the others have a different value there
is_two : (p : List ℕ × List ℕ) (ps others : Pairs) → is_another (value_at others p.0) p.1 ≡ true → HasTwo (p ∷ ps) others p.0
is_two p ps others e = by (value_at others p.0) refl e
  where
    by : (o : Option (List ℕ)) → value_at others p.0 ≡ o → is_another o p.1 ≡ true → HasTwo (p ∷ ps) others p.0
    by None is t = absurd (cc)
    by (Some other) is t = record { one = p.1; other = other; ours = own_value p ps; theirs = is; differ = λ same. cc (sym (same_text_itself other) ∙ ap (is_same_text other) (sym same) ∙ told (is_same_text other p.1) t) }
      where
        told : (b : Bool) → not b ≡ true → b ≡ false
        told true f = absurd (cc)
        told false f = refl

-- if the first key does not have two values, each key with two values is in the rest
in_rest : (p : List ℕ × List ℕ) (ps others : Pairs) → is_another (value_at others p.0) p.1 ≡ false → (key : List ℕ) → HasTwo (p ∷ ps) others key → HasTwo ps others key
in_rest p ps others e key two = by (is_eq (text_cmp key p.0)) refl two.ours
  where
    by : (b : Bool) → is_eq (text_cmp key p.0) ≡ b → cond b (Some p.1) (value_at ps key) ≡ Some two.one → HasTwo ps others key
    by true t is =
        let theirs : value_at others p.0 ≡ Some two.other = ap (value_at others) (sym (same_keys key p.0 t)) ∙ two.theirs in
        absurd (two.differ (sym (some_same p.1 two.one is) ∙ sym (same_texts two.other p.1 (from_not_false (is_same_text two.other p.1) (ap (λ o. is_another o p.1) (sym theirs) ∙ e)))))
      where
        from_not_false : (b : Bool) → not b ≡ false → b ≡ true
        from_not_false true f = refl
        from_not_false false f = absurd (cc)
    by false t is = record { one = two.one; other = two.other; ours = is; theirs = two.theirs; differ = two.differ }

-- a key with two values in the rest has two values in all
in_all : (p : List ℕ × List ℕ) (ps others : Pairs) → T (below_all text_cmp p.0 ps) → (key : List ℕ) → HasTwo ps others key → HasTwo (p ∷ ps) others key
in_all p ps others h key two = record { one = two.one; other = two.other; ours = later p ps h key two.one two.ours; theirs = two.theirs; differ = two.differ }

-- no key that is less than all keys has two values
none_below : (p : List ℕ × List ℕ) (ps others : Pairs) → T (below_all text_cmp p.0 ps) → (key : List ℕ) → HasTwo (p ∷ ps) others key → text_cmp key p.0 ≢ Less
none_below p ps others h key two less =
    let low : T (below_all text_cmp key (p ∷ ps)) = both (is_lt (text_cmp key p.0)) (below_all text_cmp key ps) (subst (λ o. T (is_lt o)) (sym less) tt) (below_less text_cmp nat_list_cmp_total key p.0 ps less h) in
    let none : value_at (p ∷ ps) key ≡ None = find_below text_cmp key (p ∷ ps) low in
    cc (sym none ∙ two.ours)

-- if there is no conflict, no key has two values
pub no_key_has_two : (tags others : Pairs) → conflict tags others ≡ None → (key : List ℕ) → HasTwo tags others key → ⊥
no_key_has_two [] others e key two = cc (two.ours)
no_key_has_two (p ∷ ps) others e key two = by (is_another (value_at others p.0) p.1) refl e (no_key_has_two ps others)
  where
    by : (b : Bool) → is_another (value_at others p.0) p.1 ≡ b → option_map (λ q. q.0) (cond b (Some p) (lists.find (λ q. is_another (value_at others q.0) q.1) ps)) ≡ None
        → (conflict ps others ≡ None → (z : List ℕ) → HasTwo ps others z → ⊥) → ⊥
    by true t f rest = cc
    by false t f rest = rest f key (in_rest p ps others t key two)

conflict_some : (tags others : Pairs) → T (is_sorted text_cmp tags) → (key : List ℕ) → conflict tags others ≡ Some key → HasTwo tags others key × ((z : List ℕ) → HasTwo tags others z → text_cmp z key ≢ Less)
conflict_some [] others h key e = absurd (cc)
conflict_some (p ∷ ps) others h key e = by (is_another (value_at others p.0) p.1) refl e (conflict_some ps others (second (below_all text_cmp p.0 ps) (is_sorted text_cmp ps) h) key)
  where
    above : T (below_all text_cmp p.0 ps)
    above = first (below_all text_cmp p.0 ps) (is_sorted text_cmp ps) h

    by : (b : Bool) → is_another (value_at others p.0) p.1 ≡ b → option_map (λ q. q.0) (cond b (Some p) (lists.find (λ q. is_another (value_at others q.0) q.1) ps)) ≡ Some key
        → (conflict ps others ≡ Some key → HasTwo ps others key × ((z : List ℕ) → HasTwo ps others z → text_cmp z key ≢ Less)) → HasTwo (p ∷ ps) others key × ((z : List ℕ) → HasTwo (p ∷ ps) others z → text_cmp z key ≢ Less)
    by true t f rest =
        let same : p.0 ≡ key = some_same p.0 key f in
        subst (λ k. HasTwo (p ∷ ps) others k × ((z : List ℕ) → HasTwo (p ∷ ps) others z → text_cmp z k ≢ Less)) same (is_two p ps others t, none_below p ps others above)
    by false t f rest = let found = rest f in (in_all p ps others above key found.0, λ z two. found.1 z (in_rest p ps others t z two))

-- a conflict is the least key that has two values
pub least_key_has_two : (tags others : Pairs) → are_tags tags ≡ true → (key : List ℕ) → conflict tags others ≡ Some key → HasTwo tags others key × ((z : List ℕ) → HasTwo tags others z → text_cmp z key ≢ Less)
least_key_has_two tags others h key e = conflict_some tags others (tags_sorted tags h) key e
