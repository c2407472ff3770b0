-- The lists and the tags that a merge leaves.
use Rattle.std.proofs.Common.{◌≡◌, ◌≤◌, ◌<◌, ◌+◌, ◌++◌, ℕ, zero, suc, Bool, true, false, ◌&&◌, ◌||◌, T, List, [], ◌∷◌, Option, Some, None, is_some, length, map, take, nat_lt, refl, cond, get_or, sym, ap, ◌∙◌, arith, find, is_eq}
use Rattle.std.proofs.lemmas.Bool.Decides.{nat_tests}
use Rattle.std.proofs.lemmas.List.{take_more}
use Rattle.std.proofs.lemmas.List.Elements.{All-map}
use Rattle.std.proofs.lemmas.List.Filters.{All-dedup}
use Rattle.edit_topology.specs.Prelude.{tied_itself, nat_list_cmp_total, nat_cmp-IsAntisymmetric, slice_cmp-IsAntisymmetric, put, is_sorted, below_all, is_sorted-put, find-put, length-put, same_entries, dedup_from, list_all, Name, is_node, is_same, is_among, AreNodes, text_cmp, value_at, Pairs, is_same_text, first, second, is_eq-name_cmp_itself, same_texts, told_node, both_tags, conflict, HasTwo, renamed, same_keys, same_text_itself, later, no_key_has_two}
use Rattle.osm_elements.specs.declared.name.Kind.TheVariants.{Node}
use Rattle.edit_topology.specs.Inner.Merging.{is_either, replaced}

-- ---- the first of a list that passes

module _ (p : Name → Bool) where
  pub found_here : (xs : List Name) (i : ℕ) (x : Name) → i < length xs → x ≡ get_or xs i x → find p (take i xs) ≡ None → true ≡ p x → Some x ≡ find p xs
  found_here [] i x l is none here = absurd (omega (arith, l))
  found_here (y ∷ ys) zero x l is none here = sym (ap (λ z. cond (p z) (Some z) (find p ys)) (sym is) ∙ ap (λ b. cond b (Some x) (find p ys)) (sym here))
  found_here (y ∷ ys) (suc i) x l is none here = by (p y) none (found_here ys i x (omega (arith, l)) is)
    where
      by : (b : Bool) → cond b (Some y) (find p (take i ys)) ≡ None → (find p (take i ys) ≡ None → true ≡ p x → Some x ≡ find p ys) → Some x ≡ cond b (Some y) (find p ys)
      by true e rest = absurd (cc)
      by false e rest = rest e here

  pub none_yet : (xs : List Name) (i : ℕ) (x : Name) → i < length xs → x ≡ get_or xs i x → find p (take i xs) ≡ None → false ≡ p x → find p (take (i + 1) xs) ≡ None
  none_yet xs i x l is none not_here = ap (find p) (take_more xs i x l ∙ ap (λ y. take i xs ++ y ∷ []) (sym is)) ∙ last (take i xs) none
    where
      last : (ys : List Name) → find p ys ≡ None → find p (ys ++ x ∷ []) ≡ None
      last [] e = ap (λ b. cond b (Some x) None) (sym not_here)
      last (y ∷ ys) e = by (p y) e (last ys)
        where
          by : (b : Bool) → cond b (Some y) (find p ys) ≡ None → (find p ys ≡ None → find p (ys ++ x ∷ []) ≡ None) → cond b (Some y) (find p (ys ++ x ∷ [])) ≡ None
          by true f rest = absurd (cc)
          by false f rest = rest f

-- ---- a list of which one name is left

not_two : (n : ℕ) → 1 ≤ n → nat_lt (suc n) 2 ≡ false
not_two n h = grind (arith, nat_tests)

module _ (same : Name → Name → Bool) where
  some_left : (x : Name) (xs : List Name) → 1 ≤ length (dedup_from same x xs)
  some_left x [] = omega arith
  some_left x (z ∷ zs) = by (same z x) (some_left x zs)
    where
      by : (b : Bool) → 1 ≤ length (dedup_from same x zs) → 1 ≤ length (cond b (dedup_from same x zs) (x ∷ dedup_from same z zs))
      by true i = i
      by false i = omega arith

  -- one name is left if all that follow it are dropped
  one_left : (x : Name) (xs : List Name) → nat_lt (length (dedup_from same x xs)) 2 ≡ list_all (λ z. same z x) xs
  one_left x [] = refl
  one_left x (z ∷ zs) = by (same z x) (one_left x zs)
    where
      by : (b : Bool) → nat_lt (length (dedup_from same x zs)) 2 ≡ list_all (λ y. same y x) zs
          → nat_lt (length (cond b (dedup_from same x zs) (x ∷ dedup_from same z zs))) 2 ≡ (b && list_all (λ y. same y x) zs)
      by true i = i
      by false i = not_two (length (dedup_from same z zs)) (some_left z zs)

and_true : (b : Bool) → (b && true) ≡ b
and_true true = refl
and_true false = refl

or_true : (b : Bool) → true ≡ (b || true)
or_true true = refl
or_true false = refl

or_false : (b : Bool) → b ≡ (b || false)
or_false true = refl
or_false false = refl

second_not : (a b : Bool) → (a || b) ≡ false → b ≡ false
second_not true b h = absurd (cc)
second_not false b h = h

module _ (k g : Name) where
  -- k is where k or g was
  renamed_is : (n : Name) → is_same k (renamed g k n) ≡ is_either k g n
  renamed_is n = by (is_same g n)
    where
      by : (b : Bool) → is_same k (cond b k n) ≡ (is_same k n || b)
      by true = is_eq-name_cmp_itself k ∙ or_true (is_same k n)
      by false = or_false (is_same k n)

  module _ (x : Name) where
    all_dropped : is_same k x ≡ true → (ns : List Name) → list_all (λ z. is_same k z && is_same k x) (map (renamed g k) ns) ≡ list_all (is_either k g) ns
    all_dropped s [] = refl
    all_dropped s (n ∷ ns) =
        let own : (is_same k (renamed g k n) && is_same k x) ≡ is_either k g n = (λ i. renamed_is n i && s i) ∙ and_true (is_either k g n) in
        let rest = all_dropped s ns in
        λ i. own i && rest i

    none_dropped : is_same k x ≡ false → (ns : List Name) → is_among ns g ≡ true → list_all (λ z. is_same k z && is_same k x) (map (renamed g k) ns) ≡ false
    none_dropped s [] h = absurd (cc)
    none_dropped s (n ∷ ns) h = ap (λ b. (is_same k (renamed g k n) && b) && list_all (λ z. is_same k z && is_same k x) (map (renamed g k) ns)) s ∙ by (is_same k (renamed g k n))
      where
        by : (b : Bool) → ((b && false) && list_all (λ z. is_same k z && is_same k x) (map (renamed g k) ns)) ≡ false
        by true = refl
        by false = refl

  -- a list that names g keeps fewer than two names exactly if all its names are k or g
  pub short_is : (nodes : List Name) → is_among nodes g ≡ true → nat_lt (length (replaced k g nodes)) 2 ≡ list_all (is_either k g) nodes
  short_is [] h = absurd (cc)
  short_is (n ∷ ns) h = one_left (λ m before. is_same k m && is_same k before) (renamed g k n) (map (renamed g k) ns) ∙ by (is_either k g n) refl
    where
      by : (b : Bool) → is_either k g n ≡ b → list_all (λ z. is_same k z && is_same k (renamed g k n)) (map (renamed g k) ns) ≡ (b && list_all (is_either k g) ns)
      by true e = all_dropped (renamed g k n) (renamed_is n ∙ e) ns
      by false e = none_dropped (renamed g k n) (renamed_is n ∙ e) ns (ap (λ b. b || is_among ns g) (sym (second_not (is_same k n) (is_same g n) e)) ∙ h)

  -- renamed nodes are nodes
  node_for : (n : Name) → is_node k.kind ≡ true → n.kind ≡ Node → (renamed g k n).kind ≡ Node
  node_for n node own = by (is_same g n)
    where
      by : (b : Bool) → (cond b k n).kind ≡ Node
      by true = told_node k.kind node
      by false = own

  pub replaced_nodes : (nodes : List Name) → is_node k.kind ≡ true → AreNodes nodes → AreNodes (replaced k g nodes)
  replaced_nodes nodes node all =
      All-dedup (λ n before. is_same k n && is_same k before) (λ n. n.kind ≡ Node) (map (renamed g k) nodes)
      (All-map (λ n. n.kind ≡ Node) (renamed g k) nodes (λ i d l. node_for _ node (all i d l)))

-- ---- tags

-- no key of the others has a different value among the tags
abbrev NoTwo : Pairs → Pairs → Type 0
NoTwo tags [] = Unit
NoTwo tags (p ∷ ps) = ((value : List ℕ) → value_at tags p.0 ≡ Some value → value ≡ p.1) × NoTwo tags ps

own_value : (p : List ℕ × List ℕ) (ps : Pairs) → value_at (p ∷ ps) p.0 ≡ Some p.1
own_value p ps = ap (λ o. cond (is_eq o) (Some p.1) (value_at ps p.0)) (tied_itself nat_list_cmp_total p.0)

module _ (tags all : Pairs) (none : (key : List ℕ) → HasTwo tags all key → ⊥) where
  one_value : (key value other : List ℕ) → value_at tags key ≡ Some value → value_at all key ≡ Some other → value ≡ other
  one_value key value other ours theirs = by (is_same_text value other) refl
    where
      by : (b : Bool) → is_same_text value other ≡ b → value ≡ other
      by true e = same_texts value other e
      by false e = absurd (none key (record { one = value; other = other; ours = ours; theirs = theirs; differ = λ same. cc (sym (same_text_itself value) ∙ ap (is_same_text value) same ∙ e) }))

  no_two : (others : Pairs) → T (is_sorted text_cmp others) → ((key value : List ℕ) → value_at others key ≡ Some value → value_at all key ≡ Some value) → NoTwo tags others
  no_two [] h found = tt
  no_two (p ∷ ps) h found = (
    λ value is. one_value p.0 value p.1 is (found p.0 p.1 (own_value p ps)),
    no_two ps (second (below_all text_cmp p.0 ps) (is_sorted text_cmp ps) h) (λ key value is. found key value (later p ps (first (below_all text_cmp p.0 ps) (is_sorted text_cmp ps) h) key value is)),
  )

-- putting a tag that is there changes nothing
put_same : (tags : Pairs) (key value : List ℕ) → T (is_sorted text_cmp tags) → value_at tags key ≡ Some value → put text_cmp key value tags ≡ tags
put_same tags key value h is =
    same_entries text_cmp nat_list_cmp_total (slice_cmp-IsAntisymmetric nat_cmp-IsAntisymmetric) (put text_cmp key value tags) tags (is_sorted-put text_cmp nat_list_cmp_total key value tags h) h
    (λ q. find-put text_cmp nat_list_cmp_total q key value tags ∙ by q (is_eq (text_cmp q key)) refl)
  where
    by : (q : List ℕ) (b : Bool) → is_eq (text_cmp q key) ≡ b → cond b (Some value) (value_at tags q) ≡ value_at tags q
    by q true t = sym (ap (value_at tags) (same_keys q key t) ∙ is)
    by q false t = refl

no_fewer : (others tags : Pairs) → T (is_sorted text_cmp tags) → length tags ≤ length (both_tags tags others)
no_fewer [] tags h = omega arith
no_fewer (p ∷ ps) tags h =
    by (is_some (value_at tags p.0)) (length-put text_cmp nat_list_cmp_total p.0 p.1 tags h) (no_fewer ps (put text_cmp p.0 p.1 tags) (is_sorted-put text_cmp nat_list_cmp_total p.0 p.1 tags h))
  where
    by : (b : Bool) → length (put text_cmp p.0 p.1 tags) ≡ cond b (length tags) (length tags + 1) → length (put text_cmp p.0 p.1 tags) ≤ length (both_tags (put text_cmp p.0 p.1 tags) ps)
        → length tags ≤ length (both_tags (put text_cmp p.0 p.1 tags) ps)
    by true e i = omega arith
    by false e i = omega arith

more : (a b c : ℕ) → b ≡ a + 1 → b ≤ c → nat_lt a c ≡ true
more a b c e h = grind (arith, nat_tests)

-- if no tag is gained, the tags are unchanged
none_gained : (others tags : Pairs) → T (is_sorted text_cmp tags) → NoTwo tags others → nat_lt (length tags) (length (both_tags tags others)) ≡ false → both_tags tags others ≡ tags
none_gained [] tags h single few = refl
none_gained (p ∷ ps) tags h single few = by (value_at tags p.0) refl (none_gained ps tags h single.1)
  where
    by : (o : Option (List ℕ)) → value_at tags p.0 ≡ o → (nat_lt (length tags) (length (both_tags tags ps)) ≡ false → both_tags tags ps ≡ tags) → both_tags (put text_cmp p.0 p.1 tags) ps ≡ tags
    by None is rest =
        let one = length-put text_cmp nat_list_cmp_total p.0 p.1 tags h ∙ ap (λ o. cond (is_some o) (length tags) (length tags + 1)) is in
        let longer = no_fewer ps (put text_cmp p.0 p.1 tags) (is_sorted-put text_cmp nat_list_cmp_total p.0 p.1 tags h) in
        absurd (cc (sym (more (length tags) (length (put text_cmp p.0 p.1 tags)) (length (both_tags (put text_cmp p.0 p.1 tags) ps)) one longer) ∙ few))
    by (Some value) is rest =
        let same : put text_cmp p.0 p.1 tags ≡ tags = put_same tags p.0 p.1 h (is ∙ ap Some (single.0 value is)) in
        ap (λ t. both_tags t ps) same ∙ rest (ap (λ t. nat_lt (length tags) (length (both_tags t ps))) (sym same) ∙ few)

pub tags_stay : (tags others : Pairs) → T (is_sorted text_cmp tags) → T (is_sorted text_cmp others) → conflict tags others ≡ None → nat_lt (length tags) (length (both_tags tags others)) ≡ false → both_tags tags others ≡ tags
tags_stay tags others h k none few = none_gained others tags h (no_two tags others (no_key_has_two tags others none) others k (λ key value is. is)) few
