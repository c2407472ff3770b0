-- Plans of merges: which check holds first, which rows change, and what they become.
use Rattle.std.proofs.Common.{◌≡◌, ◌⊎◌, ℕ, ℤ, Bool, true, false, ◌&&◌, ◌||◌, T, List, [], ◌∷◌, ◌++◌, Option, Some, None, Result, Ok, Err, length, nat_lt, slice_get, refl, cond, take, inl, inr, sym, ap, subst, ◌∙◌, arith, filter, find, option_map, IsErr, IsErrAnd}
use Rattle.std.proofs.lemmas.Bool.Decides.{nat_tests}
use Rattle.edit_topology.specs.Prelude.{is_sorted, list_all, Name, Element, Node, Way, Relation, tags_of, Rows, is_same, is_among, least, name_set, AreInOrder, row_at, text_cmp, Pairs, is_among-name_set, is_among-append, same_either_way, same_names, refers_to, row_references, users, IsRising-name_set, is_among-passing, Change, rows_changes, differences, is_sound, sound_in_order, Refusal, TagConflict, TooFew, Memory, first_that_holds, the_least, nodes_of, row_tags, with_nodes, with_members, IsPlan, rest_decides, nones, rows_covering, first_is_least, node_there, passes_at, among_rows, rising_names, tags_sorted, both_tags, conflict, merged_nodes, shrunk, merge_checks, after_merge, united, merge_row, renamed_members, are_tags-row_tags, row_at-each_but, Merges, merges, merge_leaves}
use Rattle.osm_refs.specs.Facts.RisingNames.{IsRising-filter, same_rising}
use Rattle.edit_topology.specs.Inner.Merging.{is_either, replaced, subjects, tag_checks, is_cut_short, merged_element, row_merged}
use Rattle.edit_topology.proofs.MergeLists.{short_is, tags_stay}

-- ---- tests

and_false : (b : Bool) → false ≡ (b && false)
and_false true = refl
and_false false = refl

and_true : (b : Bool) → b ≡ (b && true)
and_true true = refl
and_true false = refl

-- the first match is the first of all matches
found_first : (p : Name → Bool) (xs : List Name) → find p xs ≡ slice_get (filter p xs) 0
found_first p [] = refl
found_first p (x ∷ xs) = by (p x) (found_first p xs)
  where
    by : (b : Bool) → find p xs ≡ slice_get (filter p xs) 0 → cond b (Some x) (find p xs) ≡ slice_get (cond b (x ∷ filter p xs) (filter p xs)) 0
    by true rest = refl
    by false rest = rest

none_mapped : {X Y : Type 0} (f : X → Y) (o : Option X) → option_map f o ≡ None → o ≡ None
none_mapped f None e = refl
none_mapped f (Some x) e = absurd (cc)

none_more : (n : ℕ) → nat_lt n n ≡ false
none_more n = grind (arith, nat_tests)

module _ {A : Type 0} (m : Rows A) (k g : Name) (sound : is_sound m ≡ true) where
  in_order : AreInOrder m
  in_order = sound_in_order m sound

  among_users : (y : Name) → is_among (users m g) y ≡ is_among (row_references (row_at m y)) g
  among_users y = among_rows (λ r. refers_to r.1 g) m in_order y ∙ by (row_at m y)
    where
      by : (o : Option (Element A)) → passes_at (λ r. refers_to r.1 g) y o ≡ is_among (row_references o) g
      by None = refl
      by (Some v) = refl

  -- ---- ways that get too short

  abbrev shrinks : Name × Element A → Bool
  shrinks r = is_among (nodes_of (Some r.1)) g && nat_lt (length (merged_nodes k g (nodes_of (Some r.1)))) 2

  short_row : (u : Name) (o : Option (Element A)) → passes_at shrinks u o ≡ (is_cut_short k g o && passes_at (λ r. refers_to r.1 g) u o)
  short_row u None = refl
  short_row u (Some (Node lat lon tags)) = refl
  short_row u (Some (Way nodes tags)) = by (is_among nodes g) refl
    where
      by : (b : Bool) → is_among nodes g ≡ b → (b && nat_lt (length (cond b (replaced k g nodes) nodes)) 2) ≡ (list_all (is_either k g) nodes && b)
      by true i = short_is k g nodes i ∙ and_true (list_all (is_either k g) nodes)
      by false i = and_false (list_all (is_either k g) nodes)
  short_row u (Some (Relation members tags)) = refl

  short_users : filter (λ u. is_cut_short k g (row_at m u)) (users m g) ≡ shrunk m k g
  short_users =
      same_rising (filter (λ u. is_cut_short k g (row_at m u)) (users m g)) (shrunk m k g)
      (IsRising-filter (λ u. is_cut_short k g (row_at m u)) (users m g) (rising_names (λ r. refers_to r.1 g) m in_order)) (rising_names shrinks m in_order)
      (λ q. is_among-passing (λ u. is_cut_short k g (row_at m u)) (users m g) q ∙ ap (λ b. is_cut_short k g (row_at m q) && b) (among_rows (λ r. refers_to r.1 g) m in_order q)
      ∙ sym (among_rows shrinks m in_order q ∙ short_row q (row_at m q)))

  first_short : find (λ u. is_cut_short k g (row_at m u)) (users m g) ≡ least (shrunk m k g)
  first_short = found_first (λ u. is_cut_short k g (row_at m u)) (users m g) ∙ ap (λ l. slice_get l 0) short_users ∙ first_is_least shrinks m in_order

  -- ---- the first check that holds

  abbrev rest : List (Option (Refusal A))
  rest = tag_checks k (row_tags (row_at m k)) (row_tags (row_at m g))

  module _ (early : first_that_holds (take 5 (merge_checks m k g)) ≡ None) (its : List Name) (its_are : its ≡ users m g) where
    from_short : first_that_holds (merge_checks m k g) ≡ first_that_holds (option_map TooFew (find (λ u. is_cut_short k g (row_at m u)) its) ∷ rest)
    from_short =
        rest_decides (take 5 (merge_checks m k g)) (the_least TooFew (shrunk m k g) ∷ rest) early
        ∙ ap (λ o. first_that_holds (option_map TooFew o ∷ rest)) (sym (ap (find (λ u. is_cut_short k g (row_at m u))) its_are ∙ first_short))

    pub too_few : (y : Name) → Some y ≡ find (λ u. is_cut_short k g (row_at m u)) its → first_that_holds (merge_checks m k g) ≡ Some (TooFew y)
    too_few y e = from_short ∙ ap (λ o. first_that_holds (option_map TooFew o ∷ rest)) (sym e)

    pub from_tags : None ≡ find (λ u. is_cut_short k g (row_at m u)) its → (v w : Element A) → row_at m k ≡ Some v → row_at m g ≡ Some w → (tags others : Pairs) → tags ≡ tags_of v → others ≡ tags_of w
        → first_that_holds (merge_checks m k g) ≡ first_that_holds (tag_checks k tags others)
    from_tags e v w at_k at_g tags others ours theirs =
        from_short ∙ ap (λ o. first_that_holds (option_map TooFew o ∷ rest)) (sym e)
        ∙ (λ i. first_that_holds (tag_checks k ((ap row_tags at_k ∙ sym ours) i) ((ap row_tags at_g ∙ sym theirs) i)))

  -- from a refusal of the tags to a refusal of the whole merge
  pub refused : (r : Result (List (Change A)) (Refusal A)) (e : Refusal A) (checks : List (Option (Refusal A))) → IsErr r → IsErrAnd r (λ x. x ≡ e)
      → first_that_holds (merge_checks m k g) ≡ first_that_holds checks → ((first_that_holds checks ≡ Some e) ⊎ (e ≡ Memory)) → IsPlan m (merge_checks m k g) (after_merge m k g) r
  refused (Ok cs) e checks err is from why = absurd (cc)
  refused (Err f) e checks err is from why = subst (λ z. (first_that_holds (merge_checks m k g) ≡ Some z) ⊎ (z ≡ Memory)) (sym is) (by why)
    where
      by : ((first_that_holds checks ≡ Some e) ⊎ (e ≡ Memory)) → (first_that_holds (merge_checks m k g) ≡ Some e) ⊎ (e ≡ Memory)
      by (inl h) = inl (from ∙ h)
      by (inr h) = inr h

  -- ---- the names whose rows change

  module _ (ok : first_that_holds (merge_checks m k g) ≡ None) (tags others both : Pairs) (ours : tags ≡ row_tags (row_at m k)) (theirs : others ≡ row_tags (row_at m g)) (both_are : both ≡ both_tags tags others)
      (gains : Bool) (gains_is : gains ≡ nat_lt (length tags) (length both)) where
    abbrev n : Rows A
    n = after_merge m k g

    s : Merges m k g
    s = merges m k g ok

    kept : (lat lon : ℤ) × (own : Pairs) × (row_at m k ≡ Some (Node lat lon own))
    kept = node_there m k sound s.node_k s.here_k

    own_are : tags ≡ kept.2
    own_are = ours ∙ ap row_tags kept.3

    abbrev changed : List Name
    changed = subjects k g gains ++ users m g

    among_subjects : (y : Name) → is_same y k ≡ true → gains ≡ true → is_among (subjects k g gains) y ≡ true
    among_subjects y same gain = ap (λ b. is_among (subjects k g b) y) gain ∙ ap (λ b. b || (is_same y g || false)) same

    g_among : (y : Name) → is_same y g ≡ true → is_among (subjects k g gains) y ≡ true
    g_among y same = by gains
      where
        by : (b : Bool) → is_among (subjects k g b) y ≡ true
        by true = ap (λ b. is_same y k || (b || false)) same ∙ or_true (is_same y k)
          where
            or_true : (b : Bool) → (b || true) ≡ true
            or_true true = refl
            or_true false = refl
        by false = ap (λ b. b || false) same

    not_among : (y : Name) → is_same y g ≡ false → (is_same y k ≡ true → gains ≡ false) → is_among (subjects k g gains) y ≡ false
    not_among y other still = by gains (is_same y k) refl still
      where
        by : (b c : Bool) → is_same y k ≡ c → (c ≡ true → b ≡ false) → is_among (subjects k g b) y ≡ false
        by false c same h = ap (λ b. b || false) other
        by true true same h = absurd (cc (h refl))
        by true false same h = ap (λ b. b || (is_same y g || false)) same ∙ ap (λ b. b || false) other

    row_k : (y : Name) → is_same y k ≡ true → row_at m y ≡ Some (Node kept.0 kept.1 kept.2)
    row_k y same = ap (row_at m) (same_names y k same) ∙ kept.3

    -- a changed name is g, or k if it gains a tag, or the name of an element that names g
    each : (P : Type 0) (y : Name) → is_among changed y ≡ true → (is_same y g ≡ true → P) → (is_same y g ≡ false → is_same y k ≡ true → gains ≡ true → P)
        → (is_same y g ≡ false → is_same y k ≡ false → is_among (row_references (row_at m y)) g ≡ true → P) → P
    each P y i at_g at_k named = by (is_same y g) refl (is_same y k) refl gains refl
      where
        either : is_among (subjects k g gains) y ≡ false → is_among (row_references (row_at m y)) g ≡ true
        either none = sym (among_users y) ∙ ap (λ b. b || is_among (users m g) y) (sym none) ∙ sym (is_among-append y (subjects k g gains) (users m g)) ∙ i

        by : (b : Bool) → is_same y g ≡ b → (c : Bool) → is_same y k ≡ c → (d : Bool) → gains ≡ d → P
        by true e c f d h = at_g e
        by false e true f true h = at_k e f h
        by false e true f false h = absurd (cc (sym (either (not_among y e (λ same. h))) ∙ ap (λ o. is_among (row_references o) g) (row_k y f)))
        by false e false f d h = named e f (either (not_among y e (λ same. absurd (cc (sym same ∙ f)))))

    -- ---- what they become

    row_now : (y : Name) → is_same y g ≡ false → row_at n y ≡ option_map (merge_row m k g y) (row_at m y)
    row_now y other = row_at-each_but m g (merge_row m k g) y ∙ ap (λ b. option_map (merge_row m k g y) (cond b None (row_at m y))) other

    node_now : (y : Name) → is_same y g ≡ false → is_same y k ≡ true → row_at n y ≡ Some (Node kept.0 kept.1 (both_tags tags others))
    node_now y other same =
        row_now y other ∙ ap (option_map (merge_row m k g y)) (row_k y same)
        ∙ ap (λ b. Some (with_nodes (merged_nodes k g) (with_members (renamed_members g k) (cond b (united m g (Node kept.0 kept.1 kept.2)) (Node kept.0 kept.1 kept.2))))) (same_either_way k y ∙ same)
        ∙ (λ i. Some (Node kept.0 kept.1 (both_tags (sym own_are i) (sym theirs i))))

    row_is : (y : Name) → is_among changed y ≡ true → row_merged m k g both y ≡ row_at n y
    row_is y i = each (row_merged m k g both y ≡ row_at n y) y i at_g at_k named
      where
        at_g : is_same y g ≡ true → row_merged m k g both y ≡ row_at n y
        at_g e =
            ap (λ b. cond b None (option_map (merged_element k g both) (row_at m y))) (same_either_way g y ∙ e)
            ∙ sym (row_at-each_but m g (merge_row m k g) y ∙ ap (λ b. option_map (merge_row m k g y) (cond b None (row_at m y))) e)

        stays : is_same y g ≡ false → row_merged m k g both y ≡ option_map (merged_element k g both) (row_at m y)
        stays e = ap (λ b. cond b None (option_map (merged_element k g both) (row_at m y))) (same_either_way g y ∙ e)

        at_k : is_same y g ≡ false → is_same y k ≡ true → gains ≡ true → row_merged m k g both y ≡ row_at n y
        at_k e f h = stays e ∙ ap (option_map (merged_element k g both)) (row_k y f) ∙ ap (λ t. Some (Node kept.0 kept.1 t)) both_are ∙ sym (node_now y e f)

        element : (v : Element A) → is_same k y ≡ false → is_among (row_references (Some v)) g ≡ true → merged_element k g both v ≡ merge_row m k g y v
        element (Node lat lon own) f h = absurd (cc)
        element (Way nodes own) f h =
            sym (ap (λ b. with_nodes (merged_nodes k g) (with_members (renamed_members g k) (cond b (united m g (Way nodes own)) (Way nodes own)))) f
            ∙ ap (λ b. Way (cond b (replaced k g nodes) nodes) own) h)
        element (Relation members own) f h = sym (ap (λ b. with_nodes (merged_nodes k g) (with_members (renamed_members g k) (cond b (united m g (Relation members own)) (Relation members own)))) f)

        by : (o : Option (Element A)) → is_same k y ≡ false → is_among (row_references o) g ≡ true → option_map (merged_element k g both) o ≡ option_map (merge_row m k g y) o
        by None f h = refl
        by (Some v) f h = ap Some (element v f h)

        named : is_same y g ≡ false → is_same y k ≡ false → is_among (row_references (row_at m y)) g ≡ true → row_merged m k g both y ≡ row_at n y
        named e f h = stays e ∙ by (row_at m y) (same_either_way k y ∙ f) h ∙ sym (row_now y e)

    stays : (y : Name) → is_among changed y ≡ false → row_at n y ≡ row_at m y
    stays y out = by (is_same y g) refl (is_same y k) refl gains refl
      where
        outside : (is_among (subjects k g gains) y || is_among (users m g) y) ≡ false
        outside = sym (is_among-append y (subjects k g gains) (users m g)) ∙ out

        first_not : (a b : Bool) → (a || b) ≡ false → a ≡ false
        first_not true b h = h
        first_not false b h = refl

        second_not : (a b : Bool) → (a || b) ≡ false → b ≡ false
        second_not true b h = absurd (cc)
        second_not false b h = h

        no_subject : is_among (subjects k g gains) y ≡ false
        no_subject = first_not (is_among (subjects k g gains) y) (is_among (users m g) y) outside

        not_named : is_among (row_references (row_at m y)) g ≡ false
        not_named = sym (among_users y) ∙ second_not (is_among (subjects k g gains) y) (is_among (users m g) y) outside

        none : conflict tags others ≡ None
        none = (λ i. conflict (ours i) (theirs i)) ∙ none_mapped {Y = Refusal A} TagConflict (conflict (row_tags (row_at m k)) (row_tags (row_at m g))) (nones (merge_checks m k g) ok).1.1.1.1.1.1.0

        same_tags : gains ≡ false → both_tags tags others ≡ tags
        same_tags h =
            tags_stay tags others (subst (λ t. T (is_sorted text_cmp t)) (sym ours) (tags_sorted (row_tags (row_at m k)) (are_tags-row_tags m sound k)))
            (subst (λ t. T (is_sorted text_cmp t)) (sym theirs) (tags_sorted (row_tags (row_at m g)) (are_tags-row_tags m sound g))) none
            (ap (λ t. nat_lt (length tags) (length t)) (sym both_are) ∙ sym gains_is ∙ h)

        by : (b : Bool) → is_same y g ≡ b → (c : Bool) → is_same y k ≡ c → (d : Bool) → gains ≡ d → row_at n y ≡ row_at m y
        by true e c f d h = absurd (cc (sym (g_among y e) ∙ no_subject))
        by false e true f true h = absurd (cc (sym (among_subjects y f h) ∙ no_subject))
        by false e true f false h = node_now y e f ∙ ap (λ t. Some (Node kept.0 kept.1 t)) (same_tags h ∙ own_are) ∙ sym (row_k y f)
        by false e false f d h = merge_leaves m k g y f e not_named

    changes_are : rows_changes m (row_merged m k g both) (name_set changed) ≡ differences m n
    changes_are =
        rows_covering m n (row_merged m k g both) (name_set changed) (IsRising-name_set changed)
        (λ y out. stays y (sym (is_among-name_set y changed) ∙ out)) (λ y i. row_is y (sym (is_among-name_set y changed) ∙ i))

    -- ---- the plan, with the names as they are found

    module _ (its names : List Name) (its_are : its ≡ users m g) (names_are : names ≡ name_set (subjects k g gains ++ its)) where
      names_changed : names ≡ name_set changed
      names_changed = names_are ∙ ap (λ l. name_set (subjects k g gains ++ l)) its_are

      pub merge_planned : (cs : List (Change A)) → cs ≡ rows_changes m (row_merged m k g both) names → IsPlan m (merge_checks m k g) (after_merge m k g) (Ok cs)
      merge_planned cs is = (ok, is ∙ ap (rows_changes m (row_merged m k g both)) names_changed ∙ changes_are)
