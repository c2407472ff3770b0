-- The tags of two elements, put one by one.
use Rattle.std.proofs.Common.{◌≡◌, ◌⊎◌, ◌≤◌, ◌<◌, ◌+◌, ℕ, true, false, T, List, [], ◌∷◌, ◌++◌, is_some, length, map, take, drop, nat_lt, cond, inl, inr, get_or, sym, ap, subst, ◌∙◌, arith}
use Rattle.std.proofs.lemmas.Bool.Decides.{nat_tests}
use Rattle.std.proofs.lemmas.List.{map-append, take-append-drop}
use Rattle.std.proofs.lemmas.List.Sums.{fold-append}
use Rattle.edit_topology.specs.Prelude.{nat_list_cmp_total, is_sorted, put, is_sorted-put, length-put, TextFault, Keyed, text_cmp, value_at, Pairs, tag_pair, AreTagRows, is_short, longer-put, not_over_1000, most_tags, drop_at, both_tags}
use Rattle.osm_elements.specs.declared.fault.TextFault.TheVariants as faults

-- ---- how many tags there are

-- adding tags never makes the list shorter
longer-both : (others t : Pairs) → T (is_sorted text_cmp t) → length t ≤ length (both_tags t others)
longer-both [] t h = omega arith
longer-both (p ∷ ps) t h = omega (arith, longer-put p.0 p.1 t h, longer-both ps (put text_cmp p.0 p.1 t) (is_sorted-put text_cmp nat_list_cmp_total p.0 p.1 t h))

sorted-both : (others t : Pairs) → T (is_sorted text_cmp t) → T (is_sorted text_cmp (both_tags t others))
sorted-both [] t h = h
sorted-both (p ∷ ps) t h = sorted-both ps (put text_cmp p.0 p.1 t) (is_sorted-put text_cmp nat_list_cmp_total p.0 p.1 t h)

-- if a thousand tags get a new key, more than a thousand are there at the end
too_many_in_the_end : (key value : List ℕ) (rest t : Pairs) → T (is_sorted text_cmp t) → is_some (value_at t key) ≡ false → 1000 ≤ length t
    → 1000 < length (both_tags (put text_cmp key value t) rest)
too_many_in_the_end key value rest t h new full =
    let one_more : length (put text_cmp key value t) ≡ length t + 1 = length-put text_cmp nat_list_cmp_total key value t h ∙ ap (λ b. cond b (length t) (length t + 1)) new in
    omega (arith, full, one_more, longer-both rest (put text_cmp key value t) (is_sorted-put text_cmp nat_list_cmp_total key value t h))

-- ---- tag by tag

module _ {A : Type 0} where
  -- if a new key finds a thousand tags, there are more at the end
  too_many_put : (rows : List (Keyed (List ℕ) A)) (t u : Pairs) (i : ℕ) (x : Keyed (List ℕ) A) → T (is_sorted text_cmp t) → i < length rows → x ≡ get_or rows i x → u ≡ both_tags t (map tag_pair (take i rows))
      → is_some (value_at u x.key) ≡ false → 1000 ≤ length u → 1000 < length (both_tags t (map tag_pair rows))
  too_many_put rows t u i x sorted l is inv new full = subst (λ n. 1000 < length n) (sym split) (too_many_in_the_end x.key x.value rest u sorted_u new full)
    where
      rest : Pairs
      rest = map tag_pair (drop (i + 1) rows)

      split : both_tags t (map tag_pair rows) ≡ both_tags (put text_cmp x.key x.value u) rest
      split =
          ap (λ l. both_tags t (map tag_pair l)) (sym (take-append-drop i rows) ∙ ap (λ l. take i rows ++ l) (drop_at rows i x l is))
          ∙ ap (both_tags t) (map-append tag_pair (take i rows) (x ∷ drop (i + 1) rows))
          ∙ fold-append (λ v p. put text_cmp p.0 p.1 v) t (map tag_pair (take i rows)) (tag_pair x ∷ rest)
          ∙ ap (λ v. both_tags (put text_cmp x.key x.value v) rest) (sym inv)

      sorted_u : T (is_sorted text_cmp u)
      sorted_u = subst (λ v. T (is_sorted text_cmp v)) (sym inv) (sorted-both (map tag_pair (take i rows)) t sorted)

  -- from the fault of one tag to the fault of all
  pub fault_told : (rows : List (Keyed (List ℕ) A)) (t u : Pairs) (i : ℕ) (x : Keyed (List ℕ) A) (f : TextFault) → T (is_sorted text_cmp t) → i < length rows → x ≡ get_or rows i x → u ≡ both_tags t (map tag_pair (take i rows))
      → ((f ≡ faults.Memory) ⊎ ((f ≡ faults.TooManyTags) × (is_some (value_at u x.key) ≡ false) × (1000 ≤ length u)))
      → ((f ≡ faults.TooManyTags) × (1000 < length (both_tags t (map tag_pair rows)))) ⊎ (f ≡ faults.Memory)
  fault_told rows t u i x f sorted l is inv (inl h) = inr h
  fault_told rows t u i x f sorted l is inv (inr h) = inl (h.0, too_many_put rows t u i x sorted l is inv h.1 h.2)

-- ---- the whole

over : (n : ℕ) → 1000 < n → nat_lt most_tags n ≡ true
over n h = grind (arith, nat_tests)

module _ (t copied new others rows : Pairs) (copy : copied ≡ t) (same : rows ≡ others) where
  made : both_tags copied rows ≡ both_tags t others
  made = λ i. both_tags (copy i) (same i)

  pub united_well : new ≡ both_tags copied rows → AreTagRows new → (nat_lt most_tags (length (both_tags t others)) ≡ false) × (new ≡ both_tags t others)
  united_well is sound = (ap (λ l. nat_lt most_tags (length l)) (sym (is ∙ made)) ∙ not_over_1000 is_short new sound, is ∙ made)

  pub united_over : (f : TextFault) → f ≡ faults.TooManyTags → (((f ≡ faults.TooManyTags) × (1000 < length (both_tags copied rows))) ⊎ (f ≡ faults.Memory)) → nat_lt most_tags (length (both_tags t others)) ≡ true
  united_over f is (inl h) = ap (λ l. nat_lt most_tags (length l)) (sym made) ∙ over (length (both_tags copied rows)) h.1
  united_over f is (inr e) = absurd (cc (sym is ∙ e))
