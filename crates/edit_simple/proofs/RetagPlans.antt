-- The plan of a retag.
use Rattle.std.proofs.Common.{◌≡◌, ◌≢◌, ◌⊎◌, ◌≤◌, ◌<◌, ◌+◌, ℕ, true, false, not, T, List, [], ◌∷◌, ◌++◌, Option, Some, None, Ok, is_some, length, map, take, drop, nat_lt, refl, inl, inr, get_or, sym, ap, subst, ◌∙◌, arith}
use Rattle.std.proofs.lemmas.Bool.Decides.{nat_tests}
use Rattle.std.proofs.lemmas.List.{map-append, take-append-drop}
use Rattle.std.proofs.lemmas.List.Sums.{fold-append}
use Rattle.edit_simple.specs.Prelude.{then_some, is_sorted, Keyed, TextFault, Name, Element, tags_of, Rows, row_at, text_cmp, value_at, Pairs, AreTagRows, is_short, is_none_or, sorted_rows, not_over_1000, Change, row_changes, are_same_tags, Absent, TooMany, Nothing, first_that_holds, row_tags, with_tags, IsPlan, retag_checks, after_retag, GivenTags, AreGiven, given_pair, retagged, most_tags, one_rewritten, drop_at, tags_of-with_tags, same_tags_itself}
use Rattle.edit_simple.specs.Inner.Retagging.{all_removed, all_valued, valued}
use Rattle.edit_simple.proofs.Retagged.{two_goes, sorted-all_valued, too_many_in_the_end}
use Rattle.osm_elements.specs.declared.fault.TextFault.TheVariants as faults
use Rattle.osm_elements.specs.declared.element.Element.TheVariants as elements

module _ {A : Type 0} where
  -- if a new key finds 1,000 tags, there are more than 1,000 in the end
  pub too_many_given : (rows : List (Keyed (Option (List ℕ)) A)) (t u : Pairs) (i : ℕ) (x : Keyed (Option (List ℕ)) A) → T (is_sorted text_cmp t) → i < length rows → x ≡ get_or rows i x → u ≡ all_valued t (map given_pair (take i rows))
      → is_some x.value ≡ true → is_some (value_at u x.key) ≡ false → 1000 ≤ length u → 1000 < length (all_valued t (map given_pair rows))
  too_many_given rows t u i x sorted l is inv some new full =
      subst (λ n. 1000 < length n) (sym split) (by x.value some)
    where
      rest : GivenTags
      rest = map given_pair (drop (i + 1) rows)

      split : all_valued t (map given_pair rows) ≡ all_valued (valued u x.key x.value) rest
      split =
          ap (λ l. all_valued t (map given_pair l)) (sym (take-append-drop i rows) ∙ ap (λ l. take i rows ++ l) (drop_at rows i x l is))
          ∙ ap (all_valued t) (map-append given_pair (take i rows) (x ∷ drop (i + 1) rows))
          ∙ fold-append (λ v g. valued v g.0 g.1) t (map given_pair (take i rows)) (given_pair x ∷ rest)
          ∙ ap (λ v. all_valued (valued v x.key x.value) rest) (sym inv)

      sorted_u : T (is_sorted text_cmp u)
      sorted_u = subst (λ v. T (is_sorted text_cmp v)) (sym inv) (sorted-all_valued (map given_pair (take i rows)) t sorted)

      by : (o : Option (List ℕ)) → is_some o ≡ true → 1000 < length (all_valued (valued u x.key o) rest)
      by None s = absurd (cc)
      by (Some value) s = too_many_in_the_end x.key value rest u sorted_u new full

  -- the fault of one key is the fault of all keys
  pub fault_told : (rows : List (Keyed (Option (List ℕ)) A)) (t u : Pairs) (i : ℕ) (x : Keyed (Option (List ℕ)) A) (f : TextFault) → T (is_sorted text_cmp t) → i < length rows → x ≡ get_or rows i x → u ≡ all_valued t (map given_pair (take i rows))
      → ((f ≡ faults.Memory) ⊎ ((f ≡ faults.TooManyTags) × (is_some x.value ≡ true) × (is_some (value_at u x.key) ≡ false) × (1000 ≤ length u)))
      → ((f ≡ faults.TooManyTags) × (1000 < length (all_valued t (map given_pair rows)))) ⊎ (f ≡ faults.Memory)
  fault_told rows t u i x f sorted l is inv (inl h) = inr h
  fault_told rows t u i x f sorted l is inv (inr h) = inl (h.0, too_many_given rows t u i x sorted l is inv h.1 h.2 h.3)

-- the tags after both passes
module _ (t copied less new : Pairs) (g g2 g4 : GivenTags) (copy : copied ≡ t) (same2 : g2 ≡ g) (same4 : g4 ≡ g) (removed : less ≡ all_removed copied g2) (tags : AreTagRows t) (given : AreGiven g) where
  made : all_valued less g4 ≡ retagged t g
  made = (λ i. all_valued (removed i) (same4 i)) ∙ (λ i. all_valued (all_removed (copy i) (same2 i)) g) ∙ two_goes g t (sorted_rows (is_none_or is_short) g given) (sorted_rows is_short t tags)

  pub retagged_well : new ≡ all_valued less g4 → AreTagRows new → (nat_lt most_tags (length (retagged t g)) ≡ false) × (new ≡ retagged t g)
  retagged_well is sound = (ap (λ l. nat_lt most_tags (length l)) (sym (is ∙ made)) ∙ not_over_1000 is_short new sound, is ∙ made)

  over : (n : ℕ) → 1000 < n → nat_lt most_tags n ≡ true
  over n h = grind (arith, nat_tests)

  pub retagged_over : (f : TextFault) → f ≡ faults.TooManyTags → (((f ≡ faults.TooManyTags) × (1000 < length (all_valued less g4))) ⊎ (f ≡ faults.Memory)) → nat_lt most_tags (length (retagged t g)) ≡ true
  retagged_over f is (inl h) = ap (λ l. nat_lt most_tags (length l)) (sym made) ∙ over (length (all_valued less g4)) h.1
  retagged_over f is (inr e) = absurd (cc (sym is ∙ e))

module _ {A : Type 0} where
  -- elements with different tags differ
  pub tags_apart : (v before after : Element A) (own tags : Pairs) → before ≡ v → after ≡ with_tags (λ _. tags) v → own ≡ tags_of v → false ≡ are_same_tags own tags → ◌≢◌ {A = Option (Element A)} (Some after) (Some before)
  tags_apart v before after own tags b a o other e =
      let same : tags ≡ own = sym (tags_of-with_tags (λ _. tags) v) ∙ ap tags_of (sym a) ∙ ap row_tags e ∙ ap tags_of b ∙ sym o in
      cc (sym (same_tags_itself own) ∙ ap (are_same_tags own) (sym same) ∙ sym other)

  with_same : (f : Pairs → Pairs) (tags : Pairs) (v : Element A) → tags ≡ f (tags_of v) → with_tags (λ _. tags) v ≡ with_tags f v
  with_same f tags (elements.Node lat lon t) e = ap (λ l. elements.Node lat lon l) e
  with_same f tags (elements.Way nodes t) e = ap (λ l. elements.Way nodes l) e
  with_same f tags (elements.Relation members t) e = ap (λ l. elements.Relation members l) e

  pub retag_planned : (m : Rows A) (x : Name) (given : GivenTags) (v before after : Element A) (own tags : Pairs) (cs : List (Change A)) → row_at m x ≡ Some v → own ≡ tags_of v
      → nat_lt most_tags (length (retagged own given)) ≡ false → tags ≡ retagged own given → false ≡ are_same_tags own tags → before ≡ v → after ≡ with_tags (λ _. tags) v
      → cs ≡ row_changes x (Some before) (Some after) → IsPlan m (retag_checks m x given) (after_retag m x given) (Ok cs)
  retag_planned m x given v before after own tags cs is o few made other b a changes = (
    (λ i. first_that_holds (then_some (not (is_some (is i))) (Absent x) ∷ then_some (nat_lt most_tags (length (retagged (row_tags (is i)) given))) (TooMany x) ∷ then_some (are_same_tags (row_tags (is i)) (retagged (row_tags (is i)) given)) Nothing ∷ []))
        ∙ (λ i. first_that_holds (then_some (nat_lt most_tags (length (retagged (sym o i) given))) (TooMany x) ∷ then_some (are_same_tags (sym o i) (retagged (sym o i) given)) Nothing ∷ []))
        ∙ (λ i. first_that_holds (then_some (few i) (TooMany x) ∷ then_some (((ap (are_same_tags own) (sym made)) ∙ sym other) i) Nothing ∷ [])),
    changes ∙ (λ i. row_changes x (Some (b i)) (Some (turned i))) ∙ one_rewritten m x (with_tags f) v is apart,
  )
    where
      f : Pairs → Pairs
      f l = retagged l given

      turned : after ≡ with_tags f v
      turned = a ∙ with_same f tags v (made ∙ ap f o)

      apart : ◌≢◌ {A = Option (Element A)} (Some (with_tags f v)) (Some v)
      apart e = tags_apart v v (with_tags f v) own tags refl (sym (with_same f tags v (made ∙ ap f o))) o other e
