-- An accepted retag changes only the tags of its name.
use Rattle.std.proofs.Common.{◌≡◌, ◌≢◌, Bool, true, false, not, cond, None, Some, List, [], ◌∷◌, refl, sym, ap, ◌∙◌}
use Rattle.edit_actions.specs.Prelude.{Name, Element, Node, Way, Relation, tags_of, Rows, is_absent, is_present, row_at, Pairs, Change, Tags, Rest, are_same_tags, tags_at, changed_cells, differences, half_change, row_changes, half, are_same_halves, same_itself, tags_itself, Refusal, Absent, Nothing, first_that_holds, row_tags, with_tags, retag_checks, after_retag, GivenTags, nones, not_so, from_false, one_rewritten, is_there, tags_of-with_tags}
use Rattle.edit_simple.specs.Tagging.{retagged}

module _ {A : Type 0} where
  rest_stays : (f : Pairs → Pairs) (v : Element A) → half Rest (Some (with_tags f v)) ≡ half Rest (Some v)
  rest_stays f (Node lat lon tags) = refl
  rest_stays f (Way nodes tags) = refl
  rest_stays f (Relation members tags) = refl

  -- an element that gets different tags changes only in this cell
  tags_alone : (x : Name) (f : Pairs → Pairs) (v : Element A) → are_same_tags (tags_of v) (f (tags_of v)) ≡ false
      → changed_cells (row_changes x (Some v) (Some (with_tags f v))) ≡ tags_at x ∷ []
  tags_alone x f v other =
      λ i. changed_cells (cond (not (tags i)) (half_change x (Some v) (Some (with_tags f v)) Tags ∷ rest_if (rest i))
      (rest_if (rest i)))
    where
      rest_if : Bool → List (Change A)
      rest_if b = cond (not b) (half_change x (Some v) (Some (with_tags f v)) Rest ∷ []) []

      tags : are_same_halves (half Tags (Some v)) (half Tags (Some (with_tags f v))) ≡ false
      tags = ap (are_same_tags (tags_of v)) (tags_of-with_tags f v) ∙ other

      rest : are_same_halves (half Rest (Some v)) (half Rest (Some (with_tags f v))) ≡ true
      rest = ap (are_same_halves (half Rest (Some v))) (rest_stays f v) ∙ same_itself (half Rest (Some v))

  pub retag_tells : (m : Rows A) (x : Name) (given : GivenTags) → first_that_holds (retag_checks m x given) ≡ None
      → changed_cells (differences m (after_retag m x given)) ≡ tags_at x ∷ []
  retag_tells m x given ok = ap changed_cells (sym (one_rewritten m x (with_tags f) row.0 row.1 apart))
      ∙ tags_alone x f row.0 other
    where
      f : Pairs → Pairs
      f tags = retagged tags given

      row : (v : Element A) × (row_at m x ≡ Some v)
      row = is_there m x (from_false (is_present m x)
          (not_so {X = Refusal A} (is_absent m x) (Absent x) (nones (retag_checks m x given) ok).0))

      other : are_same_tags (tags_of row.0) (f (tags_of row.0)) ≡ false
      other =
          (λ i. are_same_tags (tags_in i) (f (tags_in i)))
          ∙ not_so {X = Refusal A} (are_same_tags (row_tags (row_at m x)) (f (row_tags (row_at m x)))) Nothing
          (nones (retag_checks m x given) ok).1.1.0
        where
          tags_in : tags_of row.0 ≡ row_tags (row_at m x)
          tags_in = ap row_tags (sym row.1)

      apart : Some (with_tags f row.0) ≢ Some row.0
      apart e =
          cc (sym (tags_itself (tags_of row.0))
          ∙ ap (are_same_tags (tags_of row.0)) (sym (ap row_tags e) ∙ tags_of-with_tags f row.0) ∙ other)
