-- The changes of one row, pushed half by half.
use Rattle.std.proofs.Common.{◌≡◌, List, [], ◌∷◌, ◌++◌, Option, sym, ap, ◌∙◌, append_assoc, filter}
use Rattle.std.proofs.lemmas.List.Elements.{filter-append}
use Rattle.osm_changes.specs.Prelude.{Name, Element, Change, Half, Part, Tags, Rest, differs, half_change, row_changes, half}

module _ {A : Type 0} where
  abbrev pub change_of : Name → Part → Option (Half A) → Option (Half A) → Change A
  change_of x p before after = record { name = x; part = p; before = before; after = after }

  pub pushed : (x : Name) (o p : Option (Element A)) (h k i j : Option (Half A)) → h ≡ half Tags o → k ≡ half Tags p
      → i ≡ half Rest o → j ≡ half Rest p
      → (cs ds es : List (Change A)) → ds ≡ cs ++ filter differs (change_of x Tags h k ∷ [])
      → es ≡ ds ++ filter differs (change_of x Rest i j ∷ []) → es ≡ cs ++ row_changes x o p
  pushed x o p h k i j tags_before tags_after rest_before rest_after cs ds es first second =
      second ∙ (λ n. first n ++ filter differs (change_of x Rest (rest_before n) (rest_after n) ∷ []))
      ∙ ap (λ c. (cs ++ filter differs (c ∷ [])) ++ filter differs (half_change x o p Rest ∷ []))
      (λ n. change_of x Tags (tags_before n) (tags_after n))
      ∙ append_assoc cs (filter differs (half_change x o p Tags ∷ [])) (filter differs (half_change x o p Rest ∷ []))
      ∙ ap (λ l. cs ++ l) (sym (filter-append differs (half_change x o p Tags ∷ []) (half_change x o p Rest ∷ [])))
