-- The action that sets tags of an element. (OpenStreetMap wiki, "Elements". The greatest number of tags is this
-- project's.)
use Rattle.std.specs.Prelude.{List, [], ◌∷◌, Option, length, nat_lt}
use Rattle.room_interface.specs.Prelude.{then_some, Rows, is_absent, row_at, GivenTags}
use Rattle.osm_elements.specs.declared.name.Name.{Name}
use Rattle.osm_changes.specs.SameRows.{are_same_tags}
use Rattle.room_interface.specs.declared.refusal.Refusal.{Refusal}
use Rattle.room_interface.specs.declared.refusal.Refusal.TheVariants.{Absent, TooMany, Nothing}
use Rattle.edit_simple.specs.Contents.{row_tags, with_tags, each_row, at_name}
use Rattle.edit_simple.specs.Tagging.{retagged, most_tags}

module _ {A : Type 0} where
  -- the element is absent, or would have more than 1,000 tags, or the same tags as before
  abbrev pub retag_checks : Rows A → Name → GivenTags → List (Option (Refusal A))
  retag_checks m x given =
      then_some (is_absent m x) (Absent x)
      ∷ then_some (nat_lt most_tags (length (retagged (row_tags (row_at m x)) given))) (TooMany x)
      ∷ then_some (are_same_tags (row_tags (row_at m x)) (retagged (row_tags (row_at m x)) given)) Nothing
      ∷ []

  -- the map in which each given key of x has its value, or no tag if it is given no value
  abbrev pub after_retag : Rows A → Name → GivenTags → Rows A
  after_retag m x given = each_row (at_name x (with_tags (λ tags. retagged tags given))) m
