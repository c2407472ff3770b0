-- Conditions under which an action is accepted alike in a map that agrees at its footprint.
use Rattle.std.proofs.Common.{sym, ap, ◌∙◌}
use Rattle.std.specs.Prelude.{◌≡◌, true, false, Option, None}
use Rattle.edit_actions.specs.Prelude.{Rows, row_at, half_at, half, is_sound, first_that_holds, after, changes, checks, refusal}
use Rattle.osm_elements.specs.declared.name.Name.{Name}
use Rattle.osm_elements.specs.declared.element.Element.{Element}
use Rattle.osm_changes.specs.declared.cell.Cell.{Cell}
use Rattle.osm_changes.specs.declared.part.Part.{Part}
use Rattle.osm_changes.specs.declared.part.Part.TheVariants.{Tags, Rest}
use Rattle.room_interface.specs.declared.action.Action.{Action}
use Rattle.edit_footprint.specs.Agreement.{Agree}
use Rattle.edit_footprint.specs.Footprints.{reaches, footprint_of, footprint}
use Rattle.edit_footprint.specs.Locality.{AcceptedAlike}
use Rattle.edit_footprint.specs.Facts.Becoming.{becomes, row_at-after}
use Rattle.edit_footprint.specs.Facts.Differences.{same_differences}
use Rattle.edit_footprint.specs.Facts.Halfwise.{becomes_halfwise}
use Rattle.edit_footprint.specs.Facts.Footprints.{halves_outside}
use Rattle.edit_footprint.specs.Facts.Reaching.{not_written}

module _ {A : Type 0} where
  -- if a sound map accepts the action, each sound map that agrees at its footprint accepts it alike
  abbrev pub IsLocal : Action A → Type 0
  IsLocal a = (m n : Rows A) → is_sound m ≡ true → is_sound n ≡ true → refusal m a ≡ None → Agree m n (footprint m a) → AcceptedAlike m n a

  -- one half of each row of n is unchanged if its cell is outside the footprint
  abbrev pub Keeps : Part → Rows A → Rows A → Action A → Type 0
  Keeps p m n a = (y : Name) → reaches (footprint m a) (record { name = y; part = p }) ≡ false → half p (row_at (after n a) y) ≡ half p (row_at n y)

  -- the action is accepted alike if it reads the same from both maps, keeps the halves of n outside, and has the same
  -- checks
  pub accepted_alike : (m n : Rows A) (a : Action A) → Agree m n (footprint m a) → ((y : Name) (o : Option (Element A)) → becomes n a y o ≡ becomes m a y o) → Keeps Tags m n a → Keeps Rest m n a
      → checks n a ≡ checks m a → refusal m a ≡ None → AcceptedAlike m n a
  accepted_alike m n a agree reads kept_tags kept_rest same ok =
      record { accepted = ap first_that_holds same ∙ ok; same_changes = changes_alike; same_footprint = ap (footprint_of a) changes_alike }
    where
      inside : (c : Cell) → reaches (footprint m a) c ≡ true → half_at (after n a) c ≡ half_at (after m a) c
      inside c i =
          ap (half c.part) (row_at-after n a c.name ∙ reads c.name (row_at n c.name)) ∙ becomes_halfwise m a c.name c.part (row_at n c.name) (row_at m c.name) (sym (agree.same_half c i))
          ∙ ap (half c.part) (sym (row_at-after m a c.name))

      kept : (p : Part) → Keeps p m n a
      kept Tags = kept_tags
      kept Rest = kept_rest

      changes_alike : changes n a ≡ changes m a
      changes_alike = same_differences m (after m a) n (after n a) (reaches (footprint m a)) (λ c i. (sym (agree.same_half c i), inside c i)) (λ c out. halves_outside m a c (not_written (footprint m a) c out)) (λ c out. kept c.part c.name out)
