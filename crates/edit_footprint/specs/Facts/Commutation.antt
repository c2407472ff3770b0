-- Two actions, accepted in sequence, commute if their footprints do not meet.
use Rattle.std.proofs.Common.{sym, ap, ◌∙◌}
use Rattle.std.specs.Prelude.{◌≡◌, Bool, true, false, None, refl}
use Rattle.edit_actions.specs.Prelude.{Rows, row_at, same_rows, tags_at, rest_at, half_at, is_sound, same_whole, sound_in_order, after, changes, is_made_action, refusal, accepted_keeps_sound}
use Rattle.osm_changes.specs.declared.cell.Cell.{Cell}
use Rattle.room_interface.specs.declared.action.Action.{Action}
use Rattle.edit_footprint.specs.Agreement.{Agree}
use Rattle.edit_footprint.specs.Commutation.{ChangePlaces}
use Rattle.edit_footprint.specs.Footprints.{footprint, meets, writes_presence, reaches_presence, writes, reaches}
use Rattle.edit_footprint.specs.Locality.{AcceptedAlike}
use Rattle.edit_footprint.specs.Facts.Differences.{same_after}
use Rattle.edit_footprint.specs.Facts.Footprints.{IsFootprint-footprint_of, rooted-footprint_of}
use Rattle.edit_footprint.specs.Facts.Leaving.{leaves_the_rest}
use Rattle.edit_footprint.specs.Facts.Locality.{locality}
use Rattle.edit_footprint.specs.Facts.Meeting.{either_way}
use Rattle.edit_footprint.specs.Facts.Reaching.{IsRooted, not_written, cells_apart, presence_apart, users_apart}

module _ {A : Type 0} where
  pub commutation : (m : Rows A) (a b : Action A) → is_sound m ≡ true → is_made_action a ≡ true → is_made_action b ≡ true → refusal m a ≡ None → refusal (after m a) b ≡ None
      → meets (footprint m a) (footprint (after m a) b) ≡ None → ChangePlaces m a b
  commutation m a b sound made_a made_b ok_a ok_b none = record {
    second_first = b_first;
    first_second = a_second;
    same_map = same_rows (after n a) (after k b) (sound_in_order (after n a) (accepted_keeps_sound n a sound_n made_a a_second.accepted).0)
        (sound_in_order (after k b) (accepted_keeps_sound k b sound_k made_b ok_b).0)
        (λ y. same_whole (row_at (after n a) y) (row_at (after k b) y) (by (tags_at y) (reaches (footprint m a) (tags_at y)) refl) (by (rest_at y) (reaches (footprint m a) (rest_at y)) refl));
  }
    where
      k : Rows A
      k = after m a

      n : Rows A
      n = after m b

      sound_k : is_sound k ≡ true
      sound_k = (accepted_keeps_sound m a sound made_a ok_a).0

      rooted_a : IsRooted (footprint m a)
      rooted_a = rooted-footprint_of a (changes m a)

      rooted_b : IsRooted (footprint k b)
      rooted_b = rooted-footprint_of b (changes k b)

      none_turned : meets (footprint k b) (footprint m a) ≡ None
      none_turned = sym (either_way (footprint m a) (footprint k b) (IsFootprint-footprint_of a (changes m a)) (IsFootprint-footprint_of b (changes k b))) ∙ none

      b_agrees : Agree k m (footprint k b)
      b_agrees = let rest = leaves_the_rest m a sound in record {
        same_half = λ c i. rest.same_half c (cells_apart (footprint k b) (footprint m a) none_turned rooted_b rooted_a c i);
        same_presence = λ x i. rest.same_presence x (presence_apart (footprint k b) (footprint m a) none_turned x i);
        same_users = λ x i. rest.same_users x (users_apart (footprint k b) (footprint m a) none_turned x i);
      }

      b_first : AcceptedAlike k m b
      b_first = locality k m b sound_k sound ok_b b_agrees

      sound_n : is_sound n ≡ true
      sound_n = (accepted_keeps_sound m b sound made_b b_first.accepted).0

      -- b has the same footprint before a
      b_alike : footprint m b ≡ footprint k b
      b_alike = b_first.same_footprint

      a_agrees : Agree m n (footprint m a)
      a_agrees = let rest = leaves_the_rest m b sound in record {
        same_half = λ c i. sym (rest.same_half c (ap (λ l. writes l c) b_alike ∙ cells_apart (footprint m a) (footprint k b) none rooted_a rooted_b c i));
        same_presence = λ x i. sym (rest.same_presence x (ap (λ l. writes_presence l x) b_alike ∙ presence_apart (footprint m a) (footprint k b) none x i));
        same_users = λ x i. sym (rest.same_users x (ap (λ l. reaches_presence l x) b_alike ∙ users_apart (footprint m a) (footprint k b) none x i));
      }

      a_second : AcceptedAlike m n a
      a_second = locality m n a sound sound_n ok_a a_agrees

      -- a cell that a's footprint reaches has the half after a, and any other cell has the half after b
      by : (c : Cell) (t : Bool) → reaches (footprint m a) c ≡ t → half_at (after n a) c ≡ half_at (after k b) c
      by c true i =
          same_after m (after m a) n (after n a) c a_second.same_changes (sym (a_agrees.same_half c i))
          ∙ sym ((leaves_the_rest k b sound_k).same_half c (cells_apart (footprint m a) (footprint k b) none rooted_a rooted_b c i))
      by c false out =
          (leaves_the_rest n a sound_n).same_half c (ap (λ l. writes l c) a_second.same_footprint ∙ not_written (footprint m a) c out)
          ∙ same_after k (after k b) m (after m b) c b_first.same_changes (sym ((leaves_the_rest m a sound).same_half c (not_written (footprint m a) c out)))
