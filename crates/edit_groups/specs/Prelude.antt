-- The words that proofs of this crate and the crates above cite, passed on from one place. It declares nothing.
pub use Rattle.edit_footprint.specs.Prelude.{AllocError, AreChanges, AreFrom, AreHeld, AreHeld-fallen, AreHeld-standing, AreInOrder, AreInOrder-with_row, Held, HoldsOnly, HoldsOnly-standing, IsFirst, IsFirstAfter, IsFirstHolder, IsFirstUnsound, IsFootprint, IsNext, IsNonDecreasing, IsRising-name_set, Rows, Shares, StoreState, apart, applied_to, are_made, are_made-one, are_of_kinds, at_position, becomes, both_have, but, cell_of, changed-differences, changed-inverse, changed_cells, changed_names, changed_row, changed_rows, counted, covering, differences, drop_at, equal_row, fallen, fallen_again, find, first_that_holds, footprint_of, goes, half, half_at, holding, holding-fallen, holding-standing, holds, inverse, is_among, is_among-append, is_among-name_set, is_among_own, is_group_length, is_lt, is_made_action, is_made_edit, is_of_length, is_same_author, is_same_row, is_sound, is_sound_row, join_row, just_one, kept, meets, merge_row, name_cmp, name_cmp_is, name_eq_is, name_set, nat_cmp, none_lesser, one_fits, option_or, or_right, references, rest_at, row_after, row_at, row_at-after, row_at-changed, row_at-with_row, row_standing, rows_changes, same_holders, same_number, same_text_itself, same_texts, sorted_is_name_set, sound_in_order, sound_kinds, sound_row, split_off, standing, subjects, tags_at, then_some, there_by_half, tied, told_kind, told_node, unsound_map, users, with_row}
pub use Rattle.edit_groups.specs.Edits.{after, changes, footprint, refusal}
pub use Rattle.edit_groups.specs.Facts.Accepted.{accepted_keeps_sound}
pub use Rattle.edit_groups.specs.Facts.Commutation.{commutation}
pub use Rattle.edit_groups.specs.Facts.InTurn.{none_refused}
pub use Rattle.edit_groups.specs.Facts.Local.{AreInOrder-after, IsFootprint-footprint, changes_lead, keeps_sound}
pub use Rattle.edit_groups.specs.Groups.{after_all, first_refused, group_changes, group_refusal, nothing_changed, refused_at, refused_or, touched}
pub use Rattle.edit_groups.specs.Laws.{ChangePlaces}
pub use Rattle.edit_groups.specs.Plans.{IsEditPlan}
pub use Rattle.edit_footprint.specs.Touches.{Touch, does, is_same_touch, rivals, touch_cmp, touch_set}
pub use Rattle.osm_changes.specs.declared.cell.Cell.{Cell}
pub use Rattle.osm_changes.specs.declared.change.Change.{Change}
pub use Rattle.osm_elements.specs.declared.name.Name.{Name}
pub use Rattle.room_interface.specs.declared.action.Action.{Action}
pub use Rattle.room_interface.specs.declared.edit.Edit.{Edit}
pub use Rattle.room_interface.specs.declared.edit.Edit.TheVariants.{Group}
pub use Rattle.room_interface.specs.declared.edit_refusal.EditRefusal.{EditRefusal}
pub use Rattle.room_interface.specs.declared.refusal.Refusal.{Refusal}
pub use Rattle.room_interface.specs.declared.refusal.Refusal.TheVariants.{Memory}
