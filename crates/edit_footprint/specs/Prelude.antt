-- The words that proofs of this crate and the crates above cite, passed on from one place. It declares nothing.
pub use Rattle.edit_actions.specs.Prelude.{AllByRecursion, AllocError, AreChanges, AreFrom, AreInOrder, AreInOrder-after, AreInOrder-with_row, AreLists, DiffersFromLast, Gains, IsFiltered, IsFirstUnsound, IsPartitionPoint, IsRising-cell_set, IsRising-name_set, Lacks, Loses, Rows, SameLists, StoreState, accepted_keeps_sound, after, applied_to, are_made, are_made-one, are_of_kinds, are_same_halves, at_position, bare_rows, below_all, below_less, both_at, cell_cmp, cell_cmp-IsAntisymmetric, cell_cmp_total, cell_of, cell_set, cells_of, change_at, changed-differences, changed-inverse, changed_cells, changed_names, changed_row, changed_rows, changes, counted, covering, dedup, differences, drop_at, eq_by_cmp_equiv, equal_row, find, first_that_holds, goes, half, half_at, has-append, has-cell_set, inverse, is_among, is_among-append, is_among-name_set, is_among-passing, is_among_own, is_group_length, is_lt, is_made_action, is_made_edit, is_of_length, is_same_author, is_same_cell, is_same_cell-itself, is_same_row, is_sound, is_sound_row, join_row, kept, less, member_pair, merge_row, name_cmp, name_cmp_is, name_eq_is, name_set, names_but, names_of, nat_cmp, nat_cmp-IsAntisymmetric, one_fits, option_or, or_right, ordering_reverse, references, refers_to, refusal, rest_at, rising_names, row_after, row_at, row_at-changed, row_at-with_row, row_references, row_standing, rows_changes, same_as_cell_set, same_cells, same_itself, same_rows, same_text_itself, same_texts, same_whole, sorted_is_name_set, sound_in_order, sound_kinds, sound_row, split_off, tags_at, tags_rest, then_some, there_by_half, told_kind, told_node, unsound_map, users, with_row}
pub use Rattle.rising_lists.specs.Facts.Rising.{IsRising-but, is_among-but, same_rising}
pub use Rattle.rising_lists.specs.Facts.Searching.{below_at, search_tells}
pub use Rattle.rising_lists.specs.Facts.Tables.{IsTable-lists}
pub use Rattle.rising_lists.specs.Rising.{IsRising, but}
pub use Rattle.std.specs.List.Sorted.{IsNonDecreasing}
pub use Rattle.std.specs.Slice.{IsItemAt}
pub use Rattle.osm_changes.specs.Prelude.{Kind, int_cmp_is, is_present, is_same, kind_eq_is, kind_order_is, kind_rank, list_any, ordering_then, same_name, w64}
pub use Rattle.edit_footprint.specs.Agreement.{Agree}
pub use Rattle.edit_footprint.specs.Facts.Becoming.{becomes, row_at-after}
pub use Rattle.edit_footprint.specs.Facts.CellSets.{has-more, has-rests}
pub use Rattle.edit_footprint.specs.Facts.Differences.{same_after, same_differences}
pub use Rattle.edit_footprint.specs.Facts.Footprints.{IsFootprint-footprint_of, halves_outside, namers_outside, presence_outside, rooted-footprint_of}
pub use Rattle.edit_footprint.specs.Facts.Halves.{same_references}
pub use Rattle.edit_footprint.specs.Facts.Holding.{AreHeld-fallen, AreHeld-standing, HoldsOnly-standing, fallen_again, holding-fallen, holding-standing, just_one, same_holders}
pub use Rattle.edit_footprint.specs.Facts.Leaving.{is_among-users}
pub use Rattle.edit_footprint.specs.Facts.Locality.{locality}
pub use Rattle.edit_footprint.specs.Facts.Meeting.{apart, both_have, either_way, none_lesser, not_less, not_less_itself, turned}
pub use Rattle.edit_footprint.specs.Facts.Numbers.{AreBelow, IsRising-last, first_above, is_among-last, is_below, least_above, same_number, tied}
pub use Rattle.edit_footprint.specs.Facts.Reaching.{IsRooted, IsWithin, cells_apart, not_written, one_of, presence_apart, presence_not_written, reaches-within, reaches_presence-within, rooted-append, rooted-touch_set, users_apart, whole_reached, writes-within}
pub use Rattle.edit_footprint.specs.Facts.Rivals.{any_from, any_gives, clash, rival_either_way, rival_name, which_rival}
pub use Rattle.edit_footprint.specs.Facts.Touches.{IsFootprint-touch_set, does-append, does-more, does-own, does-touch_set, in_first, in_second, is_same_touch-itself, same_as_touch_set, same_footprints, same_presence_read, same_touch_set, same_touches, touch_cmp-IsAntisymmetric, touch_cmp_total}
pub use Rattle.edit_footprint.specs.Footprints.{Shares, begun_or_ceased, footprint, footprint_of, half_references, meets, reaches, reaches_presence, subjects, unglued_from, writes, writes_presence}
pub use Rattle.edit_footprint.specs.Holding.{AreHeld, Held, HoldsOnly, IsFirst, IsFirstAfter, IsFirstHolder, IsNext, Meets, fallen, holding, holds, standing}
pub use Rattle.edit_footprint.specs.Locality.{AcceptedAlike}
pub use Rattle.edit_footprint.specs.Touches.{IsFootprint, Touch, access_rank, cell_read, cell_written, does, is_same_touch, is_write, presence_read, presence_written, reader_of, rivals, touch_cmp, touch_set, writer_of}
pub use Rattle.edit_footprint.specs.declared.access.Access.{Access}
pub use Rattle.edit_footprint.specs.declared.access.Access.TheVariants.{ReadsPresence, ReadsRest, ReadsTags, WritesPresence, WritesRest, WritesTags}
pub use Rattle.osm_changes.specs.declared.cell.Cell.{Cell}
pub use Rattle.osm_changes.specs.declared.change.Change.{Change}
pub use Rattle.osm_changes.specs.declared.part.Part.{Part}
pub use Rattle.osm_changes.specs.declared.part.Part.TheVariants.{Rest, Tags}
pub use Rattle.osm_elements.specs.declared.member.Member.{Member}
pub use Rattle.osm_elements.specs.declared.name.Name.{Name}
