-- The words that proofs of this crate and the crates above cite, passed on from one place. It declares nothing.
pub use Rattle.room_interface.specs.Prelude.{AreInOrder, GivenTags, IsBinarySearchResult, Pairs, Rows, alone, are_of_kinds, are_rising, at_position, bytes_decides, find, into_iter_items, is_absent, is_among, is_made_request, is_made_room_call, is_present, is_same_author, is_same_text, list_all, list_any, lookup, name_cmp, named, names_of, one_author, put_row, refusal_reply, refused_by, row_at, without_row}
pub use Rattle.std.specs.Cmp.Lexicographic.{nat_list_eq_equiv}
pub use Rattle.std.specs.List.{IsDistinct, position_or_len}
pub use Rattle.std.specs.List.Sorted.{IsNonDecreasing, IsStrictlyIncreasing}
pub use Rattle.room_interface.specs.declared.author.Author.{Author}
pub use Rattle.room_stacks.specs.Facts.Numbered.{above_entries, deeds_from-push, kept_standing, redo_entries, spent_entries, standing_entries}
pub use Rattle.room_stacks.specs.Facts.OneMore.{and_false, is_work_of, none_of_another, redo-push, standing-undid, standing-work, stands}
pub use Rattle.room_stacks.specs.Facts.Rising.{IsRising-filter, IsRising-passing, IsRising-push, below_numbers, drops, increasing, keeps, without_none}
pub use Rattle.room_stacks.specs.Numbered.{deeds_from}
pub use Rattle.room_stacks.specs.Stacks.{IsAboveAll, StacksState, doer, is_standing, is_work, number, redo, redo_after, spends, spent, standing, top, undoes, works}
pub use Rattle.room_stacks.specs.declared.deed.Deed.{Deed}
pub use Rattle.room_stacks.specs.declared.deed.Deed.TheVariants.{Did, Redid, Undid}
pub use Rattle.room_stacks.specs.declared.spent_ids.Spending.{Spending}
pub use Rattle.room_stacks.specs.declared.spent_ids.Work.{Work}
