use Rattle.std.proofs.Common.{◌≡◌, ◌++◌, List}
use Rattle.room_wire.specs.Prelude.{members_view, Entry, entries_in, given_of}
use Rattle.room_wire.proofs.EntryLists.{with_front, SameKeys}
use Rattle.room_wire.proofs.tag_forms.given_tags_in.Given as goal

abbrev pub invariant-loop-key : goal.invariant-loop-key
invariant-loop-key l =
    (done : List Entry) × (l.fn.members.entries ≡ done ++ l.key-iterator) × SameKeys l.given_tags done
    × (with_front given_of l.given_tags (members_view l.key-iterator) ≡ entries_in given_of (members_view l.fn.members.entries))
