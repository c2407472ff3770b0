use Rattle.std.proofs.Common.{ap, ◌∙◌}
use Rattle.std.proofs.lemmas.Result.{on_ok_weaker}
use Rattle.indexmap.proofs.CallerLemmas.{keys-with_value_at}
use Rattle.room_stacks.specs.Inner.Lists.{authors_of}
use Rattle.room_stacks.proofs.Rewriting.{has_room_after, keeps_rooms_at, same_stacks_at}
use Rattle.room_stacks.proofs.author_lists.AuthorLists.reserve_at.Goals as goal

pub returns-clause-authors : goal.returns-clause-authors
returns-clause-authors g c = keys-with_value_at c.self.inside.by_author c.args.author c.reserve.new.self ∙ ap authors_of c.self.view_is

pub returns-clause-same : goal.returns-clause-same
returns-clause-same g c =
    rw (← c.self.view_is) (same_stacks_at c.self.inside.by_author c.in-Some.ensures.unique c.args.author c.in-Some.stacks.now c.reserve.new.self c.in-Some.ensures.value c.reserve.ensures.standing c.reserve.ensures.redo)

pub returns-clause-kept : goal.returns-clause-kept
returns-clause-kept g c =
    rw (← c.self.view_is) (keeps_rooms_at c.self.inside.by_author c.in-Some.ensures.unique c.args.author c.in-Some.stacks.now c.reserve.new.self c.in-Some.ensures.value c.reserve.ensures.kept)

pub returns-clause-ok : goal.returns-clause-ok
returns-clause-ok g c =
    rw (← c.self.view_is) (on_ok_weaker c.reserve.result
    (has_room_after c.self.inside.by_author c.in-Some.ensures.unique c.args.author c.in-Some.stacks.now c.reserve.new.self c.in-Some.ensures.value) c.reserve.ensures.ok)
