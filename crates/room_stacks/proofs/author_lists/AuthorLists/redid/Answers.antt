use Rattle.std.proofs.Common.{◌++◌, [], ◌∷◌, ap, ◌∙◌}
use Rattle.indexmap.proofs.CallerLemmas.{keys-with_value_at}
use Rattle.room_stacks.specs.Stacks.{below_top}
use Rattle.room_stacks.specs.Inner.Lists.{Lists, author_at, authors_of, has_room_at}
use Rattle.room_stacks.proofs.Rewriting.{had_room, rewritten_at}
use Rattle.room_stacks.proofs.author_lists.AuthorLists.redid.Goals as goal

pub redid-requires : goal.redid-requires
redid-requires g c =
    had_room c.self.inside.by_author c.in-Some.ensures.unique c.args.author c.in-Some.stacks.now c.in-Some.stacks.now c.in-Some.ensures.value
    (ap (λ (l : Lists). has_room_at l (author_at (authors_of l) c.args.author)) c.self.view_is ∙ c.requires.room)

pub returns-clause-authors : goal.returns-clause-authors
returns-clause-authors g c = keys-with_value_at c.self.inside.by_author c.args.author c.redid.new.self ∙ ap authors_of c.self.view_is

pub returns-clause-stacks : goal.returns-clause-stacks
returns-clause-stacks g c =
    rw (← c.self.view_is) (rewritten_at c.self.inside.by_author c.in-Some.ensures.unique c.args.author c.in-Some.stacks.now c.redid.new.self c.in-Some.ensures.value
    (λ ns. ns ++ c.args.seq ∷ []) below_top c.redid.ensures.standing c.redid.ensures.redo)
