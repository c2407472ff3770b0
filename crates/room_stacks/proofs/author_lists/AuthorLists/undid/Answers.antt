use Rattle.std.proofs.Common.{◌++◌, [], ◌∷◌, sym, ap, subst, ◌∙◌}
use Rattle.indexmap.proofs.CallerLemmas.{keys-with_value_at}
use Rattle.room_stacks.specs.Inner.Lists.{Lists, author_at, authors_of, has_room_at, standing_at, IsRising, without}
use Rattle.room_stacks.proofs.Rewriting.{had_room, rewritten_at, standing_of_number}
use Rattle.room_stacks.proofs.author_lists.AuthorLists.undid.Goals as goal

pub undid-requires-clause-room : goal.undid-requires-clause-room
undid-requires-clause-room g c =
    had_room c.self.inside.by_author c.in-Some.ensures.unique c.args.author c.in-Some.stacks.now c.in-Some.stacks.now c.in-Some.ensures.value
    (ap (λ (l : Lists). has_room_at l (author_at (authors_of l) c.args.author)) c.self.view_is ∙ c.requires.room)

pub undid-requires-clause-rising : goal.undid-requires-clause-rising
undid-requires-clause-rising g c =
    let found = standing_of_number c.self.inside.by_author c.in-Some.ensures.unique c.args.author c.in-Some.stacks.now c.in-Some.stacks.now c.in-Some.ensures.value in
    subst IsRising (sym (ap (λ (l : Lists). standing_at l (author_at (authors_of l) c.args.author)) c.self.view_is) ∙ found) c.requires.rising

pub returns-clause-authors : goal.returns-clause-authors
returns-clause-authors g c = keys-with_value_at c.self.inside.by_author c.args.author c.undid.new.self ∙ ap authors_of c.self.view_is

pub returns-clause-stacks : goal.returns-clause-stacks
returns-clause-stacks g c =
    rw (← c.self.view_is) (rewritten_at c.self.inside.by_author c.in-Some.ensures.unique c.args.author c.in-Some.stacks.now c.undid.new.self c.in-Some.ensures.value
    (without c.args.of) (λ ns. ns ++ c.args.of ∷ []) c.undid.ensures.standing c.undid.ensures.redo)
