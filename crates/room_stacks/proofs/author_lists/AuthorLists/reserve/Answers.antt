use Rattle.std.proofs.Common.{◌≡◌, true, List, length, subst, sym, ap, ◌∙◌, arith}
use Rattle.room_interface.specs.declared.author.Author.{Author}
use Rattle.room_stacks.specs.Inner.Lists.{Lists, author_at, authors_of, has_room_at}
use Rattle.room_stacks.proofs.Numbering.{keeps_numbers, length-authors, new_number, own_number}
use Rattle.room_stacks.proofs.author_lists.AuthorLists.reserve.Goals as goal

pub returns-in_ok-reserve_at-in-Some-clause-number : goal.returns-in_ok-reserve_at-in-Some-clause-number
returns-in_ok-reserve_at-in-Some-clause-number g c =
    let before = c.args.self.now in
    let after = c.reserve_at.new.self in
    let index = sym c.in-Some.ensures.index in
    let own = own_number (authors_of c.self.inside.by_author.entries) c.args.author.now c.in-Some.number index in
    let same : authors_of after ≡ authors_of c.self.inside.by_author.entries = c.in_ok-reserve_at-in-Some.ensures.authors ∙ ap authors_of (sym c.self.view_is) in
    let long : length after ≡ length (authors_of c.self.inside.by_author.entries) = sym (length-authors after) ∙ ap length same in
    (omega (arith, own.0, long), ap (λ (all : List Author). author_at all c.in-Some.number) same ∙ own.1)

pub returns-in_ok-reserve_at-in-Some-clause-room : goal.returns-in_ok-reserve_at-in-Some-clause-room
returns-in_ok-reserve_at-in-Some-clause-room g c =
    let own = own_number (authors_of c.self.inside.by_author.entries) c.args.author.now c.in-Some.number (sym c.in-Some.ensures.index) in
    let author : author_at (authors_of c.args.self.now) c.in-Some.number ≡ c.args.author.now = ap (λ (l : Lists). author_at (authors_of l) c.in-Some.number) (sym c.self.view_is) ∙ own.1 in
    subst (λ (a : Author). has_room_at c.reserve_at.new.self a ≡ true) author c.in_ok-reserve_at-in-Some.ensures.ok

pub returns-in_ok-number-in-None-clause-numbers : goal.returns-in_ok-number-in-None-clause-numbers
returns-in_ok-number-in-None-clause-numbers g c =
    rw (← c.self.view_is, c.in_ok-number-in-None.ensures.entries) (keeps_numbers c.self.inside.by_author c.args.author.now c.reserve.new.self (sym c.in-None.ensures.found))

pub returns-in_ok-number-in-None-clause-number : goal.returns-in_ok-number-in-None-clause-number
returns-in_ok-number-in-None-clause-number g c =
    (c.in_ok-number-in-None.ensures.within, rw (c.in_ok-number-in-None.ensures.entries, c.in_ok-number-in-None.ensures.index) (new_number c.self.inside.by_author c.args.author.now c.reserve.new.self (sym c.in-None.ensures.found)))
