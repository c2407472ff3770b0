use Rattle.std.proofs.Common.{◌≡◌, true, refl, rules}
use Rattle.room_interface.specs.Authors.{is_author}
use Rattle.room_interface.proofs.Padding.{padded, taken_back}
use Rattle.room_interface.proofs.author.Author.read.Goals as goal

pub invariant_of-result : goal.invariant_of-result
invariant_of-result c =
    let text : c.copy_from_slice.new.self ≡ c.args.text.now = search rules in
    rw text (padded c.args.text.now (search rules))

pub returns : goal.returns
returns c =
    let text : c.copy_from_slice.new.self ≡ c.args.text.now = search rules in
    let named : is_author c.args.text.now ≡ true = search rules in
    rw (text, taken_back, named) refl
