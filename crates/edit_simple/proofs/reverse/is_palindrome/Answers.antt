use Rattle.std.proofs.Common.{◌&&◌, ◌+◌, drop, reverse, sym, ap, ◌∙◌}
use Rattle.osm_changes.specs.SameRows.{are_same_names}
use Rattle.edit_simple.proofs.Palindromes.{alike_from}
use Rattle.edit_simple.proofs.reverse.is_palindrome.Goals as goal

pub returns-then-not-is_same : goal.returns-then-not-is_same
returns-then-not-is_same c =
    let names = c.args.names.now in
    let i = c.loop-place.place in
    sym (c.loop-place.invariant ∙ alike_from names i c.index-names-place.result c.index-names-names.result c.loop-place-test.true c.index-names-place.is c.index-names-names.is
    ∙ ap (λ b. b && are_same_names (drop (i + 1) names) (drop (i + 1) (reverse names))) (sym c.if-not-is_same.ensures))

pub loop-place-preserved : goal.loop-place-preserved
loop-place-preserved c =
    let names = c.args.names.now in
    let i = c.loop-place.place in
    c.loop-place.invariant ∙ alike_from names i c.index-names-place.result c.index-names-names.result c.loop-place-test.true c.index-names-place.is c.index-names-names.is
    ∙ ap (λ b. b && are_same_names (drop (i + 1) names) (drop (i + 1) (reverse names))) (sym c.if-not-is_same.ensures)
