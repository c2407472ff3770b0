use Rattle.std.proofs.Common.{rules, ap, ◌∙◌, ◌≡◌, Some, pos}
use Rattle.clap.specs.declared.builder.value_parser.ValueParser.TheVariants.{Signed}
use Rattle.room_program.proofs.command_line.workers_option.Goals as goal

pub returns-clause-rule : goal.returns-clause-rule
returns-clause-rule c =
    let range_is : c.range.result ≡ Signed (pos 1) (pos 1024) =
    rw (c.value_parser.ensures, c.new-2.ensures.start, c.new-2.ensures.end, c.from.ensures) at c.range.ensures in
    let given = c.value_parser-2.ensures.given in
    let parser_is : c.value_parser-2.result.value_parser ≡ Some (Signed (pos 1) (pos 1024)) = given.1 ∙ ap Some (given.2 ∙ range_is) in
    search (rules, parser_is)
