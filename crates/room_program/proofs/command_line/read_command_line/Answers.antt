-- clap's contract on the matches, for these arguments.
use Rattle.std.proofs.Common.{◌∙◌, ap, inl, inr, sym, subst, true≢false, refl, map, codes, is_some}
use Rattle.clap.specs.Words.{app_of, found_of, rows_of}
use Rattle.room_program.specs.CommandLine.{HasNumber, addr_in, base_in, faults, given_number, name_header_in, number_in, origins_in, rooms_in, watchers_in}
use Rattle.room_program.specs.Commands.{IsAsked}
use Rattle.clap.proofs.WalkLemmas.{first_value-rows}
use Rattle.room_program.proofs.AskedLemmas.{asked_one, limit_number, sessions_number, workers_number}
use Rattle.room_program.proofs.CommandLineLemmas.{error_passed, found, name_asked, words_refused, words_taken}
use Rattle.room_program.proofs.command_line.read_command_line.Goals as goal

pub returns-in_err-matches : goal.returns-in_err-matches
returns-in_err-matches g c =
    let line = app_of c.in_ok-command_line.field-0 in
    let texts = map g.T.AsStr.text c.args.words.now in
    let kind = words_refused line texts c.in_err-matches.field-0.0 c.in_ok-command_line.ensures c.in_err-matches.ensures.kinds in
    error_passed (IsAsked texts) (faults texts) c.from_residual-in_err-matches.result c.in_err-matches.field-0.0
    c.from_residual-in_err-matches.ensures.1 kind

pub number-requires : goal.number-requires
number-requires g c =
    let it = found (app_of c.in_ok-command_line.field-0) (map g.T.AsStr.text c.args.words.now) c.in_ok-matches.matches c.in_ok-command_line.ensures (codes "serve") (rows_of (found_of c.in-Some.options.now))
    c.in_ok-matches.ensures.kinds c.in_ok-matches.ensures.matches (c.in-Some.ensures.found.0 refl) c.in-Some.ensures.rows in
    subst (HasNumber (codes "workers")) it.rows_are (workers_number (map g.T.AsStr.text c.args.words.now) it.taken it.named).has

pub given_number-requires : goal.given_number-requires
given_number-requires g c =
    let it = found (app_of c.in_ok-command_line.field-0) (map g.T.AsStr.text c.args.words.now) c.in_ok-matches.matches c.in_ok-command_line.ensures (codes "serve") (rows_of (found_of c.in-Some.options.now))
    c.in_ok-matches.ensures.kinds c.in_ok-matches.ensures.matches (c.in-Some.ensures.found.0 refl) c.in-Some.ensures.rows in
    subst (HasNumber (codes "sessions")) it.rows_are (sessions_number (map g.T.AsStr.text c.args.words.now) it.taken it.named).has

pub number-requires-in-Some : goal.number-requires-in-Some
number-requires-in-Some g c =
    let it = found (app_of c.in_ok-command_line.field-0) (map g.T.AsStr.text c.args.words.now) c.in_ok-matches.matches c.in_ok-command_line.ensures (codes "serve") (rows_of (found_of c.in-Some.options.now))
    c.in_ok-matches.ensures.kinds c.in_ok-matches.ensures.matches (c.in-Some.ensures.found.0 refl) c.in-Some.ensures.rows in
    subst (HasNumber (codes "limit")) it.rows_are (limit_number (map g.T.AsStr.text c.args.words.now) it.taken).has

pub returns-in-Some : goal.returns-in-Some
returns-in-Some g c =
    let it = found (app_of c.in_ok-command_line.field-0) (map g.T.AsStr.text c.args.words.now) c.in_ok-matches.matches c.in_ok-command_line.ensures (codes "serve") (rows_of (found_of c.in-Some.options.now))
    c.in_ok-matches.ensures.kinds c.in_ok-matches.ensures.matches (c.in-Some.ensures.found.0 refl) c.in-Some.ensures.rows in
    let rows = sym it.rows_are in
    record {
      taken = it.taken;
      subcommand = it.named;
      addr_is = c.addr.ensures ∙ ap addr_in rows;
      workers_are = c.number.ensures ∙ ap (number_in (codes "workers")) rows;
      sessions_are = c.given_number.ensures ∙ ap (given_number (codes "sessions")) rows;
      limit_is = c.number-in-Some.ensures ∙ ap (number_in (codes "limit")) rows;
      base_is = c.flag.ensures ∙ ap base_in rows;
      rule_is = λ i. record {
        name_header = ((c.get_str.ensures ∙ first_value-rows (found_of c.in-Some.options.now) (codes "name-header")) ∙ ap name_header_in rows) i;
        watchers = (c.flag-in-Some.ensures ∙ ap watchers_in rows) i;
        origins = (c.in_ok-texts.ensures ∙ ap origins_in rows) i;
      };
      rooms_are = c.in_ok-texts-2.ensures ∙ ap rooms_in rows;
    }

pub unreachable-requires : goal.unreachable-requires
unreachable-requires g c =
    let line = app_of c.in_ok-command_line.field-0 in
    let texts = map g.T.AsStr.text c.args.words.now in
    let taken = words_taken line texts c.in_ok-matches.matches c.in_ok-command_line.ensures c.in_ok-matches.ensures.kinds in
    let named = name_asked line texts c.in_ok-matches.matches c.in_ok-command_line.ensures c.in_ok-matches.ensures.matches in
    elim (asked_one texts taken) [
      | inl replay ↦ true≢false (sym (c.subcommand_matches-2.ensures.found.1 (named ∙ replay)) ∙ ap is_some c.in_default-subcommand_matches.is)
      | inr serve ↦ true≢false (sym (c.subcommand_matches.ensures.found.1 (named ∙ serve)) ∙ ap is_some c.in_default.is)
    ]

pub number-requires-2 : goal.number-requires-2
number-requires-2 g c =
    let it = found (app_of c.in_ok-command_line.field-0) (map g.T.AsStr.text c.args.words.now) c.in_ok-matches.matches c.in_ok-command_line.ensures (codes "replay") (rows_of (found_of c.in-Some-subcommand_matches.options.now))
    c.in_ok-matches.ensures.kinds c.in_ok-matches.ensures.matches (c.in-Some-subcommand_matches.ensures.found.0 refl) c.in-Some-subcommand_matches.ensures.rows in
    subst (HasNumber (codes "limit")) it.rows_are (limit_number (map g.T.AsStr.text c.args.words.now) it.taken).has

pub returns : goal.returns
returns g c =
    let it = found (app_of c.in_ok-command_line.field-0) (map g.T.AsStr.text c.args.words.now) c.in_ok-matches.matches c.in_ok-command_line.ensures (codes "replay") (rows_of (found_of c.in-Some-subcommand_matches.options.now))
    c.in_ok-matches.ensures.kinds c.in_ok-matches.ensures.matches (c.in-Some-subcommand_matches.ensures.found.0 refl) c.in-Some-subcommand_matches.ensures.rows in
    record {
      taken = it.taken;
      subcommand = it.named;
      limit_is = c.number-2.ensures ∙ ap (number_in (codes "limit")) (sym it.rows_are);
      base_is = c.flag-2.ensures ∙ ap base_in (sym it.rows_are);
    }
