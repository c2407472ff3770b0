-- The program's command line, and what arguments ask for.
use Rattle.std.specs.Prelude.{◌≡◌, ◌<◌, ◌^◌, ℕ, Bool, true, false, List, [], ◌∷◌, Option, Some, IfSome, pos, codes, unwrap_or, option_map, bytes_eq}
use Rattle.clap.specs.Lexer.{usize_max}
use Rattle.clap.specs.Words.{App, Kinds, Row, Rule, Text, all_of, fault_of, first_of, new_app, new_rule, one_of, subcommand_of, with_rule, with_subcommand}
use Rattle.clap.specs.declared.builder.action.ArgAction.TheVariants.{Append, SetTrue}
use Rattle.clap.specs.declared.builder.value_parser.ValueParser.TheVariants.{Signed}
use Rattle.clap.specs.declared.error.kind.ErrorKind.{ErrorKind}
use Rattle.clap.specs.declared.error.kind.ErrorKind.TheVariants.{DisplayHelp, DisplayVersion, OutOfMemory}
use Rattle.room_socket.specs.Admitting.{Rule as Admitted}
use Rattle.room_server.specs.Prelude.{list_any, option_map_or, IsNumeral, digits_value, without_leading_plus}

-- an option `--NAME` with one value
abbrev pub value_option : Text → Rule
value_option name = record (new_rule name) { long = Some name; value_names = 1 }

-- an option `--NAME` whose value is a whole number from `least` to `most`
abbrev pub number_option : Text → ℕ → ℕ → Rule
number_option name least most = record (value_option name) { parser = Some (Signed (pos least) (pos most)) }

-- an option that is required
abbrev pub needed : Rule → Rule
needed rule = record rule { required = true }

-- `--limit`, a number from 0 to 1000000; the default is 1000000
abbrev pub limit_option : Rule
limit_option = record (number_option (codes "limit") 0 1000000) { defaults = codes "1000000" ∷ [] }

-- `--base`, without a value
abbrev pub base_option : Rule
base_option = record (new_rule (codes "base")) { long = Some (codes "base"); action = Some SetTrue }

-- `--addr`, any text; `--workers`, a number from 1 to 1024; `--sessions`, a number from 1 to 1000000, or none
abbrev pub addr_option : Rule
addr_option = needed (value_option (codes "addr"))

abbrev pub workers_option : Rule
workers_option = needed (number_option (codes "workers") 1 1024)

abbrev pub sessions_option : Rule
sessions_option = number_option (codes "sessions") 1 1000000

-- `--name-header`, any text; `--watchers`, without a value; `--origin`, any text, as often as it is given
abbrev pub name_header_option : Rule
name_header_option = value_option (codes "name-header")

abbrev pub watchers_option : Rule
watchers_option = record (new_rule (codes "watchers")) { long = Some (codes "watchers"); action = Some SetTrue }

abbrev pub origin_option : Rule
origin_option = record (value_option (codes "origin")) { action = Some Append }

-- the arguments that are not options: the names of rooms, at least one
abbrev pub room_words : Rule
room_words = record (new_rule (codes "rooms")) {
  action = Some Append;
  range = Some (record { start_inclusive = 1; end_inclusive = usize_max });
  value_names = 1;
  required = true;
}

-- the subcommand `replay`, with its options
abbrev pub replay_app : App
replay_app = with_rule (with_rule (new_app (codes "replay")) limit_option) base_option

-- the subcommand `serve`, with its options and the rooms
abbrev pub serve_app : App
serve_app = with_rule (with_rule (with_rule (with_rule (with_rule (with_rule (with_rule (with_rule (with_rule
    (new_app (codes "serve")) addr_option) workers_option) sessions_option) limit_option) base_option)
    name_header_option) watchers_option) origin_option) room_words

-- the program, which requires a subcommand and has a version
abbrev pub program_app : App
program_app = let app = with_subcommand (with_subcommand (new_app (codes "maproom")) replay_app.top) serve_app.top in
    record app { top = record app.top { subcommand_required = true; has_version = true } }

-- the kinds of error that the arguments can lead to; there are none if the arguments are taken
abbrev pub faults : List Text → Kinds
faults words = fault_of program_app words

abbrev pub IsTaken : List Text → Type 0
IsTaken words = faults words ≡ []

abbrev pub is_request : ErrorKind → Bool
is_request DisplayHelp = true
is_request DisplayVersion = true
is_request _ = false

abbrev pub is_mistake : ErrorKind → Bool
is_mistake DisplayHelp = false
is_mistake DisplayVersion = false
is_mistake OutOfMemory = false
is_mistake _ = true

-- the arguments can ask for a help or the version
abbrev pub asks_for_help : List Text → Bool
asks_for_help words = list_any is_request (faults words)

-- the arguments can have a mistake
abbrev pub has_mistake : List Text → Bool
has_mistake words = list_any is_mistake (faults words)

-- the subcommand that the arguments name
abbrev pub subcommand_asked : List Text → Option Text
subcommand_asked words = option_map (λ met. met.0) (subcommand_of program_app words)

-- the values of that subcommand's options, or nothing if there is no subcommand
abbrev pub rows_asked : List Text → List Row
rows_asked words = unwrap_or (option_map (λ met. met.1) (subcommand_of program_app words)) []

-- the number with these decimal digits
abbrev pub number_of : Text → ℕ
number_of text = digits_value 10 (without_leading_plus text)

-- the number of an option, written or by default, or 0 if it has none
abbrev pub number_in : Text → List Row → ℕ
number_in option rows = option_map_or number_of (one_of option rows) 0

-- the value of the option, if any, is a number of 32 bits
abbrev pub HasNumber : Text → List Row → Type 0
HasNumber option rows =
    IfSome (one_of option rows) (λ text. IsNumeral 10 (without_leading_plus text) × (number_of text < 2 ^ 32))

-- the number of an option, if it is given
abbrev pub given_number : Text → List Row → Option ℕ
given_number option rows = option_map number_of (one_of option rows)

-- an option without a value is given
abbrev pub flag_in : Text → List Row → Bool
flag_in option rows = bytes_eq (unwrap_or (first_of option rows) []) (codes "true")

-- the address, as it is written, or the empty text if there is none
abbrev pub addr_in : List Row → Text
addr_in rows = unwrap_or (first_of (codes "addr") rows) []

-- a base is asked for
abbrev pub base_in : List Row → Bool
base_in rows = flag_in (codes "base") rows

-- the header that names authors, if one is asked for, and whether others may watch
abbrev pub name_header_in : List Row → Option Text
name_header_in rows = first_of (codes "name-header") rows

abbrev pub watchers_in : List Row → Bool
watchers_in rows = flag_in (codes "watchers") rows

-- the origins that are let in, in order
abbrev pub origins_in : List Row → List Text
origins_in rows = unwrap_or (all_of (codes "origin") rows) []

-- the rooms, as they are written and in order
abbrev pub rooms_in : List Row → List Text
rooms_in rows = unwrap_or (all_of (codes "rooms") rows) []

-- the limit that the arguments ask for, with either subcommand; arguments that are taken have one
abbrev pub limit_text : List Text → Option Text
limit_text words = one_of (codes "limit") (rows_asked words)

abbrev pub limit_asked : List Text → ℕ
limit_asked words = number_in (codes "limit") (rows_asked words)

-- whether the arguments ask for a base
abbrev pub base_asked : List Text → Bool
base_asked words = base_in (rows_asked words)

-- what the arguments of `serve` ask for
abbrev pub workers_asked : List Text → ℕ
workers_asked words = number_in (codes "workers") (rows_asked words)

abbrev pub sessions_asked : List Text → Option ℕ
sessions_asked words = given_number (codes "sessions") (rows_asked words)

abbrev pub addr_asked : List Text → Text
addr_asked words = addr_in (rows_asked words)

abbrev pub rooms_asked : List Text → List Text
rooms_asked words = rooms_in (rows_asked words)

-- whom the server lets in
abbrev pub rule_asked : List Text → Admitted
rule_asked words = record {
  name_header = name_header_in (rows_asked words);
  watchers = watchers_in (rows_asked words);
  origins = origins_in (rows_asked words);
}
