-- Worked examples of arguments.
use Rattle.std.specs.Prelude.{◌≡◌, ℕ, Bool, true, false, List, [], ◌∷◌, Option, Some, None, codes}
use Rattle.clap.specs.Words.{Kinds, Text}
use Rattle.clap.specs.declared.error.kind.ErrorKind.TheVariants.{ArgumentConflict, DisplayHelp, DisplayVersion, InvalidSubcommand, InvalidValue, MissingRequiredArgument, MissingSubcommand, TooManyValues, UnknownArgument, ValueValidation}
use Rattle.room_socket.specs.Admitting.{Rule as Admitted}
use Rattle.room_program.specs.Commands.{AsksForReplay}
use Rattle.room_program.specs.CommandLine.{IsTaken, addr_asked, base_asked, faults, limit_asked, rooms_asked, rule_asked, sessions_asked, subcommand_asked, workers_asked}

-- the arguments after the program's name are taken, and ask for a replay with this limit, on a base or not
abbrev pub AsksFor : ℕ → Bool → List Text → Type 0
AsksFor limit base words = AsksForReplay (codes "maproom" ∷ words) limit base

-- the arguments after `serve` are taken, and ask for this address, these numbers of workers, sessions and entries, a
-- base or not, these callers, and these rooms
abbrev pub AsksToServe : Text → ℕ → Option ℕ → ℕ → Bool → Admitted → List Text → List Text → Type 0
AsksToServe addr workers sessions limit base rule rooms words =
    let all = codes "maproom" ∷ codes "serve" ∷ words in
    IsTaken all × (subcommand_asked all ≡ Some (codes "serve")) × (addr_asked all ≡ addr) × (workers_asked all ≡ workers)
    × (sessions_asked all ≡ sessions) × (limit_asked all ≡ limit) × (base_asked all ≡ base) × (rule_asked all ≡ rule)
    × (rooms_asked all ≡ rooms)

-- anyone is let in under any name, and only from this machine's pages
abbrev pub anyone : Admitted
anyone = record { name_header = None; watchers = false; origins = [] }

-- the arguments after the program's name lead to an error of one of these kinds
abbrev pub FailsBy : Kinds → List Text → Type 0
FailsBy kinds words = faults (codes "maproom" ∷ words) ≡ kinds

-- a replay without a limit, with a limit in each of its spellings, and on a base
unfoldable pub taken : Type 0
taken =
    AsksFor 1000000 false (codes "replay" ∷ [])
    × AsksFor 1 false (codes "replay" ∷ codes "--limit" ∷ codes "1" ∷ [])
    × AsksFor 0 false (codes "replay" ∷ codes "--limit=0" ∷ [])
    × AsksFor 1000000 false (codes "replay" ∷ codes "--limit=1000000" ∷ [])
    × AsksFor 7 false (codes "replay" ∷ codes "--limit=+007" ∷ [])
    × AsksFor 1000000 true (codes "replay" ∷ codes "--base" ∷ [])
    × AsksFor 7 true (codes "replay" ∷ codes "--base" ∷ codes "--limit=7" ∷ [])

-- a limit that is too large, not a number, missing or repeated, and a base with a value or repeated
unfoldable pub bad_limit : Type 0
bad_limit =
    FailsBy (ValueValidation ∷ []) (codes "replay" ∷ codes "--limit" ∷ codes "1000001" ∷ [])
    × FailsBy (ValueValidation ∷ []) (codes "replay" ∷ codes "--limit=-1" ∷ [])
    × FailsBy (ValueValidation ∷ []) (codes "replay" ∷ codes "--limit=many" ∷ [])
    × FailsBy (InvalidValue ∷ []) (codes "replay" ∷ codes "--limit" ∷ [])
    × FailsBy (ArgumentConflict ∷ []) (codes "replay" ∷ codes "--limit=1" ∷ codes "--limit=1" ∷ [])
    × FailsBy (TooManyValues ∷ []) (codes "replay" ∷ codes "--base=x" ∷ [])
    × FailsBy (ArgumentConflict ∷ []) (codes "replay" ∷ codes "--base" ∷ codes "--base" ∷ [])

-- rooms to serve, with and without a limit and an end, with options before, between and after the rooms, and by names
-- that a proxy gives
unfoldable pub serve_taken : Type 0
serve_taken =
    AsksToServe (codes "127.0.0.1:9001") 8 (Some 1000) 1000000 false anyone (codes "paris" ∷ codes "rome" ∷ [])
    (codes "--addr" ∷ codes "127.0.0.1:9001" ∷ codes "--workers" ∷ codes "8" ∷ codes "--sessions" ∷ codes "1000" ∷ codes "paris" ∷ codes "rome" ∷ [])
    × AsksToServe (codes "[::1]:80") 1024 (Some 1000000) 0 true anyone (codes "a" ∷ [])
    (codes "a" ∷ codes "--base" ∷ codes "--limit=0" ∷ codes "--addr=[::1]:80" ∷ codes "--workers=1024" ∷ codes "--sessions=1000000" ∷ [])
    × AsksToServe [] 1 (Some 1) 5 false anyone (codes "b" ∷ codes "--c" ∷ [])
    (codes "--addr=" ∷ codes "--limit" ∷ codes "5" ∷ codes "--sessions" ∷ codes "1" ∷ codes "--workers" ∷ codes "+01" ∷ codes "--" ∷ codes "b" ∷ codes "--c" ∷ [])
    × AsksToServe (codes "h:1") 2 None 1000000 false
    (record { name_header = Some (codes "X-Name"); watchers = true; origins = codes "https://a.b" ∷ codes "null" ∷ [] }) (codes "a" ∷ [])
    (codes "--addr=h:1" ∷ codes "--origin=https://a.b" ∷ codes "--workers=2" ∷ codes "--watchers" ∷ codes "--name-header" ∷ codes "X-Name" ∷ codes "--origin" ∷ codes "null" ∷ codes "a" ∷ [])

-- no room, a missing option, and numbers out of range
unfoldable pub bad_serve : Type 0
bad_serve =
    FailsBy (MissingRequiredArgument ∷ []) (codes "serve" ∷ codes "--addr=x" ∷ codes "--workers=1" ∷ codes "--sessions=1" ∷ [])
    × FailsBy (MissingRequiredArgument ∷ []) (codes "serve" ∷ codes "--workers=1" ∷ codes "--sessions=1" ∷ codes "a" ∷ [])
    × FailsBy (ValueValidation ∷ []) (codes "serve" ∷ codes "--addr=x" ∷ codes "--workers=0" ∷ codes "--sessions=1" ∷ codes "a" ∷ [])
    × FailsBy (ValueValidation ∷ []) (codes "serve" ∷ codes "--addr=x" ∷ codes "--workers=1025" ∷ codes "--sessions=1" ∷ codes "a" ∷ [])
    × FailsBy (ValueValidation ∷ []) (codes "serve" ∷ codes "--addr=x" ∷ codes "--workers=1" ∷ codes "--sessions=1000001" ∷ codes "a" ∷ [])
    × FailsBy (ValueValidation ∷ []) (codes "serve" ∷ codes "--limit=1000001" ∷ codes "a" ∷ [])

-- no subcommand, an unknown subcommand, and arguments that are not expected
unfoldable pub bad_word : Type 0
bad_word =
    FailsBy (MissingSubcommand ∷ []) []
    × FailsBy (UnknownArgument ∷ InvalidSubcommand ∷ []) (codes "play" ∷ [])
    × FailsBy (UnknownArgument ∷ []) (codes "--limit=1" ∷ codes "replay" ∷ [])
    × FailsBy (UnknownArgument ∷ []) (codes "replay" ∷ codes "more" ∷ [])

-- the ways to ask for the version, which the program has and `replay` does not have
unfoldable pub version_asked : Type 0
version_asked =
    FailsBy (DisplayVersion ∷ []) (codes "--version" ∷ [])
    × FailsBy (DisplayVersion ∷ []) (codes "-V" ∷ [])
    × FailsBy (UnknownArgument ∷ []) (codes "replay" ∷ codes "--version" ∷ [])

-- the ways to ask for help; after the word `help` there may be a mistake
unfoldable pub help_asked : Type 0
help_asked =
    FailsBy (DisplayHelp ∷ []) (codes "--help" ∷ [])
    × FailsBy (DisplayHelp ∷ []) (codes "replay" ∷ codes "-h" ∷ [])
    × FailsBy (DisplayHelp ∷ InvalidSubcommand ∷ []) (codes "help" ∷ codes "replay" ∷ [])
