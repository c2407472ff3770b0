-- The values of the program's arguments, and the kinds of error in a list.
use Rattle.std.proofs.Common.{◌≡◌, ◌||◌, refl, Bool, true, false, List, [], ◌∷◌, Option, Some, None, Result, Ok, Err, Box, IsErrAnd, MatchResult, unwrap_or, option_map, ◌∙◌, sym, ap, subst, true≢false, inl, inr, box_value}
use Rattle.clap.specs.Matches.{subcommand_name_of}
use Rattle.clap.specs.Faults.{fault_of, is_simple_and_free}
use Rattle.clap.specs.Simple.{App, HasMatchesOf, is_simple, subcommand_of, subcommand_rows, subcommand_rows_of}
use Rattle.clap.specs.Kinds.{HasKind, IsAmong, Kinds}
use Rattle.clap.specs.Values.{kind_of}
use Rattle.clap.specs.Walk.{Row, Text}
use Rattle.clap.specs.declared.error.Error.{Error}
use Rattle.clap.specs.declared.error.kind.ErrorKind.{ErrorKind}
use Rattle.clap.specs.declared.error.kind.ErrorKind.TheVariants.{OutOfMemory}
use Rattle.clap.specs.declared.parser.matches.ArgMatches.{ArgMatches}
use Rattle.clap.specs.declared.parser.matches.ArgMatches.TheViews.{out-ArgMatches, out-SubCommand}
use Rattle.clap.specs.declared.parser.matches.SubCommand.{SubCommand}
use Rattle.room_program.specs.Prelude.{list_any, IsTaken, faults, program_app, rows_asked, subcommand_asked}

any_among : (p : ErrorKind → Bool) (k : ErrorKind) (kinds : Kinds) → p k ≡ true → IsAmong k kinds → list_any p kinds ≡ true
any_among p k [] passes among = absurd among
any_among p k (x ∷ xs) passes (inl same) = rw (← same, passes) refl
any_among p k (x ∷ xs) passes (inr rest) = go (p x) (any_among p k xs passes rest)
  where
    go : (b : Bool) → list_any p xs ≡ true → (b || list_any p xs) ≡ true
    go true e = refl
    go false e = e

-- if an error passes a test that a failed allocation does not pass, one of its kinds passes the test
pub kind_among : (p : ErrorKind → Bool) (kinds : Kinds) (e : Error) → p OutOfMemory ≡ false → p (kind_of e) ≡ true → HasKind kinds e → list_any p kinds ≡ true
kind_among p kinds e not_memory passes (inl memory) = absurd (true≢false (sym passes ∙ ap p memory ∙ not_memory))
kind_among p kinds e not_memory passes (inr among) = any_among p (kind_of e) kinds passes among

-- the name of the subcommand is that of its rows
name_rows : (m : ArgMatches) → subcommand_name_of m ≡ option_map (λ p. p.0) (subcommand_rows_of m)
name_rows m = go (out-ArgMatches m).subcommand
  where
    go : {Z : Type 0} (o : Option (Box SubCommand Z)) → option_map (λ b. (out-SubCommand (box_value b)).name.now) o ≡ option_map (λ p. p.0) (subcommand_rows o)
    go None = refl
    go (Some b) = refl

-- the arguments are taken and name this subcommand, whose options have these rows
pub record Found (words : List Text) (name : Text) (rows : List Row) : Type 0 where
  pub taken : IsTaken words
  pub named : subcommand_asked words ≡ Some name
  pub rows_are : rows_asked words ≡ rows

-- clap's error, for the program's command line, has one of the kinds that the arguments can lead to
pub words_refused : (line : App) (words : List Text) (e : Error) → line ≡ program_app
    → (is_simple_and_free line ≡ true → HasKind (fault_of line words) e) → HasKind (faults words) e
words_refused line words e line_is kinds =
    subst (λ a. HasKind (fault_of a words) e) line_is (kinds (ap is_simple_and_free line_is))

-- an error that was passed on
pub error_passed : {T : Type 0} (P : T → Type 0) (kinds : Kinds) (r : Result T Error) (e : Error) → IsErrAnd r (λ y. y ≡ e)
    → HasKind kinds e → MatchResult r P (HasKind kinds)
error_passed P kinds (Ok x) e is kind = absurd is
error_passed P kinds (Err y) e is kind = subst (HasKind kinds) (sym is) kind

-- clap's contract on the matches, for the program's command line
module _ (line : App) (words : List Text) (m : ArgMatches) (line_is : line ≡ program_app) where
  pub words_taken : (is_simple_and_free line ≡ true → fault_of line words ≡ []) → IsTaken words
  words_taken kinds = sym (ap (λ a. fault_of a words) line_is) ∙ kinds (ap is_simple_and_free line_is)

  met : HasMatchesOf line words m → subcommand_rows_of m ≡ subcommand_of program_app words
  met matches = (matches (ap is_simple line_is)).1 ∙ ap (λ a. subcommand_of a words) line_is

  pub name_asked : HasMatchesOf line words m → subcommand_name_of m ≡ subcommand_asked words
  name_asked matches = name_rows m ∙ ap (option_map (λ p. p.0)) (met matches)

  pub found : (name : Text) (rows : List Row) → (is_simple_and_free line ≡ true → fault_of line words ≡ []) → HasMatchesOf line words m
      → subcommand_name_of m ≡ Some name → option_map (λ p. p.1) (subcommand_rows_of m) ≡ Some rows → Found words name rows
  found name rows kinds matches named is = record {
    taken = words_taken kinds;
    named = sym (name_asked matches) ∙ named;
    rows_are = sym (ap (λ o. unwrap_or (option_map (λ p. p.1) o) []) (met matches)) ∙ ap (λ o. unwrap_or o []) is;
  }
