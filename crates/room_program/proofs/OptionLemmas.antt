-- Arguments without a fault give an option values, the first of which its parser accepts.
use Rattle.std.proofs.Common.{◌≡◌, ◌⊎◌, ◌||◌, ◌&&◌, ◌++◌, ◌+◌, inl, inr, refl, cond, ℕ, zero, suc, Bool, true, false, List, [], ◌∷◌, Option, Some, None, min, not, slice_get, unwrap_or, find, fold, ◌∙◌, sym, ap, subst, true≢false, bytes_eq}
use Rattle.std.specs.Prelude.{⊤}
use Rattle.std.proofs.lemmas.Slice.Eq.{bytes_eq-Decides}
use Rattle.clap.specs.Facts.{explicit_source}
use Rattle.clap.specs.Faults.{level_fault, use_fault}
use Rattle.clap.specs.Kinds.{check_kinds, value_kinds, values_kinds}
use Rattle.clap.specs.Matches.{count_text}
use Rattle.clap.specs.Simple.{Shape, rows_at}
use Rattle.clap.specs.Takes.{is_given}
use Rattle.clap.specs.Values.{read_as, reading_of, refused_kind}
use Rattle.clap.specs.ValueTests.{accepts}
use Rattle.clap.specs.Walk.{Row, Rule, Text, action_of, at_row, count_of, default_rows, has_row, more_values, new_count, nothing_held, one_of, reading_by, settled, used, used_as, values_or_missing, walk, with_count, with_default, with_values, without}
use Rattle.clap.specs.declared.builder.action.ArgAction.{ArgAction}
use Rattle.clap.specs.declared.builder.action.ArgAction.TheVariants.{Set, Append, SetTrue, SetFalse, Count, Help, HelpShort, HelpLong, Version}
use Rattle.clap.specs.declared.builder.value_parser.Reading.{Reading}
use Rattle.clap.specs.declared.builder.value_parser.ValueParser.{ValueParser}
use Rattle.clap.specs.declared.parser.matches.ValueSource.{ValueSource}
use Rattle.clap.specs.declared.parser.matches.ValueSource.TheVariants.{CommandLine, DefaultValue}
use Rattle.room_program.specs.Prelude.{AllByRecursion, list_any, option_map_or}
use Rattle.room_program.proofs.WordWalks.{check_none, level_keeps, no_first}

-- what is true of each rule is true of the rule that is found
pub found_has : (P : Rule → Type 0) (f : Rule → Bool) (rules : List Rule) (a : Rule) → AllByRecursion P rules → find f rules ≡ Some a → P a
found_has P f [] a all is = cc
found_has P f (r ∷ rs) a all is = go (f r) is (found_has P f rs a all.1)
  where
    go : (b : Bool) → cond b (Some r) (find f rs) ≡ Some a → (find f rs ≡ Some a → P a) → P a
    go true is rest = subst P (ap (λ o. unwrap_or o r) is) all.0
    go false is rest = rest is

-- ---- rows of an option

-- a change of the rows of one id, or one more row, keeps the ids that have a row
has_at : (id other : Text) (change : Row → List Row) (missing : List Row) (rows : List Row)
    → ((r : Row) (rest : List Row) → has_row id (r ∷ rest) ≡ true → has_row id (change r ++ rest) ≡ true)
    → has_row id rows ≡ true → has_row id (at_row other change missing rows) ≡ true
has_at id other change missing [] keeps has = absurd (true≢false (sym has))
has_at id other change missing (r ∷ rs) keeps has = go (bytes_eq r.id other) (rest (bytes_eq r.id id) has (has_at id other change missing rs keeps))
  where
    rest : (b : Bool) → (b || has_row id rs) ≡ true → (has_row id rs ≡ true → has_row id (at_row other change missing rs) ≡ true)
        → (b || has_row id (at_row other change missing rs)) ≡ true
    rest true has later = refl
    rest false has later = later has

    go : (b : Bool) → has_row id (r ∷ at_row other change missing rs) ≡ true → has_row id (cond b (change r ++ rs) (r ∷ at_row other change missing rs)) ≡ true
    go true later = keeps r rs has
    go false later = later

has_given : (id other : Text) (how : Reading) (s : ValueSource) (values : List Text) (rows : List Row)
    → has_row id rows ≡ true → has_row id (with_values other how s values rows) ≡ true
has_given id other how s values rows has = has_at id other (more_values s values) (record { id = other; values = values; count = None; source = Some s; reading = how } ∷ []) rows (λ r rest h. h) has

-- so does the default of any rule
has_default : (id : Text) (a : Rule) (rows : List Row) → has_row id rows ≡ true → has_row id (with_default rows a) ≡ true
has_default id a rows has = go (has_row a.id rows) a.defaults
  where
    go : (b : Bool) (values : List Text) → has_row id (cond b rows (default_rows a.id (reading_by a) values rows)) ≡ true
    go true values = has
    go false [] = has
    go false (v ∷ vs) = has_given id a.id (reading_by a) DefaultValue (v ∷ vs) rows has

has_defaults : (id : Text) (rules : List Rule) (rows : List Row) → has_row id rows ≡ true → has_row id (fold with_default rows rules) ≡ true
has_defaults id [] rows has = has
has_defaults id (a ∷ rest) rows has = has_defaults id rest (with_default rows a) (has_default id a rows has)

-- an id that was given values has a row
given_has : (id : Text) (how : Reading) (s : ValueSource) (values : List Text) (rows : List Row) → has_row id (with_values id how s values rows) ≡ true
given_has id how s values [] = same id
  where
    same : (t : Text) → (bytes_eq t t || false) ≡ true
    same t = rw ((bytes_eq-Decides t t).1 refl) refl
given_has id how s values (r ∷ rs) = go (bytes_eq r.id id) refl (given_has id how s values rs)
  where
    go : (b : Bool) → bytes_eq r.id id ≡ b → has_row id (with_values id how s values rs) ≡ true → has_row id (with_values id how s values (r ∷ rs)) ≡ true
    go true e rest = rw (e, e) refl
    go false e rest = rw (e, e) rest

-- so has a rule with a default, once it got the default
default_has : (id : Text) (rules : List Rule) (k : ℕ) (a : Rule) (v : Text) (vs : List Text) (rows : List Row)
    → slice_get rules k ≡ Some a → a.id ≡ id → a.defaults ≡ v ∷ vs → has_row id (fold with_default rows rules) ≡ true
default_has id [] k a v vs rows at is default = cc
default_has id (x ∷ xs) (suc k) a v vs rows at is default = default_has id xs k a v vs (with_default rows x) at is default
default_has id (x ∷ xs) zero a v vs rows at is default = has_defaults id xs (with_default rows x) (go (has_row x.id rows) refl x.defaults (ap (λ (r : Rule). r.defaults) same ∙ default))
  where
    same : x ≡ a
    same = ap (λ o. unwrap_or o x) at

    named : x.id ≡ id
    named = ap (λ (r : Rule). r.id) same ∙ is

    go : (b : Bool) → has_row x.id rows ≡ b → (values : List Text) → values ≡ v ∷ vs → has_row id (cond b rows (default_rows x.id (reading_by x) values rows)) ≡ true
    go true e values told = subst (λ (t : Text). has_row t rows ≡ true) named e
    go false e [] told = cc
    go false e (y ∷ ys) told = subst (λ (t : Text). has_row t (with_values x.id (reading_by x) DefaultValue (y ∷ ys) rows) ≡ true) named (given_has x.id (reading_by x) DefaultValue (y ∷ ys) rows)

-- an option that was given in the arguments has a row
is_given_has : (id : Text) (rows : List Row) → is_given id rows ≡ true → has_row id rows ≡ true
is_given_has id [] given = absurd (true≢false (sym given))
is_given_has id (r ∷ rs) given = go (bytes_eq r.id id) given (is_given_has id rs)
  where
    go : (b : Bool) → option_map_or (λ (x : Row). explicit_source x.source) (cond b (Some r) (find (λ x. bytes_eq x.id id) rs)) false ≡ true
        → (is_given id rs ≡ true → has_row id rs ≡ true) → (b || has_row id rs) ≡ true
    go true given rest = refl
    go false given rest = rest given

-- ---- the last checks of a level

last_kinds : (wants_help wants_subcommand wants_argument : Bool) → check_kinds wants_help wants_subcommand wants_argument ≡ [] → wants_argument ≡ false
last_kinds true b c e = cc
last_kinds false true c e = cc
last_kinds false false true e = cc
last_kinds false false false e = refl

wants_none : (x y : Bool) → (not (x && false) && y) ≡ false → y ≡ false
wants_none true y e = e
wants_none false y e = e

neither : (b c : Bool) → (b || c) ≡ false → (b ≡ false) × (c ≡ false)
neither true c e = absurd (true≢false e)
neither false c e = (refl, e)

none_at : (p : Rule → Bool) (rules : List Rule) (k : ℕ) (a : Rule) → slice_get rules k ≡ Some a → list_any p rules ≡ false → p a ≡ false
none_at p [] k a at none = cc
none_at p (x ∷ xs) zero a at none =
    let same : x ≡ a = ap (λ o. unwrap_or o x) at in
    subst (λ (r : Rule). p r ≡ false) same (neither (p x) (list_any p xs) none).0
none_at p (x ∷ xs) (suc k) a at none = none_at p xs k a at (neither (p x) (list_any p xs) none).1

given_by : (b c : Bool) → b ≡ true → (b && not c) ≡ false → c ≡ true
given_by true true is e = refl
given_by true false is e = absurd (true≢false e)
given_by false c is e = absurd (true≢false (sym is))

-- ---- the values of one option

module _ (id : Text) (parser : ValueParser) where
  -- a row of the option begins with a value that its parser accepts, and is read as the parser requires
  abbrev Good : Row → Type 0
  Good r = (v : Text) × (slice_get r.values 0 ≡ Some v) × (r.reading ≡ reading_of parser) × (accepts false parser v ≡ true)

  abbrev pub AllGood : List Row → Type 0
  AllGood [] = ⊤
  AllGood (r ∷ rs) = (bytes_eq r.id id ≡ true → Good r) × AllGood rs

  -- the text is that of such a value, as it is read
  abbrev pub IsRead : Option Text → Type 0
  IsRead None = ⊥
  IsRead (Some t) = (v : Text) × (t ≡ read_as (reading_of parser) v) × (accepts false parser v ≡ true)

  -- each use of the rule keeps the rows good, and so does its default
  abbrev pub Keeps : Rule → Type 0
  Keeps a = (again : Bool) (values : List Text) (rows : List Row) → use_fault again a values rows ≡ [] → AllGood rows → AllGood (used a values rows)

  abbrev pub KeepsByDefault : Rule → Type 0
  KeepsByDefault a = (rows : List Row) → AllGood rows → AllGood (with_default rows a)

  other_at : (other : Text) (change : Row → List Row) (missing : List Row) (rows : List Row)
      → ((r : Row) (rest : List Row) → bytes_eq r.id other ≡ true → AllGood rest → AllGood (change r ++ rest)) → AllGood missing
      → AllGood rows → AllGood (at_row other change missing rows)
  other_at other change missing [] keeps none g = none
  other_at other change missing (r ∷ rs) keeps none g = go (bytes_eq r.id other) refl (other_at other change missing rs keeps none g.1)
    where
      go : (b : Bool) → bytes_eq r.id other ≡ b → AllGood (at_row other change missing rs) → AllGood (cond b (change r ++ rs) (r ∷ at_row other change missing rs))
      go true e rest = keeps r rs e g.1
      go false e rest = (g.0, rest)

  module _ (other : Text) (apart : bytes_eq other id ≡ false) where
    -- nothing is required of a row of another id
    not_other : (t : Text) → bytes_eq t other ≡ true → bytes_eq t id ≡ true → ⊥
    not_other t is e = true≢false (sym e ∙ (ap (λ x. bytes_eq x id) ((bytes_eq-Decides t other).0 is) ∙ apart))

    not_new : bytes_eq other id ≡ true → ⊥
    not_new e = true≢false (sym e ∙ apart)

    without_other : (rows : List Row) → AllGood rows → AllGood (without other rows)
    without_other rows g = other_at other (λ _. []) [] rows (λ r rest e g. g) tt g

    given_other : (how : Reading) (s : ValueSource) (values : List Text) (rows : List Row) → AllGood rows → AllGood (with_values other how s values rows)
    given_other how s values rows g = other_at other (more_values s values) (record { id = other; values = values; count = None; source = Some s; reading = how } ∷ []) rows
        (λ r rest e g. (λ e2. absurd (not_other r.id e e2), g)) (λ e. absurd (not_new e), tt) g

    counted_other : (how : Reading) (s : ValueSource) (n : ℕ) (rows : List Row) → AllGood rows → AllGood (with_count other how s n rows)
    counted_other how s n rows g = other_at other (new_count s n) (record { id = other; values = count_text n ∷ []; count = Some n; source = Some s; reading = how } ∷ []) rows
        (λ r rest e g. (λ e2. absurd (not_other r.id e e2), g)) (λ e. absurd (not_new e), tt) g

    used_other : (x : ArgAction) (how : Reading) (values : List Text) (rows : List Row) → AllGood rows → AllGood (used_as x other how values rows)
    used_other Set how values rows g = given_other how CommandLine values (without other rows) (without_other rows g)
    used_other SetTrue how values rows g = given_other how CommandLine values (without other rows) (without_other rows g)
    used_other SetFalse how values rows g = given_other how CommandLine values (without other rows) (without_other rows g)
    used_other Append how values rows g = given_other how CommandLine values rows g
    used_other Count how [] rows g = counted_other how CommandLine (min (count_of other rows + 1) 255) (without other rows) (without_other rows g)
    used_other Count how (v ∷ vs) rows g = given_other how CommandLine (v ∷ vs) (without other rows) (without_other rows g)
    used_other Help how values rows g = g
    used_other HelpShort how values rows g = g
    used_other HelpLong how values rows g = g
    used_other Version how values rows g = g

  -- a rule of another id
  other_keeps : (a : Rule) → bytes_eq a.id id ≡ false → Keeps a
  other_keeps a apart again values rows e g = used_other a.id apart (action_of a) (reading_by a) (values_or_missing a values) rows g

  other_default : (a : Rule) → bytes_eq a.id id ≡ false → KeepsByDefault a
  other_default a apart rows g = go (has_row a.id rows) a.defaults
    where
      go : (b : Bool) (values : List Text) → AllGood (cond b rows (default_rows a.id (reading_by a) values rows))
      go true values = g
      go false [] = g
      go false (v ∷ vs) = given_other a.id apart (reading_by a) DefaultValue (v ∷ vs) rows g

  -- so only the option's own rule matters, if all other rules have other ids
  others_keep : (P : Rule → Type 0) → ((a : Rule) → bytes_eq a.id id ≡ false → P a) → (rules : List Rule) → list_any (λ a. bytes_eq a.id id) rules ≡ false → AllByRecursion P rules
  others_keep P keep [] none = tt
  others_keep P keep (a ∷ rest) none =
      let parts = neither (bytes_eq a.id id) (list_any (λ a. bytes_eq a.id id) rest) none in
      (keep a parts.0, others_keep P keep rest parts.1)

  each_keep : (P : Rule → Type 0) → ((a : Rule) → bytes_eq a.id id ≡ false → P a) → (before after : List Rule) (own : Rule)
      → list_any (λ a. bytes_eq a.id id) before ≡ false → list_any (λ a. bytes_eq a.id id) after ≡ false → P own → AllByRecursion P (before ++ own ∷ after)
  each_keep P keep [] after own none later p = (p, others_keep P keep after later)
  each_keep P keep (a ∷ before) after own none later p =
      let parts = neither (bytes_eq a.id id) (list_any (λ a. bytes_eq a.id id) before) none in
      (keep a parts.0, each_keep P keep before after own parts.1 later p)

  abbrev pub EachKeeps : List Rule → Type 0
  EachKeeps rules = AllByRecursion Keeps rules × AllByRecursion KeepsByDefault rules

  pub only_own : (before after : List Rule) (own : Rule) → list_any (λ a. bytes_eq a.id id) before ≡ false → list_any (λ a. bytes_eq a.id id) after ≡ false
      → Keeps own → KeepsByDefault own → EachKeeps (before ++ own ∷ after)
  only_own before after own none later keeps by_default =
      (each_keep Keeps other_keeps before after own none later keeps, each_keep KeepsByDefault other_default before after own none later by_default)

  first_stays : (xs ys : List Text) (v : Text) → slice_get xs 0 ≡ Some v → slice_get (xs ++ ys) 0 ≡ Some v
  first_stays [] ys v e = cc
  first_stays (x ∷ xs) ys v e = e

  without_good : (rows : List Row) → AllGood rows → AllGood (without id rows)
  without_good rows g = other_at id (λ _. []) [] rows (λ r rest e g. g) tt g

  -- values of the option itself
  given_good : (s : ValueSource) (v : Text) (vs : List Text) → accepts false parser v ≡ true → (rows : List Row) → AllGood rows
      → AllGood (with_values id (reading_of parser) s (v ∷ vs) rows)
  given_good s v vs ok [] g = ((λ _. (v, refl, refl, ok)), tt)
  given_good s v vs ok (r ∷ rs) g = go (bytes_eq r.id id) refl (given_good s v vs ok rs g.1)
    where
      go : (b : Bool) → bytes_eq r.id id ≡ b → AllGood (with_values id (reading_of parser) s (v ∷ vs) rs) → AllGood (with_values id (reading_of parser) s (v ∷ vs) (r ∷ rs))
      go true e rest =
          let old = g.0 e in
          rw e ((λ _. (old.0, first_stays r.values (v ∷ vs) old.0 old.1, old.2, old.3)), g.1)
      go false e rest = rw e (g.0, rest)

  -- values without a fault begin with a value that passes
  pub first_passes : (v : Text) (vs : List Text) → values_kinds false parser (v ∷ vs) ≡ [] → accepts false parser v ≡ true
  first_passes v vs e = go (accepts false parser v) (no_first (value_kinds false parser v) _ e)
    where
      go : (b : Bool) → cond b [] (refused_kind parser ∷ []) ≡ [] → b ≡ true
      go true e = refl
      go false e = cc

  -- a use of the option that replaces an earlier one
  pub set_good : (v : Text) (vs : List Text) (rows : List Row) → accepts false parser v ≡ true → AllGood rows
      → AllGood (with_values id (reading_of parser) CommandLine (v ∷ vs) (without id rows))
  set_good v vs rows ok g = given_good CommandLine v vs ok (without id rows) (without_good rows g)

  -- the option's own default, or no default
  pub own_default : (v : Text) (vs : List Text) → accepts false parser v ≡ true → (rows : List Row) → AllGood rows
      → AllGood (cond (has_row id rows) rows (with_values id (reading_of parser) DefaultValue (v ∷ vs) rows))
  own_default v vs ok rows g = go (has_row id rows)
    where
      go : (b : Bool) → AllGood (cond b rows (with_values id (reading_of parser) DefaultValue (v ∷ vs) rows))
      go true = g
      go false = given_good DefaultValue v vs ok rows g

  pub no_default : (rows : List Row) → AllGood rows → AllGood (cond (has_row id rows) rows rows)
  no_default rows g = go (has_row id rows)
    where
      go : (b : Bool) → AllGood (cond b rows rows)
      go true = g
      go false = g

  defaults_good : (rules : List Rule) (rows : List Row) → AllByRecursion KeepsByDefault rules → AllGood rows → AllGood (fold with_default rows rules)
  defaults_good [] rows keep g = g
  defaults_good (a ∷ rest) rows keep g = defaults_good rest (with_default rows a) keep.1 (keep.0 rows g)

  -- the rows at the end of a level without a fault are good
  pub level_good : (s : Shape) (words : List Text) → EachKeeps s.rules → level_fault s [] nothing_held words false [] ≡ [] → AllGood (rows_at s words).1
  level_good s words each e =
      let walked = level_keeps s AllGood (λ f a values rows is fault g. found_has Keeps f s.rules a each.0 is s.args_override_self values rows fault g) [] words false [] e tt in
      defaults_good s.rules (settled s.rules (walk s.rules [] nothing_held words).held).rows each.1 walked

  read_good : (rows : List Row) → AllGood rows → has_row id rows ≡ true → IsRead (one_of id rows)
  read_good [] g has = absurd (true≢false (sym has))
  read_good (r ∷ rs) g has = go (bytes_eq r.id id) refl has (read_good rs g.1)
    where
      go : (b : Bool) → bytes_eq r.id id ≡ b → (b || has_row id rs) ≡ true
          → (has_row id rs ≡ true → IsRead (one_of id rs)) → IsRead (one_of id (r ∷ rs))
      go true e has rest =
          let good = g.0 e in
          rw (e, good.1, good.2) (good.0, refl, good.3)
      go false e has rest = rw e (rest has)

  -- so an option that is not required has such a value, or none
  pub read_if_any : (rows : List Row) → AllGood rows → (one_of id rows ≡ None) ⊎ IsRead (one_of id rows)
  read_if_any rows g = go (has_row id rows) refl
    where
      none_of : (rows : List Row) → has_row id rows ≡ false → one_of id rows ≡ None
      none_of [] has = refl
      none_of (r ∷ rs) has = let parts = neither (bytes_eq r.id id) (has_row id rs) has in rw parts.0 (none_of rs parts.1)

      go : (b : Bool) → has_row id rows ≡ b → (one_of id rows ≡ None) ⊎ IsRead (one_of id rows)
      go true has = inr (read_good rows g has)
      go false has = inl (none_of rows has)

  -- so an option with a default is read
  pub default_read : (s : Shape) (words : List Text) (k : ℕ) (a : Rule) (v : Text) (vs : List Text) → slice_get s.rules k ≡ Some a → a.id ≡ id → a.defaults ≡ v ∷ vs
      → AllGood (rows_at s words).1 → IsRead (one_of id (rows_at s words).1)
  default_read s words k a v vs at is default g =
      read_good _ g (default_has id s.rules k a v vs (settled s.rules (walk s.rules [] nothing_held words).held).rows at is default)

  -- so is an option that is required
  pub needed_read : (s : Shape) (words : List Text) (k : ℕ) (a : Rule) → slice_get s.rules k ≡ Some a → a.id ≡ id → a.required ≡ true
      → level_fault s [] nothing_held words false [] ≡ [] → AllGood (rows_at s words).1 → IsRead (one_of id (rows_at s words).1)
  needed_read s words k a at is needed e g =
      let rows = (rows_at s words).1 in
      let wanting = list_any (λ (a : Rule). a.required && not (is_given a.id rows)) s.rules in
      let none = wants_none s.subcommand_negates_reqs wanting (last_kinds (not false && (s.arg_required_else_help && not (list_any (λ (r : Row). explicit_source r.source) rows)))
      (not false && s.subcommand_required) (not (s.subcommand_negates_reqs && false) && wanting) (check_none s [] words false [] e)) in
      let given = given_by a.required (is_given a.id rows) needed (none_at (λ (a : Rule). a.required && not (is_given a.id rows)) s.rules k a at none) in
      read_good rows g (is_given_has id rows (subst (λ (t : Text). is_given t rows ≡ true) is given))
