-- Arguments that are taken ask for one of the subcommands, with numbers in their ranges.
use Rattle.std.proofs.Common.{◌≡◌, ◌||◌, ◌⊎◌, ◌≤◌, ◌<◌, ◌^◌, refl, cond, ℕ, Bool, true, false, List, [], ◌∷◌, Option, Some, None, codes, drop, is_some, take, IfSome, pos, unwrap_or, option_map, ◌∙◌, inl, inr, sym, ap, subst, arith, true≢false, slice_index_or, bytes_eq}
use Rattle.std.specs.Prelude.{⊤}
use Rattle.std.proofs.lemmas.Slice.Eq.{bytes_eq-Decides}
use Rattle.clap.specs.Faults.{check_fault, entered_fault, level_fault}
use Rattle.clap.specs.Lexer.{without_minus}
use Rattle.clap.specs.Matches.{ReadsOne}
use Rattle.clap.specs.Simple.{Shape, argument_words, built, entered, filled, label_of, names_of, rows_at, subcommand_of, with_index}
use Rattle.clap.specs.ValueTests.{accepts, is_unsigned_in}
use Rattle.clap.specs.Walk.{Row, Rule, Text, answers_to, finished, nothing_held, one_of, stop_after, walk}
use Rattle.clap.specs.declared.builder.value_parser.ValueParser.{ValueParser}
use Rattle.clap.specs.declared.builder.value_parser.ValueParser.TheVariants.{Signed, Unsigned}
use Rattle.clap.specs.declared.error.kind.ErrorKind.{ErrorKind}
use Rattle.clap.specs.declared.error.kind.ErrorKind.TheVariants.{MissingSubcommand}
use Rattle.clap.proofs.CallerReads.{signed_reads}
use Rattle.clap.proofs.ValueTestLemmas.{accepts-Accepts, Accepts-accepts}
use Rattle.room_program.specs.Prelude.{option_map_or, IsNumeral, ParsesUnsigned, without_leading_plus, HasNumber, faults, given_number, limit_option, number_in, number_of, number_option, program_app, replay_app, rows_asked, subcommand_asked}
use Rattle.room_program.proofs.OptionLemmas.{EachKeeps, IsRead, Keeps, KeepsByDefault, default_read, first_passes, level_good, needed_read, no_default, only_own, own_default, read_if_any, set_good}
use Rattle.room_program.proofs.WordWalks.{NoHelpMet, below_none, check_none, level_stops, no_second}

-- the subcommands of the built program
abbrev replay_shape : Shape
replay_shape = slice_index_or (built program_app).subs 0 replay_app.top

abbrev serve_shape : Shape
serve_shape = slice_index_or (built program_app).subs 1 replay_app.top

abbrev help_shape : Shape
help_shape = slice_index_or (built program_app).subs 2 replay_app.top

-- a rule of a subcommand
abbrev rule_at : Shape → ℕ → Rule
rule_at s k = slice_index_or s.rules k limit_option

-- ---- the subcommand

-- arguments without a fault entered a subcommand of this shape
abbrev Enters : Shape → Option (Text × List Row) → Type 0
Enters s met = (words : List Text) × (level_fault s [] nothing_held words false [] ≡ []) × (met ≡ Some (rows_at s words))

no_kinds : (k : ErrorKind) → k ∷ [] ≡ [] → ⊥
no_kinds k e = cc

only_first : (b : Bool) → (b || false) ≡ true → b ≡ true
only_first true e = refl
only_first false e = e

entered_one : (stop : Option (Text × List Text)) → entered_fault (built program_app) stop ≡ [] → NoHelpMet stop → is_some (entered (built program_app) stop) ≡ true
    → Enters replay_shape (entered (built program_app) stop) ⊎ Enters serve_shape (entered (built program_app) stop)
entered_one None e no_help met = absurd (true≢false (sym met))
entered_one (Some p) e no_help met =
    go (answers_to p.0 (label_of replay_shape)) (answers_to p.0 (label_of serve_shape)) (answers_to p.0 (label_of help_shape)) refl e met
  where
    subs : Bool → Bool → Bool → Option Shape
    subs a b c = cond a (Some replay_shape) (cond b (Some serve_shape) (cond c (Some help_shape) None))

    go : (a b c : Bool) → answers_to p.0 (label_of help_shape) ≡ c → option_map_or (λ s. level_fault s [] nothing_held p.1 false []) (subs a b c) [] ≡ []
        → is_some (option_map (λ s. rows_at s p.1) (subs a b c)) ≡ true
        → Enters replay_shape (option_map (λ s. rows_at s p.1) (subs a b c)) ⊎ Enters serve_shape (option_map (λ s. rows_at s p.1) (subs a b c))
    go true b c is e met = inl (p.1, e, refl)
    go false true c is e met = inr (p.1, e, refl)
    go false false true is e met =
        let help_is : codes "help" ≡ p.0 = (bytes_eq-Decides (codes "help") p.0).0 (only_first _ is) in
        let other : bytes_eq (codes "help") (codes "help") ≡ false = ap (λ name. bytes_eq name (codes "help")) help_is ∙ no_help in
        absurd (true≢false other)
    go false false false is e met = absurd (true≢false (sym met))

needs_subcommand : (rows : List Row) (has : Bool) → check_fault (built program_app).top rows has ≡ [] → has ≡ true
needs_subcommand rows true e = refl
needs_subcommand rows false e = absurd (no_kinds MissingSubcommand e)

-- arguments that are taken enter one of the two subcommands
asked_enters : (words : List Text) → faults words ≡ [] → Enters replay_shape (subcommand_of program_app words) ⊎ Enters serve_shape (subcommand_of program_app words)
asked_enters words e =
    let app = built program_app in
    let after = argument_words program_app words in
    let stop = stop_after app.top.rules (names_of app) after in
    let has = is_some (entered app stop) in
    let met = needs_subcommand (finished app.top.rules (walk app.top.rules (names_of app) nothing_held after).held) has (check_none app.top (names_of app) after has (entered_fault app stop) e) in
    let no_help = level_stops app.top refl (names_of app) after has (entered_fault app stop) e in
    entered_one stop (below_none app.top (names_of app) after has (entered_fault app stop) e) no_help met

-- ---- numbers

-- the text is a numeral, whose number is in the range
abbrev IsNumber : ℕ → ℕ → Text → Type 0
IsNumber least most text = IsNumeral 10 (without_leading_plus text) × (least ≤ number_of text) × (number_of text ≤ most)

-- the value of an option is such a text
pub record IsNumberIn (least most : ℕ) (id : Text) (rows : List Row) : Type 0 where
  pub told : is_some (one_of id rows) ≡ true
  pub has : HasNumber id rows
  pub least_is : least ≤ number_in id rows
  pub most_is : number_in id rows ≤ most

-- the value of an option is such a text, if the option is given
pub record IsNumberIfAny (least most : ℕ) (id : Text) (rows : List Row) : Type 0 where
  pub has : HasNumber id rows
  pub range : IfSome (given_number id rows) (λ n. (least ≤ n) × (n ≤ most))

module _ (least most : ℕ) (fits : most < 2 ^ 32) where
  -- a value in the range is such a text, as it is read
  value_number : (v : Text) → accepts false (Signed (pos least) (pos most)) v ≡ true → IsNumber least most (without_minus v)
  value_number v ok = go (is_unsigned_in 0 4294967295 (without_minus v)) refl
    where
      reads : (r : Option ℕ) → ReadsOne {E = ⊤} (ParsesUnsigned 32 10) (without_minus v) r → (n : ℕ) × (r ≡ Some n) × (least ≤ n) × (n ≤ most)
      reads r h = signed_reads ⊤ (ParsesUnsigned 32 10) 32 least most v r h (λ t x g. g) fits (accepts-Accepts false (Signed (pos least) (pos most)) v ok)

      go : (b : Bool) → is_unsigned_in 0 4294967295 (without_minus v) ≡ b → IsNumber least most (without_minus v)
      go true e =
          let number = accepts-Accepts false (Unsigned 0 4294967295) (without_minus v) e in
          let got = reads (Some (number_of (without_minus v))) ((number.0, omega (arith, number.3)), refl) in
          let same : number_of (without_minus v) ≡ got.0 = ap (λ o. unwrap_or o 0) got.1 in
          (number.0, omega (arith, same, got.2), omega (arith, same, got.3))
      go false e =
          let got = reads None (tt, λ is. true≢false (sym (Accepts-accepts false (Unsigned 0 4294967295) (without_minus v) (is.0, omega (arith, is.1), omega arith, omega (arith, is.1))) ∙ e)) in
          let none = got.1 in
          cc

  read_number : (id : Text) (rows : List Row) → IsRead id (Signed (pos least) (pos most)) (one_of id rows) → IsNumberIn least most id rows
  read_number id rows read =
      let it = go (one_of id rows) read in
      record { told = it.0; has = it.1; least_is = it.2; most_is = it.3 }
    where
      go : (o : Option Text) → IsRead id (Signed (pos least) (pos most)) o → (is_some o ≡ true)
          × IfSome o (λ text. IsNumeral 10 (without_leading_plus text) × (number_of text < 2 ^ 32)) × (least ≤ option_map_or number_of o 0) × (option_map_or number_of o 0 ≤ most)
      go None is = absurd is
      go (Some t) is =
          let number = subst (IsNumber least most) (sym is.1) (value_number is.0 is.2) in
          (refl, (number.0, omega (arith, number.2, fits)), number.1, number.2)

  number_if_any : (id : Text) (rows : List Row) → (one_of id rows ≡ None) ⊎ IsRead id (Signed (pos least) (pos most)) (one_of id rows) → IsNumberIfAny least most id rows
  number_if_any id rows (inl none) = record { has = rw none tt; range = rw none tt }
  number_if_any id rows (inr read) =
      let it = read_number id rows read in
      record { has = it.has; range = go (one_of id rows) it.least_is it.most_is }
    where
      go : (o : Option Text) → least ≤ option_map_or number_of o 0 → option_map_or number_of o 0 ≤ most → IfSome (option_map number_of o) (λ n. (least ≤ n) × (n ≤ most))
      go None below above = tt
      go (Some t) below above = (below, above)

-- ---- the rules of the subcommands

-- the rule of an option with a number, after building
abbrev number_rule : Text → ℕ → ℕ → List Text → Bool → Rule
number_rule name least most defaults required = with_index 0 (filled (record (number_option name least most) { defaults = defaults; required = required }))

number_keeps : (name : Text) (least most : ℕ) (defaults : List Text) (required : Bool) → Keeps name (Signed (pos least) (pos most)) (number_rule name least most defaults required)
number_keeps name least most defaults required again [] rows e g = cc
number_keeps name least most defaults required again (v ∷ vs) rows e g =
    let range = Signed (pos least) (pos most) in
    set_good name range v vs rows (first_passes name range v vs (no_second _ _ (no_second _ _ e))) g

abbrev limit_range : ValueParser
limit_range = Signed (pos 0) (pos 1000000)

limit_default : KeepsByDefault (codes "limit") limit_range (number_rule (codes "limit") 0 1000000 (codes "1000000" ∷ []) false)
limit_default rows g = own_default (codes "limit") limit_range (codes "1000000") [] refl rows g

-- each option is a rule of its subcommand, and the other rules have other ids
limit_of_replay : EachKeeps (codes "limit") limit_range replay_shape.rules
limit_of_replay =
    let own = number_rule (codes "limit") 0 1000000 (codes "1000000" ∷ []) false in
    only_own (codes "limit") limit_range [] (drop 1 replay_shape.rules) own refl refl (number_keeps (codes "limit") 0 1000000 (codes "1000000" ∷ []) false) limit_default

limit_of_serve : EachKeeps (codes "limit") limit_range serve_shape.rules
limit_of_serve =
    let own = number_rule (codes "limit") 0 1000000 (codes "1000000" ∷ []) false in
    only_own (codes "limit") limit_range (take 3 serve_shape.rules) (drop 4 serve_shape.rules) own refl refl (number_keeps (codes "limit") 0 1000000 (codes "1000000" ∷ []) false) limit_default

workers_of_serve : EachKeeps (codes "workers") (Signed (pos 1) (pos 1024)) serve_shape.rules
workers_of_serve =
    let own = number_rule (codes "workers") 1 1024 [] true in
    only_own (codes "workers") (Signed (pos 1) (pos 1024)) (take 1 serve_shape.rules) (drop 2 serve_shape.rules) own refl refl
    (number_keeps (codes "workers") 1 1024 [] true) (no_default (codes "workers") (Signed (pos 1) (pos 1024)))

sessions_of_serve : EachKeeps (codes "sessions") (Signed (pos 1) (pos 1000000)) serve_shape.rules
sessions_of_serve =
    let own = number_rule (codes "sessions") 1 1000000 [] false in
    only_own (codes "sessions") (Signed (pos 1) (pos 1000000)) (take 2 serve_shape.rules) (drop 3 serve_shape.rules) own refl refl
    (number_keeps (codes "sessions") 1 1000000 [] false) (no_default (codes "sessions") (Signed (pos 1) (pos 1000000)))

-- ---- what is asked

-- the subcommand that was entered has the values that are asked for
rows_met : (words : List Text) (s : Shape) (at : List Text) → subcommand_of program_app words ≡ Some (rows_at s at) → rows_asked words ≡ (rows_at s at).1
rows_met words s at met = ap (λ o. unwrap_or (option_map (λ p. p.1) o) []) met

name_met : (words : List Text) (s : Shape) (at : List Text) → subcommand_of program_app words ≡ Some (rows_at s at) → subcommand_asked words ≡ Some s.name
name_met words s at met = ap (option_map (λ p. p.0)) met

-- the limit, of either subcommand
pub limit_number : (words : List Text) → faults words ≡ [] → IsNumberIn 0 1000000 (codes "limit") (rows_asked words)
limit_number words e = elim (asked_enters words e) [
  | inl to ↦ read (rows_met words replay_shape to.0 to.2) (default_read (codes "limit") limit_range replay_shape to.0 0 (rule_at replay_shape 0) (codes "1000000") [] refl refl refl
      (level_good (codes "limit") limit_range replay_shape to.0 limit_of_replay to.1))
  | inr to ↦ read (rows_met words serve_shape to.0 to.2) (default_read (codes "limit") limit_range serve_shape to.0 3 (rule_at serve_shape 3) (codes "1000000") [] refl refl refl
      (level_good (codes "limit") limit_range serve_shape to.0 limit_of_serve to.1))
]
  where
    read : {rows : List Row} → rows_asked words ≡ rows → IsRead (codes "limit") limit_range (one_of (codes "limit") rows) → IsNumberIn 0 1000000 (codes "limit") (rows_asked words)
    read {rows} is r = subst (λ (x : List Row). IsNumberIn 0 1000000 (codes "limit") x) (sym is) (read_number 0 1000000 (omega arith) (codes "limit") rows r)

-- arguments that ask to serve entered `serve`
serve_met : (words : List Text) → faults words ≡ [] → subcommand_asked words ≡ Some (codes "serve") → Enters serve_shape (subcommand_of program_app words)
serve_met words e named = elim (asked_enters words e) [
  | inl to ↦
      let bad : Some (codes "replay") ≡ Some (codes "serve") = sym (name_met words replay_shape to.0 to.2) ∙ named in
      absurd (true≢false (sym (ap (λ o. bytes_eq (unwrap_or o []) (codes "serve")) bad)))
  | inr to ↦ to
]

-- the workers and the sessions
pub workers_number : (words : List Text) → faults words ≡ [] → subcommand_asked words ≡ Some (codes "serve") → IsNumberIn 1 1024 (codes "workers") (rows_asked words)
workers_number words e named =
    let to = serve_met words e named in
    let good = level_good (codes "workers") (Signed (pos 1) (pos 1024)) serve_shape to.0 workers_of_serve to.1 in
    let read = needed_read (codes "workers") (Signed (pos 1) (pos 1024)) serve_shape to.0 1 (rule_at serve_shape 1) refl refl refl to.1 good in
    subst (λ (x : List Row). IsNumberIn 1 1024 (codes "workers") x) (sym (rows_met words serve_shape to.0 to.2)) (read_number 1 1024 (omega arith) (codes "workers") (rows_at serve_shape to.0).1 read)

pub sessions_number : (words : List Text) → faults words ≡ [] → subcommand_asked words ≡ Some (codes "serve") → IsNumberIfAny 1 1000000 (codes "sessions") (rows_asked words)
sessions_number words e named =
    let to = serve_met words e named in
    let good = level_good (codes "sessions") (Signed (pos 1) (pos 1000000)) serve_shape to.0 sessions_of_serve to.1 in
    let read = read_if_any (codes "sessions") (Signed (pos 1) (pos 1000000)) (rows_at serve_shape to.0).1 good in
    subst (λ (x : List Row). IsNumberIfAny 1 1000000 (codes "sessions") x) (sym (rows_met words serve_shape to.0 to.2)) (number_if_any 1 1000000 (omega arith) (codes "sessions") (rows_at serve_shape to.0).1 read)

-- arguments that are taken ask for one of the two subcommands
pub asked_one : (words : List Text) → faults words ≡ [] → (subcommand_asked words ≡ Some (codes "replay")) ⊎ (subcommand_asked words ≡ Some (codes "serve"))
asked_one words e = elim (asked_enters words e) [
  | inl to ↦ inl (name_met words replay_shape to.0 to.2)
  | inr to ↦ inr (name_met words serve_shape to.0 to.2)
]
