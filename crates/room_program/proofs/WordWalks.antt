-- What reading the arguments keeps, if they are taken.
use Rattle.std.proofs.Common.{◌≡◌, ◌&&◌, refl, ℕ, zero, suc, Bool, true, false, List, [], ◌∷◌, Option, Some, None, codes, cond, length, drop, is_some, encode_utf8, slice_get, find, fold, bytes_eq, chars}
use Rattle.std.specs.Prelude.{⊤}
use Rattle.std.specs.Option.{option_map_or}
use Rattle.clap.specs.Lexer.{long_of, short_of}
use Rattle.clap.specs.Kinds.{Kinds, or_else}
use Rattle.clap.specs.Walk.{Held, Names, Outcome, Row, Rule, Step, Text, Waiting, Walk, after_flag, after_step, arg_by_id, arg_by_index, arg_by_long, arg_by_short, attached_value, bundle_met, bundle_step, done, finished, flag_met, is_pending, long_met, long_or_other, next, nothing_held, option, option_met, option_word, plain, plain_word, positional, positional_held, pushed, idle, waits, refused, trailing, subcommand, value, reacted, settled, settled_rows, short_met, short_or_plain, stop_after, subcommand_met, subcommand_or_other, takes_several, takes_values, to_positional, used, used_by_id, walked, walked_from, walk, walk_from, word_met}
use Rattle.clap.specs.Simple.{Shape}
use Rattle.clap.specs.declared.error.kind.ErrorKind.TheVariants.{DisplayHelp, InvalidSubcommand, TooManyValues}
use Rattle.clap.specs.Faults.{bundle_fault, bundle_step_fault, check_fault, flag_word_fault, flags_fault, level_fault, long_fault, option_fault, other_fault, positional_fault, react_fault, settle_fault, short_fault, stray_fault, step_fault, turn_fault, use_fault, walk_fault, word_fault}

pub no_first : (a b : Kinds) → or_else a b ≡ [] → a ≡ []
no_first [] b e = refl
no_first (k ∷ ks) b e = e

pub no_second : (a b : Kinds) → or_else a b ≡ [] → b ≡ []
no_second [] b e = e
no_second (k ∷ ks) b e = cc

-- a level without a fault enters a level without a fault
pub below_none : (s : Shape) (names : Names) (words : List Text) (has : Bool) (below : Kinds) → level_fault s names nothing_held words has below ≡ [] → below ≡ []
below_none s names words has below e = no_first below _ (no_second _ _ e)

-- it also passes its last checks
pub check_none : (s : Shape) (names : Names) (words : List Text) (has : Bool) (below : Kinds) → level_fault s names nothing_held words has below ≡ []
    → check_fault s (finished s.rules (walk s.rules names nothing_held words).held) has ≡ []
check_none s names words has below e = no_second _ _ (no_second _ _ (no_second below _ (no_second _ _ e)))

-- a fact about rows that each use of an argument without a fault keeps
module _ (s : Shape) (P : List Row → Type 0)
    (keeps : (f : Rule → Bool) (a : Rule) (values : List Text) (rows : List Row) → find f s.rules ≡ Some a → use_fault s.args_override_self a values rows ≡ [] → P rows
    → P (used a values rows)) where
  by_id_keeps : (id : Text) (values : List Text) (rows : List Row) (o : Option Rule) → arg_by_id s.rules id ≡ o
      → option_map_or (λ a. use_fault s.args_override_self a values rows) o [] ≡ [] → P rows → P (used_by_id o values rows)
  by_id_keeps id values rows None is e p = p
  by_id_keeps id values rows (Some a) is e p = keeps _ a values rows is e p

  settled_keeps : (h : Held) → settle_fault s.rules s.args_override_self h ≡ [] → P h.rows → P (settled s.rules h).rows
  settled_keeps h e p = go h.pending e
    where
      go : (o : Option (Text × List Text))
          → option_map_or (λ p. option_map_or (λ a. use_fault s.args_override_self a p.1 h.rows) (arg_by_id s.rules p.0) []) o [] ≡ []
          → P (settled_rows s.rules o h.rows)
      go None e = p
      go (Some q) e = by_id_keeps q.0 q.1 h.rows (arg_by_id s.rules q.0) refl e p

  reacted_keeps : (f : Rule → Bool) (a : Rule) (values : List Text) (h : Held) → find f s.rules ≡ Some a → react_fault s.rules s.args_override_self a values h ≡ [] → P h.rows
      → P (reacted s.rules a values h).rows
  reacted_keeps f a values h is e p = keeps f a values (settled s.rules h).rows is (no_second _ _ e) (settled_keeps h (no_first _ _ e) p)

  option_keeps : (f : Rule → Bool) (a : Rule) (v : Option Text) (h : Held) → find f s.rules ≡ Some a → option_fault s.rules s.args_override_self a v h ≡ [] → P h.rows
      → P (option_met s.rules a v h).0.rows
  option_keeps f a (Some v) h is e p = reacted_keeps f a (v ∷ []) h is e p
  option_keeps f a None h is e p = settled_keeps h e p

  long_keeps : (f : Rule → Bool) (o : Option Rule) (v : Option Text) (h : Held) → find f s.rules ≡ o → long_fault s.rules s.args_override_self o v h ≡ [] → P h.rows
      → P (long_met s.rules o v h).0.rows
  long_keeps f None v h is e p = p
  long_keeps f (Some a) v h is e p = go (takes_values a) v e
    where
      go : (b : Bool) (v : Option Text)
          → cond b (option_fault s.rules s.args_override_self a v h) (cond (is_some v) (TooManyValues ∷ []) (react_fault s.rules s.args_override_self a [] h)) ≡ []
          → P (cond b (option_met s.rules a v h) (flag_met s.rules a v h)).0.rows
      go true v e = option_keeps f a v h is e p
      go false (Some v) e = p
      go false None e = reacted_keeps f a [] h is e p

  short_keeps : (f : Rule → Bool) (o : Option Rule) (rest : Text) (h : Held) (faults : Held → Kinds) (met : Held → Held × Outcome)
      → ((h : Held) → faults h ≡ [] → P h.rows → P (met h).0.rows)
      → find f s.rules ≡ o → short_fault s.rules s.args_override_self o rest h faults ≡ [] → P h.rows → P (short_met s.rules o rest h met).0.rows
  short_keeps f None rest h faults met then is e p = p
  short_keeps f (Some a) rest h faults met then is e p = go (takes_values a) e
    where
      go : (b : Bool)
          → cond b (option_fault s.rules s.args_override_self a (attached_value rest) h) (or_else (react_fault s.rules s.args_override_self a [] h) (faults (reacted s.rules a [] h))) ≡ []
          → P (cond b (option_met s.rules a (attached_value rest) h) (met (reacted s.rules a [] h))).0.rows
      go true e = option_keeps f a (attached_value rest) h is e p
      go false e = then (reacted s.rules a [] h) (no_second _ _ e) (reacted_keeps f a [] h is (no_first _ _ e) p)

  bundle_keeps : (k : ℕ) (flags : Text) (skip : ℕ) (so_far : Outcome) (h : Held) → flags_fault s.rules s.args_override_self k flags skip h ≡ [] → P h.rows
      → P (bundle_met s.rules k flags skip so_far h).0.rows
  unfolding bundle_met flags_fault
  bundle_keeps zero flags skip so_far h e p = p
  bundle_keeps (suc k) flags skip so_far h e p = go (slice_get (chars flags) 0) skip e (bundle_keeps k)
    where
      go : (o : Option ℕ) (skip : ℕ) → bundle_step_fault s.rules s.args_override_self o flags skip h (flags_fault s.rules s.args_override_self k) ≡ []
          → ((flags : Text) (skip : ℕ) (so_far : Outcome) (h : Held) → flags_fault s.rules s.args_override_self k flags skip h ≡ [] → P h.rows
          → P (bundle_met s.rules k flags skip so_far h).0.rows)
          → P (bundle_step s.rules o flags skip so_far h (bundle_met s.rules k)).0.rows
      go None skip e then = p
      go (Some x) zero e then =
          let rest = drop (length (encode_utf8 x)) flags in
          short_keeps _ (arg_by_short s.rules x) rest h (flags_fault s.rules s.args_override_self k rest 0) (bundle_met s.rules k rest 0 done)
          (λ h e p. then rest 0 done h e p) refl e p
      go (Some x) (suc skip) e then = then (drop (length (encode_utf8 x)) flags) skip so_far h e p

  option_word_keeps : (o : Option Rule) (id word : Text) (h : Held) → P h.rows → P (option_word o id word h).0.rows
  option_word_keeps None id word h p = p
  option_word_keeps (Some a) id word h p = p

  plain_keeps : (waiting : Waiting) (word : Text) (h : Held) → P h.rows → P (plain_word s.rules waiting word h).0.rows
  plain_keeps idle word h p = p
  plain_keeps (option id) word h p = option_word_keeps (arg_by_id s.rules id) id word h p
  plain_keeps positional word h p = p

  after_keeps : (waiting : Waiting) (word : Text) (h : Held) (outcome : Outcome) → P h.rows → P (after_flag s.rules waiting word h outcome).0.rows
  after_keeps waiting word h done p = p
  after_keeps waiting word h (waits id) p = p
  after_keeps waiting word h plain p = plain_keeps waiting word h p
  after_keeps waiting word h refused p = plain_keeps waiting word h p

  short_word_keeps : (waiting : Waiting) (word : Text) (o : Option Text) (h : Held) → option_map_or (λ flags. bundle_fault s.rules s.args_override_self flags h) o [] ≡ []
      → P h.rows → P (short_or_plain s.rules waiting word o h).0.rows
  short_word_keeps waiting word None h e p = plain_keeps waiting word h p
  short_word_keeps waiting word (Some flags) h e p =
      after_keeps waiting word _ _ (bundle_keeps (length flags) flags h.skip plain (record h { skip = 0 }) e p)

  flag_keeps : (waiting : Waiting) (word : Text) (o : Option (Text × Option Text)) (h : Held) → flag_word_fault s.rules s.args_override_self o word h ≡ []
      → P h.rows → P (long_or_other s.rules waiting word o h).0.rows
  flag_keeps waiting word None h e p = short_word_keeps waiting word (short_of word) h e p
  flag_keeps waiting word (Some q) h e p = after_keeps waiting word _ _ (long_keeps _ (arg_by_long s.rules q.0) q.1 h refl e p)

  other_keeps : (o : Option Text) (waiting : Waiting) (position : ℕ) (word : Text) (h : Held) → other_fault s o word h ≡ [] → P h.rows
      → P (subcommand_or_other s.rules o waiting position word h).0.rows
  other_keeps (Some name) waiting position word h e p = p
  other_keeps None waiting position word h e p = go (bytes_eq word (45 ∷ 45 ∷ [])) e
    where
      go : (b : Bool) → cond b [] (flag_word_fault s.rules s.args_override_self (long_of word) word h) ≡ []
          → P (cond b (h, trailing position) (long_or_other s.rules waiting word (long_of word) h)).0.rows
      go true e = p
      go false e = flag_keeps waiting word (long_of word) h e p

  word_keeps : (names : Names) (is_trailing : Bool) (waiting : Waiting) (position : ℕ) (word : Text) (h : Held) → word_fault s names is_trailing waiting word h ≡ [] → P h.rows
      → P (word_met s.rules names is_trailing waiting position word h).0.rows
  word_keeps names true waiting position word h e p = p
  word_keeps names false waiting position word h e p = other_keeps (subcommand_met names waiting word) waiting position word h e p

  positional_keeps : (a : Rule) (word : Text) (h : Held) → positional_fault s.rules s.args_override_self a h ≡ [] → P h.rows → P (positional_held s.rules a word h).rows
  positional_keeps a word h e p = go (is_pending a h.pending && takes_several a) e
    where
      go : (b : Bool) → cond b [] (settle_fault s.rules s.args_override_self h) ≡ [] → P (pushed a.id word (cond b h (settled s.rules h))).rows
      go true e = p
      go false e = settled_keeps h e p

  step_keeps : (w : Walk) (word : Text) (h : Held) (step : Step) → step_fault s w.position h step ≡ [] → P h.rows → P (after_step s.rules word w h step).held.rows
  step_keeps w word h (next waiting) e p = p
  step_keeps w word h (trailing position) e p = p
  step_keeps w word h (subcommand name) e p = p
  step_keeps w word h value e p = go (arg_by_index s.rules w.position) e
    where
      go : (o : Option Rule) → option_map_or (λ a. positional_fault s.rules s.args_override_self a h) o (stray_fault s) ≡ [] → P (to_positional s.rules o word w h).held.rows
      go None e = p
      go (Some a) e = positional_keeps a word h e p

  turn_keeps : (names : Names) (w : Walk) (word : Text) → turn_fault s names w word ≡ [] → P w.held.rows → P (walked s.rules names w word).held.rows
  unfolding walked
  turn_keeps names w word e p = go w.stopped e
    where
      go : (o : Option (Text × List Text))
          → cond (is_some o) [] (or_else (word_fault s names w.is_trailing w.waiting word w.held)
          (step_fault s w.position (word_met s.rules names w.is_trailing w.waiting w.position word w.held).0 (word_met s.rules names w.is_trailing w.waiting w.position word w.held).1)) ≡ []
          → P (walked_from s.rules names o w word).held.rows
      go (Some q) e = p
      go None e =
          let met = word_met s.rules names w.is_trailing w.waiting w.position word w.held in
          step_keeps w word met.0 met.1 (no_second _ _ e) (word_keeps names w.is_trailing w.waiting w.position word w.held (no_first _ _ e) p)

  walk_keeps : (names : Names) (words : List Text) (w : Walk) → walk_fault s names w words ≡ [] → P w.held.rows → P (fold (walked s.rules names) w words).held.rows
  unfolding walk_fault
  walk_keeps names [] w e p = p
  walk_keeps names (word ∷ rest) w e p = walk_keeps names rest (walked s.rules names w word) (no_second _ _ e) (turn_keeps names w word (no_first _ _ e) p)

  -- the rows at the end of a level without a fault, before the defaults
  pub level_keeps : (names : Names) (words : List Text) (has : Bool) (below : Kinds) → level_fault s names nothing_held words has below ≡ [] → P []
      → P (settled s.rules (walk s.rules names nothing_held words).held).rows
  level_keeps names words has below e p =
      let rest = no_second _ _ e in
      settled_keeps (walk s.rules names nothing_held words).held (no_first _ _ (no_second below _ rest)) (walk_keeps names words (walk_from nothing_held) (no_first _ _ e) p)

-- the step enters no subcommand `help`
abbrev NoHelp : Step → Type 0
NoHelp (subcommand name) = bytes_eq name (codes "help") ≡ false
NoHelp _ = ⊤

-- the reading stopped at no `help`
abbrev pub NoHelpMet : Option (Text × List Text) → Type 0
NoHelpMet None = ⊤
NoHelpMet (Some p) = bytes_eq p.0 (codes "help") ≡ false

module _ (s : Shape) (has_help : s.disable_help_subcommand ≡ false) where
  plain_enters : (waiting : Waiting) (word : Text) (h : Held) → NoHelp (plain_word s.rules waiting word h).1
  plain_enters idle word h = tt
  plain_enters (option id) word h = tt
  plain_enters positional word h = tt

  after_enters : (waiting : Waiting) (word : Text) (h : Held) (outcome : Outcome) → NoHelp (after_flag s.rules waiting word h outcome).1
  after_enters waiting word h done = tt
  after_enters waiting word h (waits id) = tt
  after_enters waiting word h plain = plain_enters waiting word h
  after_enters waiting word h refused = plain_enters waiting word h

  short_enters : (waiting : Waiting) (word : Text) (o : Option Text) (h : Held) → NoHelp (short_or_plain s.rules waiting word o h).1
  short_enters waiting word None h = plain_enters waiting word h
  short_enters waiting word (Some flags) h = after_enters waiting word _ _

  flag_enters : (waiting : Waiting) (word : Text) (o : Option (Text × Option Text)) (h : Held) → NoHelp (long_or_other s.rules waiting word o h).1
  flag_enters waiting word None h = short_enters waiting word (short_of word) h
  flag_enters waiting word (Some q) h = after_enters waiting word _ _

  other_enters : (o : Option Text) (waiting : Waiting) (position : ℕ) (word : Text) (h : Held) → other_fault s o word h ≡ []
      → NoHelp (subcommand_or_other s.rules o waiting position word h).1
  other_enters (Some name) waiting position word h e = go (bytes_eq name (codes "help")) (rw has_help at e)
    where
      go : (b : Bool) → cond (b && true) (DisplayHelp ∷ InvalidSubcommand ∷ []) [] ≡ [] → b ≡ false
      go true e = cc
      go false e = refl
  other_enters None waiting position word h e = go (bytes_eq word (45 ∷ 45 ∷ []))
    where
      go : (b : Bool) → NoHelp (cond b (h, trailing position) (long_or_other s.rules waiting word (long_of word) h)).1
      go true = tt
      go false = flag_enters waiting word (long_of word) h

  word_enters : (names : Names) (is_trailing : Bool) (waiting : Waiting) (position : ℕ) (word : Text) (h : Held) → word_fault s names is_trailing waiting word h ≡ []
      → NoHelp (word_met s.rules names is_trailing waiting position word h).1
  word_enters names true waiting position word h e = tt
  word_enters names false waiting position word h e = other_enters (subcommand_met names waiting word) waiting position word h e

  step_stops : (w : Walk) (word : Text) (h : Held) (step : Step) → NoHelp step → NoHelpMet w.stopped → NoHelpMet (after_step s.rules word w h step).stopped
  step_stops w word h (next waiting) enters p = p
  step_stops w word h (trailing position) enters p = p
  step_stops w word h (subcommand name) enters p = enters
  step_stops w word h value enters p = go (arg_by_index s.rules w.position)
    where
      go : (o : Option Rule) → NoHelpMet (to_positional s.rules o word w h).stopped
      go None = p
      go (Some a) = tt

  turn_stops : (names : Names) (w : Walk) (word : Text) → turn_fault s names w word ≡ [] → NoHelpMet w.stopped → NoHelpMet (walked s.rules names w word).stopped
  unfolding walked
  turn_stops names w word e p = go w.stopped e p
    where
      go : (o : Option (Text × List Text))
          → cond (is_some o) [] (or_else (word_fault s names w.is_trailing w.waiting word w.held)
          (step_fault s w.position (word_met s.rules names w.is_trailing w.waiting w.position word w.held).0 (word_met s.rules names w.is_trailing w.waiting w.position word w.held).1)) ≡ []
          → NoHelpMet o → NoHelpMet (walked_from s.rules names o w word).stopped
      go (Some q) e met = met
      go None e met =
          let turn = word_met s.rules names w.is_trailing w.waiting w.position word w.held in
          step_stops w word turn.0 turn.1 (word_enters names w.is_trailing w.waiting w.position word w.held (no_first _ _ e)) p

  walk_stops : (names : Names) (words : List Text) (w : Walk) → walk_fault s names w words ≡ [] → NoHelpMet w.stopped → NoHelpMet (fold (walked s.rules names) w words).stopped
  unfolding walk_fault
  walk_stops names [] w e p = p
  walk_stops names (word ∷ rest) w e p = walk_stops names rest (walked s.rules names w word) (no_second _ _ e) (turn_stops names w word (no_first _ _ e) p)

  -- a level without a fault stops at no `help`
  pub level_stops : (names : Names) (words : List Text) (has : Bool) (below : Kinds) → level_fault s names nothing_held words has below ≡ []
      → NoHelpMet (stop_after s.rules names words)
  level_stops names words has below e = walk_stops names words (walk_from nothing_held) (no_first _ _ e) tt
