-- The first malformed action of a group is reported with its position.
use Rattle.std.proofs.Common.{◌≡◌, ◌⊎◌, ◌+◌, zero, suc, ℕ, List, ◌∷◌, codes, Bool, true, false, Option, Some, None, Result, Ok, Err, refl, IsOk, inl, inr, ◌∙◌, true≢false, sym, ap, subst, arith, bytes_eq, option_and_then}
use Rattle.std.proofs.lemmas.Slice.Eq.{bytes_eq-Decides}
use Rattle.serde_json.specs.Data.{Data, Items, no_items, item, null, boolean, number, string, array, object}
use Rattle.serde_json.specs.Find.{get, as_str}
use Rattle.room_wire.specs.Prelude.{Global, Action, Fault, BadActionField, BadField, BadId, Memory, NotJson, NotObject, UnknownAction, UnknownDo, Field, or_fault, action_at, action_by, actions_from, at_action, with_position, AreGoodActions, IsBadAction, IsFirstBadAction, IsGoodAction, HasWord, slots, Word, is_action_word, word_text}
use Rattle.room_wire.specs.Reading.{◌>>=◌}
use Rattle.room_wire.proofs.FirstFaults.{Tells, action_word_tells, none_good, one_first}
use Rattle.room_wire.proofs.WellFormedProofs.{action_word_read}
use Rattle.room_wire.specs.Words as words

-- ---- the actions of a group

-- the meaning of a result of an action
abbrev ActionTells : Result (Action Global) Fault → Data → Type 0
ActionTells (Ok a) d = IsGoodAction d
ActionTells (Err fault) d = IsBadAction d fault

of_word : (word : Word) (d : Data) (r : Result (Action Global) Fault) → is_action_word word ≡ true → HasWord d word → Tells r (slots word d) → ActionTells r d
of_word word d (Ok a) is has good = (word, is, has, good)
of_word word d (Err fault) is has (field, told, first) = subst (IsBadAction d) (sym told) (word, is, has, first)

-- a text is the word of an action, or is not
abbrev Known : List ℕ → Type 0
Known w = ((word : Word) × (is_action_word word ≡ true) × (w ≡ word_text word)) ⊎ ((word : Word) → is_action_word word ≡ true → ¬ (w ≡ word_text word))

is_word : (w : List ℕ) (word : Word) → (w ≡ word_text word) ⊎ (¬ (w ≡ word_text word))
is_word w word = by (bytes_eq w (word_text word)) refl
  where
    by : (b : Bool) → bytes_eq w (word_text word) ≡ b → (w ≡ word_text word) ⊎ (¬ (w ≡ word_text word))
    by true e = inl ((bytes_eq-Decides w (word_text word)).0 e)
    by false e = inr (λ same. true≢false (sym ((bytes_eq-Decides w (word_text word)).1 same) ∙ e))

or_next : (w : List ℕ) (word : Word) → is_action_word word ≡ true → ((¬ (w ≡ word_text word)) → Known w) → Known w
or_next w word is later = by (is_word w word)
  where
    by : (w ≡ word_text word) ⊎ (¬ (w ≡ word_text word)) → Known w
    by (inl same) = inl (word, is, same)
    by (inr other) = later other

known : (w : List ℕ) → Known w
known w =
    or_next w words.Create refl (λ create. or_next w words.Retag refl (λ retag. or_next w words.Move refl (λ move. or_next w words.Reverse refl (λ reverse.
    or_next w words.Nodes refl (λ nodes. or_next w words.Members refl (λ members. or_next w words.Delete refl (λ delete. or_next w words.Purge refl (λ purge.
    or_next w words.Split refl (λ split. or_next w words.Join refl (λ join. or_next w words.Merge refl (λ merge. or_next w words.Unglue refl (λ unglue.
    inr (none create retag move reverse nodes members delete purge split join merge unglue)))))))))))))
  where
    none : ¬ (w ≡ word_text words.Create) → ¬ (w ≡ word_text words.Retag) → ¬ (w ≡ word_text words.Move) → ¬ (w ≡ word_text words.Reverse) → ¬ (w ≡ word_text words.Nodes) → ¬ (w ≡ word_text words.Members)
        → ¬ (w ≡ word_text words.Delete) → ¬ (w ≡ word_text words.Purge) → ¬ (w ≡ word_text words.Split) → ¬ (w ≡ word_text words.Join) → ¬ (w ≡ word_text words.Merge) → ¬ (w ≡ word_text words.Unglue)
        → (word : Word) → is_action_word word ≡ true → ¬ (w ≡ word_text word)
    none create retag move reverse nodes members delete purge split join merge unglue words.Create is = create
    none create retag move reverse nodes members delete purge split join merge unglue words.Retag is = retag
    none create retag move reverse nodes members delete purge split join merge unglue words.Move is = move
    none create retag move reverse nodes members delete purge split join merge unglue words.Reverse is = reverse
    none create retag move reverse nodes members delete purge split join merge unglue words.Nodes is = nodes
    none create retag move reverse nodes members delete purge split join merge unglue words.Members is = members
    none create retag move reverse nodes members delete purge split join merge unglue words.Delete is = delete
    none create retag move reverse nodes members delete purge split join merge unglue words.Purge is = purge
    none create retag move reverse nodes members delete purge split join merge unglue words.Split is = split
    none create retag move reverse nodes members delete purge split join merge unglue words.Join is = join
    none create retag move reverse nodes members delete purge split join merge unglue words.Merge is = merge
    none create retag move reverse nodes members delete purge split join merge unglue words.Unglue is = unglue
    none create retag move reverse nodes members delete purge split join merge unglue words.Group is = absurd (true≢false (sym is))
    none create retag move reverse nodes members delete purge split join merge unglue words.Undo is = absurd (true≢false (sym is))
    none create retag move reverse nodes members delete purge split join merge unglue words.Redo is = absurd (true≢false (sym is))
    none create retag move reverse nodes members delete purge split join merge unglue words.Undos is = absurd (true≢false (sym is))
    none create retag move reverse nodes members delete purge split join merge unglue words.Get is = absurd (true≢false (sym is))
    none create retag move reverse nodes members delete purge split join merge unglue words.Map is = absurd (true≢false (sym is))
    none create retag move reverse nodes members delete purge split join merge unglue words.Hello is = absurd (true≢false (sym is))

other_word : (w : List ℕ) (word : Word) → (w ≡ word_text word → ⊥) → bytes_eq w (word_text word) ≡ false
other_word w word other = go (bytes_eq w (word_text word)) refl
  where
    go : (b : Bool) → bytes_eq w (word_text word) ≡ b → b ≡ false
    go true e = absurd (other ((bytes_eq-Decides w (word_text word)).0 e))
    go false e = refl

unknown_action_word : (w : List ℕ) (d : Data) → ((word : Word) → is_action_word word ≡ true → ¬ (w ≡ word_text word)) → action_by w d ≡ Err UnknownDo
unknown_action_word w d other =
    let no : (word : Word) → is_action_word word ≡ true → bytes_eq w (word_text word) ≡ false = λ word is. other_word w word (other word is) in
    rw (no words.Create refl, no words.Retag refl, no words.Move refl, no words.Reverse refl, no words.Nodes refl, no words.Members refl, no words.Delete refl, no words.Purge refl, no words.Split refl, no words.Join refl, no words.Merge refl, no words.Unglue refl) refl

-- a message without a word
module _ (d : Data) where
  abbrev Reads : Option Data → Result (Action Global) Fault
  Reads o = or_fault UnknownDo (option_and_then as_str o) >>= λ w. action_by w d

  nameless : (o : Option Data) → get (codes "do") d ≡ o → ((w : List ℕ) → ¬ (o ≡ Some (string w))) → IsBadAction d UnknownDo
  nameless o is none = λ word action has. none (word_text word) (sym is ∙ has)

  no_text : (v : Data) → ((w : List ℕ) → ¬ (v ≡ string w)) → (w : List ℕ) → ¬ (Some v ≡ Some (string w))
  no_text v none w e = none w (let same : v ≡ string w = cc in same)

  worded : (w : List ℕ) → get (codes "do") d ≡ Some (string w) → ActionTells (action_by w d) d
  worded w has = by (known w)
    where
      same_word : (word : Word) → HasWord d word → w ≡ word_text word
      same_word word h = let e : Some (string w) ≡ Some (string (word_text word)) = sym has ∙ h in let same : w ≡ word_text word = cc in same

      by : Known w → ActionTells (action_by w d) d
      by (inl (word, is, same)) =
          let named : HasWord d word = has ∙ ap (λ t. Some (string t)) same in
          subst (λ t. ActionTells (action_by t d) d) (sym same) (of_word word d (action_by (word_text word) d) is named (action_word_tells word d is))
      by (inr none) = subst (λ r. ActionTells r d) (sym (unknown_action_word w d none)) (λ word is h. none word is (same_word word h))

  read_of : (o : Option Data) → get (codes "do") d ≡ o → ActionTells (Reads o) d
  read_of None is = nameless None is (λ w e. cc)
  read_of (Some null) is = nameless (Some null) is (λ w e. cc)
  read_of (Some (boolean b)) is = nameless (Some (boolean b)) is (λ w e. cc)
  read_of (Some (number n)) is = nameless (Some (number n)) is (λ w e. cc)
  read_of (Some (array ds)) is = nameless (Some (array ds)) is (λ w e. cc)
  read_of (Some (object ms)) is = nameless (Some (object ms)) is (λ w e. cc)
  read_of (Some (string w)) is = worded w is

  pub action_tells : ActionTells (action_at d) d
  action_tells = read_of (get (codes "do") d) refl

-- the meaning of a fault of the actions from position k on
abbrev pub ActionsTell : Fault → Items → ℕ → Type 0
ActionsTell (UnknownAction j) ds k = (n : ℕ) × (j ≡ k + n) × IsFirstBadAction ds n UnknownDo
ActionsTell (BadActionField j field) ds k = (n : ℕ) × (j ≡ k + n) × IsFirstBadAction ds n (BadField field)
ActionsTell fault ds k = ⊥

abbrev pub GroupTells : Result (List (Action Global)) Fault → Items → ℕ → Type 0
GroupTells (Ok group) ds k = AreGoodActions ds
GroupTells (Err fault) ds k = ActionsTell fault ds k

-- a fault of later actions, after a well-formed action
later_tells : (fault : Fault) (d : Data) (ds : Items) (k : ℕ) → IsGoodAction d → ActionsTell fault ds (k + 1) → ActionsTell fault (item d ds) k
later_tells (UnknownAction j) d ds k good (n, at, first) = (suc n, at ∙ one_on, (good, first))
  where
    one_on : k + 1 + n ≡ k + suc n
    one_on = omega arith
later_tells (BadActionField j field) d ds k good (n, at, first) = (suc n, at ∙ one_on, (good, first))
  where
    one_on : k + 1 + n ≡ k + suc n
    one_on = omega arith
later_tells NotJson d ds k good h = h
later_tells NotObject d ds k good h = h
later_tells BadId d ds k good h = h
later_tells UnknownDo d ds k good h = h
later_tells (BadField field) d ds k good h = h
later_tells Memory d ds k good h = h

-- a fault of the first action
first_tells : (fault : Fault) (d : Data) (ds : Items) (k : ℕ) → IsBadAction d fault → ActionsTell (at_action k fault) (item d ds) k
first_tells UnknownDo d ds k bad = (0, omega arith, bad)
first_tells (BadField field) d ds k bad = (0, omega arith, bad)
first_tells NotJson d ds k bad = bad
first_tells NotObject d ds k bad = bad
first_tells BadId d ds k bad = bad
first_tells (UnknownAction j) d ds k bad = absurd bad
first_tells (BadActionField j field) d ds k bad = absurd bad
first_tells Memory d ds k bad = bad

next_tells : (d : Data) (ds : Items) (k : ℕ) (r : Result (Action Global) Fault) (later : Result (List (Action Global)) Fault) → ActionTells r d → GroupTells later ds (k + 1)
    → GroupTells (with_position k r >>= λ a. later >>= λ more. Ok (a ∷ more)) (item d ds) k
next_tells d ds k (Err fault) later bad h = first_tells fault d ds k bad
next_tells d ds k (Ok a) (Err fault) good h = later_tells fault d ds k good h
next_tells d ds k (Ok a) (Ok more) good h = (good, h)

pub actions_tell : (k : ℕ) (ds : Items) → GroupTells (actions_from k ds) ds k
actions_tell k no_items = tt
actions_tell k (item d ds) = next_tells d ds k (action_at d) (actions_from (k + 1) ds) (action_tells d) (actions_tell (k + 1) ds)

-- ---- well-formed and malformed actions are read as such

read_by_word : (d : Data) (word : Word) → HasWord d word → action_at d ≡ action_by (word_text word) d
read_by_word d word h = action_word_read d word h

told_good : (d : Data) → IsGoodAction d → IsOk (action_at d)
told_good d (word, is, has, good) = rw (read_by_word d word has) (by (action_by (word_text word) d) (action_word_tells word d is))
  where
    by : (r : Result (Action Global) Fault) → Tells r (slots word d) → IsOk r
    by (Ok a) h = refl
    by (Err fault) (field, told, first) = absurd (none_good (slots word d) field good first)

told_unknown : (d : Data) → IsBadAction d UnknownDo → action_at d ≡ Err UnknownDo
told_unknown d none = by (action_at d) (action_tells d)
  where
    by : (r : Result (Action Global) Fault) → ActionTells r d → r ≡ Err UnknownDo
    by (Ok a) (word, is, has, good) = absurd (none word is has)
    by (Err UnknownDo) h = refl
    by (Err (BadField field)) (word, is, has, first) = absurd (none word is has)
    by (Err NotJson) h = absurd h
    by (Err NotObject) h = absurd h
    by (Err BadId) h = absurd h
    by (Err (UnknownAction j)) h = absurd h
    by (Err (BadActionField j field)) h = absurd h
    by (Err Memory) h = absurd h

told_bad_field : (d : Data) (field : Field) → IsBadAction d (BadField field) → action_at d ≡ Err (BadField field)
told_bad_field d field (word, is, has, bad) = read_by_word d word has ∙ by (action_by (word_text word) d) (action_word_tells word d is)
  where
    by : (r : Result (Action Global) Fault) → Tells r (slots word d) → r ≡ Err (BadField field)
    by (Ok a) good = absurd (none_good (slots word d) field good bad)
    by (Err fault) (other, told, first) = ap Err (told ∙ ap BadField (one_first (slots word d) other field first bad))

-- an action with this fault is read with this fault
abbrev IsToldAt : Data → Fault → Type 0
IsToldAt d fault = IsBadAction d fault → action_at d ≡ Err fault

pub first_bad_told : (fault : Fault) → ((d : Data) → IsToldAt d fault) → (k : ℕ) (ds : Items) (n : ℕ) → IsFirstBadAction ds n fault → actions_from k ds ≡ Err (at_action (k + n) fault)
first_bad_told fault told k no_items n first = absurd first
first_bad_told fault told k (item d ds) zero first = rw (told d first) (ap (λ j. Err (at_action j fault)) here)
  where
    here : k ≡ k + 0
    here = omega arith
first_bad_told fault told k (item d ds) (suc n) (good, first) = by (action_at d) (told_good d good) (first_bad_told fault told (k + 1) ds n first)
  where
    one_on : k + 1 + n ≡ k + suc n
    one_on = omega arith

    by : (r : Result (Action Global) Fault) → IsOk r → actions_from (k + 1) ds ≡ Err (at_action (k + 1 + n) fault)
        → (with_position k r >>= λ a. actions_from (k + 1) ds >>= λ more. Ok (a ∷ more)) ≡ Err (at_action (k + suc n) fault)
    by (Ok a) is later = rw later (ap (λ j. Err (at_action j fault)) one_on)
    by (Err e) is later = absurd (true≢false (sym is))

pub unknown_told : (k : ℕ) (ds : Items) (n : ℕ) → IsFirstBadAction ds n UnknownDo → actions_from k ds ≡ Err (UnknownAction (k + n))
unknown_told = first_bad_told UnknownDo told_unknown

pub bad_told : (field : Field) (k : ℕ) (ds : Items) (n : ℕ) → IsFirstBadAction ds n (BadField field) → actions_from k ds ≡ Err (BadActionField (k + n) field)
bad_told field = first_bad_told (BadField field) (λ d. told_bad_field d field)

-- no well-formed action is read with a fault
never_both : (d : Data) (fault : Fault) → IsGoodAction d → action_at d ≡ Err fault → ⊥
never_both d fault good is = true≢false (sym (subst IsOk is (told_good d good)))

pub none_unknown : (ds : Items) (n : ℕ) → AreGoodActions ds → IsFirstBadAction ds n UnknownDo → ⊥
none_unknown no_items n good first = first
none_unknown (item d ds) zero good first = never_both d UnknownDo good.0 (told_unknown d first)
none_unknown (item d ds) (suc n) good first = none_unknown ds n good.1 first.1

pub none_bad : (field : Field) (ds : Items) (n : ℕ) → AreGoodActions ds → IsFirstBadAction ds n (BadField field) → ⊥
none_bad field no_items n good first = first
none_bad field (item d ds) zero good first = never_both d (BadField field) good.0 (told_bad_field d field first)
none_bad field (item d ds) (suc n) good first = none_bad field ds n good.1 first.1
