-- A text has each fault exactly if it should.
use Rattle.std.proofs.Common.{◌≡◌, ◌≤◌, ◌⊎◌, ◌+◌, ◌↔◌, ◌&&◌, ℕ, List, [], ◌∷◌, codes, Bool, true, false, cond, Option, Some, None, Result, Ok, Err, is_some, nat_le, refl, IsOk, inl, inr, ◌∙◌, true≢false, sym, ap, subst, arith, bytes_eq, option_and_then}
use Rattle.std.proofs.lemmas.Slice.Eq.{bytes_eq-Decides}
use Rattle.std.proofs.lemmas.Bool.Decides.{nat_tests}
use Rattle.serde_json.specs.Data.{Data, Items, no_items, null, boolean, number, string, array, object, unsigned, negative, float}
use Rattle.serde_json.specs.Find.{get, as_object, as_str}
use Rattle.serde_json.specs.Read.{read}
use Rattle.room_wire.specs.Prelude.{Global, Action, One, Group, Bad, Fault, BadActionField, BadField, BadId, Memory, NotJson, NotObject, UnknownAction, UnknownDo, Field, El, Actions, Seq, Since, Incoming, Body, or_fault, under, action_by, actions_from, group_at, author_at, body_by, count_of, el_at, by_id, incoming, body_at, message_of, ordinal, seq_at, since_at, spells, whole, AreGood, AreGoodActions, IsFirstBadAction, actions_in, group_items, HasWord, IsFirstBad, IsNumber, MessageId, Slot, message_slots, slot, slots, Word, is_action_word, word_text}
use Rattle.room_wire.specs.Reading.{◌>>=◌}
use Rattle.room_wire.proofs.ActionFaults.{ActionsTell, GroupTells, actions_tell, bad_told, none_bad, none_unknown, unknown_told}
use Rattle.room_wire.proofs.FirstFaults.{Only, Tells, action_word_tells, none_good, one_first, only_field, only_seq, only_since, step}
use Rattle.room_wire.proofs.WellFormedProofs.{doing, grouped, id_read, spells-body, word_read}
use Rattle.room_interface.specs.declared.call.Request.TheVariants as requests
use Rattle.room_wire.specs.declared.field.Field.TheVariants as fields
use Rattle.room_wire.specs.declared.incoming.Body.TheVariants as bodies
use Rattle.room_wire.specs.Words as words

-- The fault of a result is the first bad field, or the first bad action of a group whose fields are well formed. If it
-- has no fault, there is neither.
abbrev TellsAll : {X : Type 0} → Result X Fault → List Slot → Items → Type 0
TellsAll (Ok x) all ds = AreGood all × AreGoodActions ds
TellsAll (Err fault) all ds = ((field : Field) × (fault ≡ BadField field) × IsFirstBad all field) ⊎ (AreGood all × ActionsTell fault ds 0)

plain : {X : Type 0} (r : Result X Fault) (all : List Slot) → Tells r all → TellsAll r all no_items
plain (Ok x) all good = (good, tt)
plain (Err fault) all told = inl told

-- a well-formed field before the others is skipped
all_passed_over : {X : Type 0} (field : Field) (r : Result X Fault) (later : List Slot) (ds : Items) → TellsAll r later ds → TellsAll r ((field, true) ∷ later) ds
all_passed_over field (Ok x) later ds h = h
all_passed_over field (Err fault) later ds (inl first) = inl first
all_passed_over field (Err fault) later ds (inr actions) = inr actions

-- the fault of a field is that of the whole, whose later steps tell the later fields and the actions
first_step : {X B : Type 0} (field : Field) (r : Result X Fault) (f : X → Result B Fault) (later : List Slot) (ds : Items) → Only field r → ((x : X) → TellsAll (f x) later ds)
    → TellsAll (r >>= f) (slot field r ∷ later) ds
first_step field (Ok x) f later ds only h = all_passed_over field (f x) later ds (h x)
first_step field (Err fault) f later ds only h = inl (field, only, refl)

-- an action as an edit has the action's fault
done_tells : (since : Option ℕ) (r : Result (Action Global) Fault) (all : List Slot) → Tells r all → TellsAll ((r >>= λ action. Ok (One action)) >>= λ edit. Ok (bodies.Change (requests.Do edit since))) all no_items
done_tells since (Ok action) all good = (good, tt)
done_tells since (Err fault) all told = inl told

-- a message with an action has the fault of what its author had seen, or else the action's
action_tells : (word : Word) (d : Data) → is_action_word word ≡ true → TellsAll (doing (since_at d) (action_by (word_text word) d)) (slot Since (since_at d) ∷ slots word d) no_items
action_tells word d is =
    first_step Since (since_at d) _ (slots word d) no_items (only_since (get (codes "since") d))
    (λ since. done_tells since (action_by (word_text word) d) (slots word d) (action_word_tells word d is))

-- a group has the fault of its actions
group_done : (since : Option ℕ) (all : List Slot) (ds : Items) (r : Result (List (Action Global)) Fault) → AreGood all → GroupTells r ds 0
    → TellsAll ((r >>= λ group. Ok (Group group)) >>= λ edit. Ok (bodies.Change (requests.Do edit since))) all ds
group_done since all ds (Ok group) good told = (good, told)
group_done since all ds (Err fault) good told = inr (good, told)

group_tells : (since : Option ℕ) (r : Result Items Fault) → Only Actions r → TellsAll (grouped (Ok since) r) (slot Actions r ∷ []) (actions_in r)
group_tells since (Ok ds) only = group_done since (slot Actions (Ok ds) ∷ []) ds (actions_from 0 ds) tt (actions_tell 0 ds)
group_tells since (Err fault) only = inl (Actions, only, refl)

body_tells : (word : Word) (d : Data) → TellsAll (body_by (word_text word) d) (message_slots word d) (group_items word d)
body_tells words.Create d = action_tells words.Create d refl
body_tells words.Retag d = action_tells words.Retag d refl
body_tells words.Move d = action_tells words.Move d refl
body_tells words.Reverse d = action_tells words.Reverse d refl
body_tells words.Nodes d = action_tells words.Nodes d refl
body_tells words.Members d = action_tells words.Members d refl
body_tells words.Delete d = action_tells words.Delete d refl
body_tells words.Purge d = action_tells words.Purge d refl
body_tells words.Split d = action_tells words.Split d refl
body_tells words.Join d = action_tells words.Join d refl
body_tells words.Merge d = action_tells words.Merge d refl
body_tells words.Unglue d = action_tells words.Unglue d refl
body_tells words.Group d = first_step Since (since_at d) _ (slots words.Group d) (group_items words.Group d) (only_since (get (codes "since") d)) (λ since. group_tells since (group_at d) (only_field Actions _))
body_tells words.Undo d = plain (body_by (word_text words.Undo) d) (slots words.Undo d) (step Seq (seq_at d) (λ seq. Ok (bodies.Change (requests.Undo seq))) [] (only_seq (get (codes "seq") d)) (λ seq e. tt))
body_tells words.Redo d = plain (body_by (word_text words.Redo) d) (slots words.Redo d) (tt)
body_tells words.Undos d = plain (body_by (word_text words.Undos) d) (slots words.Undos d) (tt)
body_tells words.Get d = plain (body_by (word_text words.Get) d) (slots words.Get d) (step El (el_at d) (λ name. Ok (bodies.Get name)) [] (only_field El _) (λ name e. tt))
body_tells words.Map d = plain (body_by (word_text words.Map) d) (slots words.Map d) (tt)
body_tells words.Hello d = plain (body_by (word_text words.Hello) d) (slots words.Hello d) (step fields.Room (author_at fields.Room d) _ _ (only_field fields.Room _) (λ room e. step fields.Name (author_at fields.Name d) (λ name. Ok (bodies.Hello room name)) [] (only_field fields.Name _) (λ name e. tt)))

abbrev bad : ℕ → Fault → Result Incoming Bad
bad id fault = Err (record { id = id; fault = fault })

abbrev fault_in : Result Incoming Bad → Fault
fault_in (Ok message) = NotJson
fault_in (Err b) = b.fault

abbrev field_in : Fault → Field
field_in (BadField field) = field
field_in _ = El

-- a fault under an id
fault_under : (id : ℕ) (f g : Fault) → under incoming id (Err f) ≡ bad id g → f ≡ g
fault_under id f g e = ap fault_in e

no_message : (id : ℕ) (body : Body) (fault : Fault) → under incoming id (Ok body) ≡ bad id fault → ⊥
no_message id body fault e = cc

told : (id : ℕ) (r : Result Body Fault) (all : List Slot) (ds : Items) (field : Field) → TellsAll r all ds → (under incoming id r ≡ bad id (BadField field)) ↔ IsFirstBad all field
told id (Ok body) all ds field (good, actions) = (λ e. absurd (no_message id body (BadField field) e), λ first. absurd (none_good all field good first))
told id (Err fault) all ds field (inl (f, is, first)) = (
  λ e. subst (IsFirstBad all) (ap field_in (sym is ∙ fault_under id fault (BadField field) e)) first,
  λ h. ap (bad id) (is ∙ ap BadField (one_first all f field first h)),
)
told id (Err fault) all ds field (inr (good, actions)) = (
  λ e. absurd (subst (λ f. ActionsTell f ds 0) (fault_under id fault (BadField field) e) actions),
  λ first. absurd (none_good all field good first),
)

ok_told : (id : ℕ) (r : Result Body Fault) (all : List Slot) (ds : Items) → TellsAll r all ds → IsOk (under incoming id r) ↔ (AreGood all × AreGoodActions ds)
ok_told id (Ok body) all ds good = (λ ok. good, λ g. refl)
ok_told id (Err fault) all ds (inl (f, is, first)) = (λ ok. absurd (true≢false (sym ok)), λ g. absurd (none_good all f g.0 first))
ok_told id (Err fault) all ds (inr (good, actions)) = (λ ok. absurd (true≢false (sym ok)), λ g. absurd (never fault actions g.1))
  where
    never : (f : Fault) → ActionsTell f ds 0 → AreGoodActions ds → ⊥
    never (UnknownAction j) (n, at, first) g = none_unknown ds n g first
    never (BadActionField j field) (n, at, first) g = none_bad field ds n g first
    never NotJson h g = h
    never NotObject h g = h
    never BadId h g = h
    never UnknownDo h g = h
    never (BadField field) h g = h
    never Memory h g = h

-- the fault of an action of a group, at its position
position_of : (j k n : ℕ) → j ≡ k → j ≡ 0 + n → n ≡ k
position_of j k n is at = omega (arith, is, at)

unknown_told_from : (id : ℕ) (r : Result Body Fault) (all : List Slot) (ds : Items) (k : ℕ) → TellsAll r all ds → under incoming id r ≡ bad id (UnknownAction k) → AreGood all × IsFirstBadAction ds k UnknownDo
unknown_told_from id (Ok body) all ds k h e = absurd (no_message id body (UnknownAction k) e)
unknown_told_from id (Err fault) all ds k (inl (f, is, first)) e = absurd (other (sym is ∙ fault_under id fault (UnknownAction k) e))
  where
    other : BadField f ≡ UnknownAction k → ⊥
    other e = cc
unknown_told_from id (Err fault) all ds k (inr (good, actions)) e =
    let at = subst (λ f. ActionsTell f ds 0) (fault_under id fault (UnknownAction k) e) actions in
    (good, subst (λ n. IsFirstBadAction ds n UnknownDo) (position_of k k at.0 refl at.1) at.2)

bad_told_from : (id : ℕ) (r : Result Body Fault) (all : List Slot) (ds : Items) (k : ℕ) (field : Field) → TellsAll r all ds → under incoming id r ≡ bad id (BadActionField k field)
    → AreGood all × IsFirstBadAction ds k (BadField field)
bad_told_from id (Ok body) all ds k field h e = absurd (no_message id body (BadActionField k field) e)
bad_told_from id (Err fault) all ds k field (inl (f, is, first)) e = absurd (other (sym is ∙ fault_under id fault (BadActionField k field) e))
  where
    other : BadField f ≡ BadActionField k field → ⊥
    other e = cc
bad_told_from id (Err fault) all ds k field (inr (good, actions)) e =
    let at = subst (λ f. ActionsTell f ds 0) (fault_under id fault (BadActionField k field) e) actions in
    (good, subst (λ n. IsFirstBadAction ds n (BadField field)) (position_of k k at.0 refl at.1) at.2)

-- the actions of a message are those of a group
grouped_fault : (fault : Fault) (s : Result (Option ℕ) Fault) (r : Result Items Fault) (k : ℕ) (wrong : Fault) → AreGood (slot Since s ∷ slot Actions r ∷ []) → IsFirstBadAction (actions_in r) k wrong
    → ((ds : Items) → r ≡ Ok ds → actions_from 0 ds ≡ Err fault) → grouped s r ≡ Err fault
grouped_fault fault (Ok since) (Ok ds) k wrong good first told = ap (λ r. (r >>= λ group. Ok (Group group)) >>= λ edit. Ok (bodies.Change (requests.Do edit since))) (told ds refl)
grouped_fault fault (Ok since) (Err f) k wrong good first told = absurd first
grouped_fault fault (Err f) r k wrong good first told = absurd good

module _ (d : Data) (fault wrong : Fault) (k : ℕ) (reads : (ds : Items) → IsFirstBadAction ds k wrong → actions_from 0 ds ≡ Err fault) where
  body_fault : (word : Word) → AreGood (message_slots word d) → IsFirstBadAction (group_items word d) k wrong → body_by (word_text word) d ≡ Err fault
  body_fault words.Group good first = grouped_fault fault (since_at d) (group_at d) k wrong good first (λ ds is. reads ds (subst (λ r. IsFirstBadAction (actions_in r) k wrong) is first))
  body_fault words.Create good first = absurd first
  body_fault words.Retag good first = absurd first
  body_fault words.Move good first = absurd first
  body_fault words.Reverse good first = absurd first
  body_fault words.Nodes good first = absurd first
  body_fault words.Members good first = absurd first
  body_fault words.Delete good first = absurd first
  body_fault words.Purge good first = absurd first
  body_fault words.Split good first = absurd first
  body_fault words.Join good first = absurd first
  body_fault words.Merge good first = absurd first
  body_fault words.Unglue good first = absurd first
  body_fault words.Undo good first = absurd first
  body_fault words.Redo good first = absurd first
  body_fault words.Undos good first = absurd first
  body_fault words.Get good first = absurd first
  body_fault words.Map good first = absurd first
  body_fault words.Hello good first = absurd first

from_none : (k : ℕ) → 0 + k ≡ k
from_none k = omega arith

module _ (text : List ℕ) (d : Data) (tree : read text ≡ Some d) where
  body_spelled : (id : ℕ) (word : Word) → MessageId d id → HasWord d word → spells text ≡ under incoming id (body_by (word_text word) d)
  body_spelled id word has asks = spells-body text d id tree (id_read d id has) ∙ ap (under incoming id) (word_read d word asks)

  pub bad_field_told : (id : ℕ) (word : Word) (field : Field) → MessageId d id → HasWord d word → (spells text ≡ bad id (BadField field)) ↔ IsFirstBad (message_slots word d) field
  bad_field_told id word field has asks = rw (body_spelled id word has asks) (told id (body_by (word_text word) d) (message_slots word d) (group_items word d) field (body_tells word d))

  pub unknown_action_told : (id : ℕ) (word : Word) (k : ℕ) → MessageId d id → HasWord d word → (spells text ≡ bad id (UnknownAction k)) ↔ (AreGood (message_slots word d) × IsFirstBadAction (group_items word d) k UnknownDo)
  unknown_action_told id word k has asks = (
    λ e. unknown_told_from id (body_by (word_text word) d) (message_slots word d) (group_items word d) k (body_tells word d) (sym (body_spelled id word has asks) ∙ e),
    λ h. body_spelled id word has asks ∙ ap (under incoming id) (body_fault d (UnknownAction k) UnknownDo k (λ ds first. unknown_told 0 ds k first ∙ ap (λ j. Err (UnknownAction j)) (from_none k)) word h.0 h.1),
  )

  pub bad_action_field_told : (id : ℕ) (word : Word) (k : ℕ) (field : Field) → MessageId d id → HasWord d word
      → (spells text ≡ bad id (BadActionField k field)) ↔ (AreGood (message_slots word d) × IsFirstBadAction (group_items word d) k (BadField field))
  bad_action_field_told id word k field has asks = (
    λ e. bad_told_from id (body_by (word_text word) d) (message_slots word d) (group_items word d) k field (body_tells word d) (sym (body_spelled id word has asks) ∙ e),
    λ h. body_spelled id word has asks ∙ ap (under incoming id) (body_fault d (BadActionField k field) (BadField field) k (λ ds first. bad_told field 0 ds k first ∙ ap (λ j. Err (BadActionField j field)) (from_none k)) word h.0 h.1),
  )

  pub message_told : (id : ℕ) (word : Word) → MessageId d id → HasWord d word → IsOk (spells text) ↔ (AreGood (message_slots word d) × AreGoodActions (group_items word d))
  message_told id word has asks = rw (body_spelled id word has asks) (ok_told id (body_by (word_text word) d) (message_slots word d) (group_items word d) (body_tells word d))

  pub no_object_told : as_object d ≡ None → spells text ≡ bad 0 NotObject
  no_object_told none = ap message_of tree ∙ rw none refl

-- a number that is read has the tree of that number
pub number_of_ordinal : (v : Data) (n : ℕ) → ordinal v ≡ Some n → (v ≡ whole n) × IsNumber n
number_of_ordinal null n e = cc
number_of_ordinal (boolean b) n e = cc
number_of_ordinal (string s) n e = cc
number_of_ordinal (array ds) n e = cc
number_of_ordinal (object ms) n e = cc
number_of_ordinal (number (negative z)) n e = cc
number_of_ordinal (number (float x)) n e = cc
number_of_ordinal (number (unsigned m)) n e = go (nat_le 1 m && nat_le m 9007199254740991) refl e
  where
    go : (b : Bool) → (nat_le 1 m && nat_le m 9007199254740991) ≡ b → cond b (Some m) None ≡ Some n → (whole m ≡ whole n) × IsNumber n
    go true inside e =
        let same : m ≡ n = cc in
        (ap whole same, (grind (arith, nat_tests), grind (arith, nat_tests)))
    go false inside e = cc

pub number_of_count : (v : Data) (n : ℕ) → count_of v ≡ Some n → (v ≡ whole n) × (n ≤ 9007199254740991)
number_of_count null n e = cc
number_of_count (boolean b) n e = cc
number_of_count (string s) n e = cc
number_of_count (array ds) n e = cc
number_of_count (object ms) n e = cc
number_of_count (number (negative z)) n e = cc
number_of_count (number (float x)) n e = cc
number_of_count (number (unsigned m)) n e = go (nat_le m 9007199254740991) refl e
  where
    go : (b : Bool) → nat_le m 9007199254740991 ≡ b → cond b (Some m) None ≡ Some n → (whole m ≡ whole n) × (n ≤ 9007199254740991)
    go true inside e =
        let same : m ≡ n = cc in
        (ap whole same, grind (arith, nat_tests))
    go false inside e = cc

no_number : (v : Data) → ((n : ℕ) → v ≡ whole n → IsNumber n → ⊥) → ordinal v ≡ None
no_number v none = go (ordinal v) refl
  where
    go : (o : Option ℕ) → ordinal v ≡ o → o ≡ None
    go None e = refl
    go (Some n) e = let is = number_of_ordinal v n e in absurd (none n is.0 is.1)

no_id : (o : Option Data) → ((n : ℕ) → o ≡ Some (whole n) → IsNumber n → ⊥) → option_and_then ordinal o ≡ None
no_id None none = refl
no_id (Some v) none = no_number v (λ n e. none n (ap Some e))

pub bad_id_told : (text : List ℕ) (d : Data) → read text ≡ Some d → is_some (as_object d) ≡ true → ((id : ℕ) → MessageId d id → ⊥) → spells text ≡ bad 0 BadId
bad_id_told text d tree is_object none =
    ap message_of tree ∙ rw is_object (ap (λ o. by_id incoming body_at (or_fault BadId o) d) (no_id (get (codes "id") d) (λ n e h. none n (e, h))))

other_word : (w : List ℕ) (word : Word) → (w ≡ word_text word → ⊥) → bytes_eq w (word_text word) ≡ false
other_word w word other = go (bytes_eq w (word_text word)) refl
  where
    go : (b : Bool) → bytes_eq w (word_text word) ≡ b → b ≡ false
    go true e = absurd (other ((bytes_eq-Decides w (word_text word)).0 e))
    go false e = refl

unknown_word : (w : List ℕ) (d : Data) → ((word : Word) → w ≡ word_text word → ⊥) → body_by w d ≡ Err UnknownDo
unknown_word w d other =
    let no : (word : Word) → bytes_eq w (word_text word) ≡ false = λ word. other_word w word (other word) in
    rw (no words.Hello, no words.Undo, no words.Redo, no words.Undos, no words.Get, no words.Map, no words.Group, no words.Create, no words.Retag, no words.Move, no words.Reverse, no words.Nodes, no words.Members, no words.Delete, no words.Purge, no words.Split, no words.Join, no words.Merge, no words.Unglue) refl

unknown_body : (d : Data) (o : Option Data) → ((word : Word) → o ≡ Some (string (word_text word)) → ⊥) → (or_fault UnknownDo (option_and_then as_str o) >>= λ w. body_by w d) ≡ Err UnknownDo
unknown_body d None other = refl
unknown_body d (Some null) other = refl
unknown_body d (Some (boolean b)) other = refl
unknown_body d (Some (number n)) other = refl
unknown_body d (Some (array ds)) other = refl
unknown_body d (Some (object ms)) other = refl
unknown_body d (Some (string w)) other = unknown_word w d (λ word e. other word (ap (λ t. Some (string t)) e))

pub unknown_do_told : (text : List ℕ) (d : Data) (id : ℕ) → read text ≡ Some d → MessageId d id → ((word : Word) → HasWord d word → ⊥) → spells text ≡ bad id UnknownDo
unknown_do_told text d id tree has none = spells-body text d id tree (id_read d id has) ∙ ap (under incoming id) (unknown_body d (get (codes "do") d) none)

pub no_json_told : (text : List ℕ) → read text ≡ None → spells text ≡ bad 0 NotJson
no_json_told text none = ap message_of none
