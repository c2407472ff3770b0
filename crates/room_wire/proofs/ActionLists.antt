-- Reading the actions of a group, action by action.
use Rattle.std.proofs.Common.{◌≡◌, ◌+◌, ℕ, suc, List, [], ◌∷◌, ◌++◌, length, Result, Ok, Err, refl, sym, ap, append_assoc, append-nil}
use Rattle.serde_json.specs.Data.{Data, Items, no_items, item}
use Rattle.serde_json.specs.Events.{items_len}
use Rattle.json.specs.declared.value.Value.{Value}
use Rattle.room_wire.specs.Prelude.{Global, items_view, Action, Fault, action_at, actions_from, with_position}
use Rattle.room_wire.specs.Reading.{◌>>=◌}

-- the actions that were read, followed by those of the remaining objects
abbrev pub after_actions : List (Action Global) → Result (List (Action Global)) Fault → Result (List (Action Global)) Fault
after_actions front (Ok later) = Ok (front ++ later)
after_actions front (Err fault) = Err fault

one_more : (front : List (Action Global)) (a : Action Global) (later : Result (List (Action Global)) Fault) → after_actions front (later >>= λ more. Ok (a ∷ more)) ≡ after_actions (front ++ a ∷ []) later
one_more front a (Ok more) = ap Ok (sym (append_assoc front (a ∷ []) more))
one_more front a (Err fault) = refl

pub action_read : (front : List (Action Global)) (a : Action Global) (k : ℕ) (d : Data) (ds : Items) → with_position k (action_at d) ≡ Ok a
    → after_actions front (actions_from k (item d ds)) ≡ after_actions (front ++ a ∷ []) (actions_from (k + 1) ds)
action_read front a k d ds is = rw is (one_more front a (actions_from (k + 1) ds))

pub action_bad : (front : List (Action Global)) (fault : Fault) (k : ℕ) (d : Data) (ds : Items) → with_position k (action_at d) ≡ Err fault → after_actions front (actions_from k (item d ds)) ≡ Err fault
action_bad front fault k d ds is = rw is refl

pub actions_end : (front : List (Action Global)) (k : ℕ) → after_actions front (actions_from k no_items) ≡ Ok front
actions_end front k = ap Ok (append-nil front)

-- there are as many objects as values
pub items_len-view : (values : List (Value Global)) → items_len (items_view values) ≡ length values
items_len-view [] = refl
items_len-view (v ∷ vs) = ap suc (items_len-view vs)
