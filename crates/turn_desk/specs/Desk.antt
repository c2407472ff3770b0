-- The model of a desk and of its seats, and the relations that the calls of a desk ensure.
use Rattle.std.specs.Prelude.{◌≡◌, ◌≢◌, ◌⊎◌, ℕ, List, [], ◌∷◌, ◌++◌, ◌+◌, ◌-◌, ◌/◌, ◌^◌, max, length, Option, Some, All}
use Rattle.atomic_table.specs.Seated.{TableId}
use Rattle.turn_desk.specs.History.{History, AreApart, IsAmong, entries, entries_by, BeginsWith, IsLegal}
use Rattle.atomic_table.specs.declared.shared.Seat.{Seat}
use Rattle.turn_desk.specs.declared.view.View.{View}

-- A desk is identified by its table, and has a fixed part.
pub record DeskId (F : Type 0) : Type 0 where
  pub table : TableId
  pub fixed : F

-- A seat. Its fixed part is an Option because what is left of a seat that was met into another has no fixed part.
-- `mine` has the entries of the seat's own calls. `met` has each seat met into it, with its number and the entries of
-- its calls. `looks` has the lengths of the history that it loaded or stored, in order, and `tickets` the tickets that
-- it drew, in order. `parts` is its share of the 2^64 - 1 parts of the desk. Each seat has at least one part, so there
-- are fewer than 2^64 seats at once. If a seat is split, the new seat gets a 4096th of its parts, at least one part.
pub record Sitting (E F : Type 0) : Type 0 where
  pub table : TableId
  pub fixed : Option F
  pub number : ℕ
  pub seen : History E
  pub mine : List E
  pub met : List (ℕ × List E)
  pub looks : List ℕ
  pub tickets : List ℕ
  pub parts : ℕ

-- what a seat with this number of parts gives to a seat that is split off it: a 4096th of them, at least one
abbrev pub share : ℕ → ℕ
share parts = max 1 (parts / 4096)

module _ {E F : Type 0} where
  -- the model of a seat at a table
  abbrev pub sitting : {S : Type 0} → Seat S (View E F) → Sitting E F
  sitting seat =
      let v = seat.me.0 in
      record {
        table = seat.table_id;
        fixed = v.fixed;
        number = v.number;
        seen = v.seen;
        mine = v.mine;
        met = v.met;
        looks = v.looks;
        tickets = v.tickets;
        parts = v.parts;
      }

  -- the seat is one of the desk's
  abbrev pub IsAt : DeskId F → Sitting E F → Type 0
  IsAt desk seat = (seat.table ≡ desk.table) × (seat.fixed ≡ Some desk.fixed)

  -- the seat's own number and those of the seats met into it, each with the entries of its calls
  abbrev pub kin : Sitting E F → List (ℕ × List E)
  kin seat = (seat.number, seat.mine) ∷ seat.met

  -- under the number of each of the seat's kin, the history has exactly the entries of its calls, each once and in
  -- order
  abbrev pub HasKin : History E → Sitting E F → Type 0
  HasKin h seat = All (λ k. entries_by k.0 h ≡ k.1) (kin seat)

  -- after is the same seat as before, with the same seats met into it
  pub record IsSameSeat (before after : Sitting E F) : Type 0 where
    pub table : after.table ≡ before.table
    pub fixed : after.fixed ≡ before.fixed
    pub number : after.number ≡ before.number
    pub met : after.met ≡ before.met
    pub parts : after.parts ≡ before.parts

  -- The first seat of a desk: its number is 0, and it has every part. It has seen nothing, made no call, looked at no
  -- length, drawn no ticket, and has no kin but itself.
  pub record IsFirst (seat : Sitting E F) : Type 0 where
    pub number : seat.number ≡ 0
    pub seen : seat.seen ≡ []
    pub mine : seat.mine ≡ []
    pub met : seat.met ≡ []
    pub looks : seat.looks ≡ []
    pub tickets : seat.tickets ≡ []
    pub parts : seat.parts ≡ 2 ^ 64 - 1

  -- a seat was split into two seats, which have both seen what it had seen
  pub record SplitsInto (before kept new : Sitting E F) : Type 0 where
    pub seen : (kept.seen ≡ before.seen) × (new.seen ≡ before.seen)
    -- `kept` keeps the seat's number, calls, kin, looks and tickets
    pub number : kept.number ≡ before.number
    pub mine : kept.mine ≡ before.mine
    pub met : kept.met ≡ before.met
    pub looks : kept.looks ≡ before.looks
    pub tickets : kept.tickets ≡ before.tickets
    -- the number of `new` is not a number of that kin, and the history has no entry under it
    pub apart : All (λ k. k.0 ≢ new.number) (kin before)
    pub free : entries_by new.number before.seen ≡ []
    -- `new` has made no call, looked at no length and drawn no ticket, and has no kin but itself
    pub fresh : (new.mine ≡ []) × (new.looks ≡ []) × (new.tickets ≡ []) × (new.met ≡ [])
    -- `new` has its share of the parts
    pub parts : (new.parts ≡ share before.parts) × (kept.parts ≡ before.parts - share before.parts)

  -- the seat drew one ticket
  abbrev pub DrawsOne : Sitting E F → Sitting E F → Type 0
  DrawsOne before after = (ticket : ℕ) × (after.tickets ≡ before.tickets ++ ticket ∷ [])

  -- the call left the history unchanged
  abbrev pub Leaves : History E → Sitting E F → Sitting E F → Type 0
  Leaves h before after = (after.seen ≡ h) × (after.mine ≡ before.mine)

  -- the call added an entry to the history, under the seat's number
  abbrev pub Adds : History E → Sitting E F → Sitting E F → Type 0
  Adds h before after = (e : E) × (after.seen ≡ h ++ (before.number, e) ∷ []) × (after.mine ≡ before.mine ++ e ∷ [])

module _ {F E C P : Type 0} (answers : F → List E → C → P → List E → Type 0) (f : F) where
  -- the seat's call was made after a legal history, which begins with all that the seat had seen
  pub record TurnsAt (before : Sitting E F) (call : C) (reply : P) (after : Sitting E F) : Type 0 where
    pub h : History E
    pub legal : IsLegal answers f h
    pub begins : BeginsWith h before.seen
    -- the reply is the one that a single thread gets after this history
    pub answer : answers f (entries h) call reply (entries after.seen)
    -- the seat has then seen this history, with the call's entry if the call was accepted
    pub entry : Leaves h before after ⊎ Adds h before after
    pub stays_legal : IsLegal answers f after.seen
    -- the seat looked at the length once, and drew one ticket
    pub look : after.looks ≡ before.looks ++ length after.seen ∷ []
    pub ticket : DrawsOne before after

  -- the seat has looked at the length of a legal history
  pub record LooksAt (before : Sitting E F) (count : ℕ) (after : Sitting E F) : Type 0 where
    pub h : History E
    pub legal : IsLegal answers f h
    -- this history begins with what the seat has then seen, and that begins with what it had seen before
    pub front : BeginsWith h after.seen
    pub begins : BeginsWith after.seen before.seen
    pub stays_legal : IsLegal answers f after.seen
    -- the reply is the length of this history, all of which the seat has seen
    pub whole : length h ≡ count
    pub count_is : length after.seen ≡ count
    -- the seat looked once, made no call and drew no ticket
    pub look : after.looks ≡ before.looks ++ count ∷ []
    pub mine : after.mine ≡ before.mine
    pub tickets : after.tickets ≡ before.tickets

  -- the other seat was met into the seat
  pub record MeetsAt (before other after : Sitting E F) : Type 0 where
    -- the history that the seat has then seen is legal, and begins with what each of the two had seen
    pub legal : IsLegal answers f after.seen
    pub begins : BeginsWith after.seen before.seen
    pub other_begins : BeginsWith after.seen other.seen
    -- the kin are those of both
    pub number : after.number ≡ before.number
    pub mine : after.mine ≡ before.mine
    pub met : after.met ≡ before.met ++ kin other
    -- the seat looked at the length once, and drew no ticket
    pub look : after.looks ≡ before.looks ++ length after.seen ∷ []
    pub tickets : after.tickets ≡ before.tickets
    -- it has the parts of both
    pub parts : after.parts ≡ before.parts + other.parts

module _ {R F E C P : Type 0} (fixed : R → F) (list : R → List E) (answers : F → List E → C → P → List E → Type 0)
    (f : F) where
  -- the room has the fixed part, and its list is that of a legal history, which begins with what the seat has seen and
  -- has the calls of its kin
  pub record ClosesWith (seat : Sitting E F) (room : R) : Type 0 where
    pub h : History E
    pub legal : IsLegal answers f h
    pub begins : BeginsWith h seat.seen
    pub same : fixed room ≡ f
    pub stands : list room ≡ entries h
    -- if the seat has all parts of its desk, all seats were met into it, and each entry is a call of its kin
    pub all : seat.parts ≡ 2 ^ 64 - 1 → (n : ℕ) → entries_by n h ≢ [] → IsAmong n (kin seat)
    -- no number is that of two of its kin
    pub apart : AreApart (kin seat)
    pub kin : HasKin h seat
