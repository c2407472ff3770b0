-- What the functions of the steps require and ensure.
use Rattle.std.specs.Prelude.{◌≡◌, ◌≢◌, ◌⊎◌, ℕ, ◌+◌, ◌-◌, ◌%◌, ◌^◌, ◌<◌, List, [], ◌∷◌, ◌++◌, length, Option, Some}
use Rattle.atomic_table.specs.Table.{Me}
use Rattle.atomic_table.specs.Seated.{TableId}
use Rattle.atomic_table.specs.declared.shared.Seat.{Seat}
use Rattle.turn_desk.specs.History.{History, IsAmong, entries, entries_by, BeginsWith, MayFollow, IsLegal}
use Rattle.turn_desk.specs.Rule.{kin_of, Agrees, StandsFor}
use Rattle.turn_desk.specs.Inner.Plays.{waiting, turning, looking, Grows}
use Rattle.turn_desk.specs.declared.view.View.{View}
use Rattle.turn_desk.specs.declared.view.Stage.TheVariants.{Idle, Waiting, Turning}

-- the table has three words, 256 gates and one slot
abbrev pub IsSized : TableId → Type 0
IsSized z = (z.words ≡ 259) × (z.slots ≡ 1)

-- the word is a gate
abbrev pub IsGate : ℕ → Type 0
IsGate word = (g : ℕ) × (word ≡ 3 + g) × (g < 256)

module _ {S V : Type 0} where
  -- it is the same seat at the same table, whatever the seat knows
  abbrev pub IsSamePlace : Seat S V → Seat S V → Type 0
  IsSamePlace s t = (t.table_id ≡ s.table_id) × (t.id ≡ s.id)

module _ {S E F : Type 0} where
  -- the seat is at this table, and knows this fixed part
  abbrev pub SitsAt : TableId → F → Seat S (View E F) → Type 0
  SitsAt z f seat = (seat.table_id ≡ z) × IsSized z × (seat.me.0.fixed ≡ Some f)

module _ {E F : Type 0} where
  -- the seat waits with a ticket, whose number is `found` modulo 2^64
  abbrev pub IsWaiting : View E F → ℕ → Type 0
  IsWaiting v found = (t : ℕ) × (v.stage ≡ Waiting t) × (found ≡ t % 2 ^ 64)

  -- the seat has no slot and no ticket, and what it has seen agrees with what it knows of its kin
  pub record IsAtRest {S : Type 0} (m : Me S (View E F)) : Type 0 where
    pub slots : m.1 ≡ []
    pub stage : m.0.stage ≡ Idle
    pub agrees : Agrees m.0.seen m.0

  -- the seat has the turn
  abbrev pub IsTurning : View E F → Type 0
  IsTurning v = (t : ℕ) × (v.stage ≡ Turning t)

module _ {F E C P : Type 0} (answers : F → List E → C → P → List E → Type 0) where
  -- the list is unchanged, or a call appended one entry to it
  abbrev pub MayLead : F → List E → List E → Type 0
  MayLead f before after = (after ≡ before) ⊎ ((e : E) × (after ≡ before ++ e ∷ []) × MayFollow answers f before e)

-- the seat has the slot with a room whose list is all that the seat has seen
abbrev pub HoldsRoom : {R E F : Type 0} → (R → F) → (R → List E) → F → Me (Option R) (View E F) → Type 0
HoldsRoom {R} fixed list f m = (room : R) × (m.1 ≡ (0, Some room) ∷ []) × StandsFor fixed list f room m.0.seen

module _ {R E F C P : Type 0} (fixed : R → F) (list : R → List E) (answers : F → List E → C → P → List E → Type 0)
    (f : F) where
  -- the seat has the slot with a room whose list has `count` entries: what the seat has seen, or one entry more
  abbrev pub MayEnter : Me (Option R) (View E F) → ℕ → Type 0
  MayEnter m count =
      (room : R) × (m.1 ≡ (0, Some room) ∷ []) × (fixed room ≡ f) × MayLead answers f (entries m.0.seen) (list room)
      × (count ≡ length (list room))

  -- a seat at rest got a turn: it has the room, whose list is the whole history
  pub record GetsTurn (m m' : Me (Option R) (View E F)) : Type 0 where
    pub ticket : ℕ
    pub h : History E
    pub room : R
    pub part : 0 < m.0.parts
    pub legal : IsLegal answers f h
    pub begins : BeginsWith h m.0.seen
    pub agrees : Agrees h m.0
    pub all : m.0.parts ≡ 2 ^ 64 - 1 → (n : ℕ) → entries_by n h ≢ [] → IsAmong n (kin_of m.0)
    pub stands : StandsFor fixed list f room h
    pub after : m' ≡ (turning ticket h (waiting ticket m.0), (0, Some room) ∷ [])

  -- a seat with the turn made its call, and the call's event is in the history
  pub record MakesCall (m : Me (Option R) (View E F)) (call : C) (reply : P) (m' : Me (Option R) (View E F))
      : Type 0 where
    pub h : History E
    pub mine : List E
    pub room : R
    pub legal : IsLegal answers f h
    pub entry : Grows m.0 h mine
    pub answer : answers f (entries m.0.seen) call reply (entries h)
    pub agrees : Agrees h (record m.0 { mine = mine })
    pub stands : StandsFor fixed list f room h
    pub after : m' ≡ (looking (length h) h (record m.0 { mine = mine }), (0, Some room) ∷ [])
