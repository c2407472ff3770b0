-- What a seat learns from each kind of step that it makes.
use Rattle.std.specs.Prelude.{◌≡◌, ◌≢◌, ◌⊎◌, ℕ, ◌+◌, ◌-◌, ◌%◌, ◌^◌, ◌<◌, List, [], ◌∷◌, ◌++◌, length, Option, Some}
use Rattle.atomic_table.specs.Table.{Me}
use Rattle.turn_desk.specs.History.{History, IsAmong, entries_by, BeginsWith, IsLegal}
use Rattle.turn_desk.specs.Rule.{kin_of, StandsFor, Agrees}
use Rattle.turn_desk.specs.declared.view.View.{View}
use Rattle.turn_desk.specs.declared.view.Stage.TheVariants.{Idle, Waiting, Turning}

module _ {E F : Type 0} where
  -- the seat after it drew a ticket, which took one of its parts
  abbrev pub waiting : ℕ → View E F → View E F
  waiting t v = record v { stage = Waiting t; parts = v.parts - 1; tickets = v.tickets ++ t ∷ [] }

  -- the seat after it got the turn and saw the history
  abbrev pub turning : ℕ → History E → View E F → View E F
  turning t h v = record v { stage = Turning t; seen = h }

  -- the seat after it looked at the history, which is n entries long
  abbrev pub looking : ℕ → History E → View E F → View E F
  looking n h v = record v { seen = h; looks = v.looks ++ n ∷ [] }

  -- the seat after it passed the turn on and got its part back
  abbrev pub resting : View E F → View E F
  resting v = record v { stage = Idle; parts = v.parts + 1 }

  -- the seat's turn left the history unchanged, or added an entry under the seat's number
  abbrev pub Grows : View E F → History E → List E → Type 0
  Grows v h mine =
      ((h ≡ v.seen) × (mine ≡ v.mine)) ⊎ ((e : E) × (h ≡ v.seen ++ (v.number, e) ∷ []) × (mine ≡ v.mine ++ e ∷ []))

module _ {R E F : Type 0} where
  -- fetch_add on `ticket`: the seat has a ticket, whose number is found modulo 2^64
  abbrev pub Draws : Me (Option R) (View E F) → ℕ → Me (Option R) (View E F) → Type 0
  Draws m found m' = (t : ℕ) × (found ≡ t % 2 ^ 64) × (0 < m.0.parts) × (m' ≡ (waiting t m.0, m.1))

  -- a step on a gate: the seat knows what it knew
  abbrev pub Rings : Me (Option R) (View E F) → ℕ → Me (Option R) (View E F) → Type 0
  Rings m found m' = m' ≡ m

  -- fetch_add on `serving`: the seat gave the slot back and is idle
  abbrev pub PassesOn : Me (Option R) (View E F) → ℕ → Me (Option R) (View E F) → Type 0
  PassesOn m found m' = m' ≡ (resting m.0, [])

module _ {R E F C P : Type 0} (fixed : R → F) (list : R → List E) (answers : F → List E → C → P → List E → Type 0) where
  -- the seat's ticket t has the turn and the seat has the slot, whose room has the whole history; the history begins
  -- with all that the seat had seen
  pub record TakesTurn (f : F) (t : ℕ) (m m' : Me (Option R) (View E F)) : Type 0 where
    pub h : History E
    pub room : R
    pub legal : IsLegal answers f h
    pub seen : BeginsWith h m.0.seen
    pub agrees : Agrees h m.0
    -- if a ticket took the only part that the seat has not, all entries are those of its kin
    pub all : m.0.parts ≡ 2 ^ 64 - 2 → (n : ℕ) → entries_by n h ≢ [] → IsAmong n (kin_of m.0)
    pub stands : StandsFor fixed list f room h
    pub after : m' ≡ (turning t h m.0, (0, Some room) ∷ m.1)

  -- load of `serving`: if the seat's ticket is found, the seat has the turn; otherwise the seat learns nothing
  abbrev pub Asks : Me (Option R) (View E F) → ℕ → Me (Option R) (View E F) → Type 0
  Asks m found m' = (f : F) (t : ℕ) → m.0.fixed ≡ Some f → m.0.stage ≡ Waiting t
      → (found ≡ t % 2 ^ 64 → TakesTurn f t m m') × (found ≢ t % 2 ^ 64 → m' ≡ m)

  -- after the seat's turn, the history is that of its room
  pub record Enters (f : F) (room : R) (n : ℕ) (m m' : Me (Option R) (View E F)) : Type 0 where
    pub h : History E
    pub mine : List E
    pub legal : IsLegal answers f h
    pub entry : Grows m.0 h mine
    pub length_is : n ≡ length h
    pub stands : StandsFor fixed list f room h
    pub agrees : Agrees h (record m.0 { mine = mine })
    pub after : m' ≡ (looking n h (record m.0 { mine = mine }), m.1)

  -- store of `length`: the event enters the history, and the seat has looked at its length
  abbrev pub Stores : Me (Option R) (View E F) → ℕ → Me (Option R) (View E F) → Type 0
  Stores m n m' = (f : F) (room : R) → m.0.fixed ≡ Some f → m.1 ≡ (0, Some room) ∷ [] → Enters f room n m m'

  -- the seat has seen the history, whose length was found; it begins with all that the seat had seen and was told
  pub record Sees (f : F) (found : ℕ) (m m' : Me (Option R) (View E F)) : Type 0 where
    pub h : History E
    pub legal : IsLegal answers f h
    pub seen : BeginsWith h m.0.seen
    pub told : BeginsWith h m.0.told
    pub length_is : length h ≡ found
    pub agrees : Agrees h m.0
    pub after : m' ≡ (looking found h m.0, m.1)

  -- load of `length`
  abbrev pub Looks : Me (Option R) (View E F) → ℕ → Me (Option R) (View E F) → Type 0
  Looks m found m' = (f : F) → m.0.fixed ≡ Some f → Sees f found m m'
