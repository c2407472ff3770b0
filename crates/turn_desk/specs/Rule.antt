-- The rule of a desk's table: its words, its slot and what its seats know agree with one history.
-- When a seat is met into another seat, that seat then knows what both knew. No step of a turn meets seats.
use Rattle.std.specs.Prelude.{◌≡◌, ◌≢◌, ◌⊎◌, ℕ, ◌+◌, ◌-◌, ◌*◌, ◌%◌, ◌^◌, ◌<◌, ◌≤◌, List, [], ◌∷◌, length, Option, Some, None, All}
use mathlib.Core.Option.{some}
use lib.ListN.{get_elem?}
use Rattle.atomic_table.specs.Table.{State}
use Rattle.turn_desk.specs.History.{History, AreApart, IsAmong, entries, entries_by, BeginsWith, IsLegal}
use Rattle.turn_desk.specs.declared.view.View.{View}
use Rattle.turn_desk.specs.declared.view.Stage.{Stage}
use Rattle.turn_desk.specs.declared.view.Stage.TheVariants.{Idle, Waiting, Turning}

-- the sum of f over a list
abbrev pub total : {A : Type 0} → (A → ℕ) → List A → ℕ
total f [] = 0
total f (x ∷ xs) = f x + total f xs

-- the seat has the turn
abbrev pub HasTurn : Stage → Type 0
HasTurn Idle = ⊥
HasTurn (Waiting t) = ⊥
HasTurn (Turning t) = Unit {0}

module _ {E F : Type 0} where
  -- the seat's own number and those of the seats met into it, each with its entries
  abbrev pub kin_of : View E F → List (ℕ × List E)
  kin_of v = (v.number, v.mine) ∷ v.met

  -- the number is one that the seat may give to a seat that is split off it
  abbrev pub Supplies : View E F → ℕ → Type 0
  Supplies v n = (k : ℕ) × (n ≡ v.next + k * v.stride)

  -- of each of the seat's kin, the history has exactly the entries that the seat knows; under the numbers that the seat
  -- may give, it has no entry
  pub record Agrees (h : History E) (v : View E F) : Type 0 where
    pub kin : All (λ k. entries_by k.0 h ≡ k.1) (kin_of v)
    pub apart : AreApart (kin_of v)
    pub supply : (n : ℕ) → Supplies v n → (entries_by n h ≡ []) × All (λ k. k.0 ≢ n) (kin_of v)
    pub stride : 0 < v.stride

  -- the number is that of a seat, or of its kin, that was not met into another
  abbrev pub IsKnown : (ℕ → ℕ) → F → List (View E F) → ℕ → Type 0
  IsKnown owner f views n =
      (v : View E F) × (get_elem? views (owner n) ≡ some v) × (v.fixed ≡ Some f) × IsAmong n (kin_of v)

  -- what is left of a seat that was met into another
  abbrev pub IsSpent : View E F → Type 0
  IsSpent v = (v.fixed ≡ None) × (v.stage ≡ Idle)

-- One moment of a desk: its history, the number of tickets drawn, the number of tickets served, the seat that drew each
-- ticket, and the seat that has each number.
pub record Moment (E : Type 0) : Type 0 where
  pub log : History E
  pub drawn : ℕ
  pub served : ℕ
  pub drawer : ℕ → ℕ
  pub owner : ℕ → ℕ

module _ {E F : Type 0} (now : Moment E) (seat : ℕ) where
  -- An idle seat has a part left for a ticket. A waiting seat drew its ticket itself, and the ticket is not served yet.
  -- The seat with the turn drew the ticket that is being served, and has seen the whole history.
  abbrev pub HoldsTicket : View E F → Stage → Type 0
  HoldsTicket v Idle = 0 < v.parts
  HoldsTicket v (Waiting t) = (now.served ≤ t) × (t < now.drawn) × (now.drawer t ≡ seat)
  HoldsTicket v (Turning t) = (now.served ≡ t) × (t < now.drawn) × (now.drawer t ≡ seat) × (v.seen ≡ now.log)

  -- What a seat knows is true. The history begins with what it has seen and with what it was told, and agrees with what
  -- it knows of its kin. The numbers of its kin and those that it may give are the seat's, and so is its ticket.
  pub record Fits (f : F) (v : View E F) : Type 0 where
    pub fixed : v.fixed ≡ Some f
    pub seen : BeginsWith now.log v.seen
    pub told : BeginsWith now.log v.told
    pub agrees : Agrees now.log v
    pub kin : All (λ k. now.owner k.0 ≡ seat) (kin_of v)
    pub supply : (n : ℕ) → Supplies v n → now.owner n ≡ seat
    pub ticket : HoldsTicket v v.stage

-- the room has the fixed part, and its list is the history's
abbrev pub StandsFor : {R E F : Type 0} → (R → F) → (R → List E) → F → R → History E → Type 0
StandsFor fixed list f room h = (fixed room ≡ f) × (list room ≡ entries h)

module _ {R E F C P : Type 0} (fixed : R → F) (list : R → List E) (answers : F → List E → C → P → List E → Type 0)
    (f : F) where
  -- the rule: there is a history of which all of this is true
  pub record Kept (s : State (Option R) (View E F)) : Type 0 where
    pub now : Moment E
    -- the history is legal
    pub legal : IsLegal answers f now.log
    -- the words are the history's length, the number of tickets drawn and the number of tickets served, and then the
    -- gates, of which nothing is known
    pub gates : List ℕ
    pub words : s.words ≡ length now.log ∷ (now.drawn % 2 ^ 64) ∷ (now.served % 2 ^ 64) ∷ gates
    pub order : now.served ≤ now.drawn
    -- each ticket that is drawn and not yet served took a part from its seat, so there are fewer than 2^64 such tickets
    pub parts : total (λ v. v.parts) s.views + now.drawn ≡ now.served + (2 ^ 64 - 1)
    -- if no seat has the turn, the slot has the room, whose list is the history's
    pub home : ((j : ℕ) (v : View E F) → get_elem? s.views j ≡ some v → ¬ HasTurn v.stage)
        → (room : R) × (s.homes ≡ some (Some room) ∷ []) × StandsFor fixed list f room now.log
    -- what each seat knows is true, unless it was met into another seat
    pub seats : (j : ℕ) (v : View E F) → get_elem? s.views j ≡ some v → IsSpent v ⊎ Fits now j f v
    -- no entry is under a number that no seat knows
    pub known : (n : ℕ) → entries_by n now.log ≢ [] → IsKnown now.owner f s.views n
