-- Mirrors, which follow the news of a room by their numbers. (The rules of mirrors are this project's.)
use Rattle.std.specs.Prelude.{◌≡◌, ◌&&◌, ◌+◌, ◌-◌, ◌^◌, ℕ, Bool, not, List, [], ◌∷◌, Option, Some, None, Result, Ok, Err, map, min, nat_eq, take}
use Rattle.room_history.specs.Prelude.{then_some, list_all, Rows, are_rising, row_at, is_same_row, first_that_holds, mirrored, mapof}
use Rattle.osm_elements.specs.declared.name.Name.{Name}
use Rattle.room_history.specs.declared.entry.Entry.{Entry}
use Rattle.room_interface.specs.declared.news.News.{News}
use Rattle.room_interface.specs.declared.news.NewsRow.{NewsRow}
use Rattle.room_mirror.specs.declared.fault.MirrorFault.{MirrorFault}
use Rattle.room_mirror.specs.declared.fault.MirrorFault.TheVariants.{Gap, Mismatch, Memory}

-- the number of the last news, and the rows
pub record MirrorState (A : Type 0) : Type 0 where
  pub seq : ℕ
  pub rows : Rows A

-- the number that is expected after seq; numbers end at 2^64 - 1
unfoldable pub due_after : ℕ → ℕ
due_after seq = min (seq + 1) (2 ^ 64 - 1)

-- the refusal is the fault that there is, or `Memory` if there is none
abbrev pub IsRefused : Option MirrorFault → MirrorFault → Type 0
IsRefused None f = f ≡ Memory
IsRefused (Some g) f = f ≡ g

module _ {A : Type 0} where
  -- the names of the rows
  abbrev pub told_names : List (NewsRow A) → List Name
  told_names rows = map (λ (r : NewsRow A). r.name) rows

  -- the row differs from the map's: the elements differ, or only one of the two has an element
  abbrev pub tells_another : Rows A → NewsRow A → Bool
  tells_another m r = not (is_same_row r.element (row_at m r.name))

  -- the names rise, and each row differs from the map's
  abbrev pub fits : Rows A → List (NewsRow A) → Bool
  fits m rows = are_rising (told_names rows) && list_all (tells_another m) rows

  -- the fault of news, if any
  abbrev pub fault : MirrorState A → News A → Option MirrorFault
  fault s n = first_that_holds (
      then_some (not (nat_eq n.seq (s.seq + 1))) (Gap (due_after s.seq) n.seq)
      ∷ then_some (not (fits s.rows n.rows)) Mismatch
      ∷ [])

  -- the mirror after the news
  abbrev pub with_news : MirrorState A → News A → MirrorState A
  with_news s n = record { seq = n.seq; rows = mirrored s.rows n.rows }

  -- the mirror of a room after the first n entries of its journal
  abbrev pub mirror_of : Rows A → List (Entry A) → ℕ → MirrorState A
  mirror_of base j n = record { seq = n; rows = mapof base (take n j) }

  -- the fault, or else the result of the rest
  abbrev pub taken_or : Option MirrorFault → Result (MirrorState A) MirrorFault → Result (MirrorState A) MirrorFault
  taken_or None rest = rest
  taken_or (Some f) rest = Err f

  -- the mirror after all news in order, or the first fault
  abbrev pub taken_in_turn : MirrorState A → List (News A) → Result (MirrorState A) MirrorFault
  taken_in_turn s [] = Ok s
  taken_in_turn s (n ∷ ns) = taken_or (fault s n) (taken_in_turn (with_news s n) ns)
