-- No part of a desk is lost by splits, by work and by meetings.
use Rattle.std.proofs.Common.{◌≡◌, ℕ, ◌+◌, ◌*◌, ◌^◌, ◌≤◌, ◌-◌, List, [], ◌∷◌, ◌++◌, All, Option, Some, None, length, slice_get, map, refl, ◌∙◌, ap, sym, arith, option_map}
use Rattle.std.proofs.lemmas.Option.{slice_get-map, slice_get_within}
use Rattle.room_server.specs.Prelude.{IsFirst, share, Pairs, Works, AreMet, AreSplit, HavePartsFor, AreAt, Mark, Rule, SeatView, TableView, mark}
use Rattle.room_server.specs.Inner.Parts.{parts_at, parts_in}
use Rattle.room_server.proofs.Counting.{all_at, all_from, there_is}

-- an element cannot be there and be missing
there_and_missing : {X : Type 0} (o : Option X) (x : X) → o ≡ Some x → o ≡ None → ⊥
there_and_missing None x there missing = absurd (grind (arith, there))
there_and_missing (Some y) x there missing = absurd (grind (arith, missing))

pub parts_push : (room : ℕ) (sets : List (List SeatView)) (set : List SeatView) → parts_in room (sets ++ set ∷ []) ≡ parts_in room sets + parts_at (slice_get set room)
parts_push room [] set = omega arith
parts_push room (s ∷ sets) set = let later = parts_push room sets set in omega (arith, later)

-- a split shares a seat's parts
module _ (seats kept new : List SeatView) (are : AreSplit seats kept new) (have : HavePartsFor 1 seats) where
  pub split_parts : (room : ℕ) → parts_at (slice_get kept room) + parts_at (slice_get new room) ≡ parts_at (slice_get seats room)
  split_parts room = by (slice_get seats room) (slice_get kept room) (slice_get new room) refl refl refl
    where
      by : (s k n : Option SeatView) → slice_get seats room ≡ s → slice_get kept room ≡ k → slice_get new room ≡ n → parts_at k + parts_at n ≡ parts_at s
      by None None None was kept_at new_at = refl
      by (Some s) (Some k) (Some n) was kept_at new_at =
          let parts = (are.split room s k n was kept_at new_at).parts in
          let of_new = parts.0 in
          let of_kept = parts.1 in
          let had = (all_at (λ seat. (1 * 2 ^ 52 ≤ seat.parts + 1) × (seat.parts + 1 ≤ 2 ^ 64)) seats room s have was).0 in
          omega (arith, of_new, of_kept, had)
      by (Some s) None n was kept_at new_at =
          let below = slice_get_within seats room s was in
          let many = are.as_many in
          let there = there_is kept room (omega (arith, below, many)) in
          absurd (there_and_missing (slice_get kept room) there.0 there.1 kept_at)
      by (Some s) (Some k) None was kept_at new_at =
          let below = slice_get_within seats room s was in
          let many = are.of_new in
          let there = there_is new room (omega (arith, below, many)) in
          absurd (there_and_missing (slice_get new room) there.0 there.1 new_at)
      by None (Some k) n was kept_at new_at =
          let below = slice_get_within kept room k kept_at in
          let many = are.as_many in
          let there = there_is seats room (omega (arith, below, many)) in
          absurd (there_and_missing (slice_get seats room) there.0 there.1 was)
      by None None (Some n) was kept_at new_at =
          let below = slice_get_within new room n new_at in
          let many = are.of_new in
          let there = there_is seats room (omega (arith, below, many)) in
          absurd (there_and_missing (slice_get seats room) there.0 there.1 was)

-- a meeting adds the parts of both seats
module _ (table : TableView) (seats others seats' : List SeatView) (at : AreAt table seats) (others_at : AreAt table others) (are : AreMet table seats others seats') where
  pub met_parts : (room : ℕ) → parts_at (slice_get seats' room) ≡ parts_at (slice_get seats room) + parts_at (slice_get others room)
  met_parts room = by (slice_get seats' room) (slice_get seats room) (slice_get others room) refl refl refl
    where
      by : (s' s o : Option SeatView) → slice_get seats' room ≡ s' → slice_get seats room ≡ s → slice_get others room ≡ o → parts_at s' ≡ parts_at s + parts_at o
      by None None None now was other = refl
      by (Some s') (Some s) (Some o) now was other =
          let below = slice_get_within seats room s was in
          let of_desks = at.0 in
          let desk = there_is table.desks room (omega (arith, below, of_desks)) in
          (are.met room desk.0 s o s' desk.1 was other now).parts
      by (Some s') None o now was other =
          let below = slice_get_within seats' room s' now in
          let many = are.as_many in
          let there = there_is seats room (omega (arith, below, many)) in
          absurd (there_and_missing (slice_get seats room) there.0 there.1 was)
      by (Some s') (Some s) None now was other =
          let below = slice_get_within seats room s was in
          let of_desks = at.0 in
          let of_others = others_at.0 in
          let there = there_is others room (omega (arith, below, of_desks, of_others)) in
          absurd (there_and_missing (slice_get others room) there.0 there.1 other)
      by None (Some s) o now was other =
          let below = slice_get_within seats room s was in
          let many = are.as_many in
          let there = there_is seats' room (omega (arith, below, many)) in
          absurd (there_and_missing (slice_get seats' room) there.0 there.1 now)
      by None None (Some o) now was other =
          let below = slice_get_within others room o other in
          let of_desks = at.0 in
          let of_others = others_at.0 in
          let there = there_is seats room (omega (arith, below, of_desks, of_others)) in
          absurd (there_and_missing (slice_get seats room) there.0 there.1 was)

-- seats with the same marks have the same parts
module _ (lent back : List SeatView) (same : map mark back ≡ map mark lent) (room : ℕ) where
  abbrev parts_of : Option Mark → ℕ
  parts_of None = 0
  parts_of (Some m) = m.2

  of_marks : (seats : List SeatView) → parts_of (slice_get (map mark seats) room) ≡ parts_at (slice_get seats room)
  of_marks seats = ap parts_of (slice_get-map mark seats room) ∙ by (slice_get seats room)
    where
      by : (o : Option SeatView) → parts_of (option_map mark o) ≡ parts_at o
      by None = refl
      by (Some seat) = refl

  pub same_parts : parts_at (slice_get back room) ≡ parts_at (slice_get lent room)
  same_parts = sym (of_marks back) ∙ ap (λ marks. parts_of (slice_get marks room)) same ∙ of_marks lent

pub worked_parts : (table : TableView) (rule : Rule) (turns : ℕ) (lent back : List (List SeatView)) → Pairs (Works table rule turns) lent back → (room : ℕ) → parts_in room back ≡ parts_in room lent
worked_parts table rule turns [] [] works room = refl
worked_parts table rule turns [] (b ∷ back) works room = absurd works
worked_parts table rule turns (l ∷ lent) [] works room = absurd works
worked_parts table rule turns (l ∷ lent) (b ∷ back) works room =
    let one = same_parts l b works.0.same room in
    let later = worked_parts table rule turns lent back works.1 room in
    omega (arith, one, later)

-- the first seats have all parts, if none of their parts is elsewhere
pub all_parts : (first seats : List SeatView) → All IsFirst first → length seats ≡ length first → ((room : ℕ) → parts_in room (seats ∷ []) ≡ parts_in room (first ∷ [])) → All (λ seat. seat.parts ≡ 2 ^ 64 - 1) seats
all_parts first seats are_first many none_lost = all_from (λ seat. seat.parts ≡ 2 ^ 64 - 1) seats one
  where
    one : (i : ℕ) (seat : SeatView) → slice_get seats i ≡ Some seat → seat.parts ≡ 2 ^ 64 - 1
    one i seat at =
        let below = slice_get_within seats i seat at in
        let was = there_is first i (omega (arith, below, many)) in
        let whole = (all_at IsFirst first i was.0 are_first was.1).parts in
        let now = ap parts_at at in
        let then = ap parts_at was.1 in
        let sum = none_lost i in
        omega (arith, whole, now, then, sum)
