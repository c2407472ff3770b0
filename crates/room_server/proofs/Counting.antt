-- How many parts and kin the seats of a table have, after splits and meets.
use Rattle.std.proofs.Common.{◌≡◌, ℕ, zero, suc, ◌<◌, ◌≤◌, ◌+◌, ◌*◌, ◌^◌, ◌-◌, List, [], ◌∷◌, All, Option, Some, None, IfNone, length, slice_get, map, refl, ◌∙◌, ap, sym, subst, length-append, arith, option_map, slice_index_or}
use Rattle.std.proofs.lemmas.Option.{get_or_from_slice_get, slice_get-get_or, slice_get-map, slice_get_within}
use Rattle.std.proofs.lemmas.List.{length-map}
use Rattle.room_server.specs.Prelude.{Global, Entry, IsFirst, kin, share, AreMet, AreSplit, HaveMet, HavePartsFor, IsFresh, IsSet, AreAt, SeatView, TableView, mark}
use Rattle.room_server.proofs.Seating.{some_is}

-- ---- lists

pub all_at : {X : Type 0} (P : X → Type 0) (xs : List X) (i : ℕ) (x : X) → All P xs → slice_get xs i ≡ Some x → P x
all_at P xs i x all at = subst P (get_or_from_slice_get xs i x x at) (all i x (slice_get_within xs i x at))

pub all_from : {X : Type 0} (P : X → Type 0) (xs : List X) → ((i : ℕ) (x : X) → slice_get xs i ≡ Some x → P x) → All P xs
all_from P xs each = λ i d below. each i (slice_index_or xs i d) (slice_get-get_or xs i d below)

pub there_is : {X : Type 0} (xs : List X) (i : ℕ) → i < length xs → (x : X) × (slice_get xs i ≡ Some x)
there_is [] i below = absurd (omega (arith, below))
there_is (x ∷ xs) zero below = (x, refl)
there_is (x ∷ xs) (suc i) below = there_is xs i (omega (arith, below))

pub head_of : {X : Type 0} (P : X → Type 0) (x : X) (xs ys : List X) → ys ≡ x ∷ xs → All P ys → P x
head_of P x xs ys is all = all_at P ys 0 x all (ap (λ zs. slice_get zs 0) is)

pub all_none : {X : Type 0} (P : X → Type 0) (xs : List X) → xs ≡ [] → All P xs
all_none P xs none = λ k d below. let long = ap length none in absurd (omega (arith, below, long))

pub if_none : {X P Q : Type 0} (o : Option X) → (P → Q) → IfNone o P → IfNone o Q
if_none None f p = f p
if_none (Some x) f p = tt

-- ---- parts

-- the first seat of a desk has parts for 1024 splits
pub first_parts : (count : ℕ) (seats : List SeatView) → count ≤ 1024 → All IsFirst seats → HavePartsFor count seats
first_parts count seats most first = all_from (λ seat. (count * 2 ^ 52 ≤ seat.parts + 1) × (seat.parts + 1 ≤ 2 ^ 64)) seats
    (λ i seat at. let is = (all_at IsFirst seats i seat first at).parts in (omega (arith, is, most), omega (arith, is)))

pub first_own : (seats : List SeatView) → All IsFirst seats → All (λ seat. seat.mine ≡ []) seats
first_own seats first = all_from (λ seat. seat.mine ≡ []) seats (λ i seat at. (all_at IsFirst seats i seat first at).mine)

pub none_met : (seats : List SeatView) → HaveMet 0 seats → All (λ seat. seat.met ≡ []) seats
none_met seats have = all_from (λ seat. seat.met ≡ []) seats (λ i seat at. by seat.met (all_at (λ seat. (seat.number ≡ 0) × (length seat.met ≡ 0)) seats i seat have at).1)
  where
    by : (met : List (ℕ × List (Entry Global))) → length met ≡ 0 → met ≡ []
    by [] e = refl
    by (k ∷ met) e = absurd (omega (arith, e))

pub first_met : (seats : List SeatView) → All IsFirst seats → HaveMet 0 seats
first_met seats first = all_from (λ seat. (seat.number ≡ 0) × (length seat.met ≡ 0)) seats
    (λ i seat at. let is = all_at IsFirst seats i seat first at in (is.number, ap length is.met))

pub parts_for_one : (count : ℕ) (seats : List SeatView) → 0 < count → HavePartsFor count seats → HavePartsFor 1 seats
parts_for_one count seats some have = all_from (λ seat. (1 * 2 ^ 52 ≤ seat.parts + 1) × (seat.parts + 1 ≤ 2 ^ 64)) seats
    (λ i seat at. let had = all_at (λ seat. (count * 2 ^ 52 ≤ seat.parts + 1) × (seat.parts + 1 ≤ 2 ^ 64)) seats i seat have at in
    let enough = had.0 in (omega (arith, enough, some), had.1))

-- a split gives a 4096th of the parts away
gives_little : (parts count : ℕ) → suc count * 2 ^ 52 ≤ parts + 1 → parts + 1 ≤ 2 ^ 64 → (count * 2 ^ 52 ≤ (parts - share parts) + 1) × ((parts - share parts) + 1 ≤ 2 ^ 64)
gives_little parts count enough most = (omega (arith, enough, most), omega (arith, enough, most))

module _ (seats kept new : List SeatView) (are : AreSplit seats kept new) where
  pub parts_left : (count : ℕ) → HavePartsFor (suc count) seats → HavePartsFor count kept
  parts_left count have = all_from (λ seat. (count * 2 ^ 52 ≤ seat.parts + 1) × (seat.parts + 1 ≤ 2 ^ 64)) kept one
    where
      one : (i : ℕ) (k : SeatView) → slice_get kept i ≡ Some k → (count * 2 ^ 52 ≤ k.parts + 1) × (k.parts + 1 ≤ 2 ^ 64)
      one i k at =
          let below = slice_get_within kept i k at in
          let many = are.as_many in
          let of_new = are.of_new in
          let was = there_is seats i (omega (arith, below, many)) in
          let other = there_is new i (omega (arith, below, many, of_new)) in
          let split = are.split i was.0 k other.0 was.1 at other.1 in
          let had = all_at (λ seat. (suc count * 2 ^ 52 ≤ seat.parts + 1) × (seat.parts + 1 ≤ 2 ^ 64)) seats i was.0 have was.1 in
          subst (λ parts. (count * 2 ^ 52 ≤ parts + 1) × (parts + 1 ≤ 2 ^ 64)) (sym split.parts.1) (gives_little was.0.parts count had.0 had.1)

  pub met_left : (count : ℕ) → HaveMet count seats → HaveMet count kept
  met_left count have = all_from (λ seat. (seat.number ≡ 0) × (length seat.met ≡ count)) kept one
    where
      one : (i : ℕ) (k : SeatView) → slice_get kept i ≡ Some k → (k.number ≡ 0) × (length k.met ≡ count)
      one i k at =
          let below = slice_get_within kept i k at in
          let many = are.as_many in
          let of_new = are.of_new in
          let was = there_is seats i (omega (arith, below, many)) in
          let other = there_is new i (omega (arith, below, many, of_new)) in
          let split = are.split i was.0 k other.0 was.1 at other.1 in
          let had = all_at (λ seat. (seat.number ≡ 0) × (length seat.met ≡ count)) seats i was.0 have was.1 in
          (split.number ∙ had.0, ap length split.met ∙ had.1)

  pub own_left : All (λ seat. seat.mine ≡ []) seats → All (λ seat. seat.mine ≡ []) kept
  own_left own = all_from (λ seat. seat.mine ≡ []) kept one
    where
      one : (i : ℕ) (k : SeatView) → slice_get kept i ≡ Some k → k.mine ≡ []
      one i k at =
          let below = slice_get_within kept i k at in
          let many = are.as_many in
          let of_new = are.of_new in
          let was = there_is seats i (omega (arith, below, many)) in
          let other = there_is new i (omega (arith, below, many, of_new)) in
          (are.split i was.0 k other.0 was.1 at other.1).mine ∙ all_at (λ seat. seat.mine ≡ []) seats i was.0 own was.1

  pub new_is_fresh : (table : TableView) → AreAt table new → IsFresh table new
  new_is_fresh table at = (at, all_from (λ seat. (seat.mine ≡ []) × (seat.met ≡ [])) new one)
    where
      one : (i : ℕ) (n : SeatView) → slice_get new i ≡ Some n → (n.mine ≡ []) × (n.met ≡ [])
      one i n here =
          let below = slice_get_within new i n here in
          let many = are.as_many in
          let of_new = are.of_new in
          let was = there_is seats i (omega (arith, below, of_new)) in
          let k = there_is kept i (omega (arith, below, many, of_new)) in
          let fresh = (are.split i was.0 k.0 n was.1 k.1 here).fresh in
          (fresh.0, fresh.3)

-- ---- kin

-- the seats met one more each
pub met_more : (table : TableView) (seats others seats' : List SeatView) (count : ℕ) → AreAt table seats → IsSet table others → AreMet table seats others seats' → HaveMet count seats → HaveMet (suc count) seats'
met_more table seats others seats' count at set are have = all_from (λ seat. (seat.number ≡ 0) × (length seat.met ≡ suc count)) seats' one
  where
    one : (i : ℕ) (s' : SeatView) → slice_get seats' i ≡ Some s' → (s'.number ≡ 0) × (length s'.met ≡ suc count)
    one i s' here =
        let below = slice_get_within seats' i s' here in
        let many = are.as_many in
        let of_desks = at.0 in
        let of_others = set.0.0 in
        let was = there_is seats i (omega (arith, below, many)) in
        let desk = there_is table.desks i (omega (arith, below, many, of_desks)) in
        let other = there_is others i (omega (arith, below, many, of_desks, of_others)) in
        let meets = are.met i desk.0 was.0 other.0 s' desk.1 was.1 other.1 here in
        let had = all_at (λ seat. (seat.number ≡ 0) × (length seat.met ≡ count)) seats i was.0 have was.1 in
        let alone = all_at (λ seat. seat.met ≡ []) others i other.0 set.1 other.1 in
        let long : length s'.met ≡ length was.0.met + suc (length other.0.met) = ap length meets.met ∙ length-append was.0.met (kin other.0) in
        let had_count = had.1 in
        let none = ap length alone in
        (meets.number ∙ had.0, omega (arith, long, had_count, none))

no_numbers : (met : List (ℕ × List (Entry Global))) → map (λ k. k.0) met ≡ [] → met ≡ []
no_numbers [] e = refl
no_numbers (k ∷ met) e = absurd (grind (arith, e))

tails : (x y : ℕ) (xs ys : List ℕ) → x ∷ xs ≡ y ∷ ys → xs ≡ ys
tails x y xs ys e = ap tail_of e
  where
    tail_of : List ℕ → List ℕ
    tail_of [] = []
    tail_of (z ∷ zs) = zs

-- seats with the marks of a set are a set
pub still_set : (table : TableView) (lent back : List SeatView) → AreAt table back → map mark back ≡ map mark lent → IsFresh table lent → IsSet table back
still_set table lent back at same fresh = (at, all_from (λ seat. seat.met ≡ []) back (λ i b here. no_kin i b here))
  where
    no_kin : (i : ℕ) (b : SeatView) → slice_get back i ≡ Some b → b.met ≡ []
    no_kin i b here =
        let below = slice_get_within back i b here in
        let many : length back ≡ length lent = sym (length-map back mark) ∙ ap length same ∙ length-map lent mark in
        let l = there_is lent i (omega (arith, below, many)) in
        let marks : mark b ≡ mark l.0 = some_is (slice_get (map mark lent) i) (mark l.0) (mark b)
        (slice_get-map mark lent i ∙ ap (option_map mark) l.1) (sym (ap (λ ms. slice_get ms i) same) ∙ slice_get-map mark back i ∙ ap (option_map mark) here) in
        let alone_there = (all_at (λ seat. (seat.mine ≡ []) × (seat.met ≡ [])) lent i l.0 fresh.1 l.1).1 in
        no_numbers b.met (tails b.number l.0.number (map (λ k. k.0) b.met) (map (λ k. k.0) l.0.met) (ap (λ m. m.1) marks) ∙ ap (map (λ k. k.0)) alone_there)
