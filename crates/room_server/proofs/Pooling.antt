-- What a pool makes of the seats, a set after the other.
use Rattle.std.proofs.Common.{◌≡◌, ℕ, List, [], ◌∷◌, ◌++◌, All, Option, Some, None, IfNone, length, slice_get, map, refl, ◌∙◌, ap, sym, subst, append_assoc, append-nil, arith, flat_map, option_to_list}
use Rattle.std.proofs.lemmas.List.{map-append}
use Rattle.std.proofs.lemmas.List.Elements.{All-push}
use Rattle.std.proofs.lemmas.Option.{slice_get_within}
use Rattle.room_server.specs.Prelude.{Meet, Pairs, seats_of, AreMet, AreAt, SeatView, TableView, joined, kin, BeginsWith}
use Rattle.room_server.proofs.Counting.{all_at, all_from, there_is}

-- ---- lists

pub pairs_push : {X Y : Type 0} (R : X → Y → Type 0) (xs : List X) (ys : List Y) (x : X) (y : Y) → Pairs R xs ys → R x y → Pairs R (xs ++ x ∷ []) (ys ++ y ∷ [])
pairs_push R [] [] x y pairs one = (one, tt)
pairs_push R [] (b ∷ ys) x y pairs one = absurd pairs
pairs_push R (a ∷ xs) [] x y pairs one = absurd pairs
pairs_push R (a ∷ xs) (b ∷ ys) x y pairs one = (pairs.0, pairs_push R xs ys x y pairs.1 one)

flat_map_push : {X Y : Type 0} (f : X → List Y) (xs : List X) (x : X) → flat_map f (xs ++ x ∷ []) ≡ flat_map f xs ++ f x
flat_map_push f [] x = append-nil (f x)
flat_map_push f (a ∷ xs) x = ap (λ ys. f a ++ ys) (flat_map_push f xs x) ∙ sym (append_assoc (f a) (flat_map f xs) (f x))

seats_push : (room : ℕ) (sets : List (List SeatView)) (set : List SeatView) (seat : SeatView) → slice_get set room ≡ Some seat → seats_of room (sets ++ set ∷ []) ≡ seats_of room sets ++ seat ∷ []
seats_push room sets set seat at = flat_map_push (λ s. option_to_list (slice_get s room)) sets set ∙ ap (λ o. seats_of room sets ++ option_to_list o) at

-- ---- seats that meet others

pub meet_none : (seats : List SeatView) → All (λ seat. seat.mine ≡ []) seats → All (λ seat. seat.met ≡ []) seats → Meet [] seats
meet_none seats own alone = record {
  own = own;
  met = λ room seat at. all_at (λ s. s.met ≡ []) seats room seat alone at;
  seen = λ room seat at k d below. absurd (omega (arith, below));
}

module _ (table : TableView) (sets : List (List SeatView)) (seats others seats' : List SeatView) (at : AreAt table seats) (others_at : AreAt table others)
    (are : AreMet table seats others seats') (meet : Meet sets seats) where
  -- The seat of a room, with the one that it was and the one that it met.
  abbrev Met : ℕ → SeatView → Type 0
  Met room after = (before : SeatView) × (other : SeatView) × (slice_get seats room ≡ Some before) × (slice_get others room ≡ Some other)
      × (after.mine ≡ before.mine) × (after.met ≡ before.met ++ kin other) × BeginsWith after.seen before.seen × BeginsWith after.seen other.seen

  one : (room : ℕ) (after : SeatView) → slice_get seats' room ≡ Some after → Met room after
  one room after here =
      let below = slice_get_within seats' room after here in
      let many = are.as_many in
      let of_desks = at.0 in
      let of_others = others_at.0 in
      let was = there_is seats room (omega (arith, below, many)) in
      let desk = there_is table.desks room (omega (arith, below, many, of_desks)) in
      let other = there_is others room (omega (arith, below, many, of_desks, of_others)) in
      let meets = are.met room desk.0 was.0 other.0 after desk.1 was.1 other.1 here in
      (was.0, other.0, was.1, other.1, meets.mine, meets.met, meets.begins, meets.other_begins)

  own_more : (room : ℕ) (after : SeatView) → slice_get seats' room ≡ Some after → after.mine ≡ []
  own_more room after here =
      let m = one room after here in
      m.4 ∙ all_at (λ seat. seat.mine ≡ []) seats room m.0 meet.own m.2

  met_more : (room : ℕ) (after : SeatView) → slice_get seats' room ≡ Some after → after.met ≡ flat_map kin (seats_of room (sets ++ others ∷ []))
  met_more room after here =
      let m = one room after here in
      m.5 ∙ ap (λ met. met ++ kin m.1) (meet.met room m.0 m.2) ∙ sym (flat_map_push kin (seats_of room sets) m.1)
      ∙ ap (flat_map kin) (sym (seats_push room sets others m.1 m.3))

  seen_more : (room : ℕ) (after : SeatView) → slice_get seats' room ≡ Some after → All (λ other. BeginsWith after.seen other.seen) (seats_of room (sets ++ others ∷ []))
  seen_more room after here =
      let m = one room after here in
      let before = all_from (λ (other : SeatView). BeginsWith after.seen other.seen) (seats_of room sets)
      (λ i other there. joined other.seen m.0.seen after.seen (all_at (λ (o : SeatView). BeginsWith m.0.seen o.seen) (seats_of room sets) i other (meet.seen room m.0 m.2) there) m.6) in
      subst (All (λ (other : SeatView). BeginsWith after.seen other.seen)) (sym (seats_push room sets others m.1 m.3))
      (All-push (λ (other : SeatView). BeginsWith after.seen other.seen) (seats_of room sets) m.1 before m.7)

  pub meet_more : Meet (sets ++ others ∷ []) seats'
  meet_more = record { own = all_from (λ seat. seat.mine ≡ []) seats' own_more; met = met_more; seen = seen_more }

-- ---- lists that are mapped

-- One more of each.
pub pairs_more : {X Y Z W : Type 0} (R : Z → W → Type 0) (f : X → Z) (g : Y → W) (xs : List X) (ys ys' : List Y) (x : X) (y : Y) → ys' ≡ ys ++ y ∷ [] → R (f x) (g y) → Pairs R (map f xs) (map g ys)
    → Pairs R (map f (xs ++ x ∷ [])) (map g ys')
pairs_more R f g xs ys ys' x y is one pairs =
    subst (λ zs. Pairs R zs (map g ys')) (sym (map-append f xs (x ∷ [])))
    (subst (λ zs. Pairs R (map f xs ++ f x ∷ []) zs) (sym (ap (map g) is ∙ map-append g ys (y ∷ [])))
    (pairs_push R (map f xs) (map g ys) (f x) (g y) pairs one))

-- The first of the second list goes to the end of the first.
pub moved_over : {X Y Z : Type 0} (f : X → Z) (g : Y → Z) (xs xs' : List X) (ys ys' : List Y) (x : X) (y : Y) → xs' ≡ xs ++ x ∷ [] → ys ≡ y ∷ ys' → f x ≡ g y
    → map f xs' ++ map g ys' ≡ map f xs ++ map g ys
moved_over f g xs xs' ys ys' x y pushed taken same =
    ap (λ zs. map f zs ++ map g ys') pushed ∙ ap (λ zs. zs ++ map g ys') (map-append f xs (x ∷ [])) ∙ append_assoc (map f xs) (f x ∷ []) (map g ys')
    ∙ ap (λ z. map f xs ++ z ∷ map g ys') same ∙ ap (λ zs. map f xs ++ map g zs) (sym taken)

-- If none of the second list is left, the first list has all.
pub moved_all : {X Y Z : Type 0} (f : X → Z) (g : Y → Z) (xs : List X) (rest all : List Y) → length rest ≡ 0 → map f xs ++ map g rest ≡ map g all → map f xs ≡ map g all
moved_all f g xs [] all none whole = sym (append-nil (map f xs)) ∙ whole
moved_all f g xs (y ∷ rest) all none whole = absurd (omega (arith, none))

-- a fact from two facts that are true if there is no fault
pub if_both : {X P Q R : Type 0} (o : Option X) → (P → Q → R) → IfNone o P → IfNone o Q → IfNone o R
if_both None f p q = f p q
if_both (Some x) f p q = tt
