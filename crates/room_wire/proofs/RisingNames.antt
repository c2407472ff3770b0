-- Names that rise, tested from each name to the next.
use Rattle.std.proofs.Common.{◌≡◌, ◌&&◌, ◌+◌, ◌<◌, ◌≤◌, ℕ, zero, suc, Bool, true, false, T, List, [], ◌∷◌, length, drop, map, refl, get_or, sym, ap, ◌∙◌, arith, is_lt, Ordering, Less, Equal, Greater}
use Rattle.room_wire.specs.Prelude.{below_all, Name, name_cmp, below_less, name_cmp_total, first_true, is_true, so, are_rising}
use Rattle.room_wire.specs.Inner.Rising.{is_before}

-- names as the keys of pairs without values
abbrev bare : List Name → List (Name × Unit {0})
bare names = map (λ x. (x, tt)) names

less : (o : Ordering) → T (is_lt o) → o ≡ Less
less Less h = refl
less Equal h = absurd h
less Greater h = absurd h

-- a conjunction with a test that follows from the other
with_another : (b r : Bool) → (r ≡ true → b ≡ true) → (b && r) ≡ r
with_another true r h = refl
with_another false true h = h refl
with_another false false h = refl

-- the names rise if the first is below the second, and the names from the second on rise
by_neighbours : (x y : Name) (ys : List Name) → are_rising (x ∷ y ∷ ys) ≡ (is_before x y && are_rising (y ∷ ys))
by_neighbours x y ys = by (is_lt (name_cmp x y)) refl
  where
    by : (b : Bool) → is_lt (name_cmp x y) ≡ b → ((b && below_all name_cmp x (bare ys)) && are_rising (y ∷ ys)) ≡ (b && are_rising (y ∷ ys))
    by false e = refl
    by true e = with_another (below_all name_cmp x (bare ys)) (are_rising (y ∷ ys))
        (λ r. is_true (below_all name_cmp x (bare ys))
        (below_less name_cmp name_cmp_total x y (bare ys) (less (name_cmp x y) (so (is_lt (name_cmp x y)) e)) (so (below_all name_cmp y (bare ys)) (first_true (below_all name_cmp y (bare ys)) (are_rising ys) r))))

module _ {X : Type 0} (name : X → Name) where
  -- the names from a position on rise if the first two rise, and those from the next position on
  pub rising_at : (told : List X) (i : ℕ) (d e : X) → i + 1 < length told
      → are_rising (map name (drop i told)) ≡ (is_before (name (get_or told i d)) (name (get_or told (i + 1) e)) && are_rising (map name (drop (i + 1) told)))
  rising_at [] i d e l = absurd (omega (arith, l))
  rising_at (r ∷ []) i d e l = absurd (omega (arith, l))
  rising_at (r ∷ s ∷ rs) zero d e l = by_neighbours (name r) (name s) (map name rs)
  rising_at (r ∷ s ∷ rs) (suc i) d e l =
      let place : suc i + 1 ≡ suc (i + 1) = omega arith in
      rw place (rising_at (s ∷ rs) i d e (omega (arith, l)))

  -- from the last position on, there is no next name
  pub rising_last : (told : List X) (i : ℕ) → i < length told → length told ≤ i + 1 → are_rising (map name (drop i told)) ≡ are_rising (map name (drop (i + 1) told))
  rising_last [] i l m = absurd (omega (arith, l))
  rising_last (r ∷ []) zero l m = refl
  rising_last (r ∷ []) (suc i) l m = absurd (omega (arith, l))
  rising_last (r ∷ s ∷ rs) zero l m = absurd (omega (arith, m))
  rising_last (r ∷ s ∷ rs) (suc i) l m = let place : suc i + 1 ≡ suc (i + 1) = omega arith in rw place (rising_last (s ∷ rs) i (omega (arith, l)) (omega (arith, m)))

  -- if the next name is above, the test goes on from the next name
  pub rises_on : (told : List X) (i : ℕ) (d e : X) (all : Bool) → i + 1 < length told → true ≡ is_before (name (get_or told i d)) (name (get_or told (i + 1) e))
      → all ≡ are_rising (map name (drop i told)) → all ≡ are_rising (map name (drop (i + 1) told))
  rises_on told i d e all l above before = before ∙ rising_at told i d e l ∙ ap (λ b. b && are_rising (map name (drop (i + 1) told))) (sym above)
