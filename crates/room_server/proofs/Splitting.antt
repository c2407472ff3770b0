-- Splitting the seats of a table, in order.
use Rattle.std.proofs.Common.{◌≡◌, ℕ, zero, suc, ◌+◌, List, [], ◌∷◌, ◌++◌, Some, length, slice_get, refl, ◌⊎◌, ◌∙◌, ap, sym, subst, inl, inr, append_assoc, append-nil, arith}
use Rattle.std.proofs.lemmas.Option.{slice_get_within}
use Rattle.room_server.specs.Prelude.{IsAt, SplitsInto, AreSplit, DeskView, SeatView, TableView}
use Rattle.room_server.proofs.Seating.{some_is}

-- ---- lists

-- the element that follows a list
pub get_behind : {X : Type 0} (xs ys : List X) (x : X) → slice_get (xs ++ x ∷ ys) (length xs) ≡ Some x
get_behind [] ys x = refl
get_behind (y ∷ xs) ys x = get_behind xs ys x

-- an element of a list with one element more is in the list, or is the last
pub get_more : {X : Type 0} (xs : List X) (x : X) (i : ℕ) (y : X) → slice_get (xs ++ x ∷ []) i ≡ Some y → (slice_get xs i ≡ Some y) ⊎ ((i ≡ length xs) × (y ≡ x))
get_more [] x zero y e = inr (refl, some_is (Some x) x y refl e)
get_more [] x (suc i) y e = absurd (grind (arith, e))
get_more (z ∷ xs) x zero y e = inl e
get_more (z ∷ xs) x (suc i) y e = shift (get_more xs x i y e)
  where
    shift : (slice_get xs i ≡ Some y) ⊎ ((i ≡ length xs) × (y ≡ x)) → (slice_get xs i ≡ Some y) ⊎ ((suc i ≡ suc (length xs)) × (y ≡ x))
    shift (inl at) = inl at
    shift (inr end) = inr (ap suc end.0, end.1)

pub length_more : {X : Type 0} (xs : List X) (x : X) → length (xs ++ x ∷ []) ≡ suc (length xs)
length_more [] x = refl
length_more (y ∷ xs) x = ap suc (length_more xs x)

-- the next element of a list of which a prefix was taken
module _ {X : Type 0} (all taken rest later : List X) (x : X) (whole : taken ++ rest ≡ all) (next : rest ≡ x ∷ later) where
  pub next_at : (place : ℕ) → place ≡ length taken → slice_get all place ≡ Some x
  next_at place is = ap (slice_get all) is ∙ ap (λ xs. slice_get xs (length taken)) (sym whole ∙ ap (λ xs. taken ++ xs) next) ∙ get_behind taken later x

  pub whole_more : (taken ++ x ∷ []) ++ later ≡ all
  whole_more = append_assoc taken (x ∷ []) later ∙ ap (λ xs. taken ++ xs) (sym next) ∙ whole

pub no_more : {X : Type 0} (xs : List X) → length xs ≡ 0 → xs ≡ []
no_more [] e = refl
no_more (x ∷ xs) e = absurd (omega (arith, e))

pub whole_end : {X : Type 0} (all taken rest : List X) → taken ++ rest ≡ all → length rest ≡ 0 → taken ≡ all
whole_end all taken rest whole none = sym (append-nil taken) ∙ ap (λ xs. taken ++ xs) (sym (no_more rest none)) ∙ whole

-- ---- seats at the first desks of a table

abbrev pub AtFirst : TableView → ℕ → List SeatView → Type 0
AtFirst table count seats = (length seats ≡ count)
    × ((room : ℕ) (desk : DeskView) (seat : SeatView) → slice_get table.desks room ≡ Some desk → slice_get seats room ≡ Some seat → IsAt desk seat)

pub at_none : (table : TableView) → AtFirst table 0 []
at_none table = (refl, λ room desk seat at had. absurd (grind (arith, had)))

pub at_more : (table : TableView) (count : ℕ) (seats : List SeatView) (desk : DeskView) (seat : SeatView) →
    slice_get table.desks count ≡ Some desk → AtFirst table count seats → IsAt desk seat → AtFirst table (count + 1) (seats ++ seat ∷ [])
at_more table count seats desk seat at_desk are is = (let long = length_more seats seat in let had = are.0 in omega (arith, long, had), λ room q s at had. one room q s at (get_more seats seat room s had))
  where
    one : (room : ℕ) (q : DeskView) (s : SeatView) → slice_get table.desks room ≡ Some q → (slice_get seats room ≡ Some s) ⊎ ((room ≡ length seats) × (s ≡ seat)) → IsAt q s
    one room q s at (inl had) = are.1 room q s at had
    one room q s at (inr end) =
        let there : slice_get table.desks count ≡ Some q = subst (λ k. slice_get table.desks k ≡ Some q) (end.0 ∙ are.0) at in
        let is_desk : q ≡ desk = some_is (slice_get table.desks count) desk q at_desk there in
        subst (λ t. IsAt q t) (sym end.1) (subst (λ p. IsAt p seat) (sym is_desk) is)

-- ---- splits

pub split_none : AreSplit [] [] []
split_none = record { as_many = refl; of_new = refl; split = λ room seat one other was kept new. absurd (grind (arith, was)) }

module _ (seats kept new : List SeatView) (seat one other : SeatView) (are : AreSplit seats kept new) (split : SplitsInto seat one other) where
  -- the last seat of each list
  last : (room : ℕ) (s k n : SeatView) → (slice_get seats room ≡ Some s) ⊎ ((room ≡ length seats) × (s ≡ seat)) → (slice_get kept room ≡ Some k) ⊎ ((room ≡ length kept) × (k ≡ one))
      → (slice_get new room ≡ Some n) ⊎ ((room ≡ length new) × (n ≡ other)) → SplitsInto s k n
  last room s k n (inl was) (inl kept_at) (inl new_at) = are.split room s k n was kept_at new_at
  last room s k n (inr was) (inr kept_at) (inr new_at) =
      subst (λ t. SplitsInto t k n) (sym was.1) (subst (λ t. SplitsInto seat t n) (sym kept_at.1) (subst (λ t. SplitsInto seat one t) (sym new_at.1) split))
  last room s k n (inl was) (inr kept_at) new_at =
      let below = slice_get_within seats room s was in let end = kept_at.0 in let many = are.as_many in absurd (omega (arith, below, end, many))
  last room s k n (inl was) (inl kept_at) (inr new_at) =
      let below = slice_get_within seats room s was in let end = new_at.0 in let many = are.of_new in absurd (omega (arith, below, end, many))
  last room s k n (inr was) (inl kept_at) new_at =
      let below = slice_get_within kept room k kept_at in let end = was.0 in let many = are.as_many in absurd (omega (arith, below, end, many))
  last room s k n (inr was) (inr kept_at) (inl new_at) =
      let below = slice_get_within new room n new_at in let end = was.0 in let many = are.of_new in absurd (omega (arith, below, end, many))

  pub split_more : AreSplit (seats ++ seat ∷ []) (kept ++ one ∷ []) (new ++ other ∷ [])
  split_more = record {
    as_many = length_more kept one ∙ ap suc are.as_many ∙ sym (length_more seats seat);
    of_new = length_more new other ∙ ap suc are.of_new ∙ sym (length_more seats seat);
    split = λ room s k n was kept_at new_at. last room s k n (get_more seats seat room s was) (get_more kept one room k kept_at) (get_more new other room n new_at);
  }
