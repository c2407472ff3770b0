-- Meeting the seats of workers into those of a table, in order, and closing the desks.
use Rattle.std.proofs.Common.{◌≡◌, ◌≢◌, ℕ, suc, ◌<◌, ◌≤◌, List, [], ◌∷◌, ◌++◌, Some, length, slice_get, slice_set, refl, ◌⊎◌, ◌∙◌, ap, sym, subst, inl, inr, arith}
use Rattle.std.proofs.lemmas.List.{length-set}
use Rattle.std.proofs.lemmas.Option.{slice_get_within}
use Rattle.room_server.specs.Prelude.{IsTurn, MeetsAt, AreFronts, IsFront, AreMet, DeskView, SeatView, TableView}
use Rattle.room_server.proofs.Seating.{get_set_other, get_set_same, some_is}
use Rattle.room_server.proofs.Splitting.{get_more, length_more}

-- the first of the seats have met the others, and the later seats are unchanged
pub record MetSoFar (table : TableView) (seats others seats' : List SeatView) : Type 0 where
  pub are : AreMet table seats others seats'
  pub later : (room : ℕ) → length others ≤ room → slice_get seats' room ≡ slice_get seats room

pub met_none : (table : TableView) (seats : List SeatView) → MetSoFar table seats [] seats
met_none table seats = record {
  are = record { as_many = refl; met = λ room desk seat other seat' q s o t. absurd (grind (arith, o)) };
  later = λ room past. refl;
}

module _ (table : TableView) (seats others seats' : List SeatView) (room : ℕ) (desk : DeskView) (before other after : SeatView)
    (is : room ≡ length others) (at_desk : slice_get table.desks room ≡ Some desk) (was : slice_get seats' room ≡ Some before)
    (so_far : MetSoFar table seats others seats') (meets : MeetsAt IsTurn desk.fixed before other after) where
  abbrev news : List SeatView
  news = slice_set seats' room after

  below : room < length seats'
  below = slice_get_within seats' room before was

  one : (i : ℕ) (q : DeskView) (s o t : SeatView) → slice_get table.desks i ≡ Some q → slice_get seats i ≡ Some s → (slice_get others i ≡ Some o) ⊎ ((i ≡ length others) × (o ≡ other)) → slice_get news i ≡ Some t → MeetsAt IsTurn q.fixed s o t
  one i q s o t q_at s_at (inl o_at) t_at =
      let first = slice_get_within others i o o_at in
      let apart : i ≢ room = λ same. absurd (omega (arith, first, is, same)) in
      so_far.are.met i q s o t q_at s_at o_at (sym (get_set_other seats' room i after apart) ∙ t_at)
  one i q s o t q_at s_at (inr end) t_at =
      let same : i ≡ room = end.0 ∙ sym is in
      let q_here : slice_get table.desks room ≡ Some q = subst (λ k. slice_get table.desks k ≡ Some q) same q_at in
      let s_here : slice_get seats room ≡ Some s = subst (λ k. slice_get seats k ≡ Some s) same s_at in
      let t_here : slice_get news room ≡ Some t = subst (λ k. slice_get news k ≡ Some t) same t_at in
      let is_desk : q ≡ desk = some_is (slice_get table.desks room) desk q at_desk q_here in
      let not_before : length others ≤ room = omega (arith, is) in
      let is_before : s ≡ before = some_is (slice_get seats' room) before s was (so_far.later room not_before ∙ s_here) in
      let is_after : t ≡ after = some_is (slice_get news room) after t (get_set_same seats' room after below) t_here in
      subst (λ d. MeetsAt IsTurn d.fixed s o t) (sym is_desk)
      (subst (λ x. MeetsAt IsTurn desk.fixed x o t) (sym is_before)
      (subst (λ x. MeetsAt IsTurn desk.fixed before x t) (sym end.1)
      (subst (λ x. MeetsAt IsTurn desk.fixed before other x) (sym is_after) meets)))

  pub met_one : MetSoFar table seats (others ++ other ∷ []) news
  met_one = record {
    are = record {
      as_many = length-set seats' room after ∙ so_far.are.as_many;
      met = λ i q s o t q_at s_at o_at t_at. one i q s o t q_at s_at (get_more others other i o o_at) t_at;
    };
    later = λ i past.
        let long = length_more others other in
        let apart : i ≢ room = λ same. absurd (omega (arith, past, long, is, same)) in
        let past_all : length others ≤ i = omega (arith, past, long) in
        get_set_other seats' room i after apart ∙ so_far.later i past_all;
  }

-- ---- the desks closed

pub fronts_none : AreFronts [] [] []
fronts_none = record { as_many = refl; each = λ room desk seat front q s f. absurd (grind (arith, q)) }

module _ (desks : List DeskView) (seats : List SeatView) (fronts : List ℕ) (desk : DeskView) (seat : SeatView) (front : ℕ)
    (as_many : length seats ≡ length desks) (are : AreFronts desks seats fronts) (is : IsFront desk seat front) where
  last : (room : ℕ) (q : DeskView) (s : SeatView) (f : ℕ) → (slice_get desks room ≡ Some q) ⊎ ((room ≡ length desks) × (q ≡ desk)) → (slice_get seats room ≡ Some s) ⊎ ((room ≡ length seats) × (s ≡ seat))
      → (slice_get fronts room ≡ Some f) ⊎ ((room ≡ length fronts) × (f ≡ front)) → IsFront q s f
  last room q s f (inl q_at) (inl s_at) (inl f_at) = are.each room q s f q_at s_at f_at
  last room q s f (inr q_at) (inr s_at) (inr f_at) =
      subst (λ t. IsFront t s f) (sym q_at.1) (subst (λ t. IsFront desk t f) (sym s_at.1) (subst (λ t. IsFront desk seat t) (sym f_at.1) is))
  last room q s f (inl q_at) (inr s_at) f_at =
      let first = slice_get_within desks room q q_at in let end = s_at.0 in absurd (omega (arith, first, end, as_many))
  last room q s f (inl q_at) (inl s_at) (inr f_at) =
      let first = slice_get_within desks room q q_at in let end = f_at.0 in let many = are.as_many in absurd (omega (arith, first, end, many))
  last room q s f (inr q_at) (inl s_at) f_at =
      let first = slice_get_within seats room s s_at in let end = q_at.0 in absurd (omega (arith, first, end, as_many))
  last room q s f (inr q_at) (inr s_at) (inl f_at) =
      let first = slice_get_within fronts room f f_at in let end = q_at.0 in let many = are.as_many in absurd (omega (arith, first, end, many))

  pub fronts_more : AreFronts (desks ++ desk ∷ []) (seats ++ seat ∷ []) (fronts ++ front ∷ [])
  fronts_more = record {
    as_many = length_more fronts front ∙ ap suc are.as_many ∙ sym (length_more desks desk);
    each = λ room q s f q_at s_at f_at. last room q s f (get_more desks desk room q q_at) (get_more seats seat room s s_at) (get_more fronts front room f f_at);
  }
