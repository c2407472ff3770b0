-- Opening the rooms of a table, in order.
use Rattle.std.proofs.Common.{◌≡◌, ◌≢◌, ℕ, zero, suc, ◌<◌, ◌+◌, Bool, true, false, List, [], ◌∷◌, ◌++◌, ◌⊎◌, Some, None, Result, Ok, Err, IfErr, length, map, slice_get, take, refl, if◌then◌else◌, ◌∙◌, inl, inr, ap, sym, subst, arith, IsErrAnd, option_map, slice_index_or}
use Rattle.std.proofs.lemmas.Bool.{cases_eq}
use Rattle.std.proofs.lemmas.List.Folds.{Any-from_list_any, list_any_at}
use Rattle.std.proofs.lemmas.Option.{get_or_from_slice_get, slice_get-get_or, slice_get-map, slice_get_within}
use Rattle.std.proofs.lemmas.List.Elements.{All-same, All-push}
use Rattle.room_server.specs.Prelude.{Global, same_text_itself, same_texts, Rows, IsBaseFault, BaseFault, author_of, is_author, is_same_author, IsAt, IsFirst, TableFault, BadName, Twice, Unsound, Memory, AreFine, IsAgain, IsBad, IsFirstFault, IsNameFault, opening, DeskView, SeatView, TableView, base_fault}
use Rattle.room_server.specs.Inner.NewNames.{IsRefused, contains_name}
use Rattle.room_server.specs.Inner.Opened.{AreOpened}
use Rattle.room_server.proofs.Counting.{all_none}
use Rattle.room_server.proofs.Seating.{some_is}
use Rattle.room_server.proofs.Splitting.{AtFirst, get_more, length_more}
use Rattle.room_history.specs.declared.base.BaseFault.TheVariants as bases

-- ---- lists

get_take : {X : Type 0} (end : ℕ) (xs : List X) (i : ℕ) (x : X) → slice_get (take end xs) i ≡ Some x → (i < end) × (slice_get xs i ≡ Some x)
get_take zero xs i x e = absurd (grind (arith, e))
get_take (suc end) [] i x e = absurd (grind (arith, e))
get_take (suc end) (y ∷ xs) zero x e = (omega arith, e)
get_take (suc end) (y ∷ xs) (suc i) x e = let more = get_take end xs i x e in let below = more.0 in (omega (arith, below), more.1)

take_get : {X : Type 0} (end : ℕ) (xs : List X) (i : ℕ) (x : X) → i < end → slice_get xs i ≡ Some x → slice_get (take end xs) i ≡ Some x
take_get zero xs i x below e = absurd (omega (arith, below))
take_get (suc end) [] i x below e = absurd (grind (arith, e))
take_get (suc end) (y ∷ xs) zero x below e = e
take_get (suc end) (y ∷ xs) (suc i) x below e = take_get end xs i x (omega (arith, below)) e

take_next : {X : Type 0} (end : ℕ) (xs : List X) (x : X) → slice_get xs end ≡ Some x → take (suc end) xs ≡ take end xs ++ x ∷ []
take_next zero [] x e = absurd (grind (arith, e))
take_next zero (y ∷ xs) x e = ap (λ t. t ∷ []) (some_is (Some y) x y e refl)
take_next (suc end) [] x e = absurd (grind (arith, e))
take_next (suc end) (y ∷ xs) x e = ap (λ t. y ∷ t) (take_next end xs x e)

pub take_more : {X : Type 0} (end : ℕ) (xs : List X) (x : X) → slice_get xs end ≡ Some x → take (end + 1) xs ≡ take end xs ++ x ∷ []
take_more end xs x e = let next : end + 1 ≡ suc end = omega arith in ap (λ n. take n xs) next ∙ take_next end xs x e

-- the element at a position of a mapped list
pub read_at : {X Y : Type 0} (f : X → Y) (xs : List X) (i : ℕ) (d : X) → i < length xs → slice_get (map f xs) i ≡ Some (f (slice_index_or xs i d))
read_at f xs i d below = slice_get-map f xs i ∙ ap (option_map f) (slice_get-get_or xs i d below)

pub err_same : {X E : Type 0} (P : E → Type 0) (r : Result X E) (e : E) → IsErrAnd r (λ x. x ≡ e) → P e → IfErr r P
err_same P (Ok x) e same p = tt
err_same P (Err x) e same p = subst P (sym same) p

-- ---- names

-- the author of a text has the text as the name
pub named : (text name : List ℕ) → author_of text ≡ Some name → name ≡ text
named text name = pick (is_author text)
  where
    pick : (b : Bool) → (if b then Some text else None) ≡ Some name → name ≡ text
    pick true e = some_is (Some text) text name refl e
    pick false e = absurd (grind (arith, e))

contained : (names : List (List ℕ)) (name : List ℕ) → contains_name names name ≡ true → (i : ℕ) × (slice_get names i ≡ Some name)
contained names name e =
    let any = Any-from_list_any (is_same_author name) names e in
    let same : name ≡ any.1 = same_texts name any.1 any.4 in
    (any.0, slice_get-get_or names any.0 any.1 any.2 ∙ ap Some (any.3 ∙ sym same))

contains : (names : List (List ℕ)) (name : List ℕ) (i : ℕ) → slice_get names i ≡ Some name → contains_name names name ≡ true
contains names name i at = list_any_at (is_same_author name) names i name (slice_get_within names i name at)
    (subst (λ (other : List ℕ). is_same_author name other ≡ true) (sym (get_or_from_slice_get names i name name at)) (same_text_itself name))

-- ---- positions

pub fine_none : (texts : List (List ℕ)) → AreFine texts 0
fine_none texts = λ position below. absurd (omega (arith, below))

-- one more text is fine: it is a name, and none of the earlier names
pub fine_more : (texts : List (List ℕ)) (position : ℕ) (text name : List ℕ) → slice_get texts position ≡ Some text → author_of text ≡ Some name → contains_name (take position texts) name ≡ false → AreFine texts position → AreFine texts (position + 1)
fine_more texts position text name at is fresh fine = λ p below. one p below (cases_eq p position)
  where
    not_bad : IsBad texts position → ⊥
    not_bad bad = let same : bad.0 ≡ text = some_is (slice_get texts position) text bad.0 at bad.1 in
        let none : author_of text ≡ None = ap author_of (sym same) ∙ bad.2 in absurd (grind (arith, none, is))

    not_again : IsAgain texts position → ⊥
    not_again again =
        let same : again.0 ≡ text = some_is (slice_get texts position) text again.0 at again.3 in
        let there : slice_get texts again.1 ≡ Some name = again.4 ∙ ap Some (same ∙ sym (named text name is)) in
        let found : contains_name (take position texts) name ≡ true = contains (take position texts) name again.1 (take_get position texts again.1 name again.2 there) in
        absurd (grind (arith, found, fresh))

    one : (p : ℕ) → p < position + 1 → (p ≡ position) ⊎ (p ≢ position) → (IsBad texts p → ⊥) × (IsAgain texts p → ⊥)
    one p below (inl same) = subst (λ q. (IsBad texts q → ⊥) × (IsAgain texts q → ⊥)) (sym same) (not_bad, not_again)
    one p below (inr apart) = fine p (omega (arith, below, apart))

-- a name that an earlier position has
pub is_again : (texts : List (List ℕ)) (position : ℕ) (text : List ℕ) → slice_get texts position ≡ Some text → contains_name (take position texts) text ≡ true → IsAgain texts position
is_again texts position text at e =
    let found = contained (take position texts) text e in
    let there = get_take position texts found.0 text found.1 in
    (text, found.0, there.0, at, there.1)

-- if the earlier texts are fine and this one is refused, its fault is the first
pub first_fault : (texts : List (List ℕ)) (position : ℕ) (text : List ℕ) (fault : TableFault) → slice_get texts position ≡ Some text → AreFine texts position → IsRefused (take position texts) text position fault → IsNameFault texts fault
first_fault texts position text (BadName at) here fine refused =
    (subst (λ p. IsBad texts p) (sym refused.0) (text, here, refused.1), subst (λ p. AreFine texts p) (sym refused.0) fine)
first_fault texts position text (Twice at) here fine refused =
    (subst (λ p. IsAgain texts p) (sym refused.0) (is_again texts position text here refused.2), subst (λ p. AreFine texts p) (sym refused.0) fine)
first_fault texts position text (Unsound x why) here fine refused = absurd refused
first_fault texts position text Memory here fine refused = absurd refused

-- a fault of the names is a fault of the table
pub names_first : (texts : List (List ℕ)) (base : Rows Global) (fault : TableFault) → IsNameFault texts fault → IsFirstFault texts base fault
names_first texts base (BadName position) is = is
names_first texts base (Twice position) is = is
names_first texts base (Unsound x why) is = absurd is
names_first texts base Memory is = is

-- a fault of the map is a fault of the table, if the names are fine
pub base_then : (texts : List (List ℕ)) (base : Rows Global) (fault : BaseFault Global) → AreFine texts (length texts) → IsBaseFault base fault → IsFirstFault texts base (base_fault fault)
base_then texts base (bases.Unsound x why) fine is = (fine, is)
base_then texts base bases.Memory fine is = tt

-- ---- desks with their first seats

abbrev of_desks : List DeskView → TableView
of_desks desks = record { names = []; desks = desks }

module _ (desks : List DeskView) (seats : List SeatView) (desk : DeskView) (seat : SeatView) (as_many : length seats ≡ length desks) (is : IsAt desk seat) where
  last : (are : (room : ℕ) (q : DeskView) (s : SeatView) → slice_get desks room ≡ Some q → slice_get seats room ≡ Some s → IsAt q s) (room : ℕ) (q : DeskView) (s : SeatView)
      → (slice_get desks room ≡ Some q) ⊎ ((room ≡ length desks) × (q ≡ desk)) → (slice_get seats room ≡ Some s) ⊎ ((room ≡ length seats) × (s ≡ seat)) → IsAt q s
  last are room q s (inl q_at) (inl s_at) = are room q s q_at s_at
  last are room q s (inr q_at) (inr s_at) = subst (λ t. IsAt t s) (sym q_at.1) (subst (λ t. IsAt desk t) (sym s_at.1) is)
  last are room q s (inl q_at) (inr s_at) = let first = slice_get_within desks room q q_at in let end = s_at.0 in absurd (omega (arith, first, end, as_many))
  last are room q s (inr q_at) (inl s_at) = let first = slice_get_within seats room s s_at in let end = q_at.0 in absurd (omega (arith, first, end, as_many))

  pub at_grown : (count : ℕ) → AtFirst (of_desks desks) count seats → AtFirst (of_desks (desks ++ desk ∷ [])) (count + 1) (seats ++ seat ∷ [])
  at_grown count at = (
    let long = length_more seats seat in let had = at.0 in omega (arith, long, had),
    λ room q s q_at s_at. last at.1 room q s (get_more desks desk room q q_at) (get_more seats seat room s s_at),
  )

none_at : {X : Type 0} (i : ℕ) (x : X) → slice_get [] i ≡ Some x → ⊥
none_at i x e = absurd (grind (arith, e))

-- no room yet, and one more
pub none_opened : (base : Rows Global) (limit : ℕ) (desks : List DeskView) (seats : List SeatView) → desks ≡ [] → seats ≡ [] → AreOpened base limit 0 desks seats
none_opened base limit desks seats no_desks no_seats = record {
  many = ap length no_desks;
  as_many = ap length no_seats;
  opened = all_none (λ desk. desk.fixed ≡ opening base limit) desks no_desks;
  at = λ room desk seat at had. absurd (none_at room seat (ap (λ (ss : List SeatView). slice_get ss room) (sym no_seats) ∙ had));
  first = all_none IsFirst seats no_seats;
}

pub one_opened : (base : Rows Global) (limit count : ℕ) (desks desks' : List DeskView) (seats seats' : List SeatView) (desk : DeskView) (seat : SeatView)
    → desks' ≡ desks ++ desk ∷ [] → seats' ≡ seats ++ seat ∷ [] → desk.fixed ≡ opening base limit → IsAt desk seat → IsFirst seat
    → AreOpened base limit count desks seats → AreOpened base limit (count + 1) desks' seats'
one_opened base limit count desks desks' seats seats' desk seat desks_are seats_are fixed is own so_far =
    let long = length_more desks desk in
    let desks_long = ap length desks_are in
    let many = so_far.many in
    let grown = at_grown desks seats desk seat (so_far.as_many ∙ sym so_far.many) is count (so_far.as_many, so_far.at) in
    let first = subst (λ ss. AtFirst (of_desks (desks ++ desk ∷ [])) (count + 1) ss) (sym seats_are) grown in
    let at = subst (λ ds. AtFirst (of_desks ds) (count + 1) seats') (sym desks_are) first in
    record {
      many = omega (arith, long, desks_long, many);
      as_many = at.0;
      opened = All-same (λ d. d.fixed ≡ opening base limit) desks' (desks ++ desk ∷ []) desks_are (All-push (λ d. d.fixed ≡ opening base limit) desks desk so_far.opened fixed);
      at = at.1;
      first = All-same IsFirst seats' (seats ++ seat ∷ []) seats_are (All-push IsFirst seats seat so_far.first own);
    }

-- the same of lists that are equal
pub same_opened : (base : Rows Global) (limit count : ℕ) (desks desks' : List DeskView) (seats seats' : List SeatView) → desks' ≡ desks → seats' ≡ seats → AreOpened base limit count desks seats → AreOpened base limit count desks' seats'
same_opened base limit count desks desks' seats seats' desks_are seats_are so_far =
    subst (λ ds. AreOpened base limit count ds seats') (sym desks_are) (subst (λ ss. AreOpened base limit count desks ss) (sym seats_are) so_far)
