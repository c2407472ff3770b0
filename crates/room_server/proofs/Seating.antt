-- What a turn and a look at one seat of a table change, and what a session learns from them.
use Rattle.std.proofs.Common.{◌≡◌, ◌≢◌, ℕ, zero, suc, ◌<◌, List, [], ◌∷◌, ◌++◌, Option, Some, None, length, map, slice_get, slice_set, refl, ◌⊎◌, ◌∙◌, ap, sym, subst, inl, inr, append-nil, length-append, arith}
use Rattle.std.proofs.lemmas.Bool.{cases_eq}
use Rattle.std.proofs.lemmas.List.{length-set, length-map, map-append}
use Rattle.std.proofs.lemmas.Option.{slice_get_within}
use Rattle.std.proofs.lemmas.List.Quantifiers.{position-Some}
use Rattle.room_server.specs.Prelude.{Global, RoomCall, RoomReply, Entry, Opening, IsJournal, IsTurn, Known, RoomKnown, HasRoom, AnswersAt, LeavesOthers, AnswersCall, TellsLength, is_same_author, author_of, IsAt, IsSameSeat, TurnsAt, Leaves, Adds, History, entries, BeginsWith, IsLegal, AreAt, DeskView, LooksThere, SeatView, SeatedView, TableView, TurnsThere, kept_of, known_at, known_by, known_of, mark, place_by}
use Rattle.room_session.specs.Rooms.{LooksAt as LooksSo}
use Rattle.turn_desk.specs.Desk.{LooksAt}

-- ---- lists

pub get_set_same : {X : Type 0} → (xs : List X) (i : ℕ) (y : X) → i < length xs → slice_get (slice_set xs i y) i ≡ Some y
get_set_same [] i y below = absurd (omega (arith, below))
get_set_same (x ∷ xs) zero y below = refl
get_set_same (x ∷ xs) (suc i) y below = get_set_same xs i y (omega (arith, below))

pub get_set_other : {X : Type 0} → (xs : List X) (i j : ℕ) (y : X) → j ≢ i → slice_get (slice_set xs i y) j ≡ slice_get xs j
get_set_other [] i j y apart = refl
get_set_other (x ∷ xs) zero zero y apart = absurd (apart refl)
get_set_other (x ∷ xs) zero (suc j) y apart = refl
get_set_other (x ∷ xs) (suc i) zero y apart = refl
get_set_other (x ∷ xs) (suc i) (suc j) y apart = get_set_other xs i j y (λ same. apart (ap suc same))

pub some_is : {X : Type 0} → (o : Option X) (x y : X) → o ≡ Some x → o ≡ Some y → y ≡ x
some_is o x y one two = grind (arith, one, two)

-- if a function has the same value for the old and the new element, it has the same values for the whole list
map_set_same : {X Y : Type 0} (f : X → Y) (xs : List X) (i : ℕ) (x y : X) → slice_get xs i ≡ Some x → f y ≡ f x → map f (slice_set xs i y) ≡ map f xs
map_set_same f [] i x y at same = refl
map_set_same f (z ∷ xs) zero x y at same = let is : x ≡ z = some_is (Some z) z x refl at in ap (λ h. h ∷ map f xs) (same ∙ ap f is)
map_set_same f (z ∷ xs) (suc i) x y at same = ap (λ t. f z ∷ t) (map_set_same f xs i x y at same)

same_mark : (before after : SeatView) → IsSameSeat before after → mark after ≡ mark before
same_mark before after same =
    ap (λ t. ((t, after.fixed), after.number ∷ map (λ k. k.0) after.met, after.parts)) same.table
    ∙ ap (λ f. ((before.table, f), after.number ∷ map (λ k. k.0) after.met, after.parts)) same.fixed
    ∙ ap (λ n. ((before.table, before.fixed), n ∷ map (λ k. k.0) after.met, after.parts)) same.number
    ∙ ap (λ m. ((before.table, before.fixed), before.number ∷ map (λ k. k.0) m, after.parts)) same.met
    ∙ ap (λ p. ((before.table, before.fixed), before.number ∷ map (λ k. k.0) before.met, p)) same.parts

entries_begin : {E : Type 0} (h seen : History E) → BeginsWith h seen → BeginsWith (entries h) (entries seen)
entries_begin h seen starts = (entries starts.0, ap entries starts.1 ∙ map-append (λ p. p.1) seen starts.0)

-- ---- one seat

module _ (opening : Opening Global) (law : (h : History (Entry Global)) → IsLegal IsTurn opening h → IsJournal opening.base opening.limit (entries h)) (before after : SeatView) where
  abbrev Grows : History (Entry Global) → Type 0
  Grows h = (added : List (Entry Global)) × (entries after.seen ≡ entries h ++ added) × (after.mine ≡ before.mine ++ added)

  -- an entry that the call added is in the history and is the seat's own
  grows : (h : History (Entry Global)) → (Leaves h before after ⊎ Adds h before after) → Grows h
  grows h (inl leaves) = ([], ap entries leaves.0 ∙ sym (append-nil (entries h)), leaves.1 ∙ sym (append-nil before.mine))
  grows h (inr adds) = (adds.0 ∷ [], ap entries adds.1 ∙ map-append (λ p. p.1) h ((before.number, adds.0) ∷ []), adds.2)

  length_seen : length (entries after.seen) ≡ length after.seen
  length_seen = length-map after.seen (λ p. p.1)

  turned : (call : RoomCall Global) (reply : RoomReply Global) → TurnsAt IsTurn opening before call reply after → AnswersAt (known_by opening before) call reply (known_by opening after)
  turned call reply turn = let more = grows turn.h turn.entry in record {
    journal = entries turn.h;
    legal = law turn.h turn.legal;
    begins = entries_begin turn.h before.seen turn.begins;
    turn = turn.answer;
    added = more.0;
    grows = more.1;
    mine = more.2;
    looks = turn.look ∙ ap (λ n. before.looks ++ n ∷ []) (sym length_seen);
    turns = ap length turn.ticket.1 ∙ length-append before.tickets (turn.ticket.0 ∷ []);
    opening = refl;
  }

  looked : (count : ℕ) → LooksAt IsTurn opening before count after → LooksSo (known_by opening before) count (known_by opening after)
  looked count look = record {
    legal = law after.seen look.stays_legal;
    begins = entries_begin after.seen before.seen look.begins;
    whole = sym look.count_is ∙ sym length_seen;
    mine = look.mine;
    looks = look.look;
    turns = ap length look.tickets;
    opening = refl;
  }

-- ---- places

place_is_below : (names : List (List ℕ)) (name : Option (List ℕ)) (room : ℕ) → place_by names name ≡ Some room → room < length names
place_is_below names None room e = absurd (grind (arith, e))
place_is_below names (Some name) room e = let found = position-Some (is_same_author name) names room [] e in found.0

-- a room that is known has a name
pub room_is_below : (s : SeatedView) (room : ℕ) → HasRoom (known_of s) room → room < length s.table.names
room_is_below s room is = place_is_below s.table.names (author_of is.0) room is.1

-- ---- a seat among those of a table

module _ (table : TableView) (olds : List SeatView) (room : ℕ) (desk : DeskView) (before after : SeatView)
    (at_desk : slice_get table.desks room ≡ Some desk) (was : slice_get olds room ≡ Some before) where
  abbrev news : List SeatView
  news = slice_set olds room after

  below : room < length olds
  below = slice_get_within olds room before was

  -- the other seats are unchanged, and the changed seat is at its desk
  pub still_at : AreAt table olds → IsAt desk after → AreAt table news
  still_at are is = (length-set olds room after ∙ are.0, λ j q s at had. one_at j q s at had (cases_eq j room), are.2)
    where
      one_at : (j : ℕ) (q : DeskView) (s : SeatView) → slice_get table.desks j ≡ Some q → slice_get news j ≡ Some s → (j ≡ room) ⊎ (j ≢ room) → IsAt q s
      one_at j q s at had (inl same) =
          let had_here : slice_get news room ≡ Some s = subst (λ k. slice_get news k ≡ Some s) same had in
          let at_here : slice_get table.desks room ≡ Some q = subst (λ k. slice_get table.desks k ≡ Some q) same at in
          let is_after : s ≡ after = some_is (slice_get news room) after s (get_set_same olds room after below) had_here in
          let is_desk : q ≡ desk = some_is (slice_get table.desks room) desk q at_desk at_here in
          subst (λ t. IsAt q t) (sym is_after) (subst (λ p. IsAt p after) (sym is_desk) is)
      one_at j q s at had (inr apart) = are.1 j q s at (sym (get_set_other olds room j after apart) ∙ had)

  pub still_kept : IsSameSeat before after → kept_of (record { table = table; seats = news }) ≡ kept_of (record { table = table; seats = olds })
  still_kept same = ap (λ m. (table, m)) (map_set_same mark olds room before after was (same_mark before after same))

  abbrev old_known : Known
  old_known = known_of (record { table = table; seats = olds })

  abbrev new_known : Known
  new_known = known_of (record { table = table; seats = news })

  known_before : old_known.at room ≡ known_by desk.fixed before
  known_before = ap (λ d. known_at d (slice_get olds room)) at_desk ∙ ap (λ s. known_at (Some desk) s) was

  known_after : new_known.at room ≡ known_by desk.fixed after
  known_after = ap (λ d. known_at d (slice_get news room)) at_desk ∙ ap (λ s. known_at (Some desk) s) (get_set_same olds room after below)

  leaves : LeavesOthers old_known room new_known
  leaves = record {
    place = refl;
    others = λ other apart. ap (λ s. known_at (slice_get table.desks other) s) (get_set_other olds room other after apart);
  }

  module _ (law : (h : History (Entry Global)) → IsLegal IsTurn desk.fixed h → IsJournal desk.fixed.base desk.fixed.limit (entries h)) where
    pub answered : (call : RoomCall Global) (reply : RoomReply Global) → TurnsAt IsTurn desk.fixed before call reply after → AnswersCall old_known room call reply new_known
    answered call reply turn = record {
      here = subst (λ (k : RoomKnown). AnswersAt k call reply (new_known.at room)) (sym known_before)
          (subst (λ (k : RoomKnown). AnswersAt (known_by desk.fixed before) call reply k) (sym known_after) (turned desk.fixed law before after call reply turn));
      leaves = leaves;
    }

    pub looked_at : (count : ℕ) → LooksAt IsTurn desk.fixed before count after → TellsLength old_known room count new_known
    looked_at count look = record {
      here = subst (λ (k : RoomKnown). LooksSo k count (new_known.at room)) (sym known_before)
          (subst (λ (k : RoomKnown). LooksSo (known_by desk.fixed before) count k) (sym known_after) (looked desk.fixed law before after count look));
      leaves = leaves;
    }

-- ---- what a turn and a look through a table's seats give

abbrev seated : TableView → List SeatView → SeatedView
seated table seats = record { table = table; seats = seats }

module _ (table : TableView) (olds news : List SeatView) (room : ℕ) (desk : DeskView) (at_desk : slice_get table.desks room ≡ Some desk) where
  module _ (law : (h : History (Entry Global)) → IsLegal IsTurn desk.fixed h → IsJournal desk.fixed.base desk.fixed.limit (entries h)) (call : RoomCall Global) (reply : RoomReply Global) (there : TurnsThere desk room call reply olds news) where
    pub turn_at : AreAt table olds → AreAt table news
    turn_at are = subst (λ s. AreAt table s) (sym there.others) (still_at table olds room desk there.before there.after at_desk there.was are there.at)

    pub turn_kept : kept_of (seated table news) ≡ kept_of (seated table olds)
    turn_kept = ap (λ s. kept_of (seated table s)) there.others ∙ still_kept table olds room desk there.before there.after at_desk there.was there.same

    pub turn_answers : AnswersCall (known_of (seated table olds)) room call reply (known_of (seated table news))
    turn_answers = subst (λ s. AnswersCall (known_of (seated table olds)) room call reply (known_of (seated table s))) (sym there.others)
        (answered table olds room desk there.before there.after at_desk there.was law call reply there.turn)

  module _ (law : (h : History (Entry Global)) → IsLegal IsTurn desk.fixed h → IsJournal desk.fixed.base desk.fixed.limit (entries h)) (count : ℕ) (there : LooksThere desk room count olds news) where
    pub look_at : AreAt table olds → AreAt table news
    look_at are = subst (λ s. AreAt table s) (sym there.others) (still_at table olds room desk there.before there.after at_desk there.was are there.at)

    pub look_kept : kept_of (seated table news) ≡ kept_of (seated table olds)
    look_kept = ap (λ s. kept_of (seated table s)) there.others ∙ still_kept table olds room desk there.before there.after at_desk there.was there.same

    pub look_looks : TellsLength (known_of (seated table olds)) room count (known_of (seated table news))
    look_looks = subst (λ s. TellsLength (known_of (seated table olds)) room count (known_of (seated table s))) (sym there.others)
        (looked_at table olds room desk there.before there.after at_desk there.was law count there.look)
