-- The outcome of serving rooms: the texts that were taken in order, and the rooms' entry counts.
use Rattle.std.proofs.Common.{◌≡◌, ◌⊎◌, ◌≤◌, ◌<◌, refl, ℕ, zero, suc, Bool, true, false, List, [], ◌∷◌, ◌++◌, Some, length, All, slice_get, ◌∙◌, sym, ap, subst, inl, inr, arith, append_assoc, slice_index_or}
use Rattle.std.proofs.lemmas.List.{length-map}
use Rattle.room_program.specs.Prelude.{Global, Appends, Refusal, Name, Rows, IsFirstUnsound, IsBaseFault, BaseFault, Entry, Opening, IsJournal, IsTurn, ProgramFault, Replay, Memory, Listen, Worker, TooManyRooms, BadName, Twice, Takes, opening_fault, pool_fault, table_fault, BeginsOn, CanBeServed, IsFrontOf, IsUnopened, StopsBy, listening, TookNone, PoolFault, TableFault, AreFronts, IsFront, IsNameFault, Opens, opening, AreAt, DeskView, SeatView, TableView, History, IsLegal, entries}
use Rattle.osm_elements.specs.Rows.{row_at}
use Rattle.room_program.proofs.StreamLemmas.{Appends-then}
use Rattle.room_history.specs.declared.base.BaseFault.TheVariants as bases
use Rattle.room_program.specs.declared.sink.Sink as sinks
use Rattle.room_program.specs.declared.source.Source as sources
use Rattle.room_server.specs.declared.pool.PoolFault.TheVariants as pools
use Rattle.room_server.specs.declared.table.TableFault.TheVariants as tables

module _ {W : Type 0} (sink : sinks.Ghosts W) where
  -- a whole text, followed by another text as far as it was taken
  pub takes_then : (before between after : W) (text more : List ℕ) → Appends (sink.taken before) (sink.taken between) text → Takes sink between after more → Takes sink before after (text ++ more)
  takes_then before between after text more whole takes = record {
    front = text ++ takes.front;
    rest = takes.rest;
    text_is = ap (λ bs. text ++ bs) takes.text_is ∙ sym (append_assoc text takes.front takes.rest);
    written = Appends-then (sink.taken before) (sink.taken between) (sink.taken after) text takes.front whole takes.written;
    why = takes.why;
  }

  -- after a text that was not taken whole, no more is taken
  pub takes_no_more : (before after : W) (text more : List ℕ) → Takes sink before after text → (sink.has_failed after ≡ true) ⊎ TookNone sink.puts after → Takes sink before after (text ++ more)
  takes_no_more before after text more takes why = record {
    front = takes.front;
    rest = takes.rest ++ more;
    text_is = ap (λ bs. bs ++ more) takes.text_is ∙ append_assoc takes.front takes.rest more;
    written = takes.written;
    why = inr why;
  }

  -- the same for equal texts and states
  pub told_then : (before between after end : W) (text told more lines : List ℕ) → told ≡ text → lines ≡ more → end ≡ after
      → Appends (sink.taken before) (sink.taken between) told → Takes sink between after lines → Takes sink before end (text ++ more)
  told_then before between after end text told more lines text_is more_is end_is whole takes =
      subst (λ (w : W). Takes sink before w (text ++ more)) (sym end_is)
      (takes_then before between after text more (subst (λ (bs : List ℕ). Appends (sink.taken before) (sink.taken between) bs) text_is whole) (subst (λ (bs : List ℕ). Takes sink between after bs) more_is takes))

  pub told_no_more : (before after end : W) (text told more : List ℕ) → told ≡ text → end ≡ after
      → Takes sink before after told → (sink.has_failed after ≡ true) ⊎ TookNone sink.puts after → Takes sink before end (text ++ more)
  told_no_more before after end text told more text_is end_is takes why =
      subst (λ (w : W). Takes sink before w (text ++ more)) (sym end_is)
      (takes_no_more before after text more (subst (λ (bs : List ℕ). Takes sink before after bs) text_is takes) why)

module _ {S W : Type 0} (source : sources.Ghosts S) (sink : sinks.Ghosts W) (on_base : Bool) (rooms : List (List ℕ)) (input input' : S) (output output' : W) where
  -- rooms that are not opened are not served
  pub unopened_stops : (fault : ProgramFault) → output' ≡ output → IsUnopened source on_base rooms input input' fault → StopsBy source sink on_base rooms input input' output output' fault
  unopened_stops Listen same is = absurd is
  unopened_stops Worker same is = absurd is
  unopened_stops Memory same is = (is, inl same)
  unopened_stops TooManyRooms same is = (is, same)
  unopened_stops BadName same is = (is, same)
  unopened_stops Twice same is = (is, same)
  unopened_stops (Replay fault) same is = (is, same)

  -- rooms are not served to the end if the pool does not serve
  pub pool_stops : (fault : PoolFault) → CanBeServed rooms → Takes sink output output' listening → StopsBy source sink on_base rooms input input' output output' (pool_fault fault)
  pool_stops pools.Worker can takes = (can, takes)
  pool_stops pools.Memory can takes = (can.0, inr takes)

module _ {S : Type 0} (source : sources.Ghosts S) (rooms : List (List ℕ)) (input input' : S) where
  -- the first fault of the names is reported
  pub names_unopened : (on_base : Bool) (fault : TableFault) → length rooms ≤ 64 → input' ≡ input → IsNameFault rooms fault → IsUnopened source on_base rooms input input' (table_fault fault)
  names_unopened on_base (tables.BadName position) few same is = (few, (position, is), same)
  names_unopened on_base (tables.Twice position) few same is = (few, (position, is), same)
  names_unopened on_base (tables.Unsound x why) few same is = absurd is
  names_unopened on_base tables.Memory few same is = few

  -- then the fault of the map is reported; the empty map has none
  nothing_unsound : (base : Rows Global) (x : Name) (why : Refusal Global) → base ≡ [] → IsFirstUnsound base x why → ⊥
  nothing_unsound base x why none is = let there : row_at {A = Global} [] x ≡ Some is.element = ap (λ m. row_at m x) (sym none) ∙ is.there in absurd (cc)

  pub base_unopened : (on_base : Bool) (base : Rows Global) (fault : BaseFault Global) → CanBeServed rooms → source.has_failed input' ≡ false → BeginsOn source on_base input base → IsBaseFault base fault
      → IsUnopened source on_base rooms input input' (opening_fault fault)
  base_unopened true base (bases.Unsound x why) can works begins is = (can, refl, (works, (base, begins, is)))
  base_unopened true base bases.Memory can works begins is = can.0
  base_unopened false base (bases.Unsound x why) can works begins is = absurd (nothing_unsound base x why begins is)
  base_unopened false base bases.Memory can works begins is = can.0

-- the element of a list at its position
get_at : {X : Type 0} (xs : List X) (i : ℕ) (d : X) → i < length xs → slice_get xs i ≡ Some (slice_index_or xs i d)
get_at [] i d below = absurd (omega (arith, below))
get_at (x ∷ xs) zero d below = refl
get_at (x ∷ xs) (suc i) d below = get_at xs i d (omega (arith, below))

there_is : {X : Type 0} (xs : List X) (i : ℕ) → i < length xs → (x : X) × (slice_get xs i ≡ Some x)
there_is [] i below = absurd (omega (arith, below))
there_is (x ∷ xs) zero below = (x, refl)
there_is (x ∷ xs) (suc i) below = there_is xs i (omega (arith, below))

-- the entry counts of a closed table are lengths of journals
module _ (law : (opened : Opening Global) (h : History (Entry Global)) → IsLegal IsTurn opened h → IsJournal opened.base opened.limit (entries h)) where
  front_of : (base : Rows Global) (limit : ℕ) (desk : DeskView) (seat : SeatView) (front : ℕ) → desk.fixed ≡ opening base limit → IsFront desk seat front → IsFrontOf base limit front
  front_of base limit desk seat front fixed is = (
    entries is.h,
    subst (λ (o : Opening Global). IsJournal o.base o.limit (entries is.h)) fixed (law desk.fixed is.h is.legal),
    is.count ∙ sym (length-map is.h (λ p. p.1)),
  )

  pub fronts_of : (rooms : List (List ℕ)) (base : Rows Global) (limit : ℕ) (table : TableView) (first seats : List SeatView) (fronts : List ℕ) → Opens rooms base limit table first → AreAt table seats
      → AreFronts table.desks seats fronts → (length fronts ≡ length rooms) × All (IsFrontOf base limit) fronts
  fronts_of rooms base limit table first seats fronts opens at are = (
    are.as_many ∙ opens.many,
    λ i d below.
        let many = are.as_many in
        let as_many = at.0 in
        let desk = there_is table.desks i (omega (arith, below, many)) in
        let seat = there_is seats i (omega (arith, below, many, as_many)) in
        let fixed = opens.opened i desk.0 (omega (arith, below, many)) in
        let here : desk.0 ≡ slice_index_or table.desks i desk.0 = some_is (sym desk.1 ∙ get_at table.desks i desk.0 (omega (arith, below, many))) in
        front_of base limit desk.0 seat.0 (slice_index_or fronts i d) (ap (λ (x : DeskView). x.fixed) here ∙ fixed)
        (are.each i desk.0 seat.0 (slice_index_or fronts i d) desk.1 seat.1 (get_at fronts i d below)),
  )
    where
      some_is : {x y : DeskView} → Some x ≡ Some y → x ≡ y
      some_is e = cc
