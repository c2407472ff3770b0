use Rattle.std.proofs.Common.{◌≡◌, ◌+◌, ℕ, List, length, ◌∙◌, ap, arith, subst, sym}
use Rattle.room_server.specs.Prelude.{Global, RoomState, opening}
use Rattle.room_server.specs.Inner.Opened.{AreOpened}
use Rattle.room_server.proofs.Opening.{one_opened, same_opened}
use Rattle.room_server.proofs.table.RoomTable.begin.Goals.{then-count-gt0+in_ok-seat_room, else-count-gt0}
use Rattle.room_server.proofs.table.RoomTable.begin.Goals as goal

pub invariant_of-result : goal.invariant_of-result
invariant_of-result c =
    let count = c.len-count.result in
    let rows = c.args.rows in
    let limit = c.args.limit in
    let had = c.in_ok-desks.ensures.ok in
    let last = c.in_ok-last.ensures.ok in
    let fewer = c.saturating_sub.ensures in
    let all : AreOpened rows limit count c.if-count-gt0.desks.items c.if-count-gt0.seats.items = elim c.if-count-gt0.branch [
      | then-count-gt0+in_ok-seat_room w ↦
          let seated = w.in_ok-seat_room.ensures in
          let some = w.if-count-gt0.true in
          let more : c.saturating_sub.result + 1 ≡ count = omega (arith, some, fewer) in
          subst (λ (n : ℕ). AreOpened rows limit n c.if-count-gt0.desks.items c.if-count-gt0.seats.items) more
          (one_opened rows limit c.saturating_sub.result c.in_ok-desks.desks.items c.if-count-gt0.desks.items c.in_ok-desks.seats.items c.if-count-gt0.seats.items seated.0 seated.1
          ((λ i. (w.desks-is i).items) ∙ seated.2) ((λ i. (w.seats-is i).items) ∙ seated.3) (seated.4 ∙ ap (λ (r : RoomState Global). opening r.base r.limit) last) seated.5 seated.6 had)
      | else-count-gt0 w ↦
          let none = w.if-count-gt0.false in
          let same : c.saturating_sub.result ≡ count = omega (arith, none, fewer) in
          subst (λ (n : ℕ). AreOpened rows limit n c.if-count-gt0.desks.items c.if-count-gt0.seats.items) same
          (same_opened rows limit c.saturating_sub.result c.in_ok-desks.desks.items c.if-count-gt0.desks.items c.in_ok-desks.seats.items c.if-count-gt0.seats.items (λ i. (w.desks-is i).items) (λ i. (w.seats-is i).items) had)
    ] in
    all.many ∙ c.len-count.ensures ∙ ap (λ (names : List (List ℕ)). length names) (sym c.names-2.view_is)

pub returns-clause-ok : goal.returns-clause-ok
returns-clause-ok c =
    let count = c.len-count.result in
    let rows = c.args.rows in
    let limit = c.args.limit in
    let had = c.in_ok-desks.ensures.ok in
    let last = c.in_ok-last.ensures.ok in
    let fewer = c.saturating_sub.ensures in
    let all : AreOpened rows limit count c.if-count-gt0.desks.items c.if-count-gt0.seats.items = elim c.if-count-gt0.branch [
      | then-count-gt0+in_ok-seat_room w ↦
          let seated = w.in_ok-seat_room.ensures in
          let some = w.if-count-gt0.true in
          let more : c.saturating_sub.result + 1 ≡ count = omega (arith, some, fewer) in
          subst (λ (n : ℕ). AreOpened rows limit n c.if-count-gt0.desks.items c.if-count-gt0.seats.items) more
          (one_opened rows limit c.saturating_sub.result c.in_ok-desks.desks.items c.if-count-gt0.desks.items c.in_ok-desks.seats.items c.if-count-gt0.seats.items seated.0 seated.1
          ((λ i. (w.desks-is i).items) ∙ seated.2) ((λ i. (w.seats-is i).items) ∙ seated.3) (seated.4 ∙ ap (λ (r : RoomState Global). opening r.base r.limit) last) seated.5 seated.6 had)
      | else-count-gt0 w ↦
          let none = w.if-count-gt0.false in
          let same : c.saturating_sub.result ≡ count = omega (arith, none, fewer) in
          subst (λ (n : ℕ). AreOpened rows limit n c.if-count-gt0.desks.items c.if-count-gt0.seats.items) same
          (same_opened rows limit c.saturating_sub.result c.in_ok-desks.desks.items c.if-count-gt0.desks.items c.in_ok-desks.seats.items c.if-count-gt0.seats.items (λ i. (w.desks-is i).items) (λ i. (w.seats-is i).items) had)
    ] in
    record {
      sound = c.in_ok-last.ensures.sound;
      names_are = c.names-2.view_is;
      many = all.many ∙ c.len-count.ensures;
      opened = all.opened;
      at = (all.as_many ∙ sym all.many, all.at, all.many ∙ c.len-count.ensures ∙ ap (λ (names : List (List ℕ)). length names) (sym c.names-2.view_is));
      first = all.first;
    }
