-- Facts about every journal that calls lead to.
use Rattle.std.proofs.Common.{◌≡◌, ◌++◌, ◌∷◌, ℕ, true, List, [], refl, ap, subst, ◌∙◌}
use Rattle.osm_changes.specs.Changes.{changed}
use Rattle.room_history.specs.Prelude.{AreInOrder, Change, differences, inverse, AreChanges, AreFrom, Call, Entry, Reply, Rows, is_sound, Holds, standing, IsJournal, past, mapof, replay, IsStep, IsRun}
use Rattle.room_history.proofs.AtOnce.{is_undone_at_once}
use Rattle.room_history.proofs.Chains.{replays}
use Rattle.room_history.proofs.Deciding.{is_undone_exactly_where, is_undo_of_last}
use Rattle.room_history.proofs.InTurn.{is_redone_in_turn}
use Rattle.room_history.proofs.Keeping.{journal_led}
use Rattle.room_history.proofs.Leading.{led_sound}
use Rattle.room_history.proofs.NothingLost.{is_nothing_lost, is_refused_exactly_where, is_same_unseen}
use Rattle.room_history.proofs.Redoing.{is_redone_at_once}
use Rattle.room_history.proofs.RestLeft.{is_rest_left}
use Rattle.room_history.proofs.Stacking.{is_redo_stacked}
use Rattle.room_history.proofs.Works.{told, all_told, accepted_each}

module _ {A : Type 0} where
  module _ (differ : (m n : Rows A) → AreChanges (differences m n)) (from : (m n : Rows A) → AreFrom m (differences m n))
      (back : (m : Rows A) (cs : List (Change A)) → AreInOrder m → AreChanges cs → AreFrom m cs → AreFrom (changed m cs) (inverse cs)) (base : Rows A) (sound : is_sound base ≡ true) where
    pub journal_holds : (limit : ℕ) (j : List (Entry A)) → IsJournal base limit j → Holds base limit j
    journal_holds limit j h =
        let led = journal_led base sound limit j h in
        let is : is_sound (mapof base j) ≡ true = led_sound base j sound led in
        record {
          sound = is;
          replayed = ap (replay base) (told (past base j) (standing j) led.works led.recorded) ∙ replays base led.works (mapof base j) led.leads;
          none_dropped = all_told (past base j) (standing j) led.works led.recorded;
          accepted_as_recorded = accepted_each (past base j) base (standing j) led.works (mapof base j) led.recorded led.leads;
          undone_at_once = is_undone_at_once base limit j is;
          undone_exactly_where = is_undone_exactly_where base limit j led;
          undo_of_last = is_undo_of_last base limit j;
          rest_left = is_rest_left base limit j sound led;
          redo_stacked = is_redo_stacked base limit j;
          redone_at_once = is_redone_at_once base limit sound j led;
          redone_in_turn = is_redone_in_turn base limit sound j led;
          nothing_lost = is_nothing_lost differ from back base sound limit j h;
          refused_exactly_where = is_refused_exactly_where differ from back base sound limit j h;
          same_unseen = is_same_unseen base limit j;
        }

  -- a run with one more step
  pub run_more : (base : Rows A) (limit : ℕ) (j : List (Entry A)) (cs : List (Call A)) (rs : List (Reply A)) (k l : List (Entry A)) (c : Call A) (r : Reply A) → IsRun base limit j cs rs k → IsStep base limit k c r l → Holds base limit l
      → IsRun base limit j (cs ++ c ∷ []) (rs ++ r ∷ []) l
  run_more base limit j [] [] k l c r run step holds = (run.0, (l, subst (λ m. IsStep base limit m c r l) run.1 step, (holds, refl)))
  run_more base limit j [] (s ∷ rs) k l c r run step holds = absurd run
  run_more base limit j (d ∷ cs) [] k l c r run step holds = absurd run
  run_more base limit j (d ∷ cs) (s ∷ rs) k l c r run step holds = (run.0, (run.1.0, run.1.1, run_more base limit run.1.0 cs rs k l c r run.1.2 step holds))
