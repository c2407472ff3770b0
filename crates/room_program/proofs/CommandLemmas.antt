-- The outcome of a run of the program, from the outcome of its replay.
use Rattle.std.proofs.Common.{◌≡◌, ◌⊎◌, ◌^◌, ℕ, true, false, List, [], Option, Result, Ok, Err, refl, inl, inr, sym, subst, arith}
use Rattle.room_program.specs.Prelude.{Global, is_sound, Rows, Replay, ReplayFault, IsNoBase, IsTold, behind, Ran, RanBy, Replays, Takes, fault_line, script, HasRun, GetsAtMost}
use Rattle.room_program.specs.declared.sink.Sink as sinks
use Rattle.room_program.specs.declared.source.Source as sources

module _ {S W E : Type 0} (source : sources.Ghosts S) (sink : sinks.Ghosts W) (errors_sink : sinks.Ghosts E) (limit : ℕ) (input input' : S) (output output' : W) (errors errors' : E) where
  -- the result of a replay on a base
  abbrev HasRunOn : Result (Unit {0}) ReplayFault → Type 0
  HasRunOn r =
      ((base : Rows Global) × IsTold source input base × (is_sound base ≡ true) × HasRun source sink (script base limit) (behind (source.left input)) (2 ^ 40) input input' output output' r)
      ⊎ ((fault : ReplayFault) × (r ≡ Err fault) × (output' ≡ output) × IsNoBase source (2 ^ 40) input input' fault)

  ran_done : (base : Rows Global) (left : Option (List ℕ)) → errors' ≡ errors → HasRun source sink (script base limit) left (2 ^ 40) input input' output output' (Ok tt)
      → Ran source sink errors_sink base left limit 0 input input' output output' errors errors'
  ran_done base left silent run = record {
    range = omega arith;
    done = λ _. run.0;
    silent = λ _. silent;
    failed = λ e. absurd (omega (arith, e));
    told = λ e. absurd (omega (arith, e));
  }

  ran_failed : (base : Rows Global) (left : Option (List ℕ)) (fault : ReplayFault) → Takes errors_sink errors errors' (fault_line (Replay fault))
      → HasRun source sink (script base limit) left (2 ^ 40) input input' output output' (Err fault) → Ran source sink errors_sink base left limit 1 input input' output output' errors errors'
  ran_failed base left fault told run = record {
    range = omega arith;
    done = λ e. absurd (omega (arith, e));
    silent = λ e. absurd (omega (arith, e));
    failed = λ _. run.0;
    told = λ _. (fault, told, run.1);
  }

  done_on : errors' ≡ errors → HasRunOn (Ok tt) → RanBy source sink errors_sink true limit 0 input input' output output' errors errors'
  done_on silent (inl ran) = inl (ran.0, ran.1, ran.2, ran_done ran.0 (behind (source.left input)) silent ran.3)
  done_on silent (inr none) = absurd (let is = none.1 in cc)

  failed_on : (fault : ReplayFault) → Takes errors_sink errors errors' (fault_line (Replay fault)) → HasRunOn (Err fault) → RanBy source sink errors_sink true limit 1 input input' output output' errors errors'
  failed_on fault told (inl ran) = inl (ran.0, ran.1, ran.2, ran_failed ran.0 (behind (source.left input)) fault told ran.3)
  failed_on fault told (inr none) = inr (record {
    failed = refl;
    unwritten = none.2;
    told = (none.0, subst (λ (f : ReplayFault). Takes errors_sink errors errors' (fault_line (Replay f))) (same (Err fault) none.0 refl none.1) told, none.3);
  })
    where
      same : (r : Result (Unit {0}) ReplayFault) (other : ReplayFault) → r ≡ Err fault → r ≡ Err other → fault ≡ other
      same r other is are = cc

  module _ (r : Result (Unit {0}) ReplayFault) (calls : GetsAtMost source.gets (2 ^ 40) input input') where
    pub replay_done : errors' ≡ errors → r ≡ Ok tt → HasRun source sink (script [] limit) (source.left input) (2 ^ 40) input input' output output' r
        → Replays source sink errors_sink false limit 0 input input' output output' errors errors'
    replay_done silent is run = record {
      ran = ran_done [] (source.left input) silent (subst (λ (x : Result (Unit {0}) ReplayFault). HasRun source sink (script [] limit) (source.left input) (2 ^ 40) input input' output output' x) is run);
      calls = calls;
    }

    pub replay_failed : (status : ℕ) (fault : ReplayFault) → status ≡ 1 → Takes errors_sink errors errors' (fault_line (Replay fault)) → r ≡ Err fault
        → HasRun source sink (script [] limit) (source.left input) (2 ^ 40) input input' output output' r → Replays source sink errors_sink false limit status input input' output output' errors errors'
    replay_failed status fault one told is run =
        subst (λ (n : ℕ). Replays source sink errors_sink false limit n input input' output output' errors errors') (sym one)
        (record {
          ran = ran_failed [] (source.left input) fault told (subst (λ (x : Result (Unit {0}) ReplayFault). HasRun source sink (script [] limit) (source.left input) (2 ^ 40) input input' output output' x) is run);
          calls = calls;
        })

    pub replay_done_on : errors' ≡ errors → r ≡ Ok tt → HasRunOn r → Replays source sink errors_sink true limit 0 input input' output output' errors errors'
    replay_done_on silent is run = record { ran = done_on silent (subst HasRunOn is run); calls = calls }

    pub replay_failed_on : (status : ℕ) (fault : ReplayFault) → status ≡ 1 → Takes errors_sink errors errors' (fault_line (Replay fault)) → r ≡ Err fault → HasRunOn r
        → Replays source sink errors_sink true limit status input input' output output' errors errors'
    replay_failed_on status fault one told is run =
        subst (λ (n : ℕ). Replays source sink errors_sink true limit n input input' output output' errors errors') (sym one)
        (record { ran = failed_on fault told (subst HasRunOn is run); calls = calls })
