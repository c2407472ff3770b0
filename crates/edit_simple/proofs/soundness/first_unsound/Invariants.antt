use Rattle.std.proofs.Common.{◌≡◌, ◌++◌, map}
use Rattle.edit_simple.specs.Facts.Soundness.{AreSound}
use Rattle.edit_simple.proofs.soundness.first_unsound.Given as goal

abbrev pub invariant-loop-name : goal.invariant-loop-name
invariant-loop-name g l = record {
  all : map (λ r. (r.0.now, r.1.now)) l.yielded ++ l.name-iterator ≡ l.fn.map;
  sound : AreSound l.fn.map (map (λ r. (r.0.now, r.1.now)) l.yielded);
}
