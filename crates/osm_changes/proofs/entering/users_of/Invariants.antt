use Rattle.std.proofs.Common.{◌≡◌, [], ◌++◌, map}
use Rattle.osm_changes.specs.Prelude.{put_all, table_of}
use Rattle.osm_changes.proofs.entering.users_of.Given as goal

abbrev pub invariant-loop-name : goal.invariant-loop-name
invariant-loop-name g l = record {
  all : map (λ r. (r.0.now, r.1.now)) l.yielded ++ l.name-iterator ≡ l.fn.rows;
  users_are : l.users ≡ table_of (put_all [] (map (λ r. (r.0.now, r.1.now)) l.yielded));
}
