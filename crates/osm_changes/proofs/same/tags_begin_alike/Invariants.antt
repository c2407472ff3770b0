use Rattle.std.proofs.Common.{◌≡◌, map, drop}
use Rattle.osm_changes.specs.Prelude.{tag_pair, are_same_tags}
use Rattle.osm_changes.proofs.same.tags_begin_alike.Given as goal

abbrev pub invariant-loop-place : goal.invariant-loop-place
invariant-loop-place g l = are_same_tags (map tag_pair l.one) (map tag_pair l.other) ≡ are_same_tags (map tag_pair (drop l.place l.one)) (map tag_pair (drop l.place l.other))
