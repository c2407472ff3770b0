-- The order of names, which is this project's.
use Rattle.std.specs.Ordering.{nat_cmp, int_cmp, on, then_cmp}
use Rattle.std.specs.declared.cmp.Ordering.{Ordering}
use Rattle.osm_elements.specs.declared.name.Name.{Name}
use Rattle.osm_elements.specs.Names.{kind_rank}

-- nodes come before ways, and ways before relations; names of a kind are ordered by id as a number
unfoldable pub name_cmp : Name → Name → Ordering
name_cmp = then_cmp (on (λ n. kind_rank n.kind) nat_cmp) (on (λ n. n.id) int_cmp)
