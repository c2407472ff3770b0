-- Replaces one name with another.
use Rattle.std.specs.Prelude.{ℕ, List, map, if◌then◌else◌}
use Rattle.osm_elements.specs.Maps.{is_same}
use Rattle.osm_elements.specs.declared.name.Name.{Name}

-- y in place of x; any other name is unchanged
abbrev pub renamed : Name → Name → Name → Name
renamed x y n = if is_same x n then y else n

-- each member that names x names y, and keeps its role
abbrev pub renamed_members : Name → Name → List (Name × List ℕ) → List (Name × List ℕ)
renamed_members x y members = map (λ e. (renamed x y e.0, e.1)) members
