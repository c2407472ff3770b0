-- The members of a relation. (OpenStreetMap wiki, "Elements": a relation is an ordered list of members, each with a
-- role. The limit on a role is this project's.)
use Rattle.std.specs.Prelude.{ℕ, Bool, not, List, T}
use Rattle.std.specs.List.{list_all}
use Rattle.osm_elements.specs.declared.name.Name.{Name}
use Rattle.osm_elements.specs.declared.member.Member.{Member}
use Rattle.osm_elements.specs.Texts.{is_long}

-- a member's name and the bytes of its role
abbrev pub member_pair : {A : Type 0} → Member A → Name × List ℕ
member_pair m = (m.name, m.role)

-- each role has at most 255 characters
abbrev pub are_members : List (Name × List ℕ) → Bool
are_members members = list_all (λ m. not (is_long m.1)) members

-- the condition that every list of members keeps
abbrev pub AreMembers : List (Name × List ℕ) → Type 0
AreMembers members = T (are_members members)
