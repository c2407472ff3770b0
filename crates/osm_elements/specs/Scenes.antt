-- Names, texts and tags of the examples.
use Rattle.std.specs.Prelude.{ℕ, ⊤, List, [], ◌∷◌, map, pos, negsuc, codes, replicate, flat_map}
use Rattle.std.specs.List.{range_with_len}
use Rattle.osm_elements.specs.declared.name.Name.{Name}
use Rattle.osm_elements.specs.NameTexts.{named}
use Rattle.osm_elements.specs.TagRows.{Pairs}
use Rattle.osm_elements.specs.declared.name.Kind.TheVariants as kinds

-- the allocator, which no definition looks at
abbrev pub Any : Type 0
Any = ⊤

abbrev pub n-1 : Name
n-1 = named kinds.Node (negsuc 0) tt

abbrev pub n-2 : Name
n-2 = named kinds.Node (negsuc 1) tt

abbrev pub n5 : Name
n5 = named kinds.Node (pos 5) tt

abbrev pub w-7 : Name
w-7 = named kinds.Way (negsuc 6) tt

abbrev pub w5 : Name
w5 = named kinds.Way (pos 5) tt

abbrev pub r5 : Name
r5 = named kinds.Relation (pos 5) tt

-- the letter e with an acute accent, which has two bytes, n times
abbrev pub accents : ℕ → List ℕ
accents n = flat_map (λ (x : ℕ). 195 ∷ 169 ∷ []) (replicate n 0)

-- a tag with a value, and one with an empty value
abbrev pub path : List ℕ × List ℕ
path = (codes "highway", codes "path")

abbrev pub unnamed : List ℕ × List ℕ
unnamed = (codes "name", [])

abbrev pub two_tags : Pairs
two_tags = path ∷ unnamed ∷ []

-- 1,000 tags with empty values, and keys of two characters each
abbrev pub thousand_tags : Pairs
thousand_tags = flat_map (λ i. map (λ j. (i ∷ j ∷ [], [])) (range_with_len 48 40)) (range_with_len 48 25)
