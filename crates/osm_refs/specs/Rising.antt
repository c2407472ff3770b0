-- Lists of names that rise, each once.
use Rattle.std.specs.Prelude.{not, List, filter}
use Rattle.osm_elements.specs.Prelude.{is_among, name_cmp}
use Rattle.osm_elements.specs.declared.name.Name.{Name}
use Rattle.rising_lists.specs.Rising as lists

-- the names strictly rise
abbrev pub IsRising : List Name → Type 0
IsRising names = lists.IsRising name_cmp names

-- the names that the second list does not contain
abbrev pub names_but : List Name → List Name → List Name
names_but names others = filter (λ e. not (is_among others e)) names
