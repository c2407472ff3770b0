-- The references that begin and cease when an element changes.
use Rattle.std.specs.Prelude.{List}
use Rattle.osm_elements.specs.declared.name.Name.{Name}
use Rattle.osm_refs.specs.declared.change.ReferenceChange.{ReferenceChange}
use Rattle.osm_refs.specs.Rising.{names_but}

-- the change of the references of a name from the names `before` to the names `after`
abbrev pub reference_change : {A : Type 0} → Name → List Name → List Name → ReferenceChange A
reference_change x before after = record { name = x; begun = names_but after before; ceased = names_but before after }
