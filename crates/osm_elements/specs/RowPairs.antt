-- A row as a pair.
use Rattle.osm_elements.specs.declared.name.Name.{Name}
use Rattle.osm_elements.specs.declared.element.Element.{Element}
use Rattle.osm_elements.specs.declared.map.Row.{Row}

abbrev pub row_pair : {A : Type 0} → Row A → Name × Element A
row_pair r = (r.name, r.element)
