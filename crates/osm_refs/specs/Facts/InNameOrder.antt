-- A statement about the derived order of names is one about the defined order.
use Rattle.std.proofs.Common.{sym, subst}
use Rattle.osm_elements.specs.Prelude.{Ordering, name_cmp_is, name_cmp}
use Rattle.osm_elements.specs.declared.name.Name.{Name}
use Rattle.osm_elements.specs.contracts.name.NameOrd.TheImpl as name_order

pub in_name_order : (P : (Name → Name → Ordering) → Type 0) → P (name_order.ghosts).cmp → P name_cmp
in_name_order P h = subst P name_cmp_is h

pub in_derived_order : (P : (Name → Name → Ordering) → Type 0) → P name_cmp → P (name_order.ghosts).cmp
in_derived_order P h = subst P (sym name_cmp_is) h
