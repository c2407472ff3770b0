use Rattle.std.proofs.Common.{◌≡◌, ◌≢◌, ℤ, pos, ◌∙◌, rules}
use Rattle.std.proofs.lemmas.Int.{to_z-of_z}
use Rattle.osm_changes.specs.Prelude.{w64, Kind, Name, same_name, Cell, Part}
use Rattle.osm_changes.proofs.cell.Cell.of.Goals as goal

-- a cell of a kind and an id is the cell of the name with this kind and id
of_parts : (name : Name) (part : Part) (kind : Kind) (id : ℤ) (not_zero : id ≢ pos 0)
    → kind ≡ name.kind → id ≡ name.id
    → ◌≡◌ {A = Cell} (record { name = record { kind = kind; id = id; not_zero = not_zero }; part = part })
    (record { name = name; part = part })
of_parts name part kind id not_zero kinds ids = λ i. record {
  name = same_name (record { kind = kind; id = id; not_zero = not_zero }) name kinds ids i;
  part = part;
}

pub returns : goal.returns
returns c =
    let ids = to_z-of_z w64 c.id.result (search rules) ∙ c.id.ensures in
    of_parts c.args.name c.args.part _ _ _ c.kind.ensures ids
