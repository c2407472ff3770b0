use Rattle.std.proofs.Common.{◌≡◌, ◌≢◌, ℤ, pos, ◌∙◌, rules}
use Rattle.std.proofs.lemmas.Int.{to_z-of_z}
use Rattle.edit_footprint.specs.Prelude.{w64, Kind, Name, same_name, Access, Touch}
use Rattle.edit_footprint.proofs.touch.Touch.of.Goals as goal

-- a touch of a kind and an id is the touch of the name with this kind and id
of_parts : (name : Name) (access : Access) (kind : Kind) (id : ℤ) (not_zero : id ≢ pos 0)
    → kind ≡ name.kind → id ≡ name.id
    → ◌≡◌ {A = Touch} (record { name = record { kind = kind; id = id; not_zero = not_zero }; access = access })
    (record { name = name; access = access })
of_parts name access kind id not_zero kinds ids = λ i. record {
  name = same_name (record { kind = kind; id = id; not_zero = not_zero }) name kinds ids i;
  access = access;
}

pub returns : goal.returns
returns c =
    let ids = to_z-of_z w64 c.id.result (search rules) ∙ c.id.ensures in
    of_parts c.args.name c.args.access _ _ _ c.kind.ensures ids
