use Rattle.std.proofs.Common.{◌≡◌, All, map, sym, subst, rules}
use Rattle.std.proofs.lemmas.List.Elements.{All-map}
use Rattle.room_mirror.specs.Prelude.{Cell, rest_at, HasId, HasIds}
use Rattle.room_mirror.proofs.brought.action_has_ids.Goals as goal

pub returns-in-Move : goal.returns-in-Move
returns-in-Move c =
    let same : c.as_slice.result.now ≡ c.in-Move.names = search rules in
    subst HasIds (sym c.in-Move.is) (All-map HasId (λ (c : Cell). c.name) (map rest_at c.in-Move.names) (All-map (λ (c : Cell). HasId c.name) rest_at c.in-Move.names (subst (All HasId) same c.names_have_ids.ensures)))
