use Rattle.std.proofs.Common.{Option, Some, None, Bor, option_map, ◌≡◌, ◌∙◌, ap, refl}
use Rattle.json.specs.Value.{value_view}
use Rattle.json_values.specs.Views.{data_of, view}
use Rattle.json_values.proofs.Trees.{get_is}
use Rattle.json_values.proofs.look.field.Goals as goal

pub returns : goal.returns
returns c = seen c.get.result ∙ ap (option_map data_of) c.get.ensures ∙ get_is c.args.key.now (value_view c.args.value.now)
  where
    seen : (o : Option (Bor _)) → option_map (λ v. view v.now) o ≡ option_map data_of (option_map (λ v. value_view v.now) o)
    seen None = refl
    seen (Some v) = refl
