use Rattle.std.proofs.Common.{◌++◌, [], ◌∷◌, ap, ◌∙◌}
use Rattle.std.specs.Map.{lookup}
use Rattle.indexmap.proofs.CallerLemmas.{insert_entry-new}
use Rattle.room_stacks.specs.Inner.SpentIds.{Spent, is_key}
use Rattle.room_stacks.proofs.spent_ids.SpentIds.spend.Goals as goal

pub returns : goal.returns
returns g c =
    let free = ap (λ (s : Spent). lookup (is_key c.args.author c.args.id) s.works) c.self.view_is ∙ c.requires.unspent in
    c.in-Ok.ensures.entries
    ∙ insert_entry-new (λ j k. is_key j.author j.id k) c.self.inside.works (record { id = c.args.id; author = c.args.author }) c.args.work free
    ∙ ap (λ (s : Spent). s.works ++ (record { id = c.args.id; author = c.args.author }, c.args.work) ∷ []) c.self.view_is
