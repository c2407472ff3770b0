use Rattle.std.proofs.Common.{rules, tests, ap, ◌∙◌, find}
use Rattle.std.proofs.lemmas.Iterator.{YieldsList-from_slice}
use Rattle.std.proofs.lemmas.Iterator.Search.{find_from_yields_List}
use Rattle.edit_footprint.specs.Prelude.{Touch, does, rivals, list_any}
use Rattle.edit_footprint.proofs.footprint.Footprint.conflict_with.Goals as goal

pub returns : goal.returns
returns g c =
    find_from_yields_List (λ (t : Touch). list_any (does c.args.other.now) (rivals t)) _ _ c.find.result c.find.ensures.ran (YieldsList-from_slice c.self.inside.touches.items cc) (λ x b q k. search (rules, tests))
    ∙ ap (find (λ (t : Touch). list_any (does c.args.other.now) (rivals t))) c.self.view_is
