use Rattle.std.proofs.Common.{map, rules}
use Rattle.std.proofs.lemmas.Fn.{always_returns_same}
use Rattle.osm_elements.specs.Prelude.{keyed_pair, text_cmp, sorted_rows}
use Rattle.osm_elements.proofs.KeyedSearch.{search_is_place}
use Rattle.osm_elements.proofs.keyed.place_of.Goals as goal

pub returns : goal.returns
returns g c =
    let facts = c.binary_search_by.ensures in
    let by_key = facts.position (λ t. text_cmp t.key c.args.key.now) (always_returns_same _ _ _ (λ x r f' called. search rules)) in
    search_is_place c.args.key.now c.args.rows.now c.binary_search_by.result (sorted_rows g.V.KeyedValue.is_kept (map keyed_pair c.args.rows.now) c.requires) facts.bound by_key
