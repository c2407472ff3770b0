use Rattle.std.proofs.Common.{◌≡◌, ◌++◌, fold}
use Rattle.osm_drafts.specs.Prelude.{into_iter_items, with_row}
use Rattle.osm_drafts.proofs.draft.with_rows.Given as goal

abbrev pub invariant-loop-row : goal.invariant-loop-row
invariant-loop-row g l = record {
  all : l.yielded ++ into_iter_items l.row-iterator ≡ l.fn.rows.items;
  draft_is : l.draft ≡ fold (λ n r. with_row n r.name r.after) l.fn.draft l.yielded;
}
