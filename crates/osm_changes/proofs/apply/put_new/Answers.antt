use Rattle.std.proofs.Common.{◌+◌, ◌<◌, length, take, ◌∙◌, ap, arith, sym, fold}
use Rattle.std.proofs.lemmas.Grind.{drop_more_same}
use Rattle.std.proofs.lemmas.List.{drop-set-lt, take-map}
use Rattle.std.proofs.Math.Seq.{map-set_same}
use Rattle.osm_changes.specs.Prelude.{rows_but, RowAfter, with_row}
use Rattle.osm_changes.proofs.Applying.{entered_one_more, waits_still, taken_out_again}
use Rattle.osm_changes.proofs.RowsEntered.{names_entered}
use Rattle.osm_changes.proofs.apply.put_new.Goals as goal

pub loop-place-preserved : goal.loop-place-preserved
loop-place-preserved g c =
    let rs = c.args.new.items in
    let now = c.loop-place.new.items in
    let i = c.loop-place.place in
    let d = c.index_mut.result.now in
    let within : i < length rs = omega (arith, c.loop-place-test.true, c.len-place-end.ensures) in
    let name = ap (λ (r : RowAfter _). r.name) (c.index.ensures ∙ waits_still rs now i d _ within c.loop-place.invariant.waiting) in
    let element = c.take-element.ensures.value ∙ ap (λ (r : RowAfter _). r.element) (c.index_mut.ensures.value ∙ waits_still rs now i d _ within c.loop-place.invariant.waiting) in
    record {
      rows_are = c.in_default.ensures.ok ∙ (λ j. with_row (c.loop-place.invariant.rows_are j) (name j) (element j)) ∙ sym (entered_one_more rs i d c.args.rows.now within);
      waiting = drop-set-lt (i + 1) now i _ (omega arith) ∙ drop_more_same now rs i c.loop-place.invariant.waiting;
      names = map-set_same (λ (r : RowAfter _). r.name) now i _ _ (ap (λ (r : RowAfter _). r.name) c.index_mut.ensures.value) ∙ c.loop-place.invariant.names;
    }

pub returns-in-Err-clause-err : goal.returns-in-Err-clause-err
returns-in-Err-clause-err g c =
    let rs = c.args.new.items in
    let now = c.loop-place.new.items in
    let i = c.loop-place.place in
    let all = ap names_entered c.deref.ensures.value ∙ map-set_same (λ (r : RowAfter _). r.name) now i _ _ (ap (λ (r : RowAfter _). r.name) c.index_mut.ensures.value) ∙ c.loop-place.invariant.names in
    let done = sym (take-map (λ (r : RowAfter _). r.name) i c.deref.result.now) ∙ ap (take i) all ∙ take-map (λ (r : RowAfter _). r.name) i rs in
    c.take_out.ensures ∙ (λ j. fold (λ n x. rows_but x n) ((c.in-Err.ensures.err ∙ c.loop-place.invariant.rows_are) j) (done j))
    ∙ taken_out_again c.args.rows.now rs i c.requires.order c.requires.new
