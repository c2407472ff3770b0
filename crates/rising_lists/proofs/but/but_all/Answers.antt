use Rattle.std.proofs.Common.{◌+◌, ◌++◌, drop, ap, sym, ◌∙◌, arith}
use Rattle.std.proofs.lemmas.List.{take_rest}
use Rattle.rising_lists.specs.Rising.{but_all}
use Rattle.rising_lists.specs.Facts.Walking.{one_kept, one_left, one_passed, first_at_end, second_at_end}
use Rattle.rising_lists.proofs.but.but_all.Goals as goal
use Rattle.rising_lists.proofs.but.but_all.Goals.{then-loop-at-test+else-place-others, else-loop-at-test}

pub loop-at-preserved-in-Less : goal.loop-at-preserved-in-Less
loop-at-preserved-in-Less g c =
    let l = c.loop-at in
    let xs = c.args.values.now in
    let ys = c.args.others.now in
    let kept = one_kept g.V.Ord.cmp g.met.V.Ord.total xs ys c.requires.values c.requires.others l.at l.place c.index-values-at.result c.index-others-place.result (omega arith) (omega arith)
    c.index-values-at.is c.index-others-place.is l.kept.items (but_all g.V.Ord.cmp xs ys) l.invariant.2 (sym c.in-Less.ensures) in
    (omega arith, omega arith, ap (λ k. k ++ but_all g.V.Ord.cmp (drop (l.at + 1) xs) (drop l.place ys)) c.in_ok-push-in-Less.ensures.items ∙ kept)

pub loop-at-preserved-in-Equal : goal.loop-at-preserved-in-Equal
loop-at-preserved-in-Equal g c =
    let l = c.loop-at in
    let xs = c.args.values.now in
    let ys = c.args.others.now in (
      omega arith,
      omega arith,
      one_left g.V.Ord.cmp g.met.V.Ord.total xs ys c.requires.values c.requires.others l.at l.place c.index-values-at.result c.index-others-place.result (omega arith) (omega arith)
          c.index-values-at.is c.index-others-place.is l.kept.items (but_all g.V.Ord.cmp xs ys) l.invariant.2 (sym c.in-Equal.ensures),
    )

pub loop-at-preserved : goal.loop-at-preserved
loop-at-preserved g c =
    let l = c.loop-at in
    let xs = c.args.values.now in
    let ys = c.args.others.now in (
      omega arith,
      omega arith,
      one_passed g.V.Ord.cmp g.met.V.Ord.total xs ys c.requires.values c.requires.others l.at l.place c.index-values-at.result c.index-others-place.result (omega arith) (omega arith)
          c.index-values-at.is c.index-others-place.is l.kept.items (but_all g.V.Ord.cmp xs ys) l.invariant.2 (sym c.in-Greater.ensures),
    )

pub returns : goal.returns
returns g c =
    let l = c.loop-at in
    let xs = c.args.values.now in
    let ys = c.args.others.now in
    let all = c.in_ok-extend_from_slice.ensures.items ∙ ap (λ rest. l.kept.items ++ rest) (take_rest xs l.at) in
    elim c.loop-at-test.branch [
      | then-loop-at-test+else-place-others w ↦
          all ∙ ap (λ rest. l.kept.items ++ rest) (sym (second_at_end g.V.Ord.cmp xs ys l.at l.place (omega (arith, w.if-place-others.false)))) ∙ l.invariant.2
      | else-loop-at-test w ↦
          all ∙ ap (λ rest. l.kept.items ++ rest) (sym (first_at_end g.V.Ord.cmp xs ys l.at l.place (omega (arith, w.loop-at-test.false)))) ∙ l.invariant.2
    ]
