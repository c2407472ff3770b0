use Rattle.std.proofs.Common.{rules, Vec, ap, sym, ◌∙◌, arith, ◌≡◌, ◌<◌, ◌∷◌, ◌++◌, [], true, false, length, map, not, take, filter}
use Rattle.std.proofs.lemmas.List.{map_more, take_all}
use Rattle.osm_changes.specs.Prelude.{RowAfter, ChangedRow, name_set, reference_change, row_references}
use Rattle.osm_changes.proofs.Parting.{next_in, next_out}
use Rattle.osm_changes.proofs.division.divide.Goals.{then-begins+in_ok-of+in_ok-push-2, else-begins+in_ok-of-2+in_ok-push-3}
use Rattle.osm_changes.specs.Inner.Applying.{after_of, begins}
use Rattle.osm_changes.specs.Inner.References.{row_reference_change}
use Rattle.osm_changes.proofs.division.divide.Goals as goal

pub returns-clause-others : goal.returns-clause-others
returns-clause-others g c = c.loop-row.invariant.others_are ∙ ap (λ rows. map after_of (filter (λ (r : ChangedRow _). not (begins r)) rows)) (take_all c.loop-row.row-index c.args.rows.now (omega arith))

pub loop-row-preserved : goal.loop-row-preserved
loop-row-preserved g c =
    let rows = c.args.rows.now in
    let i = c.loop-row.row-index in
    let row = c.row-item.result in
    let l = c.loop-row.invariant in
    let more : i < length rows = omega arith in
    let f = row_reference_change in
    let change : c.in_ok-change.change ≡ f row = c.in_ok-change.ensures
    ∙ (λ k. reference_change row.name (name_set (row_references (c.as_ref.ensures.value k))) (name_set (row_references (c.as_ref-in-loop-row.ensures.value k)))) in
    let changes = c.in_ok-push.ensures.items ∙ ap (λ cs. cs ++ c.in_ok-change.change ∷ []) l.changes_are ∙ ap (λ x. map f (take i rows) ++ x ∷ []) change
    ∙ ap (λ (r : ChangedRow _). map f (take i rows) ++ f r ∷ []) c.row-item.is ∙ sym (map_more f rows i row more) in
    elim c.if-begins.branch [
      | then-begins+in_ok-of+in_ok-push-2 w ↦
          let is : begins row ≡ true = sym c.begins.ensures ∙ w.if-begins.true in
          let pushed : w.push-then-begins.new.self.items ≡ c.loop-row.new.items ++ w.in_ok-of.field-0 ∷ [] = search rules in
          record {
            new_are = ap (λ (v : Vec (RowAfter _) _). v.items) w.new-is ∙ next_in after_of begins rows i row more c.row-item.is _ _ _ is w.in_ok-of.ensures pushed l.new_are;
            others_are = ap (λ (v : Vec (RowAfter _) _). v.items) w.others-is ∙ next_out after_of (λ r. not (begins r)) rows i row more c.row-item.is _ (ap not is) l.others_are;
            changes_are = changes;
          }
      | else-begins+in_ok-of-2+in_ok-push-3 w ↦
          let is : begins row ≡ false = sym c.begins.ensures ∙ w.if-begins.false in
          let pushed : w.push-else-begins.new.self.items ≡ c.loop-row.others.items ++ w.in_ok-of-2.field-0 ∷ [] = search rules in
          record {
            new_are = ap (λ (v : Vec (RowAfter _) _). v.items) w.new-is ∙ next_out after_of begins rows i row more c.row-item.is _ is l.new_are;
            others_are = ap (λ (v : Vec (RowAfter _) _). v.items) w.others-is ∙ next_in after_of (λ r. not (begins r)) rows i row more c.row-item.is _ _ _ (ap not is) w.in_ok-of-2.ensures pushed l.others_are;
            changes_are = changes;
          }
    ]
