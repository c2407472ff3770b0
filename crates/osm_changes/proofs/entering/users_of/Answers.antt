use Rattle.std.proofs.Common.{◌≡◌, ◌++◌, ◌∷◌, [], map, sym, ap, subst, ◌∙◌, rules, append_assoc, append-nil}
use Rattle.std.proofs.lemmas.List.{map-append}
use Rattle.osm_changes.specs.Prelude.{put_all, put_all_is, AreInOrder, Element, Name, Table, references_at, table_of}
use Rattle.osm_changes.proofs.RowsNoted.{refers_to_nothing, table_with_row}
use Rattle.osm_changes.proofs.entering.users_of.Goals as goal

pub loop-name-init : goal.loop-name-init
loop-name-init g c = record { all = search rules; users_are = c.new-users.ensures }

pub enter_row-requires : goal.enter_row-requires
enter_row-requires g c =
    let done = map (λ r. (r.0.now, r.1.now)) c.loop-name.yielded in
    let whole = sym c.loop-name.invariant.all ∙ ap (λ k. done ++ k) c.in-Some.ensures.steps in
    ap (λ (t : Table). references_at t c.in-Some.name.now) c.loop-name.invariant.users_are
    ∙ refers_to_nothing done c.in-Some.name.now c.in-Some.element.now c.next.new.self (subst (λ m. AreInOrder m) whole c.iter-name-items.ensures.in_order)

pub loop-name-preserved : goal.loop-name-preserved
loop-name-preserved g c =
    let done = map (λ r. (r.0.now, r.1.now)) c.loop-name.yielded in
    let row : Name × Element _ = (c.in-Some.name.now, c.in-Some.element.now) in
    let more = map-append (λ r. (r.0.now, r.1.now)) c.loop-name.yielded ((c.in-Some.name, c.in-Some.element) ∷ []) in
    record {
      all = ap (λ rs. rs ++ c.next.new.self) more ∙ append_assoc done (row ∷ []) c.next.new.self
          ∙ ap (λ k. done ++ k) (sym c.in-Some.ensures.steps) ∙ c.loop-name.invariant.all;
      users_are = table_with_row done row.0 row.1 c.loop-name.users c.enter_row.new.users c.loop-name.invariant.users_are c.in_ok-enter_row.ensures
          ∙ ap (λ rs. table_of (put_all [] rs)) (sym more);
    }

pub returns : goal.returns
returns g c =
    let done = map (λ r. (r.0.now, r.1.now)) c.loop-name.yielded in
    let whole : done ≡ c.args.rows.now = sym (append-nil done) ∙ ap (λ k. done ++ k) (sym c.in-None.ensures.steps.0) ∙ c.loop-name.invariant.all in
    c.loop-name.invariant.users_are
    ∙ ap (λ rs. table_of (put_all [] rs)) whole ∙ ap table_of (put_all_is c.args.rows.now c.iter-name-items.ensures.in_order)
