use Rattle.std.proofs.Common.{◌≡◌, ◌++◌, ◌∷◌, [], map, refl, subst, sym, ap, ◌∙◌, rules, append_assoc, append-nil}
use Rattle.std.proofs.lemmas.List.{map-append}
use Rattle.edit_simple.specs.Prelude.{Element, Name, AreSound, all_sound, first_unsound, sound_one_more}
use Rattle.edit_simple.proofs.soundness.first_unsound.Goals as goal

pub loop-name-init : goal.loop-name-init
loop-name-init g c = record { all = search rules; sound = refl }

pub loop-name-preserved : goal.loop-name-preserved
loop-name-preserved g c =
    let done = map (λ r. (r.0.now, r.1.now)) c.loop-name.yielded in
    let row : Name × Element _ = (c.in-Some.name.now, c.in-Some.element.now) in
    let more = map-append (λ r. (r.0.now, r.1.now)) c.loop-name.yielded ((c.in-Some.name, c.in-Some.element) ∷ []) in
    let whole : done ++ row ∷ c.next.new.self ≡ c.args.map.now = ap (λ k. done ++ k) (sym c.in-Some.ensures.steps) ∙ c.loop-name.invariant.all in
    record {
      all = ap (λ rs. rs ++ c.next.new.self) more ∙ append_assoc done (row ∷ []) c.next.new.self ∙ whole;
      sound = subst (λ rs. AreSound c.args.map.now rs) (sym more)
          (sound_one_more c.args.map.now done row.0 row.1 c.next.new.self c.iter-name-items.ensures.in_order c.requires (sym whole) c.row_fault.ensures.made
          (sym c.row_fault.ensures.fault ∙ c.in_default.is) c.loop-name.invariant.sound);
    }

pub returns-clause-none : goal.returns-clause-none
returns-clause-none g c =
    let done = map (λ r. (r.0.now, r.1.now)) c.loop-name.yielded in
    let whole : done ≡ c.args.map.now = sym (append-nil done) ∙ ap (λ k. done ++ k) (sym c.in-None.ensures.steps.0) ∙ c.loop-name.invariant.all in
    λ _. all_sound c.args.map.now done c.iter-name-items.ensures.in_order whole c.loop-name.invariant.sound

pub returns-in-Some-row_fault-clause-some : goal.returns-in-Some-row_fault-clause-some
returns-in-Some-row_fault-clause-some g c =
    let done = map (λ r. (r.0.now, r.1.now)) c.loop-name.yielded in
    let whole : done ++ (c.in-Some.name.now, c.in-Some.element.now) ∷ c.next.new.self ≡ c.args.map.now = ap (λ k. done ++ k) (sym c.in-Some.ensures.steps) ∙ c.loop-name.invariant.all in
    first_unsound c.args.map.now done c.in-Some.name.now c.in-Some.element.now c.next.new.self c.in-Some-row_fault.why c.iter-name-items.ensures.in_order (sym whole)
    (sym c.row_fault.ensures.fault ∙ c.in-Some-row_fault.is) c.loop-name.invariant.sound
