use Rattle.std.proofs.Common.{◌≡◌, ◌<◌, ◌≤◌, length, false, nat_eq, refl, map, inl, arith, rules}
use Rattle.std.proofs.lemmas.List.{length-map}
use Rattle.std.proofs.lemmas.Bool.Decides.{nat_tests}
use Rattle.osm_elements.specs.Prelude.{is_row-made, AreRows-put_over, AreRows-put_new, keyed_pair, set_refusal}
use Rattle.osm_elements.proofs.KeyedPlaces.{found_at, gap_at, over_a_row, new_row, full_refuses, not_refused}
use Rattle.osm_elements.proofs.keyed.KeyedRows.set.Goals as goal

pub index_mut-requires : goal.index_mut-requires
index_mut-requires g c =
    let e = rw (c.as_str-2.ensures.value, c.deref.ensures.value) at c.in-Ok.ensures in
    let l : c.in-Ok.at < length c.self.inside.rows.items = (found_at g.V.KeyedValue.is_kept c.args.key c.self.inside.rows.items c.self.invariant c.in-Ok.at e).in_range in
    search rules

pub invariant_of-self : goal.invariant_of-self
invariant_of-self g c =
    let e = rw (c.as_str-2.ensures.value, c.deref.ensures.value) at c.in-Ok.ensures in
    let found = found_at g.V.KeyedValue.is_kept c.args.key c.self.inside.rows.items c.self.invariant c.in-Ok.at e in
    let some_key : nat_eq (length c.args.key) 0 ≡ false = grind (arith, nat_tests, c.as_str.ensures.value) in
    rw (found.puts c.args.value c.index_mut.result.now c.index_mut.ensures.value)
    (AreRows-put_over g.V.KeyedValue.is_kept (map keyed_pair c.self.inside.rows.items) c.args.key c.args.value c.self.invariant (is_row-made g.V.KeyedValue.is_kept c.args.key c.args.value some_key c.as_str.ensures.short c.keeps.ensures) found.there)

pub returns-in-Ok-clause-ok : goal.returns-in-Ok-clause-ok
returns-in-Ok-clause-ok g c =
    let e = rw (c.as_str-2.ensures.value, c.deref.ensures.value) at c.in-Ok.ensures in
    let found = found_at g.V.KeyedValue.is_kept c.args.key c.self.inside.rows.items c.self.invariant c.in-Ok.at e in
    let some_key : nat_eq (length c.args.key) 0 ≡ false = grind (arith, nat_tests, c.as_str.ensures.value) in
    rw (← c.self.view_is) (over_a_row c.args.key _ some_key found.there, found.puts c.args.value c.index_mut.result.now c.index_mut.ensures.value)

pub insert-requires : goal.insert-requires
insert-requires g c =
    let e = rw (c.as_str-2.ensures.value, c.deref.ensures.value) at c.in-Err.ensures in
    let l : c.in-Err.at ≤ length c.self.inside.rows.items = (gap_at g.V.KeyedValue.is_kept c.args.key c.self.inside.rows.items c.self.invariant c.in-Err.at e).in_range in
    search rules

pub invariant_of-self-in-Err : goal.invariant_of-self-in-Err
invariant_of-self-in-Err g c =
    let e = rw (c.as_str-2.ensures.value, c.deref.ensures.value) at c.in-Err.ensures in
    let gap = gap_at g.V.KeyedValue.is_kept c.args.key c.self.inside.rows.items c.self.invariant c.in-Err.at e in
    let some_key : nat_eq (length c.args.key) 0 ≡ false = grind (arith, nat_tests, c.as_str.ensures.value) in
    let small : length c.self.inside.rows.items < 1000 = search rules in
    rw (c.in_ok-insert-in-Err.ensures.items, gap.puts c.args.value)
    (AreRows-put_new g.V.KeyedValue.is_kept (map keyed_pair c.self.inside.rows.items) c.args.key c.args.value c.self.invariant (is_row-made g.V.KeyedValue.is_kept c.args.key c.args.value some_key c.as_str.ensures.short c.keeps.ensures) (simp length-map small))

pub returns-in_ok-insert-in-Err-clause-ok : goal.returns-in_ok-insert-in-Err-clause-ok
returns-in_ok-insert-in-Err-clause-ok g c =
    let e = rw (c.as_str-2.ensures.value, c.deref.ensures.value) at c.in-Err.ensures in
    let gap = gap_at g.V.KeyedValue.is_kept c.args.key c.self.inside.rows.items c.self.invariant c.in-Err.at e in
    let some_key : nat_eq (length c.args.key) 0 ≡ false = grind (arith, nat_tests, c.as_str.ensures.value) in
    let small : length c.self.inside.rows.items < 1000 = search rules in
    rw (← c.self.view_is, c.in_ok-insert-in-Err.ensures.items) (new_row c.args.key _ some_key gap.none (simp length-map small), gap.puts c.args.value)

pub returns-then-len-ge-MOST_ROWS-clause-err : goal.returns-then-len-ge-MOST_ROWS-clause-err
returns-then-len-ge-MOST_ROWS-clause-err g c =
    let e = rw (c.as_str-2.ensures.value, c.deref.ensures.value) at c.in-Err.ensures in
    let gap = gap_at g.V.KeyedValue.is_kept c.args.key c.self.inside.rows.items c.self.invariant c.in-Err.at e in
    let some_key : nat_eq (length c.args.key) 0 ≡ false = grind (arith, nat_tests, c.as_str.ensures.value) in
    let full : 1000 ≤ length c.self.inside.rows.items = search rules in
    rw (← c.self.view_is) (refl, inl (full_refuses c.args.key _ some_key gap.none (simp length-map full)))

pub returns-in-Ok-clause-named : goal.returns-in-Ok-clause-named
returns-in-Ok-clause-named g c = λ fault is.
    let e = rw (c.as_str-2.ensures.value, c.deref.ensures.value) at c.in-Ok.ensures in
    let found = found_at g.V.KeyedValue.is_kept c.args.key c.self.inside.rows.items c.self.invariant c.in-Ok.at e in
    let some_key : nat_eq (length c.args.key) 0 ≡ false = grind (arith, nat_tests, c.as_str.ensures.value) in
    let rows = map keyed_pair c.self.inside.rows.items in
    not_refused (set_refusal rows c.args.key) fault (over_a_row c.args.key rows some_key found.there) (rw c.self.view_is is)

pub returns-in_ok-insert-in-Err-clause-named : goal.returns-in_ok-insert-in-Err-clause-named
returns-in_ok-insert-in-Err-clause-named g c = λ fault is.
    let e = rw (c.as_str-2.ensures.value, c.deref.ensures.value) at c.in-Err.ensures in
    let gap = gap_at g.V.KeyedValue.is_kept c.args.key c.self.inside.rows.items c.self.invariant c.in-Err.at e in
    let some_key : nat_eq (length c.args.key) 0 ≡ false = grind (arith, nat_tests, c.as_str.ensures.value) in
    let small : length c.self.inside.rows.items < 1000 = search rules in
    let rows = map keyed_pair c.self.inside.rows.items in
    not_refused (set_refusal rows c.args.key) fault (new_row c.args.key rows some_key gap.none (simp length-map small)) (rw c.self.view_is is)

pub returns-in_err-insert-in-Err-clause-named : goal.returns-in_err-insert-in-Err-clause-named
returns-in_err-insert-in-Err-clause-named g c = λ fault is.
    let e = rw (c.as_str-2.ensures.value, c.deref.ensures.value) at c.in-Err.ensures in
    let gap = gap_at g.V.KeyedValue.is_kept c.args.key c.self.inside.rows.items c.self.invariant c.in-Err.at e in
    let some_key : nat_eq (length c.args.key) 0 ≡ false = grind (arith, nat_tests, c.as_str.ensures.value) in
    let small : length c.self.inside.rows.items < 1000 = search rules in
    let rows = map keyed_pair c.self.inside.rows.items in
    not_refused (set_refusal rows c.args.key) fault (new_row c.args.key rows some_key gap.none (simp length-map small)) (rw c.self.view_is is)

pub returns-in_err-insert-in-Err-clause-memory_only_for_new : goal.returns-in_err-insert-in-Err-clause-memory_only_for_new
returns-in_err-insert-in-Err-clause-memory_only_for_new g c = λ _.
    let e = rw (c.as_str-2.ensures.value, c.deref.ensures.value) at c.in-Err.ensures in
    rw (← c.self.view_is) (gap_at g.V.KeyedValue.is_kept c.args.key c.self.inside.rows.items c.self.invariant c.in-Err.at e).none
