use Rattle.std.proofs.Common.{◌≡◌, None, Some, ap, rules, subst, sym}
use Rattle.std.specs.BTreeMap.{get}
use Rattle.rising_lists.proofs.lists.RisingLists.add.Goals as goal
use Rattle.rising_lists.specs.Facts.Rows.{OnErr-map, OnOk-map, add_keeps, entered, filled_found, gains, keeps_lists, rising_found, same_lists}
use Rattle.rising_lists.specs.Lists.{has_none}
use Rattle.rising_lists.specs.Rising.{IsRising}

pub add-requires : goal.add-requires
add-requires g c =
    let was : Some c.into_mut.result.now ≡ get g.K.Ord.cmp c.args.self.now.lists c.args.key.now = search rules in
    rising_found c.args.self.now.kept c.args.key.now _ was

pub invariant_of-self-in-Occupied : goal.invariant_of-self-in-Occupied
invariant_of-self-in-Occupied g c =
    let kept = c.args.self.now.kept in
    let was : Some c.into_mut.result.now ≡ get g.K.Ord.cmp c.args.self.now.lists c.args.key.now = search rules in
    let row = entered g.met.K.Ord.total kept c.args.key.now c.add.new.self was (search rules) in
    let keeps = add_keeps c.add.result g.V.Ord.cmp g.met.V.Ord.total c.args.value c.into_mut.result.now c.add.new.self c.add.ensures.ok c.add.ensures.err (rising_found kept c.args.key.now _ was)
    (filled_found kept c.args.key.now _ was) in
    record { kept = keeps_lists g.met.K.Ord.total row kept keeps.0 keeps.1 }

pub returns-in-Occupied-clause-ok : goal.returns-in-Occupied-clause-ok
returns-in-Occupied-clause-ok g c =
    let was : Some c.into_mut.result.now ≡ get g.K.Ord.cmp c.args.self.now.lists c.args.key.now = search rules in
    let row = entered g.met.K.Ord.total c.args.self.now.kept c.args.key.now c.add.new.self was (search rules) in
    OnOk-map c.add.result (gains g.met.K.Ord.total row g.met.V.Ord.total c.args.value) c.add.ensures.ok

pub returns-in-Occupied-clause-err : goal.returns-in-Occupied-clause-err
returns-in-Occupied-clause-err g c =
    let was : Some c.into_mut.result.now ≡ get g.K.Ord.cmp c.args.self.now.lists c.args.key.now = search rules in
    let row = entered g.met.K.Ord.total c.args.self.now.kept c.args.key.now c.add.new.self was (search rules) in
    OnErr-map c.add.result (same_lists g.met.K.Ord.total row g.met.V.Ord.total) c.add.ensures.err

pub invariant_of-self-in-Vacant : goal.invariant_of-self-in-Vacant
invariant_of-self-in-Vacant g c =
    let was : None ≡ get g.K.Ord.cmp c.args.self.now.lists c.args.key.now = search rules in
    let row = entered g.met.K.Ord.total c.args.self.now.kept c.args.key.now c.one.result was (search rules) in
    record { kept = keeps_lists g.met.K.Ord.total row c.args.self.now.kept (subst (IsRising g.V.Ord.cmp) (sym c.one.ensures) tt) (ap has_none c.one.ensures) }

pub returns-in-Vacant-clause-ok : goal.returns-in-Vacant-clause-ok
returns-in-Vacant-clause-ok g c =
    let was : None ≡ get g.K.Ord.cmp c.args.self.now.lists c.args.key.now = search rules in
    gains g.met.K.Ord.total (entered g.met.K.Ord.total c.args.self.now.kept c.args.key.now c.one.result was (search rules)) g.met.V.Ord.total c.args.value c.one.ensures
