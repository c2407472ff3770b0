use Rattle.std.proofs.Common.{refl, subst, sym, ◌∙◌}
use Rattle.rising_lists.proofs.lists.RisingLists.take_out.Goals as goal
use Rattle.rising_lists.specs.Facts.Rising.{IsRising-but}
use Rattle.rising_lists.specs.Facts.Rows.{changed, ended, keeps_lists, loses, none_is, rising_found, untouched}
use Rattle.rising_lists.specs.Rising.{IsRising}

pub take_out-requires : goal.take_out-requires
take_out-requires g c = rising_found c.args.self.now.kept c.args.key.now _ c.in-Some.ensures.value

pub invariant_of-self : goal.invariant_of-self
invariant_of-self g c =
    let w = c.take_out.new.self in
    let row = changed g.met.K.Ord.total c.args.self.now.kept c.args.key.now w c.in-Some.ensures.value (c.get_mut.follows.holds w).0 in
    record { kept = keeps_lists g.met.K.Ord.total (ended g.met.K.Ord.total row c.remove.ensures.entries) c.args.self.now.kept tt refl }

pub invariant_of-self-else-is_empty : goal.invariant_of-self-else-is_empty
invariant_of-self-else-is_empty g c =
    let w = c.take_out.new.self in
    let row = changed g.met.K.Ord.total c.args.self.now.kept c.args.key.now w c.in-Some.ensures.value (c.get_mut.follows.holds w).0 in
    let rises = rising_found c.args.self.now.kept c.args.key.now _ c.in-Some.ensures.value in
    record {
      kept = keeps_lists g.met.K.Ord.total row c.args.self.now.kept (subst (IsRising g.V.Ord.cmp) (sym c.take_out.ensures) (IsRising-but g.V.Ord.cmp c.args.value.now c.in-Some.list.now rises))
          (sym c.is_empty.ensures ∙ c.if-is_empty.false);
    }

pub returns-then-is_empty : goal.returns-then-is_empty
returns-then-is_empty g c =
    let w = c.take_out.new.self in
    let row = changed g.met.K.Ord.total c.args.self.now.kept c.args.key.now w c.in-Some.ensures.value (c.get_mut.follows.holds w).0 in
    let none = none_is w (sym c.is_empty.ensures ∙ c.if-is_empty.true) in
    loses g.met.K.Ord.total (ended g.met.K.Ord.total row c.remove.ensures.entries) g.met.V.Ord.total c.args.value.now (sym none ∙ c.take_out.ensures)

pub returns-else-is_empty : goal.returns-else-is_empty
returns-else-is_empty g c =
    let w = c.take_out.new.self in
    let row = changed g.met.K.Ord.total c.args.self.now.kept c.args.key.now w c.in-Some.ensures.value (c.get_mut.follows.holds w).0 in
    loses g.met.K.Ord.total row g.met.V.Ord.total c.args.value.now c.take_out.ensures

pub returns-in-None : goal.returns-in-None
returns-in-None g c =
    rw c.get_mut.follows.holds-at-none (loses g.met.K.Ord.total (untouched g.met.K.Ord.total c.args.self.now.kept c.args.key.now c.in-None.ensures.value) g.met.V.Ord.total c.args.value.now refl)
