use Rattle.std.proofs.Common.{◌≡◌, Bool, true, false, refl, sym, ap, ◌∙◌, arith, rules, int_cmp, is_eq, nat_cmp, Ordering, Less, Equal, Greater}
use Rattle.osm_elements.specs.Prelude.{int_cmp_is, ordering_then, kind_order_is, kind_eq_is, kind_rank}
use Rattle.osm_elements.specs.NameOrder.{name_cmp}
use Rattle.osm_elements.specs.contracts.name.KindPartialEq.TheImpl as kind_equality
use Rattle.osm_elements.proofs.name.NameOrd.cmp.Goals as goal

first_decides : (o p : Ordering) → is_eq o ≡ false → o ≡ ordering_then o p
first_decides Less p e = refl
first_decides Equal p e = absurd (cc)
first_decides Greater p e = refl

second_decides : (o p : Ordering) → is_eq o ≡ true → p ≡ ordering_then o p
second_decides Less p e = absurd (cc)
second_decides Equal p e = refl
second_decides Greater p e = absurd (cc)

pub returns-then-ne : goal.returns-then-ne
unfolding name_cmp
returns-then-ne c =
    let a = c.args.self.now in
    let b = c.args.other.now in
    let other : (kind_equality.ghosts).eq a.kind b.kind ≡ false = search rules in
    c.cmp.ensures ∙ kind_order_is a.kind b.kind
    ∙ first_decides (nat_cmp (kind_rank a.kind) (kind_rank b.kind)) (int_cmp a.id b.id) (sym (kind_eq_is a.kind b.kind) ∙ other)

pub returns-then-self-other : goal.returns-then-self-other
unfolding name_cmp
returns-then-self-other c =
    let a = c.args.self.now in
    let b = c.args.other.now in
    let same : (kind_equality.ghosts).eq a.kind b.kind ≡ true = search rules in
    int_cmp_is a.id b.id Greater (search rules)
    ∙ second_decides (nat_cmp (kind_rank a.kind) (kind_rank b.kind)) (int_cmp a.id b.id) (sym (kind_eq_is a.kind b.kind) ∙ same)

pub returns-then-self-other-2 : goal.returns-then-self-other-2
unfolding name_cmp
returns-then-self-other-2 c =
    let a = c.args.self.now in
    let b = c.args.other.now in
    let same : (kind_equality.ghosts).eq a.kind b.kind ≡ true = search rules in
    int_cmp_is a.id b.id Less (search rules)
    ∙ second_decides (nat_cmp (kind_rank a.kind) (kind_rank b.kind)) (int_cmp a.id b.id) (sym (kind_eq_is a.kind b.kind) ∙ same)

pub returns : goal.returns
unfolding name_cmp
returns c =
    let a = c.args.self.now in
    let b = c.args.other.now in
    let same : (kind_equality.ghosts).eq a.kind b.kind ≡ true = search rules in
    int_cmp_is a.id b.id Equal (search rules)
    ∙ second_decides (nat_cmp (kind_rank a.kind) (kind_rank b.kind)) (int_cmp a.id b.id) (sym (kind_eq_is a.kind b.kind) ∙ same)
