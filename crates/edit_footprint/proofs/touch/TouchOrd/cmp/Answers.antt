use Rattle.std.proofs.Common.{◌≡◌, true, false, refl, sym, ap, ◌∙◌, rules, int_cmp, is_eq, nat_cmp, Ordering, Less, Equal, Greater}
use Rattle.edit_footprint.specs.Prelude.{int_cmp_is, ordering_then, kind_order_is, kind_eq_is, kind_rank, access_rank, touch_cmp}
use Rattle.osm_elements.specs.NameOrder.{name_cmp}
use Rattle.osm_elements.specs.contracts.name.KindPartialEq.TheImpl as kind_equality
use Rattle.edit_footprint.proofs.touch.TouchOrd.cmp.Goals as goal

-- the first ordering that is not equality decides
by_kinds : (k i p : Ordering) → is_eq k ≡ false → k ≡ ordering_then (ordering_then k i) p
by_kinds Less i p e = refl
by_kinds Equal i p e = absurd (cc)
by_kinds Greater i p e = refl

by_ids : (k i p : Ordering) → is_eq k ≡ true → is_eq i ≡ false → i ≡ ordering_then (ordering_then k i) p
by_ids Equal Less p e f = refl
by_ids Equal Equal p e f = absurd (cc)
by_ids Equal Greater p e f = refl
by_ids Less i p e f = absurd (cc)
by_ids Greater i p e f = absurd (cc)

by_accesses : (k i p : Ordering) → is_eq k ≡ true → is_eq i ≡ true → p ≡ ordering_then (ordering_then k i) p
by_accesses Equal Equal p e f = refl
by_accesses Equal Less p e f = absurd (cc)
by_accesses Equal Greater p e f = absurd (cc)
by_accesses Less i p e f = absurd (cc)
by_accesses Greater i p e f = absurd (cc)

pub returns-then-ne : goal.returns-then-ne
unfolding name_cmp
returns-then-ne c =
    let a = c.self.inside in
    let b = c.other.inside in
    let other : (kind_equality.ghosts).eq a.kind b.kind ≡ false = search rules in
    c.cmp.ensures ∙ kind_order_is a.kind b.kind
    ∙ by_kinds (nat_cmp (kind_rank a.kind) (kind_rank b.kind)) (int_cmp a.id b.id) (nat_cmp (access_rank a.access) (access_rank b.access)) (sym (kind_eq_is a.kind b.kind) ∙ other)
    ∙ (λ i. touch_cmp (c.self.view_is i) (c.other.view_is i))

pub returns-then-self-other : goal.returns-then-self-other
unfolding name_cmp
returns-then-self-other c =
    let a = c.self.inside in
    let b = c.other.inside in
    let same : (kind_equality.ghosts).eq a.kind b.kind ≡ true = search rules in
    let above : Greater ≡ int_cmp a.id b.id = int_cmp_is a.id b.id Greater (search rules) in
    above ∙ by_ids (nat_cmp (kind_rank a.kind) (kind_rank b.kind)) (int_cmp a.id b.id) (nat_cmp (access_rank a.access) (access_rank b.access)) (sym (kind_eq_is a.kind b.kind) ∙ same) (sym (ap is_eq above))
    ∙ (λ i. touch_cmp (c.self.view_is i) (c.other.view_is i))

pub returns-then-self-other-2 : goal.returns-then-self-other-2
unfolding name_cmp
returns-then-self-other-2 c =
    let a = c.self.inside in
    let b = c.other.inside in
    let same : (kind_equality.ghosts).eq a.kind b.kind ≡ true = search rules in
    let below : Less ≡ int_cmp a.id b.id = int_cmp_is a.id b.id Less (search rules) in
    below ∙ by_ids (nat_cmp (kind_rank a.kind) (kind_rank b.kind)) (int_cmp a.id b.id) (nat_cmp (access_rank a.access) (access_rank b.access)) (sym (kind_eq_is a.kind b.kind) ∙ same) (sym (ap is_eq below))
    ∙ (λ i. touch_cmp (c.self.view_is i) (c.other.view_is i))

pub returns : goal.returns
unfolding name_cmp
returns c =
    let a = c.self.inside in
    let b = c.other.inside in
    let same : (kind_equality.ghosts).eq a.kind b.kind ≡ true = search rules in
    let level : Equal ≡ int_cmp a.id b.id = int_cmp_is a.id b.id Equal (search rules) in
    c.cmp-2.ensures ∙ (λ i. nat_cmp (c.rank.ensures i) (c.rank-2.ensures i))
    ∙ by_accesses (nat_cmp (kind_rank a.kind) (kind_rank b.kind)) (int_cmp a.id b.id) (nat_cmp (access_rank a.access) (access_rank b.access)) (sym (kind_eq_is a.kind b.kind) ∙ same) (sym (ap is_eq level))
    ∙ (λ i. touch_cmp (c.self.view_is i) (c.other.view_is i))
