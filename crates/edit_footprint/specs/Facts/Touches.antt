-- The order of touches, and lists of touches that rise, each once. The touches in such a list determine it.
use Rattle.std.proofs.Common.{get_or, sym, ap, ◌∙◌}
use Rattle.std.specs.Prelude.{◌≡◌, ◌||◌, ◌&&◌, Bool, true, false, ℕ, T, List, [], ◌∷◌, ◌++◌, map, refl, fold}
use Rattle.std.proofs.lemmas.Cmp.{on_total, then_total, nat_cmp_total}
use Rattle.std.proofs.lemmas.List.Folds.{list_any-append}
use Rattle.osm_refs.specs.Prelude.{IsTotalOrder, IsAntisymmetric, tied_itself, nat_cmp-IsAntisymmetric, below_all, is_eq, nat_cmp, ordering_then, Ordering, Less, Equal, Greater, name_cmp, is_same, is_among, name_cmp_total, name_cmp-IsAntisymmetric, same, bare_rows, with_value}
use Rattle.osm_elements.specs.declared.name.Name.{Name}
use Rattle.rising_lists.specs.Facts.Sorted.{first, second, less}
use Rattle.edit_footprint.specs.declared.access.Access.{Access}
use Rattle.edit_footprint.specs.declared.access.Access.TheVariants.{ReadsPresence, WritesPresence, ReadsTags, WritesTags, ReadsRest, WritesRest}
use Rattle.edit_footprint.specs.Touches.{Touch, presence_read, access_rank, touch_cmp, is_same_touch, touch_input, does, touch_set, IsFootprint}
use Rattle.rising_lists.specs.Facts.Rising as rising

pub touch_cmp_total : IsTotalOrder touch_cmp
touch_cmp_total = then_total (on_total (λ (t : Touch). t.name) name_cmp_total)
    (on_total (λ (t : Touch). access_rank t.access) nat_cmp_total)

-- the access at a position
abbrev access_at : ℕ → Access
access_at i = get_or (ReadsPresence ∷ WritesPresence ∷ ReadsTags ∷ WritesTags ∷ ReadsRest ∷ []) i WritesRest

at_its_rank : (a : Access) → access_at (access_rank a) ≡ a
at_its_rank ReadsPresence = refl
at_its_rank WritesPresence = refl
at_its_rank ReadsTags = refl
at_its_rank WritesTags = refl
at_its_rank ReadsRest = refl
at_its_rank WritesRest = refl

equal_rank : (a b : Access) → access_rank a ≡ access_rank b → a ≡ b
equal_rank a b e = sym (at_its_rank a) ∙ ap access_at e ∙ at_its_rank b

then_equal : (o p : Ordering) → ordering_then o p ≡ Equal → (o ≡ Equal) × (p ≡ Equal)
then_equal Less p e = absurd (cc)
then_equal Equal p e = (refl, e)
then_equal Greater p e = absurd (cc)

pub touch_cmp-IsAntisymmetric : IsAntisymmetric touch_cmp
touch_cmp-IsAntisymmetric t u e =
    let both = then_equal (name_cmp t.name u.name) (nat_cmp (access_rank t.access) (access_rank u.access)) e in
    let names = name_cmp-IsAntisymmetric t.name u.name both.0 in
    let accesses = equal_rank t.access u.access (nat_cmp-IsAntisymmetric (access_rank t.access) (access_rank u.access) both.1) in
    λ i. record { name = names i; access = accesses i }

pub same_touches : (t u : Touch) → is_same_touch t u ≡ true → t ≡ u
same_touches t u e = touch_cmp-IsAntisymmetric t u (same (touch_cmp t u) e)

pub touches_hash_alike : (t u : Touch) → is_same_touch t u ≡ true → touch_input t ≡ touch_input u
touches_hash_alike t u e = ap touch_input (same_touches t u e)

pub is_same_touch-itself : (t : Touch) → is_same_touch t t ≡ true
is_same_touch-itself t = ap is_eq (tied_itself touch_cmp_total t)

pub touch_either_way : (t u : Touch) → is_same_touch t u ≡ is_same_touch u t
touch_either_way t u = by (is_same_touch t u) refl (is_same_touch u t) refl
  where
    by : (a : Bool) → is_same_touch t u ≡ a → (b : Bool) → is_same_touch u t ≡ b → a ≡ b
    by true e true f = refl
    by true e false f = sym (is_same_touch-itself u) ∙ ap (λ z. is_same_touch u z) (sym (same_touches t u e)) ∙ f
    by false e true f = sym e ∙ ap (λ z. is_same_touch t z) (same_touches u t f) ∙ is_same_touch-itself t
    by false e false f = refl

-- ---- touches with the same access, or with different ones

tied : (o p : Ordering) → is_eq p ≡ true → is_eq (ordering_then o p) ≡ is_eq o
tied Less p e = refl
tied Equal p e = e
tied Greater p e = refl

parted : (o p : Ordering) → is_eq p ≡ false → is_eq (ordering_then o p) ≡ false
parted Less p e = refl
parted Equal p e = e
parted Greater p e = refl

-- the same access to two names
pub same_access : (x y : Name) (a : Access) → is_same_touch (record { name = x; access = a }) (record { name = y; access = a }) ≡ is_same x y
same_access x y a = tied (name_cmp x y) (nat_cmp (access_rank a) (access_rank a)) (ap is_eq (tied_itself nat_cmp_total (access_rank a)))

-- two accesses with different ranks
pub other_access : (x y : Name) (a b : Access) → is_eq (nat_cmp (access_rank a) (access_rank b)) ≡ false → is_same_touch (record { name = x; access = a }) (record { name = y; access = b }) ≡ false
other_access x y a b e = parted (name_cmp x y) (nat_cmp (access_rank a) (access_rank b)) e

-- a touch is a presence read of x if it is one, and its name is x
pub same_presence_read : (t : Touch) (x : Name) → is_same_touch t (presence_read x) ≡ (is_same_touch t (presence_read t.name) && is_same t.name x)
same_presence_read t x = by (name_cmp t.name x) (nat_cmp (access_rank t.access) 0) (name_cmp t.name t.name) (tied_itself name_cmp_total t.name)
  where
    none : (b : Bool) → false ≡ (b && false)
    none true = refl
    none false = refl

    all : (b : Bool) → b ≡ (b && true)
    all true = refl
    all false = refl

    by : (o p q : Ordering) → q ≡ Equal → is_eq (ordering_then o p) ≡ (is_eq (ordering_then q p) && is_eq o)
    by o p Less e = absurd (cc)
    by o p Greater e = absurd (cc)
    by Less p Equal e = none (is_eq p)
    by Greater p Equal e = none (is_eq p)
    by Equal p Equal e = all (is_eq p)

-- ---- the touches in a list

pub does-append : (t : Touch) (xs ys : List Touch) → does (xs ++ ys) t ≡ (does xs t || does ys t)
does-append t xs ys = list_any-append (λ u. is_same_touch t u) xs ys

-- a list has its first touch, and keeps its touches when it gets longer
pub does-own : (t : Touch) (ts : List Touch) → does (t ∷ ts) t ≡ true
does-own t ts = ap (λ b. b || does ts t) (is_same_touch-itself t)

pub does-more : (t u : Touch) (ts : List Touch) → does ts t ≡ true → does (u ∷ ts) t ≡ true
does-more t u ts i = by (is_same_touch t u)
  where
    by : (b : Bool) → (b || does ts t) ≡ true
    by true = refl
    by false = i

pub in_first : (t : Touch) (one two : List Touch) → does one t ≡ true → does (one ++ two) t ≡ true
in_first t one two i = does-append t one two ∙ ap (λ b. b || does two t) i

pub in_second : (t : Touch) (one two : List Touch) → does two t ≡ true → does (one ++ two) t ≡ true
in_second t one two i = does-append t one two ∙ ap (λ b. does one t || b) i ∙ always (does one t)
  where
    always : (b : Bool) → (b || true) ≡ true
    always true = refl
    always false = refl

-- rising lists with the same touches are equal
pub same_footprints : (xs ys : List Touch) → IsFootprint xs → IsFootprint ys → ((t : Touch) → does xs t ≡ does ys t) → xs ≡ ys
same_footprints = rising.same_rising touch_cmp touch_cmp_total touch_cmp-IsAntisymmetric

or_false : (b : Bool) → (b || false) ≡ b
or_false true = refl
or_false false = refl

swapped : (a b c : Bool) → ((a || b) || c) ≡ (b || (a || c))
swapped true true c = refl
swapped true false c = refl
swapped false b c = refl

does-fold : (t : Touch) (set touches : List Touch) → does (fold (λ s u. with_value touch_cmp u s) set touches) t ≡ (does set t || does touches t)
does-fold t set [] = sym (or_false (does set t))
does-fold t set (u ∷ us) =
    does-fold t (with_value touch_cmp u set) us
    ∙ ap (λ b. b || does us t) (rising.is_among-with_value touch_cmp touch_cmp_total u set t)
    ∙ swapped (is_same_touch t u) (does set t) (does us t)

pub does-touch_set : (t : Touch) (touches : List Touch) → does (touch_set touches) t ≡ does touches t
does-touch_set t touches = does-fold t [] touches

IsFootprint-fold : (set touches : List Touch) → IsFootprint set → IsFootprint (fold (λ s u. with_value touch_cmp u s) set touches)
IsFootprint-fold set [] h = h
IsFootprint-fold set (u ∷ us) h = IsFootprint-fold (with_value touch_cmp u set) us (rising.IsRising-with_value touch_cmp touch_cmp_total u set h)

pub IsFootprint-touch_set : (touches : List Touch) → IsFootprint (touch_set touches)
IsFootprint-touch_set touches = IsFootprint-fold [] touches tt

-- a rising list with the touches of a second list is the set of that list
pub same_as_touch_set : (xs touches : List Touch) → IsFootprint xs → ((t : Touch) → does xs t ≡ does touches t) → xs ≡ touch_set touches
same_as_touch_set xs touches h is = same_footprints xs (touch_set touches) h (IsFootprint-touch_set touches) (λ t. is t ∙ sym (does-touch_set t touches))

-- lists with the same touches have the same set
pub same_touch_set : (xs ys : List Touch) → ((t : Touch) → does xs t ≡ does ys t) → touch_set xs ≡ touch_set ys
same_touch_set xs ys h = same_as_touch_set (touch_set xs) ys (IsFootprint-touch_set xs) (λ t. does-touch_set t xs ∙ h t)

-- a list does not have a touch that is below all of its touches
pub does-none_above : (t : Touch) (ts : List Touch) → T (below_all touch_cmp t (bare_rows ts)) → does ts t ≡ false
does-none_above t [] h = refl
does-none_above t (u ∷ us) h = ap (λ o. is_eq o || does us t) (less _ (first _ _ h)) ∙ does-none_above t us (second _ _ h)

-- the rest of a rising list does not have its first touch
pub first_not_in_rest : (t : Touch) (ts : List Touch) → IsFootprint (t ∷ ts) → does ts t ≡ false
first_not_in_rest t ts h = does-none_above t ts (first _ _ h)

-- a list of one access to each of some names has the access to a name exactly if the names have it
pub does-each : (a : Access) (names : List Name) (e : Name) → does (map (λ x. record { name = x; access = a }) names) (record { name = e; access = a }) ≡ is_among names e
does-each a [] e = refl
does-each a (x ∷ xs) e = λ i. same_access e x a i || does-each a xs e i
