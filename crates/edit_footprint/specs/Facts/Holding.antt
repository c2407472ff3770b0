-- The holders after an entry becomes active or ceases to be, and the uniqueness of the first entry after a number.
use Rattle.std.proofs.Common.{sym, ap, subst, ◌∙◌, arith}
use Rattle.std.specs.Prelude.{◌≡◌, ◌||◌, ℕ, Bool, true, false, not, cond, T, List, [], ◌∷◌, ◌++◌, Option, Some, None, refl}
use Rattle.osm_changes.specs.Prelude.{is_lt, nat_cmp, put, is_sorted, name_cmp, second, has_none, but}
use Rattle.rising_lists.specs.Rising.{is_among}
use Rattle.osm_elements.specs.declared.name.Name.{Name}
use Rattle.edit_footprint.specs.Touches.{Touch, touch_cmp, is_same_touch, does, IsFootprint}
use Rattle.edit_footprint.specs.Facts.Meeting.{neither_less}
use Rattle.edit_footprint.specs.Facts.Numbers.{but-last, but-none, not_among}
use Rattle.edit_footprint.specs.Facts.Touches.{touch_cmp_total, touch_cmp-IsAntisymmetric, same_touches, first_not_in_rest}
use Rattle.edit_footprint.specs.Holding.{Held, AreHeld, holding, IsNext, HoldsOnly, standing, fallen, Meets, IsFirstHolder}
use Rattle.rising_lists.specs.Facts.Tables as tables

-- holders of which each touch has the same numbers are equal
pub same_holders : (one two : Held) → AreHeld one → AreHeld two → ((c : Touch) → holding one c ≡ holding two c) → one ≡ two
same_holders = tables.same_tables touch_cmp touch_cmp_total touch_cmp-IsAntisymmetric

has_none-last : (seq : ℕ) (numbers : List ℕ) → T (not (has_none (numbers ++ seq ∷ [])))
has_none-last seq [] = tt
has_none-last seq (n ∷ ns) = tt

-- an entry becomes active
holding-more : (held : Held) (c : Touch) (seq : ℕ) (q : Touch) → holding (put touch_cmp c (holding held c ++ seq ∷ []) held) q ≡ cond (is_same_touch q c) (holding held q ++ seq ∷ []) (holding held q)
holding-more held c seq q = tables.listed-put touch_cmp touch_cmp_total c (holding held c ++ seq ∷ []) held q ∙ by (is_same_touch q c) refl
  where
    by : (b : Bool) → is_same_touch q c ≡ b → cond b (holding held c ++ seq ∷ []) (holding held q) ≡ cond b (holding held q ++ seq ∷ []) (holding held q)
    by true e = ap (λ z. holding held z ++ seq ∷ []) (sym (same_touches q c e))
    by false e = refl

pub holding-standing : (held : Held) (touches : List Touch) (seq : ℕ) (q : Touch) → IsFootprint touches → holding (standing held touches seq) q ≡ cond (does touches q) (holding held q ++ seq ∷ []) (holding held q)
holding-standing held [] seq q r = refl
holding-standing held (c ∷ cs) seq q r =
    holding-standing (put touch_cmp c (holding held c ++ seq ∷ []) held) cs seq q (second _ _ r) ∙ ap (λ l. cond (does cs q) (l ++ seq ∷ []) l) (holding-more held c seq q) ∙ by (is_same_touch q c) refl (does cs q) refl
  where
    by : (b : Bool) → is_same_touch q c ≡ b → (a : Bool) → does cs q ≡ a
        → cond a (cond b (holding held q ++ seq ∷ []) (holding held q) ++ seq ∷ []) (cond b (holding held q ++ seq ∷ []) (holding held q)) ≡ cond (b || a) (holding held q ++ seq ∷ []) (holding held q)
    by true e true f = absurd (cc (sym f ∙ ap (does cs) (same_touches q c e) ∙ first_not_in_rest c cs r))
    by true e false f = refl
    by false e true f = refl
    by false e false f = refl

pub AreHeld-standing : (held : Held) (touches : List Touch) (seq : ℕ) → AreHeld held → AreHeld (standing held touches seq)
AreHeld-standing held [] seq h = h
AreHeld-standing held (c ∷ cs) seq h =
    AreHeld-standing (put touch_cmp c (holding held c ++ seq ∷ []) held) cs seq (tables.IsTable-put touch_cmp touch_cmp_total c (holding held c ++ seq ∷ []) held (has_none-last seq (holding held c)) h)

-- an entry ceases to be active
pub holding-fallen : (held : Held) (seq : ℕ) (q : Touch) → T (is_sorted touch_cmp held) → holding (fallen held seq) q ≡ but nat_cmp seq (holding held q)
holding-fallen held seq q h = tables.listed-kept touch_cmp touch_cmp_total (but nat_cmp seq) refl held q h

pub AreHeld-fallen : (held : Held) (seq : ℕ) → T (is_sorted touch_cmp held) → AreHeld (fallen held seq)
AreHeld-fallen held seq h = tables.IsTable-kept touch_cmp touch_cmp_total (but nat_cmp seq) refl held h

-- the entry with the greatest number holds only its own touches
pub HoldsOnly-standing : (held : Held) (touches : List Touch) (seq : ℕ) → IsFootprint touches → IsNext held seq → HoldsOnly (standing held touches seq) touches seq
HoldsOnly-standing held touches seq r next c there = by (does touches c) refl
  where
    by : (b : Bool) → does touches c ≡ b → b ≡ true
    by true e = refl
    by false e =
        let same : holding (standing held touches seq) c ≡ holding held c = holding-standing held touches seq c r ∙ ap (λ b. cond b (holding held c ++ seq ∷ []) (holding held c)) e in
        let low = next c seq (ap (λ l. is_among nat_cmp l seq) (sym same) ∙ there) in
        absurd (omega (arith, low))

-- adding an entry and removing it again changes nothing
pub fallen_again : (held : Held) (touches : List Touch) (seq : ℕ) → AreHeld held → IsFootprint touches → IsNext held seq → fallen (standing held touches seq) seq ≡ held
fallen_again held touches seq h r next =
    let stands = AreHeld-standing held touches seq h in
    same_holders (fallen (standing held touches seq) seq) held (AreHeld-fallen (standing held touches seq) seq stands.0) h
    (λ c. holding-fallen (standing held touches seq) seq c stands.0 ∙ ap (but nat_cmp seq) (holding-standing held touches seq c r) ∙ by c (does touches c))
  where
    by : (c : Touch) (b : Bool) → but nat_cmp seq (cond b (holding held c ++ seq ∷ []) (holding held c)) ≡ holding held c
    by c true = but-last seq (holding held c) (next c)
    by c false = but-none seq (holding held c) (not_among seq (holding held c) (next c))

-- there is exactly one first entry after a number
pub just_one : (held : Held) (touches : List Touch) (seq : ℕ) (o p : Option (ℕ × Name)) → IsFirstHolder held touches seq o → IsFirstHolder held touches seq p → o ≡ p
just_one held touches seq None None f g = refl
just_one held touches seq None (Some p) f g = absurd (f p.0 g.touch g.meets)
just_one held touches seq (Some o) None f g = absurd (g o.0 f.touch f.meets)
just_one held touches seq (Some o) (Some p) f g =
    let low = f.none_sooner p.0 g.touch g.meets in
    let high = g.none_sooner o.0 f.touch f.meets in
    let same : o.0 ≡ p.0 = omega (arith, low, high) in
    let name : o.1 ≡ p.1 = neither_less o.1 p.1 (ap (λ x. is_lt (name_cmp x p.1)) (sym f.name) ∙ g.none_less f.touch (subst (λ n. Meets held touches seq n f.touch) same f.meets))
    (ap (λ x. is_lt (name_cmp x o.1)) (sym g.name) ∙ f.none_less g.touch (subst (λ n. Meets held touches seq n g.touch) (sym same) g.meets)) in
    λ i. Some (same i, name i)
