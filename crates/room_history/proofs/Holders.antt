-- The holders of the active entries follow the journal, and the first entry that they find after an entry is its
-- blocker.
use Rattle.std.proofs.Common.{◌≡◌, ◌<◌, ◌++◌, ◌||◌, ◌⊎◌, inl, inr, ℕ, Bool, true, false, not, List, [], ◌∷◌, Option, Some, None, All, map, nat_eq, nat_lt, refl, cond, sym, ap, ◌∙◌, arith, append-nil, append_assoc, filter, flat_map, fold, is_eq, is_lt, nat_cmp}
use Rattle.std.proofs.lemmas.Bool.Decides.{nat_tests}
use Rattle.std.proofs.lemmas.List.Elements.{All-tail}
use Rattle.std.proofs.lemmas.List.Sums.{fold-append}
use Rattle.room_history.specs.Prelude.{Name, name_cmp, Touch, IsFootprint, does, rivals, but, same_holders, holding-standing, AreHeld-standing, holding-fallen, AreHeld-fallen, apart, both_have, none_lesser, tied, same_number, Held, AreHeld, holding, holds, fallen, IsNext, HoldsOnly, IsFirstAfter, Holdings, without, first_meeting, holders_of}
use Rattle.edit_footprint.specs.Prelude.{does-append, does-more, does-own, in_first, in_second, is_same_touch, one_of, rival_name, same_touches}
use Rattle.rising_lists.specs.Rising.{is_among}
use Rattle.edit_footprint.specs.Holding.{standing as stands}
use Rattle.room_history.proofs.FirstMeeting.{First, none_met, first_met}
use Rattle.room_history.proofs.Growing.{Rise}
use Rattle.room_history.proofs.HeldEntries.{with_touches}
use Rattle.room_history.proofs.RisingNumbers.{is_in, above, is_above, Rise-filter, into_filter, out_of_filter}

-- the numbers of the entries that have a touch
abbrev having : Holdings → Touch → List ℕ
having held q = map (λ h. h.0) (filter (λ h. does h.1 q) held)

abbrev AreRising : Holdings → Type 0
AreRising [] = Unit {0}
AreRising (h ∷ hs) = IsFootprint h.1 × AreRising hs

-- entries that become active in order
abbrev each_stands : Held → Holdings → Held
each_stands holders held = fold (λ (l : Held) h. stands l h.1 h.0) holders held

holding-each : (held : Holdings) → AreRising held → (holders : Held) (q : Touch) → holding (each_stands holders held) q ≡ holding holders q ++ having held q
holding-each [] r holders q = sym (append-nil (holding holders q))
holding-each (h ∷ hs) r holders q = holding-each hs r.1 (stands holders h.1 h.0) q ∙ ap (λ l. l ++ having hs q) (holding-standing holders h.1 h.0 q r.0) ∙ by (does h.1 q)
  where
    by : (b : Bool) → cond b (holding holders q ++ h.0 ∷ []) (holding holders q) ++ having hs q ≡ holding holders q ++ map (λ e. e.0) (cond b (h ∷ filter (λ e. does e.1 q) hs) (filter (λ e. does e.1 q) hs))
    by true = append_assoc (holding holders q) (h.0 ∷ []) (having hs q)
    by false = refl

holding-holders_of : (held : Holdings) → AreRising held → (q : Touch) → holding (holders_of held) q ≡ having held q
holding-holders_of held r q = holding-each held r [] q

AreHeld-each : (held : Holdings) (holders : Held) → AreHeld holders → AreHeld (each_stands holders held)
AreHeld-each [] holders h = h
AreHeld-each (e ∷ es) holders h = AreHeld-each es (stands holders e.1 e.0) (AreHeld-standing holders e.1 e.0 h)

AreHeld-holders_of : (held : Holdings) → AreHeld (holders_of held)
AreHeld-holders_of held = AreHeld-each held [] (tt, tt)

-- one more entry becomes active
pub holders_of-last : (held : Holdings) (s : ℕ) (touches : List Touch) → holders_of (held ++ (s, touches) ∷ []) ≡ stands (holders_of held) touches s
holders_of-last held s touches = fold-append (λ (l : Held) h. stands l h.1 h.0) [] held ((s, touches) ∷ [])

having-without : (held : Holdings) (s : ℕ) (q : Touch) → having (without held s) q ≡ but nat_cmp s (having held q)
having-without [] s q = refl
having-without (h ∷ hs) s q = by (nat_eq h.0 s) refl (does h.1 q) refl (having-without hs s q)
  where
    here : (b : Bool) → nat_eq h.0 s ≡ b → but nat_cmp s (h.0 ∷ having hs q) ≡ cond (not b) (h.0 ∷ but nat_cmp s (having hs q)) (but nat_cmp s (having hs q))
    here b e = ap (λ c. cond (not c) (h.0 ∷ but nat_cmp s (having hs q)) (but nat_cmp s (having hs q))) (tied s h.0 ∙ e)

    by : (a : Bool) → nat_eq h.0 s ≡ a → (b : Bool) → does h.1 q ≡ b → having (without hs s) q ≡ but nat_cmp s (having hs q)
        → having (cond (not a) (h ∷ without hs s) (without hs s)) q ≡ but nat_cmp s (map (λ e. e.0) (cond b (h ∷ filter (λ e. does e.1 q) hs) (filter (λ e. does e.1 q) hs)))
    by true e true f i = i ∙ sym (here true e)
    by true e false f i = i
    by false e true f i =
        ap (λ b. map (λ r. r.0) (cond b (h ∷ filter (λ r. does r.1 q) (without hs s)) (filter (λ r. does r.1 q) (without hs s)))) f
        ∙ ap (λ l. h.0 ∷ l) i ∙ sym (here false e)
    by false e false f i =
        ap (λ b. map (λ r. r.0) (cond b (h ∷ filter (λ r. does r.1 q) (without hs s)) (filter (λ r. does r.1 q) (without hs s)))) f ∙ i

AreRising-without : (held : Holdings) (s : ℕ) → AreRising held → AreRising (without held s)
AreRising-without [] s r = tt
AreRising-without (h ∷ hs) s r = by (nat_eq h.0 s) (AreRising-without hs s r.1)
  where
    by : (b : Bool) → AreRising (without hs s) → AreRising (cond (not b) (h ∷ without hs s) (without hs s))
    by true i = i
    by false i = (r.0, i)

-- one of the entries ceases to be active
pub holders_of-without : (held : Holdings) (s : ℕ) → AreRising held → holders_of (without held s) ≡ fallen (holders_of held) s
holders_of-without held s r =
    let sorted = (AreHeld-holders_of held).0 in
    same_holders (holders_of (without held s)) (fallen (holders_of held) s) (AreHeld-holders_of (without held s)) (AreHeld-fallen (holders_of held) s sorted)
    (λ q. holding-holders_of (without held s) (AreRising-without held s r) q ∙ having-without held s q ∙ ap (but nat_cmp s) (sym (holding-holders_of held r q)) ∙ sym (holding-fallen (holders_of held) s q sorted))

having_below : (held : Holdings) (n : ℕ) (q : Touch) → All (λ h. h.0 < n) held → (m : ℕ) → is_among nat_cmp (having held q) m ≡ true → m < n
having_below [] n q low m there = absurd (cc)
having_below (h ∷ hs) n q low m there = by (does h.1 q) there (having_below hs n q (All-tail (λ e. e.0 < n) _ _ low) m)
  where
    first : h.0 < n
    first = low 0 h (omega arith)

    on : (b : Bool) → is_eq (nat_cmp m h.0) ≡ b → (b || is_among nat_cmp (having hs q) m) ≡ true → (is_among nat_cmp (having hs q) m ≡ true → m < n) → m < n
    on true e f go = let same = same_number m h.0 e in omega (arith, same, first)
    on false e f go = go f

    by : (b : Bool) → is_among nat_cmp (map (λ e. e.0) (cond b (h ∷ filter (λ e. does e.1 q) hs) (filter (λ e. does e.1 q) hs))) m ≡ true → (is_among nat_cmp (having hs q) m ≡ true → m < n) → m < n
    by true f go = on (is_eq (nat_cmp m h.0)) refl f go
    by false f go = go f

-- a number above those of all entries is above those of the holders
pub IsNext-holders_of : (held : Holdings) (n : ℕ) → AreRising held → All (λ h. h.0 < n) held → IsNext (holders_of held) n
IsNext-holders_of held n r low c m there = having_below held n c low m (ap (λ l. is_among nat_cmp l m) (sym (holding-holders_of held r c)) ∙ there)

among_is_in : (ss : List ℕ) (n : ℕ) → is_among nat_cmp ss n ≡ is_in n ss
among_is_in [] n = refl
among_is_in (x ∷ xs) n = λ i. tied n x i || among_is_in xs n i

-- a touch that conflicts with one of a list, and one of the list with which it conflicts
record Conflict (touches : List Touch) (d : Touch) : Type 0 where
  touch : Touch
  own : does touches touch ≡ true
  rival : does (rivals touch) d ≡ true

hunted_from : (touches : List Touch) (d : Touch) → does (flat_map rivals touches) d ≡ true → Conflict touches d
hunted_from [] d there = absurd (cc)
hunted_from (t ∷ ts) d there = by (one_of (does (rivals t) d) (does (flat_map rivals ts) d) (sym (does-append d (rivals t) (flat_map rivals ts)) ∙ there)) (hunted_from ts d)
  where
    by : (does (rivals t) d ≡ true) ⊎ (does (flat_map rivals ts) d ≡ true) → (does (flat_map rivals ts) d ≡ true → Conflict ts d) → Conflict (t ∷ ts) d
    by (inl i) go = record { touch = t; own = does-own t ts; rival = i }
    by (inr i) go = let later = go i in record { touch = later.touch; own = does-more later.touch t ts later.own; rival = later.rival }

hunted_into : (touches : List Touch) (t d : Touch) → does touches t ≡ true → does (rivals t) d ≡ true → does (flat_map rivals touches) d ≡ true
hunted_into [] t d own rival = absurd (cc)
hunted_into (u ∷ us) t d own rival = by (is_same_touch t u) refl own (λ i. hunted_into us t d i rival)
  where
    by : (b : Bool) → is_same_touch t u ≡ b → (b || does us t) ≡ true → (does us t ≡ true → does (flat_map rivals us) d ≡ true) → does (rivals u ++ flat_map rivals us) d ≡ true
    by true e i go = in_first d (rivals u) (flat_map rivals us) (ap (λ z. does (rivals z) d) (sym (same_touches t u e)) ∙ rival)
    by false e i go = in_second d (rivals u) (flat_map rivals us) (go i)

module _ (f : ℕ → List Touch) where
  having-with_touches : (ss : List ℕ) (q : Touch) → having (with_touches f ss) q ≡ filter (λ s. does (f s) q) ss
  having-with_touches [] q = refl
  having-with_touches (s ∷ ss) q = by (does (f s) q) (having-with_touches ss q)
    where
      by : (b : Bool) → having (with_touches f ss) q ≡ filter (λ t. does (f t) q) ss
          → map (λ e. e.0) (cond b ((s, f s) ∷ filter (λ e. does e.1 q) (with_touches f ss)) (filter (λ e. does e.1 q) (with_touches f ss))) ≡ cond b (s ∷ filter (λ t. does (f t) q) ss) (filter (λ t. does (f t) q) ss)
      by true i = ap (λ l. s ∷ l) i
      by false i = i

  pub AreRising-with_touches : (ss : List ℕ) → ((t : ℕ) → is_in t ss ≡ true → IsFootprint (f t)) → AreRising (with_touches f ss)
  AreRising-with_touches [] h = tt
  AreRising-with_touches (s ∷ ss) h = (h s (ap (λ b. b || is_in s ss) itself), AreRising-with_touches ss (λ t e. h t (or_else (nat_eq s t) (is_in t ss) e)))
    where
      itself : nat_eq s s ≡ true
      itself = grind (arith, nat_tests)

      or_else : (a b : Bool) → b ≡ true → (a || b) ≡ true
      or_else true b e = refl
      or_else false b e = e

  module _ (ss : List ℕ) (rises : (t : ℕ) → is_in t ss ≡ true → IsFootprint (f t)) where
    holds_is : (c : Touch) (n : ℕ) → holds (holders_of (with_touches f ss)) c n ≡ is_in n (filter (λ t. does (f t) c) ss)
    holds_is c n = ap (λ l. is_among nat_cmp l n) (holding-holders_of (with_touches f ss) (AreRising-with_touches ss rises) c ∙ having-with_touches ss c) ∙ among_is_in (filter (λ t. does (f t) c) ss) n

    -- an active entry holds exactly its own touches
    out_of : (c : Touch) (n : ℕ) → holds (holders_of (with_touches f ss)) c n ≡ true → (does (f n) c ≡ true) × (is_in n ss ≡ true)
    out_of c n there = out_of_filter (λ t. does (f t) c) n ss (sym (holds_is c n) ∙ there)

    into : (c : Touch) (n : ℕ) → does (f n) c ≡ true → is_in n ss ≡ true → holds (holders_of (with_touches f ss)) c n ≡ true
    into c n own there = holds_is c n ∙ into_filter (λ t. does (f t) c) n ss own there

    pub HoldsOnly-holders_of : (s : ℕ) → HoldsOnly (holders_of (with_touches f ss)) (f s) s
    HoldsOnly-holders_of s c there = (out_of c s there).0

    -- the first entry that the holders find after an entry is the first later entry that meets it
    pub IsFirstAfter-holders_of : (touches : List Touch) (s end : ℕ) → IsFootprint touches → Rise 1 ss end → IsFirstAfter (holders_of (with_touches f ss)) touches s (first_meeting touches (with_touches f (filter (nat_lt s) ss)))
    IsFirstAfter-holders_of touches s end r rise = by (first_meeting touches (with_touches f (filter (nat_lt s) ss))) refl
      where
        behind : List ℕ
        behind = filter (nat_lt s) ss

        by : (o : Option (ℕ × Name)) → first_meeting touches (with_touches f behind) ≡ o → IsFirstAfter (holders_of (with_touches f ss)) touches s o
        by None e = λ n d m.
            let h = out_of d n m.2 in
            let c = hunted_from touches d m.1 in
            apart touches (f n) (none_met touches f behind e n (into_filter (nat_lt s) n ss (above s n m.0) h.1)) c.touch d c.own c.rival h.0
        by (Some b) e =
            let at : First touches f behind b = first_met touches f 1 behind end (Rise-filter (nat_lt s) 1 ss end rise) b e in
            let later = out_of_filter (nat_lt s) b.0 ss at.there in
            let both = both_have touches (f b.0) b.1 at.shares in
            record {
              touch = both.rival;
              name = rival_name both.touch both.rival both.is_rival ∙ both.name;
              meets = (is_above s b.0 later.0, hunted_into touches both.touch both.rival both.in_one both.is_rival, into both.rival b.0 both.in_two later.1);
              none_sooner = λ n d m.
                  let h = out_of d n m.2 in
                  let c = hunted_from touches d m.1 in
                  at.none_before n c.touch d (into_filter (nat_lt s) n ss (above s n m.0) h.1) c.own c.rival h.0;
              none_less = λ d m.
                  let h = out_of d b.0 m.2 in
                  let c = hunted_from touches d m.1 in
                  ap (λ x. is_lt (name_cmp x b.1)) (rival_name c.touch d c.rival) ∙ none_lesser touches (f b.0) b.1 r at.shares c.touch d c.own c.rival h.0;
            }
