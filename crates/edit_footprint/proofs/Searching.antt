-- A walk over the touches of a footprint finds the first entry after a number that holds a touch which conflicts with
-- one of them.
use Rattle.std.proofs.Common.{◌≡◌, ◌+◌, ◌||◌, ◌⊎◌, inl, inr, ◌<◌, ◌≤◌, ℕ, Bool, true, false, T, cond, List, [], ◌∷◌, ◌++◌, Option, Some, None, length, take, nat_lt, slice_get, refl, get_or, leb, sym, ap, subst, ◌∙◌, arith, Bor, find, flat_map, append-nil, append_assoc, option_copied, is_lt, nat_cmp}
use Prim.Native.Nat.{zero, suc}
use Rattle.std.proofs.lemmas.Bool.Decides.{nat_tests}
use Rattle.std.proofs.lemmas.Cmp.{nat_cmp_total}
use Rattle.std.proofs.lemmas.List.{take_more}
use Rattle.std.proofs.lemmas.Grind.{flat_map-append}
use Rattle.std.proofs.lemmas.Option.{slice_get_past, slice_get-get_or}
use Rattle.edit_footprint.specs.Prelude.{IsNonDecreasing, IsPartitionPoint, IsItemAt, Name, name_cmp, Touch, writer_of, reader_of, rivals, is_write, touch_cmp, is_same_touch, does, IsFootprint, touch_cmp_total, same_touches, is_same_touch-itself, does-append, does-own, does-more, rival_name, one_of, below_at, not_less, not_less_itself, first_above, least_above, is_below, Held, holding, holds, Meets, IsFirst, IsFirstHolder}
use Rattle.edit_footprint.specs.Facts.Numbers.{none_above}
use Rattle.osm_elements.specs.Facts.Entries.{first, second}
use Rattle.edit_footprint.specs.Inner.Searching.{sooner, sooner_holder, sooner_rival}
use Rattle.rising_lists.specs.Rising as rising

-- rising numbers do not fall
pub never_falling : (xs : List ℕ) → rising.IsRising nat_cmp xs → IsNonDecreasing xs
never_falling [] r i j d up within = absurd (omega arith)
never_falling (x ∷ xs) r zero zero d up within = omega arith
never_falling (x ∷ xs) r zero (suc j) d up within =
    let low = is_below x (get_or xs j d) (subst (λ o. T (is_lt o)) (sym (below_at nat_cmp nat_cmp_total x xs j d (first _ _ r) (omega arith))) tt) in
    omega (arith, low)
never_falling (x ∷ xs) r (suc i) zero d up within = absurd (omega arith)
never_falling (x ∷ xs) r (suc i) (suc j) d up within = never_falling xs (second _ _ r) i j d (omega arith) (omega arith)

-- the first number above another is at the end of those that are not above it
pub first_at_point : (s : ℕ) (xs : List ℕ) (i : ℕ) → IsPartitionPoint (λ y. leb y s ≡ true) (λ y. leb y s ≡ false) xs i → find (nat_lt s) xs ≡ slice_get xs i
first_at_point s [] i point = refl
first_at_point s (x ∷ xs) zero point =
    let high : nat_lt s x ≡ true = let h = point.1 0 0 (omega arith) (omega arith) in grind (arith, nat_tests) in
    ap (λ b. cond b (Some x) (find (nat_lt s) xs)) high
first_at_point s (x ∷ xs) (suc i) point =
    let low : nat_lt s x ≡ false = let h = point.0 0 0 (omega arith) (omega arith) in grind (arith, nat_tests) in
    ap (λ b. cond b (Some x) (find (nat_lt s) xs)) low
    ∙ first_at_point s xs i (λ k d l h. point.0 (suc k) d (omega arith) (omega arith), λ k d l h. point.1 (suc k) d (omega arith) (omega arith))

-- the item lent at a position, copied
pub lent_at : {X : Type 0} (xs : List X) (i : ℕ) (r : Option (Bor X)) → IsItemAt xs i r → option_copied r ≡ slice_get xs i
lent_at xs i None item = sym (slice_get_past xs i item.3)
lent_at xs i (Some x) item = ap Some (item.3.1 x.now) ∙ sym (slice_get-get_or xs i x.now item.3.0)

-- no touch of the list has a greater name than c
abbrev pub IsPast : List Touch → Touch → Type 0
IsPast cs c = (d : Touch) → does cs d ≡ true → is_lt (name_cmp c.name d.name) ≡ false

-- each of rising touches is past the touches in front of it
pub past_before : (touches : List Touch) (i : ℕ) (c : Touch) → IsFootprint touches → i < length touches → c ≡ get_or touches i c → IsPast (take i touches) c
past_before [] i c r within is d there = absurd (omega arith)
past_before (z ∷ zs) zero c r within is d there = absurd (cc)
past_before (z ∷ zs) (suc i) c r within is d there = by (is_same_touch d z) refl there (past_before zs i c (second _ _ r) (omega arith) is d)
  where
    above : T (is_lt (touch_cmp z c))
    above = subst (λ o. T (is_lt o)) (sym (ap (touch_cmp z) is ∙ below_at touch_cmp touch_cmp_total z zs i c (first _ _ r) (omega arith))) tt

    by : (b : Bool) → is_same_touch d z ≡ b → (b || does (take i zs) d) ≡ true → (does (take i zs) d ≡ true → is_lt (name_cmp c.name d.name) ≡ false) → is_lt (name_cmp c.name d.name) ≡ false
    by true e f go = ap (λ (q : Touch). is_lt (name_cmp c.name q.name)) (same_touches d z e) ∙ not_less z c above
    by false e f go = go f

pub next : (touches : List Touch) (i : ℕ) (c : Touch) → i < length touches → c ≡ get_or touches i c → take (i + 1) touches ≡ take i touches ++ c ∷ []
next touches i c within is = take_more touches i c within ∙ ap (λ z. take i touches ++ z ∷ []) (sym is)

module _ (held : Held) (cs : List Touch) (c : Touch) (seq : ℕ) (past : IsPast cs c) (rises : rising.IsRising nat_cmp (holding held c)) where
  -- an entry that holds one of the touches holds one in front of the last, or the last
  split : {P : Type 0} (n : ℕ) (d : Touch) → (Meets held cs seq n d → P) → (d ≡ c → holds held c n ≡ true → P) → Meets held (cs ++ c ∷ []) seq n d → P
  split {P} n d before last meets = by (does cs d) refl (is_same_touch d c) refl (sym (does-append d cs (c ∷ [])) ∙ meets.1)
    where
      by : (a : Bool) → does cs d ≡ a → (b : Bool) → is_same_touch d c ≡ b → (a || (b || false)) ≡ true → P
      by true e b f g = before (meets.0, e, meets.2)
      by false e true f g = let same = same_touches d c f in last same (ap (λ z. holds held z n) (sym same) ∙ meets.2)
      by false e false f g = absurd (cc)

  more : (n : ℕ) (d : Touch) → Meets held cs seq n d → Meets held (cs ++ c ∷ []) seq n d
  more n d meets = (meets.0, does-append d cs (c ∷ []) ∙ ap (λ b. b || does (c ∷ []) d) meets.1, meets.2)

  here : (n : ℕ) → seq < n → holds held c n ≡ true → Meets held (cs ++ c ∷ []) seq n c
  here n up there = (up, does-append c cs (c ∷ []) ∙ ap (λ b. does cs c || (b || false)) (is_same_touch-itself c) ∙ or_true (does cs c), there)
    where
      or_true : (b : Bool) → (b || (true || false)) ≡ true
      or_true true = refl
      or_true false = refl

  not_less_same : (d : Touch) → d ≡ c → is_lt (name_cmp d.name c.name) ≡ false
  not_less_same d same = ap (λ (q : Touch). is_lt (name_cmp q.name c.name)) same ∙ not_less_itself c.name

  -- one step: the next touch has no number after seq, or a first one
  pub step : (found : Option (ℕ × Name)) → IsFirstHolder held cs seq found → IsFirstHolder held (cs ++ c ∷ []) seq (sooner found (find (nat_lt seq) (holding held c)) c.name)
  step found first = by (find (nat_lt seq) (holding held c)) refl found first
    where
      none : (n : ℕ) (d : Touch) → find (nat_lt seq) (holding held c) ≡ None → Meets held (cs ++ c ∷ []) seq n d → holds held c n ≡ true → ⊥
      none n d e meets there = none_above seq (holding held c) e n meets.0 there

      least : (m n : ℕ) (d : Touch) → find (nat_lt seq) (holding held c) ≡ Some m → Meets held (cs ++ c ∷ []) seq n d → holds held c n ≡ true → m ≤ n
      least m n d e meets there = least_above seq (holding held c) m rises e n meets.0 there

      -- the number of this touch is the first
      alone : (m : ℕ) → find (nat_lt seq) (holding held c) ≡ Some m → ((n : ℕ) (d : Touch) → Meets held cs seq n d → m ≤ n)
          → ((d : Touch) → Meets held cs seq m d → is_lt (name_cmp d.name c.name) ≡ false) → IsFirst held (cs ++ c ∷ []) seq m c.name
      alone m e sooner less =
          let at = first_above seq (holding held c) m e in
          record {
            touch = c;
            name = refl;
            meets = here m at.0 at.1;
            none_sooner = λ n d meets. split n d (sooner n d) (λ same there. least m n d e meets there) meets;
            none_less = λ d meets. split m d (less d) (λ same there. not_less_same d same) meets;
          }

      -- the first of the earlier touches stays the first
      kept : (f : ℕ × Name) → IsFirst held cs seq f.0 f.1 → ((n : ℕ) (d : Touch) → Meets held (cs ++ c ∷ []) seq n d → holds held c n ≡ true → f.0 ≤ n) → IsFirst held (cs ++ c ∷ []) seq f.0 f.1
      kept f first later = record {
        touch = first.touch;
        name = first.name;
        meets = more f.0 first.touch first.meets;
        none_sooner = λ n d meets. split n d (first.none_sooner n d) (λ same there. later n d meets there) meets;
        none_less = λ d meets. split f.0 d (first.none_less d)
            (λ same there. ap (λ (q : Touch). is_lt (name_cmp q.name f.1)) same ∙ ap (λ x. is_lt (name_cmp c.name x)) (sym first.name) ∙ past first.touch first.meets.1) meets;
      }

      chosen : (m : ℕ) (f : ℕ × Name) → find (nat_lt seq) (holding held c) ≡ Some m → IsFirst held cs seq f.0 f.1 → (b : Bool) → nat_lt m f.0 ≡ b
          → IsFirstHolder held (cs ++ c ∷ []) seq (cond b (Some (m, c.name)) (Some f))
      chosen m f e first true below =
          let low : m < f.0 = grind (arith, nat_tests) in
          alone m e (λ n d k. let up = first.none_sooner n d k in omega (arith, up, low)) (λ d k. absurd (let up = first.none_sooner m d k in omega (arith, up, low)))
      chosen m f e first false below =
          let low : f.0 ≤ m = grind (arith, nat_tests) in
          kept f first (λ n d meets there. let up = least m n d e meets there in omega (arith, up, low))

      by : (o : Option ℕ) → find (nat_lt seq) (holding held c) ≡ o → (f : Option (ℕ × Name)) → IsFirstHolder held cs seq f → IsFirstHolder held (cs ++ c ∷ []) seq (sooner f o c.name)
      by None e None first = λ n d meets. split n d (first n d) (λ same there. none n d e meets there) meets
      by None e (Some f) first = kept f first (λ n d meets there. absurd (none n d e meets there))
      by (Some m) e None first = alone m e (λ n d k. absurd (first n d k)) (λ d k. absurd (first m d k))
      by (Some m) e (Some f) first = chosen m f e first (nat_lt m f.0) refl

-- touches in front are past a rival of the next touch, too
hunted_past : (ts : List Touch) (t u : Touch) → u.name ≡ t.name → IsPast ts t → IsPast (flat_map rivals ts) u
hunted_past [] t u e past d there = absurd (cc)
hunted_past (s ∷ ss) t u e past d there =
    by (one_of (does (rivals s) d) (does (flat_map rivals ss) d) (sym (does-append d (rivals s) (flat_map rivals ss)) ∙ there)) (hunted_past ss t u e (λ q j. past q (does-more q s ss j)) d)
  where
    by : (does (rivals s) d ≡ true) ⊎ (does (flat_map rivals ss) d ≡ true) → (does (flat_map rivals ss) d ≡ true → is_lt (name_cmp u.name d.name) ≡ false) → is_lt (name_cmp u.name d.name) ≡ false
    by (inl i) go = (λ k. is_lt (name_cmp (e k) (rival_name s d i k))) ∙ past s (does-own s ss)
    by (inr i) go = go i

-- two rivals of one touch have the same name
past_more : (ts : List Touch) (t u : Touch) → u.name ≡ t.name → IsPast ts u → IsPast (ts ++ t ∷ []) u
past_more ts t u e past d there = by (one_of (does ts d) (does (t ∷ []) d) (sym (does-append d ts (t ∷ [])) ∙ there))
  where
    by : (does ts d ≡ true) ⊎ (does (t ∷ []) d ≡ true) → is_lt (name_cmp u.name d.name) ≡ false
    by (inl i) = past d i
    by (inr i) = own (is_same_touch d t) refl i
      where
        own : (b : Bool) → is_same_touch d t ≡ b → (b || false) ≡ true → is_lt (name_cmp u.name d.name) ≡ false
        own true f j = (λ k. is_lt (name_cmp (e k) ((same_touches d t f k).name))) ∙ not_less_itself t.name
        own false f j = absurd (cc)

pub next_rivals : (touches : List Touch) (i : ℕ) (t : Touch) → i < length touches → t ≡ get_or touches i t → flat_map rivals (take (i + 1) touches) ≡ flat_map rivals (take i touches) ++ rivals t
next_rivals touches i t within is =
    ap (flat_map rivals) (next touches i t within is) ∙ flat_map-append rivals (take i touches) (t ∷ []) ∙ ap (λ l. flat_map rivals (take i touches) ++ l) (append-nil (rivals t))

-- one step: over the rivals of the next touch
pub step_rivals : (held : Held) (hunted : List Touch) (t : Touch) (seq : ℕ) → ((u : Touch) → u.name ≡ t.name → IsPast hunted u) → ((u : Touch) → rising.IsRising nat_cmp (holding held u))
    → (found : Option (ℕ × Name)) → IsFirstHolder held hunted seq found → IsFirstHolder held (hunted ++ rivals t) seq (sooner_rival held found t seq)
step_rivals held hunted t seq past rises found first = by (is_write t.access)
  where
    one : IsFirstHolder held (hunted ++ writer_of t ∷ []) seq (sooner_holder held found (writer_of t) seq)
    one = step held hunted (writer_of t) seq (past (writer_of t) refl) (rises (writer_of t)) found first

    two : IsFirstHolder held ((hunted ++ writer_of t ∷ []) ++ reader_of t ∷ []) seq (sooner_holder held (sooner_holder held found (writer_of t) seq) (reader_of t) seq)
    two =
        step held (hunted ++ writer_of t ∷ []) (reader_of t) seq (past_more hunted (writer_of t) (reader_of t) refl (past (reader_of t) refl)) (rises (reader_of t))
        (sooner_holder held found (writer_of t) seq) one

    by : (b : Bool) → IsFirstHolder held (hunted ++ writer_of t ∷ cond b (reader_of t ∷ []) []) seq
        (cond b (sooner_holder held (sooner_holder held found (writer_of t) seq) (reader_of t) seq) (sooner_holder held found (writer_of t) seq))
    by true = subst (λ l. IsFirstHolder held l seq (sooner_holder held (sooner_holder held found (writer_of t) seq) (reader_of t) seq)) (append_assoc hunted (writer_of t ∷ []) (reader_of t ∷ [])) two
    by false = one

pub hunted_before : (touches : List Touch) (i : ℕ) (t : Touch) → IsFootprint touches → i < length touches → t ≡ get_or touches i t → (u : Touch) → u.name ≡ t.name → IsPast (flat_map rivals (take i touches)) u
hunted_before touches i t rises within is u e = hunted_past (take i touches) t u e (past_before touches i t rises within is)
