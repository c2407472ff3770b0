-- The length of a history is the number of the entries of its kin, if each entry is one of theirs.
use Rattle.std.proofs.Common.{◌≡◌, ◌≢◌, ◌⊎◌, ℕ, zero, suc, Bool, true, false, cond, ◌+◌, ◌==◌, eq-eqb, ne_eqb, List, [], ◌∷◌, length, All, sym, refl, ap, ◌∙◌, subst, inl, inr, arith, if◌then◌else◌}
use Rattle.std.proofs.lemmas.Bool.{cases_eq}
use Rattle.turn_desk.specs.History.{History, AreApart, IsAmong, entries_by}
use Rattle.room_server.specs.Fronts.{calls_of}
use Rattle.turn_desk.proofs.Lists.{All-head, All-tail}

module _ {E : Type 0} where
  abbrev hits : ℕ → List (ℕ × List E) → ℕ
  hits n [] = 0
  hits n (k ∷ ks) = cond (k.0 == n) (suc zero) zero + hits n ks

  abbrev lengths : List (ℕ × List E) → History E → ℕ
  lengths [] h = 0
  lengths (k ∷ ks) h = length (entries_by k.0 h) + lengths ks h

  one_chosen : (b : Bool) (e : E) (es : List E) → length (if b then e ∷ es else es) ≡ length es + cond b (suc zero) zero
  one_chosen true e es = omega arith
  one_chosen false e es = omega arith

  one_more : (ks : List (ℕ × List E)) (p : ℕ × E) (h : History E) → lengths ks (p ∷ h) ≡ lengths ks h + hits p.0 ks
  one_more [] p h = refl
  one_more (k ∷ ks) p h =
      let here : length (entries_by k.0 (p ∷ h)) ≡ length (entries_by k.0 h) + cond (k.0 == p.0) (suc zero) zero = one_chosen (k.0 == p.0) p.1 (entries_by k.0 h) in
      let rest = one_more ks p h in
      omega (arith, here, rest)

  not_hit : (n : ℕ) (k : ℕ × List E) → k.0 ≢ n → cond (k.0 == n) (suc zero) zero ≡ 0
  not_hit n k apart = rw (ne_eqb k.0 n apart) refl

  hit : (n : ℕ) (k : ℕ × List E) → k.0 ≡ n → cond (k.0 == n) (suc zero) zero ≡ 1
  hit n k same = rw (eq-eqb k.0 n same) refl

  none_hit : (n : ℕ) (ks : List (ℕ × List E)) → All (λ (o : ℕ × List E). o.0 ≢ n) ks → hits n ks ≡ 0
  none_hit n [] apart = refl
  none_hit n (k ∷ ks) apart =
      let here = not_hit n k (All-head (λ (o : ℕ × List E). o.0 ≢ n) k ks apart) in
      let rest = none_hit n ks (All-tail (λ (o : ℕ × List E). o.0 ≢ n) k ks apart) in
      omega (arith, here, rest)

  one_hit : (n : ℕ) (ks : List (ℕ × List E)) → AreApart ks → IsAmong n ks → hits n ks ≡ 1
  one_hit n [] apart among = absurd among
  one_hit n (k ∷ ks) apart (inl is) =
      let here = hit n k (sym is) in
      let rest = none_hit n ks (subst (λ m. All (λ (o : ℕ × List E). o.0 ≢ m) ks) (sym is) apart.0) in
      omega (arith, here, rest)
  one_hit n (k ∷ ks) apart (inr later) = by (one_hit n ks apart.1 later) (cases_eq k.0 n)
    where
      by : hits n ks ≡ 1 → (k.0 ≡ n) ⊎ (k.0 ≢ n) → hits n (k ∷ ks) ≡ 1
      by one (inl same) =
          let none = none_hit n ks (subst (λ m. All (λ (o : ℕ × List E). o.0 ≢ m) ks) same apart.0) in
          absurd (omega (arith, none, one))
      by one (inr other) = let here = not_hit n k other in omega (arith, here, one)

  kept_there : (n : ℕ) (p : ℕ × E) (h : History E) → entries_by n h ≢ [] → entries_by n (p ∷ h) ≢ []
  kept_there n p h some = by (n == p.0)
    where
      by : (b : Bool) → (if b then p.1 ∷ entries_by n h else entries_by n h) ≢ []
      by true = λ none. grind (arith, none)
      by false = some

  own_there : (p : ℕ × E) (h : History E) → entries_by p.0 (p ∷ h) ≢ []
  own_there p h = rw (eq-eqb p.0 p.0 refl) (λ none. grind (arith, none))

  all_counted : (ks : List (ℕ × List E)) → AreApart ks → (h : History E) → ((n : ℕ) → entries_by n h ≢ [] → IsAmong n ks) → length h ≡ lengths ks h
  all_counted ks apart [] among = sym (empty ks)
    where
      empty : (ls : List (ℕ × List E)) → lengths ls [] ≡ 0
      empty [] = refl
      empty (l ∷ ls) = let rest = empty ls in omega (arith, rest)
  all_counted ks apart (p ∷ h) among =
      let rest = all_counted ks apart h (λ n some. among n (kept_there n p h some)) in
      let more = one_more ks p h in
      let one = one_hit p.0 ks apart (among p.0 (own_there p h)) in
      omega (arith, rest, more, one)

  as_known : (ks : List (ℕ × List E)) (h : History E) → All (λ k. entries_by k.0 h ≡ k.1) ks → lengths ks h ≡ calls_of ks
  as_known [] h known = refl
  as_known (k ∷ ks) h known =
      let here = ap (λ (es : List E). length es) (All-head (λ k. entries_by k.0 h ≡ k.1) k ks known) in
      let rest = as_known ks h (All-tail (λ k. entries_by k.0 h ≡ k.1) k ks known) in
      omega (arith, here, rest)

  -- if each entry is one of these numbers', the history is as long as all their calls together
  pub counted : (ks : List (ℕ × List E)) (h : History E) → AreApart ks → All (λ k. entries_by k.0 h ≡ k.1) ks → ((n : ℕ) → entries_by n h ≢ [] → IsAmong n ks) → length h ≡ calls_of ks
  counted ks h apart known among = all_counted ks apart h among ∙ as_known ks h known
