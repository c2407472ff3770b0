-- One more cell: the later of an outcome and of the cell's own value is the outcome over both.
use Rattle.std.proofs.Common.{◌≡◌, ◌||◌, ◌⊎◌, ◌++◌, ◌<◌, ◌≤◌, inl, inr, ℕ, Bool, true, false, List, [], ◌∷◌, Option, Some, None, nat_lt, refl, cond, sym, ap, ◌∙◌, arith}
use Rattle.std.proofs.lemmas.Bool.Decides.{nat_tests}
use Rattle.osm_changes.specs.Prelude.{Name, name_cmp, is_lt, is_same_cell-itself, same_cells, has-append}
use Rattle.osm_changes.specs.Cells.{Cell, has, is_same_cell}
use Rattle.edit_footprint.specs.Facts.Meeting.{not_less_itself}
use Rattle.room_history.specs.Inner.Changers.{IsOutcome, later}

-- a cell of a list with one more is in the list, or is the one
in_list_or_last : (cells : List Cell) (c q : Cell) → has (cells ++ c ∷ []) q ≡ true → (has cells q ≡ true) ⊎ (q ≡ c)
in_list_or_last cells c q h = by (has cells q) refl (is_same_cell q c) refl
  where
    by : (a : Bool) → has cells q ≡ a → (b : Bool) → is_same_cell q c ≡ b → (has cells q ≡ true) ⊎ (q ≡ c)
    by true e b f = inl e
    by false e true f = inr (same_cells q c f)
    by false e false f = absurd (cc (sym h ∙ has-append q cells (c ∷ []) ∙ (λ i. e i || (f i || false))))

in_more : (cells : List Cell) (c q : Cell) → has cells q ≡ true → has (cells ++ c ∷ []) q ≡ true
in_more cells c q h = has-append q cells (c ∷ []) ∙ ap (λ b. b || has (c ∷ []) q) h

last_in : (cells : List Cell) (c : Cell) → has (cells ++ c ∷ []) c ≡ true
last_in cells c = has-append c cells (c ∷ []) ∙ by (has cells c) (ap (λ b. b || false) (is_same_cell-itself c))
  where
    by : (b : Bool) → has (c ∷ []) c ≡ true → (b || has (c ∷ []) c) ≡ true
    by true e = refl
    by false e = e

pub later_outcome : (n : ℕ) (f : Cell → ℕ) (cells : List Cell) (c : Cell) → ((q : Cell) → has cells q ≡ true → is_lt (name_cmp c.name q.name) ≡ false)
    → (o : Option (ℕ × Name)) → IsOutcome n f cells o → IsOutcome n f (cells ++ c ∷ []) (later n o (f c) c.name)
later_outcome n f cells c rise None low = by (nat_lt n (f c)) refl
  where
    by : (b : Bool) → nat_lt n (f c) ≡ b → IsOutcome n f (cells ++ c ∷ []) (cond b (Some (f c, c.name)) None)
    by true e =
        let high : n < f c = grind (arith, nat_tests) in
        record {
          later = high;
          cell = c;
          inside = last_in cells c;
          number = refl;
          name = refl;
          most = λ q i. most high q (in_list_or_last cells c q i);
          least = λ q i s. least high q s (in_list_or_last cells c q i);
        }
      where
        most : n < f c → (q : Cell) → (has cells q ≡ true) ⊎ (q ≡ c) → f q ≤ f c
        most high q (inl i) = let l = low q i in omega (arith, l, high)
        most high q (inr s) = let same : f q ≡ f c = ap f s in omega (arith, same)

        least : n < f c → (q : Cell) → f q ≡ f c → (has cells q ≡ true) ⊎ (q ≡ c) → is_lt (name_cmp q.name c.name) ≡ false
        least high q s (inl i) = let l = low q i in absurd (omega (arith, l, high, s))
        least high q s (inr t) = ap (λ (z : Cell). is_lt (name_cmp z.name c.name)) t ∙ not_less_itself c.name
    by false e = λ q i. go q (in_list_or_last cells c q i)
      where
        go : (q : Cell) → (has cells q ≡ true) ⊎ (q ≡ c) → f q ≤ n
        go q (inl i) = low q i
        go q (inr s) = let same : f q ≡ f c = ap f s in let l : f c ≤ n = grind (arith, nat_tests) in omega (arith, same, l)
later_outcome n f cells c rise (Some b) h = by (nat_lt b.0 (f c)) refl
  where
    by : (t : Bool) → nat_lt b.0 (f c) ≡ t → IsOutcome n f (cells ++ c ∷ []) (cond t (Some (f c, c.name)) (Some b))
    by true e =
        let high : b.0 < f c = grind (arith, nat_tests) in
        record {
          later = let l = h.later in omega (arith, l, high);
          cell = c;
          inside = last_in cells c;
          number = refl;
          name = refl;
          most = λ q i. most high q (in_list_or_last cells c q i);
          least = λ q i s. least high q s (in_list_or_last cells c q i);
        }
      where
        most : b.0 < f c → (q : Cell) → (has cells q ≡ true) ⊎ (q ≡ c) → f q ≤ f c
        most high q (inl i) = let l = h.most q i in omega (arith, l, high)
        most high q (inr s) = let same : f q ≡ f c = ap f s in omega (arith, same)

        least : b.0 < f c → (q : Cell) → f q ≡ f c → (has cells q ≡ true) ⊎ (q ≡ c) → is_lt (name_cmp q.name c.name) ≡ false
        least high q s (inl i) = let l = h.most q i in absurd (omega (arith, l, high, s))
        least high q s (inr t) = ap (λ (z : Cell). is_lt (name_cmp z.name c.name)) t ∙ not_less_itself c.name
    by false e =
        let low : f c ≤ b.0 = grind (arith, nat_tests) in
        record {
          later = h.later;
          cell = h.cell;
          inside = in_more cells c h.cell h.inside;
          number = h.number;
          name = h.name;
          most = λ q i. most low q (in_list_or_last cells c q i);
          least = λ q i s. least q s (in_list_or_last cells c q i);
        }
      where
        most : f c ≤ b.0 → (q : Cell) → (has cells q ≡ true) ⊎ (q ≡ c) → f q ≤ b.0
        most low q (inl i) = h.most q i
        most low q (inr s) = let same : f q ≡ f c = ap f s in omega (arith, same, low)

        least : (q : Cell) → f q ≡ b.0 → (has cells q ≡ true) ⊎ (q ≡ c) → is_lt (name_cmp q.name b.1) ≡ false
        least q s (inl i) = h.least q i s
        least q s (inr t) = ap (λ (z : Cell). is_lt (name_cmp z.name b.1)) t ∙ ap (λ x. is_lt (name_cmp c.name x)) (sym h.name) ∙ rise h.cell h.inside
