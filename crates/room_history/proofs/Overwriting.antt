-- The last entry that overwrites: what it is, and that there is just one.
use Rattle.std.proofs.Common.{◌≡◌, ◌&&◌, ◌||◌, ◌⊎◌, ◌+◌, ◌<◌, ◌≤◌, inl, inr, ℕ, zero, suc, Bool, true, false, not, T, List, [], ◌∷◌, Option, Some, None, nat_lt, refl, cond, sym, ap, ◌∙◌, arith, find, option_map}
use Rattle.std.proofs.lemmas.Bool.Decides.{nat_tests}
use Rattle.room_history.specs.Prelude.{option_or, is_same_author, Name, name_cmp, Author, Entry, Recorded, changed_cells}
use Rattle.osm_changes.specs.Cells.{Cell, has, IsRising, is_same_cell}
use Rattle.osm_changes.specs.Prelude.{is_lt, ordering_then, ordering_reverse, nat_cmp, part_rank, cell_cmp, below_all, bare_rows, name_cmp_total, Ordering, Less, Equal, Greater}
use Rattle.osm_changes.specs.Facts.Cells.{same_cells}
use Rattle.rising_lists.specs.Facts.Sorted.{first, second}
use Rattle.edit_footprint.specs.Facts.CellSets.{has-own, has-more}
use Rattle.edit_footprint.specs.Facts.Meeting.{neither_less, not_less_itself}
use Rattle.room_history.specs.Guards.{first_shared, overwritten}
use Rattle.room_history.specs.Inner.Changers.{IsOutcome}
use Rattle.room_history.proofs.LastOfOthers.{or_other, last_of_others, none_or_late}

-- a cell of both lists
pub record SharesCell (one other : List Cell) (x : Name) : Type 0 where
  pub cell : Cell
  pub name : cell.name ≡ x
  pub in_one : has one cell ≡ true
  pub in_other : has other cell ≡ true

pub shared_cell : (one other : List Cell) (x : Name) → first_shared one other ≡ Some x → SharesCell one other x
shared_cell [] other x h = absurd (cc)
shared_cell (y ∷ ys) other x h = by (has other y) refl h (shared_cell ys other x)
  where
    by : (b : Bool) → has other y ≡ b → option_map (λ (c : Cell). c.name) (cond b (Some y) (find (has other) ys)) ≡ Some x → (first_shared ys other ≡ Some x → SharesCell ys other x) → SharesCell (y ∷ ys) other x
    by true e f go = let same : y.name ≡ x = cc in record { cell = y; name = same; in_one = has-own y ys; in_other = e }
    by false e f go = let found = go f in record { cell = found.cell; name = found.name; in_one = has-more found.cell y ys found.in_one; in_other = found.in_other }

pub none_shared : (one other : List Cell) → first_shared one other ≡ None → (c : Cell) → has one c ≡ true → has other c ≡ true → ⊥
none_shared [] other none c i k = absurd (cc)
none_shared (y ∷ ys) other none c i k = by (has other y) refl none (is_same_cell c y) refl i (λ n h. none_shared ys other n c h k)
  where
    by : (b : Bool) → has other y ≡ b → option_map (λ (z : Cell). z.name) (cond b (Some y) (find (has other) ys)) ≡ None → (s : Bool) → is_same_cell c y ≡ s → (s || has ys c) ≡ true
        → (first_shared ys other ≡ None → has ys c ≡ true → ⊥) → ⊥
    by true g n s f j go = absurd (cc)
    by false g n true f j go = cc (sym k ∙ ap (has other) (same_cells c y f) ∙ g)
    by false g n false f j go = go n j

-- a cell after another cell has no lesser name
not_less : (c d : Cell) → T (is_lt (cell_cmp c d)) → is_lt (name_cmp d.name c.name) ≡ false
not_less c d h = ap is_lt (name_cmp_total.antisymm d.name c.name) ∙ by (name_cmp c.name d.name) h
  where
    by : (o : Ordering) → T (is_lt (ordering_then o (nat_cmp (part_rank c.part) (part_rank d.part)))) → is_lt (ordering_reverse o) ≡ false
    by Less h = refl
    by Equal h = refl
    by Greater h = absurd h

not_less_among : (c : Cell) (cs : List Cell) → T (below_all cell_cmp c (bare_rows cs)) → (d : Cell) → has cs d ≡ true → is_lt (name_cmp d.name c.name) ≡ false
not_less_among c [] low d h = absurd (cc)
not_less_among c (z ∷ zs) low d h = by (is_same_cell d z) refl h (not_less_among c zs (second _ _ low) d)
  where
    by : (b : Bool) → is_same_cell d z ≡ b → (b || has zs d) ≡ true → (has zs d ≡ true → is_lt (name_cmp d.name c.name) ≡ false) → is_lt (name_cmp d.name c.name) ≡ false
    by true e h go = ap (λ (q : Cell). is_lt (name_cmp q.name c.name)) (same_cells d z e) ∙ not_less c z (first _ _ low)
    by false e h go = go h

-- the first of rising cells has the least name
pub first_is_least : (c : Cell) (cs : List Cell) → IsRising (c ∷ cs) → (d : Cell) → has (c ∷ cs) d ≡ true → is_lt (name_cmp d.name c.name) ≡ false
first_is_least c cs rise d h = by (is_same_cell d c) refl h
  where
    by : (b : Bool) → is_same_cell d c ≡ b → (b || has cs d) ≡ true → is_lt (name_cmp d.name c.name) ≡ false
    by true e h = ap (λ (q : Cell). is_lt (name_cmp q.name c.name)) (same_cells d c e) ∙ not_less_itself c.name
    by false e h = not_less_among c cs (first _ _ rise) d h

-- no shared cell has a lesser name than the first
pub none_lesser : (one other : List Cell) (x : Name) → IsRising one → first_shared one other ≡ Some x → (c : Cell) → has one c ≡ true → has other c ≡ true → is_lt (name_cmp c.name x) ≡ false
none_lesser [] other x rise h c i k = absurd (cc)
none_lesser (y ∷ ys) other x rise h c i k = by (has other y) refl h (is_same_cell c y) refl i (λ m g. none_lesser ys other x (second _ _ rise) m c g k)
  where
    by : (b : Bool) → has other y ≡ b → option_map (λ (z : Cell). z.name) (cond b (Some y) (find (has other) ys)) ≡ Some x → (s : Bool) → is_same_cell c y ≡ s → (s || has ys c) ≡ true
        → (first_shared ys other ≡ Some x → has ys c ≡ true → is_lt (name_cmp c.name x) ≡ false) → is_lt (name_cmp c.name x) ≡ false
    by true g m s f j go = let same : y.name ≡ x = cc in ap (λ n. is_lt (name_cmp c.name n)) (sym same) ∙ first_is_least y ys rise c i
    by false g m true f j go = absurd (cc (sym k ∙ ap (has other) (same_cells c y f) ∙ g))
    by false g m false f j go = go m j

-- ---- the last entries that changed a cell

at_most : (a b m : ℕ) → a ≤ m → b ≤ m → or_other a b ≤ m
at_most zero b m low high = high
at_most (suc a) b m low high = low

first_of_them : (a b m : ℕ) → a ≡ m → 0 < m → or_other a b ≡ m
first_of_them zero b m e pos = absurd (omega (arith, e, pos))
first_of_them (suc a) b m e pos = e

not_the_other : (a b m : ℕ) → or_other a b ≡ m → b < m → a ≡ m
not_the_other zero b m e low = absurd (omega (arith, e, low))
not_the_other (suc a) b m e low = e

-- there is one outcome
pub one_outcome : (n : ℕ) (f : Cell → ℕ) (cells : List Cell) (o p : Option (ℕ × Name)) → IsOutcome n f cells o → IsOutcome n f cells p → o ≡ p
one_outcome n f cells None None h k = refl
one_outcome n f cells None (Some b) h k = let low = h k.cell k.inside in let late = k.later in let number = k.number in absurd (omega (arith, low, late, number))
one_outcome n f cells (Some a) None h k = let low = k h.cell h.inside in let late = h.later in let number = h.number in absurd (omega (arith, low, late, number))
one_outcome n f cells (Some a) (Some b) h k =
    let low : a.0 ≤ b.0 = let low = k.most h.cell h.inside in let number = h.number in omega (arith, low, number) in
    let high : b.0 ≤ a.0 = let high = h.most k.cell k.inside in let number = k.number in omega (arith, high, number) in
    let same : a.0 ≡ b.0 = omega (arith, low, high) in
    let name : a.1 ≡ b.1 = neither_less a.1 b.1
    (ap (λ x. is_lt (name_cmp x b.1)) (sym h.name) ∙ k.least h.cell h.inside (h.number ∙ same))
    (ap (λ x. is_lt (name_cmp x a.1)) (sym k.name) ∙ h.least k.cell k.inside (k.number ∙ sym same)) in
    λ i. Some (same i, name i)

module _ {A : Type 0} where
  -- the last of the entries, numbered from k, that is not the author's and changed the cell; 0 if there is none
  abbrev pub last_to_change : Author → Cell → ℕ → List (Entry A) → List (Recorded A) → ℕ
  last_to_change author c k es rs = last_of_others (λ r. has (changed_cells r.changes) c) author k es rs

  -- what `overwritten` gives is the outcome
  pub outcome : (author : Author) (n : ℕ) (cells : List Cell) → IsRising cells → (k : ℕ) → 0 < k → (es : List (Entry A)) (rs : List (Recorded A))
      → IsOutcome n (λ c. last_to_change author c k es rs) cells (overwritten author n cells k es rs)
  outcome author n cells rise k pos [] rs = λ c i. omega arith
  outcome author n cells rise k pos (e ∷ es) [] = λ c i. omega arith
  outcome author n cells rise k pos (e ∷ es) (r ∷ rs) = by (overwritten author n cells (k + 1) es rs) (outcome author n cells rise (k + 1) (omega arith) es rs)
    where
      other : Bool
      other = not (is_same_author author e.author)

      changed : List Cell
      changed = changed_cells r.changes

      before : Cell → ℕ
      before c = last_to_change author c (k + 1) es rs

      own : Cell → ℕ
      own c = cond (other && has changed c) k 0

      small : (c : Cell) → own c ≤ k
      small c = go (other && has changed c)
        where
          go : (b : Bool) → cond b k 0 ≤ k
          go true = omega arith
          go false = omega arith

      -- no entry after k is above n
      settled : (c : Cell) → before c ≤ n → n < k → before c ≡ 0
      settled c low high = go (none_or_late (λ r. has (changed_cells r.changes) c) author (k + 1) es rs)
        where
          go : (before c ≡ 0) ⊎ (k + 1 ≤ before c) → before c ≡ 0
          go (inl h) = h
          go (inr h) = absurd (omega (arith, h, low, high))

      by : (o : Option (ℕ × Name)) → IsOutcome n before cells o
          → IsOutcome n (λ c. or_other (before c) (own c)) cells (option_or o (cond (nat_lt n k && other) (option_map (λ x. (k, x)) (first_shared cells changed)) None))
      by (Some b) h =
          let late : k + 1 ≤ b.0 = go (none_or_late (λ r. has (changed_cells r.changes) h.cell) author (k + 1) es rs) in
          record {
            later = h.later;
            cell = h.cell;
            inside = h.inside;
            number = first_of_them (before h.cell) (own h.cell) b.0 h.number (omega (arith, late));
            name = h.name;
            most = λ c i. at_most (before c) (own c) b.0 (h.most c i) (let low = small c in omega (arith, late, low));
            least = λ c i e. h.least c i (not_the_other (before c) (own c) b.0 e (let low = small c in omega (arith, late, low)));
          }
        where
          go : (before h.cell ≡ 0) ⊎ (k + 1 ≤ before h.cell) → k + 1 ≤ b.0
          go (inl z) = let number = h.number in let positive = h.later in absurd (omega (arith, z, number, positive))
          go (inr l) = let number = h.number in omega (arith, l, number)
      by None low = go (nat_lt n k) refl other refl
        where
          own_is : (c : Cell) (q r : Bool) → other ≡ q → has changed c ≡ r → own c ≡ cond (q && r) k 0
          own_is c q r f g = λ i. cond (f i && g i) k 0

          shared : n < k → other ≡ true → (o : Option Name) → first_shared cells changed ≡ o
              → IsOutcome n (λ c. or_other (before c) (own c)) cells (option_map (λ x. (k, x)) o)
          shared high f None g = λ c i. at_most (before c) (own c) n (low c i) (away c (has changed c) refl i)
            where
              away : (c : Cell) (b : Bool) → has changed c ≡ b → has cells c ≡ true → own c ≤ n
              away c true h i = absurd (none_shared cells changed g c i h)
              away c false h i = let is : own c ≡ 0 = own_is c true false f h in omega (arith, is)
          shared high f (Some x) g =
              let s = shared_cell cells changed x g in
              record {
                later = high;
                cell = s.cell;
                inside = s.in_one;
                number = ap (λ m. or_other m (own s.cell)) (settled s.cell (low s.cell s.in_one) high) ∙ own_is s.cell true true f s.in_other;
                name = s.name;
                most = λ c i. at_most (before c) (own c) k (let l = low c i in omega (arith, l, high)) (small c);
                least = λ c i e. none_lesser cells changed x rise g c i (there c i e (has changed c) refl);
              }
            where
              there : (c : Cell) → has cells c ≡ true → or_other (before c) (own c) ≡ k → (b : Bool) → has changed c ≡ b → has changed c ≡ true
              there c i e true h = h
              there c i e false h =
                  let none : or_other (before c) (own c) ≡ 0 = (λ j. or_other (settled c (low c i) high j) (own_is c true false f h j)) in
                  absurd (omega (arith, none, e, pos))

          go : (p : Bool) → nat_lt n k ≡ p → (q : Bool) → other ≡ q
              → IsOutcome n (λ c. or_other (before c) (own c)) cells (cond (p && q) (option_map (λ x. (k, x)) (first_shared cells changed)) None)
          go true e true f = shared (let high : n < k = grind (arith, nat_tests) in high) f (first_shared cells changed) refl
          go true e false f = λ c i. at_most (before c) (own c) n (low c i) (let is : own c ≡ 0 = own_is c false (has changed c) f refl in omega (arith, is))
          go false e q f = λ c i. at_most (before c) (own c) n (low c i) (let l = small c in let high : k ≤ n = grind (arith, nat_tests) in omega (arith, l, high))
