-- The deeds of a journal's entries, which are numbered in order.
use Rattle.std.proofs.Common.{sym, ap, subst, ◌∙◌, arith}
use Rattle.std.specs.Prelude.{◌≡◌, ◌+◌, ◌<◌, ◌≤◌, ◌&&◌, ◌||◌, ℕ, Bool, true, false, not, cond, List, [], ◌∷◌, ◌++◌, length, map, Option, Some, None, nat_lt, slice_get, refl, filter, find, fold, position, All, option_map}
use Prim.Native.Nat.{suc}
use Rattle.std.proofs.lemmas.Bool.Decides.{nat_tests}
use Rattle.std.proofs.lemmas.List.Elements.{All-cons, All-nil, All-weaker}
use Rattle.room_interface.specs.Prelude.{list_any, position_or_len, is_same_author}
use Rattle.room_interface.specs.declared.author.Author.{Author}
use Rattle.room_stacks.specs.declared.deed.Deed.{Deed}
use Rattle.room_stacks.specs.Stacks.{doer, number, spends, spent, IsAboveAll, undoes, works, standing, redo, redo_after}
use Rattle.room_stacks.specs.Numbered.{deeds_from, kept_from}
use Rattle.room_stacks.specs.Facts.Rising.{All-passing}
use Rattle.room_stacks.specs.Facts.OneMore.{is_work_of, stands, agree_on, and_false, and_true, is_less}

not_below : (a b : ℕ) → b ≤ a → nat_lt a b ≡ false
not_below a b h = grind (arith, nat_tests)

zero_less : (n : ℕ) → nat_lt 0 (suc n) ≡ true
zero_less n = grind (arith, nat_tests)

less_more : (a b : ℕ) → nat_lt (suc a) (suc b) ≡ nat_lt a b
less_more a b = by (nat_lt a b) refl
  where
    by : (c : Bool) → nat_lt a b ≡ c → nat_lt (suc a) (suc b) ≡ c
    by true h = grind (arith, nat_tests)
    by false h = grind (arith, nat_tests)

one_more : (n : ℕ) → 1 + n ≡ suc n
one_more n = omega arith

position-cons : {X : Type 0} (p : X → Bool) (x : X) (xs : List X) → position p (x ∷ xs) ≡ cond (p x) (Some 0) (option_map suc (position p xs))
position-cons p x xs = by (p x)
  where
    over : (c : Bool) → cond c (Some (suc (position_or_len p xs))) None ≡ option_map suc (cond c (Some (position_or_len p xs)) None)
    over true = refl
    over false = refl

    by : (b : Bool) → cond (nat_lt (cond (not b) (1 + position_or_len p xs) 0) (suc (length xs))) (Some (cond (not b) (1 + position_or_len p xs) 0)) None ≡ cond b (Some 0) (option_map suc (position p xs))
    by true = ap (λ c. cond c (Some 0) None) (zero_less (length xs))
    by false =
        ap (λ k. cond (nat_lt k (suc (length xs))) (Some k) None) (one_more (position_or_len p xs))
        ∙ ap (λ c. cond c (Some (suc (position_or_len p xs))) None) (less_more (position_or_len p xs) (length xs))
        ∙ over (nat_lt (position_or_len p xs) (length xs))

module _ {E : Type 0} (deed : ℕ → E → Deed) (is_number : (n : ℕ) (e : E) → number (deed n e) ≡ n) where
  -- one more entry gives one more deed
  pub deeds_from-push : (n : ℕ) (es : List E) (e : E) → deeds_from deed n (es ++ e ∷ []) ≡ deeds_from deed n es ++ deed (length es + n) e ∷ []
  deeds_from-push n [] e = ap (λ k. deed k e ∷ []) (omega arith)
  deeds_from-push n (x ∷ es) e =
      let same : length es + (n + 1) ≡ length (x ∷ es) + n = omega arith in
      ap (λ ds. deed n x ∷ ds) (deeds_from-push (n + 1) es e ∙ ap (λ k. deeds_from deed (n + 1) es ++ deed k e ∷ []) same)

  -- the next number is greater than those of all entries
  pub above_entries : (n : ℕ) (es : List E) → IsAboveAll (length es + n) (deeds_from deed n es)
  above_entries n [] = All-nil (λ d. number d < 0 + n)
  above_entries n (e ∷ es) =
      let same : length es + (n + 1) ≡ length (e ∷ es) + n = omega arith in
      let first : number (deed n e) ≡ n = is_number n e in
      All-cons (λ d. number d < length (e ∷ es) + n) (deed n e) (deeds_from deed (n + 1) es) (omega (arith, first))
      (subst (λ k. IsAboveAll k (deeds_from deed (n + 1) es)) same (above_entries (n + 1) es))

  -- the first entry that spent an id is the one that `spent` finds
  module _ (author : Author) (id : ℕ) (test : E → Bool) (spends_is : (n : ℕ) (e : E) → spends author id (deed n e) ≡ test e) where
    found : (n : ℕ) (es : List E) → spent (deeds_from deed n es) author id ≡ option_map (λ i. i + n) (position test es)
    found n [] = refl
    found n (e ∷ es) =
        ap (λ b. option_map number (cond b (Some (deed n e)) (find (spends author id) (deeds_from deed (n + 1) es)))) (spends_is n e)
        ∙ by (test e) (found (n + 1) es)
        ∙ sym (ap (option_map (λ i. i + n)) (position-cons test e es))
      where
        shift : (o : Option ℕ) → option_map (λ i. i + (n + 1)) o ≡ option_map (λ i. i + n) (option_map suc o)
        shift None = refl
        shift (Some i) = ap Some (omega arith)

        by : (b : Bool) → spent (deeds_from deed (n + 1) es) author id ≡ option_map (λ i. i + (n + 1)) (position test es)
            → option_map number (cond b (Some (deed n e)) (find (spends author id) (deeds_from deed (n + 1) es))) ≡ option_map (λ i. i + n) (cond b (Some 0) (option_map suc (position test es)))
        by true rest = ap Some (is_number n e ∙ omega arith)
        by false rest = rest ∙ shift (position test es)

    pub spent_entries : (es : List E) → spent (deeds_from deed 1 es) author id ≡ option_map (λ i. i + 1) (position test es)
    spent_entries es = found 1 es

  -- the numbers of later entries are higher
  numbers_from : (n : ℕ) (es : List E) → All (λ m. n ≤ m) (map number (deeds_from deed n es))
  numbers_from n [] = All-nil (λ m. n ≤ m)
  numbers_from n (e ∷ es) =
      let first : number (deed n e) ≡ n = is_number n e in
      All-cons (λ m. n ≤ m) (number (deed n e)) (map number (deeds_from deed (n + 1) es)) (omega (arith, first))
      (All-weaker (λ m. n + 1 ≤ m) (λ m. n ≤ m) (λ m h. omega (arith, h)) (map number (deeds_from deed (n + 1) es)) (numbers_from (n + 1) es))

  -- `is_own` tests that an entry did an action of the author, and `undid` that it undid a number
  module _ (author : Author) (is_own : E → Bool) (own_is : (n : ℕ) (e : E) → is_work_of author (deed n e) ≡ is_own e)
      (undid : ℕ → E → Bool) (undid_is : (s n : ℕ) (e : E) → undoes s (deed n e) ≡ (undid s e && nat_lt s n)) where
    -- later entries undid exactly the entries that they name
    undone_later : (s n : ℕ) (es : List E) → s < n → list_any (undoes s) (deeds_from deed n es) ≡ list_any (undid s) es
    undone_later s n [] low = refl
    undone_later s n (e ∷ es) low =
        ap (λ b. b || list_any (undoes s) (deeds_from deed (n + 1) es)) (undid_is s n e ∙ ap (λ b. undid s e && b) (is_less s n low) ∙ and_true (undid s e))
        ∙ ap (λ b. undid s e || b) (undone_later s (n + 1) es (omega arith))

    -- an entry undid no number from its own on
    none_of_later : (s n : ℕ) (e : E) → n ≤ s → undoes s (deed n e) ≡ false
    none_of_later s n e high = undid_is s n e ∙ ap (λ b. undid s e && b) (not_below s n high) ∙ and_false (undid s e)

    pub standing_entries : (n : ℕ) (es : List E) → standing (deeds_from deed n es) author ≡ kept_from is_own undid n es
    standing_entries n [] = refl
    standing_entries n (e ∷ es) =
        ap (λ b. filter (stands (deeds_from deed n (e ∷ es))) (map number (cond b (deed n e ∷ filter (is_work_of author) (deeds_from deed (n + 1) es)) (filter (is_work_of author) (deeds_from deed (n + 1) es))))) (own_is n e)
        ∙ by (is_own e) (standing_entries (n + 1) es)
      where
        same : (s : ℕ) → n + 1 ≤ s → stands (deed n e ∷ deeds_from deed (n + 1) es) s ≡ stands (deeds_from deed (n + 1) es) s
        same s high = ap (λ b. not (b || list_any (undoes s) (deeds_from deed (n + 1) es))) (none_of_later s n e (omega arith))

        rest : filter (stands (deed n e ∷ deeds_from deed (n + 1) es)) (works (deeds_from deed (n + 1) es) author) ≡ standing (deeds_from deed (n + 1) es) author
        rest =
            agree_on (stands (deed n e ∷ deeds_from deed (n + 1) es)) (stands (deeds_from deed (n + 1) es)) (works (deeds_from deed (n + 1) es) author)
            (All-weaker (λ s. n + 1 ≤ s) (λ s. stands (deed n e ∷ deeds_from deed (n + 1) es) s ≡ stands (deeds_from deed (n + 1) es) s) same (works (deeds_from deed (n + 1) es) author)
            (All-passing (λ s. n + 1 ≤ s) (is_work_of author) (deeds_from deed (n + 1) es) (numbers_from (n + 1) es)))

        first : stands (deed n e ∷ deeds_from deed (n + 1) es) (number (deed n e)) ≡ not (list_any (undid n) es)
        first =
            ap (stands (deed n e ∷ deeds_from deed (n + 1) es)) (is_number n e)
            ∙ ap (λ b. not (b || list_any (undoes n) (deeds_from deed (n + 1) es))) (none_of_later n n e (omega arith))
            ∙ ap not (undone_later n (n + 1) es (omega arith))

        by : (b : Bool) → standing (deeds_from deed (n + 1) es) author ≡ kept_from is_own undid (n + 1) es
            → filter (stands (deed n e ∷ deeds_from deed (n + 1) es)) (map number (cond b (deed n e ∷ filter (is_work_of author) (deeds_from deed (n + 1) es)) (filter (is_work_of author) (deeds_from deed (n + 1) es))))
            ≡ cond (b && not (list_any (undid n) es)) (n ∷ kept_from is_own undid (n + 1) es) (kept_from is_own undid (n + 1) es)
        by false more = rest ∙ more
        by true more =
            ap (λ c. cond c (number (deed n e) ∷ filter (stands (deed n e ∷ deeds_from deed (n + 1) es)) (works (deeds_from deed (n + 1) es) author)) (filter (stands (deed n e ∷ deeds_from deed (n + 1) es)) (works (deeds_from deed (n + 1) es) author))) first
            ∙ ap (λ ns. cond (not (list_any (undid n) es)) (number (deed n e) ∷ ns) ns) (rest ∙ more)
            ∙ ap (λ k. cond (not (list_any (undid n) es)) (k ∷ kept_from is_own undid (n + 1) es) (kept_from is_own undid (n + 1) es)) (is_number n e)

  -- an author's redo stack, by a step for each of its own entries
  pub redo_entries : (author : Author) (own : E → Bool) → ((n : ℕ) (e : E) → is_same_author author (doer (deed n e)) ≡ own e)
      → (step : List ℕ → E → List ℕ) → ((stack : List ℕ) (n : ℕ) (e : E) → redo_after stack (deed n e) ≡ step stack e)
      → (n : ℕ) (es : List E) → redo (deeds_from deed n es) author ≡ fold step [] (filter own es)
  redo_entries author own own_is step step_is n es = from [] n es
    where
      from : (stack : List ℕ) (n : ℕ) (es : List E) → fold redo_after stack (filter (λ d. is_same_author author (doer d)) (deeds_from deed n es)) ≡ fold step stack (filter own es)
      from stack n [] = refl
      from stack n (e ∷ es) =
          ap (λ b. fold redo_after stack (cond b (deed n e ∷ filter (λ d. is_same_author author (doer d)) (deeds_from deed (n + 1) es)) (filter (λ d. is_same_author author (doer d)) (deeds_from deed (n + 1) es)))) (own_is n e)
          ∙ by (own e) (λ k. from k (n + 1) es)
        where
          by : (b : Bool) → ((k : List ℕ) → fold redo_after k (filter (λ d. is_same_author author (doer d)) (deeds_from deed (n + 1) es)) ≡ fold step k (filter own es))
              → fold redo_after stack (cond b (deed n e ∷ filter (λ d. is_same_author author (doer d)) (deeds_from deed (n + 1) es)) (filter (λ d. is_same_author author (doer d)) (deeds_from deed (n + 1) es)))
              ≡ fold step stack (cond b (e ∷ filter own es) (filter own es))
          by true more = more (redo_after stack (deed n e)) ∙ ap (λ k. fold step k (filter own es)) (step_is stack n e)
          by false more = more stack

-- the active entries of a journal that are an author's own; `stands_from` lists the active entries, and `own` tests a
-- number
module _ {E : Type 0} (did : E → Bool) (by_author : E → Bool) (undid : ℕ → E → Bool) (stands_from : ℕ → List E → List ℕ) (none : (n : ℕ) → stands_from n [] ≡ [])
    (more : (n : ℕ) (e : E) (later : List E) → stands_from n (e ∷ later) ≡ cond (did e && not (list_any (undid n) later)) (n ∷ stands_from (n + 1) later) (stands_from (n + 1) later))
    (own : ℕ → Bool) where
  pub kept_standing : (n : ℕ) (es : List E) → ((i : ℕ) (e : E) → slice_get es i ≡ Some e → own (i + n) ≡ by_author e) → filter own (stands_from n es) ≡ kept_from (λ e. did e && by_author e) undid n es
  kept_standing n [] tells = ap (filter own) (none n)
  kept_standing n (e ∷ later) tells =
      ap (filter own) (more n e later)
      ∙ by (did e) (not (list_any (undid n) later))
      (kept_standing (n + 1) later (λ i x at. ap own (shifted i) ∙ tells (suc i) x at))
    where
      shifted : (i : ℕ) → i + (n + 1) ≡ suc i + n
      shifted i = omega arith

      first : own n ≡ by_author e
      first = ap own (omega arith) ∙ tells 0 e refl

      by : (a u : Bool) → filter own (stands_from (n + 1) later) ≡ kept_from (λ x. did x && by_author x) undid (n + 1) later
          → filter own (cond (a && u) (n ∷ stands_from (n + 1) later) (stands_from (n + 1) later))
          ≡ cond ((a && by_author e) && u) (n ∷ kept_from (λ x. did x && by_author x) undid (n + 1) later) (kept_from (λ x. did x && by_author x) undid (n + 1) later)
      by false u rest = rest
      by true false rest = rest ∙ ap (λ b. cond b (n ∷ kept_from (λ x. did x && by_author x) undid (n + 1) later) (kept_from (λ x. did x && by_author x) undid (n + 1) later)) (sym (and_false (by_author e)))
      by true true rest =
          ap (λ b. cond b (n ∷ filter own (stands_from (n + 1) later)) (filter own (stands_from (n + 1) later))) first
          ∙ ap (λ ns. cond (by_author e) (n ∷ ns) ns) rest
          ∙ ap (λ b. cond b (n ∷ kept_from (λ x. did x && by_author x) undid (n + 1) later) (kept_from (λ x. did x && by_author x) undid (n + 1) later)) (sym (and_true (by_author e)))
