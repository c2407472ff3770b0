-- The changes that one more deed makes.
use Rattle.std.proofs.Common.{sym, ap, ◌∙◌, arith}
use Rattle.std.specs.Prelude.{◌≡◌, ◌&&◌, ◌||◌, ◌<◌, ℕ, Bool, true, false, not, cond, List, [], ◌∷◌, ◌++◌, map, nat_eq, nat_lt, refl, filter, fold, All}
use Rattle.std.proofs.lemmas.Bool.Decides.{nat_tests}
use Rattle.std.proofs.lemmas.List.{map-append, append-nil}
use Rattle.std.proofs.lemmas.List.Elements.{All-head, All-tail, All-filter, filter-append, filter_agree, All-weaker}
use Rattle.std.proofs.lemmas.List.Folds.{list_any-append}
use Rattle.std.proofs.lemmas.List.Sums.{fold-append}
use Rattle.room_interface.specs.Prelude.{nat_list_eq_equiv, list_any, is_same_author, one_author}
use Rattle.room_interface.specs.declared.author.Author.{Author}
use Rattle.room_stacks.specs.declared.deed.Deed.{Deed}
use Rattle.room_stacks.specs.declared.deed.Deed.TheVariants.{Did, Undid, Redid}
use Rattle.room_stacks.specs.Stacks.{doer, number, is_work, undoes, IsAboveAll, works, standing, is_standing, redo, redo_after}
use Rattle.room_stacks.specs.Inner.Lists.{IsRising, without}
use Rattle.room_stacks.specs.Facts.Rising.{below_numbers, All-passing, among_filter, none_of_others, without_none}

-- the deed did an action, and is the author's
abbrev pub is_work_of : Author → Deed → Bool
is_work_of q d = is_work d && is_same_author q (doer d)

-- nobody undid the deed with this number
abbrev pub stands : List Deed → ℕ → Bool
stands ds s = not (list_any (undoes s) ds)

or_false : (b : Bool) → (b || false) ≡ b
or_false true = refl
or_false false = refl

pub and_false : (b : Bool) → (b && false) ≡ false
and_false true = refl
and_false false = refl

pub and_true : (b : Bool) → (b && true) ≡ b
and_true true = refl
and_true false = refl

second : (a b : Bool) → (a && b) ≡ true → b ≡ true
second true b h = h
second false b h = absurd (cc)

pub is_less : (a b : ℕ) → a < b → nat_lt a b ≡ true
is_less a b h = grind (arith, nat_tests)

pub not_less : (a b : ℕ) → b < a → nat_lt a b ≡ false
not_less a b h = grind (arith, nat_tests)

pub agree_on : (p r : ℕ → Bool) (xs : List ℕ) → All (λ x. p x ≡ r x) xs → filter p xs ≡ filter r xs
agree_on p r [] h = refl
agree_on p r (x ∷ xs) h =
    ap (λ b. cond b (x ∷ filter p xs) (filter p xs)) (All-head (λ y. p y ≡ r y) x xs h)
    ∙ ap (λ ys. cond (r x) (x ∷ ys) ys) (agree_on p r xs (All-tail (λ y. p y ≡ r y) x xs h))

filter_twice : (a b : ℕ → Bool) (xs : List ℕ) → filter (λ s. not (a s || b s)) xs ≡ filter (λ s. not (b s)) (filter (λ s. not (a s)) xs)
filter_twice a b [] = refl
filter_twice a b (x ∷ xs) = by (a x) (b x) refl (filter_twice a b xs)
  where
    by : (c e : Bool) → b x ≡ e → filter (λ s. not (a s || b s)) xs ≡ filter (λ s. not (b s)) (filter (λ s. not (a s)) xs)
        → cond (not (c || e)) (x ∷ filter (λ s. not (a s || b s)) xs) (filter (λ s. not (a s || b s)) xs)
        ≡ filter (λ s. not (b s)) (cond (not c) (x ∷ filter (λ s. not (a s)) xs) (filter (λ s. not (a s)) xs))
    by true e is rest = rest
    by false true is rest = rw is rest
    by false false is rest = rw is (ap (λ ys. x ∷ ys) rest)

-- nobody undid the latest deed
latest : (seq : ℕ) (ds : List Deed) → IsAboveAll seq ds → list_any (undoes seq) ds ≡ false
latest seq [] h = refl
latest seq (Did author id n ∷ ds) h = latest seq ds (All-tail (λ d. number d < seq) (Did author id n) ds h)
latest seq (Undid author id of n ∷ ds) h =
    let low : n < seq = All-head (λ d. number d < seq) (Undid author id of n) ds h in
    ap (λ b. (nat_eq seq of && b) || list_any (undoes seq) ds) (not_less seq n low)
    ∙ ap (λ b. b || list_any (undoes seq) ds) (and_false (nat_eq seq of))
    ∙ latest seq ds (All-tail (λ d. number d < seq) (Undid author id of n) ds h)
latest seq (Redid author id of n ∷ ds) h = latest seq ds (All-tail (λ d. number d < seq) (Redid author id of n) ds h)

module _ (ds : List Deed) (q : Author) where
  works-push : (d : Deed) → works (ds ++ d ∷ []) q ≡ works ds q ++ map number (filter (is_work_of q) (d ∷ []))
  works-push d = ap (map number) (filter-append (is_work_of q) ds (d ∷ [])) ∙ map-append number (filter (is_work_of q) ds) (filter (is_work_of q) (d ∷ []))

  -- a new deed that did an action is active for its author
  pub standing-work : (d : Deed) → is_work d ≡ true → ((s : ℕ) → undoes s d ≡ false) → IsAboveAll (number d) ds
      → standing (ds ++ d ∷ []) q ≡ cond (is_same_author q (doer d)) (standing ds q ++ number d ∷ []) (standing ds q)
  standing-work d work none h =
      filter_agree (stands (ds ++ d ∷ [])) (stands ds) same (works (ds ++ d ∷ []) q)
      ∙ ap (filter (stands ds)) (works-push d)
      ∙ filter-append (stands ds) (works ds q) (map number (filter (is_work_of q) (d ∷ [])))
      ∙ ap (λ w. standing ds q ++ filter (stands ds) (map number (cond (w && is_same_author q (doer d)) (d ∷ []) []))) work
      ∙ by (is_same_author q (doer d))
    where
      same : (s : ℕ) → stands (ds ++ d ∷ []) s ≡ stands ds s
      same s = ap not (list_any-append (undoes s) ds (d ∷ []) ∙ ap (λ b. list_any (undoes s) ds || (b || false)) (none s) ∙ or_false (list_any (undoes s) ds))

      by : (b : Bool) → standing ds q ++ filter (stands ds) (map number (cond b (d ∷ []) [])) ≡ cond b (standing ds q ++ number d ∷ []) (standing ds q)
      by true = ap (λ c. standing ds q ++ cond (not c) (number d ∷ []) []) (latest (number d) ds h)
      by false = append-nil (standing ds q)

  pub standing-undid : (author : Author) (id of seq : ℕ) → IsAboveAll seq ds → standing (ds ++ Undid author id of seq ∷ []) q ≡ without of (standing ds q)
  standing-undid author id of seq h =
      let d = Undid author id of seq in
      ap (filter (stands (ds ++ d ∷ []))) (works-push d ∙ append-nil (works ds q))
      ∙ agree_on (stands (ds ++ d ∷ [])) (λ s. not (list_any (undoes s) ds || nat_eq s of)) (works ds q)
      (All-weaker (λ s. s < seq) (λ s. stands (ds ++ d ∷ []) s ≡ not (list_any (undoes s) ds || nat_eq s of)) told (works ds q) (All-passing (λ m. m < seq) (is_work_of q) ds (below_numbers seq ds h)))
      ∙ filter_twice (λ s. list_any (undoes s) ds) (λ s. nat_eq s of) (works ds q)
    where
      told : (s : ℕ) → s < seq → stands (ds ++ Undid author id of seq ∷ []) s ≡ not (list_any (undoes s) ds || nat_eq s of)
      told s low =
          ap not (list_any-append (undoes s) ds (Undid author id of seq ∷ [])
          ∙ ap (λ b. list_any (undoes s) ds || b) (or_false (nat_eq s of && nat_lt s seq) ∙ ap (λ b. nat_eq s of && b) (is_less s seq low) ∙ and_true (nat_eq s of)))

  pub redo-push : (d : Deed) → redo (ds ++ d ∷ []) q ≡ cond (is_same_author q (doer d)) (redo_after (redo ds q) d) (redo ds q)
  redo-push d =
      let p = λ (e : Deed). is_same_author q (doer e) in
      ap (fold redo_after []) (filter-append p ds (d ∷ [])) ∙ fold-append redo_after [] (filter p ds) (filter p (d ∷ [])) ∙ by (is_same_author q (doer d))
    where
      by : (b : Bool) → fold redo_after (redo ds q) (cond b (d ∷ []) []) ≡ cond b (redo_after (redo ds q) d) (redo ds q)
      by true = refl
      by false = refl

  -- an active entry of one author is not an active entry of another
  pub none_of_another : (author : Author) → is_same_author q author ≡ false → IsRising (map number ds) → (s : ℕ) → is_standing ds author s ≡ true → without s (standing ds q) ≡ standing ds q
  none_of_another author other h s stand =
      without_none s (standing ds q) (All-filter (stands ds) (λ t. nat_eq t s ≡ false) (works ds q)
      (none_of_others (is_work_of author) (is_work_of q) never s ds h (among_filter (λ t. nat_eq t s) (stands ds) (works ds author) stand)))
    where
      never : (d : Deed) → is_work_of author d ≡ true → is_work_of q d ≡ true → ⊥
      never d e f =
          let mine : author ≡ doer d = one_author author (doer d) (second (is_work d) _ e) in
          let its : q ≡ doer d = one_author q (doer d) (second (is_work d) _ f) in
          let same : is_same_author (doer d) (doer d) ≡ true = nat_list_eq_equiv.refl (doer d) in
          let apart : is_same_author (doer d) (doer d) ≡ false = ap (λ (a : Author). is_same_author a (doer d)) (sym its) ∙ ap (λ (a : Author). is_same_author q a) (sym mine) ∙ other in
          cc
