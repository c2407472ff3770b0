-- A journal and the deeds of its authors.
use Rattle.std.proofs.Common.{◌≡◌, ◌+◌, ◌&&◌, ◌||◌, ℕ, Bool, true, false, List, [], ◌∷◌, ◌++◌, length, nat_eq, nat_lt, refl, cond, sym, ap, ◌∙◌, arith, filter}
use Prim.Native.Nat.{suc}
use Rattle.std.proofs.lemmas.Bool.Decides.{nat_tests}
use Rattle.room_history.specs.Prelude.{list_any, Author, is_same_author, is_work_of, spent_entries, standing_entries, kept_standing, above_entries, deeds_from-push, redo_entries, Entry, EntryKind, Do, Undo, Redo, spends, spent, numbered, is_by, is_undo_of, is_standing, is_work, standing, standing_from, undos, redos, redos_after}
use Rattle.room_history.specs.Inner.Deeds.{deed, deed_by, deeds}
use Rattle.room_stacks.specs.Stacks as stacks

-- a number of a list that passes a test is in the filtered list
any_kept : (p : ℕ → Bool) (s : ℕ) (ts : List ℕ) → list_any (λ t. nat_eq t s) ts ≡ true → p s ≡ true → list_any (λ t. nat_eq t s) (filter p ts) ≡ true
any_kept p s [] e h = absurd (cc)
any_kept p s (t ∷ ts) e h = by (nat_eq t s) refl (p t) refl e (λ f. any_kept p s ts f h)
  where
    same : nat_eq t s ≡ true → t ≡ s
    same e = grind (arith, nat_tests)

    by : (b : Bool) → nat_eq t s ≡ b → (k : Bool) → p t ≡ k → (b || list_any (λ t. nat_eq t s) ts) ≡ true → (list_any (λ t. nat_eq t s) ts ≡ true → list_any (λ t. nat_eq t s) (filter p ts) ≡ true)
        → list_any (λ t. nat_eq t s) (cond k (t ∷ filter p ts) (filter p ts)) ≡ true
    by true is true k e rest = ap (λ b. b || list_any (λ t. nat_eq t s) (filter p ts)) is
    by true is false k e rest = absurd (cc (sym k ∙ ap p (same is) ∙ h))
    by false is true k e rest = ap (λ b. b || list_any (λ t. nat_eq t s) (filter p ts)) is ∙ rest e
    by false is false k e rest = rest e

-- a number that passes a test is in a list exactly if it is in the filtered list
any_of_kept : (p : ℕ → Bool) (s : ℕ) (ts : List ℕ) → p s ≡ true → list_any (λ t. nat_eq t s) (filter p ts) ≡ list_any (λ t. nat_eq t s) ts
any_of_kept p s [] h = refl
any_of_kept p s (t ∷ ts) h = by (nat_eq t s) refl (p t) refl (any_of_kept p s ts h)
  where
    same : nat_eq t s ≡ true → t ≡ s
    same e = grind (arith, nat_tests)

    by : (b : Bool) → nat_eq t s ≡ b → (k : Bool) → p t ≡ k → list_any (λ t. nat_eq t s) (filter p ts) ≡ list_any (λ t. nat_eq t s) ts
        → list_any (λ t. nat_eq t s) (cond k (t ∷ filter p ts) (filter p ts)) ≡ (nat_eq t s || list_any (λ t. nat_eq t s) ts)
    by b is true k rest = ap (λ r. nat_eq t s || r) rest
    by true is false k rest = absurd (cc (sym k ∙ ap p (same is) ∙ h))
    by false is false k rest = rest ∙ ap (λ b. b || list_any (λ t. nat_eq t s) ts) (sym is)

module _ {A : Type 0} where
  number_is : (n : ℕ) (e : Entry A) → stacks.number (deed n e) ≡ n
  number_is n e = by e.kind
    where
      by : (k : EntryKind A) → stacks.number (deed_by n e.author e.id k) ≡ n
      by (Do a) = refl
      by (Undo s) = refl
      by (Redo s) = refl

  spends_is : (author : Author) (id n : ℕ) (e : Entry A) → stacks.spends author id (deed n e) ≡ spends author id e
  spends_is author id n e = by e.kind
    where
      by : (k : EntryKind A) → stacks.spends author id (deed_by n e.author e.id k) ≡ spends author id e
      by (Do a) = refl
      by (Undo s) = refl
      by (Redo s) = refl

  own_is : (author : Author) (n : ℕ) (e : Entry A) → is_work_of author (deed n e) ≡ (is_work e.kind && is_same_author author e.author)
  own_is author n e = by e.kind
    where
      by : (k : EntryKind A) → is_work_of author (deed_by n e.author e.id k) ≡ (is_work k && is_same_author author e.author)
      by (Do a) = refl
      by (Undo s) = refl
      by (Redo s) = refl

  undid_is : (s n : ℕ) (e : Entry A) → stacks.undoes s (deed n e) ≡ (is_undo_of s e.kind && nat_lt s n)
  undid_is s n e = by e.kind
    where
      by : (k : EntryKind A) → stacks.undoes s (deed_by n e.author e.id k) ≡ (is_undo_of s k && nat_lt s n)
      by (Do a) = refl
      by (Undo t) = refl
      by (Redo t) = refl

  -- a deed spent an id exactly if an entry did
  pub spent_deeds : (j : List (Entry A)) (author : Author) (id : ℕ) → stacks.spent (deeds j) author id ≡ spent j author id
  spent_deeds j author id = spent_entries deed number_is author id (spends author id) (spends_is author id) j

  -- the next number is greater than those of all deeds
  pub above_deeds : (j : List (Entry A)) → stacks.IsAboveAll (length j + 1) (deeds j)
  above_deeds j = above_entries deed number_is 1 j

  pub deeds-append : (j : List (Entry A)) (e : Entry A) → deeds (j ++ e ∷ []) ≡ deeds j ++ deed (length j + 1) e ∷ []
  deeds-append j e = deeds_from-push deed number_is 1 j e

  -- an author's active deeds are its active entries
  pub standing_deeds : (j : List (Entry A)) (author : Author) → stacks.standing (deeds j) author ≡ undos j author
  standing_deeds j author =
      standing_entries deed number_is author (λ (e : Entry A). is_work e.kind && is_same_author author e.author) (own_is author) (λ s (e : Entry A). is_undo_of s e.kind) undid_is 1 j
      ∙ sym (kept_standing (λ (e : Entry A). is_work e.kind) (λ (e : Entry A). is_same_author author e.author) (λ s (e : Entry A). is_undo_of s e.kind) standing_from (λ n. refl) (λ n e later. refl)
      (λ s. is_by author (numbered j s)) 1 j (λ i e at. ap (λ k. is_by author (numbered j k)) (next i) ∙ ap (is_by author) at))
    where
      next : (i : ℕ) → i + 1 ≡ suc i
      next i = omega arith

  -- an author's active entry is among them
  pub stands_among : (j : List (Entry A)) (author : Author) (s : ℕ) → is_standing j s ≡ true → is_by author (numbered j s) ≡ true → list_any (λ t. nat_eq t s) (stacks.standing (deeds j) author) ≡ true
  stands_among j author s stands own = ap (list_any (λ t. nat_eq t s)) (standing_deeds j author) ∙ any_kept (λ t. is_by author (numbered j t)) s (standing j) stands own

  -- an author's redo stack from its deeds is that from its entries
  pub redo_deeds : (j : List (Entry A)) (author : Author) → stacks.redo (deeds j) author ≡ redos j author
  redo_deeds j author = redo_entries deed number_is author (λ (e : Entry A). is_same_author author e.author) doer_is (λ stack (e : Entry A). redos_after stack e.kind) step_is 1 j
    where
      doer_is : (n : ℕ) (e : Entry A) → is_same_author author (stacks.doer (deed n e)) ≡ is_same_author author e.author
      doer_is n e = by e.kind
        where
          by : (k : EntryKind A) → is_same_author author (stacks.doer (deed_by n e.author e.id k)) ≡ is_same_author author e.author
          by (Do a) = refl
          by (Undo s) = refl
          by (Redo t) = refl

      step_is : (stack : List ℕ) (n : ℕ) (e : Entry A) → stacks.redo_after stack (deed n e) ≡ redos_after stack e.kind
      step_is stack n e = by e.kind
        where
          by : (k : EntryKind A) → stacks.redo_after stack (deed_by n e.author e.id k) ≡ redos_after stack k
          by (Do a) = refl
          by (Undo s) = refl
          by (Redo t) = refl

  -- an author's own entry is active exactly if it is among the author's active entries
  pub own_stands : (j : List (Entry A)) (author : Author) (s : ℕ) → is_by author (numbered j s) ≡ true → list_any (λ t. nat_eq t s) (undos j author) ≡ is_standing j s
  own_stands j author s own = any_of_kept (λ t. is_by author (numbered j t)) s (standing j) own
