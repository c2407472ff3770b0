-- The recorded action of an entry is the one that its origin stores.
use Rattle.std.proofs.Common.{◌≡◌, ◌+◌, ◌++◌, ◌≤◌, ℕ, suc, zero, List, [], ◌∷◌, Option, Some, None, length, refl, unwrap_or, sym, ap, subst, ◌∙◌, arith, length-append, fold, option_and_then}
use Rattle.std.proofs.lemmas.List.Sums.{fold-append}
use Rattle.room_history.specs.Prelude.{Rows, Entry, EntryKind, Do, Undo, Redo, numbered, Recorded, past, taken_back, recorded_next, action_at, done_again}
use Rattle.room_interface.specs.declared.edit.Edit.{Edit as Action}
use Rattle.room_history.specs.Inner.Origins.{own_action, done_by, origin_next, origins_after, origins}
use Rattle.room_history.proofs.Appending.{past-append, recorded_each}
use Rattle.room_history.proofs.Growing.{numbered_within, numbered_next}
use Rattle.room_history.proofs.LastItems.{from_the_end}

-- a property of the items at each number of two lists of one length stays true with one more item in each, if these two
-- have it
numbered_in_both : {X Y : Type 0} (P : Option X → Option Y → Type 0) (xs : List X) (ys : List Y) (x : X) (y : Y) → length xs ≡ length ys → P None None → P (Some x) (Some y)
    → ((s : ℕ) → P (numbered xs s) (numbered ys s)) → (s : ℕ) → P (numbered (xs ++ x ∷ []) s) (numbered (ys ++ y ∷ []) s)
numbered_in_both P xs ys x y same none both before zero = none
numbered_in_both P [] [] x y same none both before (suc zero) = both
numbered_in_both P [] [] x y same none both before (suc (suc i)) = none
numbered_in_both P [] (w ∷ ys) x y same none both before (suc i) = absurd (cc)
numbered_in_both P (v ∷ xs) [] x y same none both before (suc i) = absurd (cc)
numbered_in_both P (v ∷ xs) (w ∷ ys) x y same none both before (suc zero) = before 1
numbered_in_both P (v ∷ xs) (w ∷ ys) x y same none both before (suc (suc i)) = numbered_in_both P xs ys x y (cc) none both later (suc i)
  where
    later : (s : ℕ) → P (numbered xs s) (numbered ys s)
    later zero = none
    later (suc k) = before (suc (suc k))

-- an origin is the number of an entry
abbrev IsWithin : ℕ → Option ℕ → Type 0
IsWithin n None = Unit {0}
IsWithin n (Some o) = (1 ≤ o) × (o ≤ n)

within_more : (n : ℕ) (o : Option ℕ) → IsWithin n o → IsWithin (n + 1) o
within_more n None h = tt
within_more n (Some o) h = (h.0, omega (arith, h.1))

module _ {A : Type 0} where
  pub origins-append : (j : List (Entry A)) (e : Entry A) → origins (j ++ e ∷ []) ≡ origins_after (origins j) e.kind
  origins-append j e = fold-append (λ os (e : Entry A). origins_after os e.kind) [] j (e ∷ [])

  fold-kept : (os : List ℕ) (j : List (Entry A)) → length (fold (λ os (e : Entry A). origins_after os e.kind) os j) ≡ length os + length j
  fold-kept os [] = omega arith
  fold-kept os (e ∷ j) =
      let longer : length (origins_after os e.kind) ≡ length os + 1 = length-append os (origin_next os e.kind ∷ []) in
      fold-kept (origins_after os e.kind) j ∙ omega (arith, longer)

  -- each entry has an origin
  pub origins_each : (j : List (Entry A)) → length (origins j) ≡ length j
  origins_each j = fold-kept [] j ∙ omega arith

  each_within : (j : List (Entry A)) (s : ℕ) → IsWithin (length j) (numbered (origins j) s)
  each_within j = from_the_end (λ j. (s : ℕ) → IsWithin (length j) (numbered (origins j) s)) none more j
    where
      none : (s : ℕ) → IsWithin 0 (numbered [] s)
      none zero = tt
      none (suc i) = tt

      more : (j : List (Entry A)) (e : Entry A) → ((s : ℕ) → IsWithin (length j) (numbered (origins j) s)) → (s : ℕ) → IsWithin (length (j ++ e ∷ [])) (numbered (origins (j ++ e ∷ [])) s)
      more j e before s =
          subst (λ n. IsWithin n (numbered (origins (j ++ e ∷ [])) s)) (sym (length-append j (e ∷ [])))
          (subst (λ os. IsWithin (length j + 1) (numbered os s)) (sym (origins-append j e))
          (numbered_in_both (λ _ o. IsWithin (length j + 1) o) (origins j) (origins j) 0 (origin_next (origins j) e.kind) refl tt (next e.kind) (λ s. within_more (length j) (numbered (origins j) s) (before s)) s))
        where
          size : length (origins j) ≡ length j
          size = origins_each j

          known : (o : Option ℕ) → IsWithin (length j) o → IsWithin (length j + 1) (Some (unwrap_or o (length (origins j) + 1)))
          known None h = (omega arith, omega (arith, size))
          known (Some o) h = (h.0, omega (arith, h.1))

          next : (k : EntryKind A) → IsWithin (length j + 1) (Some (origin_next (origins j) k))
          next (Do a) = (omega arith, omega (arith, size))
          next (Undo s) = (omega arith, omega (arith, size))
          next (Redo t) = known (numbered (origins j) t) (before t)

  -- the action that an origin stores
  abbrev done_at : List (Entry A) → Option ℕ → Option (Action A)
  done_at j o = option_and_then (λ o. done_by (numbered j o)) o

  -- one more entry leaves it unchanged
  done_stays : (j : List (Entry A)) (e : Entry A) (o : Option ℕ) → IsWithin (length j) o → done_at j o ≡ done_at (j ++ e ∷ []) o
  done_stays j e None h = refl
  done_stays j e (Some o) h = ap done_by (sym (numbered_within j e o h.1))

  pub action_by_origin : (base : Rows A) (j : List (Entry A)) (s : ℕ) → action_at (past base j) s ≡ option_and_then (λ o. done_by (numbered j o)) (numbered (origins j) s)
  action_by_origin base j = from_the_end (λ j. (s : ℕ) → action_at (past base j) s ≡ done_at j (numbered (origins j) s)) none more j
    where
      none : (s : ℕ) → action_at (past base []) s ≡ done_at [] (numbered (origins {A = A} []) s)
      none zero = refl
      none (suc i) = refl

      more : (j : List (Entry A)) (e : Entry A) → ((s : ℕ) → action_at (past base j) s ≡ done_at j (numbered (origins j) s)) → (s : ℕ) → action_at (past base (j ++ e ∷ [])) s ≡ done_at (j ++ e ∷ []) (numbered (origins (j ++ e ∷ [])) s)
      more j e before s =
          ap (λ p. action_at p s) (past-append base j e)
          ∙ numbered_in_both (λ r o. option_and_then (λ (r : Recorded A). r.action) r ≡ done_at (j ++ e ∷ []) o) (past base j).entries (origins j) (recorded_next (past base j) e.kind) (origin_next (origins j) e.kind)
          (recorded_each base j ∙ sym (origins_each j)) refl (next e.kind refl) stays s
          ∙ ap (λ os. done_at (j ++ e ∷ []) (numbered os s)) (sym (origins-append j e))
        where
          stays : (s : ℕ) → action_at (past base j) s ≡ done_at (j ++ e ∷ []) (numbered (origins j) s)
          stays s = before s ∙ done_stays j e (numbered (origins j) s) (each_within j s)

          -- the new entry
          here : (k : EntryKind A) → k ≡ e.kind → own_action k ≡ done_by (numbered (j ++ e ∷ []) (length (origins j) + 1))
          here k is =
              let number : length (origins j) + 1 ≡ suc (length j) = let size = origins_each j in omega (arith, size) in
              ap own_action is ∙ ap done_by (sym (numbered_next j e)) ∙ ap (λ n. done_by (numbered (j ++ e ∷ []) n)) (sym number)

          takes_none : (o : Option (Recorded A)) → (taken_back o).action ≡ None
          takes_none None = refl
          takes_none (Some r) = refl

          does : (o : Option (Action A)) → (done_again (past base j).map o).action ≡ o
          does None = refl
          does (Some a) = refl

          known : (t : ℕ) → Redo t ≡ e.kind → (o : Option ℕ) → numbered (origins j) t ≡ o → action_at (past base j) t ≡ done_by (numbered (j ++ e ∷ []) (unwrap_or o (length (origins j) + 1)))
          known t is None at = stays t ∙ ap (done_at (j ++ e ∷ [])) at ∙ here (Redo t) is
          known t is (Some o) at = stays t ∙ ap (done_at (j ++ e ∷ [])) at

          next : (k : EntryKind A) → k ≡ e.kind → (recorded_next (past base j) k).action ≡ done_by (numbered (j ++ e ∷ []) (origin_next (origins j) k))
          next (Do a) is = here (Do a) is
          next (Undo s) is = takes_none (numbered (past base j).entries s) ∙ here (Undo s) is
          next (Redo t) is = does (action_at (past base j) t) ∙ known t is (numbered (origins j) t) refl
