-- What a table of last changes says after one more change.
use Rattle.std.proofs.Common.{◌≡◌, ◌||◌, ◌+◌, ◌++◌, ◌<◌, ℕ, Bool, true, false, List, [], ◌∷◌, Some, unwrap_or, length, take, get_or, map, nat_eq, refl, cond, sym, ap, ◌∙◌, arith}
use Rattle.std.proofs.lemmas.Bool.Decides.{nat_tests}
use Rattle.std.proofs.lemmas.List.{take_more, map-append}
use Rattle.std.proofs.lemmas.List.Folds.{list_any-append}
use Rattle.std.specs.Map.{lookup}
use Rattle.edit_footprint.specs.Facts.Touches.{same_touches, touch_either_way}
use Rattle.edit_footprint.specs.Touches.{Touch, is_same_touch, does}
use Rattle.room_history.specs.Prelude.{Author, Change, Entry}
use Rattle.room_history.specs.declared.changers.LastChange.{LastChange}
use Rattle.room_history.specs.Inner.Changers.{by_another, changed_again, last_at, never, written_by}

abbrev Table : Type 0
Table = List (Touch × LastChange)

-- a table with another row for one touch: its last changes are replaced, and no others
pub replaced : (table table' : Table) (t : Touch) (w : LastChange) → ((q : Touch) → lookup (is_same_touch q) table' ≡ cond (is_same_touch t q) (Some w) (lookup (is_same_touch q) table))
    → (f : LastChange → LastChange) → w ≡ f (last_at table t) → (q : Touch) → last_at table' q ≡ cond (is_same_touch q t) (f (last_at table q)) (last_at table q)
replaced table table' t w updates f is q = ap (λ o. unwrap_or o never) (updates q ∙ ap (λ b. cond b (Some w) (lookup (is_same_touch q) table)) (touch_either_way t q)) ∙ by (is_same_touch q t) refl
  where
    by : (b : Bool) → is_same_touch q t ≡ b → unwrap_or (cond b (Some w) (lookup (is_same_touch q) table)) never ≡ cond b (f (last_at table q)) (last_at table q)
    by true e = is ∙ ap (λ z. f (last_at table z)) (sym (same_touches q t e))
    by false e = refl

-- ---- changes in order

module _ {A : Type 0} where
  next_writes : (cs : List (Change A)) (i : ℕ) (d : Change A) → i < length cs → d ≡ get_or cs i d → map written_by (take (i + 1) cs) ≡ map written_by (take i cs) ++ written_by d ∷ []
  next_writes cs i d within is = ap (map written_by) (take_more cs i d within ∙ ap (λ z. take i cs ++ z ∷ []) (sym is)) ∙ map-append written_by (take i cs) (d ∷ [])

  -- a second change by the same entry changes nothing
  again_twice : (j : List (Entry A)) (author : Author) (k : ℕ) (c : LastChange) → changed_again j author k (changed_again j author k c) ≡ changed_again j author k c
  again_twice j author k c = by (nat_eq c.last k) refl
    where
      new : LastChange
      new = record { last = k; before = by_another j author c }

      by : (b : Bool) → nat_eq c.last k ≡ b → changed_again j author k (cond b c new) ≡ cond b c new
      by true e = ap (λ b. cond b c (record { last = k; before = by_another j author c })) e
      by false e = ap (λ b. cond b new (record { last = k; before = by_another j author new })) (let same : nat_eq k k ≡ true = grind (arith, nat_tests) in same)

  -- the last changes after one more change
  pub one_more : (j : List (Entry A)) (author : Author) (k : ℕ) (cs : List (Change A)) (i : ℕ) (d : Change A) → i < length cs → d ≡ get_or cs i d → (before middle after : Table)
      → ((t : Touch) → last_at middle t ≡ cond (does (map written_by (take i cs)) t) (changed_again j author k (last_at before t)) (last_at before t))
      → ((t : Touch) → last_at after t ≡ cond (is_same_touch t (written_by d)) (changed_again j author k (last_at middle t)) (last_at middle t))
      → (t : Touch) → last_at after t ≡ cond (does (map written_by (take (i + 1) cs)) t) (changed_again j author k (last_at before t)) (last_at before t)
  one_more j author k cs i d within is before middle after h g t =
      g t ∙ ap (λ c. cond (is_same_touch t (written_by d)) (changed_again j author k c) c) (h t)
      ∙ by (is_same_touch t (written_by d)) (does (map written_by (take i cs)) t)
      ∙ ap (λ b. cond b (changed_again j author k (last_at before t)) (last_at before t)) (sym longer)
    where
      longer : does (map written_by (take (i + 1) cs)) t ≡ (does (map written_by (take i cs)) t || (is_same_touch t (written_by d) || false))
      longer = ap (λ ts. does ts t) (next_writes cs i d within is) ∙ list_any-append (is_same_touch t) (map written_by (take i cs)) (written_by d ∷ [])

      by : (s p : Bool) → cond s (changed_again j author k (cond p (changed_again j author k (last_at before t)) (last_at before t))) (cond p (changed_again j author k (last_at before t)) (last_at before t))
          ≡ cond (p || (s || false)) (changed_again j author k (last_at before t)) (last_at before t)
      by true true = again_twice j author k (last_at before t)
      by true false = refl
      by false true = refl
      by false false = refl
