-- The active entries by the touches of their footprints. (Footprints are this project's.)
use Rattle.std.specs.Prelude.{◌≡◌, ◌<◌, ◌≤◌, ◌++◌, ℕ, Bool, true, false, not, T, List, [], ◌∷◌, Option, Some, None, map, filter, fold, flat_map}
use Rattle.osm_changes.specs.Prelude.{list_all, is_lt, nat_cmp, put, is_sorted, name_cmp, has_none, listed, but}
use Rattle.rising_lists.specs.Rising.{is_among}
use Rattle.osm_elements.specs.declared.name.Name.{Name}
use Rattle.edit_footprint.specs.Touches.{Touch, rivals, touch_cmp, does}

-- the touches of the active entries in order, each with the numbers of the entries whose footprints have it, rising
abbrev pub Held : Type 0
Held = List (Touch × List ℕ)

-- the touches rise, and each has a number
abbrev pub AreHeld : Held → Type 0
AreHeld held = T (is_sorted touch_cmp held) × T (list_all (λ r. not (has_none r.1)) held)

-- the numbers of the entries that hold a touch
abbrev pub holding : Held → Touch → List ℕ
holding held t = listed touch_cmp held t

-- an entry holds a touch
abbrev pub holds : Held → Touch → ℕ → Bool
holds held t n = is_among nat_cmp (holding held t) n

-- the number is greater than those of all entries
abbrev pub IsNext : Held → ℕ → Type 0
IsNext held seq = (t : Touch) (n : ℕ) → holds held t n ≡ true → n < seq

-- the entry holds no touches except the given ones
abbrev pub HoldsOnly : Held → List Touch → ℕ → Type 0
HoldsOnly held touches seq = (t : Touch) → holds held t seq ≡ true → does touches t ≡ true

-- the holders after an entry with the greatest number becomes active: each of its touches gets its number
abbrev pub standing : Held → List Touch → ℕ → Held
standing held touches seq = fold (λ (h : Held) t. put touch_cmp t (holding h t ++ seq ∷ []) h) held touches

-- the holders after an entry ceases to be active: no touch has its number, and a touch without numbers is removed
abbrev pub fallen : Held → ℕ → Held
fallen held seq = filter (λ r. not (has_none r.1)) (map (λ r. (r.0, but nat_cmp seq r.1)) held)

-- the entry n comes after the entry seq, and holds the touch t, which is one of the given touches
abbrev pub Meets : Held → List Touch → ℕ → ℕ → Touch → Type 0
Meets held touches seq n t = (seq < n) × (does touches t ≡ true) × (holds held t n ≡ true)

-- n is the first entry after seq that holds one of the touches, and x is the least name of a touch that it holds
pub record IsFirst (held : Held) (touches : List Touch) (seq n : ℕ) (x : Name) : Type 0 where
  pub touch : Touch
  pub name : touch.name ≡ x
  pub meets : Meets held touches seq n touch
  pub none_sooner : (m : ℕ) (t : Touch) → Meets held touches seq m t → n ≤ m
  pub none_less : (t : Touch) → Meets held touches seq n t → is_lt (name_cmp t.name x) ≡ false

-- the first entry after seq that holds one of the touches, with the least name of such a touch; `None` if there is no
-- such entry
abbrev pub IsFirstHolder : Held → List Touch → ℕ → Option (ℕ × Name) → Type 0
IsFirstHolder held touches seq None = (n : ℕ) (t : Touch) → Meets held touches seq n t → ⊥
IsFirstHolder held touches seq (Some found) = IsFirst held touches seq found.0 found.1

-- the first entry after seq that holds a touch which conflicts with one of the given touches
abbrev pub IsFirstAfter : Held → List Touch → ℕ → Option (ℕ × Name) → Type 0
IsFirstAfter held touches seq found = IsFirstHolder held (flat_map rivals touches) seq found
