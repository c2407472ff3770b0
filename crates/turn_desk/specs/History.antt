-- A history: a list of entries, each under the number of the seat that made it.
use Rattle.std.specs.Prelude.{◌≡◌, ◌≢◌, ◌==◌, ◌⊎◌, ℕ, List, [], ◌∷◌, ◌++◌, map, if◌then◌else◌, All}

abbrev pub History : Type 0 → Type 0
History E = List (ℕ × E)

-- the list begins with the second list; for example, a history begins with what a seat has seen of it
abbrev pub BeginsWith : {X : Type 0} → List X → List X → Type 0
BeginsWith {X} list front = (rest : List X) × (list ≡ front ++ rest)

module _ {E : Type 0} where
  -- the entries in order, without the numbers of their seats
  abbrev pub entries : History E → List E
  entries = map (λ p. p.1)

  -- the entries under the number n, in order
  abbrev pub entries_by : ℕ → History E → List E
  entries_by n [] = []
  entries_by n (p ∷ h) = if n == p.0 then p.1 ∷ entries_by n h else entries_by n h

  -- the number is one of those of a list of numbers with their entries
  abbrev pub IsAmong : ℕ → List (ℕ × List E) → Type 0
  IsAmong n [] = ⊥
  IsAmong n (k ∷ ks) = (n ≡ k.0) ⊎ IsAmong n ks

  -- no number is there twice
  abbrev pub AreApart : List (ℕ × List E) → Type 0
  AreApart [] = Unit {0}
  AreApart (k ∷ ks) = All (λ (o : ℕ × List E). o.0 ≢ k.0) ks × AreApart ks

  -- the list is unchanged, or has gained one entry at its end
  abbrev pub GainsAtMostOne : List E → List E → Type 0
  GainsAtMostOne before after = (after ≡ before) ⊎ ((e : E) × (after ≡ before ++ e ∷ []))

-- `answers f before call reply after`: over the fixed part f, a call made at the list `before` may get this reply and
-- lead to the list `after`
module _ {F E C P : Type 0} (answers : F → List E → C → P → List E → Type 0) (f : F) where
  -- some call made at the list may append the entry
  abbrev pub MayFollow : List E → E → Type 0
  MayFollow before e = (call : C) × (reply : P) × answers f before call reply (before ++ e ∷ [])

  -- each of the later entries may follow the entries before it
  abbrev pub MayAllFollow : List E → List E → Type 0
  MayAllFollow before [] = Unit {0}
  MayAllFollow before (e ∷ later) = MayFollow before e × MayAllFollow (before ++ e ∷ []) later

  -- a history is legal if each entry is one that some call may append to the entries before it
  abbrev pub IsLegal : History E → Type 0
  IsLegal h = MayAllFollow [] (entries h)
