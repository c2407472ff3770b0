-- Lists in which one name replaces another.
use Rattle.std.proofs.Common.{sym, ap, ◌∙◌}
use Rattle.std.specs.Prelude.{◌≡◌, ℕ, Bool, true, false, not, ◌&&◌, ◌||◌, List, [], ◌∷◌, map, refl, cond}
use Rattle.edit_simple.specs.Prelude.{is_same, is_among, are_members, is_long}
use Rattle.osm_elements.specs.declared.name.Name.{Name}
use Rattle.edit_topology.specs.Renaming.{renamed, renamed_members}

-- the old name is gone
pub renamed_gone : (x y : Name) → is_same x y ≡ false → (names : List Name) → is_among (map (renamed x y) names) x ≡ false
renamed_gone x y apart [] = refl
renamed_gone x y apart (n ∷ ns) = by (is_same x n) refl (renamed_gone x y apart ns)
  where
    by : (b : Bool) → is_same x n ≡ b → is_among (map (renamed x y) ns) x ≡ false → (is_same x (cond b y n) || is_among (map (renamed x y) ns) x) ≡ false
    by true s rest = ap (λ b. b || is_among (map (renamed x y) ns) x) apart ∙ rest
    by false s rest = ap (λ b. b || is_among (map (renamed x y) ns) x) s ∙ rest

-- each name in the new list is the new name, or was in the old list
pub renamed_within : (x y e : Name) (names : List Name) → is_among (map (renamed x y) names) e ≡ true → (is_same e y || is_among names e) ≡ true
renamed_within x y e [] h = absurd (cc)
renamed_within x y e (n ∷ ns) h = by (is_same x n) h (is_same e y) refl (is_same e n) refl (renamed_within x y e ns)
  where
    by : (b : Bool) → (is_same e (cond b y n) || is_among (map (renamed x y) ns) e) ≡ true → (c : Bool) → is_same e y ≡ c → (d : Bool) → is_same e n ≡ d
        → (is_among (map (renamed x y) ns) e ≡ true → (is_same e y || is_among ns e) ≡ true) → (c || (d || is_among ns e)) ≡ true
    by b i true p d q rest = refl
    by b i false p true q rest = refl
    by true i false p false q rest = ap (λ c. c || is_among ns e) (sym p) ∙ rest (ap (λ c. c || is_among (map (renamed x y) ns) e) (sym p) ∙ i)
    by false i false p false q rest = ap (λ c. c || is_among ns e) (sym p) ∙ rest (ap (λ c. c || is_among (map (renamed x y) ns) e) (sym q) ∙ i)

pub names-renamed_members : (x y : Name) (members : List (Name × List ℕ)) → map (λ e. e.0) (renamed_members x y members) ≡ map (renamed x y) (map (λ e. e.0) members)
names-renamed_members x y [] = refl
names-renamed_members x y (e ∷ es) = ap (λ l. renamed x y e.0 ∷ l) (names-renamed_members x y es)

pub are_members-renamed : (x y : Name) (members : List (Name × List ℕ)) → are_members (renamed_members x y members) ≡ are_members members
are_members-renamed x y [] = refl
are_members-renamed x y (e ∷ es) = ap (λ b. not (is_long e.1) && b) (are_members-renamed x y es)

-- a list without the old name is unchanged
pub renamed_members_same : (x y : Name) (members : List (Name × List ℕ)) → is_among (map (λ e. e.0) members) x ≡ false → renamed_members x y members ≡ members
renamed_members_same x y [] h = refl
renamed_members_same x y (e ∷ es) h = by (is_same x e.0) h (renamed_members_same x y es)
  where
    by : (b : Bool) → (b || is_among (map (λ m. m.0) es) x) ≡ false → (is_among (map (λ m. m.0) es) x ≡ false → renamed_members x y es ≡ es)
        → (cond b y e.0, e.1) ∷ renamed_members x y es ≡ e ∷ es
    by true i rest = absurd (cc)
    by false i rest = ap (λ l. e ∷ l) (rest i)
