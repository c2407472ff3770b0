-- The touches that conflict with a touch.
use Rattle.std.proofs.Common.{inl, inr, sym, ap, ◌∙◌}
use Rattle.std.specs.Prelude.{◌≡◌, ◌⊎◌, ◌||◌, Bool, true, false, List, [], ◌∷◌, refl, cond}
use Rattle.osm_changes.specs.Prelude.{list_any}
use Rattle.edit_footprint.specs.declared.access.Access.{Access}
use Rattle.edit_footprint.specs.declared.access.Access.TheVariants.{ReadsPresence, WritesPresence, ReadsTags, WritesTags, ReadsRest, WritesRest}
use Rattle.edit_footprint.specs.Touches.{Touch, writer, reader, is_write, writer_of, reader_of, rivals, is_same_touch, does}
use Rattle.edit_footprint.specs.Facts.Touches.{same_touches, does-own, does-more}

-- some touch of the list conflicts with t
abbrev pub clash : List Touch → Touch → Bool
clash other t = list_any (does other) (rivals t)

-- a test that a touch of a list passes, and the touch that passes it
pub any_from : (p : Touch → Bool) (ts : List Touch) (t : Touch) → does ts t ≡ true → p t ≡ true → list_any p ts ≡ true
any_from p [] t i h = absurd (cc)
any_from p (u ∷ us) t i h = by (is_same_touch t u) refl i (p u) refl (λ j. any_from p us t j h)
  where
    by : (s : Bool) → is_same_touch t u ≡ s → (s || does us t) ≡ true → (b : Bool) → p u ≡ b → (does us t ≡ true → list_any p us ≡ true) → (b || list_any p us) ≡ true
    by true e j true f go = refl
    by true e j false f go = absurd (cc (sym h ∙ ap p (same_touches t u e) ∙ f))
    by false e j true f go = refl
    by false e j false f go = go j

pub record Passes (p : Touch → Bool) (ts : List Touch) : Type 0 where
  pub touch : Touch
  pub inside : does ts touch ≡ true
  pub passes : p touch ≡ true

pub any_gives : (p : Touch → Bool) (ts : List Touch) → list_any p ts ≡ true → Passes p ts
any_gives p [] h = absurd (cc)
any_gives p (u ∷ us) h = by (p u) refl h (any_gives p us)
  where
    by : (b : Bool) → p u ≡ b → (b || list_any p us) ≡ true → (list_any p us ≡ true → Passes p us) → Passes p (u ∷ us)
    by true e g go = record { touch = u; inside = does-own u us; passes = e }
    by false e g go = let later = go g in record { touch = later.touch; inside = does-more later.touch u us later.inside; passes = later.passes }

-- ---- the accesses of a touch and of its rivals

writer_twice : (a : Access) → writer (writer a) ≡ writer a
writer_twice ReadsPresence = refl
writer_twice WritesPresence = refl
writer_twice ReadsTags = refl
writer_twice WritesTags = refl
writer_twice ReadsRest = refl
writer_twice WritesRest = refl

writer_of_reader : (a : Access) → writer (reader a) ≡ writer a
writer_of_reader ReadsPresence = refl
writer_of_reader WritesPresence = refl
writer_of_reader ReadsTags = refl
writer_of_reader WritesTags = refl
writer_of_reader ReadsRest = refl
writer_of_reader WritesRest = refl

reader_of_writer : (a : Access) → reader (writer a) ≡ reader a
reader_of_writer ReadsPresence = refl
reader_of_writer WritesPresence = refl
reader_of_writer ReadsTags = refl
reader_of_writer WritesTags = refl
reader_of_writer ReadsRest = refl
reader_of_writer WritesRest = refl

writer_writes : (a : Access) → is_write (writer a) ≡ true
writer_writes ReadsPresence = refl
writer_writes WritesPresence = refl
writer_writes ReadsTags = refl
writer_writes WritesTags = refl
writer_writes ReadsRest = refl
writer_writes WritesRest = refl

itself : (a : Access) → a ≡ cond (is_write a) (writer a) (reader a)
itself ReadsPresence = refl
itself WritesPresence = refl
itself ReadsTags = refl
itself WritesTags = refl
itself ReadsRest = refl
itself WritesRest = refl

-- a rival writes the same, or reads the same if the touch writes
pub which_rival : (t u : Touch) → does (rivals t) u ≡ true → (u ≡ writer_of t) ⊎ ((is_write t.access ≡ true) × (u ≡ reader_of t))
which_rival t u h = by (is_same_touch u (writer_of t)) refl (is_write t.access) refl h
  where
    by : (s : Bool) → is_same_touch u (writer_of t) ≡ s → (w : Bool) → is_write t.access ≡ w → (s || does (cond w (reader_of t ∷ []) []) u) ≡ true
        → (u ≡ writer_of t) ⊎ ((is_write t.access ≡ true) × (u ≡ reader_of t))
    by true e w f g = inl (same_touches u (writer_of t) e)
    by false e true f g = inr (f, one (is_same_touch u (reader_of t)) refl g)
      where
        one : (b : Bool) → is_same_touch u (reader_of t) ≡ b → (b || false) ≡ true → u ≡ reader_of t
        one true i j = same_touches u (reader_of t) i
        one false i j = absurd (cc)
    by false e false f g = absurd (cc)

-- the rivals of a touch have its name
pub rival_name : (t u : Touch) → does (rivals t) u ≡ true → u.name ≡ t.name
rival_name t u h = by (which_rival t u h)
  where
    by : (u ≡ writer_of t) ⊎ ((is_write t.access ≡ true) × (u ≡ reader_of t)) → u.name ≡ t.name
    by (inl e) = ap (λ (z : Touch). z.name) e
    by (inr (w, e)) = ap (λ (z : Touch). z.name) e

-- who writes has both the writer and the reader of the same as rivals; who reads has the writer
writer_is_rival : (t : Touch) → does (rivals t) (writer_of t) ≡ true
writer_is_rival t = does-own (writer_of t) (cond (is_write t.access) (reader_of t ∷ []) [])

reader_is_rival : (t : Touch) → is_write t.access ≡ true → does (rivals t) (reader_of t) ≡ true
reader_is_rival t w = ap (λ b. does (writer_of t ∷ cond b (reader_of t ∷ []) []) (reader_of t)) w ∙ does-more (reader_of t) (writer_of t) (reader_of t ∷ []) (does-own (reader_of t) [])

-- a touch is a rival of its rivals
pub rival_either_way : (t u : Touch) → does (rivals t) u ≡ true → does (rivals u) t ≡ true
rival_either_way t u h = by (which_rival t u h)
  where
    at : Access → Touch
    at a = record { name = t.name; access = a }

    -- the rivals of the writer
    of_writer : (b : Bool) → is_write t.access ≡ b → does (rivals (writer_of t)) t ≡ true
    of_writer true e =
        ap (λ a. does (rivals (writer_of t)) (at a)) (itself t.access ∙ ap (λ b. cond b (writer t.access) (reader t.access)) e ∙ sym (writer_twice t.access))
        ∙ writer_is_rival (writer_of t)
    of_writer false e =
        ap (λ a. does (rivals (writer_of t)) (at a)) (itself t.access ∙ ap (λ b. cond b (writer t.access) (reader t.access)) e ∙ sym (reader_of_writer t.access))
        ∙ reader_is_rival (writer_of t) (writer_writes t.access)

    by : (u ≡ writer_of t) ⊎ ((is_write t.access ≡ true) × (u ≡ reader_of t)) → does (rivals u) t ≡ true
    by (inl e) = ap (λ z. does (rivals z) t) e ∙ of_writer (is_write t.access) refl
    by (inr (w, e)) =
        ap (λ z. does (rivals z) t) e
        ∙ ap (λ a. does (rivals (reader_of t)) (at a)) (itself t.access ∙ ap (λ b. cond b (writer t.access) (reader t.access)) w ∙ sym (writer_of_reader t.access))
        ∙ writer_is_rival (reader_of t)
