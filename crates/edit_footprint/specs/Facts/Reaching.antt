-- What a footprint reads and writes. Every footprint has, beside each touch of an element, a touch of its presence. So
-- two footprints that do not meet leave each other's cells alone.
use Rattle.std.proofs.Common.{inl, inr, sym, ap, ◌∙◌}
use Rattle.std.specs.Prelude.{◌≡◌, ◌⊎◌, ◌||◌, Bool, true, false, List, [], ◌∷◌, ◌++◌, None, refl, flat_map}
use Rattle.std.proofs.lemmas.Bool.{or_left, or_right, or_parts, false_from_ne_true}
use Rattle.osm_elements.specs.declared.name.Name.{Name}
use Rattle.osm_changes.specs.Prelude.{Cell, tags_at, rest_at}
use Rattle.osm_changes.specs.declared.part.Part.{Part}
use Rattle.osm_changes.specs.declared.part.Part.TheVariants.{Tags, Rest}
use Rattle.edit_footprint.specs.Touches.{Touch, presence_read, presence_written, cell_read, cell_written, rivals, is_same_touch, does, touch_set}
use Rattle.edit_footprint.specs.Footprints.{meets, writes_presence, reaches_presence, writes, reaches, reads_at, changes_at}
use Rattle.edit_footprint.specs.Facts.Meeting.{apart}
use Rattle.edit_footprint.specs.Facts.Touches.{same_touches, does-own, does-more, does-append, does-touch_set, in_first, in_second}

pub one_of : (a b : Bool) → (a || b) ≡ true → (a ≡ true) ⊎ (b ≡ true)
one_of true b h = inl refl
one_of false b h = inr h

-- a footprint has all touches of another
abbrev pub IsWithin : List Touch → List Touch → Type 0
IsWithin fewer more = (t : Touch) → does fewer t ≡ true → does more t ≡ true

-- ---- who has more touches reads and writes more

module _ (fewer more : List Touch) (within : IsWithin fewer more) where
  pub reaches_presence-within : (x : Name) → reaches_presence fewer x ≡ true → reaches_presence more x ≡ true
  reaches_presence-within x h = by (one_of (does fewer (presence_written x)) (does fewer (presence_read x)) h)
    where
      by : (does fewer (presence_written x) ≡ true) ⊎ (does fewer (presence_read x) ≡ true) → reaches_presence more x ≡ true
      by (inl i) = or_left (does more (presence_written x)) (does more (presence_read x)) (within (presence_written x) i)
      by (inr i) = or_right (does more (presence_written x)) (does more (presence_read x)) (within (presence_read x) i)

  pub writes-within : (c : Cell) → writes fewer c ≡ true → writes more c ≡ true
  writes-within c h = by (one_of (does fewer (presence_written c.name)) (does fewer (cell_written c)) h)
    where
      by : (does fewer (presence_written c.name) ≡ true) ⊎ (does fewer (cell_written c) ≡ true) → writes more c ≡ true
      by (inl i) = or_left (does more (presence_written c.name)) (does more (cell_written c)) (within (presence_written c.name) i)
      by (inr i) = or_right (does more (presence_written c.name)) (does more (cell_written c)) (within (cell_written c) i)

  pub reaches-within : (c : Cell) → reaches fewer c ≡ true → reaches more c ≡ true
  reaches-within c h = by (one_of (writes fewer c) (does fewer (cell_read c)) h)
    where
      by : (writes fewer c ≡ true) ⊎ (does fewer (cell_read c) ≡ true) → reaches more c ≡ true
      by (inl i) = or_left (writes more c) (does more (cell_read c)) (writes-within c i)
      by (inr i) = or_right (writes more c) (does more (cell_read c)) (within (cell_read c) i)

-- what a footprint does not reach, it does not write
pub not_written : (touches : List Touch) (c : Cell) → reaches touches c ≡ false → writes touches c ≡ false
not_written touches c out = (or_parts (writes touches c) (does touches (cell_read c)) out).0

pub presence_not_written : (touches : List Touch) (x : Name) → reaches_presence touches x ≡ false → writes_presence touches x ≡ false
presence_not_written touches x out = (or_parts (does touches (presence_written x)) (does touches (presence_read x)) out).0

-- who writes the presence of an element reaches both of its cells
pub whole_reached : (touches : List Touch) (c : Cell) → writes_presence touches c.name ≡ true → reaches touches c ≡ true
whole_reached touches c i =
    or_left (writes touches c) (does touches (cell_read c)) (or_left (does touches (presence_written c.name)) (does touches (cell_written c)) i)

-- ---- footprints that touch the presence of each element that they touch

abbrev pub IsRooted : List Touch → Type 0
IsRooted touches = (t : Touch) → does touches t ≡ true → reaches_presence touches t.name ≡ true

pub rooted-append : (xs ys : List Touch) → IsRooted xs → IsRooted ys → IsRooted (xs ++ ys)
rooted-append xs ys h k t i = by (one_of (does xs t) (does ys t) (sym (does-append t xs ys) ∙ i))
  where
    by : (does xs t ≡ true) ⊎ (does ys t ≡ true) → reaches_presence (xs ++ ys) t.name ≡ true
    by (inl e) = reaches_presence-within xs (xs ++ ys) (λ u. in_first u xs ys) t.name (h t e)
    by (inr e) = reaches_presence-within ys (xs ++ ys) (λ u. in_second u xs ys) t.name (k t e)

pub rooted-touch_set : (touches : List Touch) → IsRooted touches → IsRooted (touch_set touches)
rooted-touch_set touches h t i =
    reaches_presence-within touches (touch_set touches) (λ u j. does-touch_set u touches ∙ j) t.name (h t (sym (does-touch_set t touches) ∙ i))

pub rooted-flat_map : {X : Type 0} (f : X → List Touch) (xs : List X) → ((x : X) → IsRooted (f x)) → IsRooted (flat_map f xs)
rooted-flat_map f [] h = λ t i. absurd (cc)
rooted-flat_map f (x ∷ xs) h = rooted-append (f x) (flat_map f xs) (h x) (rooted-flat_map f xs h)

-- a touch of a presence alone, or in front of another touch of the same element
rooted-one : (t : Touch) → reaches_presence (t ∷ []) t.name ≡ true → IsRooted (t ∷ [])
rooted-one t h u i = by (is_same_touch u t) refl i
  where
    by : (b : Bool) → is_same_touch u t ≡ b → (b || false) ≡ true → reaches_presence (t ∷ []) u.name ≡ true
    by true e j = ap (λ (z : Touch). reaches_presence (t ∷ []) z.name) (same_touches u t e) ∙ h
    by false e j = absurd (cc)

pub rooted-written : (x : Name) → IsRooted (presence_written x ∷ [])
rooted-written x = rooted-one (presence_written x) (or_left (does (presence_written x ∷ []) (presence_written x)) (does (presence_written x ∷ []) (presence_read x)) (does-own (presence_written x) []))

pub rooted-read : (x : Name) → IsRooted (presence_read x ∷ [])
rooted-read x = rooted-one (presence_read x) (or_right (does (presence_read x ∷ []) (presence_written x)) (does (presence_read x ∷ []) (presence_read x)) (does-own (presence_read x) []))

rooted-two : (x : Name) (t : Touch) → t.name ≡ x → IsRooted (presence_read x ∷ t ∷ [])
rooted-two x t e u i = ap (reaches_presence both) (named (is_same_touch u (presence_read x)) refl i) ∙ there
  where
    both : List Touch
    both = presence_read x ∷ t ∷ []

    there : reaches_presence both x ≡ true
    there = or_right (does both (presence_written x)) (does both (presence_read x)) (does-own (presence_read x) (t ∷ []))

    named : (a : Bool) → is_same_touch u (presence_read x) ≡ a → (a || does (t ∷ []) u) ≡ true → u.name ≡ x
    named true f j = ap (λ (z : Touch). z.name) (same_touches u (presence_read x) f)
    named false f j = second (is_same_touch u t) refl j
      where
        second : (b : Bool) → is_same_touch u t ≡ b → (b || false) ≡ true → u.name ≡ x
        second true g k = ap (λ (z : Touch). z.name) (same_touches u t g) ∙ e
        second false g k = absurd (cc)

pub rooted-reads_at : (c : Cell) → IsRooted (reads_at c)
rooted-reads_at c = rooted-two c.name (cell_read c) refl

pub rooted-changes_at : (c : Cell) → IsRooted (changes_at c)
rooted-changes_at c = rooted-two c.name (cell_written c) refl

-- ---- footprints that do not meet

written_is_rival : (c : Cell) → does (rivals (cell_written c)) (cell_written c) ≡ true
written_is_rival c = by c.part
  where
    by : (p : Part) → does (rivals (cell_written (record { name = c.name; part = p }))) (cell_written (record { name = c.name; part = p })) ≡ true
    by Tags = does-own (cell_written (tags_at c.name)) (cell_read (tags_at c.name) ∷ [])
    by Rest = does-own (cell_written (rest_at c.name)) (cell_read (rest_at c.name) ∷ [])

written_is_rival_of_read : (c : Cell) → does (rivals (cell_read c)) (cell_written c) ≡ true
written_is_rival_of_read c = by c.part
  where
    by : (p : Part) → does (rivals (cell_read (record { name = c.name; part = p }))) (cell_written (record { name = c.name; part = p })) ≡ true
    by Tags = does-own (cell_written (tags_at c.name)) []
    by Rest = does-own (cell_written (rest_at c.name)) []

module _ (one two : List Touch) (none : meets one two ≡ None) where
  -- an element whose presence one writes is not touched by the other
  whole_apart : (x : Name) → does one (presence_written x) ≡ true → reaches_presence two x ≡ true → ⊥
  whole_apart x i h = by (one_of (does two (presence_written x)) (does two (presence_read x)) h)
    where
      by : (does two (presence_written x) ≡ true) ⊎ (does two (presence_read x) ≡ true) → ⊥
      by (inl k) = apart one two none (presence_written x) (presence_written x) i (does-own (presence_written x) (presence_read x ∷ [])) k
      by (inr k) = apart one two none (presence_written x) (presence_read x) i (does-more (presence_read x) (presence_written x) (presence_read x ∷ []) (does-own (presence_read x) [])) k

  -- the other does not write a presence that one reads or writes
  presence_kept : (x : Name) → reaches_presence one x ≡ true → does two (presence_written x) ≡ true → ⊥
  presence_kept x h k = by (one_of (does one (presence_written x)) (does one (presence_read x)) h)
    where
      by : (does one (presence_written x) ≡ true) ⊎ (does one (presence_read x) ≡ true) → ⊥
      by (inl i) = apart one two none (presence_written x) (presence_written x) i (does-own (presence_written x) (presence_read x ∷ [])) k
      by (inr i) = apart one two none (presence_read x) (presence_written x) i (does-own (presence_written x) []) k

  pub presence_apart : (x : Name) → reaches_presence one x ≡ true → writes_presence two x ≡ false
  presence_apart x h = false_from_ne_true (writes_presence two x) (presence_kept x h)

  pub users_apart : (x : Name) → writes_presence one x ≡ true → reaches_presence two x ≡ false
  users_apart x i = false_from_ne_true (reaches_presence two x) (whole_apart x i)

  module _ (rooted : IsRooted one) (rooted_two : IsRooted two) where
    -- the other does not write a cell that one reads or writes
    pub cells_apart : (c : Cell) → reaches one c ≡ true → writes two c ≡ false
    cells_apart c h = false_from_ne_true (writes two c)
        (λ w. by (one_of (does two (presence_written c.name)) (does two (cell_written c)) w) (one_of (writes one c) (does one (cell_read c)) h))
      where
        by_write : (does two (presence_written c.name) ≡ true) ⊎ (does two (cell_written c) ≡ true) → (does one (presence_written c.name) ≡ true) ⊎ (does one (cell_written c) ≡ true) → ⊥
        by_write (inl k) (inl i) = whole_apart c.name i (or_left (does two (presence_written c.name)) (does two (presence_read c.name)) k)
        by_write (inl k) (inr i) = presence_kept c.name (rooted (cell_written c) i) k
        by_write (inr k) (inl i) = whole_apart c.name i (rooted_two (cell_written c) k)
        by_write (inr k) (inr i) = apart one two none (cell_written c) (cell_written c) i (written_is_rival c) k

        by : (does two (presence_written c.name) ≡ true) ⊎ (does two (cell_written c) ≡ true) → (writes one c ≡ true) ⊎ (does one (cell_read c) ≡ true) → ⊥
        by w (inl i) = by_write w (one_of (does one (presence_written c.name)) (does one (cell_written c)) i)
        by (inl k) (inr i) = presence_kept c.name (rooted (cell_read c) i) k
        by (inr k) (inr i) = apart one two none (cell_read c) (cell_written c) i (written_is_rival_of_read c) k
