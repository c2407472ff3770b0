-- Facts about the footprint of any action. It rises, and touches the presence of each element that it touches. It
-- writes the presence of what the action owns, and reaches the action's subjects and the node that an unglue takes from
-- its way. A cell that it does not write keeps its and an element whose presence it does not write stays present or
-- absent. The same rows refer to a name whose presence it does not touch.
use Rattle.std.proofs.Common.{sym, ap, ◌∙◌}
use Rattle.std.specs.Prelude.{◌≡◌, ◌&&◌, ◌||◌, Bool, true, false, not, List, [], ◌∷◌, ◌++◌, Option, Some, None, map, filter, is_some, refl, flat_map, option_to_list}
use Rattle.std.proofs.lemmas.Bool.{or_left, or_right, or_parts, false_from_ne_true}
use Rattle.edit_actions.specs.Prelude.{Rows, is_among, row_at, is_among-append, row_references, is_among-passing, rest_at, tags_at, both_at, is_same_cell, half_at, cell_of, differing, change_at, changed_cells, not_differing, cells-differences, same_cells, same_presence, has-append, after, changes, names_but}
use Rattle.osm_changes.specs.Cells.{has}
use Rattle.osm_changes.specs.Facts.Cells.{has-passing}
use Rattle.osm_changes.specs.Prelude.{is_present, there_by_half}
use Rattle.osm_elements.specs.declared.name.Name.{Name}
use Rattle.osm_changes.specs.declared.cell.Cell.{Cell}
use Rattle.osm_changes.specs.declared.change.Change.{Change}
use Rattle.osm_changes.specs.declared.half.Half.{Half}
use Rattle.osm_changes.specs.declared.part.Part.TheVariants.{Tags}
use Rattle.room_interface.specs.declared.action.Action.{Action}
use Rattle.edit_footprint.specs.Touches.{Touch, presence_read, presence_written, cell_read, cell_written, does, IsFootprint}
use Rattle.edit_footprint.specs.Footprints.{half_references, owned, subjects, half_touches, touches_of, begun_or_ceased, unglued_from, cells_read, reads_at, changes_at, writes_presence, reaches_presence, writes, reaches, footprint_of, footprint}
use Rattle.edit_footprint.specs.Facts.Halves.{references_by_half}
use Rattle.edit_footprint.specs.Facts.Reaching.{IsWithin, writes-within, IsRooted, rooted-append, rooted-touch_set, rooted-flat_map, rooted-written, rooted-read, rooted-reads_at, rooted-changes_at}
use Rattle.edit_footprint.specs.Facts.Touches.{does-own, does-more, does-each, does-touch_set, IsFootprint-touch_set, in_first, in_second}

-- tests are equal if neither passes without the other
alike : (a b : Bool) → (not a && b) ≡ false → (not b && a) ≡ false → b ≡ a
alike true true e f = refl
alike true false e f = absurd (cc)
alike false true e f = absurd (cc)
alike false false e f = refl

-- touches of one item of a list are touches of the list
does-flat_map : (f : Cell → List Touch) (t : Touch) (cells : List Cell) (c : Cell) → has cells c ≡ true → does (f c) t ≡ true → does (flat_map f cells) t ≡ true
does-flat_map f t [] c i h = absurd (cc)
does-flat_map f t (d ∷ ds) c i h = by (is_same_cell c d) refl i (λ j. does-flat_map f t ds c j h)
  where
    by : (b : Bool) → is_same_cell c d ≡ b → (b || has ds c) ≡ true → (has ds c ≡ true → does (flat_map f ds) t ≡ true) → does (f d ++ flat_map f ds) t ≡ true
    by true e j go = in_first t (f d) (flat_map f ds) (ap (λ q. does (f q) t) (sym (same_cells c d e)) ∙ h)
    by false e j go = in_second t (f d) (flat_map f ds) (go j)

-- the presences of names, one by one
each_is_flat : (f : Name → Touch) (names : List Name) → map f names ≡ flat_map (λ x. f x ∷ []) names
each_is_flat f [] = refl
each_is_flat f (x ∷ xs) = ap (λ l. f x ∷ l) (each_is_flat f xs)

rooted-each : (f : Name → Touch) → ((x : Name) → IsRooted (f x ∷ [])) → (names : List Name) → IsRooted (map f names)
rooted-each f h names t i =
    ap (λ l. reaches_presence l t.name) (each_is_flat f names) ∙ rooted-flat_map (λ x. f x ∷ []) names h t (ap (λ l. does l t) (sym (each_is_flat f names)) ∙ i)

module _ {A : Type 0} where
  -- if a half neither begins nor ceases to refer to a name, it refers to it after the change exactly if it did before
  not_begun_or_ceased : (c : Change A) (e : Name) → is_among (begun_or_ceased c) e ≡ false → is_among (half_references c.after) e ≡ is_among (half_references c.before) e
  not_begun_or_ceased c e h =
      let before = half_references c.before in
      let after = half_references c.after in
      let neither = or_parts _ _ (sym (is_among-append e (names_but before after) (names_but after before)) ∙ h) in
      alike (is_among before e) (is_among after e)
      (sym (is_among-passing (λ z. not (is_among before z)) after e) ∙ neither.1) (sym (is_among-passing (λ z. not (is_among after z)) before e) ∙ neither.0)

  -- if no change begins or ceases to refer to a name, neither does the change of a listed cell
  none_at : (m n : Rows A) (e : Name) (cells : List Cell) → is_among (flat_map begun_or_ceased (map (change_at m n) cells)) e ≡ false
      → (c : Cell) → has cells c ≡ true → is_among (begun_or_ceased (change_at m n c)) e ≡ false
  none_at m n e [] h c i = absurd (cc)
  none_at m n e (d ∷ ds) h c i = by (is_same_cell c d) refl i (none_at m n e ds parts.1 c)
    where
      parts : (is_among (begun_or_ceased (change_at m n d)) e ≡ false) × (is_among (flat_map begun_or_ceased (map (change_at m n) ds)) e ≡ false)
      parts = or_parts _ _ (sym (is_among-append e (begun_or_ceased (change_at m n d)) (flat_map begun_or_ceased (map (change_at m n) ds))) ∙ h)

      by : (b : Bool) → is_same_cell c d ≡ b → (b || has ds c) ≡ true → (has ds c ≡ true → is_among (begun_or_ceased (change_at m n c)) e ≡ false) → is_among (begun_or_ceased (change_at m n c)) e ≡ false
      by true s j rest = ap (λ q. is_among (begun_or_ceased (change_at m n q)) e) (same_cells c d s) ∙ parts.0
      by false s j rest = rest j

  -- the changes of cells, one by one
  flat-changes : (f : Change A → List Touch) (m n : Rows A) (cells : List Cell) → flat_map f (map (change_at m n) cells) ≡ flat_map (λ c. f (change_at m n c)) cells
  flat-changes f m n [] = refl
  flat-changes f m n (c ∷ cs) = ap (λ l. f (change_at m n c) ++ l) (flat-changes f m n cs)

  -- the touches of a changed cell write it, and touch its element's presence
  half_touches_write : (c : Cell) (before after : Option (Half A)) → writes (half_touches c before after) c ≡ true
  half_touches_write c (Some h) (Some k) =
      or_right (does (changes_at c) (presence_written c.name)) (does (changes_at c) (cell_written c)) (does-more (cell_written c) (presence_read c.name) (cell_written c ∷ []) (does-own (cell_written c) []))
  half_touches_write c None after = or_left (does (presence_written c.name ∷ []) (presence_written c.name)) (does (presence_written c.name ∷ []) (cell_written c)) (does-own (presence_written c.name) [])
  half_touches_write c (Some h) None = or_left (does (presence_written c.name ∷ []) (presence_written c.name)) (does (presence_written c.name ∷ []) (cell_written c)) (does-own (presence_written c.name) [])

  rooted-half_touches : (c : Cell) (before after : Option (Half A)) → IsRooted (half_touches c before after)
  rooted-half_touches c (Some h) (Some k) = rooted-changes_at c
  rooted-half_touches c None after = rooted-written c.name
  rooted-half_touches c (Some h) None = rooted-written c.name

  -- a footprint rises, and touches the presence of each element that it touches
  pub IsFootprint-footprint_of : (a : Action A) (cs : List (Change A)) → IsFootprint (footprint_of a cs)
  IsFootprint-footprint_of a cs = IsFootprint-touch_set (map presence_written (owned a) ++ flat_map touches_of cs ++ map presence_read (flat_map begun_or_ceased cs) ++ flat_map reads_at (cells_read a cs))

  pub rooted-footprint_of : (a : Action A) (cs : List (Change A)) → IsRooted (footprint_of a cs)
  rooted-footprint_of a cs =
      rooted-touch_set (map presence_written (owned a) ++ flat_map touches_of cs ++ map presence_read (flat_map begun_or_ceased cs) ++ flat_map reads_at (cells_read a cs))
      (rooted-append (map presence_written (owned a) ++ flat_map touches_of cs ++ map presence_read (flat_map begun_or_ceased cs)) (flat_map reads_at (cells_read a cs))
      (rooted-append (map presence_written (owned a) ++ flat_map touches_of cs) (map presence_read (flat_map begun_or_ceased cs))
      (rooted-append (map presence_written (owned a)) (flat_map touches_of cs) (rooted-each presence_written rooted-written (owned a))
      (rooted-flat_map touches_of cs (λ c. rooted-half_touches (cell_of c) c.before c.after)))
      (rooted-each presence_read rooted-read (flat_map begun_or_ceased cs)))
      (rooted-flat_map reads_at (cells_read a cs) rooted-reads_at))

  module _ (m : Rows A) (a : Action A) where
    -- the four parts of the footprint: what the action owns, what it changes, what begins or ceases to be referred to,
    -- and what it only reads
    abbrev whole : List Touch
    whole = map presence_written (owned a)

    abbrev changing : List Touch
    changing = flat_map touches_of (changes m a)

    abbrev naming : List Touch
    naming = map presence_read (flat_map begun_or_ceased (changes m a))

    abbrev looking : List Touch
    looking = flat_map reads_at (cells_read a (changes m a))

    -- the cells of the node that an unglue takes from its way
    abbrev pub from : List Cell
    from = flat_map both_at (option_to_list (unglued_from a (changes m a)))

    inside : IsWithin (whole ++ changing ++ naming ++ looking) (footprint m a)
    inside t i = does-touch_set t (whole ++ changing ++ naming ++ looking) ∙ i

    pub owned_inside : (x : Name) → is_among (owned a) x ≡ true → writes_presence (footprint m a) x ≡ true
    owned_inside x own =
        inside (presence_written x) (in_first (presence_written x) (whole ++ changing ++ naming) looking
        (in_first (presence_written x) (whole ++ changing) naming (in_first (presence_written x) whole changing (does-each _ (owned a) x ∙ own))))

    change_inside : (c : Cell) → has (differing m (after m a)) c ≡ true → IsWithin (touches_of (change_at m (after m a) c)) (footprint m a)
    change_inside c i t j =
        inside t (in_first t (whole ++ changing ++ naming) looking
        (in_first t (whole ++ changing) naming (in_second t whole changing
        (ap (λ l. does l t) (flat-changes touches_of m (after m a) (differing m (after m a)))
        ∙ does-flat_map (λ d. touches_of (change_at m (after m a) d)) t (differing m (after m a)) c i j))))

    pub changed_inside : (c : Cell) → has (differing m (after m a)) c ≡ true → writes (footprint m a) c ≡ true
    changed_inside c i =
        writes-within (touches_of (change_at m (after m a) c)) (footprint m a) (change_inside c i) c (half_touches_write c (half_at m c) (half_at (after m a) c))

    read_inside : (c : Cell) → has (cells_read a (changes m a)) c ≡ true → reaches (footprint m a) c ≡ true
    read_inside c i =
        or_right (writes (footprint m a) c) (does (footprint m a) (cell_read c))
        (inside (cell_read c) (in_second (cell_read c) (whole ++ changing ++ naming) looking
        (does-flat_map reads_at (cell_read c) (cells_read a (changes m a)) c i (does-more (cell_read c) (presence_read c.name) (cell_read c ∷ []) (does-own (cell_read c) [])))))

    pub subjects_inside : (c : Cell) → has (subjects a) c ≡ true → reaches (footprint m a) c ≡ true
    subjects_inside c own = by (has (changed_cells (changes m a)) c) refl
      where
        left : List Cell
        left = filter (λ d. not (has (changed_cells (changes m a)) d)) (subjects a)

        by : (b : Bool) → has (changed_cells (changes m a)) c ≡ b → reaches (footprint m a) c ≡ true
        by true e =
            or_left (writes (footprint m a) c) (does (footprint m a) (cell_read c)) (changed_inside c (ap (λ l. has l c) (sym (cells-differences m (after m a))) ∙ e))
        by false e =
            read_inside c (has-append c left from ∙ or_left (has left c) (has from c)
            (has-passing (λ d. not (has (changed_cells (changes m a)) d)) (subjects a) c ∙ ap (λ b. not b && has (subjects a) c) e ∙ own))

    pub not_a_subject : (c : Cell) → reaches (footprint m a) c ≡ false → has (subjects a) c ≡ false
    not_a_subject c out = false_from_ne_true (has (subjects a) c) (λ own. cc (sym (subjects_inside c own) ∙ out))

    pub from_inside : (c : Cell) → has from c ≡ true → reaches (footprint m a) c ≡ true
    from_inside c own =
        let left = filter (λ d. not (has (changed_cells (changes m a)) d)) (subjects a) in
        read_inside c (has-append c left from ∙ or_right (has left c) (has from c) own)

    pub halves_outside : (c : Cell) → writes (footprint m a) c ≡ false → half_at (after m a) c ≡ half_at m c
    halves_outside c out = by (has (differing m (after m a)) c) refl
      where
        by : (b : Bool) → has (differing m (after m a)) c ≡ b → half_at (after m a) c ≡ half_at m c
        by true i = absurd (cc (sym (changed_inside c i) ∙ out))
        by false e = sym (not_differing m (after m a) c e)

    -- a half that comes or goes gives the touch of its element's presence
    comes_or_goes : (x : Name) (o p : Option (Half A)) → (does (half_touches (tags_at x) o p) (presence_written x) ≡ true → ⊥) → is_some p ≡ is_some o
    comes_or_goes x (Some h) (Some k) none = refl
    comes_or_goes x None p none = absurd (none (does-own (presence_written x) []))
    comes_or_goes x (Some h) None none = absurd (none (does-own (presence_written x) []))

    pub presence_outside : (x : Name) → writes_presence (footprint m a) x ≡ false → is_present (after m a) x ≡ is_present m x
    presence_outside x out = by (has (differing m (after m a)) (tags_at x)) refl
      where
        by : (b : Bool) → has (differing m (after m a)) (tags_at x) ≡ b → is_present (after m a) x ≡ is_present m x
        by true i =
            there_by_half Tags (row_at (after m a) x)
            ∙ comes_or_goes x (half_at m (tags_at x)) (half_at (after m a) (tags_at x)) (λ j. cc (sym (change_inside (tags_at x) i (presence_written x) j) ∙ out))
            ∙ sym (there_by_half Tags (row_at m x))
        by false e = same_presence Tags (row_at (after m a) x) (row_at m x) (sym (not_differing m (after m a) (tags_at x) e))

    pub namers_outside : (e : Name) → reaches_presence (footprint m a) e ≡ false → (y : Name) → is_among (row_references (row_at (after m a) y)) e ≡ is_among (row_references (row_at m y)) e
    namers_outside e out y =
        ap (λ l. is_among l e) (references_by_half (row_at (after m a) y)) ∙ by (has (differing m (after m a)) (rest_at y)) refl ∙ ap (λ l. is_among l e) (sym (references_by_half (row_at m y)))
      where
        -- otherwise the footprint would read the presence
        none : is_among (flat_map begun_or_ceased (changes m a)) e ≡ false
        none = by_naming (is_among (flat_map begun_or_ceased (changes m a)) e) refl
          where
            by_naming : (b : Bool) → is_among (flat_map begun_or_ceased (changes m a)) e ≡ b → b ≡ false
            by_naming true i =
                absurd (cc (sym (inside (presence_read e) (in_first (presence_read e) (whole ++ changing ++ naming) looking
                (in_second (presence_read e) (whole ++ changing) naming (does-each _ (flat_map begun_or_ceased (changes m a)) e ∙ i)))) ∙ (or_parts (does (footprint m a) (presence_written e)) (does (footprint m a) (presence_read e)) out).1))
            by_naming false i = refl

        by : (b : Bool) → has (differing m (after m a)) (rest_at y) ≡ b → is_among (half_references (half_at (after m a) (rest_at y))) e ≡ is_among (half_references (half_at m (rest_at y))) e
        by true i = not_begun_or_ceased (change_at m (after m a) (rest_at y)) e (none_at m (after m a) e (differing m (after m a)) none (rest_at y) i)
        by false i = ap (λ h. is_among (half_references h) e) (sym (not_differing m (after m a) (rest_at y) i))
