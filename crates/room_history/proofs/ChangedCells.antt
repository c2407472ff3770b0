-- The cells that changes change are those that their touches write: a cell itself, or the presence of its element.
use Rattle.std.proofs.Common.{◌≡◌, ◌≢◌, ◌||◌, ◌⊎◌, inl, inr, suc, Bool, true, false, List, [], ◌∷◌, All, Option, Some, None, is_some, map, refl, cond, sym, ap, subst, ◌∙◌, arith}
use Rattle.osm_changes.specs.Prelude.{Name, Rows, row_at, half, half_at, cell_of, changed_cells, row_after, AreChanges, AreFrom, list_any, is_same_cell-itself, same_cells, same_presence, there_by_half, row_at-changed}
use Rattle.osm_changes.specs.Cells.{Cell, has, IsRising, is_same_cell}
use Rattle.osm_changes.specs.Changes.{changed, half_after}
use Rattle.osm_changes.specs.declared.change.Change.{Change}
use Rattle.osm_changes.specs.declared.half.Half.{Half}
use Rattle.osm_changes.specs.declared.part.Part.{Part}
use Rattle.osm_changes.specs.declared.part.Part.TheVariants.{Tags, Rest}
use Rattle.edit_footprint.specs.Facts.CellSets.{has-own, has-more, first_not_among_rest}
use Rattle.edit_footprint.specs.Facts.Touches.{same_touches, does-own, does-more}
use Rattle.edit_footprint.specs.Touches.{Touch, is_same_touch, does, presence_written, cell_written, writing}
use Rattle.edit_footprint.specs.declared.access.Access.TheVariants.{WritesPresence}
use Rattle.rising_lists.specs.Facts.Sorted.{second}
use Rattle.room_history.specs.Inner.Changers.{written_by, half_written}

writing-is : (p q : Part) → writing p ≡ writing q → p ≡ q
writing-is Tags Tags e = refl
writing-is Tags Rest e = absurd (cc)
writing-is Rest Tags e = absurd (cc)
writing-is Rest Rest e = refl

not_presence : (p : Part) → writing p ≡ WritesPresence → ⊥
not_presence Tags e = absurd (cc)
not_presence Rest e = absurd (cc)

same_cell_written : (c d : Cell) → cell_written c ≡ cell_written d → c ≡ d
same_cell_written c d e = λ i. record { name = (ap (λ (t : Touch). t.name) e) i; part = (writing-is c.part d.part (ap (λ (t : Touch). t.access) e)) i }

module _ {A : Type 0} where
  any_mapped : {X : Type 0} (f : X → Bool) (g : Change A → X) (cs : List (Change A)) → list_any f (map g cs) ≡ list_any (λ d. f (g d)) cs
  any_mapped f g [] = refl
  any_mapped f g (d ∷ ds) = ap (λ b. f (g d) || b) (any_mapped f g ds)

  -- a change of a list that passes a test
  record Found (m : Rows A) (cs : List (Change A)) (test : Change A → Bool) : Type 0 where
    pub change : Change A
    pub passes : test change ≡ true
    pub inside : has (changed_cells cs) (cell_of change) ≡ true
    pub listed : does (map written_by cs) (written_by change) ≡ true
    pub before : change.before ≡ half_at m (cell_of change)
    pub after : (h : Option (Half A)) → half_after cs (cell_of change) h ≡ change.after
    pub differs : change.after ≢ change.before

  found : (m : Rows A) (cs : List (Change A)) → IsRising (changed_cells cs) → All (λ (c : Change A). c.before ≡ half_at m (cell_of c)) cs → All (λ (c : Change A). c.after ≢ c.before) cs
      → (test : Change A → Bool) → list_any test cs ≡ true → Found m cs test
  found m [] rise before differ test any = absurd (cc)
  found m (d ∷ ds) rise before differ test any =
      by (test d) refl any (found m ds (second _ _ rise) (λ k e l. before (suc k) e (omega (arith, l))) (λ k e l. differ (suc k) e (omega (arith, l))) test)
    where
      by : (b : Bool) → test d ≡ b → (b || list_any test ds) ≡ true → (list_any test ds ≡ true → Found m ds test) → Found m (d ∷ ds) test
      by true e a go = record {
        change = d;
        passes = e;
        inside = has-own (cell_of d) (changed_cells ds);
        listed = does-own (written_by d) (map written_by ds);
        before = before 0 d (omega arith);
        after = λ h. ap (λ b. cond b d.after (half_after ds (cell_of d) h)) (is_same_cell-itself (cell_of d));
        differs = differ 0 d (omega arith);
      }
      by false e a go =
          let rest = go a in
          record {
            change = rest.change;
            passes = rest.passes;
            inside = has-more (cell_of rest.change) (cell_of d) (changed_cells ds) rest.inside;
            listed = does-more (written_by rest.change) (written_by d) (map written_by ds) rest.listed;
            before = rest.before;
            after = λ h. ap (λ b. cond b d.after (half_after ds (cell_of rest.change) h)) (apart rest (is_same_cell (cell_of rest.change) (cell_of d)) refl) ∙ rest.after h;
            differs = rest.differs;
          }
        where
          apart : (r : Found m ds test) → (b : Bool) → is_same_cell (cell_of r.change) (cell_of d) ≡ b → is_same_cell (cell_of r.change) (cell_of d) ≡ false
          apart r true s = absurd (cc (sym (first_not_among_rest (cell_of d) (changed_cells ds) rise) ∙ ap (has (changed_cells ds)) (sym (same_cells (cell_of r.change) (cell_of d) s)) ∙ r.inside))
          apart r false s = s

  -- a cell without a change keeps its half
  stays : (cs : List (Change A)) (c : Cell) (h : Option (Half A)) → has (changed_cells cs) c ≡ false → half_after cs c h ≡ h
  stays [] c h out = refl
  stays (d ∷ ds) c h out = by (is_same_cell c (cell_of d)) out (stays ds c h)
    where
      by : (b : Bool) → (b || has (changed_cells ds) c) ≡ false → (has (changed_cells ds) c ≡ false → half_after ds c h ≡ h) → cond b d.after (half_after ds c h) ≡ h
      by true o go = absurd (cc)
      by false o go = go o

  both_gone : (o p : Option (Half A)) → is_some o ≡ is_some p → (o ≡ None) ⊎ (p ≡ None) → o ≡ p
  both_gone None None e n = refl
  both_gone None (Some h) e n = absurd (cc)
  both_gone (Some h) None e n = absurd (cc)
  both_gone (Some h) (Some k) e (inl n) = absurd (cc)
  both_gone (Some h) (Some k) e (inr n) = absurd (cc)

  -- if an element comes or goes, both its cells change
  both_change : (m : Rows A) (cs : List (Change A)) → AreFrom m cs → (test : Change A → Bool) → (f : Found m cs test) → (f.change.after ≡ None) ⊎ (f.change.before ≡ None)
      → (p : Part) → has (changed_cells cs) (record { name = f.change.name; part = p }) ≡ true
  both_change m cs from test f gone p = by (has (changed_cells cs) other) refl
    where
      other : Cell
      other = record { name = f.change.name; part = p }

      by : (b : Bool) → has (changed_cells cs) other ≡ b → has (changed_cells cs) other ≡ true
      by true e = e
      by false e =
          let x = f.change.name in
          let q = f.change.part in
          let now = row_after cs x (row_at m x) in
          let kept : half p now ≡ half p (row_at m x) = from.whole other ∙ stays cs other (half_at m other) e in
          let there : is_some now ≡ is_some (row_at m x) = same_presence p now (row_at m x) kept in
          let after : half q now ≡ f.change.after = from.whole (cell_of f.change) ∙ f.after (half_at m (cell_of f.change)) in
          let same : is_some f.change.after ≡ is_some f.change.before =
          ap is_some (sym after) ∙ sym (there_by_half q now) ∙ there ∙ there_by_half q (row_at m x) ∙ ap is_some (sym f.before) in
          absurd (f.differs (both_gone f.change.after f.change.before same gone))

  -- what writes a presence comes or goes
  comes_or_goes : (c : Cell) (x : Name) (before after : Option (Half A)) → half_written c before after ≡ presence_written x → ((after ≡ None) ⊎ (before ≡ None)) × (c.name ≡ x)
  comes_or_goes c x None after e = (inr refl, ap (λ (t : Touch). t.name) e)
  comes_or_goes c x (Some h) None e = (inl refl, ap (λ (t : Touch). t.name) e)
  comes_or_goes c x (Some h) (Some k) e = absurd (not_presence c.part (ap (λ (t : Touch). t.access) e))

  -- what writes a cell is a change of this cell
  its_cell : (c d : Cell) (before after : Option (Half A)) → half_written c before after ≡ cell_written d → c ≡ d
  its_cell c d None after e = absurd (not_presence d.part (ap (λ (t : Touch). t.access) (sym e)))
  its_cell c d (Some h) None e = absurd (not_presence d.part (ap (λ (t : Touch). t.access) (sym e)))
  its_cell c d (Some h) (Some k) e = same_cell_written c d e

  one_of_both : (c : Cell) (before after : Option (Half A)) → (half_written c before after ≡ presence_written c.name) ⊎ (half_written c before after ≡ cell_written c)
  one_of_both c None after = inl refl
  one_of_both c (Some h) None = inl refl
  one_of_both c (Some h) (Some k) = inr refl

  module _ (m : Rows A) (cs : List (Change A)) (are : AreChanges cs) (from : AreFrom m cs) where
    find_one : (test : Change A → Bool) → list_any test cs ≡ true → Found m cs test
    find_one = found m cs are.rising from.before are.differ

    presence_changes : (c : Cell) → does (map written_by cs) (presence_written c.name) ≡ true → has (changed_cells cs) c ≡ true
    presence_changes c h =
        let test : Change A → Bool = (λ d. is_same_touch (presence_written c.name) (written_by d)) in
        let f : Found m cs test = find_one test (sym (any_mapped (is_same_touch (presence_written c.name)) written_by cs) ∙ h) in
        let is = comes_or_goes (cell_of f.change) c.name f.change.before f.change.after (sym (same_touches (presence_written c.name) (written_by f.change) f.passes)) in
        ap (λ x. has (changed_cells cs) (record { name = x; part = c.part })) (sym is.1) ∙ both_change m cs from test f is.0 c.part

    cell_changes : (c : Cell) → does (map written_by cs) (cell_written c) ≡ true → has (changed_cells cs) c ≡ true
    cell_changes c h =
        let test : Change A → Bool = (λ d. is_same_touch (cell_written c) (written_by d)) in
        let f : Found m cs test = find_one test (sym (any_mapped (is_same_touch (cell_written c)) written_by cs) ∙ h) in
        ap (has (changed_cells cs)) (sym (its_cell (cell_of f.change) c f.change.before f.change.after (sym (same_touches (cell_written c) (written_by f.change) f.passes)))) ∙ f.inside

    is_written : (c : Cell) → has (changed_cells cs) c ≡ true → (does (map written_by cs) (presence_written c.name) ≡ true) ⊎ (does (map written_by cs) (cell_written c) ≡ true)
    is_written c h = by (one_of_both (cell_of f.change) f.change.before f.change.after)
      where
        test : Change A → Bool
        test d = is_same_cell c (cell_of d)

        f : Found m cs test
        f = find_one test (sym (any_mapped (is_same_cell c) cell_of cs) ∙ h)

        same : c ≡ cell_of f.change
        same = same_cells c (cell_of f.change) f.passes

        by : (written_by f.change ≡ presence_written (cell_of f.change).name) ⊎ (written_by f.change ≡ cell_written (cell_of f.change))
            → (does (map written_by cs) (presence_written c.name) ≡ true) ⊎ (does (map written_by cs) (cell_written c) ≡ true)
        by (inl e) = inl (ap (λ (d : Cell). does (map written_by cs) (presence_written d.name)) same ∙ ap (does (map written_by cs)) (sym e) ∙ f.listed)
        by (inr e) = inr (ap (λ (d : Cell). does (map written_by cs) (cell_written d)) same ∙ ap (does (map written_by cs)) (sym e) ∙ f.listed)

    -- a cell is changed exactly if it, or the presence of its element, is written
    pub changed_as_written : (c : Cell) → has (changed_cells cs) c ≡ (does (map written_by cs) (presence_written c.name) || does (map written_by cs) (cell_written c))
    changed_as_written c =
        by (has (changed_cells cs) c) refl (does (map written_by cs) (presence_written c.name)) refl (does (map written_by cs) (cell_written c)) refl
      where
        by : (h : Bool) → has (changed_cells cs) c ≡ h → (p : Bool) → does (map written_by cs) (presence_written c.name) ≡ p → (q : Bool) → does (map written_by cs) (cell_written c) ≡ q → h ≡ (p || q)
        by true e true f q g = refl
        by true e false f true g = refl
        by true e false f false g = absurd (none (is_written c e))
          where
            none : (does (map written_by cs) (presence_written c.name) ≡ true) ⊎ (does (map written_by cs) (cell_written c) ≡ true) → ⊥
            none (inl h) = absurd (cc)
            none (inr h) = absurd (cc)
        by false e true f q g = sym e ∙ presence_changes c f
        by false e false f true g = sym e ∙ cell_changes c g
        by false e false f false g = refl

    -- the half of a cell after the changes
    half_then : (c : Cell) → half_at (changed m cs) c ≡ half_after cs c (half_at m c)
    half_then c = ap (half c.part) (row_at-changed m cs c.name) ∙ from.whole c

    -- a cell that is changed differs afterwards, and every other cell stays
    pub differs_there : (c : Cell) → has (changed_cells cs) c ≡ true → half_at (changed m cs) c ≡ half_at m c → ⊥
    differs_there c h same =
        let test : Change A → Bool = (λ d. is_same_cell c (cell_of d)) in
        let f : Found m cs test = find_one test (sym (any_mapped (is_same_cell c) cell_of cs) ∙ h) in
        let it : c ≡ cell_of f.change = same_cells c (cell_of f.change) f.passes in
        absurd (f.differs (sym (f.after (half_at m (cell_of f.change))) ∙ sym (half_then (cell_of f.change)) ∙ subst (λ d. half_at (changed m cs) d ≡ half_at m d) it same ∙ sym f.before))

    pub same_elsewhere : (c : Cell) → has (changed_cells cs) c ≡ false → half_at (changed m cs) c ≡ half_at m c
    same_elsewhere c h = half_then c ∙ stays cs c (half_at m c) h
