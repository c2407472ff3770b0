-- The touches of changes follow from the sets of their halves' references.
use Rattle.std.proofs.Common.{◌≡◌, ◌&&◌, ◌||◌, Bool, true, false, not, List, [], ◌∷◌, ◌++◌, map, refl, sym, ap, ◌∙◌, flat_map}
use Rattle.edit_footprint.specs.Prelude.{Name, is_same, is_among, name_set, is_among-name_set, is_among-append, is_among-passing, Change, names_but, half_references, begun_or_ceased, Touch, presence_read, is_same_touch, does, touch_set, does-append, same_touch_set, same_presence_read}
use Rattle.edit_footprint.specs.Inner.Touching.{begun_or_ceased_once, all_begun_or_ceased}

among_sets_but : (xs ys : List Name) (q : Name) → is_among (names_but (name_set xs) (name_set ys)) q ≡ is_among (names_but xs ys) q
among_sets_but xs ys q =
    is_among-passing (λ e. not (is_among (name_set ys) e)) (name_set xs) q
    ∙ ap (λ b. not b && is_among (name_set xs) q) (is_among-name_set q ys) ∙ ap (λ b. not (is_among ys q) && b) (is_among-name_set q xs)
    ∙ sym (is_among-passing (λ e. not (is_among ys e)) xs q)

-- the same names give the same touches
same_presences : (xs ys : List Name) → ((q : Name) → is_among xs q ≡ is_among ys q) → (t : Touch) → does (map presence_read xs) t ≡ does (map presence_read ys) t
same_presences xs ys h t = does-presences xs t ∙ ap (λ b. is_same_touch t (presence_read t.name) && b) (h t.name) ∙ sym (does-presences ys t)
  where
    -- which touches are among them
    does-presences : (names : List Name) (t : Touch) → does (map presence_read names) t ≡ (is_same_touch t (presence_read t.name) && is_among names t.name)
    does-presences [] t = by (is_same_touch t (presence_read t.name))
      where
        by : (b : Bool) → false ≡ (b && false)
        by true = refl
        by false = refl
    does-presences (x ∷ xs) t =
        ap (λ b. is_same_touch t (presence_read x) || b) (does-presences xs t) ∙ ap (λ b. b || (is_same_touch t (presence_read t.name) && is_among xs t.name)) (same_presence_read t x)
        ∙ by (is_same_touch t (presence_read t.name)) (is_same t.name x) (is_among xs t.name)
      where
        by : (a b c : Bool) → ((a && b) || (a && c)) ≡ (a && (b || c))
        by true b c = refl
        by false b c = refl

module _ {A : Type 0} where
  among_begun_or_ceased_once : (c : Change A) (q : Name) → is_among (begun_or_ceased_once c) q ≡ is_among (begun_or_ceased c) q
  among_begun_or_ceased_once c q =
      let before = half_references c.before in
      let after = half_references c.after in
      is_among-append q (names_but (name_set before) (name_set after)) (names_but (name_set after) (name_set before))
      ∙ ap (λ b. b || is_among (names_but (name_set after) (name_set before)) q) (among_sets_but before after q)
      ∙ ap (λ b. is_among (names_but before after) q || b) (among_sets_but after before q)
      ∙ sym (is_among-append q (names_but before after) (names_but after before))

  among_all_begun_or_ceased : (cs : List (Change A)) (q : Name) → is_among (all_begun_or_ceased cs) q ≡ is_among (flat_map begun_or_ceased cs) q
  among_all_begun_or_ceased [] q = refl
  among_all_begun_or_ceased (c ∷ cs) q =
      is_among-append q (begun_or_ceased_once c) (all_begun_or_ceased cs)
      ∙ ap (λ b. b || is_among (all_begun_or_ceased cs) q) (among_begun_or_ceased_once c q)
      ∙ ap (λ b. is_among (begun_or_ceased c) q || b) (among_all_begun_or_ceased cs q)
      ∙ sym (is_among-append q (begun_or_ceased c) (flat_map begun_or_ceased cs))

  -- the collected touches are those of the footprint
  pub collected_is_touched : (touches more : List Touch) (cs : List (Change A))
      → touch_set (touches ++ map presence_read (all_begun_or_ceased cs) ++ more) ≡ touch_set (touches ++ map presence_read (flat_map begun_or_ceased cs) ++ more)
  collected_is_touched touches more cs =
      same_touch_set (touches ++ map presence_read (all_begun_or_ceased cs) ++ more) (touches ++ map presence_read (flat_map begun_or_ceased cs) ++ more)
      (λ t. among (all_begun_or_ceased cs) t ∙ ap (λ b. (does touches t || b) || does more t) (same_presences (all_begun_or_ceased cs) (flat_map begun_or_ceased cs) (among_all_begun_or_ceased cs) t)
      ∙ sym (among (flat_map begun_or_ceased cs) t))
    where
      among : (l : List Name) (t : Touch) → does (touches ++ map presence_read l ++ more) t ≡ ((does touches t || does (map presence_read l) t) || does more t)
      among l t = does-append t (touches ++ map presence_read l) more ∙ ap (λ b. b || does more t) (does-append t touches (map presence_read l))
