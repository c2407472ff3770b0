-- Names compared from both ends.
use Rattle.std.proofs.Common.{◌≡◌, ◌<◌, ◌+◌, ◌-◌, ◌&&◌, ℕ, List, drop, length, reverse, get_or, sym, subst, ◌∙◌}
use Rattle.std.proofs.lemmas.List.{length-reverse, get_or-reverse}
use Rattle.edit_simple.specs.Prelude.{Name, is_same, are_same_names, drop_at}

pub alike_from : (names : List Name) (i : ℕ) (x y : Name) → i < length names → x ≡ get_or names i x → y ≡ get_or names (length names - 1 - i) y
    → are_same_names (drop i names) (drop i (reverse names)) ≡ (is_same x y && are_same_names (drop (i + 1) names) (drop (i + 1) (reverse names)))
alike_from names i x y l a b =
    λ j. are_same_names (drop_at names i x l a j) (drop_at (reverse names) i y (subst (λ n. i < n) (sym (length-reverse names)) l) (b ∙ sym (get_or-reverse names i y l)) j)
