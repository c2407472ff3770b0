-- The empty text is not JSON.
use Rattle.std.proofs.Common.{◌≡◌, ◌<◌, ℕ, List, [], ◌∷◌, length, Option, Some, None, refl, sym, ◌∙◌, arith}
use Rattle.serde_json.specs.Data.{Data}
use Rattle.serde_json.specs.Read.{read}
use Rattle.serde_json.proofs.OnLiterals.{serde_json_on_literals}

read-nil : read [] ≡ None
unfolding serde_json_on_literals
read-nil = refl

not_both : {X : Type 0} (d : Data) → ◌≡◌ {A = Option Data} None (Some d) → X
not_both d e = absurd (cc)

pub read_is_filled : (text : List ℕ) (d : Data) → read text ≡ Some d → 0 < length text
read_is_filled [] d e = not_both d (sym read-nil ∙ e)
read_is_filled (c ∷ cs) d e = omega arith
