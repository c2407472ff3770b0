-- The data of a whole text.
use Rattle.std.proofs.Common.{◌≡◌, ◌<◌, ℕ, List, [], ◌∷◌, length, Some, is_some, true, IsTrue, refl, ap, ◌∙◌, arith}
use Rattle.std.specs.Prelude.{option_and_then}
use Rattle.json.specs.Json as json
use Rattle.json.specs.Json.{if_last, value}
use Rattle.json.specs.Lex.{lex, punctuate, tokens}
use Rattle.json.specs.Reads.{opens}
use Rattle.json.specs.Token.{Token}
use Rattle.json_values.specs.Views.{data_of}
use Rattle.json_values.proofs.Trees.{converts}
use Rattle.serde_json.specs.Read.{of_json, read}

-- A text with a token is not empty.
pub filled : (text : List ℕ) → 0 < length (tokens text) → 0 < length text
unfolding lex punctuate
filled [] h = h
filled (x ∷ xs) h = omega arith

some_token : (ts : List Token) → IsTrue (opens ts) → 0 < length ts
some_token [] h = absurd (cc)
some_token (t ∷ ts) h = omega arith

pub opened : (text : List ℕ) → IsTrue (opens (tokens text)) → 0 < length text
opened text h = filled text (some_token (tokens text) h)

-- A text of one value that converts is read as its data.
pub whole : (text : List ℕ) (j : json.Json) (rest : List Token) → value 127 (tokens text) ≡ Some (j, rest) → rest ≡ [] → is_some (of_json j) ≡ true → read text ≡ Some (data_of j)
whole text j rest is over there =
    ap (λ r. option_and_then of_json (option_and_then (λ p. if_last p.0 p.1) r)) is
    ∙ ap (λ ts. option_and_then of_json (if_last j ts)) over
    ∙ converts j (of_json j) refl there
