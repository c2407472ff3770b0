-- Texts that begin with no kind's letter.
use Rattle.std.proofs.Common.{◌≢◌, ℕ, List, ◌∷◌}
use Rattle.osm_elements.specs.Names.{NoLetter}
use Rattle.osm_elements.specs.declared.name.Kind.TheVariants.{Node, Way, Relation}

-- a text that begins with none of the three letters has no letter of a kind
pub no_letter : (text : List ℕ) → ((digits : List ℕ) → text ≢ 110 ∷ digits) → ((digits : List ℕ) → text ≢ 119 ∷ digits) → ((digits : List ℕ) → text ≢ 114 ∷ digits) → NoLetter text
no_letter text n w r Node digits = n digits
no_letter text n w r Way digits = w digits
no_letter text n w r Relation digits = r digits
