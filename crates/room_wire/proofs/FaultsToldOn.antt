-- A fault of a step is the fault of the whole.
use Rattle.std.proofs.Common.{◌≡◌, ◌⊎◌, ℕ, Option, Some, None, Result, Ok, Err, refl, inl, inr, sym, ap, ◌∙◌, IsErr, IsErrAnd}
use Rattle.room_wire.specs.Prelude.{Fault, Memory, Body, Gives, GivesMessage, incoming, or_fault, under}

-- if the whole is missing when a part is missing, both have the same fault
pub or_fault_err : {X Y : Type 0} (fault f : Fault) (part : Option X) (whole : Option Y) → or_fault fault part ≡ Err f → (part ≡ None → whole ≡ None) → or_fault fault whole ≡ Err f
or_fault_err fault f None whole e missing = ap (or_fault fault) (missing refl) ∙ let same : fault ≡ f = cc in ap Err same
or_fault_err fault f (Some x) whole e missing = cc

pub told_on : {X : Type 0} (r : Result X Fault) (f : Fault) (read : Result X Fault) → IsErr r → IsErrAnd r (λ g. g ≡ f) → (f ≡ Memory) ⊎ (read ≡ Err f) → Gives r read
told_on (Ok x) f read err same h = cc
told_on (Err g) f read err same (inl memory) = inl (same ∙ memory)
told_on (Err g) f read err same (inr is) = inr (is ∙ ap Err (sym same))

-- under the id of a message, a fault of its body is the fault of the message
pub told_under : (id : ℕ) (f : Fault) (read : Result Body Fault) → (f ≡ Memory) ⊎ (read ≡ Err f) → GivesMessage (Err (record { id = id; fault = f })) (under incoming id read)
told_under id f (Ok body) (inl memory) = inl (memory, inr refl)
told_under id f (Err g) (inl memory) = inl (memory, inr refl)
told_under id f read (inr is) = inr (ap (under incoming id) is)
