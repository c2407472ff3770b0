-- Refusals of a call.
use Rattle.std.specs.Prelude.{◌≡◌, ◌⊎◌, Option, Some}
use Rattle.osm_elements.specs.declared.fault.TextFault.{TextFault}
use Rattle.osm_elements.specs.declared.fault.TextFault.TheVariants.{Memory}

-- the fault is the refusal, if there is one, or `Memory`
abbrev pub refuses : Option TextFault → TextFault → Type 0
refuses refusal fault = (refusal ≡ Some fault) ⊎ (fault ≡ Memory)
