-- The reply for the refusal of a plan.
use Rattle.std.specs.Prelude.{ℕ, Option}
use Rattle.room_interface.specs.declared.refusal.Refusal.{Refusal}
use Rattle.room_interface.specs.declared.refusal.Refusal.TheVariants as refusals
use Rattle.room_interface.specs.declared.edit_refusal.EditRefusal.{EditRefusal}
use Rattle.room_interface.specs.declared.reply.Reply.{Reply}
use Rattle.room_interface.specs.declared.reply.Reply.TheVariants.{Refused, Memory}

-- `Memory` is a reply of its own, without a position
abbrev pub refused_by : {A : Type 0} → Option ℕ → Refusal A → Reply A
refused_by at refusals.Memory = Memory
refused_by at why = Refused (record { action = at; why = why })

abbrev pub refusal_reply : {A : Type 0} → EditRefusal A → Reply A
refusal_reply r = refused_by r.action r.why
