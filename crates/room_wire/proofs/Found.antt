-- Facts about values that are found or read, carried from step to step.
use Rattle.std.proofs.Common.{◌≡◌, Bool, true, false, cond, Option, Some, None, IfSome, Result, Ok, Err, IfOk, refl, subst, option_map, option_and_then}
use Rattle.room_wire.specs.Prelude.{result_ok, Fault, or_fault}
use Rattle.room_wire.specs.Reading.{◌>>=◌}

-- facts about an optional value
pub if_map : {X Y : Type 0} (P : Y → Type 0) (f : X → Y) (o : Option X) → IfSome o (λ x. P (f x)) → IfSome (option_map f o) P
if_map P f None h = tt
if_map P f (Some x) h = h

pub if_more : {X : Type 0} (Q P : X → Type 0) (o : Option X) → IfSome o Q → ((x : X) → Q x → P x) → IfSome o P
if_more Q P None h g = tt
if_more Q P (Some x) h g = g x h

pub if_then : {X Y : Type 0} (Q : X → Type 0) (P : Y → Type 0) (o : Option X) (f : X → Option Y) → IfSome o Q → ((x : X) → Q x → IfSome (f x) P) → IfSome (option_and_then f o) P
if_then Q P None f h g = tt
if_then Q P (Some x) f h g = g x h

pub if_any : {X Y : Type 0} (P : Y → Type 0) (o : Option X) (f : X → Option Y) → ((x : X) → IfSome (f x) P) → IfSome (option_and_then f o) P
if_any P None f g = tt
if_any P (Some x) f g = g x

pub if_found : {X : Type 0} (P : X → Type 0) (o : Option X) → ((x : X) → o ≡ Some x → P x) → IfSome o P
if_found P None g = tt
if_found P (Some x) g = g x refl

-- a fact about the value of a branch may use the branch's test
pub if_passes : {X : Type 0} (P : X → Type 0) (b : Bool) (o : Option X) → (b ≡ true → IfSome o P) → IfSome (cond b o None) P
if_passes P true o h = h refl
if_passes P false o h = tt

pub if_fails : {X : Type 0} (P : X → Type 0) (b : Bool) (o : Option X) → (b ≡ false → IfSome o P) → IfSome (cond b None o) P
if_fails P true o h = tt
if_fails P false o h = h refl

-- facts about a result
pub if_told : {X : Type 0} (P : X → Type 0) (r : Result X Fault) → IfOk r P → IfSome (result_ok r) P
if_told P (Ok x) h = h
if_told P (Err e) h = tt

pub ok_or : {X : Type 0} (P : X → Type 0) (fault : Fault) (o : Option X) → IfSome o P → IfOk (or_fault fault o) P
ok_or P fault None h = tt
ok_or P fault (Some x) h = h

pub ok_more : {X E : Type 0} (Q P : X → Type 0) (r : Result X E) → IfOk r Q → ((x : X) → Q x → P x) → IfOk r P
ok_more Q P (Ok x) h g = g x h
ok_more Q P (Err e) h g = tt

pub ok_then : {X Y : Type 0} (Q : X → Type 0) (P : Y → Type 0) (r : Result X Fault) (f : X → Result Y Fault) → IfOk r Q → ((x : X) → Q x → IfOk (f x) P) → IfOk (r >>= f) P
ok_then Q P (Ok x) f h g = g x h
ok_then Q P (Err e) f h g = tt

pub ok_if : {X : Type 0} (P : X → Type 0) (b : Bool) (r s : Result X Fault) → IfOk r P → IfOk s P → IfOk (cond b r s) P
ok_if P true r s h g = h
ok_if P false r s h g = g

pub ok_any : {X Y : Type 0} (P : Y → Type 0) (r : Result X Fault) (f : X → Result Y Fault) → ((x : X) → IfOk (f x) P) → IfOk (r >>= f) P
ok_any P (Ok x) f g = g x
ok_any P (Err e) f g = tt

-- a fact about a known result
pub told_so : {X E : Type 0} (P : X → Type 0) (r : Result X E) (x : X) → r ≡ Ok x → IfOk r P → P x
told_so P r x is h = subst (λ s. IfOk s P) is h
