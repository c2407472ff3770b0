-- Bytes that a writer takes and a reader gives, in parts.
use Rattle.std.proofs.Common.{◌≡◌, ℕ, ◌-◌, List, [], ◌++◌, Option, Some, None, length, take, drop, refl, Result, Ok, Err, OnErr, OnOk, IfErr, IsErrAnd, sym, ap, ◌∙◌, append_assoc, append-nil, subst}
use Rattle.std.proofs.lemmas.List.{take_rest, take-append-drop}
use Rattle.room_program.specs.Prelude.{Appends, Consumes, Keeps, with_bytes}

pub Appends-then : (old mid new : Option (List ℕ)) (xs ys : List ℕ) → Appends old mid xs → Appends mid new ys → Appends old new (xs ++ ys)
Appends-then None mid new xs ys h k = tt
Appends-then (Some a) None new xs ys h k = absurd h
Appends-then (Some a) (Some b) None xs ys h k = absurd k
Appends-then (Some a) (Some b) (Some c) xs ys h k = k ∙ (ap (λ bs. bs ++ ys) h ∙ append_assoc a xs ys)

pub Consumes-then : (old mid new : Option (List ℕ)) (xs ys : List ℕ) → Consumes old mid xs → Consumes mid new ys → Consumes old new (xs ++ ys)
Consumes-then None mid new xs ys h k = tt
Consumes-then (Some a) None new xs ys h k = absurd h
Consumes-then (Some a) (Some b) None xs ys h k = absurd k
Consumes-then (Some a) (Some b) (Some c) xs ys h k = h ∙ (ap (λ bs. xs ++ bs) k ∙ sym (append_assoc xs ys c))

pub put-more : (old mid new : Option (List ℕ)) (bytes front rest : List ℕ) (n : ℕ) → bytes ≡ front ++ rest → Appends old mid front → Appends mid new (take n rest) →
    (x : List ℕ) × (bytes ≡ x ++ take (length rest - n) (drop n rest)) × Appends old new x
put-more old mid new bytes front rest n e h k = (
  front ++ take n rest,
  rw take_rest (e ∙ (ap (λ bs. front ++ bs) (sym (take-append-drop n rest)) ∙ sym (append_assoc front (take n rest) (drop n rest)))),
  Appends-then old mid new front (take n rest) h k,
)

-- a write after earlier bytes, with more bytes to come
pub put-behind : (old mid new : Option (List ℕ)) (done bytes later whole front rest : List ℕ) → whole ≡ done ++ (bytes ++ later) → Appends old mid done → bytes ≡ front ++ rest → Appends mid new front →
    (x x' : List ℕ) × (whole ≡ x ++ x') × Appends old new x
put-behind old mid new done bytes later whole front rest is h e k = (
  done ++ front,
  rest ++ later,
  is ∙ (ap (λ bs. done ++ (bs ++ later)) e ∙ (ap (λ bs. done ++ bs) (append_assoc front rest later) ∙ sym (append_assoc done front (rest ++ later)))),
  Appends-then old mid new done front h k,
)

pub Appends-none : (taken : Option (List ℕ)) → Appends taken taken []
Appends-none None = tt
Appends-none (Some xs) = sym (append-nil xs)

pub Consumes-none : (left : Option (List ℕ)) → Consumes left left []
Consumes-none None = tt
Consumes-none (Some xs) = refl

-- bytes in front of those that a reader has left are read first
pub Consumes-before : (bytes : List ℕ) (left : Option (List ℕ)) → Consumes (with_bytes bytes left) left bytes
Consumes-before bytes None = tt
Consumes-before bytes (Some xs) = refl

-- no bytes in front
pub with_bytes-none : (bytes : List ℕ) (left : Option (List ℕ)) → bytes ≡ [] → with_bytes bytes left ≡ left
with_bytes-none bytes None e = refl
with_bytes-none bytes (Some xs) e = ap (λ bs. Some (bs ++ xs)) e

pub Consumes-kept : (old mid new : Option (List ℕ)) (xs : List ℕ) → Consumes old mid xs → Keeps mid new → Consumes old new xs
Consumes-kept None mid new xs h k = tt
Consumes-kept (Some a) None new xs h k = absurd h
Consumes-kept (Some a) (Some b) None xs h k = absurd k
Consumes-kept (Some a) (Some b) (Some c) xs h k = h ∙ ap (λ bs. xs ++ bs) (sym k)

pub on_err : {T E P : Type 0} (r : Result T E) → P → OnErr r P
on_err (Ok x) p = tt
on_err (Err e) p = p

pub on_ok : {T E P : Type 0} (r : Result T E) → P → OnOk r P
on_ok (Ok x) p = p
on_ok (Err e) p = tt

-- a fault that was passed on
pub passed_on : {T E : Type 0} (P : E → Type 0) (r : Result T E) (fault : E) → IsErrAnd r (λ y. y ≡ fault) → P fault → IfErr r P
passed_on P (Ok x) fault is p = absurd is
passed_on P (Err e) fault is p = subst P (sym is) p

-- a read of no byte
pub Keeps-from_none : (old new : Option (List ℕ)) (n : ℕ) (buffer : List ℕ) → n ≡ 0 → Consumes old new (take n buffer) → Keeps old new
Keeps-from_none None new n buffer e h = tt
Keeps-from_none (Some xs) None n buffer e h = absurd h
Keeps-from_none (Some xs) (Some ys) n buffer e h = sym (h ∙ ap (λ k. take k buffer ++ ys) e)
