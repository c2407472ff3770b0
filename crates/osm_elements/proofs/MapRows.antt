-- The rows of a map's tree.
use Rattle.std.proofs.Common.{◌≡◌, List, Result, Ok, Err, OnOk, OnErr, sym, ap, subst, ◌∙◌, Ordering}
use Rattle.osm_elements.specs.Prelude.{remove_entry, insert_entry, is_at, Name, Element, name_cmp, AreInOrder, AreInOrder-put_row, AreInOrder-without_row}

module _ {A : Type 0} (cmp : Name → Name → Ordering) (is : cmp ≡ name_cmp) (m n : List (Name × Element A)) (x : Name) where
  -- an insert that succeeds puts the row, and an insert that fails changes nothing
  pub AreInOrder-insert : {T E : Type 0} (r : Result T E) (v : Element A) → AreInOrder m → OnOk r (n ≡ insert_entry cmp m x v) → OnErr r (n ≡ m) → AreInOrder n
  AreInOrder-insert (Ok t) v h ok err = subst (λ k. AreInOrder k) (sym (ok ∙ ap (λ c. insert_entry c m x v) is)) (AreInOrder-put_row m x v h)
  AreInOrder-insert (Err e) v h ok err = subst (λ k. AreInOrder k) (sym err) h

  pub AreInOrder-remove : AreInOrder m → n ≡ remove_entry (is_at (cmp x)) m → AreInOrder n
  AreInOrder-remove h e = subst (λ k. AreInOrder k) (sym (e ∙ ap (λ c. remove_entry (is_at (c x)) m) is)) (AreInOrder-without_row m x h)
