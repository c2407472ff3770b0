-- A map of borrowed members, beside the members that it stands for.
use Rattle.std.proofs.Common.{◌≡◌, ℕ, List, [], ◌∷◌, Bor, Ordering, Less, Equal, Greater, nat_cmp, refl, ◌∙◌}
use Rattle.std.specs.BTreeMap.{insert_entry}
use Rattle.std.specs.Cmp.Lexicographic.{slice_cmp}
use Rattle.std.specs.Ordering.{match_ordering}
use Rattle.std.specs.declared.alloc.Global.{Global}
use Rattle.json.specs.declared.value.Value.{Value}
use Rattle.json_values.specs.Views.{Entry, members_view, view}
use Rattle.serde_json.specs.Data.{put}

-- The order of the texts that two keys borrow.
abbrev pub key_cmp : Bor (List ℕ) → Bor (List ℕ) → Ordering
key_cmp k l = slice_cmp nat_cmp k.now l.now

of_ordering : (o : Ordering) (a b c : List Entry) → members_view (match_ordering o a b c) ≡ match_ordering o (members_view a) (members_view b) (members_view c)
of_ordering Less a b c = refl
of_ordering Equal a b c = refl
of_ordering Greater a b c = refl

pub members_view-insert_entry : (es : List Entry) (k : Bor (List ℕ)) (v : Bor (Value Global)) → members_view (insert_entry key_cmp es k v) ≡ put k.now (view v.now) (members_view es)
members_view-insert_entry [] k v = refl
members_view-insert_entry (e ∷ es) k v = of_ordering (key_cmp k e.0) _ _ _ ∙ rw (members_view-insert_entry es k v)
