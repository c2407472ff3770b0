-- Members whose roles keep their limit.
use Rattle.std.proofs.Common.{◌≡◌, ◌&&◌, ℕ, Bool, true, false, not, T, List, [], ◌∷◌, map}
use mathlib.Core.HLevel.{Σ_prop_path}
use Rattle.std.proofs.Math.Bool.{Bool-set}
use Rattle.osm_elements.specs.Prelude.{Name, Member, is_long, AreMembers, are_members, member_pair}

kept : (b c : Bool) → b ≡ false → T c → T (not b && c)
kept true c e t = absurd (cc)
kept false c e t = t

module _ {A : Type 0} where
  -- members with the same name and role are equal
  pub same_member : (x y : Member A) → x.name ≡ y.name → x.role ≡ y.role → x ≡ y
  same_member x y p q =
      let e : ◌≡◌ {A = (n : Name × List ℕ) × (is_long n.1 ≡ false)} ((x.name, x.role), x.short) ((y.name, y.role), y.short) = Σ_prop_path (λ n. Bool-set (is_long n.1) false) (λ i. (p i, q i)) in
      λ i. record { name = (e i).0.0; role = (e i).0.1; short = (e i).1 }

  pub short_roles : (members : List (Member A)) → AreMembers (map member_pair members)
  short_roles [] = tt
  short_roles (m ∷ ms) = kept (is_long m.role) (are_members (map member_pair ms)) m.short (short_roles ms)
