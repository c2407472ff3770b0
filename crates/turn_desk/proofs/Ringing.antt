-- The steps on a gate.
use Rattle.std.proofs.Common.{◌≡◌, ℕ, suc, ◌+◌, slice_index, slice_set, sym, refl, ap, subst, arith, Option}
use Rattle.atomic_table.specs.Table.{Me, keeps, Allows}
use Rattle.atomic_table.proofs.Lists.{set_again}
use Rattle.turn_desk.specs.Rule.{Kept}
use Rattle.turn_desk.specs.Inner.Plays.{Rings}
use Rattle.turn_desk.specs.declared.view.View.{View}
use Rattle.std.specs.Prelude.{List}

module _ {R E F C P : Type 0} (fixed : R → F) (list : R → List E) (answers : F → List E → C → P → List E → Type 0) (f : F) where
  rings_at : (slots id g : ℕ) (write : ℕ → ℕ) (me : Me (Option R) (View E F)) → Allows (Kept fixed list answers f) slots id me (suc (suc (suc g))) write (Rings me)
  rings_at slots id g write me s r _ at _ = let n = write (slice_index s.words (suc (suc (suc g)))) in (
    me.0,
    keeps,
    tt,
    subst (Kept fixed list answers f) (λ i. record { words = slice_set s.words (suc (suc (suc g))) n; homes = s.homes; views = sym (set_again s.views id me.0 at) i }) record {
      now = r.now;
      legal = r.legal;
      gates = slice_set r.gates g n;
      words = ap (λ (ws : List ℕ). slice_set ws (suc (suc (suc g))) n) r.words;
      order = r.order;
      parts = r.parts;
      home = r.home;
      seats = r.seats;
      known = r.known;
    },
    refl,
  )

  pub rings : (slots id word g : ℕ) (write : ℕ → ℕ) (me : Me (Option R) (View E F)) → word ≡ 3 + g → Allows (Kept fixed list answers f) slots id me word write (Rings me)
  rings slots id word g write me is = let same : word ≡ suc (suc (suc g)) = omega (arith, is) in subst (λ (w : ℕ). Allows (Kept fixed list answers f) slots id me w write (Rings me)) (sym same) (rings_at slots id g write me)
