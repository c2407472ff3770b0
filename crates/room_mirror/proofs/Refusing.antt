-- The refusal of news follows from the tests.
use Rattle.std.proofs.Common.{◌≡◌, ◌&&◌, ◌+◌, ℕ, Bool, true, false, not, T, ◌∷◌, [], Option, Some, None, nat_eq, refl, subst}
use Rattle.room_mirror.specs.Prelude.{then_some, list_all, are_rising, so, first_that_holds, News, MirrorFault, Gap, Mismatch, MirrorState, due_after, told_names, tells_another, fits, fault, IsRefused}

module _ {A : Type 0} (s : MirrorState A) (n : News A) where
  abbrev by_tests : Bool → Bool → ℕ → Option MirrorFault
  by_tests next fit want = first_that_holds (then_some (not next) (Gap want n.seq) ∷ then_some (not fit) Mismatch ∷ [])

  pub gap_told : (want : ℕ) → false ≡ nat_eq n.seq (s.seq + 1) → want ≡ due_after s.seq → Some (Gap want n.seq) ≡ fault s n
  gap_told want next is = λ k. by_tests (next k) (fits s.rows n.rows) (is k)

  pub mismatch_told : true ≡ nat_eq n.seq (s.seq + 1) → false ≡ fits s.rows n.rows → Some Mismatch ≡ fault s n
  mismatch_told next fit = λ k. by_tests (next k) (fit k) (due_after s.seq)

  pub none_told : true ≡ nat_eq n.seq (s.seq + 1) → true ≡ fits s.rows n.rows → None ≡ fault s n
  none_told next fit = λ k. by_tests (next k) (fit k) (due_after s.seq)

  -- if there is no fault, the names rise
  pub names_rise : None ≡ fault s n → T (are_rising (told_names n.rows))
  names_rise e = so (are_rising (told_names n.rows)) (by (nat_eq n.seq (s.seq + 1)) (are_rising (told_names n.rows)) (list_all (tells_another s.rows) n.rows) e)
    where
      by : (next rise other : Bool) → None ≡ by_tests next (rise && other) (due_after s.seq) → rise ≡ true
      by false rise other e = absurd (cc)
      by true true other e = refl
      by true false other e = absurd (cc)

  -- the refusal is the fault that there is
  pub refused_by : (f : MirrorFault) → Some f ≡ fault s n → IsRefused (fault s n) f
  refused_by f e = subst (λ o. IsRefused o f) e refl
