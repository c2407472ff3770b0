-- The last call in the notes, and the counts of calls.
use Rattle.std.proofs.Common.{◌≡◌, ◌<◌, ◌+◌, ◌^◌, ℕ, suc, zero, [], ◌∷◌, Ok, Err, Some, length, refl, ◌∙◌, true≢false, ap, arith, inl, inr, sym, add-zero}
use Rattle.room_program.specs.Prelude.{Io, Calls, IsAnswered, noted, one_more, Puts, calls_of, TookNone}
use Rattle.room_program.specs.Io.{Gets}
use Rattle.room_program.specs.declared.noted.Stop.TheVariants.{Failed}
use Rattle.room_program.specs.Streams as streams

module _ (before between after : Calls) (asked : ℕ) (none : between.answered ≡ before.answered) where
  pub count_noted : (count : ℕ) → after ≡ noted between asked (Ok count) → IsAnswered before after asked (Ok count)
  count_noted count is = record {
    once = ap (λ calls. calls.answered) is ∙ ap one_more none;
    last = ap (λ calls. calls.last) is;
  }

  pub failure_noted : after ≡ noted between asked (Err Failed) → IsAnswered before after asked (Err (record {}))
  failure_noted is = record {
    once = ap (λ calls. calls.answered) is ∙ ap one_more none;
    last = ap (λ calls. calls.last) is;
  }

module _ {T : Type 0} where
  -- n reads are n calls of the stream, unless the count stops
  pub reads_counted : (n : ℕ) (before after : Io T) → (calls_of before).answered + n < 2 ^ 64 → streams.Gets Gets n before after
      → (calls_of after).answered ≡ (calls_of before).answered + n
  unfolding streams.Gets
  reads_counted zero before after small made = ap (λ io. (calls_of io).answered) made ∙ sym (add-zero (calls_of before).answered)
  reads_counted (suc n) before after small (between, count, some, made, (asked, inl last)) =
      let so_far = reads_counted n before between (omega arith) made in
      omega (arith, last.once, so_far)
  reads_counted (suc n) before after small (between, count, some, made, (asked, inr failed)) = absurd (true≢false (sym failed.0))

  -- a write that took none of some bytes is the last call of the stream
  pub none_taken_noted : (after : Io T) → TookNone Puts after
      → (asked : ℕ) × (0 < asked) × ((calls_of after).last ≡ Some (record { asked = asked; answer = Ok 0 }))
  none_taken_noted after (before, [], some, took) = absurd (some refl)
  none_taken_noted after (before, b ∷ bs, some, inl called) = (length (b ∷ bs), omega arith, called.last)
  none_taken_noted after (before, b ∷ bs, some, inr failed) = absurd (true≢false (sym failed.0))
