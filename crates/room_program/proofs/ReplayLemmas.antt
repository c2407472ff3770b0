-- The ends of a replay and of reading its first line, from the contracts of their parts.
use Rattle.std.proofs.Common.{◌≡◌, ◌⊎◌, ℕ, true, false, List, [], Option, Some, None, Result, Ok, Err, IfErr, IfOk, refl, IsErrAnd, inl, inr, subst, sym}
use Rattle.room_program.specs.Prelude.{Appends, Global, Rows, IsBaseFault, BaseFault, Later, ReplayFault, StreamFault, Read, Write, IsFirstLineOf, behind, IsNoBase, IsTold, IsUnread, Tells, base_fault, stream_fault, IsLine, HasRun, Loss, Gets, GetsAtMost, TookNone, WritesAll, WritesEnded, WritesFront, with_bytes}
use Rattle.room_program.specs.declared.fault.StreamFault.TheVariants.{Memory}
use Rattle.room_program.specs.Inner.FirstLines.{EndsLine, IsBadLine, ReadsTo}
use Rattle.room_program.proofs.FirstLineLemmas.{all_behind, all_then, begins_last, begins_line, behind_last, ended_behind, err_is, front_behind, most_then}
use Rattle.room_program.proofs.StreamLemmas.{Appends-none, Consumes-none}
use Rattle.room_history.specs.declared.base.BaseFault.TheVariants as bases
use Rattle.room_program.specs.declared.fault.ReplayFault.TheVariants as replays
use Rattle.room_program.specs.declared.sink.Sink as sinks
use Rattle.room_program.specs.declared.source.Source as sources

-- ---- a run over streams

module _ {S W : Type 0} (source : sources.Ghosts S) (sink : sinks.Ghosts W) (script : List ℕ → List Loss → List ℕ) (left : Option (List ℕ)) (reads : ℕ) (reader reader' : S) (writer writer' : W) where
  pub ended_by : (f : StreamFault) → WritesFront script left (source.left reader') (sink.taken writer) (sink.taken writer')
      → (f ≡ Read → WritesEnded script left (source.left reader') (sink.taken writer) (sink.taken writer'))
      → (f ≡ Read → (source.has_failed reader' ≡ true) ⊎ Gets source.gets reads reader reader')
      → (f ≡ Write → (sink.has_failed writer' ≡ true) ⊎ TookNone sink.puts writer')
      → (f ≡ Memory → (source.has_failed reader' ≡ false) × (sink.has_failed writer' ≡ false))
      → HasRun source sink script left reads reader reader' writer writer' (Err (stream_fault f))
  ended_by Read front ended read write memory = (front, (ended refl, read refl))
  ended_by Write front ended read write memory = (front, write refl)
  ended_by Memory front ended read write memory = (front, memory refl)

  -- the fault was passed on
  pub ended_run : (r : Result (Unit {0}) ReplayFault) (f : StreamFault) → IsErrAnd r (λ y. y ≡ stream_fault f) → HasRun source sink script left reads reader reader' writer writer' (Err (stream_fault f))
      → HasRun source sink script left reads reader reader' writer writer' r
  ended_run r f is run = subst (λ (x : Result (Unit {0}) ReplayFault). HasRun source sink script left reads reader reader' writer writer' x) (sym (err_is r (stream_fault f) is)) run

-- nothing was read and nothing written
module _ {S W : Type 0} (source : sources.Ghosts S) (sink : sinks.Ghosts W) (script : List ℕ → List Loss → List ℕ) (reads : ℕ) (reader : S) (writer : W) where
  pub unstarted : (r : Result (Unit {0}) ReplayFault) → IsErrAnd r (λ y. y ≡ replays.Memory) → script [] [] ≡ [] → source.has_failed reader ≡ false → sink.has_failed writer ≡ false
      → HasRun source sink script (source.left reader) reads reader reader writer writer r
  unstarted r is none works writes =
      subst (λ (x : Result (Unit {0}) ReplayFault). HasRun source sink script (source.left reader) reads reader reader writer writer x) (sym (err_is r replays.Memory is)) (
        record {
          read = [];
          lost = [];
          written_bytes = [];
          unwritten = [];
          consumed = Consumes-none (source.left reader);
          script_is = none;
          written = Appends-none (sink.taken writer);
        },
        (works, writes),
      )

-- ---- a first line

module _ {S : Type 0} (source : sources.Ghosts S) (reads : ℕ) (reader reader' : S) where
  pub line_unread : (f : StreamFault) → EndsLine source reads reader reader' f → IsUnread source reads reader reader' (stream_fault f)
  line_unread Read is = is
  line_unread Write is = is
  line_unread Memory is = is

  -- a line without a map is no base
  pub unread_no_base : (fault : ReplayFault) → IsUnread source reads reader reader' fault → IsNoBase source reads reader reader' fault
  unread_no_base replays.Read is = is
  unread_no_base replays.Write is = is
  unread_no_base replays.Memory is = is
  unread_no_base (replays.BadBase bad) is = is
  unread_no_base (replays.Unsound x why) is = absurd is

  pub line_begins : (line : List ℕ) (later : Option Later) → IsLine line → ReadsTo source reads reader reader' line later → IsFirstLineOf line (source.left reader)
  line_begins line None is to = begins_last line (source.left reader) (source.left reader') is to.0 to.1
  line_begins line (Some it) is to = begins_line line it.held.items (source.left reader) (source.left reader') is to.0

  pub bad_unread : (line : List ℕ) (fault : ReplayFault) → IsFirstLineOf line (source.left reader) → source.has_failed reader' ≡ false → IsBadLine line fault → IsUnread source reads reader reader' fault
  bad_unread line (replays.BadBase bad) begins works is = (works, (line, begins, is))
  bad_unread line replays.Memory begins works is = works
  bad_unread line replays.Read begins works is = absurd is
  bad_unread line replays.Write begins works is = absurd is
  bad_unread line (replays.Unsound x why) begins works is = absurd is

  pub told_no_base : (base : Rows Global) (fault : BaseFault Global) → IsTold source reader base → source.has_failed reader' ≡ false → IsBaseFault base fault → IsNoBase source reads reader reader' (base_fault fault)
  told_no_base base (bases.Unsound x why) told works is = (works, (base, told, is))
  told_no_base base bases.Memory told works is = works

  -- the rows of a line are those of the reader that gave the line
  pub told_rows : (line : List ℕ) (r : Result (Rows Global) ReplayFault) → IsFirstLineOf line (source.left reader) → IfOk r (λ rows. Tells line rows) → IfOk r (λ rows. IsTold source reader rows)
  told_rows line (Ok rows) begins told = (line, begins, told)
  told_rows line (Err fault) begins told = tt

  pub bad_rows : (line : List ℕ) (r : Result (Rows Global) ReplayFault) → IsFirstLineOf line (source.left reader) → source.has_failed reader' ≡ false → IfErr r (λ fault. IsBadLine line fault)
      → IfErr r (λ fault. IsUnread source reads reader reader' fault)
  bad_rows line (Ok rows) begins works bad = tt
  bad_rows line (Err fault) begins works bad = bad_unread line fault begins works bad

-- ---- a run of the bytes after the first line

module _ {S W : Type 0} (source : sources.Ghosts S) (sink : sinks.Ghosts W) (script : List ℕ → List Loss → List ℕ) (reads : ℕ) (reader between reader' : S) (writer writer' : W) (line : List ℕ) (is : IsLine line) where
  -- there are no such bytes
  pub nothing_behind : ReadsTo source reads reader reader' line None → script [] [] ≡ [] → source.has_failed reader' ≡ false → sink.has_failed writer ≡ false
      → HasRun source sink script (behind (source.left reader)) reads reader reader' writer writer (Ok tt)
  nothing_behind to none works writes = (
    record {
      read = [];
      lost = [];
      consumed = behind_last line (source.left reader) (source.left reader') is to.0 to.1;
      at_end = to.1;
      written = subst (λ (bs : List ℕ). Appends (sink.taken writer) (sink.taken writer) bs) (sym none) (Appends-none (sink.taken writer));
    },
    works,
    writes,
  )

  module _ (later : Later) (to : ReadsTo source reads reader between line (Some later)) where
    pub calls_behind : GetsAtMost source.gets later.reads between reader' → GetsAtMost source.gets reads reader reader'
    calls_behind calls = most_then source.gets to.1.0 later.reads reads reader between reader' to.1.1 to.1.2 calls

    pub done_behind : WritesAll script (with_bytes later.held.items (source.left between)) (source.left reader') (sink.taken writer) (sink.taken writer')
        → WritesAll script (behind (source.left reader)) (source.left reader') (sink.taken writer) (sink.taken writer')
    done_behind w = all_behind line later.held.items is script (source.left reader) (source.left between) (source.left reader') (sink.taken writer) (sink.taken writer') to.0 w

    reads_behind : (source.has_failed reader' ≡ true) ⊎ Gets source.gets later.reads between reader' → (source.has_failed reader' ≡ true) ⊎ Gets source.gets reads reader reader'
    reads_behind (inl failed) = inl failed
    reads_behind (inr used) = inr (all_then source.gets to.1.0 later.reads reads reader between reader' to.1.1 to.1.2 used)

    pub ended_behind_by : (f : StreamFault) → WritesFront script (with_bytes later.held.items (source.left between)) (source.left reader') (sink.taken writer) (sink.taken writer')
        → (f ≡ Read → WritesEnded script (with_bytes later.held.items (source.left between)) (source.left reader') (sink.taken writer) (sink.taken writer'))
        → (f ≡ Read → (source.has_failed reader' ≡ true) ⊎ Gets source.gets later.reads between reader')
        → (f ≡ Write → (sink.has_failed writer' ≡ true) ⊎ TookNone sink.puts writer')
        → (f ≡ Memory → (source.has_failed reader' ≡ false) × (sink.has_failed writer' ≡ false))
        → HasRun source sink script (behind (source.left reader)) reads reader reader' writer writer' (Err (stream_fault f))
    ended_behind_by f front ended read write memory =
        ended_by source sink script (behind (source.left reader)) reads reader reader' writer writer' f
        (front_behind line later.held.items is script (source.left reader) (source.left between) (source.left reader') (sink.taken writer) (sink.taken writer') to.0 front)
        (λ e. ended_behind line later.held.items is script (source.left reader) (source.left between) (source.left reader') (sink.taken writer) (sink.taken writer') to.0 (ended e))
        (λ e. reads_behind (read e)) write memory
