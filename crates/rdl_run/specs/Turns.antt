-- How often a reader and a writer are asked. Own.
use Rattle.std.specs.Prelude.{◌≡◌, ◌≢◌, ◌⊎◌, ◌≤◌, ◌<◌, ◌+◌, ◌-◌, ◌^◌, ℕ, true, false, List, length, take, min, Option, Result, Ok, Err}
use Rattle.std.specs.Io.KnownBytes.{Appends, Keeps}
use Rattle.std.specs.IoError.{error_kind}
use Rattle.std.specs.declared.io.Error.{Error}
use Rattle.std.specs.declared.io.ErrorKind.TheVariants as kinds
use Rattle.rdl_run.specs.declared.counted.Counts.{Counts}
use Rattle.rdl_run.specs.declared.counted.Reads.{Reads}
use Rattle.rdl_run.specs.declared.counted.Outcome.{Outcome}
use Rattle.rdl_run.specs.declared.counted.Outcome.TheVariants.{Took, Interrupted, Refused, Exhausted}

-- how often one input or output may be interrupted
abbrev pub most_interrupts : ℕ
most_interrupts = 1000

-- ---- Inputs.

-- an input that was never asked
abbrev pub unread : Reads
unread = record { reads = 0; interrupts = 0; failed = false }

-- it may still be asked
pub record MayBeRead (counts : Reads) : Type 0 where
  pub unfailed : counts.failed ≡ false
  pub few : counts.interrupts ≤ most_interrupts

-- it was interrupted once too often
abbrev pub IsInterrupted : Reads → Type 0
IsInterrupted counts = counts.interrupts ≡ most_interrupts + 1

-- one read: it answers, or is interrupted, or fails
abbrev pub CountedRead : (old new : Reads) → Result ℕ Error → Type 0
CountedRead old new (Ok n) = new ≡ record old { reads = old.reads + 1 }
CountedRead old new (Err e) = ((error_kind e ≡ kinds.Interrupted) × (new ≡ record old { reads = old.reads + 1; interrupts = old.interrupts + 1 }))
    ⊎ ((error_kind e ≢ kinds.Interrupted) × (new ≡ record old { reads = old.reads + 1; failed = true }))

-- ---- Outputs.

-- how far takes and bytes are counted
abbrev pub most_counted : ℕ
most_counted = 2 ^ 64 - 1

-- an output that was never asked
abbrev pub unwritten : Counts
unwritten = record { takes = 0; taken = 0; interrupts = 0; refused = false; ended = false }

-- one write: it takes a byte, or is interrupted, or ends the output
abbrev pub Counted : (old new : Counts) → Outcome → Type 0
Counted old new (Took n) = (0 < n) × (new ≡ record old { takes = min (old.takes + 1) most_counted; taken = min (old.taken + n) most_counted })
Counted old new Interrupted = new ≡ record old { interrupts = old.interrupts + 1 }
Counted old new Refused = new ≡ record old { refused = true; ended = true }
Counted old new Exhausted = (old.interrupts ≡ most_interrupts) × (new ≡ record old { ended = true })

-- it may still be asked
pub record IsOpen (counts : Counts) : Type 0 where
  pub unended : counts.ended ≡ false
  pub few : counts.interrupts ≤ most_interrupts

-- it has ended, and for a cause: a write took nothing or failed, or was interrupted behind 1,000 others
pub record IsGivenUp (counts : Counts) : Type 0 where
  pub ended : counts.ended ≡ true
  pub cause : (counts.refused ≡ true) ⊎ (counts.interrupts ≡ most_interrupts)

-- the counts of the four outputs
pub record Tallies : Type 0 where
  pub messages : Counts
  pub rdl : Counts
  pub header : Counts
  pub session : Counts

abbrev pub tallies : (messages rdl header session : Counts) → Tallies
tallies messages rdl header session = record { messages = messages; rdl = rdl; header = header; session = session }

-- none of the four outputs has ended
pub record AreOpen (t : Tallies) : Type 0 where
  pub messages : IsOpen t.messages
  pub rdl : IsOpen t.rdl
  pub header : IsOpen t.header
  pub session : IsOpen t.session

-- none of them was asked
pub record AreUnwritten (t : Tallies) : Type 0 where
  pub messages : t.messages ≡ unwritten
  pub rdl : t.rdl ≡ unwritten
  pub header : t.header ≡ unwritten
  pub session : t.session ≡ unwritten

-- one of them has ended
abbrev pub HasEnded : Tallies → Type 0
HasEnded t = (t.messages.ended ≡ true) ⊎ (t.rdl.ended ≡ true) ⊎ (t.header.ended ≡ true) ⊎ (t.session.ended ≡ true)

-- one of them has ended for a cause
abbrev pub GivesUp : Tallies → Type 0
GivesUp t = IsGivenUp t.messages ⊎ IsGivenUp t.rdl ⊎ IsGivenUp t.header ⊎ IsGivenUp t.session

-- each was interrupted at most 1,000 times
pub record AreFew (t : Tallies) : Type 0 where
  pub messages : t.messages.interrupts ≤ most_interrupts
  pub rdl : t.rdl.interrupts ≤ most_interrupts
  pub header : t.header.interrupts ≤ most_interrupts
  pub session : t.session.interrupts ≤ most_interrupts

-- it took so many bytes more, as far as they are counted
pub record HasTaken (old new : Counts) (n : ℕ) : Type 0 where
  pub no_more : new.taken ≤ old.taken + n
  pub no_fewer : min (old.taken + n) most_counted ≤ new.taken

-- what it wrote of these bytes
abbrev pub WritesOnce : (old new : Option (List ℕ)) → List ℕ → Outcome → Type 0
WritesOnce old new bytes (Took n) = (n ≤ length bytes) × Appends old new (take n bytes)
WritesOnce old new bytes Interrupted = Keeps old new
WritesOnce old new bytes Refused = Keeps old new
WritesOnce old new bytes Exhausted = Keeps old new
