-- The four outputs of a run as the run holds them: what is known of them, and how they were asked. Own.
use Rattle.std.specs.Prelude.{◌≡◌, ℕ, Bool, List, length, Option}
use Rattle.std.specs.Io.KnownBytes.{Appends}
use Rattle.rdl_run.specs.Answers.{History', Serves}
use Rattle.rdl_run.specs.Output.{Outputs}
use Rattle.rdl_run.specs.Turns.{HasTaken, Tallies, tallies}
use Rattle.rdl_run.specs.declared.counted.Counts.{Counts}
use Rattle.rdl_run.specs.declared.outputs.Outputs.{Outputs as Writers}

-- what is known of each, by what is known of its writer
abbrev pub known : {R H Z E : Type 0} → (R → Option (List ℕ)) → (H → Option (List ℕ)) → (Z → Option (List ℕ)) → (E → Option (List ℕ)) → Writers R H Z E → Outputs
known of_rdl of_header of_session of_messages o =
    record { messages = of_messages o.messages.writer.now; rdl = of_rdl o.rdl.writer.now; header = of_header o.header.writer.now; session = of_session o.session.writer.now }

-- how they were asked
abbrev pub counts_of : {R H Z E : Type 0} → Writers R H Z E → Tallies
counts_of o = tallies o.messages.counts o.rdl.counts o.header.counts o.session.counts

-- this is so of what is known of these outputs, and of how they were asked, before and after
abbrev pub AtWriters : {R H Z E A : Type 0} → (Writers R H Z E → Outputs) → (Outputs → Outputs → Tallies → Tallies → A → Type 0) → (old new : Writers R H Z E) → A → Type 0
AtWriters held IsSo old new = IsSo (held old) (held new) (counts_of old) (counts_of new)

-- they write where they wrote
pub record SameWriters {R H Z E : Type 0} (old new : Writers R H Z E) : Type 0 where
  pub messages : new.messages.writer.ghost_name ≡ old.messages.writer.ghost_name
  pub rdl : new.rdl.writer.ghost_name ≡ old.rdl.writer.ghost_name
  pub header : new.header.writer.ghost_name ≡ old.header.writer.ghost_name
  pub session : new.session.writer.ghost_name ≡ old.session.writer.ghost_name

-- the lines were served, and their messages written behind what an output had
abbrev pub ServesAll : (first last : History') → (lines : List (List ℕ)) → (old new : Option (List ℕ)) → (counted counts : Counts) → (refuses : Bool) → Type 0
ServesAll first last lines old new counted counts refuses = (text : List ℕ) × Serves first lines text refuses last × Appends old new text × HasTaken counted counts (length text)
