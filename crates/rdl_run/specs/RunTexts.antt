-- Which texts a run hands out. Own.
use Rattle.std.specs.Prelude.{ℕ, List, [], length, Option, Some, string_bytes}
use Rattle.rdl_run.specs.Output.{Outputs, Ran}
use Rattle.rdl_run.specs.Turns.{HasTaken}
use Rattle.rdl_run.specs.declared.counted.Counts.{Counts}
use Rattle.rdl_run.specs.declared.run.Options.{Options}
use Rattle.rdl_run.specs.declared.run.Texts.{Texts}

-- four outputs, of which three are texts in memory
abbrev pub in_memory : Option (List ℕ) → (rdl header session : List ℕ) → Outputs
in_memory messages rdl header session = record { messages = messages; rdl = Some rdl; header = Some header; session = Some session }

-- the texts and the status are those of a whole run, on bytes that are the inputs' where those are known, and its messages were
-- written
abbrev pub AreRun : Options → (map script old new : Option (List ℕ)) → Texts → Type 0
AreRun options map script old new texts =
    Ran options map script (in_memory old [] [] []) (in_memory new (string_bytes texts.rdl) (string_bytes texts.header) (string_bytes texts.session)) texts.status

-- the same, with what the output of the messages took
pub record AreRunCounted (options : Options) (map script old new : Option (List ℕ)) (counted counts : Counts) (texts : Texts) : Type 0 where
  pub run : AreRun options map script old new texts
  pub took : HasTaken counted counts (length run.out.messages)
