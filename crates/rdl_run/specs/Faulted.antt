-- What the outputs hold where a run stops with a fault: prefixes of one output of the run. Own.
use Rattle.std.specs.Prelude.{◌≡◌, ◌⊎◌, ℕ, Bool, List, [], ◌++◌, take, Option}
use Rattle.std.specs.Io.KnownBytes.{Appends}
use Rattle.rdl_write.specs.Texts.{newline}
use Rattle.rdl_run.specs.Answers.{History', Serves}
use Rattle.rdl_run.specs.Known.{Gives, AppendsFront}
use Rattle.rdl_run.specs.Output.{Output, Outputs, Runs, IsOutput}
use Rattle.rdl_run.specs.Sources.{without_source}
use Rattle.rdl_run.specs.declared.run.Options.{Options}
use Rattle.rdl_run.specs.declared.status.RunFault.{RunFault}
use Rattle.rdl_run.specs.declared.status.RunFault.TheVariants.{Read, Write, Memory, TooLong, Interrupted}

-- it ends with a line feed
pub record EndsLine (text : List ℕ) : Type 0 where
  pub before : List ℕ
  pub ends : text ≡ before ++ newline

-- no line, or some whole ones
abbrev pub IsWholeLines : List ℕ → Type 0
IsWholeLines text = (text ≡ []) ⊎ EndsLine text

-- memory: whole lines of the messages were written, and nothing of the files
pub record LeavesLines (old new : Outputs) (out : Output) : Type 0 where
  pub len : ℕ
  pub lines : IsWholeLines (take len out.messages)
  pub messages : Appends old.messages new.messages (take len out.messages)
  pub rdl : new.rdl ≡ old.rdl
  pub header : new.header ≡ old.header
  pub session : new.session ≡ old.session

-- a write of the messages failed
pub record LeavesMessages (old new : Outputs) (out : Output) : Type 0 where
  pub messages : AppendsFront old.messages new.messages out.messages
  pub rdl : new.rdl ≡ old.rdl
  pub header : new.header ≡ old.header
  pub session : new.session ≡ old.session

-- a write of the map failed
pub record LeavesMap (old new : Outputs) (out : Output) : Type 0 where
  pub messages : Appends old.messages new.messages out.messages
  pub rdl : AppendsFront old.rdl new.rdl out.rdl
  pub header : new.header ≡ old.header
  pub session : new.session ≡ old.session

-- a write of the header failed
pub record LeavesHeader (old new : Outputs) (out : Output) : Type 0 where
  pub messages : Appends old.messages new.messages out.messages
  pub rdl : Appends old.rdl new.rdl out.rdl
  pub header : AppendsFront old.header new.header out.header
  pub session : new.session ≡ old.session

-- a write of the session failed
pub record LeavesSession (old new : Outputs) (out : Output) : Type 0 where
  pub messages : Appends old.messages new.messages out.messages
  pub rdl : Appends old.rdl new.rdl out.rdl
  pub header : Appends old.header new.header out.header
  pub session : AppendsFront old.session new.session out.session

-- by the fault: nothing was written where an input wasn't read
abbrev pub Leaves : RunFault → Outputs → Outputs → Output → Type 0
Leaves Read old new out = new ≡ old
Leaves TooLong old new out = new ≡ old
Leaves Interrupted old new out = new ≡ old
Leaves Memory old new out = LeavesLines old new out
Leaves Write old new out = LeavesMessages old new out ⊎ (LeavesMap old new out ⊎ (LeavesHeader old new out ⊎ LeavesSession old new out))

-- a run of a script stopped, from a history that was opened
pub record FaultedFrom (asked : Bool) (first : History') (script : List ℕ) (old new : Outputs) (fault : RunFault) : Type 0 where
  pub out : Output
  pub runs : Runs asked first script out
  pub leaves : Leaves fault old new out

-- a whole run stopped, on bytes that are the readers' where those are known
pub record Faulted (options : Options) (map script : Option (List ℕ)) (old new : Outputs) (fault : RunFault) : Type 0 where
  pub map_bytes : List ℕ
  pub script_bytes : List ℕ
  pub map_given : Gives map map_bytes
  pub script_given : Gives script script_bytes
  pub out : Output
  pub is_output : IsOutput options (without_source map_bytes) script_bytes out
  pub leaves : Leaves fault old new out

-- ---- Serving the lines of a script.

-- a write that fails leaves a front; want of memory comes between two messages
abbrev pub Wrote : RunFault → Option (List ℕ) → Option (List ℕ) → List ℕ → Type 0
Wrote Memory old new text = Appends old new text
Wrote Write old new text = AppendsFront old new text
Wrote fault old new text = ⊥

-- it stopped behind the first of these lines, whose messages are this text
pub record StopsServing (first : History') (lines : List (List ℕ)) (old new : Option (List ℕ)) (fault : RunFault) : Type 0 where
  pub served : List (List ℕ)
  pub rest : List (List ℕ)
  pub parts : lines ≡ served ++ rest
  pub text : List ℕ
  pub refuses : Bool
  pub last : History'
  pub serves : Serves first served text refuses last
  pub wrote : Wrote fault old new text
