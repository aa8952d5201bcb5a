-- Why an edit isn't made. Own.
use Rattle.std.specs.Prelude.{◌≤◌}
use Rattle.journal_core.specs.History.{History, Refuses}
use Rattle.journal_core.specs.declared.fault.EditFault.{EditFault}
use Rattle.journal_core.specs.declared.fault.EditFault.TheVariants.{Full, Refused, Memory}

-- the history is full, or the map refuses it, or memory is wanted
abbrev pub Explains : {S C R : Type 0} → (S → C → R → Type 0) → C → History S → EditFault R → Type 0
Explains refuses change h Full = h.limit ≤ h.place
Explains refuses change h (Refused refusal) = Refuses refuses change h refusal
Explains refuses change h Memory = Unit {0}
