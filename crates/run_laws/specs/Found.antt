-- An edited text of a map is found wherever a script leads, and keeps the order of what no edit touched or moved.
-- own: SystemRDL 2.0 has no edits.
use Rattle.std.specs.Prelude.{◌≡◌, ◌⊎◌, ℕ, true, false, List, Option, None, String, string_bytes}
use Rattle.std.specs.declared.alloc.Global.{Global}
use Rattle.journal_core.specs.History.{History, IsAt}
use Rattle.rdl_tree.specs.declared.patch.Patch.{Patch}
use Rattle.rdl_edit.specs.Step.{State}
use Rattle.rdl_origin.specs.Numbered.{origins_of}
use Rattle.rdl_origin.specs.View.{list_of}
use Rattle.rdl_session.specs.Reading.{source_in}
use Rattle.rdl_run.specs.Beside.{EditsOpened}
use Rattle.rdl_source.specs.Laid.{Laid}
use Rattle.rdl_weave.specs.InTurn.{KeepsOrder}
use Rattle.rdl_weave.specs.Untouched.{sizes_of}
use Rattle.rdl_weave.specs.Weaving.{AreStatements}
use Rattle.rdl_run.specs.Edited.{SpellsFirst, all_led_back}
use Rattle.rdl_run.specs.Sessions.{LeadBack, is_session}
use Rattle.rdl_run.specs.declared.edited.Edited.{Edited}
use Rattle.rdl_run.specs.declared.edited.Edited.TheVariants.{Missing, Woven}
use Rattle.rdl_run.specs.declared.edited.Unwoven.TheVariants.{NotWoven}
use Rattle.rdl_run.specs.declared.run.Options.{Options}
use Rattle.run_laws.specs.Histories.{ScriptLeads}

-- the text of a map stays a text of the first map of the history
abbrev pub MapsStayFirst : Type 0
MapsStayFirst = (option : Option (List ℕ)) (limit : ℕ) (bytes script : List ℕ) (last : History State) → is_session bytes ≡ false → ScriptLeads option limit bytes script last → SpellsFirst last bytes

-- what a run on a map, and no session, makes is never K2
abbrev pub EditedTextsAreFound : Type 0
EditedTextsAreFound =
    (options : Options) (map script canonical : List ℕ) (edited : Edited) → EditsOpened options map script canonical edited → source_in map ≡ None → is_session map ≡ false → options.edited ≡ true
    → edited ≡ Missing NotWoven → ⊥

-- at every depth the source's statements that no edit touched or moved stand in the text in their order, as the steps say that lead from
-- the place of a history back to its first map
pub record KeepsOrderOf (h : History State) (source text : List ℕ) : Type 0 where
  pub laid : Laid
  pub statements : AreStatements source laid
  pub now : State
  pub at : IsAt h now
  pub steps : List (List Patch)
  pub back : LeadBack h steps
  pub order : KeepsOrder source (sizes_of now.description) text laid (list_of (all_led_back steps (origins_of now.description)))

-- the edited text of a run on a map, and no session, is the map's own, or keeps the order
abbrev pub EditedTextsKeepOrder : Type 0
EditedTextsKeepOrder =
    (options : Options) (map script canonical : List ℕ) (text : String Global) (e : EditsOpened options map script canonical (Woven text)) → source_in map ≡ None → is_session map ≡ false → options.edited ≡ true
    → (string_bytes text ≡ map) ⊎ KeepsOrderOf e.edits.last map (string_bytes text)
