-- The words that a line may begin with. Own.
use Rattle.std.specs.Prelude.{ℕ, List, [], ◌∷◌, Option, codes, bytes_eq, find}
use Rattle.rdl_script.specs.declared.verb.Verb.{Verb}
use Rattle.rdl_script.specs.declared.verb.Verb.TheVariants.{Undo, Redo, List as Listing, Add, Edit}
use Rattle.rdl_script.specs.declared.verb.EditVerb.{EditVerb}
use Rattle.rdl_script.specs.declared.verb.EditVerb.TheVariants.{Remove, Rename, Move, Resize, Bits, Number, Set, Clear, Assign, Unassign}
use Rattle.rdl_script.specs.declared.verb.Part.TheVariants.{Address, Stride, Align, Reset}
use Rattle.rdl_script.specs.declared.verb.Sort.TheVariants.{Own, Default}

abbrev pub edit_text : EditVerb → List ℕ
edit_text Remove = codes "remove"
edit_text Rename = codes "rename"
edit_text Move = codes "move"
edit_text Resize = codes "resize"
edit_text Bits = codes "bits"
edit_text (Number Address) = codes "address"
edit_text (Number Stride) = codes "stride"
edit_text (Number Align) = codes "align"
edit_text (Number Reset) = codes "reset"
edit_text (Set Own) = codes "set"
edit_text (Set Default) = codes "default"
edit_text (Clear Own) = codes "clear"
edit_text (Clear Default) = codes "nodefault"
edit_text Assign = codes "assign"
edit_text Unassign = codes "unassign"

abbrev pub verb_text : Verb → List ℕ
verb_text Undo = codes "undo"
verb_text Redo = codes "redo"
verb_text Listing = codes "list"
verb_text Add = codes "add"
verb_text (Edit verb) = edit_text verb

abbrev pub verbs : List Verb
verbs =
    Undo ∷ Redo ∷ Listing ∷ Add ∷ Edit Remove ∷ Edit Rename ∷ Edit Move ∷ Edit Resize ∷ Edit Bits ∷ Edit (Number Address) ∷ Edit (Number Stride)
    ∷ Edit (Number Align) ∷ Edit (Number Reset) ∷ Edit (Set Own) ∷ Edit (Set Default) ∷ Edit (Clear Own) ∷ Edit (Clear Default) ∷ Edit Assign
    ∷ Edit Unassign ∷ []

-- the command that is spelled so
unfoldable pub verb_of : List ℕ → Option Verb
verb_of word = find (λ verb. bytes_eq word (verb_text verb)) verbs
