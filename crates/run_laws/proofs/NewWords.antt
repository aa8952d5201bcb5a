-- An edit whose own parts are made of words keeps that a map is.
use Rattle.std.proofs.Common.{ℕ, List, [], ◌∷◌, Option, Some, None, Result, Ok, Err, IfOk}
use Rattle.rdl_tree.specs.Items.{Items, Plain, named, own, default, dynamic, Holder, define, anonymous}
use Rattle.rdl_tree.specs.declared.shell.Shell.{Shell}
use Rattle.rdl_scope.specs.Target.{through}
use Rattle.rdl_scope.specs.Types.{type_of}
use Rattle.rdl_rewrite.specs.Addresses.{same, leads_to}
use Rattle.rdl_rewrite.specs.Renaming.{renamed_names, renamed_target, renamed_shell, renamed_plain, renamed_holder}
use Rattle.rdl_rewrite.specs.Rewritten.{rewritten}
use Rattle.rdl_rewrite.specs.Shell.{edited_shell}
use Rattle.rdl_rewrite.specs.declared.edit.Edit.{Edit}
use Rattle.rdl_rewrite.specs.declared.edit.Edit.TheVariants.{Add, Remove, Rename, Move, Resize, SetBits, SetAddress, SetStride, SetAlign, SetReset, SetOwn, SetDefault, ClearOwn, ClearDefault, Assign, Unassign}
use Rattle.rdl_rewrite.specs.declared.edit.PatchRefusal.{PatchRefusal}
use Rattle.rdl_text.specs.Name.{IsName}
use Rattle.run_laws.specs.NewParts.{IsEditOfWords}
use Rattle.rdl_round.specs.OfWords.{AreNames, IsShellOfWords, IsPlainOfWords, IsHolderOfWords, IsOfWords}
use Rattle.rdl_round.proofs.Bodies.{each-of-words, of-words-each}
use Rattle.rdl_round.proofs.Each.{chosen, Each}
use Rattle.run_laws.proofs.Kept.{KeptShell, KeptName, Brings, kept}

-- ---- A new name.

names-made : (way name : List ℕ) (path names : List (List ℕ)) → IsName name → AreNames names → AreNames (renamed_names way name path names)
names-made way name [] names f h = h
names-made way name (at ∷ path) [] f h = h
names-made way name (at ∷ path) (n ∷ names) f h = (chosen IsName (same at way) name n f h.0, names-made way name path names f h.1)

pub target-made : (way name : List ℕ) (o : Option (List (List ℕ))) (target : List (List ℕ)) → IsName name → AreNames target → AreNames (renamed_target way name o target)
target-made way name None target f h = h
target-made way name (Some path) target f h = names-made way name path target f h

pub shell-made : (way name at : List ℕ) (s : Shell) → IsName name → IsShellOfWords s → IsShellOfWords (renamed_shell way name at s)
shell-made way name at s f h =
    chosen IsShellOfWords (same at way) (record s { name = name }) s
    (record { name = f; dims = h.dims; range = h.range; reset = h.reset; address = h.address; stride = h.stride; align = h.align }) h

plain-made : (whole : Items) (way name at : List ℕ) (p : Plain) → IsName name → IsPlainOfWords p → IsPlainOfWords (renamed_plain whole way name at p)
plain-made whole way name at (named s t) f h = (shell-made way name at s f h.0, chosen IsName (leads_to way (type_of whole at)) name t f h.1)
plain-made whole way name at (own p v) f h = h
plain-made whole way name at (default p v) f h = h
plain-made whole way name at (dynamic t p v) f h = (target-made way name (through whole at) t f h.0, h.1, h.2)

holder-made : (way name at : List ℕ) (h : Holder) → IsName name → IsHolderOfWords h → IsHolderOfWords (renamed_holder way name at h)
holder-made way name at (define n k) f h = chosen IsName (same at way) name n f h
holder-made way name at (anonymous s k) f h = shell-made way name at s f h

name-made : (whole : Items) (name : List ℕ) → IsName name → KeptName IsPlainOfWords IsHolderOfWords whole name
name-made whole name f = record { of_plain = λ way at p h. plain-made whole way name at p f h; of_holder = λ way at h k. holder-made way name at h f k }

-- ---- A new part of a shell.

edited-made : (change : Shell → Shell) → ((s : Shell) → IsShellOfWords s → IsShellOfWords (change s)) → KeptShell IsPlainOfWords IsHolderOfWords change
edited-made change f = record { of_type = λ s t h. (f s h.0, h.1); of_component = λ s k h. f s h }

-- ---- The edit.

brings-words : (whole : Items) (e : Edit) → IsEditOfWords e → Brings IsPlainOfWords IsHolderOfWords whole e
brings-words whole (Add path place new) f = each-of-words new f
brings-words whole (Remove path) f = tt
brings-words whole (Rename path name) f = λ _. name-made whole name f
brings-words whole (Move path place) f = tt
brings-words whole (Resize path new) f =
    edited-made (edited_shell (Resize path new))
    (λ s h. record { name = h.name; dims = f; range = tt; reset = h.reset; address = h.address; stride = h.stride; align = h.align })
brings-words whole (SetBits path new) f =
    edited-made (edited_shell (SetBits path new))
    (λ s h. record { name = h.name; dims = tt; range = f; reset = h.reset; address = h.address; stride = h.stride; align = h.align })
brings-words whole (SetAddress path new) f =
    edited-made (edited_shell (SetAddress path new))
    (λ s h. record { name = h.name; dims = h.dims; range = h.range; reset = h.reset; address = f; stride = h.stride; align = h.align })
brings-words whole (SetStride path new) f =
    edited-made (edited_shell (SetStride path new))
    (λ s h. record { name = h.name; dims = h.dims; range = h.range; reset = h.reset; address = h.address; stride = f; align = h.align })
brings-words whole (SetAlign path new) f =
    edited-made (edited_shell (SetAlign path new))
    (λ s h. record { name = h.name; dims = h.dims; range = h.range; reset = h.reset; address = h.address; stride = h.stride; align = f })
brings-words whole (SetReset path new) f =
    edited-made (edited_shell (SetReset path new))
    (λ s h. record { name = h.name; dims = h.dims; range = h.range; reset = f; address = h.address; stride = h.stride; align = h.align })
brings-words whole (SetOwn path property value) f = f
brings-words whole (SetDefault path property value) f = f
brings-words whole (ClearOwn path property) f = tt
brings-words whole (ClearDefault path property) f = tt
brings-words whole (Assign path target property value) f = f
brings-words whole (Unassign path target property) f = tt

made : (r : Result Items PatchRefusal) → IfOk r (Each IsPlainOfWords IsHolderOfWords) → IfOk r IsOfWords
made (Ok new) h = of-words-each new h
made (Err refusal) h = tt

pub kept-words : (whole : Items) (e : Edit) → IsEditOfWords e → IsOfWords whole → IfOk (rewritten whole e) IsOfWords
kept-words whole e f h = made (rewritten whole e) (kept IsPlainOfWords IsHolderOfWords whole e (brings-words whole e f) (each-of-words whole h))
