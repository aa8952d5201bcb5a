-- Patches that change nothing on which a layout depends are quiet.
use Rattle.std.proofs.Common.{◌≡◌, Bool, true, false, ◌||◌, List, [], ◌∷◌, Option, Some, None, refl, ap, ◌∙◌}
use Rattle.std.specs.Prelude.{not, IsSomeAnd}
use Rattle.rdl_tree.specs.Items.{Items}
use Rattle.rdl_tree.specs.ItemAt.{item_at}
use Rattle.rdl_tree.specs.Patch.{patched}
use Rattle.rdl_tree.specs.declared.description.Item.{Item}
use Rattle.rdl_tree.specs.declared.description.Item.TheVariants.{Define, Instance, Own, Default, Dynamic}
use Rattle.rdl_tree.specs.declared.part.Part.{Part}
use Rattle.rdl_tree.specs.declared.part.Part.TheVariants.{OfShell, OfValue, OfTarget, OfType, OfDefine}
use Rattle.rdl_tree.specs.declared.patch.Patch.{Patch}
use Rattle.rdl_tree.specs.declared.patch.Patch.TheVariants.{Insert, Delete, Shift, Exchange}
use Rattle.rdl_reach.specs.EditedBodies.{lays_out}
use Rattle.rdl_reach.specs.Quiet.{is_quiet, IsQuietPart, IsQuiet, AreQuiet}
use Rattle.rdl_edit.specs.Still.{is_still, IsStillPart, IsStill, AreStill}

or-false : (b : Bool) → (b || false) ≡ b
or-false true = refl
or-false false = refl

quiet-item : (x : Item) → is_still x ≡ true → is_quiet x ≡ true
quiet-item (Define n c) h = cc
quiet-item (Instance s o) h = cc
quiet-item (Own p v) h = ap not (or-false (lays_out p)) ∙ h
quiet-item (Default p v) h = h
quiet-item (Dynamic t p v) h = refl

quiet-part : (part : Part) (x : Item) → IsStillPart part x → IsQuietPart part x
quiet-part (OfShell new) (Define n c) h = cc
quiet-part (OfShell new) (Instance s o) h = record { dims = h.dims; range = h.range; address = h.address; stride = h.stride; align = h.align }
quiet-part (OfShell new) (Own p v) h = quiet-item (Own p v) h
quiet-part (OfShell new) (Default p v) h = h
quiet-part (OfShell new) (Dynamic t p v) h = refl
quiet-part (OfValue new) (Define n c) h = cc
quiet-part (OfValue new) (Instance s o) h = cc
quiet-part (OfValue new) (Own p v) h = quiet-item (Own p v) h
quiet-part (OfValue new) (Default p v) h = h
quiet-part (OfValue new) (Dynamic t p v) h = refl
quiet-part (OfTarget new) (Define n c) h = cc
quiet-part (OfTarget new) (Instance s o) h = cc
quiet-part (OfTarget new) (Own p v) h = quiet-item (Own p v) h
quiet-part (OfTarget new) (Default p v) h = h
quiet-part (OfTarget new) (Dynamic t p v) h = refl
quiet-part (OfType new) (Define n c) h = cc
quiet-part (OfType new) (Instance s o) h = tt
quiet-part (OfType new) (Own p v) h = quiet-item (Own p v) h
quiet-part (OfType new) (Default p v) h = h
quiet-part (OfType new) (Dynamic t p v) h = refl
quiet-part (OfDefine new) (Define n c) h = tt
quiet-part (OfDefine new) (Instance s o) h = cc
quiet-part (OfDefine new) (Own p v) h = quiet-item (Own p v) h
quiet-part (OfDefine new) (Default p v) h = h
quiet-part (OfDefine new) (Dynamic t p v) h = refl

of-each : (P Q : Item → Type 0) (o : Option Item) → ((x : Item) → P x → Q x) → IsSomeAnd o P → IsSomeAnd o Q
of-each P Q None to h = h
of-each P Q (Some x) to h = to x h

quiet-patch : (p : Patch) (t : Items) → IsStill p t → IsQuiet p t
quiet-patch (Insert at x) t h = quiet-item x h
quiet-patch (Delete at) t h = of-each (λ x. is_still x ≡ true) (λ x. is_quiet x ≡ true) (item_at at t) quiet-item h
quiet-patch (Shift at to) t h = of-each (λ x. is_still x ≡ true) (λ x. is_quiet x ≡ true) (item_at at t) quiet-item h
quiet-patch (Exchange at part) t h = of-each (IsStillPart part) (IsQuietPart part) (item_at at t) (quiet-part part) h

pub quiet-stills : (ps : List Patch) (t : Items) → AreStill ps t → AreQuiet ps t
quiet-stills [] t h = tt
quiet-stills (p ∷ ps) t h = (quiet-patch p t h.0, quiet-stills ps (patched p t) h.1)
