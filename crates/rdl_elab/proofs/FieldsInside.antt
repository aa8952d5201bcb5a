-- In a description without a fault, fields alone stand in a register.
use Rattle.std.proofs.Common.{◌≡◌, ℕ, List, [], ◌∷◌, ◌++◌, true, Some, None, refl, ap, sym, ◌∙◌}
use Rattle.std.specs.Prelude.{option_and_then, slice_get}
use Rattle.rdl_tree.specs.ItemAt.{item_at}
use Rattle.rdl_tree.specs.Items.{Items}
use Rattle.rdl_tree.specs.View.{list_of}
use Rattle.rdl_tree.specs.declared.shell.Shell.{Shell}
use Rattle.rdl_tree.specs.declared.shell.Kind.{Kind}
use Rattle.rdl_tree.specs.declared.shell.Kind.TheVariants.{Addrmap, Regfile, Reg, Field}
use Rattle.rdl_tree.specs.declared.description.Item.{Item}
use Rattle.rdl_tree.specs.declared.description.Item.TheVariants.{Instance}
use Rattle.rdl_scope.specs.Target.{body_of, number_of}
use Rattle.rdl_scope.specs.ItemFaults.{may_instantiate, kind_at, instance_kind, fault_of}
use Rattle.rdl_scope.specs.Closed.{Head, Parts, no_parts, part, Made, component}
use Rattle.rdl_scope.proofs.AsFound.{as_found}
use Rattle.rdl_scope.proofs.Accepted.{kinds-allowed}
use Rattle.rdl_elab.specs.Found.{IsPartFound, ArePartsFound}
use Rattle.rdl_elab.proofs.PartsFound.{item-here, parts-found}
use Rattle.rdl_elab.proofs.Fitting.{FieldsIn}

field-alone : (k : Kind) → may_instantiate (Some Reg) k ≡ true → k ≡ Field
field-alone Addrmap e = cc
field-alone Regfile e = cc
field-alone Reg e = cc
field-alone Field e = refl

item-place : (a : List ℕ) (d : Items) (x : Item) → item_at a d ≡ Some x → a ≡ body_of a ++ number_of a ∷ []
item-place [] d x e = cc
item-place (k ∷ []) d x e = refl
item-place (k ∷ j ∷ a) d x e = ap (λ c. k ∷ c) (parted (j ∷ a) k j a refl)
  where
    parted : (c : List ℕ) (k j : ℕ) (a : List ℕ) → c ≡ j ∷ a → j ∷ a ≡ body_of (j ∷ a) ++ number_of (j ∷ a) ∷ []
    parted c k j [] e = refl
    parted c k j (i ∷ a) e = ap (λ c. j ∷ c) (parted (i ∷ a) j i a refl)

-- an instance of a component is of a kind that the component may hold
pub kind-allowed : (d : Items) (b : List ℕ) (m : Made) (at : List ℕ) (s : Shell) (h : Head) (inside : Parts) → fault_of d ≡ None → component d b ≡ Some m → IsPartFound d b at s h inside
    → may_instantiate (Some m.head.kind) h.kind ≡ true
kind-allowed d b m at s h inside none holds f =
    let around = as_found d b m holds in
    let within = as_found d h.at (record { head = h; parts = inside }) f.component in
    let place : at ≡ b ++ number_of at ∷ [] = item-place at d (Instance s f.of) f.instance ∙ ap (λ c. c ++ number_of at ∷ []) f.around in
    let here : slice_get (list_of m.head.body) (number_of at) ≡ Some (Instance s f.of) =
    sym (item-here b d m.head.body (number_of at) around.body) ∙ ap (λ a. item_at a d) (sym place) ∙ f.instance in
    let kind : instance_kind d (b ++ number_of at ∷ []) ≡ Some h.kind =
    ap (instance_kind d) (sym place) ∙ ap (option_and_then (kind_at d)) f.is ∙ ap (λ o. elim o [ None ↦ None | Some c ↦ Some c.kind ]) within.component in
    kinds-allowed d b (record { kind = m.head.kind; body = m.head.body }) (number_of at) s f.of h.kind none around.component here kind

fields-in : (d : Items) (b : List ℕ) (m : Made) (ps : Parts) → fault_of d ≡ None → component d b ≡ Some m → ArePartsFound d b ps → FieldsIn m.head.kind ps
fields-in d b m no_parts none holds f = tt
fields-in d b m (part at s h inside rest) none holds f =
    let may = kind-allowed d b m at s h inside none holds f.0 in (
      λ is. field-alone h.kind (ap (λ k. may_instantiate (Some k) h.kind) (sym is) ∙ may),
      fields-in d h.at (record { head = h; parts = inside }) inside none f.0.component f.1,
      fields-in d b m rest none holds f.2,
    )

pub registers-hold-fields : (d : Items) (a : List ℕ) (c : Made) → fault_of d ≡ None → component d a ≡ Some c → FieldsIn c.head.kind c.parts
registers-hold-fields d a c none holds = fields-in d a c c.parts none holds (parts-found d a c holds)
