-- What a search finds, row by row.
use Rattle.std.proofs.Common.{◌≡◌, ℕ, List, [], ◌∷◌, ◌++◌, map, Some, None, Option, refl, ap, sym, subst, ◌∙◌}
use Rattle.std.specs.Option.{option_or}
use Rattle.rdl_tree.specs.Items.{Items}
use Rattle.rdl_tree.specs.declared.fault.Fault.{Fault}
use Rattle.rdl_tree.specs.declared.fault.FaultKind.{FaultKind}
use Rattle.rdl_scope.specs.ItemFaults.{fault_at}
use Rattle.rdl_elab.specs.Rows.{Judged}
use Rattle.rdl_elab.specs.Faults.{kind_fault, row_fault, first_row_fault}
use Rattle.sound_nodes.specs.declared.found.Found.{Found}
use Rattle.sound_nodes.specs.declared.found.Found.TheVariants.{Clear, Faulty, Untold}
use Rattle.sound_nodes.specs.Rows.{found_or, faulty_or}

-- what is found is the fault that there is, if it is told
abbrev pub Tells : Found → Option Fault → Type 0
Tells Clear o = o ≡ None
Tells (Faulty f) o = o ≡ Some f
Tells Untold o = Unit {0}

pub tells-same : (f : Found) (x y : Option Fault) → x ≡ y → Tells f x → Tells f y
tells-same f x y e h = subst (Tells f) e h

pub then-tells : (f g : Found) (x y : Option Fault) → Tells f x → Tells g y → Tells (found_or f g) (option_or x y)
then-tells Clear g x y e h = subst (λ o. Tells g (option_or o y)) (sym e) h
then-tells (Faulty f) g x y e h = ap (λ o. option_or o y) e
then-tells Untold g x y e h = tt

pub faulty-tells : (at : List ℕ) (k : Option FaultKind) (g : Found) (y : Option Fault) → (k ≡ None → Tells g y) → Tells (faulty_or at k g) (option_or (fault_at at k) y)
faulty-tells at None g y h = h refl
faulty-tells at (Some kind) g y h = refl

or-assoc : {X : Type 0} (a b c : Option X) → option_or (option_or a b) c ≡ option_or a (option_or b c)
or-assoc None b c = refl
or-assoc (Some x) b c = refl

faults-split : (d : Items) (xs ys : List Judged) → first_row_fault d (xs ++ ys) ≡ option_or (first_row_fault d xs) (first_row_fault d ys)
faults-split d [] ys = refl
faults-split d (r ∷ xs) ys = ap (option_or (row_fault d r)) (faults-split d xs ys) ∙ sym (or-assoc (row_fault d r) (first_row_fault d xs) (first_row_fault d ys))

-- a row, the rows below it, and those behind them
pub row-tells : (d : Items) (r : Judged) (xs ys : List Judged) (f g : Found) → Tells f (option_or (row_fault d r) (first_row_fault d xs)) → Tells g (first_row_fault d ys)
    → Tells (found_or f g) (first_row_fault d (r ∷ (xs ++ ys)))
row-tells d r xs ys f g here behind =
    tells-same (found_or f g) (option_or (option_or (row_fault d r) (first_row_fault d xs)) (first_row_fault d ys)) (first_row_fault d (r ∷ (xs ++ ys)))
    (or-assoc (row_fault d r) (first_row_fault d xs) (first_row_fault d ys) ∙ ap (option_or (row_fault d r)) (sym (faults-split d xs ys)))
    (then-tells f g (option_or (row_fault d r) (first_row_fault d xs)) (first_row_fault d ys) here behind)

-- a row with none below it
pub lone-row-tells : (d : Items) (r : Judged) (xs ys : List Judged) (f : Found) → first_row_fault d xs ≡ None → Tells f (option_or (row_fault d r) (first_row_fault d ys))
    → Tells f (first_row_fault d (r ∷ (xs ++ ys)))
lone-row-tells d r xs ys f none tells =
    tells-same f (option_or (row_fault d r) (first_row_fault d ys)) (first_row_fault d (r ∷ (xs ++ ys)))
    (ap (option_or (row_fault d r)) (sym (faults-split d xs ys ∙ ap (λ o. option_or o (first_row_fault d ys)) none))) tells

-- what a row of this address and this fault is
pub here-tells : (d : Items) (r : Judged) (at : List ℕ) (k : Option FaultKind) (g : Found) (y : Option Fault) → r.at ≡ at → kind_fault r.head.kind d r ≡ k → (k ≡ None → Tells g y)
    → Tells (faulty_or at k g) (option_or (row_fault d r) y)
here-tells d r at k g y place fault more =
    tells-same (faulty_or at k g) (option_or (fault_at at k) y) (option_or (row_fault d r) y) (λ i. option_or (fault_at (sym place i) (sym fault i)) y) (faulty-tells at k g y more)

pub map-more : {X Y : Type 0} (f : X → Y) (xs : List X) (x : X) → map f xs ++ f x ∷ [] ≡ map f (xs ++ x ∷ [])
map-more f [] x = refl
map-more f (y ∷ xs) x = ap (λ zs. f y ∷ zs) (map-more f xs x)
