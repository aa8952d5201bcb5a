-- Patches lead from each description to each other one that nests at most 16 deep: all items go, and the others come.
use Rattle.std.proofs.Common.{◌≡◌, ◌≤◌, List, [], ◌∷◌, ◌++◌, refl, sym, ap, ◌∙◌, subst}
use Rattle.rdl_tree.specs.Depth.{depth}
use Rattle.rdl_tree.specs.Items.{Items, no_items, plain, holder}
use Rattle.rdl_tree.specs.Patch.{AllFit, image, inverses, patched}
use Rattle.rdl_tree.specs.declared.patch.Patch.{Patch}
use Rattle.rdl_tree.specs.declared.patch.Patch.TheVariants.{Delete}
use Rattle.rdl_tree.proofs.Nesting.{AllFit-inverses}
use Rattle.rdl_tree.proofs.Patching.{AllFit-append, image-append, image-inverses}
use Rattle.rdl_tree.proofs.Rounds.{items_of-list_of}

-- the first item goes, as often as there are items
abbrev emptying : Items → List Patch
emptying no_items = []
emptying (plain p rest) = Delete (0 ∷ []) ∷ emptying rest
emptying (holder h body rest) = Delete (0 ∷ []) ∷ emptying rest

record Empties (t : Items) : Type 0 where
  fit : AllFit (emptying t) t
  leads : image (emptying t) t ≡ no_items

empties : (t : Items) → Empties t
empties no_items = record { fit = tt; leads = refl }
empties (plain p rest) =
    let more = empties rest in
    let left : patched (Delete (0 ∷ [])) (plain p rest) ≡ rest = items_of-list_of rest in
    record { fit = (refl, subst (AllFit (emptying rest)) (sym left) more.fit); leads = ap (image (emptying rest)) left ∙ more.leads }
empties (holder h body rest) =
    let more = empties rest in
    let left : patched (Delete (0 ∷ [])) (holder h body rest) ≡ rest = items_of-list_of rest in
    record { fit = (refl, subst (AllFit (emptying rest)) (sym left) more.fit); leads = ap (image (emptying rest)) left ∙ more.leads }

pub record LeadsTo (from to : Items) : Type 0 where
  pub step : List Patch
  pub fit : AllFit step from
  pub led : image step from ≡ to

pub rebuilt : (from to : Items) → depth to ≤ 16 → LeadsTo from to
rebuilt from to deep =
    let out = emptying from in
    let back = emptying to in
    let fit : AllFit (inverses back to) no_items = subst (AllFit (inverses back to)) (empties to).leads (AllFit-inverses back to (empties to).fit deep) in
    record {
      step = out ++ inverses back to;
      fit = AllFit-append out (inverses back to) from (empties from).fit (subst (AllFit (inverses back to)) (sym (empties from).leads) fit);
      led =
          image-append out (inverses back to) from ∙ ap (image (inverses back to)) ((empties from).leads ∙ sym (empties to).leads)
          ∙ image-inverses back to (empties to).fit;
    }
