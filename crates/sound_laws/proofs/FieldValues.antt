-- The `sw` and the `reset` of a field in a register, where what has come is harmless.
use Rattle.std.proofs.Common.{◌≡◌, ℕ, List, [], ◌∷◌, ◌++◌, Bool, true, false, Some, None, Option, refl, ap, ◌∙◌}
use Rattle.std.specs.Prelude.{◌&&◌, not, if◌then◌else◌}
use Rattle.std.specs.List.{list_all}
use Rattle.rdl_tree.specs.Items.{Items}
use Rattle.rdl_tree.specs.Properties.{row, on}
use Rattle.rdl_tree.specs.declared.shell.Kind.TheVariants.{Field}
use Rattle.rdl_tree.specs.declared.shell.Shell.{Shell}
use Rattle.rdl_tree.specs.declared.value.Value.{Value}
use Rattle.rdl_tree.specs.declared.property.Property.TheVariants.{Sw, Reset}
use Rattle.rdl_scope.specs.Closed.{Head, Parts, no_parts, part}
use Rattle.rdl_elab.specs.declared.layout.Span.{Span}
use Rattle.rdl_elab.specs.Layouts.{number_in, layout_of}
use Rattle.rdl_elab.specs.Faults.{overlap, may_share, is_reset_too_wide}
use Rattle.rdl_elab.specs.Rows.{row_value}
use Rattle.rdl_elab.specs.Reaches.{Reach, reached}
use Rattle.sound_laws.specs.Harmless.{are_apart, in_register, is_fitting, is_harmless_at}
use Rattle.sound_laws.specs.Sound.{value_with, clash_none}
use Rattle.sound_laws.proofs.Lists.{both, and_both, not_false, not_and}
use Rattle.sound_laws.proofs.Passing.{reached_fits}

module _ (apart : Bool) (span : Span) (s : Shell) (h : Head) (inside : Parts) (rs : List Reach) (harmless : list_all (is_harmless_at layout_of (in_register apart span) h inside) rs ≡ true) where
  pub reset_fits : h.kind ≡ Field → not (is_reset_too_wide (number_in (value_with None s h Reset)) span) ≡ true
      → is_reset_too_wide (number_in (value_with (reached (row Reset).name rs) s h Reset)) span ≡ false
  reset_fits kind own = by (reached (row Reset).name rs) refl
    where
      by : (x : Option Value) → reached (row Reset).name rs ≡ x → is_reset_too_wide (number_in (value_with x s h Reset)) span ≡ false
      by None e = not_false (is_reset_too_wide (number_in (value_with None s h Reset)) span) own
      by (Some v) e =
          ap (λ k. is_reset_too_wide (number_in (if on Reset k then Some v else None)) span) kind
          ∙ not_false (is_reset_too_wide (number_in (Some v)) span) (reached_fits (row Reset).name (in_register apart span) h inside v rs harmless e)

  pub access_own : apart ≡ false → value_with (reached (row Sw).name rs) s h Sw ≡ value_with None s h Sw
  access_own shared = by (reached (row Sw).name rs) refl
    where
      by : (x : Option Value) → reached (row Sw).name rs ≡ x → value_with x s h Sw ≡ value_with None s h Sw
      by None e = refl
      by (Some v) e =
          let fits : is_fitting (in_register apart span) (row Sw).name v ≡ true = reached_fits (row Sw).name (in_register apart span) h inside v rs harmless e in
          let no : apart ≡ true = fits in
          absurd cc

-- the fields of a register, each with its bits and the `sw` of its row
abbrev pub fields_with : Items → List (List ℕ) → List Span → Parts → List (Span × Option Value)
fields_with d path spans no_parts = []
fields_with d path [] (part at s h inside rest) = []
fields_with d path (span ∷ spans) (part at s h inside rest) = (span, row_value d (path ++ at ∷ []) h Sw) ∷ fields_with d path spans rest

-- where fields share no bit, it doesn't matter how software accesses them
abbrev pub clash : Span × Option Value → Span × Option Value → Bool
clash g f = overlap g.0 f.0 && not (may_share g.1 f.1)

apart_from : (d : Items) (path : List (List ℕ)) (f : Span × Option Value) (spans : List Span) (ps : Parts) → list_all (λ t. not (overlap t f.0)) spans ≡ true
    → list_all (λ (g : Span × Option Value). not (overlap g.0 f.0 && not (may_share g.1 f.1))) (fields_with d path spans ps) ≡ true
apart_from d path f spans no_parts e = refl
apart_from d path f [] (part at s h inside rest) e = refl
apart_from d path f (span ∷ spans) (part at s h inside rest) e =
    let t = both (not (overlap span f.0)) (list_all (λ t. not (overlap t f.0)) spans) e in
    and_both (not (overlap span f.0 && not (may_share (row_value d (path ++ at ∷ []) h Sw) f.1))) (list_all (λ (g : Span × Option Value). not (overlap g.0 f.0 && not (may_share g.1 f.1))) (fields_with d path spans rest))
    (not_and (overlap span f.0) (not (may_share (row_value d (path ++ at ∷ []) h Sw) f.1)) t.0) (apart_from d path f spans rest t.1)

pub apart_none : (d : Items) (path : List (List ℕ)) (spans : List Span) (ps : Parts) → are_apart spans ≡ true → clash_none (fields_with d path spans ps) ≡ true
apart_none d path spans no_parts e = refl
apart_none d path [] (part at s h inside rest) e = refl
apart_none d path (span ∷ spans) (part at s h inside rest) e =
    let t = both (list_all (λ t. not (overlap t span)) spans) (are_apart spans) e in
    and_both (list_all (λ (g : Span × Option Value). not (overlap g.0 span && not (may_share g.1 (row_value d (path ++ at ∷ []) h Sw)))) (fields_with d path spans rest)) (clash_none (fields_with d path spans rest))
    (apart_from d path (span, row_value d (path ++ at ∷ []) h Sw) spans rest t.0) (apart_none d path spans rest t.1)
