-- All components written in a description, used or not, each behind those inside it, and their layouts as they are kept.
-- own: SystemRDL 2.0 has no order of components; a body's layout depends on the components before it and inside it.
use Rattle.std.specs.Prelude.{ℕ, suc, List, [], ◌∷◌, ◌++◌}
use Rattle.rdl_tree.specs.Items.{Items, no_items, plain, holder}
use Rattle.rdl_tree.specs.Component.{holder_kind}
use Rattle.rdl_scope.specs.Closed.{Made, Standing, head_at, parts, after_plain, after_holder, nothing}
use Rattle.rdl_elab.specs.declared.layout.Mode.TheVariants.{Compact, Regalign, Fullalign}
use Rattle.rdl_elab.specs.Kept.{Layouts}
use Rattle.rdl_elab.specs.Layouts.{layout}
use Rattle.rdl_elab.specs.Capped.{capped_layout}

-- those among the items from number n on of the body at b
abbrev pub written : Standing → List ℕ → ℕ → Items → List Made
written e b n no_items = []
written e b n (plain p rest) = written (after_plain p e) b (suc n) rest
written e b n (holder h body rest) =
    written e (b ++ n ∷ []) 0 body
    ++ record { head = head_at (b ++ n ∷ []) (holder_kind h) body e; parts = parts e (b ++ n ∷ []) 0 body }
    ∷ written (after_holder h (b ++ n ∷ []) body (parts e (b ++ n ∷ []) 0 body) e) b (suc n) rest

abbrev pub all_written : Items → List Made
all_written d = written nothing [] 0 d

-- the layouts of a component, as they are kept
abbrev pub layouts_kept : Made → Layouts
layouts_kept c =
    record { compact = capped_layout (layout Compact c); regalign = capped_layout (layout Regalign c); fullalign = capped_layout (layout Fullalign c) }
