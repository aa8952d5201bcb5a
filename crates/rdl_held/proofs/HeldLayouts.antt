-- The layout that is held of a component is its own.
use Rattle.std.proofs.Common.{◌≡◌, ℕ, zero, suc, List, [], ◌∷◌, Option, Some, None, refl, sym, ap, ◌∙◌}
use Rattle.std.specs.Prelude.{true, false, option_and_then, slice_get}
use Rattle.std.specs.Option.{is_some}
use Rattle.rdl_tree.specs.Address.{body_at, inner}
use Rattle.rdl_tree.specs.Component.{own_component}
use Rattle.rdl_tree.specs.ItemAt.{item_at}
use Rattle.rdl_tree.specs.Items.{Items, no_items, plain, holder, named, own, default, dynamic, define, anonymous}
use Rattle.rdl_tree.specs.View.{list_of}
use Rattle.rdl_tree.specs.declared.description.Component.{Component}
use Rattle.rdl_tree.specs.declared.description.Item.{Item}
use Rattle.rdl_tree.specs.declared.description.Item.TheVariants.{Define, Instance, Own, Default, Dynamic}
use Rattle.rdl_tree.specs.declared.description.Of.TheVariants.{Named, Anonymous}
use Rattle.rdl_tree.specs.declared.shell.Kind.{Kind}
use Rattle.rdl_tree.specs.declared.shell.Kind.TheVariants.{Addrmap, Regfile, Reg, Field}
use Rattle.rdl_scope.specs.Closed.{Made, component}
use Rattle.rdl_scope.specs.ItemFaults.{fault_of}
use Rattle.rdl_scope.specs.Types.{component_at}
use Rattle.rdl_scope.proofs.AsFound.{as_found}
use Rattle.rdl_scope.proofs.Holds.{holds}
use Rattle.rdl_seen.specs.declared.mode.Mode.{Mode}
use Rattle.rdl_seen.specs.Layouts.{Layout, layout_under}
use Rattle.rdl_seen.specs.Meaning.{nothing_around, node_at}
use Rattle.rdl_seen.specs.Node.{body_of, node}
use Rattle.rdl_seen.specs.Slots.{Node}
use Rattle.node_laws.specs.Kept.{is_field, is_field_there, IsKept}
use Rattle.node_laws.specs.Laid.{laying}
use Rattle.node_laws.specs.Seen.{layouts_seen}
use Rattle.node_laws.proofs.Along.{nodes_are_kept}
use Rattle.node_laws.proofs.Nodes.{kept_are_seen}
use Rattle.rdl_held.specs.HeldMap.{has_layout, has_layout_by, shown_layout, layout_at}

shown-none : (k : Kind) (l : Layout) → has_layout_by k ≡ false → shown_layout k l ≡ None
shown-none Addrmap l e = absurd cc
shown-none Regfile l e = absurd cc
shown-none Reg l e = absurd cc
shown-none Field l e = refl

shown-some : (k : Kind) (l : Layout) → has_layout_by k ≡ true → shown_layout k l ≡ Some l
shown-some Addrmap l e = refl
shown-some Regfile l e = refl
shown-some Reg l e = refl
shown-some Field l e = absurd cc

abbrev shown_of : Mode → Made → Option Layout
shown_of mode c = shown_layout c.head.kind (layout_under (layouts_seen c) mode)

-- of what has no layout there is none
pub layout_none : (d : Items) (a : List ℕ) (mode : Mode) → has_layout (component_at d a) ≡ false → layout_at d a mode ≡ None
layout_none d a mode is = by (component d a) refl
  where
    by : (o : Option Made) → component d a ≡ o → option_and_then (shown_of mode) o ≡ None
    by None e = refl
    by (Some c) e = shown-none c.head.kind (layout_under (layouts_seen c) mode) (sym (ap has_layout (as_found d a c e).component) ∙ is)

-- ---- Where there is a component, it is closed, and its node is held.

held_inner : (k : ℕ) (t : Items) (c : Component) → option_and_then own_component (slice_get (list_of t) k) ≡ Some c → inner k t ≡ Some c.body
held_inner k no_items c e = absurd cc
held_inner zero (plain (named s n) rest) c e = absurd cc
held_inner zero (plain (own p v) rest) c e = absurd cc
held_inner zero (plain (default p v) rest) c e = absurd cc
held_inner zero (plain (dynamic n p v) rest) c e = absurd cc
held_inner zero (holder (define n k) body rest) c e = let same : c ≡ record { kind = k; body = body } = cc in ap (λ (x : Component). Some x.body) (sym same)
held_inner zero (holder (anonymous s k) body rest) c e = let same : c ≡ record { kind = k; body = body } = cc in ap (λ (x : Component). Some x.body) (sym same)
held_inner (suc k) (plain p rest) c e = held_inner k rest c e
held_inner (suc k) (holder h body rest) c e = held_inner k rest c e

held_body : (a : List ℕ) (t : Items) (c : Component) → component_at t a ≡ Some c → body_at a t ≡ Some c.body
held_body [] t c e = absurd cc
held_body (k ∷ []) t c e = ap (option_and_then (body_at [])) (held_inner k t c e)
held_body (k ∷ j ∷ a) t c e = into (λ u. held_body (j ∷ a) u c) (inner k t) refl e
  where
    into : ((u : Items) → component_at u (j ∷ a) ≡ Some c → body_at (j ∷ a) u ≡ Some c.body) → (o : Option Items) → inner k t ≡ o
        → option_and_then own_component (option_and_then (item_at (j ∷ a)) o) ≡ Some c → option_and_then (body_at (j ∷ a)) (inner k t) ≡ Some c.body
    into ih None g e = absurd cc
    into ih (Some u) g e = ap (option_and_then (body_at (j ∷ a))) g ∙ ih u e

made_there : (d : Items) (a : List ℕ) (c : Component) → component_at d a ≡ Some c → (m : Made) × (component d a ≡ Some m)
made_there d [] c e = absurd cc
made_there d (i ∷ a) c e = by (component d (i ∷ a)) refl (holds d i a ∙ ap is_some (held_body (i ∷ a) d c e))
  where
    by : (o : Option Made) → component d (i ∷ a) ≡ o → is_some (component d (i ∷ a)) ≡ true → (m : Made) × (component d (i ∷ a) ≡ Some m)
    by None g h = absurd (let no : false ≡ true = sym (ap is_some g) ∙ h in cc)
    by (Some m) g h = (m, g)

not_field : (o : Option Item) → has_layout (option_and_then own_component o) ≡ true → is_field_there o ≡ false
not_field None e = refl
not_field (Some (Define n c)) e = refl
not_field (Some (Instance s (Named t))) e = refl
not_field (Some (Instance s (Anonymous c))) e = by c.kind e
  where
    by : (k : Kind) → has_layout_by k ≡ true → is_field k ≡ false
    by Addrmap e = refl
    by Regfile e = refl
    by Reg e = refl
    by Field e = absurd cc
not_field (Some (Own p v)) e = refl
not_field (Some (Default p v)) e = refl
not_field (Some (Dynamic t p v)) e = refl

-- the component, and that its node is held
record StandsThere (d : Items) (a : List ℕ) : Type 0 where
  made : Made
  there : component d a ≡ Some made
  kind : has_layout_by made.head.kind ≡ true
  kept : IsKept laying d a made

stands : (d : Items) (a : List ℕ) → fault_of d ≡ None → has_layout (component_at d a) ≡ true → StandsThere d a
stands d a clear is = by (component_at d a) refl is
  where
    by : (o : Option Component) → component_at d a ≡ o → has_layout o ≡ true → StandsThere d a
    by None e h = absurd cc
    by (Some c) e h =
        let made = made_there d a c e in
        record {
          made = made.0;
          there = made.1;
          kind = ap has_layout (sym (as_found d a made.0 made.1).component ∙ e) ∙ h;
          kept = nodes_are_kept laying d a made.0 clear made.1 (not_field (item_at a d) is);
        }

-- the layout of the node that is held
pub layout_held : (d : Items) (a : List ℕ) (mode : Mode) (n : Node) → fault_of d ≡ None → has_layout (component_at d a) ≡ true → node_at a (body_of laying nothing_around d).slots ≡ Some n
    → Some (layout_under n.core.layouts mode) ≡ layout_at d a mode
layout_held d a mode n clear is there =
    let it = stands d a clear is in
    let core = kept_are_seen d a it.made clear it.there n there in
    ap (λ l. Some (layout_under l mode)) core.layouts
    ∙ (sym (shown-some it.made.head.kind (layout_under (layouts_seen it.made) mode) it.kind) ∙ sym (ap (option_and_then (shown_of mode)) it.there))

-- there is one
pub node_held : (d : Items) (a : List ℕ) → fault_of d ≡ None → has_layout (component_at d a) ≡ true → node_at a (body_of laying nothing_around d).slots ≡ None → ⊥
node_held d a clear is missing =
    let it = stands d a clear is in
    let no : ◌≡◌ {A = Option Node} None (Some (node laying it.kept.around it.made.head.kind it.made.head.body)) = sym missing ∙ it.kept.there in
    absurd cc
