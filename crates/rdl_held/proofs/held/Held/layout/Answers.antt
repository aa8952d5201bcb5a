use Rattle.std.proofs.Common.{Some, sym, ap, ◌∙◌}
use Rattle.rdl_elab.proofs.KnownRows.{no-item-fault}
use Rattle.rdl_nodes.specs.KeptNode.{kept_of}
use Rattle.rdl_seen.specs.Layouts.{layout_under}
use Rattle.rdl_seen.specs.Meaning.{node_at}
use Rattle.rdl_seen.specs.Slots.{Core}
use Rattle.rdl_held.specs.HeldMap.{HeldMap}
use Rattle.rdl_held.proofs.HeldLayouts.{layout_none, layout_held, node_held}
use Rattle.rdl_held.proofs.held.Held.layout.Goals as goal

pub returns-then-not-has_layout : goal.returns-then-not-has_layout
returns-then-not-has_layout c = sym (layout_none c.args.description.now.items c.args.body.now c.args.mode (sym c.has_layout.ensures ∙ c.if-not-has_layout.true))

pub returns-in-Some : goal.returns-in-Some
returns-in-Some c =
    let d = c.args.description.now.items in
    let a = c.args.body.now in
    let clear = no-item-fault d c.args.self.now.top c.requires.rows in
    let tree = ap (λ (h : HeldMap). h.slots) c.self.view_is ∙ c.requires.slots in
    let there = sym (ap (node_at a) tree) ∙ sym c.in-Some.ensures in
    let held = layout_held d a c.args.mode (kept_of c.in-Some.kept) clear (sym c.has_layout.ensures ∙ c.if-not-has_layout.false) there in
    let layouts = c.as_ref.ensures ∙ ap (λ (k : Core). k.layouts) (c.behind-kept.view_is ∙ c.core.ensures) in
    ap Some (c.under.ensures ∙ ap (λ l. layout_under l c.args.mode) layouts) ∙ held

pub returns-in-None : goal.returns-in-None
returns-in-None c =
    let d = c.args.description.now.items in
    let a = c.args.body.now in
    let clear = no-item-fault d c.args.self.now.top c.requires.rows in
    let tree = ap (λ (h : HeldMap). h.slots) c.self.view_is ∙ c.requires.slots in
    absurd (node_held d a clear (sym c.has_layout.ensures ∙ c.if-not-has_layout.false) (sym (ap (node_at a) tree) ∙ sym c.in-None.ensures))
