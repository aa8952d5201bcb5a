-- What the layouts of a component are made of determines them.
use Rattle.std.proofs.Common.{◌≡◌, List, ◌∷◌, map, refl, ap, ◌∙◌}
use Rattle.rdl_scope.specs.Closed.{Parts, no_parts, part, Made}
use Rattle.rdl_elab.specs.declared.layout.Mode.{Mode}
use Rattle.rdl_elab.specs.declared.layout.Mode.TheVariants.{Compact, Regalign, Fullalign}
use Rattle.rdl_elab.specs.declared.layout.Member.{Member}
use Rattle.rdl_elab.specs.Layouts.{values_of, mode_inside, laid_out, layouts, layout}
use Rattle.rdl_elab.specs.Capped.{capped_layout, capped_instance}
use Rattle.rdl_elab.specs.Finished.{under}
use Rattle.rdl_elab.specs.EachMember.{member_under}
use Rattle.rdl_elab.specs.Inside.{shown_member}
use Rattle.rdl_elab.specs.Written.{layouts_kept}
use Rattle.rdl_elab.specs.MadeOf.{members_of, made_of, layout_made, layouts_made}
use Rattle.rdl_elab.proofs.Counting.{members-shown}
use Rattle.rdl_elab.proofs.EachMember.{one-under}
use Rattle.rdl_elab.proofs.KeptLayouts.{kept-laid_out}

pub under-kept : (m : Mode) (c : Made) → under m (layouts_kept c) ≡ capped_layout (layout m c)
under-kept Compact c = refl
under-kept Regalign c = refl
under-kept Fullalign c = refl

members-under : (m : Mode) (ps : Parts) → map (member_under m) (members_of ps) ≡ map shown_member (map capped_instance (layouts m ps))
members-under m no_parts = refl
members-under m (part at s h inside rest) = let c : Made = record { head = h; parts = inside } in λ i. (one-under m s (layouts_kept c) ∙ ap (λ l. shown_member (s, l)) (under-kept m c)) i ∷ members-under m rest i

pub layout-made : (m : Mode) (c : Made) → layout_made m (made_of c) ≡ capped_layout (layout m c)
layout-made m c =
    let k = c.head.kind in
    let v = values_of c.head in
    let n = mode_inside k v m in
    ap (λ (ms : List Member). capped_layout (laid_out k v n ms)) (members-under n c.parts)
    ∙ members-shown k v n (map capped_instance (layouts n c.parts))
    ∙ kept-laid_out k v n (layouts n c.parts)

pub layouts-made : (c : Made) → layouts_made (made_of c) ≡ layouts_kept c
layouts-made c = λ i. record { compact = layout-made Compact c i; regalign = layout-made Regalign c i; fullalign = layout-made Fullalign c i }
