use Rattle.std.proofs.Common.{◌≡◌, ◌||◌, ◌∙◌, ap, sym}
use Rattle.std.specs.Prelude.{map}
use Rattle.rdl_seen.specs.declared.mode.Mode.TheVariants.{Compact}
use Rattle.rdl_seen.specs.Contents.{contents, are_harmless, item_count}
use Rattle.rdl_seen.specs.Fields.{are_fields_sound, clash_none, field_takes}
use Rattle.rdl_seen.specs.Layouts.{Layout, Layouts, layout_under}
use Rattle.rdl_seen.specs.Node.{is_ordered, sound_inside, sound_of, without_access, spots_of}
use Rattle.rdl_seen.specs.PropertySet.{kind_set, with_properties, without_properties}
use Rattle.rdl_seen.specs.Values.{stated}
use Rattle.rdl_nodes.specs.CoreWith.{seen_with}
use Rattle.rdl_nodes.specs.Part.{reset_of, access_of}
use Rattle.rdl_nodes.specs.View.{slots_of}
use Rattle.rdl_nodes.proofs.Bodies.{item_count_is}
use Rattle.rdl_nodes.proofs.core_of.made.Goals as goal

pub returns : goal.returns
returns c =
    let k = c.args.kind in
    let v = c.args.values in
    let t = c.args.body.now in
    let s = slots_of c.args.slots.now in
    let l : Layouts = c.args.layouts.value in
    let ps = c.args.parts.now in
    let kept : c.as_ref-kept.result.now ≡ l = c.as_ref-kept.ensures in
    let ordered : c.is_ordered-is_ordered.result ≡ is_ordered k l = c.is_ordered-is_ordered.ensures ∙ ap (is_ordered k) kept in
    let compact : c.under.result.now ≡ l.compact = c.under.ensures ∙ ap (λ (x : Layouts). layout_under x Compact) kept in
    let spans : c.spans.result.now ≡ l.compact.spans = c.spans.ensures ∙ ap (λ (x : Layout). x.spans) compact in
    let inside = c.requires in
    let sound : c.sound_of-sound.result
    ≡ sound_of k (sound_inside k v (contents s).sound) c.args.apart
    (are_fields_sound v l.compact.spans (map reset_of ps) (is_ordered k l || clash_none l.compact.spans (map access_of ps))) (are_harmless (spots_of k l) s) =
    c.sound_of-sound.ensures
    ∙ (λ i. sound_of k (sound_inside k v (inside.sound i)) c.args.apart
    (are_fields_sound v (spans i) (map reset_of ps) (ordered i || clash_none (spans i) (map access_of ps)))
    (are_harmless (record { spans = spans i; is_ordered = ordered i }) s)) in
    let fields : c.without_access-fields.result ≡ without_access (is_ordered k l) (field_takes t s) =
    c.without_access-fields.ensures ∙ (λ i. without_access (ordered i) (c.field_takes.ensures i)) in
    let takes_all = c.takes_of-takes.ensures ∙ (λ i. with_properties (without_properties (kind_set k) (stated c.args.own.values)) (with_properties (fields i) (inside.takes i))) in
    let items : c.len.result ≡ item_count t = c.len.ensures ∙ sym (item_count_is t) in
    let seen = c.seen_of-seen.ensures s inside ∙ (λ i. seen_with k v (kept i) s (takes_all i) (sound i) (ordered i) (items i) c.args.own.weight) in
    λ i. record { seen = seen i; own = c.args.own.values; values = v; layouts = l; apart = c.args.apart; own_weight = c.args.own.weight }
