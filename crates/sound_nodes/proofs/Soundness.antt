-- A component that is sound as it is seen is sound by what is kept of layouts.
use Rattle.std.proofs.Common.{◌≡◌, ℕ, Bool, true, List, map, Option, Some, None, refl, sym, ap, ◌∙◌, arith}
use Rattle.std.specs.Prelude.{◌&&◌, not, nat_lt, unwrap_or}
use Rattle.std.proofs.lemmas.Bool.{le-ltb}
use Rattle.rdl_tree.specs.Items.{Items}
use Rattle.rdl_tree.specs.declared.shell.Kind.{Kind}
use Rattle.rdl_tree.specs.declared.shell.Kind.TheVariants.{Addrmap, Regfile, Reg, Field}
use Rattle.rdl_scope.specs.Closed.{Head, Parts, no_parts, part, Made, component}
use Rattle.rdl_scope.specs.ItemFaults.{fault_of}
use Rattle.rdl_elab.specs.declared.layout.Mode.{Mode}
use Rattle.rdl_elab.specs.declared.layout.Mode.TheVariants.{Compact, Regalign, Fullalign}
use Rattle.rdl_elab.specs.Found.{ArePartsFound}
use Rattle.rdl_elab.specs.Layouts.{mode_of, mode_in, values_of, mode_inside}
use Rattle.rdl_elab.proofs.PartsFound.{parts-found}
use Rattle.rdl_seen.specs.declared.mode.Mode as seen_modes
use Rattle.rdl_seen.specs.declared.mode.Mode.TheVariants as mode
use Rattle.rdl_seen.specs.declared.seen.Modes.{Modes}
use Rattle.rdl_seen.specs.Inside.{no_instances}
use Rattle.rdl_seen.specs.Layouts as lay
use Rattle.rdl_seen.specs.Layouts.{Member, sizes, layout_under, is_stride_wide, apart_modes}
use Rattle.rdl_seen.specs.Meaning.{word_of, stated_of, HasValues}
use Rattle.rdl_seen.specs.Modes.{all_modes, has_mode, and_modes, number_under}
use Rattle.rdl_seen.specs.Node as node
use Rattle.rdl_seen.proofs.Taken.{stated_are_taken}
use Rattle.node_laws.specs.Laid.{seen_span}
use Rattle.node_laws.specs.Seen.{layouts_seen, members_seen, spots_seen}
use Rattle.node_laws.specs.Sound.{apart_seen, fields_sound, harmless, sound_by, all_sound, sound_seen}
use Rattle.sound_laws.specs.Harmless.{kept_layout, are_apart}
use Rattle.sound_laws.specs.Sound as sound
use Rattle.sound_laws.specs.Sound.{are_fields_sound, are_strides_wide, is_apart_under, are_own_harmless, are_sound, is_sound}
use Rattle.sound_laws.proofs.Fitting.{fitting_harmless}
use Rattle.sound_laws.proofs.Lists.{both, and_both}
use Rattle.node_laws.specs.Modes.{seen_mode}
use Rattle.sound_nodes.proofs.Assigned.{all-fit}
use Rattle.sound_nodes.proofs.Fields.{AreGood, Taken, same-apart, register-sound}
use Rattle.sound_nodes.proofs.Good.{made-values, all-good}

-- ---- Sets of modes.

pub has-all : (b : Bool) (m : seen_modes.Mode) → has_mode (all_modes b) m ≡ b
has-all b mode.Compact = refl
has-all b mode.Regalign = refl
has-all b mode.Fullalign = refl

has-both : (s t : Modes) (m : seen_modes.Mode) → has_mode (and_modes s t) m ≡ (has_mode s m && has_mode t m)
has-both s t mode.Compact = refl
has-both s t mode.Regalign = refl
has-both s t mode.Fullalign = refl

pub same-mode : (m : seen_modes.Mode) → seen_mode (mode_of (word_of m)) ≡ m
same-mode mode.Compact = refl
same-mode mode.Regalign = refl
same-mode mode.Fullalign = refl

-- ---- Instances that lie apart.

pub size-under : (m : Mode) (h : Head) (inside : Parts) → number_under (sizes (layouts_seen (record { head = h; parts = inside }))) (seen_mode m) ≡ (kept_layout m h inside).size
unfolding layouts_seen
size-under Compact h inside = refl
size-under Regalign h inside = refl
size-under Fullalign h inside = refl

pub spans-under : (m : Mode) (h : Head) (inside : Parts) → (layout_under (layouts_seen (record { head = h; parts = inside })) (seen_mode m)).spans ≡ map seen_span (kept_layout m h inside).spans
unfolding layouts_seen
spans-under Compact h inside = refl
spans-under Regalign h inside = refl
spans-under Fullalign h inside = refl

pub one-stride : (size : ℕ) (stride : Option ℕ) → is_stride_wide size stride ≡ not (nat_lt (unwrap_or stride size) size)
one-stride size None = sym (ap not (le-ltb size size (omega arith)))
one-stride size (Some n) = refl

same-strides : (m : Mode) (ps : Parts) → lay.are_strides_wide (seen_mode m) (members_seen ps) ≡ are_strides_wide kept_layout m ps
same-strides m no_parts = refl
same-strides m (part at s h inside rest) = λ i. (ap (λ n. is_stride_wide n s.stride) (size-under m h inside) ∙ one-stride (kept_layout m h inside).size s.stride) i && same-strides m rest i

pub same-under : (m : Mode) (h : Head) (inside : Parts)
    → lay.is_apart_under (layouts_seen (record { head = h; parts = inside })) (members_seen inside) (seen_mode m)
    ≡ (are_strides_wide kept_layout m inside && are_apart (kept_layout m h inside).spans)
same-under m h inside = λ i. same-strides m inside i && (ap lay.are_apart (spans-under m h inside) ∙ same-apart (kept_layout m h inside).spans) i

pub under-mode : (l : lay.Layouts) (ms : List Member) (m : seen_modes.Mode) → has_mode (apart_modes l ms) m ≡ lay.is_apart_under l ms m
under-mode l ms mode.Compact = refl
under-mode l ms mode.Regalign = refl
under-mode l ms mode.Fullalign = refl

-- ---- A component, by its kind.

abbrev with_kind : Kind → Head → Head
with_kind k h = record h { kind = k }

abbrev IsSoundBy : Mode → Kind → Head → Parts → Type 0
IsSoundBy m k g inside =
    sound.sound_by k (are_fields_sound kept_layout g inside) (is_apart_under kept_layout m g inside) (are_sound kept_layout (mode_inside k (values_of g) m) inside)
    (are_own_harmless kept_layout g inside) ≡ true

record AreThree (s a o : Bool) : Type 0 where
  inside : s ≡ true
  apart : a ≡ true
  own : o ≡ true

three : (s a : Modes) (b : Bool) (m : seen_modes.Mode) → has_mode (and_modes s (and_modes a (all_modes b))) m ≡ true → AreThree (has_mode s m) (has_mode a m) b
three s a b m e =
    let two = both (has_mode s m) (has_mode (and_modes a (all_modes b)) m) (sym (has-both s (and_modes a (all_modes b)) m) ∙ e) in
    let rest = both (has_mode a m) (has_mode (all_modes b) m) (sym (has-both a (all_modes b) m) ∙ two.1) in
    record { inside = two.0; apart = rest.0; own = sym (has-all b m) ∙ rest.1 }

module _ (h : Head) (inside : Parts) (values : HasValues h (stated_of h)) (taken : Taken h) (good : AreGood inside)
    (own : harmless (spots_seen (record { head = h; parts = inside })) h.body inside no_instances ≡ true → are_own_harmless kept_layout h inside ≡ true)
    (deeper : (n : Mode) → has_mode (all_sound inside) (seen_mode n) ≡ true → are_sound kept_layout n inside ≡ true) (m : Mode) where
  abbrev made : Made
  made = record { head = h; parts = inside }

  abbrev assigns : Bool
  assigns = harmless (spots_seen made) h.body inside no_instances

  register : h.kind ≡ Reg → has_mode (all_modes (fields_sound made && assigns)) (seen_mode m) ≡ true
      → (are_fields_sound kept_layout h inside && are_own_harmless kept_layout h inside) ≡ true
  register is e =
      let two = both (fields_sound made) assigns (sym (has-all (fields_sound made && assigns) (seen_mode m)) ∙ e) in
      and_both (are_fields_sound kept_layout h inside) (are_own_harmless kept_layout h inside) (register-sound h inside is values taken good two.0) (own two.1)

  container : (n : Mode) (apart : Bool) → apart ≡ true → has_mode (all_sound inside) (seen_mode n) ≡ true → assigns ≡ true
      → (are_sound kept_layout n inside && apart && are_own_harmless kept_layout h inside) ≡ true
  container n apart lies sound harmless_is =
      and_both (are_sound kept_layout n inside && apart) (are_own_harmless kept_layout h inside) (and_both (are_sound kept_layout n inside) apart (deeper n sound) lies) (own harmless_is)

by-kind : (k : Kind) (h : Head) (inside : Parts) (m : Mode) → HasValues (with_kind k h) (stated_of (with_kind k h)) → Taken (with_kind k h) → AreGood inside
    → (harmless (spots_seen (record { head = with_kind k h; parts = inside })) h.body inside no_instances ≡ true → are_own_harmless kept_layout (with_kind k h) inside ≡ true)
    → ((n : Mode) → has_mode (all_sound inside) (seen_mode n) ≡ true → are_sound kept_layout n inside ≡ true)
    → has_mode (sound_by (with_kind k h) inside (all_sound inside)) (seen_mode m) ≡ true → IsSoundBy m k (with_kind k h) inside
unfolding sound_by
by-kind Field h inside m values taken good own deeper e = refl
by-kind Reg h inside m values taken good own deeper e = register (with_kind Reg h) inside values taken good own deeper m refl e
by-kind Regfile h inside m values taken good own deeper e =
    let g = with_kind Regfile h in
    let made : Made = record { head = g; parts = inside } in
    let all = three (all_sound inside) (apart_seen made) (harmless (spots_seen made) h.body inside no_instances) (seen_mode m) e in
    let lies = sym (under-mode (layouts_seen made) (members_seen inside) (seen_mode m) ∙ same-under m g inside) ∙ all.apart in
    container g inside values taken good own deeper m m (is_apart_under kept_layout m g inside) lies all.inside all.own
by-kind Addrmap h inside m values taken good own deeper e =
    let g = with_kind Addrmap h in
    let made : Made = record { head = g; parts = inside } in
    let v = stated_of g in
    let n = (values_of g).addressing in
    let same : seen_mode n ≡ node.mode_inside v = ap (λ o. seen_mode (mode_in o)) (values.addressing refl) ∙ same-mode (node.mode_inside v) in
    let all =
    three (all_modes (has_mode (all_sound inside) (node.mode_inside v))) (apart_seen made) (harmless (spots_seen made) h.body inside no_instances) (seen_mode m) e in
    let within : has_mode (all_sound inside) (seen_mode n) ≡ true =
    ap (has_mode (all_sound inside)) same ∙ sym (has-all (has_mode (all_sound inside) (node.mode_inside v)) (seen_mode m)) ∙ all.inside in
    let apart = lay.is_apart_under (layouts_seen made) (members_seen inside) (node.mode_inside v) in
    let lies : is_apart_under kept_layout m g inside ≡ true =
    sym (same-under n g inside) ∙ ap (lay.is_apart_under (layouts_seen made) (members_seen inside)) same ∙ sym (has-all apart (seen_mode m)) ∙ all.apart in
    container g inside values taken good own deeper m n (is_apart_under kept_layout m g inside) lies within all.own

-- ---- A component, and its instances.

module _ (d : Items) (none : fault_of d ≡ None) where
  one-sound : (a : List ℕ) (c : Made) → component d a ≡ Some c → ((n : Mode) → has_mode (all_sound c.parts) (seen_mode n) ≡ true → are_sound kept_layout n c.parts ≡ true)
      → (m : Mode) → has_mode (sound_seen c) (seen_mode m) ≡ true → is_sound kept_layout m c.head c.parts ≡ true
  one-sound a c is deeper m e =
      by-kind c.head.kind c.head c.parts m (made-values d a c none is) (stated_are_taken d a c none is) (all-good d a c.parts none (parts-found d a c is))
      (λ harmless_is. fitting_harmless kept_layout d a c is ∙ all-fit d a c none is harmless_is) deeper e

  parts-sound : (b : List ℕ) (ps : Parts) → ArePartsFound d b ps → (m : Mode) → has_mode (all_sound ps) (seen_mode m) ≡ true → are_sound kept_layout m ps ≡ true
  parts-sound b no_parts found m e = refl
  parts-sound b (part at s h inside rest) found m e =
      let c : Made = record { head = h; parts = inside } in
      let two = both (has_mode (sound_seen c) (seen_mode m)) (has_mode (all_sound rest) (seen_mode m)) (sym (has-both (sound_seen c) (all_sound rest) (seen_mode m)) ∙ e) in
      and_both (is_sound kept_layout m h inside) (are_sound kept_layout m rest)
      (one-sound h.at c found.0.component (λ n g. parts-sound h.at inside found.1 n g) m two.0) (parts-sound b rest found.2 m two.1)

  pub seen-sound : (a : List ℕ) (c : Made) (m : Mode) → component d a ≡ Some c → has_mode (sound_seen c) (seen_mode m) ≡ true → is_sound kept_layout m c.head c.parts ≡ true
  seen-sound a c m is e = one-sound a c is (λ n g. parts-sound a c.parts (parts-found d a c is) n g) m e
