-- What the laws say, and maps as a whole.
use Rattle.std.proofs.Common.{◌≡◌, ℕ, ◌+◌, ◌^◌, List, [], ◌∷◌, Bool, true, false, Some, None, Option, refl, ap, sym, subst, ◌∙◌, arith}
use Rattle.std.specs.Prelude.{◌&&◌, option_and_then, slice_get, map, suc, if◌then◌else◌}
use Rattle.std.specs.Option.{option_or}
use Rattle.std.proofs.lemmas.Bool.{le-ltb}
use Rattle.rdl_tree.specs.Component.{own_component}
use Rattle.rdl_tree.specs.Items.{Items, no_items, plain, holder, Holder, define, anonymous}
use Rattle.rdl_tree.specs.View.{list_of}
use Rattle.rdl_tree.specs.declared.description.Component.{Component}
use Rattle.rdl_tree.specs.declared.description.Item.TheVariants.{Define}
use Rattle.rdl_tree.specs.declared.shell.Kind.{Kind}
use Rattle.rdl_tree.specs.declared.shell.Kind.TheVariants.{Addrmap, Regfile, Reg, Field}
use Rattle.rdl_tree.specs.declared.fault.FaultKind.TheVariants.{TooManyLevels, TooManyRows, EmptyComponent, MapTooLarge}
use Rattle.rdl_scope.specs.Closed.{Made, component}
use Rattle.rdl_scope.specs.Types.{component_at}
use Rattle.rdl_scope.proofs.AsFound.{as_found}
use Rattle.rdl_scope.specs.ItemFaults.{first_of, fault_at, fault_of}
use Rattle.rdl_elab.specs.declared.layout.Mode.{Mode}
use Rattle.rdl_elab.specs.declared.layout.Mode.TheVariants.{Regalign}
use Rattle.rdl_elab.specs.declared.layout.LayoutValues.{LayoutValues}
use Rattle.rdl_elab.specs.Layouts.{values_of, mode_inside, member, laid_out, layouts, layout_of}
use Rattle.rdl_elab.specs.Reaches.{reaches}
use Rattle.rdl_elab.specs.Rows.{rows_below, rows_of, around_top, top_layout}
use Rattle.rdl_elab.specs.Faults.{has_name, may_be_top, name_of, top_from, levels, count, first_row_fault, rows_or, under_top, with_top, unless_fault}
use Rattle.sound_laws.specs.Harmless.{are_apart, are_harmless}
use Rattle.sound_laws.specs.Sound.{are_fields_sound, are_strides_wide, sound_by, are_own_harmless, are_sound, is_sound}
use Rattle.sound_laws.specs.Laws.{TargetsAreNamed, SoundAssignsNoHarm, SoundHasNoFault, SoundMapHasNoFault, SoundMapIsItsRows, ModesMatterToRegisterFiles}
use Rattle.sound_laws.proofs.Containers.{below, no_harm}
use Rattle.sound_laws.proofs.Named.{target_same, own_found}

pub named : TargetsAreNamed
named d a c none holds = target_same d none a c holds

own : (d : Items) → fault_of d ≡ None → (a : List ℕ) (c : Made) → component d a ≡ Some c → are_own_harmless layout_of c.head c.parts ≡ true
    → are_harmless layout_of c.head c.parts (reaches d a 0 c.head.body) ≡ true
own d none a c holds e = ap (are_harmless layout_of c.head c.parts) (sym (own_found d none a c holds)) ∙ e

pub harmless : SoundAssignsNoHarm
harmless d a c m none holds sound = no_harm d none (own d none) a c m holds sound

pub faultless : SoundHasNoFault
faultless d a c m o none holds sound here come = below d none (own d none) a c m o holds sound here come

pub addrmap_no_register : (k : Kind) → k ≡ Addrmap → k ≡ Reg → ⊥
addrmap_no_register k e f = let same : ◌≡◌ {A = Kind} Addrmap Reg = sym e ∙ f in cc

pub map_faultless : SoundMapHasNoFault
map_faultless d a name c none holds kind sound limits =
    let rows : first_row_fault d (rows_below d name c) ≡ None =
    faultless d a c Regalign (around_top name c) none holds sound (record { mode = refl; bits = λ e. absurd (addrmap_no_register c.head.kind kind e) }) refl in
    λ i. option_or (fault_at a (first_of ((le-ltb 16 (levels c.parts + 1) limits.levels i, TooManyLevels) ∷ (le-ltb 65536 (count c.parts + 1) limits.rows i, TooManyRows) ∷ [])))
    (option_or (option_and_then (λ b. fault_at b (Some EmptyComponent)) (limits.filled i))
    (option_or (fault_at a (first_of ((le-ltb (2 ^ 40) (top_layout c).size limits.size i, MapTooLarge) ∷ []))) (rows i)))

-- ---- The top of a map.

-- among the items from number k on
record IsDefined (k : ℕ) (t : Items) (top : ℕ × List ℕ) : Type 0 where
  number : ℕ
  place : k + number ≡ top.0
  body : Items
  item : slice_get (list_of t) number ≡ Some (Define top.1 (record { kind = Addrmap; body = body }))

defined_next : (k : ℕ) (t rest : Items) (top : ℕ × List ℕ) → ((i : ℕ) → slice_get (list_of t) (suc i) ≡ slice_get (list_of rest) i) → IsDefined (suc k) rest top → IsDefined k t top
defined_next k t rest top more h = let e = h.place in record { number = suc h.number; place = omega (arith, e); body = h.body; item = more h.number ∙ h.item }

defined_here : (w : Option (List ℕ)) (k : ℕ) (h : Holder) (body rest : Items) (top : ℕ × List ℕ) → (if may_be_top w h then Some (k, name_of h) else None) ≡ Some top
    → IsDefined k (holder h body rest) top
defined_here w k (define n Addrmap) body rest top e = by (has_name w n) e
  where
    by : (b : Bool) → (if b then Some (k, n) else None) ≡ Some top → IsDefined k (holder (define n Addrmap) body rest) top
    by true e =
        let same : ◌≡◌ {A = ℕ × List ℕ} (k, n) top = cc in
        subst (IsDefined k (holder (define n Addrmap) body rest)) same (record { number = 0; place = omega arith; body = body; item = refl })
    by false e = cc
defined_here w k (define n Regfile) body rest top e = cc
defined_here w k (define n Reg) body rest top e = cc
defined_here w k (define n Field) body rest top e = cc
defined_here w k (anonymous s j) body rest top e = cc

top_defined : (w : Option (List ℕ)) (k : ℕ) (t : Items) (top : ℕ × List ℕ) → top_from w k t ≡ Some top → IsDefined k t top
top_defined w k no_items top e = cc
top_defined w k (plain p rest) top e = defined_next k (plain p rest) rest top (λ i. refl) (top_defined w (suc k) rest top e)
top_defined w k (holder h body rest) top e = by (λ z g. top_defined w (suc k) rest z g) (top_from w (suc k) rest) refl e
  where
    by : ((z : ℕ × List ℕ) → top_from w (suc k) rest ≡ Some z → IsDefined (suc k) rest z) → (o : Option (ℕ × List ℕ)) → top_from w (suc k) rest ≡ o
        → option_or o (if may_be_top w h then Some (k, name_of h) else None) ≡ Some top → IsDefined k (holder h body rest) top
    by later None g e = defined_here w k h body rest top e
    by later (Some z) g e =
        let same : z ≡ top = cc in
        defined_next k (holder h body rest) rest top (λ i. refl) (later top (g ∙ ap Some same))

top_kind : (d : Items) (w : Option (List ℕ)) (top : ℕ × List ℕ) (c : Made) → top_from w 0 d ≡ Some top → component d (top.0 ∷ []) ≡ Some c → c.head.kind ≡ Addrmap
top_kind d w top c e holds =
    let t = top_defined w 0 d top e in
    let place : t.number ≡ top.0 = omega (arith, t.place) in
    let held : component_at d (top.0 ∷ []) ≡ Some (record { kind = Addrmap; body = t.body }) =
    ap (λ n. option_and_then own_component (slice_get (list_of d) n)) (sym place) ∙ ap (option_and_then own_component) t.item in
    let both_held : ◌≡◌ {A = Option Component} (Some (record { kind = c.head.kind; body = c.head.body })) (Some (record { kind = Addrmap; body = t.body })) =
    sym (as_found d (top.0 ∷ []) c holds).component ∙ held in
    let same : ◌≡◌ {A = Component} (record { kind = c.head.kind; body = c.head.body }) (record { kind = Addrmap; body = t.body }) = cc in
    ap (λ (x : Component). x.kind) same

pub map_rows : SoundMapIsItsRows
map_rows d wanted top c none found holds sound limits =
    let kind = top_kind d wanted top c found holds in
    ap (unless_fault d wanted) none ∙ ap (with_top d) found ∙ ap (under_top d (top.0 ∷ []) top.1) holds
    ∙ ap (rows_or (rows_of d top.1 c)) (map_faultless d (top.0 ∷ []) top.1 c none holds kind sound limits)

-- ---- The mode around a component.

module _ (c : Made) where
  abbrev v : LayoutValues
  v = values_of c.head

  -- of this kind, if its instances are placed in this mode
  abbrev sound_in : Kind → Mode → Bool
  sound_in k y =
      sound_by k (are_fields_sound layout_of c.head c.parts) (are_strides_wide layout_of y c.parts && are_apart (laid_out c.head.kind v y (map member (layouts y c.parts))).spans)
      (are_sound layout_of y c.parts) (are_own_harmless layout_of c.head c.parts)

  same_sound : (m n : Mode) (k : Kind) → c.head.kind ≡ k → (c.head.kind ≡ Regfile → ⊥) → is_sound layout_of m c.head c.parts ≡ is_sound layout_of n c.head c.parts
  same_sound m n Addrmap e other =
      ap (λ k. sound_in c.head.kind (mode_inside k v m)) e ∙ sym (ap (λ k. sound_in c.head.kind (mode_inside k v n)) e)
  same_sound m n Regfile e other = absurd (other e)
  same_sound m n Reg e other = ap (λ k. sound_in k (mode_inside k v m)) e ∙ sym (ap (λ k. sound_in k (mode_inside k v n)) e)
  same_sound m n Field e other = ap (λ k. sound_in k (mode_inside k v m)) e ∙ sym (ap (λ k. sound_in k (mode_inside k v n)) e)

pub modes : ModesMatterToRegisterFiles
modes m n c other = same_sound c m n c.head.kind refl other
