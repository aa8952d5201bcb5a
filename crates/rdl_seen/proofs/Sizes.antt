-- How deep bodies nest, how many items there are and what they weigh, as it is added up along the slots.
use Rattle.std.proofs.Common.{◌≡◌, ℕ, suc, ◌+◌, ◌-◌, ◌≤◌, ◌<◌, ◌^◌, Bool, true, false, List, max, min, Option, Some, None, option_map, not, ◌||◌, ◌&&◌, refl, sym, ap, subst, ◌∙◌, arith}
use Rattle.std.specs.Prelude.{nat_lt}
use Rattle.std.specs.Option.{is_some, is_none}
use Rattle.std.proofs.lemmas.Bool.{le-ltb, ltb-false}
use Rattle.rdl_tree.specs.Component.{holder_kind}
use Rattle.rdl_tree.specs.Depth.{depth}
use Rattle.rdl_tree.specs.Items.{Items, no_items, plain, holder, Plain, named, own, default, dynamic, Holder, define, anonymous, count}
use Rattle.rdl_tree.specs.Weight.{weight, plain_weight, holder_weight}
use Rattle.rdl_tree.specs.declared.shell.Kind.{Kind}
use Rattle.rdl_tree.specs.declared.shell.Kind.TheVariants.{Addrmap, Regfile, Reg, Field}
use Rattle.rdl_tree.specs.declared.shell.Shell.{Shell}
use Rattle.rdl_scope.specs.Closed.{lookup}
use Rattle.rdl_scope.specs.ItemFaults.{fault_of, is_too_large}
use Rattle.rdl_scope.specs.Target.{instance_before}
use Rattle.rdl_seen.specs.declared.seen.Seen.{Seen}
use Rattle.rdl_seen.specs.Clean.{kind_of, plain_fault, holder_fault, are_clean}
use Rattle.rdl_seen.specs.Contents.{Contents, contents, with_slot, with_named, item_count, items_weight, own_weight, field_of}
use Rattle.rdl_seen.specs.Inside.{Inside, no_instances, with_instance, nothing_within}
use Rattle.rdl_seen.specs.Layouts.{Laying}
use Rattle.rdl_seen.specs.Meaning.{nothing_around}
use Rattle.rdl_seen.specs.MeaningLaws.{is_clean_map, SmallMapsFit}
use Rattle.rdl_seen.specs.Node.{Known, Around, plain_slot, after_plain, after_holder, plain_instances, holder_instances, walked, body_of, node, known}
use Rattle.rdl_seen.specs.Slots.{Slots, written, part_slot}
use Rattle.rdl_seen.proofs.Clean.{no_instance, no_holder}
use Rattle.rdl_seen.proofs.Judged.{both_first, both_second, no_clean, faults_are_found}

-- as far as the sums are small, they are those of the items
pub record Bounds (c : Contents) (t : Items) : Type 0 where
  depth : c.depth ≤ 254 → depth t ≤ c.depth
  count : c.count + item_count t < 2 ^ 20 → count t ≤ c.count + item_count t
  weight : c.weight + items_weight t < 2 ^ 24 → weight t ≤ c.weight + items_weight t

-- an item without a component brings nothing inside
record SameSums (c e : Contents) : Type 0 where
  depth : c.depth ≡ e.depth
  count : c.count ≡ e.count
  weight : c.weight ≡ e.weight

named_sums : (o : Option Seen) (c : Contents) → SameSums (with_named o c) c
named_sums None c = record { depth = refl; count = refl; weight = refl }
named_sums (Some s) c = record { depth = refl; count = refl; weight = refl }

plain_sums : (a : Around) (before : Inside) (p : Plain) (c : Contents) → SameSums (with_slot (plain_slot a before p) c) c
plain_sums a before (named s t) c = named_sums (option_map (λ (k : Known). k.seen) (lookup t a.types)) c
plain_sums a before (own p v) c = record { depth = refl; count = refl; weight = refl }
plain_sums a before (default p v) c = record { depth = refl; count = refl; weight = refl }
plain_sums a before (dynamic t p v) c = record { depth = refl; count = refl; weight = refl }

plain_bounds : (p : Plain) (rest : Items) (c e : Contents) → SameSums e c → Bounds c rest → Bounds e (plain p rest)
plain_bounds p rest c e same b =
    let d = same.depth in
    let n = same.count in
    let w = same.weight in
    record {
      depth = λ h. let l = b.depth (omega (arith, h, d)) in omega (arith, l, d);
      count = λ h. let l = b.count (omega (arith, h, n)) in omega (arith, l, n);
      weight = λ h. let l = b.weight (omega (arith, h, w)) in omega (arith, l, w);
    }

-- the sums with a component before them, of whose items these are the sums
with_bounds : (h : Holder) (inner rest : Items) (i c e : Contents) → Bounds i inner → Bounds c rest
    → e.depth ≡ max (min i.depth 255 + 1) c.depth
    → e.count ≡ min (i.count + min (item_count inner) (2 ^ 30)) (2 ^ 32 - 1) + c.count
    → e.weight ≡ min (i.weight + min (items_weight inner) (2 ^ 31)) (2 ^ 32 - 1) + c.weight
    → Bounds e (holder h inner rest)
with_bounds h inner rest i c e below behind d n w =
    record {
      depth = λ z.
          let x = below.depth (omega (arith, z, d)) in
          let y = behind.depth (omega (arith, z, d)) in
          omega (arith, z, d, x, y);
      count = λ z.
          let x = below.count (omega (arith, z, n)) in
          let y = behind.count (omega (arith, z, n)) in
          omega (arith, z, n, x, y);
      weight = λ z.
          let x = below.weight (omega (arith, z, w)) in
          let y = behind.weight (omega (arith, z, w)) in
          omega (arith, z, w, x, y);
    }

-- a field without a fault holds no component
record Flat (t : Items) : Type 0 where
  depth : depth t ≡ 0
  count : count t ≡ item_count t
  weight : weight t ≡ items_weight t

plain_flat : (p : Plain) (rest : Items) → Flat rest → Flat (plain p rest)
plain_flat p rest f =
    let n = f.count in
    record { depth = f.depth; count = omega (arith, n); weight = ap (λ w. plain_weight p + w) f.weight }

field_flat : (lay : Laying) (body : Items) (i : ℕ) (a : Around) (t : Items) → are_clean lay a (Some Field) body i no_instances t ≡ true → Flat t
field_flat lay body i a no_items h = record { depth = refl; count = refl; weight = refl }
field_flat lay body i a (plain (named s t) rest) h =
    absurd (no_clean (is_none (plain_fault a (Some Field) body i no_instances (named s t))) (are_clean lay a (Some Field) body (suc i) (plain_instances a (named s t) no_instances) rest)
    (no_instance (is_some (instance_before s.name i body)) s (kind_of t a)) h)
field_flat lay body i a (plain (own p v) rest) h =
    plain_flat (own p v) rest (field_flat lay body (suc i) a rest
    (both_second (is_none (plain_fault a (Some Field) body i no_instances (own p v))) (are_clean lay a (Some Field) body (suc i) no_instances rest) h))
field_flat lay body i a (plain (default p v) rest) h =
    plain_flat (default p v) rest (field_flat lay body (suc i) (after_plain (default p v) a) rest
    (both_second (is_none (plain_fault a (Some Field) body i no_instances (default p v))) (are_clean lay (after_plain (default p v) a) (Some Field) body (suc i) no_instances rest) h))
field_flat lay body i a (plain (dynamic t p v) rest) h =
    plain_flat (dynamic t p v) rest (field_flat lay body (suc i) a rest
    (both_second (is_none (plain_fault a (Some Field) body i no_instances (dynamic t p v))) (are_clean lay a (Some Field) body (suc i) no_instances rest) h))
field_flat lay body i a (holder g held rest) h =
    let k = known lay a (holder_kind g) held in
    absurd (no_clean (is_none (holder_fault (Some Field) body i g))
    (are_clean lay a (Some (holder_kind g)) held 0 no_instances held && are_clean lay (after_holder g k a) (Some Field) body (suc i) (holder_instances g k no_instances) rest)
    (no_holder body i g) h)

field_bounds : (sh : Shell) (inner rest : Items) (c e : Contents) → Flat inner → Bounds c rest → e.depth ≡ max 1 c.depth → e.count ≡ min (item_count inner) (2 ^ 30) + c.count
    → e.weight ≡ min (items_weight inner) (2 ^ 31) + c.weight → Bounds e (holder (anonymous sh Field) inner rest)
field_bounds sh inner rest c e flat behind d n w =
    let deep = flat.depth in
    let all = flat.count in
    let heavy = flat.weight in
    record {
      depth = λ z. let y = behind.depth (omega (arith, z, d)) in omega (arith, z, d, y, deep);
      count = λ z. let y = behind.count (omega (arith, z, n)) in omega (arith, z, n, y, all);
      weight = λ z. let y = behind.weight (omega (arith, z, w)) in omega (arith, z, w, y, heavy);
    }

-- the items from number n on are as many, as deep and as heavy as their slots say
abbrev AreBounded : Laying → Items → Type 0
AreBounded lay t =
    (around : Option Kind) (body : Items) (i : ℕ) (a : Around) (before : Inside) → are_clean lay a around body i before t ≡ true → Bounds (contents (walked lay a before t).slots) t

plain_bounded : (lay : Laying) (p : Plain) (rest : Items) → AreBounded lay rest → AreBounded lay (plain p rest)
plain_bounded lay p rest bounded around body i a before h =
    let there = contents (walked lay (after_plain p a) (plain_instances a p before) rest).slots in
    plain_bounds p rest there (with_slot (plain_slot a before p) there) (plain_sums a before p there)
    (bounded around body (suc i) (after_plain p a) (plain_instances a p before)
    (both_second (is_none (plain_fault a around body i before p)) (are_clean lay (after_plain p a) around body (suc i) (plain_instances a p before) rest) h))

-- of a component without a fault, what is inside it has none, and what stands behind it
holder_clean : (lay : Laying) (around : Option Kind) (body : Items) (i : ℕ) (a : Around) (before : Inside) (h : Holder) (held rest : Items) → are_clean lay a around body i before (holder h held rest) ≡ true
    → (are_clean lay a (Some (holder_kind h)) held 0 no_instances held ≡ true)
    × (are_clean lay (after_holder h (known lay a (holder_kind h) held) a) around body (suc i) (holder_instances h (known lay a (holder_kind h) held) before) rest ≡ true)
holder_clean lay around body i a before h held rest z =
    let k = known lay a (holder_kind h) held in
    let within = are_clean lay a (Some (holder_kind h)) held 0 no_instances held in
    let more = are_clean lay (after_holder h k a) around body (suc i) (holder_instances h k before) rest in
    let all = both_second (is_none (holder_fault around body i h)) (within && more) z in
    (both_first within more all, both_second within more all)

-- an instance that is written where it stands, of a component that is kept by itself
record IsPart (lay : Laying) (a : Around) (before : Inside) (sh : Shell) (k : Kind) (held rest : Items) : Type 0 where
  slots : (walked lay a before (holder (anonymous sh k) held rest)).slots
      ≡ written part_slot (node lay a k held).core (node lay a k held).slots (walked lay a (with_instance sh.name (known lay a k held).within before) rest).slots
  instances : holder_instances (anonymous sh k) (known lay a k held) before ≡ with_instance sh.name (known lay a k held).within before

part_bounded : (lay : Laying) (sh : Shell) (k : Kind) (held rest : Items) → ((a : Around) (before : Inside) → IsPart lay a before sh k held rest) → AreBounded lay held → AreBounded lay rest
    → AreBounded lay (holder (anonymous sh k) held rest)
part_bounded lay sh k held rest part inside behind around body i a before z =
    let clean = holder_clean lay around body i a before (anonymous sh k) held rest z in
    let is = part a before in
    let next = with_instance sh.name (known lay a k held).within before in
    let there = walked lay a next rest in
    let rest_clean : are_clean lay a around body (suc i) next rest ≡ true =
    ap (λ m. are_clean lay a around body (suc i) m rest) (sym is.instances) ∙ clean.1 in
    subst (λ s. Bounds (contents s) (holder (anonymous sh k) held rest)) (sym is.slots)
    (with_bounds (anonymous sh k) held rest (contents (body_of lay a held).slots) (contents there.slots)
    (contents (written part_slot (node lay a k held).core (node lay a k held).slots there.slots))
    (inside (Some k) held 0 a no_instances clean.0) (behind around body (suc i) a next rest_clean) refl refl refl)

define_bounded : (lay : Laying) (m : List ℕ) (k : Kind) (held rest : Items) → AreBounded lay held → AreBounded lay rest → AreBounded lay (holder (define m k) held rest)
define_bounded lay m k held rest inside behind around body i a before z =
    let clean = holder_clean lay around body i a before (define m k) held rest z in
    let there = walked lay (after_holder (define m k) (known lay a k held) a) before rest in
    with_bounds (define m k) held rest (contents (body_of lay a held).slots) (contents there.slots) (contents (walked lay a before (holder (define m k) held rest)).slots)
    (inside (Some k) held 0 a no_instances clean.0) (behind around body (suc i) (after_holder (define m k) (known lay a k held) a) before clean.1) refl refl refl

field_bounded : (lay : Laying) (sh : Shell) (held rest : Items) → AreBounded lay rest → AreBounded lay (holder (anonymous sh Field) held rest)
field_bounded lay sh held rest behind around body i a before z =
    let clean = holder_clean lay around body i a before (anonymous sh Field) held rest z in
    let there = walked lay a (with_instance sh.name nothing_within before) rest in
    field_bounds sh held rest (contents there.slots) (contents (walked lay a before (holder (anonymous sh Field) held rest)).slots)
    (field_flat lay held 0 a held clean.0) (behind around body (suc i) a (with_instance sh.name nothing_within before) clean.1) refl refl refl

holder_bounded : (lay : Laying) (h : Holder) (held rest : Items) → AreBounded lay held → AreBounded lay rest → AreBounded lay (holder h held rest)
holder_bounded lay (define m k) held rest inside behind = define_bounded lay m k held rest inside behind
holder_bounded lay (anonymous sh Field) held rest inside behind = field_bounded lay sh held rest behind
holder_bounded lay (anonymous sh Addrmap) held rest inside behind =
    part_bounded lay sh Addrmap held rest (λ a before. record { slots = refl; instances = refl }) inside behind
holder_bounded lay (anonymous sh Regfile) held rest inside behind =
    part_bounded lay sh Regfile held rest (λ a before. record { slots = refl; instances = refl }) inside behind
holder_bounded lay (anonymous sh Reg) held rest inside behind =
    part_bounded lay sh Reg held rest (λ a before. record { slots = refl; instances = refl }) inside behind

none_bounded : (lay : Laying) → AreBounded lay no_items
none_bounded lay around body i a before h = record { depth = λ z. omega arith; count = λ z. omega arith; weight = λ z. omega arith }

pub are_bounded : (lay : Laying) (t : Items) → AreBounded lay t
are_bounded lay no_items = none_bounded lay
are_bounded lay (plain p rest) = plain_bounded lay p rest (are_bounded lay rest)
are_bounded lay (holder h held rest) = holder_bounded lay h held rest (are_bounded lay held) (are_bounded lay rest)

-- what isn't above a limit by these sums isn't by the items
neither : (x y : Bool) → (x || y) ≡ false → (x ≡ false) × (y ≡ false)
neither false y h = (refl, h)
neither true y h = absurd cc

is_none-of : {X : Type 0} (o : Option X) → is_none o ≡ true → o ≡ None
is_none-of None h = refl
is_none-of (Some x) h = absurd cc

none_of : (x y z : Bool) → x ≡ false → y ≡ false → z ≡ false → (x || y || z) ≡ false
none_of x y z e f g = ap (λ (w : Bool). w || y || z) e ∙ ap (λ (w : Bool). false || w || z) f ∙ g

pub small_maps_fit : SmallMapsFit
small_maps_fit lay d clean h =
    let c = contents (body_of lay nothing_around d).slots in
    let b = are_bounded lay d None d 0 nothing_around no_instances clean in
    let deep = nat_lt 16 c.depth in
    let many = nat_lt 65536 (c.count + min (item_count d) (2 ^ 30)) in
    let heavy = nat_lt 8388608 (c.weight + min (items_weight d) (2 ^ 31)) in
    let three : ((deep || many) ≡ false) × (heavy ≡ false) = neither (deep || many) heavy h in
    let two = neither deep many three.0 in
    let shallow = ltb-false 16 c.depth two.0 in
    let few = ltb-false 65536 (c.count + min (item_count d) (2 ^ 30)) two.1 in
    let light = ltb-false 8388608 (c.weight + min (items_weight d) (2 ^ 31)) three.1 in
    let depth_l = b.depth (omega (arith, shallow)) in
    let count_l = b.count (omega (arith, few)) in
    let weight_l = b.weight (omega (arith, light)) in
    let too_large : is_too_large d ≡ false =
    none_of (nat_lt 16 (depth d)) (nat_lt 65536 (count d)) (nat_lt 8388608 (weight d))
    (le-ltb 16 (depth d) (omega (arith, shallow, depth_l))) (le-ltb 65536 (count d) (omega (arith, few, count_l))) (le-ltb 8388608 (weight d) (omega (arith, light, weight_l))) in
    is_none-of (fault_of d) (faults_are_found lay d ∙ ap (λ (z : Bool). not z && is_clean_map lay d) too_large ∙ clean)
