-- What is inside a component, by its slots and by its parts.
use Rattle.std.proofs.Common.{◌≡◌, ℕ, ◌+◌, true, false, List, Option, Some, None, if◌then◌else◌, refl, ◌∙◌, arith}
use Rattle.std.specs.Prelude.{Bool, ◌||◌, ◌&&◌, not, min, max}
use Rattle.std.specs.Option.{option_or, is_some}
use Rattle.rdl_tree.specs.declared.shell.Kind.{Kind}
use Rattle.rdl_tree.specs.declared.shell.Kind.TheVariants.{Addrmap, Regfile, Reg, Field}
use Rattle.rdl_tree.specs.declared.shell.Shell.{Shell}
use Rattle.rdl_tree.specs.Items.{Items}
use Rattle.rdl_scope.specs.Closed.{Parts, no_parts, part, Made, Standing, head_at}
use Rattle.rdl_elab.specs.Faults.{levels, count, is_empty, first_empty}
use Rattle.rdl_seen.specs.declared.seen.Seen.{Seen}
use Rattle.rdl_seen.specs.Contents.{Contents, no_contents, with_field, with_instance, with_written}
use Rattle.rdl_seen.specs.Modes.{and_modes}
use Rattle.rdl_seen.specs.Node.{is_container}
use Rattle.rdl_seen.specs.Slots.{FieldBody}
use Rattle.node_laws.specs.Meant.{IsSeen}
use Rattle.node_laws.specs.Sound.{sound_by, all_sound}

abbrev pub has_parts : Parts → Bool
has_parts no_parts = false
has_parts (part at s h inside rest) = true

-- these contents are those of the parts, as far as numbers are told apart
pub record IsInner (c : Contents) (ps : Parts) : Type 0 where
  pub levels : min c.levels 16 ≡ min (levels ps) 16
  pub rows : min c.rows 65536 ≡ min (count ps) 65536
  pub has_instances : c.has_instances ≡ has_parts ps
  pub has_empty : c.has_empty ≡ is_some (first_empty ps)
  pub sound : c.sound ≡ all_sound ps

pub inner-none : IsInner no_contents no_parts
inner-none = record { levels = refl; rows = refl; has_instances = refl; has_empty = refl; sound = refl }

pub inner-written : (s : Seen) (c : Contents) (ps : Parts) → IsInner c ps → IsInner (with_written s c) ps
inner-written s c ps h = record { levels = h.levels; rows = h.rows; has_instances = h.has_instances; has_empty = h.has_empty; sound = h.sound }

more-levels : (a b x y : ℕ) → a ≡ min x 16 → min b 16 ≡ min y 16 → min (max (a + 1) b) 16 ≡ min (max (x + 1) y) 16
more-levels a b x y e f = omega arith

more-rows : (a b x y : ℕ) → a ≡ min x 65536 → min b 65536 ≡ min y 65536 → min (a + 1 + b) 65536 ≡ min (x + 1 + y) 65536
more-rows a b x y e f = omega arith

more-empty : (here : Bool) (at : List ℕ) (o p : Option (List ℕ)) → (is_some o || here || is_some p) ≡ is_some (option_or (if here then Some at else None) (option_or o p))
more-empty true at None p = refl
more-empty true at (Some a) p = refl
more-empty false at None p = refl
more-empty false at (Some a) p = refl

pub inner-part : (m : Made) (s : Seen) (c : Contents) (at : List ℕ) (sh : Shell) (rest : Parts) → IsSeen m s → IsInner c rest
    → IsInner (with_instance s c) (part at sh m.head m.parts rest)
inner-part m s c at sh rest is h = record {
  levels = more-levels s.levels c.levels (levels m.parts) (levels rest) is.levels h.levels;
  rows = more-rows s.rows c.rows (count m.parts) (count rest) is.rows h.rows;
  has_instances = refl;
  has_empty =
      (λ i. is.has_empty i || is.is_empty i || h.has_empty i)
      ∙ more-empty (is_empty m.head.kind m.parts) at (first_empty m.parts) (first_empty rest);
  sound = λ i. and_modes (is.sound i) (h.sound i);
}

field-levels : (b y : ℕ) → min b 16 ≡ min y 16 → min (max 1 b) 16 ≡ min (max (0 + 1) y) 16
field-levels b y e = omega arith

field-rows : (b y : ℕ) → min b 65536 ≡ min y 65536 → min (1 + b) 65536 ≡ min (0 + 1 + y) 65536
field-rows b y e = omega arith

pub inner-field : (f : FieldBody) (c : Contents) (at place : List ℕ) (sh : Shell) (body : Items) (e : Standing) (rest : Parts) → IsInner c rest
    → IsInner (with_field f c) (part at sh (head_at place Field body e) no_parts rest)
unfolding sound_by
inner-field f c at place sh body e rest h = record {
  levels = field-levels c.levels (levels rest) h.levels;
  rows = field-rows c.rows (count rest) h.rows;
  has_instances = refl;
  has_empty = h.has_empty;
  sound = h.sound;
}

-- how deep bodies nest
pub more-depth : (a b x y : ℕ) → a ≡ min x 255 → min b 255 ≡ min y 255 → min (max (a + 1) b) 255 ≡ min (max (x + 1) y) 255
more-depth a b x y e f = omega arith

pub field-depth : (b x y : ℕ) → x ≡ 0 → min b 255 ≡ min y 255 → min (max 1 b) 255 ≡ min (max (x + 1) y) 255
field-depth b x y e f = omega arith

pub empty-is : (k : Kind) (ps : Parts) → (is_container k && not (has_parts ps)) ≡ is_empty k ps
empty-is Addrmap no_parts = refl
empty-is Addrmap (part at s h inside rest) = refl
empty-is Regfile no_parts = refl
empty-is Regfile (part at s h inside rest) = refl
empty-is Reg no_parts = refl
empty-is Reg (part at s h inside rest) = refl
empty-is Field no_parts = refl
empty-is Field (part at s h inside rest) = refl
