-- The layouts of a component, and what they are made of.
-- SystemRDL 2.0: fields (clause 9), registers (10), register files (12), address maps (13).
-- own: how instances are laid out is not said here. What depends on it takes a function that says it, and holds for each one.
use Rattle.std.specs.Prelude.{ℕ, ◌&&◌, nat_lt, not, Bool, true, List, [], ◌∷◌, Option, Some, None}
use Rattle.std.specs.List.{list_all}
use Rattle.rdl_tree.specs.declared.shell.Kind.{Kind}
use Rattle.rdl_tree.specs.declared.shell.Shell.{Shell}
use Rattle.rdl_seen.specs.declared.mode.Mode.{Mode}
use Rattle.rdl_seen.specs.declared.mode.Mode.TheVariants.{Compact, Regalign, Fullalign}
use Rattle.rdl_seen.specs.declared.seen.Modes.{Modes}
use Rattle.rdl_seen.specs.declared.seen.ByMode.{ByMode}
use Rattle.rdl_seen.specs.declared.values.Values.{Values}
use Rattle.rdl_seen.specs.Modes.{number_under}

-- bytes of a component, or bits of a register: from the start up to the end, which is the first one behind them
pub record Span : Type 0 where
  pub start : ℕ
  pub end : ℕ

-- a component under a mode: its size in bytes, that of a field in bits, its widest access in bytes, and the spans of its instances
pub record Layout : Type 0 where
  pub size : ℕ
  pub access : ℕ
  pub spans : List Span

pub record Layouts : Type 0 where
  pub compact : Layout
  pub regalign : Layout
  pub fullalign : Layout

abbrev pub layout_under : Layouts → Mode → Layout
layout_under l Compact = l.compact
layout_under l Regalign = l.regalign
layout_under l Fullalign = l.fullalign

abbrev pub sizes : Layouts → ByMode
sizes l = record { compact = l.compact.size; regalign = l.regalign.size; fullalign = l.fullalign.size }

abbrev pub accesses : Layouts → ByMode
accesses l = record { compact = l.compact.access; regalign = l.regalign.access; fullalign = l.fullalign.access }

-- what layouts take of an instance: its shell, and how large its component is under each mode
pub record Member : Type 0 where
  pub shell : Shell
  pub size : ByMode
  pub access : ByMode

-- the layouts of a component of a kind, with these values and these instances
abbrev pub Laying : Type 0
Laying = Kind → Values → List Member → Layouts

abbrev pub overlaps : Span → Span → Bool
overlaps s t = nat_lt s.start s.end && nat_lt t.start t.end && nat_lt s.start t.end && nat_lt t.start s.end

-- no two of the spans overlap
abbrev pub are_apart : List Span → Bool
are_apart [] = true
are_apart (s ∷ ss) = list_all (λ t. not (overlaps s t)) ss && are_apart ss

-- a stride is no smaller than the size of an element
abbrev pub is_stride_wide : ℕ → Option ℕ → Bool
is_stride_wide size None = true
is_stride_wide size (Some stride) = not (nat_lt stride size)

abbrev pub are_strides_wide : Mode → List Member → Bool
are_strides_wide mode members = list_all (λ (m : Member). is_stride_wide (number_under m.size mode) m.shell.stride) members

abbrev pub is_apart_under : Layouts → List Member → Mode → Bool
is_apart_under l members mode = are_strides_wide mode members && are_apart (layout_under l mode).spans

-- the modes in which no two instances overlap and no stride is too small
abbrev pub apart_modes : Layouts → List Member → Modes
apart_modes l members =
    record {
      compact = is_apart_under l members Compact;
      regalign = is_apart_under l members Regalign;
      fullalign = is_apart_under l members Fullalign;
    }
