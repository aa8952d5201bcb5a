-- What is kept of an instance is what is taken of it under each mode.
use Rattle.std.proofs.Common.{◌≡◌, ℕ, ◌-◌, List, [], ◌∷◌, refl}
use Rattle.std.specs.Prelude.{min, ◌^◌, is_some, unwrap_or}
use Rattle.rdl_tree.specs.declared.shell.Shell.{Shell}
use Rattle.rdl_scope.specs.ItemFaults.{product}
use Rattle.rdl_elab.specs.declared.layout.Mode.{Mode}
use Rattle.rdl_elab.specs.declared.layout.Mode.TheVariants.{Compact, Regalign, Fullalign}
use Rattle.rdl_elab.specs.declared.layout.Layout.{Layout}
use Rattle.rdl_elab.specs.Kept.{Layouts}
use Rattle.rdl_elab.specs.Layouts.{is_array, width_of}
use Rattle.rdl_elab.specs.Finished.{under}
use Rattle.rdl_elab.specs.Inside.{shown_member}
use Rattle.rdl_elab.specs.EachMember.{first_of, said_of, extent_of, taken, member_under, shown_each}

array-by-first : (ns : List ℕ) → is_some (first_of ns) ≡ is_array ns
array-by-first [] = refl
array-by-first (n ∷ ns) = refl

width-by-first : (ns : List ℕ) (width : ℕ) → unwrap_or (first_of ns) width ≡ width_of ns width
width-by-first [] width = refl
width-by-first (n ∷ ns) width = refl

one-taken : (s : Shell) (l : Layout) → taken (said_of s) (extent_of l) ≡ shown_member (s, l)
one-taken s l = λ i. record {
  placement =
      record { size = l.size; access = l.access; elements = min (product s.dims) (2 ^ 128 - 1); is_array = array-by-first s.dims i; address = s.address; stride = s.stride; align = s.align };
  bits = record { width = width-by-first s.dims l.size i; range = s.range };
}

-- under each mode these are what is taken of the instances
pub one-under : (m : Mode) (s : Shell) (l : Layouts) → member_under m (shown_each s l) ≡ shown_member (s, under m l)
one-under Compact s l = one-taken s l.compact
one-under Regalign s l = one-taken s l.regalign
one-under Fullalign s l = one-taken s l.fullalign
