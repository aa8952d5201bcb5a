-- How many instances are placed where components are laid out: those of each component, once for each mode.
-- own: SystemRDL 2.0 says how components are laid out, and nothing of what that takes.
use Rattle.std.specs.Prelude.{◌≡◌, ℕ, ◌+◌, ◌==◌, ◌&&◌, Bool, true, false, if◌then◌else◌, length, Option}
use Rattle.std.specs.Option.{option_eq}
use Rattle.rdl_tree.specs.Weight.{capped}
use Rattle.rdl_seen.specs.declared.mode.Mode.{Mode}
use Rattle.rdl_seen.specs.declared.mode.Mode.TheVariants.{Compact, Regalign, Fullalign}
use Rattle.rdl_seen.specs.declared.values.Access.{Access}
use Rattle.rdl_seen.specs.declared.values.Access.TheVariants.{OnlyReads, OnlyWrites, Other}
use Rattle.rdl_seen.specs.declared.values.Values.{Values}
use Rattle.rdl_seen.specs.Layouts.{Layouts}
use Rattle.rdl_seen.specs.Slots.{Core, Slots, no_slots, slot, written, Node}

-- the instances of a component with these layouts, once for each mode
abbrev pub placed_once : Layouts → ℕ
placed_once l = length l.compact.spans + length l.regalign.spans + length l.fullalign.spans

-- those of all components that are kept among these items
abbrev pub all_placed : Slots → ℕ
all_placed no_slots = 0
all_placed (slot x rest) = all_placed rest
all_placed (written w c inside rest) = placed_once c.layouts + all_placed inside + all_placed rest

-- those of a component and of all inside it
abbrev pub node_placed : Node → ℕ
node_placed n = placed_once n.core.layouts + all_placed n.slots

-- ---- Whether the values of a component are the same, part by part.

abbrev pub same_mode : Mode → Mode → Bool
same_mode Compact Compact = true
same_mode Regalign Regalign = true
same_mode Fullalign Fullalign = true
same_mode m n = false

abbrev pub same_access : Access → Access → Bool
same_access OnlyReads OnlyReads = true
same_access OnlyWrites OnlyWrites = true
same_access Other Other = true
same_access a b = false

abbrev pub same_stated : Option ℕ → Option ℕ → Bool
same_stated m n = option_eq (λ p q. p == q) m n

abbrev pub same_words : (a b : Values) → Bool
same_words a b = option_eq same_mode a.addressing b.addressing && option_eq same_access a.sw b.sw

abbrev pub same_widths : (a b : Values) → Bool
same_widths a b = same_stated a.regwidth b.regwidth && same_stated a.accesswidth b.accesswidth && same_stated a.fieldwidth b.fieldwidth

abbrev pub same_numbers : (a b : Values) → Bool
same_numbers a b = same_stated a.alignment b.alignment && same_stated a.reset b.reset

abbrev pub same_values : (a b : Values) → Bool
same_values a b = same_words a b && same_widths a b && same_numbers a b

-- ---- A component of which something was kept before.

-- what is placed for it, but for what is inside it: nothing, if its instances are alike and its values the same
abbrev pub placed_by : (are_alike : Bool) → (was is : Values) → Layouts → ℕ
placed_by alike was is l = if alike && same_values was is then 0 else placed_once l

abbrev pub placed_over : (are_alike : Bool) → (before now : Core) → ℕ
placed_over alike before now = placed_by alike before.values now.values now.layouts

-- ---- How it is counted.

-- a count that stops at the greatest `u64` goes on from the first number to the second one, where so many more are placed
abbrev pub CountsOn : (before now more : ℕ) → Type 0
CountsOn before now more = (n : ℕ) → before ≡ capped n → now ≡ capped (n + more)
