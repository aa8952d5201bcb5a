-- The table of properties: a row for each, in the order in which rows of a map list their values.
-- SystemRDL 2.0: universal properties (clause 5), properties of fields (9), registers (10), register files (12) and address maps (13).
-- own: which of them there are, which have a built-in value, and which may be assigned from outside.
use Rattle.std.specs.Prelude.{ℕ, ◌^◌, ◌==◌, ◌&&◌, ◌||◌, nat_le, Bool, true, false, List, [], ◌∷◌, Option, Some, None, codes, bytes_eq, find}
use Rattle.std.specs.Int.{is_power_of_two}
use Rattle.rdl_tree.specs.declared.shell.Kind.{Kind}
use Rattle.rdl_tree.specs.declared.shell.Kind.TheVariants.{Addrmap, Regfile, Reg, Field}
use Rattle.rdl_tree.specs.declared.value.Word.{Word}
use Rattle.rdl_tree.specs.declared.value.Word.TheVariants as word
use Rattle.rdl_tree.specs.declared.value.Value.{Value}
use Rattle.rdl_tree.specs.declared.value.Value.TheVariants as value
use Rattle.rdl_tree.specs.declared.property.Owners.{Owners}
use Rattle.rdl_tree.specs.declared.property.Owners.TheVariants.{All, Addrmaps, Containers, Regs, Fields}
use Rattle.rdl_tree.specs.declared.property.Form.{Form}
use Rattle.rdl_tree.specs.declared.property.Form.TheVariants.{Texts, Modes, Alignments, OnlyTrue, Widths, Booleans, BitCounts, Numbers, Accesses, ReadEffects, WriteEffects}
use Rattle.rdl_tree.specs.declared.property.Property.{Property}
use Rattle.rdl_tree.specs.declared.property.Property.TheVariants.{Name, Desc, Addressing, Alignment, Lsb0, Regwidth, Accesswidth, Shared, Fieldwidth, Reset, Sw, Hw, Rclr, Rset, Onread, Woset, Woclr, Onwrite, Singlepulse, Swmod, Swacc, We, Wel, Swwe, Swwel, Counter, Intr, Anded, Ored, Xored, Hwclr, Hwset, Sticky, Stickybit, Dontcompare, Donttest}

-- the kinds of component that have a property
abbrev pub is_owner : Owners → Kind → Bool
is_owner All kind = true
is_owner Addrmaps Addrmap = true
is_owner Containers Addrmap = true
is_owner Containers Regfile = true
is_owner Regs Reg = true
is_owner Fields Field = true
is_owner owners kind = false

-- the addressing modes, software and hardware access, and the effects of a read and of a write
abbrev pub is_mode : Word → Bool
is_mode word.Compact = true
is_mode word.Regalign = true
is_mode word.Fullalign = true
is_mode w = false

abbrev pub is_access : Word → Bool
is_access word.Rw = true
is_access word.Wr = true
is_access word.R = true
is_access word.W = true
is_access word.Rw1 = true
is_access word.W1 = true
is_access word.Na = true
is_access w = false

abbrev pub is_read_effect : Word → Bool
is_read_effect word.Rclr = true
is_read_effect word.Rset = true
is_read_effect word.Ruser = true
is_read_effect w = false

abbrev pub is_write_effect : Word → Bool
is_write_effect word.Woset = true
is_write_effect word.Woclr = true
is_write_effect word.Wot = true
is_write_effect word.Wzs = true
is_write_effect word.Wzc = true
is_write_effect word.Wzt = true
is_write_effect word.Wclr = true
is_write_effect word.Wset = true
is_write_effect word.Wuser = true
is_write_effect w = false

-- the value is of this form; a boolean may be written as 0 or 1
abbrev pub has_form : Form → Value → Bool
has_form Texts (value.Text t) = true
has_form Modes (value.Word w) = is_mode w
has_form Alignments (value.Number n) = is_power_of_two n && nat_le n (2 ^ 40)
has_form OnlyTrue (value.Number n) = n == 1
has_form OnlyTrue (value.Bool b) = b
has_form Widths (value.Number n) = n == 8 || n == 16 || n == 32 || n == 64 || n == 128
has_form Booleans (value.Number n) = nat_le n 1
has_form Booleans (value.Bool b) = true
has_form BitCounts (value.Number n) = nat_le 1 n && nat_le n 128
has_form Numbers (value.Number n) = true
has_form Accesses (value.Word w) = is_access w
has_form ReadEffects (value.Word w) = is_read_effect w
has_form WriteEffects (value.Word w) = is_write_effect w
has_form form v = false

pub record Row : Type 0 where
  pub name : List ℕ
  pub owners : Owners
  pub form : Form
  pub built_in : Option Value
  -- it may be assigned from outside, by a dynamic assignment
  pub dynamic : Bool
  -- the layout depends on it
  pub layout : Bool

abbrev row_of : List ℕ → Owners → Form → Option Value → Bool → Bool → Row
row_of name owners form built_in dynamic layout = record { name = name; owners = owners; form = form; built_in = built_in; dynamic = dynamic; layout = layout }

abbrev number : ℕ → Option Value
number n = Some (value.Number n)

abbrev spelled : Word → Option Value
spelled w = Some (value.Word w)

abbrev yes : Option Value
yes = Some (value.Bool true)

abbrev off : Option Value
off = Some (value.Bool false)

--                   name                  owners      form         built-in              dynamic layout
abbrev pub row : Property → Row
row Name = row_of (codes "name") All Texts None true false
row Desc = row_of (codes "desc") All Texts None true false
row Addressing = row_of (codes "addressing") Addrmaps Modes (spelled word.Regalign) false true
row Alignment = row_of (codes "alignment") Containers Alignments None false true
row Lsb0 = row_of (codes "lsb0") Addrmaps OnlyTrue yes false false
row Regwidth = row_of (codes "regwidth") Regs Widths (number 32) false true
row Accesswidth = row_of (codes "accesswidth") Regs Widths None false true
row Shared = row_of (codes "shared") Regs Booleans off false false
row Fieldwidth = row_of (codes "fieldwidth") Fields BitCounts (number 1) false true
row Reset = row_of (codes "reset") Fields Numbers None true false
row Sw = row_of (codes "sw") Fields Accesses (spelled word.Rw) true false
row Hw = row_of (codes "hw") Fields Accesses (spelled word.Rw) false false
row Rclr = row_of (codes "rclr") Fields Booleans off true false
row Rset = row_of (codes "rset") Fields Booleans off true false
row Onread = row_of (codes "onread") Fields ReadEffects None true false
row Woset = row_of (codes "woset") Fields Booleans off true false
row Woclr = row_of (codes "woclr") Fields Booleans off true false
row Onwrite = row_of (codes "onwrite") Fields WriteEffects None true false
row Singlepulse = row_of (codes "singlepulse") Fields Booleans off true false
row Swmod = row_of (codes "swmod") Fields Booleans off true false
row Swacc = row_of (codes "swacc") Fields Booleans off true false
row We = row_of (codes "we") Fields Booleans off true false
row Wel = row_of (codes "wel") Fields Booleans off true false
row Swwe = row_of (codes "swwe") Fields Booleans off true false
row Swwel = row_of (codes "swwel") Fields Booleans off true false
row Counter = row_of (codes "counter") Fields Booleans off true false
row Intr = row_of (codes "intr") Fields Booleans off true false
row Anded = row_of (codes "anded") Fields Booleans off true false
row Ored = row_of (codes "ored") Fields Booleans off true false
row Xored = row_of (codes "xored") Fields Booleans off true false
row Hwclr = row_of (codes "hwclr") Fields Booleans off true false
row Hwset = row_of (codes "hwset") Fields Booleans off true false
row Sticky = row_of (codes "sticky") Fields Booleans off true false
row Stickybit = row_of (codes "stickybit") Fields Booleans off true false
row Dontcompare = row_of (codes "dontcompare") Fields Booleans off true false
row Donttest = row_of (codes "donttest") Fields Booleans off true false

-- all of them, in order
abbrev pub properties : List Property
properties =
    Name ∷ Desc ∷ Addressing ∷ Alignment ∷ Lsb0 ∷ Regwidth ∷ Accesswidth ∷ Shared ∷ Fieldwidth ∷ Reset ∷
    Sw ∷ Hw ∷ Rclr ∷ Rset ∷ Onread ∷ Woset ∷ Woclr ∷ Onwrite ∷ Singlepulse ∷ Swmod ∷ Swacc ∷ We ∷ Wel ∷
    Swwe ∷ Swwel ∷ Counter ∷ Intr ∷ Anded ∷ Ored ∷ Xored ∷ Hwclr ∷ Hwset ∷ Sticky ∷ Stickybit ∷
    Dontcompare ∷ Donttest ∷ []

-- the property of a name
unfoldable pub property_of : List ℕ → Option Property
property_of name = find (λ p. bytes_eq name (row p).name) properties

abbrev pub on : Property → Kind → Bool
on p kind = is_owner (row p).owners kind

abbrev pub takes : Property → Value → Bool
takes p v = has_form (row p).form v
