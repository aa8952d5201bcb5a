-- Small maps, sound and not, by computing.
use Rattle.std.proofs.Common.{◌≡◌, ℕ, ◌+◌, List, [], ◌∷◌, Some, Option, true, false, Bool, refl}
use Rattle.std.specs.Prelude.{codes, option_map}
use Rattle.rdl_tree.specs.Items.{Items, no_items, plain, holder, own, dynamic, define, anonymous}
use Rattle.rdl_tree.specs.Shell.{bare_shell}
use Rattle.rdl_tree.specs.declared.shell.Kind.{Kind}
use Rattle.rdl_tree.specs.declared.shell.Kind.TheVariants.{Addrmap, Regfile, Reg, Field}
use Rattle.rdl_tree.specs.declared.value.Value.{Value}
use Rattle.rdl_tree.specs.declared.value.Value.TheVariants.{Number, Word as Worded}
use Rattle.rdl_tree.specs.declared.value.Word.{Word}
use Rattle.rdl_tree.specs.declared.value.Word.TheVariants as word
use Rattle.rdl_scope.specs.Closed.{root_type}
use Rattle.rdl_elab.specs.Layouts.{layout_of}
use Rattle.rdl_elab.specs.declared.layout.Mode.TheVariants.{Regalign}
use Rattle.sound_laws.specs.Sound.{is_sound}

abbrev top : Items → Items
top body = holder (define (codes "top") Addrmap) body no_items

abbrev held : List ℕ → Kind → Items → Items → Items
held name kind body rest = holder (anonymous (bare_shell name) kind) body rest

-- field { sw = w; } name[high:low] = reset;
abbrev field_at : List ℕ → Word → ℕ → ℕ → ℕ → Items → Items
field_at name w high low reset rest =
    holder (anonymous (record (bare_shell name) { range = Some (high, low); reset = Some reset }) Field) (plain (own (codes "sw") (Worded w)) no_items) rest

abbrev is_top_sound : Items → Option Bool
is_top_sound d = option_map (λ c. is_sound layout_of Regalign c.head c.parts) (root_type d (codes "top"))

-- a register r of two fields f and g, behind which this stands
abbrev two_fields : Word → Word → ℕ → ℕ → Items → Items
two_fields w z low reset rest = top (held (codes "r") Reg (field_at (codes "f") w 3 0 0 (field_at (codes "g") z (low + 3) low reset no_items)) rest)

abbrev assigned : List ℕ → Value → Items
assigned p v = plain (dynamic (codes "r" ∷ codes "g" ∷ []) p v) no_items

pub side_by_side : is_top_sound (two_fields word.Rw word.Rw 4 15 no_items) ≡ Some true
side_by_side = refl

-- four bits don't hold 16
pub reset_too_wide : is_top_sound (two_fields word.Rw word.Rw 4 16 no_items) ≡ Some false
reset_too_wide = refl

pub past_the_register : is_top_sound (two_fields word.Rw word.Rw 29 0 no_items) ≡ Some false
past_the_register = refl

-- bits 2 and 3 are shared
pub shared : is_top_sound (two_fields word.Rw word.Rw 2 0 no_items) ≡ Some false
shared = refl

pub shared_by_a_reader_and_a_writer : is_top_sound (two_fields word.R word.W 2 0 no_items) ≡ Some true
shared_by_a_reader_and_a_writer = refl

-- what is assigned from the map: a reset that fits, and one that doesn't; `sw`, where bits are shared and where none are
pub assigned_reset_fits : is_top_sound (two_fields word.Rw word.Rw 4 0 (assigned (codes "reset") (Number 15))) ≡ Some true
assigned_reset_fits = refl

pub assigned_reset_is_too_wide : is_top_sound (two_fields word.Rw word.Rw 4 0 (assigned (codes "reset") (Number 16))) ≡ Some false
assigned_reset_is_too_wide = refl

pub assigned_access_of_shared : is_top_sound (two_fields word.R word.W 2 0 (assigned (codes "sw") (Worded word.W))) ≡ Some false
assigned_access_of_shared = refl

pub assigned_access_of_apart : is_top_sound (two_fields word.R word.W 4 0 (assigned (codes "sw") (Worded word.R))) ≡ Some true
assigned_access_of_apart = refl

-- two registers at these addresses, in a register file that stands there in an array with this stride
abbrev two_registers : ℕ → ℕ → Items
two_registers address stride =
    top (holder (anonymous (record (bare_shell (codes "file")) { dims = 2 ∷ []; stride = Some stride }) Regfile)
    (holder (anonymous (record (bare_shell (codes "a")) { address = Some 0 }) Reg) (field_at (codes "f") word.Rw 3 0 0 no_items)
    (holder (anonymous (record (bare_shell (codes "b")) { address = Some address }) Reg) (field_at (codes "f") word.Rw 3 0 0 no_items) no_items)) no_items)

pub apart : is_top_sound (two_registers 4 8) ≡ Some true
apart = refl

pub overlapping : is_top_sound (two_registers 2 8) ≡ Some false
overlapping = refl

pub stride_too_small : is_top_sound (two_registers 4 4) ≡ Some false
stride_too_small = refl
