-- What the nodes of small maps say, by computing.
use Rattle.std.proofs.Common.{◌≡◌, ℕ, ◌+◌, Bool, true, false, List, [], ◌∷◌, Option, Some, option_map, refl}
use Rattle.std.specs.Prelude.{codes}
use Rattle.std.specs.Int.Count.{count_leading_zeros}
use Rattle.rdl_tree.specs.Items.{Items, no_items, plain, holder, own, dynamic, define, anonymous}
use Rattle.rdl_tree.specs.Properties.{property_of}
use Rattle.rdl_tree.specs.Shell.{bare_shell}
use Rattle.rdl_tree.specs.declared.shell.Kind.{Kind}
use Rattle.rdl_tree.specs.declared.shell.Kind.TheVariants.{Addrmap, Reg, Field}
use Rattle.rdl_tree.specs.declared.value.Value.TheVariants.{Number, Word as Worded}
use Rattle.rdl_tree.specs.declared.value.Word.{Word}
use Rattle.rdl_tree.specs.declared.value.Word.TheVariants as word
use Rattle.rdl_elab.specs.declared.layout.Mode.TheVariants.{Regalign}
use Rattle.rdl_seen.specs.Meaning.{nothing_around, node_at}
use Rattle.rdl_seen.specs.Modes.{has_mode}
use Rattle.rdl_seen.specs.Node.{body_of}
use Rattle.rdl_seen.specs.Slots.{Node}
use Rattle.node_laws.specs.Laid.{laying}
use Rattle.node_laws.specs.Modes.{seen_mode}
use Rattle.sound_nodes.specs.Says.{is_within}

abbrev top : Items → Items
top body = holder (define (codes "top") Addrmap) body no_items

abbrev held : List ℕ → Kind → Items → Items → Items
held name kind body rest = holder (anonymous (bare_shell name) kind) body rest

-- field { sw = w; } name[high:low] = reset;
abbrev field_at : List ℕ → Word → ℕ → ℕ → ℕ → Items → Items
field_at name w high low reset rest =
    holder (anonymous (record (bare_shell name) { range = Some (high, low); reset = Some reset }) Field) (plain (own (codes "sw") (Worded w)) no_items) rest

-- a register r of two fields f and g, behind which this stands
abbrev two_fields : ℕ → ℕ → Items → Items
two_fields low reset rest = top (held (codes "r") Reg (field_at (codes "f") word.Rw 3 0 0 (field_at (codes "g") word.Rw (low + 3) low reset no_items)) rest)

-- what the node that is kept of the top says
abbrev top_node : Items → Option Node
top_node d = node_at (0 ∷ []) (body_of laying nothing_around d).slots

abbrev says_sound : Items → Option Bool
says_sound d = option_map (λ (n : Node). has_mode n.core.seen.sound (seen_mode Regalign)) (top_node d)

abbrev says_within : Items → Option Bool
says_within d = option_map (λ (n : Node). is_within n.core.seen) (top_node d)

pub side_by_side : says_sound (two_fields 4 15 no_items) ≡ Some true
unfolding laying count_leading_zeros property_of
side_by_side = refl

-- four bits don't hold 16
pub reset_too_wide : says_sound (two_fields 4 16 no_items) ≡ Some false
unfolding laying count_leading_zeros property_of
reset_too_wide = refl

-- bits 2 and 3 are shared
pub shared : says_sound (two_fields 2 0 no_items) ≡ Some false
unfolding laying count_leading_zeros property_of
shared = refl

-- what the map assigns doesn't fit
pub assigned_too_wide : says_sound (two_fields 4 0 (plain (dynamic (codes "r" ∷ codes "g" ∷ []) (codes "reset") (Number 16)) no_items)) ≡ Some false
unfolding laying count_leading_zeros property_of
assigned_too_wide = refl

pub within : says_within (two_fields 4 15 no_items) ≡ Some true
unfolding laying count_leading_zeros property_of
within = refl
