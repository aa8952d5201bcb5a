-- What the values of a component mean: what is stated for each property, by its own assignments and the defaults that reach it.
-- SystemRDL 2.0, clause 5, property assignment. own: each value as `Values` keeps it.
use Rattle.std.specs.Prelude.{◌≡◌, ℕ, zero, suc, true, List, [], ◌∷◌, Option, Some, None, option_map, option_and_then}
use Rattle.std.specs.Option.{option_or}
use Rattle.rdl_tree.specs.Address.{inner}
use Rattle.rdl_tree.specs.Component.{holder_kind}
use Rattle.rdl_tree.specs.Items.{Items, no_items, plain, holder}
use Rattle.rdl_tree.specs.Properties.{row, on}
use Rattle.rdl_tree.specs.declared.shell.Kind.TheVariants.{Field}
use Rattle.rdl_tree.specs.declared.value.Value.{Value}
use Rattle.rdl_tree.specs.declared.value.Value.TheVariants.{Number, Word as Worded}
use Rattle.rdl_tree.specs.declared.value.Word.{Word}
use Rattle.rdl_tree.specs.declared.value.Word.TheVariants as word
use Rattle.rdl_tree.specs.declared.property.Property.{Property}
use Rattle.rdl_tree.specs.declared.property.Property.TheVariants.{Addressing, Alignment, Regwidth, Accesswidth, Fieldwidth, Sw, Reset}
use Rattle.rdl_scope.specs.Closed.{Head, Made, Standing, lookup, stated, head_value}
use Rattle.rdl_seen.specs.declared.mode.Mode.{Mode}
use Rattle.rdl_seen.specs.declared.mode.Mode.TheVariants.{Compact, Regalign, Fullalign}
use Rattle.rdl_seen.specs.declared.values.Values.{Values}
use Rattle.rdl_seen.specs.Contents.{field_of}
use Rattle.rdl_seen.specs.Layouts.{Laying}
use Rattle.rdl_seen.specs.Node.{Around, mode_inside, after_plain, after_holder, values_of, known, node}
use Rattle.rdl_seen.specs.Slots.{Slots, no_slots, slot, written, Node}
use Rattle.rdl_seen.specs.Values.{mode_of, number_of, width_of, access_of, reset_bits, no_values, of_kind, register_bits, access_bits, field_bits, access}

-- the value of each property, as it is kept
abbrev pub kept_of : (Property → Option Value) → Values
kept_of value =
    record {
      addressing = option_and_then mode_of (value Addressing);
      alignment = option_and_then number_of (value Alignment);
      regwidth = option_and_then width_of (value Regwidth);
      accesswidth = option_and_then width_of (value Accesswidth);
      fieldwidth = option_and_then width_of (value Fieldwidth);
      sw = option_map access_of (value Sw);
      reset = option_and_then reset_bits (value Reset);
    }

-- what these defaults state, of which the nearest is the first
abbrev pub defaults_of : List (List ℕ × Value) → Values
defaults_of ds = kept_of (λ p. lookup (row p).name ds)

-- what is stated of a component, by its own assignments or by defaults, of the properties that its kind has
abbrev pub stated_of : Head → Values
stated_of h = of_kind h.kind (kept_of (λ p. stated h (row p).name))

abbrev pub word_of : Mode → Word
word_of Compact = word.Compact
word_of Regalign = word.Regalign
word_of Fullalign = word.Fullalign

-- these are a component's values, with those that are built in, of the properties that its kind has: nothing is cut off
pub record HasValues (h : Head) (v : Values) : Type 0 where
  pub addressing : on Addressing h.kind ≡ true → head_value h Addressing ≡ Some (Worded (word_of (mode_inside v)))
  pub alignment : on Alignment h.kind ≡ true → head_value h Alignment ≡ option_map Number v.alignment
  pub regwidth : on Regwidth h.kind ≡ true → head_value h Regwidth ≡ Some (Number (register_bits v))
  pub accesswidth : on Accesswidth h.kind ≡ true → head_value h Accesswidth ≡ Some (Number (access_bits v))
  pub fieldwidth : on Fieldwidth h.kind ≡ true → head_value h Fieldwidth ≡ Some (Number (field_bits v))
  pub sw : on Sw h.kind ≡ true → option_map access_of (head_value h Sw) ≡ Some (access v)
  pub reset : on Reset h.kind ≡ true → option_and_then reset_bits (head_value h Reset) ≡ v.reset

-- a body sees what stands before an item; so far, the defaults
pub record Means (e : Standing) (a : Around) : Type 0 where
  pub defaults : a.defaults ≡ defaults_of e.defaults

-- nothing stands around
abbrev pub nothing_around : Around
nothing_around = record { types = []; defaults = no_values }

-- what item i of a body sees
abbrev pub around_before : Laying → ℕ → Around → Items → Around
around_before lay zero a t = a
around_before lay (suc i) a no_items = a
around_before lay (suc i) a (plain p rest) = around_before lay i (after_plain p a) rest
around_before lay (suc i) a (holder h body rest) = around_before lay i (after_holder h (known lay a (holder_kind h) body) a) rest

-- what the item at this address sees
abbrev pub around_at : Laying → Around → List ℕ → Items → Option Around
around_at lay a [] t = None
around_at lay a (i ∷ []) t = Some (around_before lay i a t)
around_at lay a (i ∷ j ∷ c) t = option_and_then (around_at lay (around_before lay i a t) (j ∷ c)) (inner i t)

-- by what the item at this address of a description sees, the node of the component there has that component's values
pub record IsMeant (lay : Laying) (d : Items) (c : List ℕ) (m : Made) : Type 0 where
  pub around : Around
  pub there : around_at lay nothing_around c d ≡ Some around
  pub stated : (node lay around m.head.kind m.head.body).core.values ≡ stated_of m.head
  pub whole : HasValues m.head (node lay around m.head.kind m.head.body).core.values

-- the node of item i of a body, if that is kept by itself
abbrev pub kept_at : ℕ → Slots → Option Node
kept_at i no_slots = None
kept_at zero (slot s rest) = None
kept_at zero (written w c inside rest) = Some (record { core = c; slots = inside })
kept_at (suc i) (slot s rest) = kept_at i rest
kept_at (suc i) (written w c inside rest) = kept_at i rest

-- the node that is kept at this address
abbrev pub node_at : List ℕ → Slots → Option Node
node_at [] s = None
node_at (i ∷ []) s = kept_at i s
node_at (i ∷ j ∷ c) s = option_and_then (λ (n : Node). node_at (j ∷ c) n.slots) (kept_at i s)

-- what is kept of a field that is written where it is instantiated, under these defaults, is what its node would have as its values
pub record IsLikeNode (defaults : Values) (body : Items) : Type 0 where
  pub width : option_or (field_of body).width defaults.fieldwidth ≡ (values_of Field defaults body).fieldwidth
  pub access : option_or (field_of body).access defaults.sw ≡ (values_of Field defaults body).sw
  pub reset : option_or (field_of body).reset defaults.reset ≡ (values_of Field defaults body).reset
