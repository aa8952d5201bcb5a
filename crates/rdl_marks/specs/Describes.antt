-- What it is that marks describe what a body became.
-- own: SystemRDL 2.0 has no edits.
use Rattle.std.specs.Prelude.{◌≡◌, ℕ, ◌+◌, ◌==◌, if◌then◌else◌, nat_lt, IsTrue, List, [], ◌∷◌, drop, Some, unwrap_or, slice_get}
use Rattle.rdl_tree.specs.Items.{Items, no_items, plain, holder}
use Rattle.rdl_tree.specs.View.{list_of, plain_item, holder_item}
use Rattle.rdl_tree.specs.Patch.{fits, inverse, patched}
use Rattle.rdl_tree.specs.declared.patch.Patch.{Patch}
use Rattle.rdl_tree.specs.declared.description.Item.{Item}
use Rattle.rdl_tree.specs.declared.description.Item.TheVariants.{Define, Instance, Own, Default, Dynamic}
use Rattle.rdl_tree.specs.declared.description.Of.TheVariants.{Named, Anonymous}
use Rattle.rdl_marks.specs.Marks.{Firsts, Traces, no_traces, new_trace, old_trace, Marks}

-- the item with what stood first in the place of its parts
abbrev pub restored : Firsts → Item → Item
restored f (Define n c) = Define (unwrap_or f.defined n) c
restored f (Instance s (Named t)) = Instance (unwrap_or f.shell s) (Named (unwrap_or f.type_name t))
restored f (Instance s (Anonymous c)) = Instance (unwrap_or f.shell s) (Anonymous c)
restored f (Own p v) = Own p (unwrap_or f.value v)
restored f (Default p v) = Default p (unwrap_or f.value v)
restored f (Dynamic t p v) = Dynamic (unwrap_or f.target t) p (unwrap_or f.value v)

-- the body has this item with this number
abbrev pub IsItem : ℕ → Items → Item → Type 0
IsItem number b x = slice_get (list_of b) number ≡ Some x

-- how often the number stands among those of the items
abbrev pub times : ℕ → Traces → ℕ
times n no_traces = 0
times n (new_trace rest) = times n rest
times n (old_trace number firsts inside behind gone items rest) = (if number == n then 1 else 0) + times n rest

-- each number below `behind` stands once, among the items or among those that are gone, and no other does
abbrev pub StandOnce : Traces → (behind : ℕ) → (gone : Traces) → Type 0
StandOnce traces behind gone = (n : ℕ) → times n traces + times n gone ≡ (if nat_lt n behind then 1 else 0)

-- The items, one by one, as what became of a body that was `old`, and behind them these. An item that wasn't there before may be
-- any. Another one is the item of its number in `old`, but for what stood first in the place of its parts, and but for its body: that
-- became of the old item's body what the marks inside describe.
abbrev pub AreFrom : (old : Items) → Traces → (rest : List Item) → Items → Type 0
AreFrom old no_traces rest t = list_of t ≡ rest
AreFrom old (new_trace others) rest no_items = ⊥
AreFrom old (new_trace others) rest (plain p t) = AreFrom old others rest t
AreFrom old (new_trace others) rest (holder h body t) = AreFrom old others rest t
AreFrom old (old_trace number firsts inside behind gone items others) rest no_items = ⊥
AreFrom old (old_trace number firsts inside behind gone items others) rest (plain p t) =
    IsItem number old (restored firsts (plain_item p)) × AreFrom old others rest t
AreFrom old (old_trace number firsts inside behind gone items others) rest (holder h body t) =
    ((b : Items) × IsItem number old (restored firsts (holder_item h b)) × AreFrom b inside (drop behind (list_of b)) body × AreFrom b gone [] items × StandOnce inside behind gone)
    × AreFrom old others rest t

-- Marks describe what became of a body: its items are those told of and, behind them, all that had a number from `behind` on; those that
-- are gone were items of it, too; and each of its items is told of once.
pub record Describes (m : Marks) (old now : Items) : Type 0 where
  pub items : AreFrom old m.traces (drop m.behind (list_of old)) now
  pub gone : AreFrom old m.gone [] m.items
  pub once : StandOnce m.traces m.behind m.gone

-- The second marks describe what a patch that fits makes of what the first ones described, where `back` takes that patch back.
abbrev pub KeepsDescribing : (back : Patch) → Marks → Marks → Type 0
KeepsDescribing back m n =
    (p : Patch) (old now : Items) → IsTrue (fits p now) → inverse p now ≡ back ∷ [] → Describes m old now → Describes n old (patched p now)
