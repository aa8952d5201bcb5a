-- The lines of one item. Own.
use Rattle.std.specs.Prelude.{ℕ, List, ◌++◌}
use Rattle.rdl_tree.specs.Items.{Items, named, own, default, dynamic, Holder, define, anonymous}
use Rattle.rdl_tree.specs.declared.description.Item.{Item}
use Rattle.rdl_tree.specs.declared.description.Item.TheVariants.{Define, Instance, Own, Default, Dynamic}
use Rattle.rdl_tree.specs.declared.description.Of.TheVariants.{Named, Anonymous}
use Rattle.rdl_write.specs.MapText.{statement_line, open_line, close_line, deeper, body_text}

abbrev pub holder_text : (indent : List ℕ) → Holder → Items → List ℕ
holder_text indent h body = open_line indent h ++ body_text (deeper indent) body ++ close_line indent h

abbrev pub item_text : (indent : List ℕ) → Item → List ℕ
item_text indent (Define n c) = holder_text indent (define n c.kind) c.body
item_text indent (Instance s (Named t)) = statement_line indent (named s t)
item_text indent (Instance s (Anonymous c)) = holder_text indent (anonymous s c.kind) c.body
item_text indent (Own p v) = statement_line indent (own p v)
item_text indent (Default p v) = statement_line indent (default p v)
item_text indent (Dynamic t p v) = statement_line indent (dynamic t p v)
