-- How deep a description nests: how many braces stand open round its innermost items.
-- own: SystemRDL 2.0 bounds no nesting.
use Rattle.std.specs.Prelude.{ℕ, ◌+◌, max}
use Rattle.rdl_tree.specs.Items.{Items, no_items, plain, holder}

abbrev pub depth : Items → ℕ
depth no_items = 0
depth (plain p rest) = depth rest
depth (holder h body rest) = max (depth body + 1) (depth rest)
