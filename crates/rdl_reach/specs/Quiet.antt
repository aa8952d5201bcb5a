-- Patches that edit no body: they change nothing of what layouts take.
-- own: SystemRDL 2.0 says how components are laid out, and nothing of edits.
use Rattle.std.specs.Prelude.{◌≡◌, ◌||◌, not, Bool, true, IsSomeAnd, List, [], ◌∷◌}
use Rattle.rdl_tree.specs.ItemAt.{item_at}
use Rattle.rdl_tree.specs.Items.{Items}
use Rattle.rdl_tree.specs.Patch.{patched}
use Rattle.rdl_tree.specs.declared.description.Item.{Item}
use Rattle.rdl_tree.specs.declared.description.Item.TheVariants.{Define, Instance}
use Rattle.rdl_tree.specs.declared.part.Part.{Part}
use Rattle.rdl_tree.specs.declared.part.Part.TheVariants.{OfShell, OfType, OfDefine}
use Rattle.rdl_tree.specs.declared.patch.Patch.{Patch}
use Rattle.rdl_tree.specs.declared.patch.Patch.TheVariants.{Insert, Delete, Shift, Exchange}
use Rattle.rdl_tree.specs.declared.shell.Shell.{Shell}
use Rattle.rdl_reach.specs.EditedBodies.{is_laid_out, is_layout_default}

-- ---- Patches.

-- an assignment or a default on which no layout depends
abbrev pub is_quiet : Item → Bool
is_quiet x = not (is_laid_out x || is_layout_default x)

-- two instances say the same of their place; their names and resets may differ
pub record SaysTheSame (s u : Shell) : Type 0 where
  pub dims : s.dims ≡ u.dims
  pub range : s.range ≡ u.range
  pub address : s.address ≡ u.address
  pub stride : s.stride ≡ u.stride
  pub align : s.align ≡ u.align

-- an instance says the same of its place with the new shell; a definition or a type may get another name; any other part is given to such an
-- assignment or default alone
abbrev pub IsQuietPart : Part → Item → Type 0
IsQuietPart (OfShell new) (Instance s o) = SaysTheSame s new
IsQuietPart (OfType new) (Instance s o) = Unit {0}
IsQuietPart (OfDefine new) (Define n c) = Unit {0}
IsQuietPart new x = is_quiet x ≡ true

-- such an assignment or default comes, goes or moves, or an item gets such a part
abbrev pub IsQuiet : Patch → Items → Type 0
IsQuiet (Insert at x) t = is_quiet x ≡ true
IsQuiet (Delete at) t = IsSomeAnd (item_at at t) (λ x. is_quiet x ≡ true)
IsQuiet (Shift at to) t = IsSomeAnd (item_at at t) (λ x. is_quiet x ≡ true)
IsQuiet (Exchange at new) t = IsSomeAnd (item_at at t) (IsQuietPart new)

-- from the first to the last
abbrev pub AreQuiet : List Patch → Items → Type 0
AreQuiet [] t = Unit {0}
AreQuiet (p ∷ ps) t = IsQuiet p t × AreQuiet ps (patched p t)
