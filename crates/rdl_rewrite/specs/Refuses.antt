-- The refusal is the one that was to come, want of memory aside; or the description, or what was to come, nests too deep.
-- own: SystemRDL 2.0 has no edits.
use Rattle.std.specs.Prelude.{◌≡◌, ◌⊎◌, ◌<◌, Result, Ok, Err}
use Rattle.rdl_tree.specs.Items.{Items}
use Rattle.rdl_tree.specs.Depth.{depth}
use Rattle.rdl_tree.specs.Limits.{max_depth}
use Rattle.rdl_rewrite.specs.declared.edit.PatchRefusal.{PatchRefusal}
use Rattle.rdl_rewrite.specs.declared.edit.PatchRefusal.TheVariants.{NoSuchPath, ThroughNamedType, NoSuchSibling, NameTaken, Reserved, InUse, NotSet, NotAnInstance, NotAddable, TooDeep, Memory}

-- no part of the description says that it nests too deep
abbrev pub Refuses : Result Items PatchRefusal → PatchRefusal → Type 0
Refuses expected NoSuchPath = expected ≡ Err NoSuchPath
Refuses expected ThroughNamedType = expected ≡ Err ThroughNamedType
Refuses expected NoSuchSibling = expected ≡ Err NoSuchSibling
Refuses expected NameTaken = expected ≡ Err NameTaken
Refuses expected Reserved = expected ≡ Err Reserved
Refuses expected InUse = expected ≡ Err InUse
Refuses expected NotSet = expected ≡ Err NotSet
Refuses expected NotAnInstance = expected ≡ Err NotAnInstance
Refuses expected NotAddable = expected ≡ Err NotAddable
Refuses expected TooDeep = ⊥
Refuses expected Memory = Unit {0}

-- what was to come is a description that nests over 16 deep
pub record MakesTooDeep (expected : Result Items PatchRefusal) : Type 0 where
  pub new : Items
  pub made : expected ≡ Ok new
  pub deep : max_depth < depth new

-- the description nests over 16 deep, or what was to come does
pub record IsTooDeep (whole : Items) (expected : Result Items PatchRefusal) (refusal : PatchRefusal) : Type 0 where
  pub refused : refusal ≡ TooDeep
  pub deep : (max_depth < depth whole) ⊎ MakesTooDeep expected

-- of an edit of this whole description
abbrev pub RefusesEdit : (whole : Items) → (expected : Result Items PatchRefusal) → PatchRefusal → Type 0
RefusesEdit whole expected refusal = Refuses expected refusal ⊎ IsTooDeep whole expected refusal
