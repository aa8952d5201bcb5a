-- What a text spells as a session: it is the text of lines in which the map's text spells the description, and the text of
-- each item exactly that item. Own.
use Rattle.std.specs.Prelude.{◌≡◌, ℕ, ◌≤◌, ◌<◌, ◌^◌, List, [], ◌∷◌, length, All, IsUtf8}
use Rattle.rdl_text.specs.Name.{IsName}
use Rattle.rdl_tree.specs.Items.{Items}
use Rattle.rdl_tree.specs.Limits.{IsWithinLimits}
use Rattle.rdl_session.specs.Text.{PatchLines, SessionLines, insert, delete, shift, shell, value, target, type, name, shell_item, value_item, target_item, session_text, max_session}
use Rattle.rdl_tree.specs.View.{items_of}
use Rattle.rdl_tree.specs.declared.description.Item.{Item}
use Rattle.rdl_tree.specs.declared.part.Part.TheVariants.{OfShell, OfValue, OfTarget, OfType, OfDefine}
use Rattle.rdl_tree.specs.declared.patch.Patch.{Patch}
use Rattle.rdl_tree.specs.declared.patch.Patch.TheVariants.{Insert, Delete, Shift, Exchange}
use Rattle.rdl_parse.specs.Class.{class}
use Rattle.rdl_parse.specs.Parsing.{SpellsText, SpellsItemText}
use Rattle.rdl_parse.specs.Places.{Located}
use Rattle.rdl_parse.specs.declared.class.Class.TheVariants.{Name}

-- ---- The parts of a patch.

-- the address of an item: at most 17 numbers of 64 bits, and at least one
pub record IsItemAddress (at : List ℕ) : Type 0 where
  pub some : 0 < length at
  pub short : length at ≤ 17
  pub fits : All (λ n. n < 2 ^ 64) at

-- an identifier that isn't reserved
pub record IsFreeName (bytes : List ℕ) : Type 0 where
  pub name : IsName bytes
  pub free : class bytes ≡ Name

-- the text is exactly one statement, which stands for this one item
pub record SpellsItem (text : List ℕ) (x : Item) : Type 0 where
  pub utf8 : IsUtf8 text
  pub spelled : SpellsItemText text (x ∷ [])
  pub within : IsWithinLimits (items_of (x ∷ []))

-- ---- Patches, steps, and the session.

abbrev pub SpellsPatch : PatchLines → Patch → Type 0
SpellsPatch (insert at text) (Insert place x) = IsItemAddress at × (place ≡ at) × SpellsItem text x
SpellsPatch (delete at) (Delete place) = IsItemAddress at × (place ≡ at)
SpellsPatch (shift at to) (Shift place number) = IsItemAddress at × (place ≡ at) × (to < 2 ^ 64) × (number ≡ to)
SpellsPatch (shell at text) (Exchange place (OfShell s)) = IsItemAddress at × (place ≡ at) × SpellsItem text (shell_item s)
SpellsPatch (value at text) (Exchange place (OfValue v)) = IsItemAddress at × (place ≡ at) × SpellsItem text (value_item v)
SpellsPatch (target at text) (Exchange place (OfTarget t)) = IsItemAddress at × (place ≡ at) × SpellsItem text (target_item t)
SpellsPatch (type at new) (Exchange place (OfType n)) = IsItemAddress at × (place ≡ at) × IsFreeName new × (n ≡ new)
SpellsPatch (name at new) (Exchange place (OfDefine n)) = IsItemAddress at × (place ≡ at) × IsFreeName new × (n ≡ new)
SpellsPatch lines patch = ⊥

-- each of the first spells the one of the second that stands where it stands
abbrev pub SpellsEach : {X Y : Type 0} → (X → Y → Type 0) → List X → List Y → Type 0
SpellsEach spells [] [] = Unit {0}
SpellsEach spells (x ∷ xs) (y ∷ ys) = spells x y × SpellsEach spells xs ys
SpellsEach spells xs ys = ⊥

abbrev pub SpellsSteps : List (List PatchLines) → List (List Patch) → Type 0
SpellsSteps lines steps = SpellsEach (SpellsEach SpellsPatch) lines steps

pub record SpellsMap (text : List ℕ) (d : Items) : Type 0 where
  pub utf8 : IsUtf8 text
  pub places : Located
  pub spelled : SpellsText text d places
  pub within : IsWithinLimits d

pub record SpellsSession (text : List ℕ) (d : Items) (undo redo : List (List Patch)) : Type 0 where
  pub lines : SessionLines
  pub text_is : text ≡ session_text lines
  pub short : length text ≤ max_session
  pub spells_map : SpellsMap lines.map d
  pub spells_undo : SpellsSteps lines.undo undo
  pub spells_redo : SpellsSteps lines.redo redo
