-- What the lines of a session mean, computed; None where they mean nothing.
-- Own.
use Rattle.std.specs.Prelude.{ℕ, Bool, true, false, ◌&&◌, nat_le, if◌then◌else◌, List, [], ◌∷◌, length, Option, None, Some, option_map, Result, Ok, Err, codes, bytes_eq}
use Rattle.std.specs.Str.{is_utf8}
use Rattle.rdl_text.specs.Name.{is_identifier}
use Rattle.rdl_tree.specs.Items.{Items}
use Rattle.rdl_session.specs.Text.{PatchLines, SessionLines, insert, delete, shift, shell, value, target, type, name}
use Rattle.rdl_tree.specs.declared.description.Item.{Item}
use Rattle.rdl_tree.specs.declared.description.Item.TheVariants.{Instance, Own, Dynamic}
use Rattle.rdl_tree.specs.declared.description.Of.TheVariants.{Named}
use Rattle.rdl_tree.specs.declared.part.Part.{Part}
use Rattle.rdl_tree.specs.declared.part.Part.TheVariants.{OfShell, OfValue, OfTarget, OfType, OfDefine}
use Rattle.rdl_tree.specs.declared.patch.Patch.{Patch}
use Rattle.rdl_tree.specs.declared.patch.Patch.TheVariants.{Insert, Delete, Shift, Exchange}
use Rattle.rdl_tree.specs.declared.value.Value.{Value}
use Rattle.rdl_tree.specs.declared.value.Value.TheVariants.{Bool as Boolean}
use Rattle.rdl_parse.specs.Class.{class}
use Rattle.rdl_parse.specs.FirstFault.{Parsed, parse_reading, item_reading}
use Rattle.rdl_session.specs.Reading.{◌>>=◌, lines_in}
use Rattle.rdl_parse.specs.declared.class.Class.{Class}
use Rattle.rdl_parse.specs.declared.class.Class.TheVariants as classes
use Rattle.rdl_parse.specs.declared.fault.ParseFault.{ParseFault}

-- ---- Texts and names.

abbrev pub described : Result Parsed ParseFault → Option Items
described (Ok p) = Some p.0
described (Err f) = None

abbrev pub one_of : List Item → Option Item
one_of (x ∷ []) = Some x
one_of xs = None

abbrev pub one_read : Result (List Item) ParseFault → Option Item
one_read (Ok xs) = one_of xs
one_read (Err f) = None

unfoldable pub map_of : List ℕ → Option Items
map_of bytes = if is_utf8 bytes then described (parse_reading bytes) else None

unfoldable pub item_of : List ℕ → Option Item
item_of bytes = if is_utf8 bytes then one_read (item_reading bytes) else None

abbrev pub is_free : Class → Bool
is_free classes.Name = true
is_free _ = false

unfoldable pub name_of : List ℕ → Option (List ℕ)
name_of bytes = if nat_le (length bytes) 255 && (is_identifier bytes && is_free (class bytes)) then Some bytes else None

-- ---- Patches.

abbrev pub if_named : {A : Type 0} → (word : List ℕ) → List ℕ → A → Option A
if_named word n x = if bytes_eq n word then Some x else None

abbrev pub shell_of : Item → Option Part
shell_of (Instance s (Named n)) = if_named (codes "T") n (OfShell s)
shell_of x = None

abbrev pub value_of : Item → Option Part
value_of (Own p v) = if_named (codes "p") p (OfValue v)
value_of x = None

abbrev pub is_true : Value → Bool
is_true (Boolean b) = b
is_true v = false

abbrev pub target_of : Item → Option Part
target_of (Dynamic t p v) = if is_true v then if_named (codes "p") p (OfTarget t) else None
target_of x = None

abbrev pub exchanged : List ℕ → Option Part → Option Patch
exchanged at part = option_map (Exchange at) part

unfoldable pub patch_of : PatchLines → Option Patch
patch_of (insert at text) = option_map (Insert at) (item_of text)
patch_of (delete at) = Some (Delete at)
patch_of (shift at to) = Some (Shift at to)
patch_of (shell at text) = exchanged at (item_of text >>= shell_of)
patch_of (value at text) = exchanged at (item_of text >>= value_of)
patch_of (target at text) = exchanged at (item_of text >>= target_of)
patch_of (type at new) = exchanged at (option_map OfType (name_of new))
patch_of (name at new) = exchanged at (option_map OfDefine (name_of new))

-- ---- Sessions.

-- what each of them is, if each is something
abbrev pub all_of : {A B : Type 0} → (A → Option B) → List A → Option (List B)
all_of f [] = Some []
all_of f (x ∷ xs) = f x >>= λ y. option_map (λ ys. y ∷ ys) (all_of f xs)

abbrev pub Session : Type 0
Session = Items × List (List Patch) × List (List Patch)

unfoldable pub meaning_of : SessionLines → Option Session
meaning_of s = map_of s.map >>= λ d. all_of (all_of patch_of) s.undo >>= λ undo. option_map (λ redo. (d, undo, redo)) (all_of (all_of patch_of) s.redo)

unfoldable pub session_of : List ℕ → Option Session
session_of text = lines_in text >>= meaning_of
