-- At which word a fault of the words stands.
-- Own.
use Rattle.std.specs.Prelude.{◌≡◌, ◌≤◌, ℕ, suc, ◌+◌, List, [], ◌∷◌, ◌++◌, length, Option, Some, None}
use Rattle.rdl_text.specs.declared.token.Mark.TheVariants.{OpenBrace, CloseBrace, Semicolon}
use Rattle.rdl_tree.specs.Items.{count}
use Rattle.rdl_tree.specs.View.{items_of}
use Rattle.rdl_tree.specs.Weight.{weight}
use Rattle.rdl_tree.specs.declared.shell.Kind.{Kind}
use Rattle.rdl_tree.specs.declared.shell.Outside.{Outside}
use Rattle.rdl_tree.specs.declared.description.Item.{Item}
use Rattle.rdl_parse.specs.Symbol.{Symbol, kind, name, mark}
use Rattle.rdl_parse.specs.Spelling.{Statement, Statements, words, statement_words, outside_words, items, statement_items}
use Rattle.rdl_parse.specs.declared.fault.Fault.{Fault}
use Rattle.rdl_parse.specs.declared.fault.Fault.TheVariants.{Unexpected, End, TooDeep, TooLarge}
use Rattle.rdl_parse.specs.declared.room.Room.{Room}

-- ---- An unexpected word is one of the words; from it on there are so many words left.

pub record IsWord (ws : List Symbol) (left : ℕ) : Type 0 where
  pub before : List Symbol
  pub word : Symbol
  pub after : List Symbol
  pub parts : ws ≡ before ++ word ∷ after
  pub left_is : left ≡ length (word ∷ after)

-- ---- Too deep: at a brace with so many open before it.

abbrev pub opens : List Symbol → ℕ
opens [] = 0
opens (mark OpenBrace ∷ ws) = suc (opens ws)
opens (w ∷ ws) = opens ws

abbrev pub closes : List Symbol → ℕ
closes [] = 0
closes (mark CloseBrace ∷ ws) = suc (closes ws)
closes (w ∷ ws) = closes ws

pub record IsTooDeep (levels : ℕ) (ws : List Symbol) (left : ℕ) : Type 0 where
  pub before : List Symbol
  pub after : List Symbol
  pub parts : ws ≡ before ++ mark OpenBrace ∷ after
  pub left_is : left ≡ length (mark OpenBrace ∷ after)
  pub opened : opens before ≡ closes before + levels

-- ---- Too large: at the semicolon of the first finished statement for which there is no room.

-- a text up to the end of a statement: the finished statements of a body, and then one more, or a body that is still open
pub data Opened : Type 0 where
  last : (done : Statements) → (final : Statement) → Opened
  inside : (done : Statements) → Option Outside → Kind → (name : Option (List ℕ)) → (body : Opened) → Opened

abbrev pub name_words : Option (List ℕ) → List Symbol → List Symbol
name_words None after = after
name_words (Some n) after = name n ∷ after

abbrev pub opened_words : Opened → List Symbol → List Symbol
opened_words (last done final) after = words done (statement_words final after)
opened_words (inside done o k n body) after = words done (outside_words o (kind k ∷ name_words n (mark OpenBrace ∷ opened_words body after)))

-- the items of the finished statements, copies included, without the last statement
abbrev pub before_last : Opened → List Item
before_last (last done final) = items done
before_last (inside done o k n body) = items done ++ before_last body

-- and with it
abbrev pub with_last : Opened → List Item
with_last (last done final) = items done ++ statement_items final
with_last (inside done o k n body) = items done ++ with_last body

pub record HasRoom (room : Room) (xs : List Item) : Type 0 where
  pub few : count (items_of xs) ≤ room.items
  pub light : weight (items_of xs) ≤ room.weight

pub record IsTooLarge (room : Room) (ws : List Symbol) (left : ℕ) : Type 0 where
  pub opened : Opened
  pub after : List Symbol
  pub words_are : ws ≡ opened_words opened after
  pub left_is : left ≡ length (mark Semicolon ∷ after)
  pub fitted : HasRoom room (before_last opened)
  pub full : HasRoom room (with_last opened) → ⊥

abbrev pub Stands : ℕ → Room → List Symbol → Fault → Type 0
Stands levels room ws (Unexpected left) = IsWord ws left
Stands levels room ws End = Unit {0}
Stands levels room ws (TooDeep left) = IsTooDeep levels ws left
Stands levels room ws (TooLarge left) = IsTooLarge room ws left
