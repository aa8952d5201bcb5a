-- The lines of macros as they are made, one behind the other, and, if it is noted, where their names stand in them. Own.
use Rattle.std.specs.Prelude.{ℕ, Bool, true, false, ◌+◌, ◌≤◌, List, [], ◌∷◌, ◌++◌, length, map, codes, slice_range}
use Rattle.std.specs.List.{flat_map}
use Rattle.std.specs.Str.{IsCharBoundary}
use Rattle.rdl_write.specs.Texts.{newline}
use Rattle.rdl_header.specs.declared.stretch.Stretch.{Stretch}
use Rattle.rdl_header.specs.HeaderText.{Macro, macro_line, guard_lines}

-- a text, whether the places of its macros' names are noted, and these places
pub record Lines : Type 0 where
  pub text : List ℕ
  pub are_noted : Bool
  pub names : List Stretch

-- the name behind the eight bytes `#define ` or `#ifndef ` of a line that begins at a place
abbrev pub name_at : (place : ℕ) → (name : List ℕ) → Stretch
name_at place name = record { start = place + 8; end = place + 8 + length name }

-- those of macros whose lines begin at a place
abbrev pub names_at : (place : ℕ) → List Macro → List Stretch
names_at place [] = []
names_at place (m ∷ ms) = name_at place m.name ∷ names_at (place + length (macro_line m)) ms

-- places, if they are noted
abbrev pub noted : Bool → List Stretch → List Stretch
noted true names = names
noted false names = []

-- the lines with those of macros behind them
unfoldable pub added : Lines → List Macro → Lines
added lines ms = record { text = lines.text ++ flat_map macro_line ms; are_noted = lines.are_noted; names = lines.names ++ noted lines.are_noted (names_at (length lines.text) ms) }

abbrev pub no_lines : (are_noted : Bool) → Lines
no_lines are_noted = record { text = []; are_noted = are_noted; names = [] }

-- the lines of a guard
unfoldable pub guarded : (are_noted : Bool) → Macro → Lines
guarded are_noted m = record { text = guard_lines m; are_noted = are_noted; names = noted are_noted (name_at 0 m.name ∷ []) }

-- the lines with the end of what is guarded behind them
unfoldable pub ended : Lines → Lines
ended lines = record { text = lines.text ++ codes "#endif" ++ newline; are_noted = lines.are_noted; names = lines.names }

-- those of a header; the first macro is the guard
abbrev pub header_lines : (are_noted : Bool) → List Macro → Lines
header_lines are_noted [] = no_lines are_noted
header_lines are_noted (m ∷ ms) = ended (added (guarded are_noted m) ms)

-- ---- The names.

-- a part that doesn't begin or end within a character
abbrev pub IsCut : (text : List ℕ) → Stretch → Type 0
IsCut text s = (s.start ≤ s.end) × IsCharBoundary text s.start × IsCharBoundary text s.end

-- the names that stand in a text, as macros without values
abbrev pub named : (text : List ℕ) → List Stretch → List Macro
named text names = map (λ s. record { name = slice_range text s.start s.end; value = [] }) names
