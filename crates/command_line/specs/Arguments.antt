-- The arguments of the programs as `clap` sees them: two operands, and eight options or five. Own.
use Rattle.std.specs.Prelude.{[], ◌∷◌, Some, true, codes, pos}
use Rattle.clap.specs.Words.{App, Rule, Text, new_app, new_rule, with_rule}
use Rattle.clap.specs.declared.builder.action.ArgAction.TheVariants.{Set, SetTrue}
use Rattle.clap.specs.declared.builder.value_parser.ValueParser.TheVariants as parser

-- MAP and SCRIPT, or OLD and NEW, known by their places
abbrev pub operand_rule : Text → Rule
operand_rule id = record (new_rule id) { action = Some Set; required = true; value_names = 1 }

-- --rdl OUT and --header OUT, which have to be there
abbrev pub output_rule : Text → Rule
output_rule id = record (new_rule id) { long = Some id; action = Some Set; required = true; value_names = 1 }

-- --top NAME
abbrev pub top_rule : Rule
top_rule = record (new_rule (codes "top")) { long = Some (codes "top"); action = Some Set; value_names = 1 }

-- --ignore PROP,..
abbrev pub ignore_rule : Rule
ignore_rule = record (new_rule (codes "ignore")) { long = Some (codes "ignore"); action = Some Set; value_names = 1 }

-- --format FORMAT
abbrev pub format_rule : Rule
format_rule = record (new_rule (codes "format")) { long = Some (codes "format"); action = Some Set; value_names = 1 }

-- --history N, a number from 1 to 1,000,000
abbrev pub history_rule : Rule
history_rule = record (new_rule (codes "history")) {
  long = Some (codes "history");
  action = Some Set;
  value_names = 1;
  defaults = codes "10000" ∷ [];
  parser = Some (parser.Signed (pos 1) (pos 1000000));
}

-- --edited OUT and --session OUT
abbrev pub optional_output_rule : Text → Rule
optional_output_rule id = record (new_rule id) { long = Some id; action = Some Set; value_names = 1 }

-- --strict, --quiet, --each and --breaking, which have no value
abbrev pub switch_rule : Text → Rule
switch_rule id = record (new_rule id) { long = Some id; action = Some SetTrue }

-- the words don't begin with the program's name
abbrev pub without_name : App → App
without_name a = record a { top = record a.top { no_binary_name = true } }

-- `--version` is understood
abbrev pub with_version : App → App
with_version a = record a { top = record a.top { has_version = true } }

-- a program of this name with two arguments
abbrev pub program_with : Text → (first second : Rule) → App
program_with name first second = with_rule (with_rule (with_version (without_name (new_app name))) first) second

unfoldable pub regedit_command : App
regedit_command = with_rule (with_rule (with_rule (with_rule (with_rule (with_rule (with_rule (with_rule (program_with (codes "regedit") (operand_rule (codes "map")) (operand_rule (codes "script")))
    (output_rule (codes "rdl"))) (output_rule (codes "header"))) (optional_output_rule (codes "edited"))) top_rule) history_rule) (optional_output_rule (codes "session"))) (switch_rule (codes "strict"))) (switch_rule (codes "quiet"))

unfoldable pub regdiff_command : App
regdiff_command = with_rule (with_rule (with_rule (with_rule (with_rule (program_with (codes "regdiff") (operand_rule (codes "old")) (operand_rule (codes "new")))
    top_rule) (switch_rule (codes "each"))) (switch_rule (codes "breaking"))) ignore_rule) format_rule
