use Rattle.std.proofs.Common.{◌≡◌, ◌++◌, string_bytes}
use Rattle.std.specs.Prelude.{encode_utf8_all}
use Rattle.rdl_diff.specs.Markdown.{spanned}
use Rattle.rdl_diff.proofs.markdown.push_shown.Given as goal

abbrev pub invariant-chars : goal.invariant-chars
invariant-chars l = string_bytes l.text ≡ string_bytes l.initial.text ++ spanned (encode_utf8_all l.yielded)
