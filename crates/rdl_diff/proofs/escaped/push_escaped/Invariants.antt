use Rattle.std.proofs.Common.{◌≡◌, ◌++◌, string_bytes}
use Rattle.std.specs.Prelude.{encode_utf8_all}
use Rattle.rdl_diff.specs.Escaped.{escaped}
use Rattle.rdl_diff.proofs.escaped.push_escaped.Given as goal

abbrev pub invariant-chars : goal.invariant-chars
invariant-chars l = string_bytes l.text ≡ string_bytes l.initial.text ++ escaped (encode_utf8_all l.yielded)
