-- The bytes of a name, whether it holds them in itself or not.
-- own: no part of what a name is.
use Rattle.std.specs.Prelude.{ℕ, List, string_bytes}
use Rattle.rdl_text.specs.declared.name.Text.{Text}
use Rattle.rdl_text.specs.declared.name.Text.TheVariants.{Short, Long}

abbrev pub text_bytes : Text → List ℕ
text_bytes (Short t) = t.bytes
text_bytes (Long t) = string_bytes t
