-- The words of one statement, from the word k on, which begins at a byte, up to the semicolon that is the word j at a byte, as they are read: with what stands between its braces, if it has any.
-- own: SystemRDL 2.0 says nothing of what stands around statements.
use Rattle.std.specs.Prelude.{◌≡◌, ℕ, ◌+◌, List, [], Option, Some, None}
use Rattle.rdl_text.specs.Rows.{byte}
use Rattle.rdl_text.specs.Word.{Word}
use Rattle.rdl_parse.specs.declared.places.ItemPlace.{ItemPlace}
use Rattle.rdl_parse.specs.Places.{inside_first}
use Rattle.rdl_source.specs.declared.gap.Left.TheVariants as left
use Rattle.rdl_source.specs.declared.statement.Inner.{Inner}
use Rattle.rdl_source.specs.LaidOut.{Closes, Opens, Lie}

abbrev pub IsWorded : List ℕ → List Word → List ItemPlace → Option Inner → (from k j at : ℕ) → Type 0
IsWorded source ws ps None from k j at = Closes source ws from k j at × (inside_first ps ≡ [])
IsWorded source ws ps (Some i) from k j at =
    (o : ℕ) × (brace : ℕ) × Opens source ws from k o brace
    × (c : ℕ) × Lie source ws i.body left.Word (brace + 1) i.open (o + 1) (inside_first ps) i.close c × (byte source i.close ≡ 125)
    × Closes source ws i.close (c + 1) j at
