-- What is the only one that there is, or isn't there.
-- own: SystemRDL 2.0 says nothing of what stands around statements.
use Rattle.std.specs.Prelude.{◌≡◌, ℕ, ◌+◌, List, Option, Some, None}
use Rattle.rdl_text.specs.Word.{Word}
use Rattle.rdl_source.specs.declared.span.Span.{Span}
use Rattle.rdl_source.specs.declared.gap.Left.{Left}
use Rattle.rdl_source.specs.declared.gap.Right.{Right}
use Rattle.rdl_source.specs.declared.lay.Body.{Body}
use Rattle.rdl_source.specs.declared.lay.Wording.{Wording}
use Rattle.rdl_source.specs.declared.statement.Inner.{Inner}
use Rattle.rdl_source.specs.Laid.{Laid, depth}
use Rattle.rdl_source.specs.LaidOut.{IsGap, IsStop}

-- behind a byte and before the word k stands no gap
abbrev pub NoGap : List ℕ → List Word → Left → (at k : ℕ) → Type 0
NoGap source ws l at k = (r : Right) (end to : ℕ) (float lead : Span) → IsGap source ws l r at k end to float lead → ⊥

-- no semicolon and no brace follows from the word k on
abbrev pub NoStop : List ℕ → List Word → (behind k : ℕ) → Type 0
NoStop source ws behind k = (j at : ℕ) → IsStop source ws behind k j at → ⊥

abbrev pub inside_depth : Option Inner → ℕ
inside_depth None = 0
inside_depth (Some i) = depth i.body + 1

-- the words of a statement that were read are those with this inside and this semicolon
abbrev pub IsWording : Option Wording → Option Inner → (j at : ℕ) → Type 0
IsWording None inside j at = ⊥
IsWording (Some w) inside j at = (w.inside ≡ inside) × (w.end.word ≡ j) × (w.end.at ≡ at)

-- the body that was read is this one
abbrev pub IsBody : Option Body → Laid → (begin close n : ℕ) → Type 0
IsBody None laid begin close n = ⊥
IsBody (Some b) laid begin close n = (b.statements ≡ laid) × (b.begin ≡ begin) × (b.close ≡ close) × (b.word ≡ n)
