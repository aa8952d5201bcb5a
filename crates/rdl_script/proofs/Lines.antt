-- Lines that are UTF-8, and lines that aren't.
use Rattle.std.proofs.Common.{◌≡◌, ℕ, Bool, true, false, not, List, refl, ap, ◌∙◌}
use Rattle.std.specs.Prelude.{IsUtf8, if◌then◌else◌}
use Rattle.std.specs.Str.{is_utf8}
use Rattle.std.proofs.lemmas.Str.{IsUtf8-from_is_utf8, is_utf8-from_IsUtf8}
use Rattle.rdl_script.specs.Commands.{nothing, refused, asked, is_silent, command_in}
use Rattle.rdl_script.specs.Verbs.{verb_of}
use Rattle.rdl_script.specs.Words.{first_word, behind_word}
use Rattle.rdl_script.specs.declared.request.CommandFault.TheVariants.{NotUtf8}

is_utf8-false : (bytes : List ℕ) → (IsUtf8 bytes → ⊥) → is_utf8 bytes ≡ false
is_utf8-false bytes h = elim (is_utf8 bytes) as (λ b. (b ≡ true → IsUtf8 bytes) → b ≡ false) [ true ↦ λ k. absurd (h (k refl)) | false ↦ λ k. refl ] (IsUtf8-from_is_utf8 bytes)

judged : (line : List ℕ) (utf8 : Bool) → is_silent line ≡ false → is_utf8 line ≡ utf8
    → command_in line ≡ (if not utf8 then refused NotUtf8 else asked (verb_of (first_word line)) (behind_word line))
unfolding command_in
judged line utf8 s u =
    ap (λ b. if b then nothing else if not (is_utf8 line) then refused NotUtf8 else asked (verb_of (first_word line)) (behind_word line)) s
    ∙ ap (λ b. if not b then refused NotUtf8 else asked (verb_of (first_word line)) (behind_word line)) u

pub command_in-not_utf8 : (line : List ℕ) → is_silent line ≡ false → (IsUtf8 line → ⊥) → command_in line ≡ refused NotUtf8
command_in-not_utf8 line s u = judged line false s (is_utf8-false line u)

pub command_in-utf8 : (line : List ℕ) → is_silent line ≡ false → IsUtf8 line → command_in line ≡ asked (verb_of (first_word line)) (behind_word line)
command_in-utf8 line s u = judged line true s (is_utf8-from_IsUtf8 line u)
