-- The second byte says which rows have no word.
use Rattle.std.proofs.Common.{◌≡◌, ◌⊎◌, ℕ, Option, inl, inr, sym, ◌∙◌, ap, subst}
use Rattle.std.specs.Option.{option_map}
use Rattle.rdl_text.specs.Front.{judged_front}
use Rattle.rdl_text.specs.Piece.{Candidate}
use Rattle.rdl_text.specs.Rows.{byte}
use Rattle.rdl_text.specs.Words.{decimal, hexadecimal, verilog, longer}
use Rattle.rdl_text.proofs.Longest.{longer_none, no_second_x, no_width_x}
use Rattle.rdl_text.proofs.rows.longest_number.Goals as goal

pub returns-then-second-eq88-clause-word : goal.returns-then-second-eq88-clause-word
returns-then-second-eq88-clause-word c =
    let s = c.args.bytes.now in
    let is = sym c.byte_at-second.ensures in
    let second : (byte s 1 ≡ 120) ⊎ (byte s 1 ≡ 88) = elim c.if-second-eq88.either [ inl small ↦ inl (is ∙ small) | inr large ↦ inr (is ∙ large.1) ] in
    c.longer.ensures.word s
    ∙ (ap (λ (o : Option Candidate). longer o (option_map (judged_front s) c.hexadecimal.result)) c.decimal.ensures.word
    ∙ ap (longer (decimal s)) (c.hexadecimal.ensures.word ∙ sym (ap (longer (hexadecimal s)) (no_width_x s second) ∙ longer_none (hexadecimal s))))

pub returns-else-second-eq88-clause-word : goal.returns-else-second-eq88-clause-word
returns-else-second-eq88-clause-word c =
    let s = c.args.bytes.now in
    let is = c.byte_at-second.ensures in
    let none = no_second_x s (λ e. c.if-second-eq88.false.0 (is ∙ e)) (λ e. c.if-second-eq88.false.1 (is ∙ e)) in
    c.longer-else-second-eq88.ensures.word s
    ∙ (ap (λ (o : Option Candidate). longer o (option_map (judged_front s) c.verilog.result)) c.decimal-else-second-eq88.ensures.word
    ∙ ap (longer (decimal s)) (c.verilog.ensures.word ∙ sym (ap (λ (o : Option Candidate). longer o (verilog s)) none)))
