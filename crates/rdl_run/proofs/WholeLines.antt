-- The messages of a script are whole lines.
use Rattle.std.proofs.Common.{◌≡◌, inl, inr, ℕ, ◌+◌, ◌-◌, List, [], ◌∷◌, ◌++◌, codes, refl, sym, ap, ◌∙◌, subst, append_assoc, append-nil}
use Rattle.std.specs.Fmt.{decimal}
use Rattle.rdl_elab.specs.Layouts.{number_in}
use Rattle.rdl_elab.specs.Reaches.{value_under}
use Rattle.rdl_elab.specs.declared.layout.Span.{Span}
use Rattle.rdl_elab.specs.declared.row.Location.{Location}
use Rattle.rdl_elab.specs.declared.row.Location.TheVariants.{Bytes, Bits}
use Rattle.rdl_elab.specs.declared.row.Row.{Row}
use Rattle.rdl_list.specs.ListText.{path_text, reset_text, head_text, extent_text, span_text, bits_line, line_at, list_lines}
use Rattle.rdl_script.specs.Commands.{Command, nothing, undo, redo, list, edit, add, refused, command_of}
use Rattle.rdl_tree.specs.declared.property.Property.TheVariants.{Reset}
use Rattle.rdl_write.specs.Texts.{newline}
use Rattle.rdl_run.specs.Answers.{History', Answers, Run, messages_from}
use Rattle.rdl_run.specs.Faulted.{EndsLine, IsWholeLines}
use Rattle.rdl_run.specs.Known.{concat}
use Rattle.rdl_run.specs.Messages.{reply_text, line_refusal_text}
use Rattle.rdl_run.specs.Replies.{Said, done, listed, not_done}
use Rattle.rdl_run.specs.declared.reply.LineRefusal.{LineRefusal}

ended : (text : List ℕ) → EndsLine (text ++ newline)
ended text = record { before = text; ends = refl }

ends-behind : (text more : List ℕ) → EndsLine more → EndsLine (text ++ more)
ends-behind text more e = record { before = text ++ e.before; ends = ap (λ (t : List ℕ). text ++ t) e.ends ∙ sym (append_assoc text e.before newline) }

whole-append : (a b : List ℕ) → IsWholeLines a → IsWholeLines b → IsWholeLines (a ++ b)
whole-append a b p (inl e) = subst IsWholeLines (sym (ap (λ (t : List ℕ). a ++ t) e ∙ append-nil a)) p
whole-append a b p (inr e) = inr (ends-behind a b e)

-- ---- The lines of rows.

bits-ends : (path : List ℕ) (row : Row) (span : Span) → EndsLine (bits_line path row span)
unfolding bits_line
bits-ends path row span = ended (span_text span ++ codes " field " ++ path ++ reset_text (number_in (value_under Reset row.values)))

line-ends : (path : List ℕ) (row : Row) (place : Location) → EndsLine (line_at path row place)
line-ends path row (Bytes extent) = ended (head_text path row ++ extent_text extent)
line-ends path row (Bits span) = bits-ends path row span

rows-whole : (rows : List Row) → IsWholeLines (list_lines rows)
rows-whole [] = inl refl
rows-whole (row ∷ rows) = whole-append (line_at (path_text row.names) row row.location) (list_lines rows) (inr (line-ends (path_text row.names) row row.location)) (rows-whole rows)

-- ---- Replies.

refusal-whole : (number : ℕ) (refusal : LineRefusal) → IsWholeLines (reply_text number (not_done refusal))
unfolding reply_text
refusal-whole number refusal = inr (ended (codes "script:" ++ decimal number ++ codes ": " ++ line_refusal_text refusal))

done-whole : (number : ℕ) → IsWholeLines (reply_text number done)
unfolding reply_text
done-whole number = inl refl

rows-listed : (number : ℕ) (text : List ℕ) (rows : List Row) → text ≡ list_lines rows → IsWholeLines (reply_text number (listed text))
unfolding reply_text
rows-listed number text rows e = subst IsWholeLines (sym e) (rows-whole rows)

reply-whole : (old new : History') (c : Command) (r : Said) (number : ℕ) → Answers old c r new → IsWholeLines (reply_text number r)
reply-whole old new c done number a = done-whole number
reply-whole old new c (not_done refusal) number a = refusal-whole number refusal
reply-whole old new list (listed text) number a = rows-listed number text a.0.rows.laid_out.rows a.0.rows.lines
reply-whole old new nothing (listed text) number a = absurd a
reply-whole old new undo (listed text) number a = absurd a
reply-whole old new redo (listed text) number a = absurd a
reply-whole old new (edit e) (listed text) number a = absurd a
reply-whole old new (add path place items) (listed text) number a = absurd a.answers
reply-whole old new (refused fault) (listed text) number a = absurd a

pub run-whole : (old new : History') (ls : List (List ℕ)) (rs : List Said) (number : ℕ) → Run old ls rs new → IsWholeLines (concat (messages_from number rs))
run-whole old new [] [] number h = inl refl
run-whole old new (l ∷ ls) (r ∷ rs) number h =
    whole-append (reply_text number r) (concat (messages_from (number + 1) rs)) (reply-whole old h.0 (command_of l) r number h.1) (run-whole h.0 new ls rs (number + 1) h.2)
run-whole old new [] (r ∷ rs) number h = absurd h
run-whole old new (l ∷ ls) [] number h = absurd h
