-- The first bytes of a word say which mark it is.
use Rattle.std.proofs.Common.{◌≡◌, ℕ, ◌+◌, List, Option, sym, ◌∙◌, ap}
use Rattle.std.specs.Prelude.{slice_index}
use Rattle.rdl_text.specs.Rows.{short_mark}
use Rattle.rdl_text.specs.declared.token.Mark.{Mark}
use Rattle.rdl_text.proofs.Standing.{mark_at_place, either}
use Rattle.rdl_text.proofs.cut.mark_at.Goals as goal

pub returns-in-Some : goal.returns-in-Some
returns-in-Some c =
    let first = c.byte_at-first.ensures ∙ ap (λ (s : List ℕ). slice_index s c.args.start) c.as_bytes.ensures.value in
    let second = c.byte_at.ensures ∙ ap (λ (s : List ℕ). slice_index s (c.args.start + 1)) c.as_bytes-2.ensures.value in
    let is = mark_at_place c.args.text.now c.args.start _ _ _ c.requires first second c.long_mark.ensures in
    sym (is ∙ ap (λ (o : Option Mark). either o (short_mark c.byte_at-first.result)) c.in-Some.is)

pub returns-in-None : goal.returns-in-None
returns-in-None c =
    let first = c.byte_at-first.ensures ∙ ap (λ (s : List ℕ). slice_index s c.args.start) c.as_bytes.ensures.value in
    let second = c.byte_at.ensures ∙ ap (λ (s : List ℕ). slice_index s (c.args.start + 1)) c.as_bytes-2.ensures.value in
    let is = mark_at_place c.args.text.now c.args.start _ _ _ c.requires first second c.long_mark.ensures in
    c.short_mark.ensures ∙ sym (is ∙ ap (λ (o : Option Mark). either o (short_mark c.byte_at-first.result)) c.in-None.is)
