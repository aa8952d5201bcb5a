-- Each piece ends inside the text, and its words and those behind it are the words from its place on.
use Rattle.std.proofs.Common.{◌≡◌, ℕ, ◌+◌, ◌-◌, List, [], ◌∷◌, ◌++◌, take, drop, map, Result, Ok, Err, sym, ◌∙◌, ap, subst, inr, arith}
use Rattle.std.proofs.lemmas.List.Elements.{All-nil}
use Rattle.std.proofs.lemmas.Str.{IsCharBoundary-start}
use Rattle.std.specs.List.{All}
use Rattle.rdl_text.specs.Standing.{Stands, word_at}
use Rattle.rdl_text.specs.Word.{Word, word}
use Rattle.rdl_text.specs.Words.{words, words_from, piece}
use Rattle.rdl_text.specs.Piece.{Gap, Word as Found}
use Rattle.rdl_text.specs.declared.piece.Span.{Span}
use Rattle.rdl_text.specs.declared.piece.Span.TheVariants as spans
use Rattle.rdl_text.specs.declared.token.TokenKind.{TokenKind}
use Rattle.rdl_text.proofs.Cutting.{Next, next, span_piece, span_gap, span_word, span_fault, step-gap, step-word, step-fault, step-end}
use Rattle.rdl_text.proofs.Following.{follow, follow_none}
use Rattle.rdl_text.specs.Spans.{AreSpans}
use Rattle.rdl_text.proofs.Spanning.{Spanned, spanned-none, spanned-gap, spanned-word}
use Rattle.rdl_text.proofs.Standing.{stand_more, words_more}
use Rattle.rdl_text.proofs.cut.tokens.Goals as goal

found_gap : (c : goal.In-Ok-Gap) → piece (drop c.pieces.at c.args.text.now) ≡ Ok (Gap c.in-Ok-Gap.len)
found_gap c =
    span_gap _ c.in-Ok-Gap.len (span_piece c.as_bytes.result.now c.args.text.now c.pieces.at _ c.as_bytes.ensures.value c.span_at.ensures ∙ (c.in-Ok-Gap.is ∙ ap Ok c.in-Ok-Gap.field-0-is))

next_gap : (c : goal.In-Ok-Gap) → Next c.args.text.now c.pieces.at c.in-Ok-Gap.len
next_gap c = next c.args.text.now c.pieces.at (Gap c.in-Ok-Gap.len) c.utf8.text c.pieces.invariant.within c.pieces.invariant.boundary (found_gap c)

found_word : (c : goal.In_ok-push-in-Ok-Word) → (kind : TokenKind) × (piece (drop c.pieces.at c.args.text.now) ≡ Ok (Found kind c.in-Ok-Word.len))
found_word c =
    span_word _ c.in-Ok-Word.len (span_piece c.as_bytes.result.now c.args.text.now c.pieces.at _ c.as_bytes.ensures.value c.span_at.ensures ∙ (c.in-Ok-Word.is ∙ ap Ok c.in-Ok-Word.field-0-is))

next_word : (c : goal.In_ok-push-in-Ok-Word) → Next c.args.text.now c.pieces.at c.in-Ok-Word.len
next_word c = next c.args.text.now c.pieces.at (Found (found_word c).0 c.in-Ok-Word.len) c.utf8.text c.pieces.invariant.within c.pieces.invariant.boundary (found_word c).1

pub pieces-init : goal.pieces-init
pieces-init c =
    let text = c.args.text.now in
    let none = sym c.in_ok-starts.ensures.items in
    record {
      within = omega arith;
      boundary = IsCharBoundary-start text c.utf8.text;
      all = subst (λ (starts : List ℕ). follow (map (word_at text) starts) (words_from 0 0 text) ≡ words text) none (follow_none (words text));
      spanned = subst (λ (starts : List ℕ). Spanned text 0 (map (word_at text) starts)) none (spanned-none text);
      stand = subst (λ (starts : List ℕ). All (Stands text) starts) none (All-nil (Stands text));
    }

pub overflow_add-at : goal.overflow_add-at
overflow_add-at c = let n = next_gap c in omega (arith, n.within, c.as_bytes.ensures.len)

pub pieces-smaller-in-Ok-Gap : goal.pieces-smaller-in-Ok-Gap
pieces-smaller-in-Ok-Gap c = let n = next_gap c in omega (arith, n.some, c.pieces-test.true)

pub pieces-preserved-in-Ok-Gap : goal.pieces-preserved-in-Ok-Gap
pieces-preserved-in-Ok-Gap c =
    let n = next_gap c in
    let found = map (word_at c.args.text.now) c.pieces.starts.items in
    record {
      within = n.within;
      boundary = n.boundary;
      all = step-gap found c.args.text.now c.pieces.at c.in-Ok-Gap.len (found_gap c) n c.pieces.invariant.all;
      spanned = spanned-gap c.args.text.now c.pieces.at c.in-Ok-Gap.len found c.pieces.invariant.spanned;
      stand = c.pieces.invariant.stand;
    }

pub overflow_add-at-in-Ok-Word : goal.overflow_add-at-in-Ok-Word
overflow_add-at-in-Ok-Word c = let n = next_word c in omega (arith, n.within, c.as_bytes.ensures.len)

pub pieces-smaller : goal.pieces-smaller
pieces-smaller c = let n = next_word c in omega (arith, n.some, c.pieces-test.true)

pub pieces-preserved : goal.pieces-preserved
pieces-preserved c =
    let text = c.args.text.now in
    let at = c.pieces.at in
    let len = c.in-Ok-Word.len in
    let kind = (found_word c).0 in
    let found = (found_word c).1 in
    let n = next_word c in
    let starts = c.pieces.starts.items in
    let old = map (word_at text) starts in
    let rest = words_from 0 (at + len) (drop (at + len) text) in
    let new = c.in_ok-push-in-Ok-Word.ensures.items in
    let more : map (word_at text) c.push.new.self.items ≡ old ++ (word kind at (take len (drop at text)) ∷ []) = ap (map (word_at text)) new ∙ words_more text starts at kind len found in
    record {
      within = n.within;
      boundary = n.boundary;
      all = ap (λ (ws : List Word). follow ws rest) more ∙ step-word old text at len kind found n c.pieces.invariant.all;
      spanned = subst (Spanned text (at + len)) (sym more) (spanned-word text at len kind old n c.pieces.invariant.spanned);
      stand = subst (All (Stands text)) (sym new) (stand_more text starts at c.pieces.invariant.stand (record { kind = kind; len = len; found = found; within = c.pieces.invariant.within; boundary = c.pieces.invariant.boundary }));
    }

pub returns-in-Err-clause-fault : goal.returns-in-Err-clause-fault
returns-in-Err-clause-fault c =
    let text = c.args.text.now in
    let e = span_fault _ c.in-Err.kind (span_piece c.as_bytes.result.now text c.pieces.at _ c.as_bytes.ensures.value c.span_at.ensures ∙ c.in-Err.is) in
    inr (step-fault (map (word_at text) c.pieces.starts.items) text c.pieces.at c.in-Err.kind c.pieces-test.true e c.pieces.invariant.all)

pub returns-clause-words : goal.returns-clause-words
returns-clause-words c =
    step-end (map (word_at c.args.text.now) c.pieces.starts.items) c.args.text.now c.pieces.at c.pieces-test.false c.pieces.invariant.all ∙ ap Ok (sym c.new.ensures)
