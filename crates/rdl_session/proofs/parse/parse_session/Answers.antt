use Rattle.std.proofs.Common.{◌≡◌, Some, None, refl, sym, ap, ◌∙◌, inr, arith}
use Rattle.std.specs.Prelude.{option_map}
use Rattle.rdl_session.specs.Meaning.{session_of}
use Rattle.rdl_session.specs.Seen.{seen_session}
use Rattle.rdl_session.proofs.Meant.{session-found, session-only, session-refused}
use Rattle.rdl_session.proofs.parse.parse_session.Goals as goal

pub returns-in-Ok-Some-clause-found : goal.returns-in-Ok-Some-clause-found
returns-in-Ok-Some-clause-found c =
    let is : session_of c.args.text.now ≡ Some (seen_session c.in-Ok-Some.session) = ap session_of (sym c.as_bytes.ensures.value) ∙ sym c.in-Ok-Some.ensures ∙ ap (option_map seen_session) c.in-Ok-Some.field-0-is in
    session-found c.args.text.now (seen_session c.in-Ok-Some.session) (omega (arith, c.if-text-gt-MAX_LEN.false)) is

pub returns-in-Ok-Some-clause-only : goal.returns-in-Ok-Some-clause-only
returns-in-Ok-Some-clause-only c =
    let is : session_of c.args.text.now ≡ Some (seen_session c.in-Ok-Some.session) = ap session_of (sym c.as_bytes.ensures.value) ∙ sym c.in-Ok-Some.ensures ∙ ap (option_map seen_session) c.in-Ok-Some.field-0-is in
    session-only c.args.text.now (seen_session c.in-Ok-Some.session) is

pub returns-in-Ok-None-clause-only : goal.returns-in-Ok-None-clause-only
returns-in-Ok-None-clause-only c =
    let none : session_of c.args.text.now ≡ None = ap session_of (sym c.as_bytes.ensures.value) ∙ sym c.in-Ok-None.ensures ∙ ap (option_map seen_session) c.in-Ok-None.field-0-is in
    λ d undo redo h. absurd (session-refused c.args.text.now none d undo redo h)

pub returns-in-Ok-None-clause-refused : goal.returns-in-Ok-None-clause-refused
returns-in-Ok-None-clause-refused c =
    let none : session_of c.args.text.now ≡ None = ap session_of (sym c.as_bytes.ensures.value) ∙ sym c.in-Ok-None.ensures ∙ ap (option_map seen_session) c.in-Ok-None.field-0-is in
    inr (refl, session-refused c.args.text.now none)
