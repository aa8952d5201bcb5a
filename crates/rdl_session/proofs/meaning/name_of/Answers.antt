use Rattle.std.proofs.Common.{◌≡◌, true, false, Some, sym, ap, ◌∙◌, subst}
use Rattle.rdl_text.specs.Name.{IsName}
use Rattle.rdl_parse.specs.Class.{class}
use Rattle.rdl_session.specs.Meaning.{is_free}
use Rattle.rdl_session.proofs.Meant.{name-none, name-utf8, name-again, free-is}
use Rattle.rdl_session.proofs.meaning.name_of.Goals as goal

pub returns-in_default : goal.returns-in_default
returns-in_default c = name-none c.args.bytes.now (λ h. c.in_default.ensures.cases.0 (name-utf8 c.args.bytes.now h.name))

pub returns-then-not-is_free : goal.returns-then-not-is_free
returns-then-not-is_free c =
    let reserved : is_free (class c.args.bytes.now) ≡ false = sym (ap is_free (c.of.ensures ∙ ap class c.in-Ok.ensures.cases.0)) ∙ sym c.is_free.ensures ∙ c.if-not-is_free.true in
    name-none c.args.bytes.now (λ h. let other : true ≡ false = sym (ap is_free h.free) ∙ reserved in cc)

pub returns-in-Ok-new : goal.returns-in-Ok-new
returns-in-Ok-new c =
    let free : is_free (class c.args.bytes.now) ≡ true = sym (ap is_free (c.of.ensures ∙ ap class c.in-Ok.ensures.cases.0)) ∙ sym c.is_free.ensures ∙ c.if-not-is_free.false in
    let same : c.in-Ok-new.name ≡ c.args.bytes.now = c.in-Ok-new.ensures.ok ∙ c.in-Ok.ensures.cases.0 in
    ap (λ n. Some n) same
    ∙ sym (name-again c.args.bytes.now (record { name = subst IsName same c.in-Ok-new.ensures.is_name; free = free-is (class c.args.bytes.now) free }))

pub returns-in-Err-NotSuch : goal.returns-in-Err-NotSuch
returns-in-Err-NotSuch c =
    name-none c.args.bytes.now (λ h. c.in-Err-NotSuch.ensures.not_such c.in-Err-NotSuch.field-0-is (subst IsName (sym c.in-Ok.ensures.cases.0) h.name))
