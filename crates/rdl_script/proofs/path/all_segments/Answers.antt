use Rattle.std.proofs.Common.{◌∙◌, sym, ap, Some, None, lit<}
use Rattle.std.proofs.lemmas.Str.Pattern.{split_once_first}
use Rattle.rdl_script.specs.Operands.{all_of, segment_in, parts}
use Rattle.rdl_script.proofs.Splits.{IsCut, IsWhole, ahead, others_utf8, read-some, read-none, last-some, last-none}
use Rattle.rdl_script.proofs.path.all_segments.Goals as goal

pub split_once-requires-text-self : goal.split_once-requires-text-self
split_once-requires-text-self c = λ lifetimes. c.parts.invariant.utf8

pub segment_in-requires-2-text-text : goal.segment_in-requires-2-text-text
segment_in-requires-2-text-text c = λ lifetimes. c.parts.invariant.utf8

pub returns-in-None : goal.returns-in-None
returns-in-None c =
    let at = split_once_first 47 c.parts.rest.now (Some (c.in-Some.part, c.in-Some.others)) c.in-Some.ensures.cases (lit< tt) in
    let cut : IsCut 47 c.parts.rest.now c.in-Some.part.now c.in-Some.others.now = record { within = at.0; part = at.1; others = at.2 } in
    read-none segment_in 47 c.parts.path _ _ _ _ cut (sym c.in_ok-segment.ensures ∙ c.in-None.is) c.parts.invariant.told

pub parts-preserved : goal.parts-preserved
parts-preserved c =
    let at = split_once_first 47 c.parts.rest.now (Some (c.in-Some.part, c.in-Some.others)) c.in-Some.ensures.cases (lit< tt) in
    let cut : IsCut 47 c.parts.rest.now c.in-Some.part.now c.in-Some.others.now = record { within = at.0; part = at.1; others = at.2 } in
    record {
      utf8 = others_utf8 47 c.parts.rest.now _ _ (lit< tt) c.parts.invariant.utf8 cut;
      told =
          ap (λ xs. ahead xs (all_of segment_in (parts 47 c.in-Some.others.now))) c.in_ok-push-in-Some-2.ensures.after
          ∙ read-some segment_in 47 c.parts.path _ _ _ c.in-Some-2.segment _ cut (sym c.in_ok-segment.ensures ∙ c.in-Some-2.is) c.parts.invariant.told;
    }

pub returns-in-None-2 : goal.returns-in-None-2
returns-in-None-2 c =
    let whole : IsWhole 47 c.parts.rest.now = split_once_first 47 c.parts.rest.now None c.in_default.ensures.cases (lit< tt) in
    last-none segment_in 47 c.parts.path _ _ whole (sym c.in_ok-segment-2.ensures ∙ c.in-None-2.is) c.parts.invariant.told

pub returns : goal.returns
returns c =
    let whole : IsWhole 47 c.parts.rest.now = split_once_first 47 c.parts.rest.now None c.in_default.ensures.cases (lit< tt) in
    ap Some c.in_ok-push-in-Some-3.ensures.after ∙ last-some segment_in 47 c.parts.path _ c.in-Some-3.segment _ whole (sym c.in_ok-segment-2.ensures ∙ c.in-Some-3.is) c.parts.invariant.told
