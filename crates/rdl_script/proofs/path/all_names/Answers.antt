use Rattle.std.proofs.Common.{◌∙◌, sym, ap, Some, None, lit<}
use Rattle.std.proofs.lemmas.Str.Pattern.{split_once_first}
use Rattle.rdl_script.specs.Operands.{all_of, name_in, parts}
use Rattle.rdl_script.specs.declared.name.NameSort.TheVariants.{Any}
use Rattle.rdl_script.proofs.Splits.{IsCut, IsWhole, ahead, others_utf8, read-some, read-none, last-some, last-none}
use Rattle.rdl_script.proofs.path.all_names.Goals as goal

pub split_once-requires-text-self : goal.split_once-requires-text-self
split_once-requires-text-self c = λ lifetimes. c.parts.invariant.utf8

pub name_in-requires-2-text-text : goal.name_in-requires-2-text-text
name_in-requires-2-text-text c = λ lifetimes. c.parts.invariant.utf8

pub returns-in-None : goal.returns-in-None
returns-in-None c =
    let at = split_once_first 46 c.parts.rest.now (Some (c.in-Some.part, c.in-Some.others)) c.in-Some.ensures.cases (lit< tt) in
    let cut : IsCut 46 c.parts.rest.now c.in-Some.part.now c.in-Some.others.now = record { within = at.0; part = at.1; others = at.2 } in
    read-none (name_in Any) 46 c.parts.names.items _ _ _ _ cut (sym c.in_ok-name.ensures ∙ c.in-None.is) c.parts.invariant.told

pub parts-preserved : goal.parts-preserved
parts-preserved c =
    let at = split_once_first 46 c.parts.rest.now (Some (c.in-Some.part, c.in-Some.others)) c.in-Some.ensures.cases (lit< tt) in
    let cut : IsCut 46 c.parts.rest.now c.in-Some.part.now c.in-Some.others.now = record { within = at.0; part = at.1; others = at.2 } in
    record {
      utf8 = others_utf8 46 c.parts.rest.now _ _ (lit< tt) c.parts.invariant.utf8 cut;
      told =
          ap (λ xs. ahead xs (all_of (name_in Any) (parts 46 c.in-Some.others.now))) c.in_ok-push-in-Some-2.ensures.items
          ∙ read-some (name_in Any) 46 c.parts.names.items _ _ _ c.in-Some-2.name _ cut (sym c.in_ok-name.ensures ∙ c.in-Some-2.is) c.parts.invariant.told;
    }

pub returns-in-None-2 : goal.returns-in-None-2
returns-in-None-2 c =
    let whole : IsWhole 46 c.parts.rest.now = split_once_first 46 c.parts.rest.now None c.in_default.ensures.cases (lit< tt) in
    last-none (name_in Any) 46 c.parts.names.items _ _ whole (sym c.in_ok-name-2.ensures ∙ c.in-None-2.is) c.parts.invariant.told

pub returns : goal.returns
returns c =
    let whole : IsWhole 46 c.parts.rest.now = split_once_first 46 c.parts.rest.now None c.in_default.ensures.cases (lit< tt) in
    ap Some c.in_ok-push-in-Some-3.ensures.items ∙ last-some (name_in Any) 46 c.parts.names.items _ c.in-Some-3.name _ whole (sym c.in_ok-name-2.ensures ∙ c.in-Some-3.is) c.parts.invariant.told
