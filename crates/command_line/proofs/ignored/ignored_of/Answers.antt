use Rattle.std.proofs.Common.{codes, ◌≡◌, ◌∙◌, sym, ap, map, subst, Some, None}
use Rattle.std.proofs.lemmas.Result.{IfOk-weaker, IfErr-weaker}
use Rattle.clap.proofs.WalkLemmas.{first_value-rows}
use Rattle.clap.specs.Words.{found_of, rows_of}
use Rattle.rdl_tree.specs.Properties.{property_of}
use Rattle.command_line.specs.ComparisonWords.{ArePropertiesOf, RefusesFound}
use Rattle.command_line.specs.Faults.{value}
use Rattle.command_line.proofs.Unknown.{of_texts, refuses}
use Rattle.command_line.proofs.ignored.ignored_of.Goals as goal

pub returns-in_default-clause-ok : goal.returns-in_default-clause-ok
returns-in_default-clause-ok c =
    let found = found_of c.args.matches.now in
    let none : None ≡ value (codes "ignore") (rows_of found) = c.in_default.ensures ∙ first_value-rows found (codes "ignore") in
    subst (λ o. ArePropertiesOf o c.new.result.items) none c.new.ensures.items

pub returns-clause-ok : goal.returns-clause-ok
returns-clause-ok c =
    let found = found_of c.args.matches.now in
    let some : Some c.in-Some.text.now ≡ value (codes "ignore") (rows_of found) = c.in-Some.ensures ∙ first_value-rows found (codes "ignore") in
    IfOk-weaker c.properties_of.result _ _ (λ ps h. subst (λ o. ArePropertiesOf o ps.items) some (h ∙ ap (map (λ n. property_of n.now)) c.as_slice.ensures.value ∙ of_texts c.in_ok-names.names.items ∙ ap (map property_of) c.in_ok-names.ensures)) c.properties_of.ensures.ok

pub returns-clause-fault : goal.returns-clause-fault
returns-clause-fault c =
    let found = found_of c.args.matches.now in
    let rows = rows_of found in
    let some : Some c.in-Some.text.now ≡ value (codes "ignore") rows = c.in-Some.ensures ∙ first_value-rows found (codes "ignore") in
    let same = ap (map (λ n. n.now)) c.as_slice.ensures.value ∙ c.in_ok-names.ensures in
    IfErr-weaker c.properties_of.result _ _ (λ fault h. refuses (value (codes "ignore") rows) c.in-Some.text.now c.as_slice.result.now fault (RefusesFound rows) (λ bad. bad) tt (sym some) same h) c.properties_of.ensures.fault
