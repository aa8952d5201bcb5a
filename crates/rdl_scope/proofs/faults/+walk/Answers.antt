use Rattle.std.proofs.Common.{arith, length, drop, None, [], ◌∷◌, ◌++◌, ◌+◌, ◌-◌, ◌*◌, ◌<◌, ◌≡◌, refl, ap, sym, ◌∙◌, length-append}
use Rattle.std.proofs.lemmas.Bool.{eqb-true}
use Rattle.std.specs.Option.{option_copied}
use Rattle.rdl_tree.specs.View.{items_of}
use Rattle.rdl_tree.specs.Address.{body_at}
use Rattle.rdl_scope.specs.Walk.{found}
use Rattle.rdl_scope.specs.Scopes.{number_under, level_found}
use Rattle.rdl_scope.proofs.TargetKinds.{no-fault-at}
use Rattle.rdl_tree.proofs.Rests.{rest-all}
use Rattle.rdl_scope.specs.ItemFaults.{first_fault}
use Rattle.rdl_scope.proofs.Firsts.{ends_same, first-none, first_met, none_met, inside_met, no_some, none_there, nothing_inside, undefined_here, room_inside, empty_inside}
use Rattle.rdl_scope.proofs.Levelled.{scope-found, level-push, body-inside, item_got, definition-next}
use Rattle.rdl_scope.proofs.faults.+walk.Goals as goal

pub first_fault-returns-clause-fault : goal.first_fault-returns-clause-fault
first_fault-returns-clause-fault t c =
    let d = c.args.description.now.items in
    let body = c.args.body.now in
    sym (c.items.invariant.first
    ∙ ap (λ ys. first_fault d c.args.around c.args.at.now body c.items.i (items_of (drop c.items.i ys))) (sym c.as_slice-item-items.ensures)
    ∙ first-none d c.args.around c.args.at.now body c.items.i c.as_slice-item-items.result.now c.items-test.false)

pub component_fault-returns-in-Some-clause-levels :
    goal.component_fault-returns-in-Some-clause-levels
component_fault-returns-in-Some-clause-levels t c = λ none.
    let same = sym c.in-Some.ensures.items ∙ c.in_ok-fault.ensures.levels none ∙ c.in_ok-push.ensures.items in
    (ends_same c.pop.new.self.items c.args.levels.now.items c.in-Some.outer c.replace.result same).0

pub component_fault-returns-in-Some-clause-definitions :
    goal.component_fault-returns-in-Some-clause-definitions
component_fault-returns-in-Some-clause-definitions t c = λ none.
    let same = sym c.in-Some.ensures.items ∙ c.in_ok-fault.ensures.levels none ∙ c.in_ok-push.ensures.items in
    (ends_same c.pop.new.self.items c.args.levels.now.items c.in-Some.outer c.replace.result same).1 ∙ c.replace.ensures.value

pub first_fault-items-init : goal.first_fault-items-init
first_fault-items-init t c =
    let d = c.args.description.now.items in
    record {
      first = ap (first_fault d c.args.around c.args.at.now c.args.body.now 0) (sym (rest-all c.args.body.now));
      levels = refl;
      definitions = c.in_ok-definitions.ensures;
      passed = c.in_ok-passed.ensures d c.args.at.now c.args.body.now;
      met = tt;
    }

pub first_fault-item_fault-requires-clause-item : goal.first_fault-item_fault-requires-clause-item
first_fault-item_fault-requires-clause-item t c =
    item_got c.args.body.now c.items.i c.as_slice-item-items.result.now c.item-item.result c.as_slice-item-items.ensures c.items-test.true c.item-item.is

pub first_fault-item_fault-requires-clause-scope :
    goal.first_fault-item_fault-requires-clause-scope
first_fault-item_fault-requires-clause-scope t c = λ q.
    let same = c.as_slice-scope.ensures.value ∙ c.items.invariant.levels in
    scope-found c.as_slice-scope.result.now c.items.definitions c.args.at.now c.items.i c.args.description.now.items c.args.body.now q
    c.requires.here (ap length same ∙ c.requires.count) (ap (λ ls. level_found 0 ls q) same ∙ c.requires.scope q) (c.items.invariant.definitions q)

pub first_fault-returns-in-Some-clause-fault : goal.first_fault-returns-in-Some-clause-fault
first_fault-returns-in-Some-clause-fault t c =
    first_met c.args.description.now.items c.args.around c.args.at.now c.args.body.now c.items.i c.as_slice-item-items.result.now c.item-item.result c.in_ok-kind.kind c.in-Some.fault _
    c.as_slice-item-items.ensures c.items-test.true c.item-item.is c.in_ok-kind.ensures.fault c.in-Some.ensures c.items.invariant.first

pub first_fault-inside_fault-requires : goal.first_fault-inside_fault-requires
first_fault-inside_fault-requires t c =
    let room = room_inside c.args.at.now c.items.i c.args.body.now c.as_slice-item-items.result.now c.item-item.result (option_copied c.own_component-component.result)
    c.as_slice-item-items.ensures c.items-test.true c.item-item.is c.own_component-component.ensures c.requires.room in
    let got = item_got c.args.body.now c.items.i c.as_slice-item-items.result.now c.item-item.result c.as_slice-item-items.ensures c.items-test.true c.item-item.is in
    let less : 3 * (16 - length c.args.at.now) + 2 < t = omega (arith, c.decreases, c.requires.room) in (
      less,
      (
        c.requires.nesting,
        (
          room,
          (
            (λ k some. body-inside c.args.at.now c.items.i c.args.description.now.items c.args.body.now c.item-item.result k c.requires.here got (sym c.own_component-component.ensures ∙ some)),
            (
              ap length c.items.invariant.levels ∙ c.requires.count,
              (λ q. scope-found c.items.levels.items c.items.definitions c.args.at.now c.items.i c.args.description.now.items c.args.body.now q
                  c.requires.here (ap length c.items.invariant.levels ∙ c.requires.count) (ap (λ ls. level_found 0 ls q) c.items.invariant.levels ∙ c.requires.scope q) (c.items.invariant.definitions q)),
            ),
          ),
        ),
      ),
    )

pub first_fault-returns-in-Some-inside-clause-fault :
    goal.first_fault-returns-in-Some-inside-clause-fault
first_fault-returns-in-Some-inside-clause-fault t c =
    inside_met c.args.description.now.items c.args.around c.args.at.now c.args.body.now c.items.i c.as_slice-item-items.result.now c.item-item.result c.in_ok-kind.kind c.fault_at.result c.in_ok-inside.inside (option_copied c.own_component-component.result) c.in-Some-inside.fault _
    c.as_slice-item-items.ensures c.items-test.true c.item-item.is c.in_ok-kind.ensures.fault c.fault_at.ensures (no_some c.fault_at.result (λ f e. c.in_default.not-Some f e))
    c.own_component-component.ensures c.in_ok-inside.ensures.fault c.in-Some-inside.is c.items.invariant.first

pub first_fault-items-preserved-then-is_none :
    goal.first_fault-items-preserved-then-is_none
first_fault-items-preserved-then-is_none t c =
    let clear = no_some c.fault_at.result (λ f e. c.in_default.not-Some f e) in
    let absent = ap option_copied (none_there c.own_component-component.result c.is_none.result c.is_none.ensures c.if-is_none.true) in
    let got = item_got c.args.body.now c.items.i c.as_slice-item-items.result.now c.item-item.result c.as_slice-item-items.ensures c.items-test.true c.item-item.is in
    record {
      first = none_met c.args.description.now.items c.args.around c.args.at.now c.args.body.now c.items.i c.as_slice-item-items.result.now c.item-item.result c.in_ok-kind.kind c.fault_at.result None (option_copied c.own_component-component.result) _
          c.as_slice-item-items.ensures c.items-test.true c.item-item.is c.in_ok-kind.ensures.fault c.fault_at.ensures clear
          c.own_component-component.ensures (nothing_inside c.args.description.now.items (c.args.at.now ++ c.items.i ∷ []) _ absent) refl c.items.invariant.first;
      levels = c.items.invariant.levels;
      definitions = λ q.
          definition-next q c.items.i c.args.body.now c.item-item.result (number_under c.items.definitions q) (number_under c.items.definitions q) got
          (c.items.invariant.definitions q) (undefined_here c.item-item.result q c.items.i _ (sym c.own_component-component.ensures ∙ absent));
      passed = c.in_ok-kind.ensures.passed (no-fault-at (c.args.at.now ++ c.items.i ∷ []) c.in_ok-kind.kind c.fault_at.result c.fault_at.ensures clear);
      met = c.in_ok-kind.ensures.met;
    }

pub first_fault-items-preserved : goal.first_fault-items-preserved
first_fault-items-preserved t c =
    let none = no_some c.in_ok-inside.inside (λ f e. c.in_default-inside.not-Some f e) in
    let clear = no_some c.fault_at.result (λ f e. c.in_default.not-Some f e) in
    let got = item_got c.args.body.now c.items.i c.as_slice-item-items.result.now c.item-item.result c.as_slice-item-items.ensures c.items-test.true c.item-item.is in
    let stay : c.inside_fault.new.definitions ≡ c.items.definitions = c.in_ok-inside.ensures.definitions none in
    record {
      first = none_met c.args.description.now.items c.args.around c.args.at.now c.args.body.now c.items.i c.as_slice-item-items.result.now c.item-item.result c.in_ok-kind.kind c.fault_at.result c.in_ok-inside.inside (option_copied c.own_component-component.result) _
          c.as_slice-item-items.ensures c.items-test.true c.item-item.is c.in_ok-kind.ensures.fault c.fault_at.ensures clear
          c.own_component-component.ensures c.in_ok-inside.ensures.fault none c.items.invariant.first;
      levels = c.in_ok-inside.ensures.levels none ∙ c.items.invariant.levels;
      definitions = λ q.
          definition-next q c.items.i c.args.body.now c.item-item.result (number_under c.inside_fault.new.definitions q) (number_under c.put_definition.new.self q) got
          (ap (λ m. number_under m q) stay ∙ c.items.invariant.definitions q) (c.in_ok-put_definition.ensures q);
      passed = c.in_ok-kind.ensures.passed (no-fault-at (c.args.at.now ++ c.items.i ∷ []) c.in_ok-kind.kind c.fault_at.result c.fault_at.ensures clear);
      met = c.in_ok-kind.ensures.met;
    }

pub inside_fault-returns-then-is_empty-clause-fault :
    goal.inside_fault-returns-then-is_empty-clause-fault
inside_fault-returns-then-is_empty-clause-fault t c =
    empty_inside c.args.description.now.items (c.args.at.now ++ c.args.number ∷ []) (option_copied c.args.component) c.in-Some.component.now (ap option_copied c.in-Some.is)
    (eqb-true _ _ (sym c.is_empty.ensures ∙ c.if-is_empty.true))

pub component_fault-inside-address-requires : goal.component_fault-inside-address-requires
component_fault-inside-address-requires t c = omega (arith, c.requires.room)

pub component_fault-first_fault-requires : goal.component_fault-first_fault-requires
component_fault-first_fault-requires t c =
    let at = c.inside-address.ensures in
    let own : c.replace.result ≡ c.args.definitions.now = c.replace.ensures.value in
    let pushed : c.push.new.self.items ≡ c.args.levels.now.items ++ c.args.definitions.now ∷ [] = c.in_ok-push.ensures.items ∙ ap (λ m. c.args.levels.now.items ++ m ∷ []) own in
    let longer : length c.inside-address.result ≡ length c.args.at.now + 1 = ap length at ∙ simp length-append refl in
    let less : 3 * (17 - length c.inside-address.result) < t = omega (arith, c.decreases) in (
      less,
      (
        c.requires.nesting,
        (
          omega (arith, c.requires.room),
          (
            ap (λ a. body_at a c.args.description.now.items) at ∙ c.requires.here,
            (
              ap length pushed ∙ simp length-append (ap (λ n. n + 1) c.requires.count ∙ sym longer),
              (λ q. ap (λ ls. level_found 0 ls q) pushed ∙ level-push c.args.levels.now.items c.args.definitions.now q ∙ c.requires.scope q ∙ ap (λ a. found a c.args.description.now.items q) (sym at)),
            ),
          ),
        ),
      ),
    )

pub inside_fault-component_fault-requires : goal.inside_fault-component_fault-requires
inside_fault-component_fault-requires t c =
    let some = ap option_copied c.in-Some.is in
    let less : 3 * (16 - length c.args.at.now) + 1 < t = omega (arith, c.decreases) in (
      less,
      (
        c.requires.nesting,
        (
          c.requires.room c.in-Some.component.now some,
          (c.requires.here c.in-Some.component.now some, (c.requires.count, c.requires.scope)),
        ),
      ),
    )
