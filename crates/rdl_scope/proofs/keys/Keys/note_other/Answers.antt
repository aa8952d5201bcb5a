use Rattle.std.proofs.Common.{sym, ap, ◌∙◌}
use Rattle.std.specs.Prelude.{not}
use Rattle.std.specs.List.{list_any}
use Rattle.std.specs.BTreeSet.{contains}
use Rattle.rdl_scope.specs.KeySpot.{OtherKey, names, has_names}
use Rattle.rdl_scope.proofs.Repeats.{not-not}
use Rattle.rdl_scope.proofs.Spots.{either}
use Rattle.rdl_scope.proofs.KeySpots as spots
use Rattle.rdl_scope.proofs.keys.Keys.note_other.Goals as goal

pub invariant_of-self : goal.invariant_of-self
invariant_of-self c =
    let s = c.args.self.now in
    let q = names c.args.key.now in
    let there = spots.other-inserted s.others c.insert.new.self (c.args.front, c.in_ok-names.names) q c.requires.front c.in_ok-names.ensures in
    record {
      free = either c.insert.result c.insert.ensures.keys c.insert.ensures.err
          (λ h. spots.other_stay s.slots.items s.firsts.items q s.others c.insert.new.self c.requires.other (there h) s.free)
          (λ h. λ p e. ap (list_any (has_names p)) h ∙ s.free p e);
    }

pub returns-clause-twice : goal.returns-clause-twice
returns-clause-twice c =
    let s = c.args.self.now in
    let q = names c.args.key.now in
    let key : OtherKey = (c.args.front, c.in_ok-names.names) in
    ap not c.in_ok-is_new.ensures.added
    ∙ not-not (contains spots.key_cmp s.others key)
    ∙ spots.other-contained s.others key q c.requires.front c.in_ok-names.ensures
    ∙ sym (spots.other-noted s.slots.items s.firsts.items q s.others c.requires.other)

pub returns-clause-noted : goal.returns-clause-noted
returns-clause-noted c =
    let s = c.args.self.now in
    let q = names c.args.key.now in
    spots.other_put s.slots.items s.firsts.items q s.others c.insert.new.self
    (spots.other-inserted s.others c.insert.new.self (c.args.front, c.in_ok-names.names) q c.requires.front c.in_ok-names.ensures c.in_ok-is_new.ensures.keys)
