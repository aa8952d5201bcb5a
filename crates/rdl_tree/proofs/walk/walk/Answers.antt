use Rattle.std.proofs.Common.{rules, ◌≡◌, IsTrue, ap, sym, ◌∙◌, subst}
use Rattle.std.specs.List.{list_all}
use Rattle.rdl_tree.specs.Patch.{image, inverses}
use Rattle.rdl_tree.specs.Exchanges.{is_exchange, are_exchanges}
use Rattle.rdl_tree.proofs.Exchanging.{all_exchange, exchanges-inverses}
use Rattle.rdl_tree.proofs.Patching.{image-inverses, inverses-inverses}
use Rattle.rdl_tree.proofs.walk.walk.Goals as goal

pub exchange_all-requires : goal.exchange_all-requires
exchange_all-requires c =
    let all : IsTrue (list_all is_exchange c.args.patches.items) = search rules in all_exchange c.args.patches.items c.args.description.now.items all c.requires

pub returns-then-are_exchanges-clause-goes_back : goal.returns-then-are_exchanges-clause-goes_back
returns-then-are_exchanges-clause-goes_back c =
    ap (image c.exchange_all.result.items) c.exchange_all.ensures.turned
    ∙ ap (λ ps. image ps (image c.args.patches.items c.args.description.now.items)) c.exchange_all.ensures.back
    ∙ image-inverses c.args.patches.items c.args.description.now.items c.requires

pub returns-then-are_exchanges-clause-goes_on : goal.returns-then-are_exchanges-clause-goes_on
returns-then-are_exchanges-clause-goes_on c =
    ap (inverses c.exchange_all.result.items) c.exchange_all.ensures.turned
    ∙ ap (λ ps. inverses ps (image c.args.patches.items c.args.description.now.items)) c.exchange_all.ensures.back
    ∙ inverses-inverses c.args.patches.items c.args.description.now.items c.requires

pub returns-then-are_exchanges-clause-sound : goal.returns-then-are_exchanges-clause-sound
returns-then-are_exchanges-clause-sound c =
    let all : IsTrue (list_all is_exchange c.args.patches.items) = search rules in
    ap (are_exchanges c.exchange_all.result.items) c.exchange_all.ensures.turned
    ∙ ap (λ ps. are_exchanges ps (image c.args.patches.items c.args.description.now.items)) c.exchange_all.ensures.back
    ∙ exchanges-inverses c.args.patches.items c.args.description.now.items (all_exchange c.args.patches.items c.args.description.now.items all c.requires) c.requires
