use Rattle.std.proofs.Common.{◌≡◌, rules, subst, sym}
use Rattle.std.proofs.lemmas.Result.{on_ok_weaker}
use Rattle.rdl_tree.specs.Shell.{bare_shell}
use Rattle.rdl_tree.specs.declared.shell.Shell.{Shell}
use Rattle.rdl_elab.specs.declared.layout.Layout.{Layout}
use Rattle.rdl_elab.specs.BarePlaces.{IsBareItem}
use Rattle.rdl_nodes.specs.Part.{member_of}
use Rattle.node_laws.specs.Laying.{placement_under}
use Rattle.node_laws.proofs.AsLaid.{bare_member}
use Rattle.node_laws.proofs.lays.put_next.Goals as goal

pub returns-then-is_bare-clause-one : goal.returns-then-is_bare-clause-one
returns-then-is_bare-clause-one c =
    let m = member_of c.args.part.now in
    let item = placement_under c.args.mode m in
    let bare : c.shell.result.now ≡ bare_shell c.shell.result.now.name = search rules in
    let said : m.shell ≡ bare_shell m.shell.name = subst (λ (s : Shell). s ≡ bare_shell s.name) c.shell.ensures bare in
    let alike : IsBareItem c.as_large.result item = subst (λ (l : Layout). IsBareItem l item) (sym c.as_large.ensures) (bare_member c.args.mode m said) in
    on_ok_weaker c.put_bare.result (λ one behind. one item behind (c.bare_place-place.ensures item alike)) c.put_bare.ensures.one
