use Rattle.std.proofs.Common.{◌≡◌, ◌-◌, suc, length, refl, ◌∙◌, arith}
use Rattle.rdl_elab.specs.declared.walk.defaults.Default.{Default}
use Rattle.rdl_elab.proofs.DefaultStacks.{pairs-stay, stays-stacked}
use Rattle.rdl_elab.proofs.walk.defaults.Defaults.keep.Goals as goal

pub invariant_of-self-2 : goal.invariant_of-self-2
invariant_of-self-2 c =
    let old = c.self.inside.items in
    let x = c.in-Some.nearest.now in
    let y : Default = record { name = x.name; value = x.value; shared = c.put.new.self } in
    let size : length old.items ≡ suc (old.len - 1) = omega (arith, old.ok.0, c.in-Some.ensures.variant.0 refl) in
    stays-stacked old.items (old.len - 1) x y size c.in-Some.ensures.value refl refl c.args.self.now c.self.view_is (λ shared. c.put.ensures c.args.self.now shared c.requires) c.self.invariant

pub returns : goal.returns
returns c =
    let old = c.self.inside.items in
    let x = c.in-Some.nearest.now in
    let y : Default = record { name = x.name; value = x.value; shared = c.put.new.self } in
    let size : length old.items ≡ suc (old.len - 1) = omega (arith, old.ok.0, c.in-Some.ensures.variant.0 refl) in
    pairs-stay old.items (old.len - 1) x y size c.in-Some.ensures.value refl refl ∙ c.self.view_is
