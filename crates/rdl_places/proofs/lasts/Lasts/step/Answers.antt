use Rattle.std.proofs.Common.{◌≡◌, ◌+◌, length, Some, None, refl, sym, ap, subst, ◌∙◌, arith, rules}
use Rattle.std.specs.Option.{option_copied}
use Rattle.rdl_places.specs.Lasting.{AreLastsOf, name_of, slot_of}
use Rattle.rdl_places.specs.declared.lasts.Lasts.{Lasts}
use Rattle.rdl_places.proofs.LastOnes.{step_named, step_unnamed, few_before, few_instances, no_instance}
use Rattle.rdl_places.proofs.lasts.Lasts.step.Goals.{in-Some+in_ok-push-in-Some, in-None+in_ok-push-in-None}
use Rattle.rdl_places.proofs.lasts.Lasts.step.Goals as goal

pub overflow_add-self : goal.overflow_add-self
overflow_add-self c =
    let l = c.args.self.now in
    let t = c.args.body.now in
    let many : c.len.result ≡ length l.links.items = search rules in
    let before = few_before (length l.links.items) t in
    let so_far = c.requires.are.counted in
    let one = few_instances (option_copied c.item-item.result) in
    let is = c.count_of.ensures in
    elim c.match-name_of.branch [
      | in-Some+in_ok-push-in-Some w ↦
          let same : c.match-name_of.self.instances ≡ l.instances = ap (λ (x : Lasts). x.instances) w.self-is in
          let fits = w.len-in-Some-2.type_inv in
          let longer : w.len-in-Some-2.result ≡ c.len.result + 1 = search rules in
          omega (arith, many, before, so_far, one, is, same, fits, longer)
      | in-None+in_ok-push-in-None w ↦
          let same : c.match-name_of.self.instances ≡ l.instances = ap (λ (x : Lasts). x.instances) w.self-is in
          let unnamed : name_of (option_copied c.item-item.result) ≡ None = search rules in
          let none = no_instance (option_copied c.item-item.result) unnamed in
          let fits = c.len.type_inv in
          omega (arith, many, before, so_far, none, is, same, fits)
    ]

pub returns-clause-are : goal.returns-clause-are
returns-clause-are c =
    let l = c.args.self.now in
    let t = c.args.body.now in
    let many : c.len.result ≡ length l.links.items = search rules in
    elim c.match-name_of.branch [
      | in-Some+in_ok-push-in-Some w ↦
          let slots : w.len-in-Some.result ≡ length l.slots.items = search rules in
          let few = w.slot_of-slot.ensures.few in
          let named : name_of (option_copied c.item-item.result) ≡ Some w.in-Some.name.now = search rules in
          let last : w.len-in-Some-2.result ≡ length w.push.new.self.items = search rules in
          subst (λ (s : Lasts). AreLastsOf t (length s.slots.items) s.slots.items s.links.items (s.instances + c.count_of.result)) (sym w.self-is)
          (step_named t l w.push.new.self.items w.slot_of-slot.result w.len-in-Some-2.result c.count_of.result c.len.result w.in-Some.name.now
          (record { before = l.instances; next = w.index-next.result.now }) (option_copied c.item-item.result) c.requires.are
          (w.slot_of-slot.ensures.slot ∙ ap (λ k. slot_of k w.in-Some.name.now) slots) (omega (arith, slots, few)) many c.item-item.ensures named w.index-next.ensures refl w.in_ok-push-in-Some.ensures.items last c.count_of.ensures)
      | in-None+in_ok-push-in-None w ↦
          let unnamed : name_of (option_copied c.item-item.result) ≡ None = search rules in
          subst (λ (s : Lasts). AreLastsOf t (length s.slots.items) s.slots.items s.links.items (s.instances + c.count_of.result)) (sym w.self-is)
          (step_unnamed t l w.push-in-None.new.self.items c.count_of.result c.len.result (record { before = l.instances; next = 0 }) (option_copied c.item-item.result) c.requires.are
          many c.item-item.ensures unnamed refl w.in_ok-push-in-None.ensures.items c.count_of.ensures)
    ]
