-- The last of the items that may be the top, found from the first item to the last.
use Rattle.std.proofs.Common.{◌≡◌, ℕ, suc, ◌+◌, ◌<◌, ◌≤◌, List, length, get_or, drop, Option, Some, None, refl, ap, sym, ◌∙◌, add-one, drop-cons}
use Rattle.std.specs.Prelude.{if◌then◌else◌}
use Rattle.std.specs.Option.{option_or}
use Rattle.std.proofs.lemmas.List.{drop_all}
use Rattle.rdl_tree.specs.Items.{Items, define}
use Rattle.rdl_tree.specs.View.{add, items_of}
use Rattle.rdl_tree.specs.declared.shell.Kind.{Kind}
use Rattle.rdl_tree.specs.declared.shell.Kind.TheVariants.{Addrmap, Regfile, Reg, Field}
use Rattle.rdl_tree.specs.declared.description.Item.{Item}
use Rattle.rdl_tree.specs.declared.description.Item.TheVariants.{Define, Instance, Own, Default, Dynamic}
use Rattle.rdl_tree.specs.declared.description.Of.TheVariants.{Named, Anonymous}
use Rattle.rdl_elab.specs.Faults.{may_be_top, top_from}
use Rattle.rdl_elab.specs.Tops.{top_at, top_of_kind}

pub or-none : {X : Type 0} (a : Option X) → option_or a None ≡ a
or-none None = refl
or-none (Some x) = refl

or-assoc : {X : Type 0} (a b c : Option X) → option_or (option_or a b) c ≡ option_or a (option_or b c)
or-assoc None b c = refl
or-assoc (Some x) b c = refl

top-add : (w : Option (List ℕ)) (n : ℕ) (x : Item) (rest : Items) → top_from w n (add x rest) ≡ option_or (top_from w (suc n) rest) (top_at w n x)
top-add w n (Define name c) rest = by_kind c.kind
  where
    by_kind : (k : Kind) → option_or (top_from w (suc n) rest) (if may_be_top w (define name k) then Some (n, name) else None) ≡ option_or (top_from w (suc n) rest) (top_of_kind w n name k)
    by_kind Addrmap = refl
    by_kind Regfile = refl
    by_kind Reg = refl
    by_kind Field = refl
top-add w n (Instance s (Named t)) rest = sym (or-none (top_from w (suc n) rest))
top-add w n (Instance s (Anonymous c)) rest = refl
top-add w n (Own p v) rest = sym (or-none (top_from w (suc n) rest))
top-add w n (Default p v) rest = sym (or-none (top_from w (suc n) rest))
top-add w n (Dynamic t p v) rest = sym (or-none (top_from w (suc n) rest))

pub top-next : (w : Option (List ℕ)) (i : ℕ) (xs : List Item) (x : Item) (last : Option (ℕ × List ℕ)) → i < length xs
    → option_or (top_from w (i + 1) (items_of (drop (i + 1) xs))) (option_or (top_at w i (get_or xs i x)) last) ≡ option_or (top_from w i (items_of (drop i xs))) last
top-next w i xs x last h =
    rw add-one
    (sym (or-assoc (top_from w (suc i) (items_of (drop (suc i) xs))) (top_at w i (get_or xs i x)) last)
    ∙ ap (λ o. option_or o last) (sym (top-add w i (get_or xs i x) (items_of (drop (suc i) xs))))
    ∙ ap (λ ys. option_or (top_from w i (items_of ys)) last) (sym (drop-cons xs i x h)))

pub top-none : (w : Option (List ℕ)) (i : ℕ) (xs : List Item) (last : Option (ℕ × List ℕ)) → length xs ≤ i → option_or (top_from w i (items_of (drop i xs))) last ≡ last
top-none w i xs last h = ap (λ ys. option_or (top_from w i (items_of ys)) last) (drop_all i xs h)
