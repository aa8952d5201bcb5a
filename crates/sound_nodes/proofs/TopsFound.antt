-- The top of a map is a definition, so a component stands there.
use Rattle.std.proofs.Common.{◌≡◌, ℕ, zero, suc, ◌+◌, List, [], ◌∷◌, ◌++◌, Option, Some, None, refl, sym, ap, subst, ◌∙◌, arith}
use Rattle.std.specs.Prelude.{Bool, true, false, slice_get, option_and_then, if◌then◌else◌}
use Rattle.std.specs.Option.{option_or}
use Rattle.rdl_tree.specs.Component.{holder_kind, own_component}
use Rattle.rdl_tree.specs.Items.{Items, no_items, plain, holder, named, own, default, dynamic, Holder, define, anonymous}
use Rattle.rdl_tree.specs.View.{list_of}
use Rattle.rdl_tree.specs.declared.description.Component.{Component}
use Rattle.rdl_tree.specs.declared.description.Item.TheVariants.{Define}
use Rattle.rdl_tree.specs.declared.shell.Kind.TheVariants.{Addrmap, Regfile, Reg, Field}
use Rattle.rdl_scope.specs.Closed.{Made, Standing, nothing, head_at, after_plain, after_holder, parts, component_in, component}
use Rattle.rdl_scope.specs.Types.{component_at}
use Rattle.rdl_scope.specs.Value.{is_define}
use Rattle.rdl_scope.proofs.AsFound.{as_found}
use Rattle.rdl_elab.specs.Faults.{has_name, may_be_top, name_of, top_from}

-- among the items from number k on, number n is the definition of an address map of this name
record IsDefinedFrom (k n : ℕ) (name : List ℕ) (t : Items) : Type 0 where
  offset : ℕ
  at : n ≡ k + offset
  body : Items
  item : slice_get (list_of t) offset ≡ Some (Define name (record { kind = Addrmap; body = body }))

later : (k n : ℕ) (name : List ℕ) (t s : Items) → ((i : ℕ) → slice_get (list_of s) (suc i) ≡ slice_get (list_of t) i) → IsDefinedFrom (suc k) n name t → IsDefinedFrom k n name s
later k n name t s shift is =
    record {
      offset = suc is.offset;
      at = let e = is.at in omega (arith, e);
      body = is.body;
      item = shift is.offset ∙ is.item;
    }

abbrev found_if : Bool → ℕ → List ℕ → Option (ℕ × List ℕ)
found_if b k m = if b then Some (k, m) else None

here : (w : Option (List ℕ)) (k n : ℕ) (name : List ℕ) (h : Holder) (body rest : Items) → found_if (may_be_top w h) k (name_of h) ≡ Some (n, name) → IsDefinedFrom k n name (holder h body rest)
here w k n name (anonymous s kind) body rest e = absurd cc
here w k n name (define m Regfile) body rest e = absurd cc
here w k n name (define m Reg) body rest e = absurd cc
here w k n name (define m Field) body rest e = absurd cc
here w k n name (define m Addrmap) body rest e = by (has_name w m) e
  where
    by : (t : Bool) → found_if t k m ≡ Some (n, name) → IsDefinedFrom k n name (holder (define m Addrmap) body rest)
    by true e =
        let this : ℕ × List ℕ = (k, m) in
        let wanted : ℕ × List ℕ = (n, name) in
        let both : this ≡ wanted = cc in
        let same : k ≡ n = ap (λ (p : ℕ × List ℕ). p.0) both in
        record {
          offset = 0;
          at = omega (arith, same);
          body = body;
          item = ap (λ (p : ℕ × List ℕ). Some (Define p.1 (record { kind = Addrmap; body = body }))) both;
        }
    by false e = absurd cc

defined_from : (w : Option (List ℕ)) (k : ℕ) (t : Items) (n : ℕ) (name : List ℕ) → top_from w k t ≡ Some (n, name) → IsDefinedFrom k n name t
defined_from w k no_items n name e = absurd cc
defined_from w k (plain p rest) n name e = later k n name rest (plain p rest) (λ i. refl) (defined_from w (suc k) rest n name e)
defined_from w k (holder h body rest) n name e = by (top_from w (suc k) rest) (λ g. defined_from w (suc k) rest n name g) e
  where
    by : (o : Option (ℕ × List ℕ)) → (o ≡ Some (n, name) → IsDefinedFrom (suc k) n name rest) → option_or o (found_if (may_be_top w h) k (name_of h)) ≡ Some (n, name)
        → IsDefinedFrom k n name (holder h body rest)
    by None more e = here w k n name h body rest e
    by (Some x) more e = later k n name rest (holder h body rest) (λ i. refl) (more e)

-- a definition has a component
define_stands : (i : ℕ) (e : Standing) (b : List ℕ) (n : ℕ) (t : Items) → is_define (slice_get (list_of t) i) ≡ true → (c : Made) × (component_in i e b n t ≡ Some c)
define_stands i e b n no_items is = absurd cc
define_stands zero e b n (plain (named s u) rest) is = absurd cc
define_stands zero e b n (plain (own p v) rest) is = absurd cc
define_stands zero e b n (plain (default p v) rest) is = absurd cc
define_stands zero e b n (plain (dynamic u p v) rest) is = absurd cc
define_stands zero e b n (holder h body rest) is = (record { head = head_at (b ++ n ∷ []) (holder_kind h) body e; parts = parts e (b ++ n ∷ []) 0 body }, refl)
define_stands (suc i) e b n (plain p rest) is = define_stands i (after_plain p e) b (suc n) rest is
define_stands (suc i) e b n (holder h body rest) is = define_stands i (after_holder h (b ++ n ∷ []) body (parts e (b ++ n ∷ []) 0 body) e) b (suc n) rest is

-- a component stands at the top
pub top_stands : (d : Items) (wanted : Option (List ℕ)) (n : ℕ) (name : List ℕ) → top_from wanted 0 d ≡ Some (n, name) → (c : Made) × (component d (n ∷ []) ≡ Some c)
top_stands d wanted n name e =
    let is = defined_from wanted 0 d n name e in
    let there = is.at in
    let same : is.offset ≡ n = omega (arith, there) in
    define_stands n nothing [] 0 d (subst (λ k. is_define (slice_get (list_of d) k) ≡ true) same (ap is_define is.item))

-- it is an address map
pub top_kind : (d : Items) (wanted : Option (List ℕ)) (n : ℕ) (name : List ℕ) (c : Made) → top_from wanted 0 d ≡ Some (n, name) → component d (n ∷ []) ≡ Some c → c.head.kind ≡ Addrmap
top_kind d wanted n name c e holds =
    let is = defined_from wanted 0 d n name e in
    let there = is.at in
    let same : is.offset ≡ n = omega (arith, there) in
    let held : component_at d (n ∷ []) ≡ Some (record { kind = Addrmap; body = is.body }) =
    ap (λ k. option_and_then own_component (slice_get (list_of d) k)) (sym same) ∙ ap (option_and_then own_component) is.item in
    let both_held : ◌≡◌ {A = Option Component} (Some (record { kind = c.head.kind; body = c.head.body })) (Some (record { kind = Addrmap; body = is.body })) =
    sym (as_found d (n ∷ []) c holds).component ∙ held in
    let same_one : ◌≡◌ {A = Component} (record { kind = c.head.kind; body = c.head.body }) (record { kind = Addrmap; body = is.body }) = cc in
    ap (λ (x : Component). x.kind) same_one
