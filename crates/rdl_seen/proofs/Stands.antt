-- What a place sees is what stands before it.
use Rattle.std.proofs.Common.{◌≡◌, ℕ, zero, suc, List, [], ◌∷◌, ◌++◌, Option, Some, None, refl, sym, ap, subst, ◌∙◌}
use Rattle.std.specs.Prelude.{option_and_then}
use Rattle.rdl_tree.specs.Address.{inner}
use Rattle.rdl_tree.specs.Component.{holder_kind}
use Rattle.rdl_tree.specs.Items.{Items, no_items, plain, holder, named, own, default, dynamic, define, anonymous}
use Rattle.rdl_tree.specs.Properties.{row}
use Rattle.rdl_scope.specs.Closed as scope
use Rattle.rdl_scope.specs.Closed.{parts, Made, Standing, lookup, head_at, nothing, before, component_in, standing_at, closed}
use Rattle.rdl_seen.specs.Layouts.{Laying}
use Rattle.rdl_seen.specs.Meaning.{defaults_of, HasValues, Means, nothing_around, around_before, around_at}
use Rattle.rdl_seen.specs.MeaningLaws.{MeansBehind, MeansBehindComponent, MeansAt, NodesHaveValues}
use Rattle.rdl_seen.specs.Node.{Around, values_of, after_plain, after_holder, known}
use Rattle.rdl_seen.specs.Values.{put_named}
use Rattle.rdl_seen.proofs.Puts.{put-kept}
use Rattle.rdl_seen.proofs.Whole.{values_are_stated, values_are_whole}

pub means_behind : MeansBehind
means_behind e a same (named s t) = record { defaults = same.defaults }
means_behind e a same (own p x) = record { defaults = same.defaults }
means_behind e a same (default p x) = record { defaults = ap (put_named p x) same.defaults ∙ put-kept p x (λ q. lookup (row q).name e.defaults) }
means_behind e a same (dynamic t p x) = record { defaults = same.defaults }

pub means_behind_component : MeansBehindComponent
means_behind_component e a same (define n k) at body inside known = record { defaults = same.defaults }
means_behind_component e a same (anonymous s k) at body inside known = record { defaults = same.defaults }

means-before : (lay : Laying) (i : ℕ) (e : Standing) (a : Around) (b : List ℕ) (n : ℕ) (t : Items) → Means e a → Means (before i e b n t) (around_before lay i a t)
means-before lay zero e a b n t same = same
means-before lay (suc i) e a b n no_items same = same
means-before lay (suc i) e a b n (plain p rest) same = means-before lay i (scope.after_plain p e) (after_plain p a) b (suc n) rest (means_behind e a same p)
means-before lay (suc i) e a b n (holder h body rest) same =
    let inside = parts e (b ++ n ∷ []) 0 body in
    let k = known lay a (holder_kind h) body in
    means-before lay i (scope.after_holder h (b ++ n ∷ []) body inside e) (after_holder h k a) b (suc n) rest
    (means_behind_component e a same h (b ++ n ∷ []) body inside k)

means-along : (lay : Laying) (c : List ℕ) (e : Standing) (a : Around) (b : List ℕ) (t : Items) → Means e a
    → (f : Standing) → standing_at e b c t ≡ Some f → (g : Around) → around_at lay a c t ≡ Some g → Means f g
means-along lay [] e a b t same f stands g sees = absurd cc
means-along lay (i ∷ []) e a b t same f stands g sees =
    let is : before i e b 0 t ≡ f = cc in
    let seen : around_before lay i a t ≡ g = cc in
    subst (λ z. Means z g) is (subst (λ z. Means (before i e b 0 t) z) seen (means-before lay i e a b 0 t same))
means-along lay (i ∷ j ∷ c) e a b t same f stands g sees =
    by (λ inside. means-along lay (j ∷ c) (before i e b 0 t) (around_before lay i a t) (b ++ i ∷ []) inside (means-before lay i e a b 0 t same)) (inner i t) stands sees
  where
    by : ((inside : Items) → (f : Standing) → standing_at (before i e b 0 t) (b ++ i ∷ []) (j ∷ c) inside ≡ Some f
        → (g : Around) → around_at lay (around_before lay i a t) (j ∷ c) inside ≡ Some g → Means f g)
        → (o : Option Items) → option_and_then (standing_at (before i e b 0 t) (b ++ i ∷ []) (j ∷ c)) o ≡ Some f
        → option_and_then (around_at lay (around_before lay i a t) (j ∷ c)) o ≡ Some g → Means f g
    by deeper None stands sees = absurd cc
    by deeper (Some inside) stands sees = deeper inside f stands g sees

-- where nothing stands, nothing is seen
nothing-means : Means nothing nothing_around
nothing-means = record { defaults = refl }

pub means_at : MeansAt
means_at lay d c e stands a sees = means-along lay c nothing nothing_around [] d nothing-means e stands a sees

defaults-before : (i : ℕ) (e : Standing) (b : List ℕ) (n : ℕ) (t : Items) (m : Made) → component_in i e b n t ≡ Some m → (before i e b n t).defaults ≡ m.head.defaults
defaults-before i e b n no_items m h = absurd cc
defaults-before zero e b n (plain p rest) m h = absurd cc
defaults-before zero e b n (holder k body rest) m h =
    let made : Made = record { head = head_at (b ++ n ∷ []) (holder_kind k) body e; parts = parts e (b ++ n ∷ []) 0 body } in
    let same : made ≡ m = cc in
    ap (λ (z : Made). z.head.defaults) same
defaults-before (suc i) e b n (plain p rest) m h = defaults-before i (scope.after_plain p e) b (suc n) rest m h
defaults-before (suc i) e b n (holder k body rest) m h = defaults-before i (scope.after_holder k (b ++ n ∷ []) body (parts e (b ++ n ∷ []) 0 body) e) b (suc n) rest m h

-- something is seen of this address, and what it states are the defaults that reach the component
record Sees (lay : Laying) (a : Around) (c : List ℕ) (t : Items) (m : Made) : Type 0 where
  around : Around
  there : around_at lay a c t ≡ Some around
  defaults : around.defaults ≡ defaults_of m.head.defaults

sees : (lay : Laying) (c : List ℕ) (e : Standing) (a : Around) (b : List ℕ) (t : Items) (m : Made) → Means e a → closed e b c t ≡ Some m → Sees lay a c t m
sees lay [] e a b t m same h = absurd cc
sees lay (i ∷ []) e a b t m same h = record {
  around = around_before lay i a t;
  there = refl;
  defaults = (means-before lay i e a b 0 t same).defaults ∙ ap defaults_of (defaults-before i e b 0 t m h);
}
sees lay (i ∷ j ∷ c) e a b t m same h =
    by (λ inside. sees lay (j ∷ c) (before i e b 0 t) (around_before lay i a t) (b ++ i ∷ []) inside m (means-before lay i e a b 0 t same)) (inner i t) refl h
  where
    by : ((inside : Items) → closed (before i e b 0 t) (b ++ i ∷ []) (j ∷ c) inside ≡ Some m → Sees lay (around_before lay i a t) (j ∷ c) inside m)
        → (o : Option Items) → inner i t ≡ o → option_and_then (closed (before i e b 0 t) (b ++ i ∷ []) (j ∷ c)) o ≡ Some m → Sees lay a (i ∷ j ∷ c) t m
    by deeper None is h = absurd cc
    by deeper (Some inside) is h =
        let there = deeper inside h in
        record {
          around = there.around;
          there = ap (option_and_then (around_at lay (around_before lay i a t) (j ∷ c))) is ∙ there.there;
          defaults = there.defaults;
        }

pub nodes_have_values : NodesHaveValues
nodes_have_values lay d c m accepted h =
    let seen = sees lay c nothing nothing_around [] d m nothing-means h in
    let values = ap (λ v. values_of m.head.kind v m.head.body) seen.defaults in
    record {
      around = seen.around;
      there = seen.there;
      stated = values ∙ values_are_stated d c m accepted h;
      whole = subst (HasValues m.head) (sym values) (values_are_whole d c m accepted h);
    }
