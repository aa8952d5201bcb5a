-- The items of a body have the faults that the searches through whole bodies find.
use Rattle.std.proofs.Common.{◌≡◌, ℕ, zero, suc, ◌+◌, Bool, true, false, cond, not, if◌then◌else◌, List, [], ◌∷◌, ◌++◌, length, Option, Some, None, option_map, bytes_eq, ◌&&◌, refl, sym, ap, subst, ◌∙◌, arith}
use Rattle.std.specs.Prelude.{option_and_then, slice_get}
use Rattle.std.specs.Option.{option_or, is_some, is_none}
use Rattle.std.proofs.lemmas.Bool.{both_ways}
use Rattle.rdl_tree.specs.Address.{inner, body_at}
use Rattle.rdl_tree.specs.Component.{holder_kind, own_component}
use Rattle.rdl_tree.specs.ItemAt.{item_at}
use Rattle.rdl_tree.specs.Items.{Items, no_items, plain, holder, Plain, named, own, default, dynamic, Holder, define, anonymous}
use Rattle.rdl_tree.specs.Properties.{property_of}
use Rattle.rdl_tree.specs.View.{list_of, plain_item, holder_item}
use Rattle.rdl_tree.specs.declared.description.Component.{Component}
use Rattle.rdl_tree.specs.declared.description.Item.{Item}
use Rattle.rdl_tree.specs.declared.description.Item.TheVariants.{Instance}
use Rattle.rdl_tree.specs.declared.description.Of.{Of}
use Rattle.rdl_tree.specs.declared.description.Of.TheVariants.{Named, Anonymous}
use Rattle.rdl_tree.specs.declared.fault.Fault.{Fault}
use Rattle.rdl_tree.specs.declared.fault.FaultKind.{FaultKind}
use Rattle.rdl_tree.specs.declared.fault.FaultKind.TheVariants.{DescriptionTooLarge}
use Rattle.rdl_tree.specs.declared.shell.Kind.{Kind}
use Rattle.rdl_tree.specs.declared.shell.Kind.TheVariants.{Addrmap, Regfile, Reg, Field}
use Rattle.rdl_tree.specs.declared.shell.Shell.{Shell}
use Rattle.rdl_scope.specs.Closed.{lookup}
use Rattle.rdl_scope.specs.ItemFaults.{instance_fault, dynamic_fault, reached_before, item_fault, first_fault, fault_at, is_too_large, kind_at, instance_kind, target_kind}
use Rattle.rdl_scope.specs.Scopes.{kind_below, instance_component}
use Rattle.rdl_scope.specs.Target.{instance_before}
use Rattle.rdl_scope.specs.Types.{component_of, items_in, last_definition, type_at}
use Rattle.rdl_scope.specs.Walk.{is_definition, is_instance}
use Rattle.rdl_scope.proofs.InstanceKinds.{component-named, component-anonymous}
use Rattle.rdl_scope.proofs.Levelled.{item-deeper, body-inside}
use Rattle.rdl_scope.proofs.Searches.{last-suc}
use Rattle.rdl_scope.proofs.TargetKinds.{target-first, kind-instance, component-same, component-next, is-known}
use Rattle.rdl_seen.specs.Clean.{kind_of, kind_in, plain_fault, holder_fault, are_clean}
use Rattle.rdl_seen.specs.Inside.{Inside, no_instances, Found, find, Within, nothing_within, how_many, with_instance}
use Rattle.rdl_seen.specs.Layouts.{Laying}
use Rattle.rdl_seen.specs.Meaning.{nothing_around}
use Rattle.rdl_seen.specs.MeaningLaws.{is_clean_map, FaultsAreFound}
use Rattle.rdl_seen.specs.Node.{Known, Around, with_type, within_type, after_plain, after_holder, plain_instances, holder_instances, walked, body_of, known}
use Rattle.rdl_seen.proofs.Clean.{no_instance, no_holder}

-- the kind of the component at which names end that begin inside a component
abbrev within_kind : List (List ℕ) → Within → Option Kind
within_kind [] w = Some w.kind
within_kind (q ∷ rest) w = kind_in (q ∷ rest) w.inside

-- what targets find inside a component is what the search finds inside the one at this address
abbrev TellsOf : Items → List ℕ → Within → Type 0
TellsOf d c w = (names : List (List ℕ)) → kind_below d names c ≡ within_kind names w

-- what they find among these instances is what it finds among the first n items of the body at b
abbrev Tells : Items → List ℕ → ℕ → Inside → Type 0
Tells d b n before = (q : List ℕ) (rest : List (List ℕ)) → target_kind d b n (q ∷ rest) ≡ kind_in (q ∷ rest) before

pub record Told (d : Items) (c : List ℕ) (k : Known) : Type 0 where
  pub kind : kind_at d c ≡ Some k.seen.kind
  pub inside : TellsOf d c k.within

abbrev SameType : Items → Option (List ℕ) → Option Known → Type 0
SameType d None None = Unit {0}
SameType d None (Some k) = ⊥
SameType d (Some c) None = ⊥
SameType d (Some c) (Some k) = Told d c k

-- each name leads to the type that the search finds from this address
abbrev AreTypes : Items → List ℕ → Around → Type 0
AreTypes d path a = (name : List ℕ) → SameType d (type_at path d name) (lookup name a.types)

-- the items from number n on of the body at b are these
pub record Place (d : Items) (b : List ℕ) (n : ℕ) (body t : Items) : Type 0 where
  pub is : body_at b d ≡ Some body
  pub items : (i : ℕ) → slice_get (list_of body) (n + i) ≡ slice_get (list_of t) i

plus_zero : (n : ℕ) → n ≡ n + 0
plus_zero n = omega arith

plus_next : (n i : ℕ) → suc n + i ≡ n + suc i
plus_next n i = omega arith

plus_one : (n : ℕ) → n + 1 ≡ suc n
plus_one n = omega arith

plain_got : {d : Items} {b : List ℕ} {n : ℕ} {body rest : Items} (p : Plain) → Place d b n body (plain p rest) → slice_get (list_of body) n ≡ Some (plain_item p)
plain_got {d} {b} {n} {body} {rest} p here = ap (slice_get (list_of body)) (plus_zero n) ∙ here.items 0

holder_got : {d : Items} {b : List ℕ} {n : ℕ} {body rest : Items} (h : Holder) (held : Items) → Place d b n body (holder h held rest) → slice_get (list_of body) n ≡ Some (holder_item h held)
holder_got {d} {b} {n} {body} {rest} h held here = ap (slice_get (list_of body)) (plus_zero n) ∙ here.items 0

plain_next : {d : Items} {b : List ℕ} {n : ℕ} {body rest : Items} (p : Plain) → Place d b n body (plain p rest) → Place d b (suc n) body rest
plain_next {d} {b} {n} {body} {rest} p here = record { is = here.is; items = λ i. ap (slice_get (list_of body)) (plus_next n i) ∙ here.items (suc i) }

holder_next : {d : Items} {b : List ℕ} {n : ℕ} {body rest : Items} (h : Holder) (held : Items) → Place d b n body (holder h held rest) → Place d b (suc n) body rest
holder_next {d} {b} {n} {body} {rest} h held here = record { is = here.is; items = λ i. ap (slice_get (list_of body)) (plus_next n i) ∙ here.items (suc i) }

item_there : (d : Items) (b : List ℕ) (n : ℕ) (body : Items) (x : Item) → body_at b d ≡ Some body → slice_get (list_of body) n ≡ Some x → item_at (b ++ n ∷ []) d ≡ Some x
item_there d b n body x is got = item-deeper b n d body is ∙ got

-- the search for a type, by the body that holds the item
deeper_type : (i : ℕ) (b : List ℕ) (ld : Option ℕ) (o : Option (List ℕ)) (more : Option (List ℕ))
    → option_or (option_map (λ a. i ∷ a) (option_or (option_map (λ k. b ++ k ∷ []) ld) o)) more ≡ option_or (option_map (λ k. i ∷ b ++ k ∷ []) ld) (option_or (option_map (λ a. i ∷ a) o) more)
deeper_type i b None o more = refl
deeper_type i b (Some k) o more = refl

no_type : (o : Option Items) (name : List ℕ) → option_and_then (λ t. type_at [] t name) o ≡ None
no_type None name = refl
no_type (Some t) name = refl

or_none : {X : Type 0} (o : Option X) → o ≡ option_or o None
or_none None = refl
or_none (Some x) = refl

type_inside : (b : List ℕ) (n : ℕ) (name : List ℕ) (t body : Items) → body_at b t ≡ Some body
    → type_at (b ++ n ∷ []) t name ≡ option_or (option_map (λ k. b ++ k ∷ []) (last_definition name n body)) (type_at b t name)
type_inside [] n name t body e =
    let same : t ≡ body = cc in
    ap (λ o. option_or (option_map (λ a. n ∷ a) o) (option_map (λ k. k ∷ []) (last_definition name n t))) (no_type (inner n t) name)
    ∙ ap (λ s. option_map (λ k. k ∷ []) (last_definition name n s)) same
    ∙ or_none (option_map (λ k. k ∷ []) (last_definition name n body))
type_inside (i ∷ b) n name t body e = into (λ s. type_inside b n name s body) (inner i t) refl e
  where
    into : ((s : Items) → body_at b s ≡ Some body → type_at (b ++ n ∷ []) s name ≡ option_or (option_map (λ k. b ++ k ∷ []) (last_definition name n body)) (type_at b s name))
        → (o : Option Items) → inner i t ≡ o → option_and_then (body_at b) o ≡ Some body
        → type_at (i ∷ b ++ n ∷ []) t name ≡ option_or (option_map (λ k. i ∷ b ++ k ∷ []) (last_definition name n body)) (type_at (i ∷ b) t name)
    into ih None is h = absurd cc
    into ih (Some s) is h =
        let more = option_map (λ k. k ∷ []) (last_definition name i t) in
        ap (λ o. option_or (option_map (λ a. i ∷ a) (option_and_then (λ u. type_at (b ++ n ∷ []) u name) o)) more) is
        ∙ ap (λ o. option_or (option_map (λ a. i ∷ a) o) more) (ih s h)
        ∙ deeper_type i b (last_definition name n body) (type_at b s name) more
        ∙ ap (λ o. option_or (option_map (λ k. i ∷ b ++ k ∷ []) (last_definition name n body)) (option_or (option_map (λ a. i ∷ a) (option_and_then (λ u. type_at b u name) o)) more)) (sym is)

cond_type : (b : List ℕ) (n : ℕ) (z : Bool) (ld : Option ℕ) (o : Option (List ℕ))
    → option_or (option_map (λ k. b ++ k ∷ []) (cond z (Some n) ld)) o ≡ cond z (Some (b ++ n ∷ [])) (option_or (option_map (λ k. b ++ k ∷ []) ld) o)
cond_type b n true ld o = refl
cond_type b n false ld o = refl

type_next : (d : Items) (b : List ℕ) (n : ℕ) (body : Items) (x : Item) (name : List ℕ) → body_at b d ≡ Some body → slice_get (list_of body) n ≡ Some x
    → type_at (b ++ suc n ∷ []) d name ≡ cond (is_definition name (Some x)) (Some (b ++ n ∷ [])) (type_at (b ++ n ∷ []) d name)
type_next d b n body x name is got =
    type_inside b (suc n) name d body is
    ∙ ap (λ o. option_or (option_map (λ k. b ++ k ∷ []) o) (type_at b d name)) (last-suc name n body ∙ ap (λ y. cond (is_definition name y) (Some n) (last_definition name n body)) got)
    ∙ cond_type b n (is_definition name (Some x)) (last_definition name n body) (type_at b d name)
    ∙ ap (cond (is_definition name (Some x)) (Some (b ++ n ∷ []))) (sym (type_inside b n name d body is))

-- the types behind an item
types_plain : (d : Items) (b : List ℕ) (n : ℕ) (body rest : Items) (a : Around) (p : Plain) → Place d b n body (plain p rest) → AreTypes d (b ++ n ∷ []) a → AreTypes d (b ++ suc n ∷ []) (after_plain p a)
types_plain d b n body rest a (named s t) here types = λ name. subst (λ o. SameType d o (lookup name a.types)) (sym (type_next d b n body (plain_item (named s t)) name here.is (plain_got (named s t) here))) (types name)
types_plain d b n body rest a (own p v) here types = λ name. subst (λ o. SameType d o (lookup name a.types)) (sym (type_next d b n body (plain_item (own p v)) name here.is (plain_got (own p v) here))) (types name)
types_plain d b n body rest a (default p v) here types = λ name. subst (λ o. SameType d o (lookup name a.types)) (sym (type_next d b n body (plain_item (default p v)) name here.is (plain_got (default p v) here))) (types name)
types_plain d b n body rest a (dynamic t p v) here types = λ name. subst (λ o. SameType d o (lookup name a.types)) (sym (type_next d b n body (plain_item (dynamic t p v)) name here.is (plain_got (dynamic t p v) here))) (types name)

same_either : (d : Items) (z : Bool) (c : List ℕ) (k : Known) (o : Option (List ℕ)) (l : Option Known) → Told d c k → SameType d o l → SameType d (cond z (Some c) o) (if z then Some k else l)
same_either d true c k o l told same = told
same_either d false c k o l told same = same

types_holder : (d : Items) (b : List ℕ) (n : ℕ) (body rest : Items) (a : Around) (h : Holder) (held : Items) (k : Known) → Place d b n body (holder h held rest) → Told d (b ++ n ∷ []) k
    → AreTypes d (b ++ n ∷ []) a → AreTypes d (b ++ suc n ∷ []) (after_holder h k a)
types_holder d b n body rest a (define m kind) held k here told types = λ name.
    subst (λ o. SameType d o (lookup name (with_type m k a).types)) (sym (type_next d b n body (holder_item (define m kind) held) name here.is (holder_got (define m kind) held here)))
    (same_either d (bytes_eq m name) (b ++ n ∷ []) k (type_at (b ++ n ∷ []) d name) (lookup name a.types) told (types name))
types_holder d b n body rest a (anonymous s kind) held k here told types = λ name.
    subst (λ o. SameType d o (lookup name a.types)) (sym (type_next d b n body (holder_item (anonymous s kind) held) name here.is (holder_got (anonymous s kind) held here))) (types name)

-- inside an item its own body begins with the same types
types_inside : (d : Items) (b : List ℕ) (body : Items) (a : Around) → body_at b d ≡ Some body → AreTypes d b a → AreTypes d (b ++ 0 ∷ []) a
types_inside d b body a is types = λ name. subst (λ o. SameType d o (lookup name a.types)) (sym (type_inside b 0 name d body is)) (types name)

-- the fault of an item
same_kind : (d : Items) (o : Option (List ℕ)) (l : Option Known) → SameType d o l → option_map (λ (k : Known). k.seen.kind) l ≡ option_and_then (kind_at d) o
same_kind d None None same = refl
same_kind d None (Some k) same = absurd same
same_kind d (Some c) None same = absurd same
same_kind d (Some c) (Some k) told = sym told.kind

named_kind : (d : Items) (b : List ℕ) (n : ℕ) (body rest : Items) (a : Around) (s : Shell) (t : List ℕ) → Place d b n body (plain (named s t) rest) → AreTypes d (b ++ n ∷ []) a
    → kind_of t a ≡ instance_kind d (b ++ n ∷ [])
named_kind d b n body rest a s t here types =
    let there = item_there d b n body (plain_item (named s t)) here.is (plain_got (named s t) here) in
    same_kind d (type_at (b ++ n ∷ []) d t) (lookup t a.types) (types t) ∙ ap (option_and_then (kind_at d)) (sym (component-named d (b ++ n ∷ []) s t there))

target_same : (d : Items) (b : List ℕ) (n : ℕ) (before : Inside) (t : List (List ℕ)) → Tells d b n before → kind_in t before ≡ target_kind d b n t
target_same d b n before [] tells = refl
target_same d b n before (q ∷ rest) tells = sym (tells q rest)

plain_judged : (d : Items) (b : List ℕ) (n : ℕ) (body rest : Items) (a : Around) (before : Inside) (around : Option Kind) (p : Plain) → Place d b n body (plain p rest)
    → AreTypes d (b ++ n ∷ []) a → Tells d b n before → plain_fault a around body n before p ≡ item_fault d around b body n (plain_item p)
unfolding item_fault
plain_judged d b n body rest a before around (named s t) here types tells =
    ap (instance_fault around (is_some (instance_before s.name n body)) s) (named_kind d b n body rest a s t here types)
plain_judged d b n body rest a before around (own p v) here types tells = refl
plain_judged d b n body rest a before around (default p v) here types tells = refl
plain_judged d b n body rest a before around (dynamic t p v) here types tells =
    ap (dynamic_fault (reached_before t p n body) (property_of p) v) (target_same d b n before t tells)

holder_judged : (d : Items) (b : List ℕ) (n : ℕ) (body held rest : Items) (around : Option Kind) (h : Holder) → Place d b n body (holder h held rest)
    → holder_fault around body n h ≡ item_fault d around b body n (holder_item h held)
unfolding item_fault
holder_judged d b n body held rest around (define m k) here = refl
holder_judged d b n body held rest around (anonymous s k) here =
    let there = item_there d b n body (holder_item (anonymous s k) held) here.is (holder_got (anonymous s k) held here) in
    ap (instance_fault around (is_some (instance_before s.name n body)) s) (sym (kind-instance d (b ++ n ∷ []) s (Anonymous (record { kind = k; body = held })) there))

-- the instances behind an item
in_split : (q : List ℕ) (rest : List (List ℕ)) (before : Inside) → kind_in (q ∷ rest) before ≡ option_and_then (λ (f : Found). within_kind rest f.within) (find q before)
in_split q [] before = into (find q before)
  where
    into : (o : Option Found) → option_map (λ (f : Found). f.within.kind) o ≡ option_and_then (λ (f : Found). within_kind [] f.within) o
    into None = refl
    into (Some f) = refl
in_split q (r ∷ rest) before = refl

tells_either : (d : Items) (b : List ℕ) (n : ℕ) (before : Inside) (z : Bool) (w : Within) (c q : List ℕ) (rest : List (List ℕ)) (number : ℕ) → TellsOf d c w → Tells d b n before
    → option_and_then (kind_below d rest) (cond z (Some c) (instance_component d b n q))
    ≡ option_and_then (λ (f : Found). within_kind rest f.within) (if z then Some (record { number = number; within = w }) else find q before)
tells_either d b n before true w c q rest number inside tells = inside rest
tells_either d b n before false w c q rest number inside tells = sym (target-first d b n q rest) ∙ (tells q rest ∙ in_split q rest before)

tells_instance : (d : Items) (around : Option Kind) (b : List ℕ) (n : ℕ) (body : Items) (before : Inside) (s : Shell) (o : Of) (w : Within) (c : List ℕ) → body_at b d ≡ Some body
    → slice_get (list_of body) n ≡ Some (Instance s o) → instance_fault around (is_some (instance_before s.name n body)) s (instance_kind d (b ++ n ∷ [])) ≡ None
    → Some c ≡ component_of d (b ++ n ∷ []) → TellsOf d c w → Tells d b n before → Tells d b (suc n) (with_instance s.name w before)
tells_instance d around b n body before s o w c is got clear component inside tells = λ q rest.
    let next = component-next d around b body n s o q c is got clear component in
    ap (λ m. target_kind d b m (q ∷ rest)) (sym (plus_one n))
    ∙ target-first d b (n + 1) q rest
    ∙ ap (option_and_then (kind_below d rest)) (sym next)
    ∙ tells_either d b n before (bytes_eq s.name q) w c q rest (how_many before) inside tells
    ∙ sym (in_split q rest (with_instance s.name w before))

tells_other : (d : Items) (b : List ℕ) (n : ℕ) (body : Items) (before : Inside) (x : Item) → body_at b d ≡ Some body → slice_get (list_of body) n ≡ Some x
    → ((q : List ℕ) → is_instance q (Some x) ≡ false) → Tells d b n before → Tells d b (suc n) before
tells_other d b n body before x is got other tells = λ q rest.
    ap (λ m. target_kind d b m (q ∷ rest)) (sym (plus_one n))
    ∙ target-first d b (n + 1) q rest
    ∙ ap (option_and_then (kind_below d rest)) (sym (component-same d b body n x q is got (other q)))
    ∙ sym (target-first d b n q rest)
    ∙ tells q rest

-- a named instance whose type is known
tells_named : (d : Items) (around : Option Kind) (b : List ℕ) (n : ℕ) (body rest : Items) (a : Around) (before : Inside) (s : Shell) (t : List ℕ) → Place d b n body (plain (named s t) rest)
    → AreTypes d (b ++ n ∷ []) a → instance_fault around (is_some (instance_before s.name n body)) s (instance_kind d (b ++ n ∷ [])) ≡ None → Tells d b n before
    → Tells d b (suc n) (with_instance s.name (within_type (lookup t a.types)) before)
tells_named d around b n body rest a before s t here types clear tells =
    let got = plain_got (named s t) here in
    let there = item_there d b n body (plain_item (named s t)) here.is got in
    let component = component-named d (b ++ n ∷ []) s t there in
    into got (sym component) (type_at (b ++ n ∷ []) d t) (lookup t a.types) refl (types t)
  where
    into : slice_get (list_of body) n ≡ Some (Instance s (Named t)) → type_at (b ++ n ∷ []) d t ≡ component_of d (b ++ n ∷ []) → (o : Option (List ℕ)) (l : Option Known)
        → type_at (b ++ n ∷ []) d t ≡ o → SameType d o l → Tells d b (suc n) (with_instance s.name (within_type l) before)
    into got component None None is same = absurd (is-known d around (b ++ n ∷ []) (is_some (instance_before s.name n body)) s None clear (sym is ∙ component) refl)
    into got component None (Some k) is same = absurd same
    into got component (Some c) None is same = absurd same
    into got component (Some c) (Some k) is told = tells_instance d around b n body before s (Named t) k.within c here.is got clear (sym is ∙ component) told.inside tells

tells_plain : (d : Items) (around : Option Kind) (b : List ℕ) (n : ℕ) (body rest : Items) (a : Around) (before : Inside) (p : Plain) → Place d b n body (plain p rest)
    → AreTypes d (b ++ n ∷ []) a → item_fault d around b body n (plain_item p) ≡ None → Tells d b n before → Tells d b (suc n) (plain_instances a p before)
unfolding item_fault
tells_plain d around b n body rest a before (named s t) here types clear tells = tells_named d around b n body rest a before s t here types clear tells
tells_plain d around b n body rest a before (own p v) here types clear tells = tells_other d b n body before (plain_item (own p v)) here.is (plain_got (own p v) here) (λ q. refl) tells
tells_plain d around b n body rest a before (default p v) here types clear tells = tells_other d b n body before (plain_item (default p v)) here.is (plain_got (default p v) here) (λ q. refl) tells
tells_plain d around b n body rest a before (dynamic t p v) here types clear tells = tells_other d b n body before (plain_item (dynamic t p v)) here.is (plain_got (dynamic t p v) here) (λ q. refl) tells

-- what is told where the items from number n on were judged
pub record Judged (lay : Laying) (d : Items) (around : Option Kind) (b : List ℕ) (body : Items) (n : ℕ) (a : Around) (before : Inside) (t : Items) : Type 0 where
  pub same : are_clean lay a around body n before t ≡ is_none (first_fault d around b body n t)
  pub tells : are_clean lay a around body n before t ≡ true → Tells d b (n + length (list_of t)) (walked lay a before t).instances

-- these items are judged as the searches do
abbrev IsJudged : Laying → Items → Items → Type 0
IsJudged lay d t =
    (around : Option Kind) (b : List ℕ) (body : Items) (n : ℕ) (a : Around) (before : Inside) → Place d b n body t → AreTypes d (b ++ n ∷ []) a → Tells d b n before
    → Judged lay d around b body n a before t

clear_or : (x : List ℕ) (k : Option FaultKind) (o : Option Fault) → is_none (option_or (fault_at x k) o) ≡ (is_none k && is_none o)
clear_or x None o = refl
clear_or x (Some k) o = refl

clear_both : (o p : Option Fault) → is_none (option_or o p) ≡ (is_none o && is_none p)
clear_both None p = refl
clear_both (Some f) p = refl

pub both_first : (x y : Bool) → (x && y) ≡ true → x ≡ true
both_first true y h = refl
both_first false y h = h

pub both_second : (x y : Bool) → (x && y) ≡ true → y ≡ true
both_second true y h = h
both_second false y h = absurd cc

-- where the first is so, the second is compared
and_same : (x y z : Bool) → (x ≡ true → y ≡ z) → (x && y) ≡ (x && z)
and_same true y z h = h refl
and_same false y z h = refl

none_clear : {X : Type 0} (o : Option X) → is_none o ≡ true → o ≡ None
none_clear None h = refl
none_clear (Some x) h = absurd cc

shifted : (d : Items) (b : List ℕ) (n l : ℕ) (before : Inside) → Tells d b (suc n + l) before → Tells d b (n + suc l) before
shifted d b n l before tells = subst (λ m. Tells d b m before) (plus_next n l) tells

plain_is_judged : (lay : Laying) (d : Items) (p : Plain) (rest : Items) → IsJudged lay d rest → IsJudged lay d (plain p rest)
plain_is_judged lay d p rest judge around b body n a before here types tells =
    let k = item_fault d around b body n (plain_item p) in
    let fault_e = plain_judged d b n body rest a before around p here types tells in
    let next : k ≡ None → Judged lay d around b body (suc n) (after_plain p a) (plain_instances a p before) rest =
    λ clear. judge around b body (suc n) (after_plain p a) (plain_instances a p before) (plain_next p here) (types_plain d b n body rest a p here types)
    (tells_plain d around b n body rest a before p here types clear tells) in
    let more = are_clean lay (after_plain p a) around body (suc n) (plain_instances a p before) rest in
    record {
      same =
          ap (λ (f : Option FaultKind). is_none f && more) fault_e
          ∙ and_same (is_none k) more (is_none (first_fault d around b body (suc n) rest)) (λ h. (next (none_clear k h)).same)
          ∙ sym (clear_or (b ++ n ∷ []) k (first_fault d around b body (suc n) rest));
      tells = λ h.
          let clear = none_clear k (ap is_none (sym fault_e) ∙ both_first (is_none (plain_fault a around body n before p)) more h) in
          shifted d b n (length (list_of rest)) (walked lay (after_plain p a) (plain_instances a p before) rest).instances
          ((next clear).tells (both_second (is_none (plain_fault a around body n before p)) more h));
    }

-- nothing is found where there are no instances
tells_nothing : (d : Items) (b : List ℕ) (body : Items) → body_at b d ≡ Some body → Tells d b 0 no_instances
tells_nothing d b body is q rest = target-first d b 0 q rest ∙ ap (λ o. option_and_then (kind_below d rest) (option_and_then (component_of d) (option_map (λ k. b ++ k ∷ []) (option_and_then (instance_before q 0) o)))) is ∙ sym (in_split q rest no_instances)

body_first : (d : Items) (b : List ℕ) (body : Items) → body_at b d ≡ Some body → Place d b 0 body body
body_first d b body is = record { is = is; items = λ i. let e : 0 + i ≡ i = omega arith in ap (slice_get (list_of body)) e }

own_held : (h : Holder) (held : Items) → own_component (holder_item h held) ≡ Some (record { kind = holder_kind h; body = held })
own_held (define m k) held = refl
own_held (anonymous s k) held = refl

kind_held : (d : Items) (b : List ℕ) (n : ℕ) (body held rest : Items) (h : Holder) → Place d b n body (holder h held rest) → kind_at d (b ++ n ∷ []) ≡ Some (holder_kind h)
kind_held d b n body held rest h here =
    let there = item_there d b n body (holder_item h held) here.is (holder_got h held here) in
    ap (λ x. option_map (λ (k : Component). k.kind) (option_and_then own_component x)) there ∙ ap (option_map (λ (k : Component). k.kind)) (own_held h held)

body_held : (d : Items) (b : List ℕ) (n : ℕ) (body held rest : Items) (h : Holder) → Place d b n body (holder h held rest) → body_at (b ++ n ∷ []) d ≡ Some held
body_held d b n body held rest h here = body-inside b n d body (holder_item h held) (record { kind = holder_kind h; body = held }) here.is (holder_got h held here) (own_held h held)

-- how many items a body has
all_items : (d : Items) (c : List ℕ) (body : Items) → body_at c d ≡ Some body → length (list_of body) ≡ items_in c d
all_items d c body is = ap (λ o. elim o [ None ↦ 0 | Some t ↦ length (list_of t) ]) (sym is)

-- what is known of a component is what the search finds of it
told_component : (lay : Laying) (d : Items) (c : List ℕ) (k : Kind) (held : Items) (a : Around) → kind_at d c ≡ Some k → body_at c d ≡ Some held
    → Tells d c (0 + length (list_of held)) (body_of lay a held).instances → Told d c (known lay a k held)
told_component lay d c k held a kind is tells = record { kind = kind; inside = names }
  where
    names : (ns : List (List ℕ)) → kind_below d ns c ≡ within_kind ns (known lay a k held).within
    names [] = kind
    names (q ∷ rest) =
        let z : length (list_of held) ≡ 0 + length (list_of held) = omega arith in
        let e : items_in c d ≡ 0 + length (list_of held) = sym (all_items d c held is) ∙ z in
        ap (λ m. target_kind d c m (q ∷ rest)) e ∙ tells q rest

-- a field without a fault has no instances
pub no_clean : (x y : Bool) → x ≡ false → (x && y) ≡ true → ⊥
no_clean x y e h = both_ways x e (both_first x y h)

field_empty : (lay : Laying) (body : Items) (i : ℕ) (a : Around) (t : Items) → are_clean lay a (Some Field) body i no_instances t ≡ true → (walked lay a no_instances t).instances ≡ no_instances
field_empty lay body i a no_items h = refl
field_empty lay body i a (plain (named s t) rest) h =
    absurd (no_clean (is_none (plain_fault a (Some Field) body i no_instances (named s t))) (are_clean lay a (Some Field) body (suc i) (plain_instances a (named s t) no_instances) rest)
    (no_instance (is_some (instance_before s.name i body)) s (kind_of t a)) h)
field_empty lay body i a (plain (own p v) rest) h =
    field_empty lay body (suc i) a rest (both_second (is_none (plain_fault a (Some Field) body i no_instances (own p v))) (are_clean lay a (Some Field) body (suc i) no_instances rest) h)
field_empty lay body i a (plain (default p v) rest) h =
    field_empty lay body (suc i) (after_plain (default p v) a) rest
    (both_second (is_none (plain_fault a (Some Field) body i no_instances (default p v))) (are_clean lay (after_plain (default p v) a) (Some Field) body (suc i) no_instances rest) h)
field_empty lay body i a (plain (dynamic t p v) rest) h =
    field_empty lay body (suc i) a rest (both_second (is_none (plain_fault a (Some Field) body i no_instances (dynamic t p v))) (are_clean lay a (Some Field) body (suc i) no_instances rest) h)
field_empty lay body i a (holder g held rest) h =
    let k = known lay a (holder_kind g) held in
    absurd (no_clean (is_none (holder_fault (Some Field) body i g))
    (are_clean lay a (Some (holder_kind g)) held 0 no_instances held && are_clean lay (after_holder g k a) (Some Field) body (suc i) (holder_instances g k no_instances) rest)
    (no_holder body i g) h)

-- what is found in the component of an instance that is written where it stands
held_within : (lay : Laying) (d : Items) (c : List ℕ) (k : Kind) (s : Shell) (held : Items) (a : Around) → Told d c (known lay a k held) → are_clean lay a (Some k) held 0 no_instances held ≡ true
    → (before : Inside) → (w : Within) × (TellsOf d c w) × (holder_instances (anonymous s k) (known lay a k held) before ≡ with_instance s.name w before)
held_within lay d c Field s held a told clean before = (nothing_within, names, refl)
  where
    names : (ns : List (List ℕ)) → kind_below d ns c ≡ within_kind ns nothing_within
    names [] = told.inside []
    names (q ∷ rest) = told.inside (q ∷ rest) ∙ ap (kind_in (q ∷ rest)) (field_empty lay held 0 a held clean)
held_within lay d c Addrmap s held a told clean before = ((known lay a Addrmap held).within, told.inside, refl)
held_within lay d c Regfile s held a told clean before = ((known lay a Regfile held).within, told.inside, refl)
held_within lay d c Reg s held a told clean before = ((known lay a Reg held).within, told.inside, refl)

tells_holder : (lay : Laying) (d : Items) (around : Option Kind) (b : List ℕ) (n : ℕ) (body held rest : Items) (a : Around) (before : Inside) (h : Holder) → Place d b n body (holder h held rest)
    → Told d (b ++ n ∷ []) (known lay a (holder_kind h) held) → are_clean lay a (Some (holder_kind h)) held 0 no_instances held ≡ true
    → item_fault d around b body n (holder_item h held) ≡ None → Tells d b n before → Tells d b (suc n) (holder_instances h (known lay a (holder_kind h) held) before)
unfolding item_fault
tells_holder lay d around b n body held rest a before (define m k) here told clean clear tells =
    tells_other d b n body before (holder_item (define m k) held) here.is (holder_got (define m k) held here) (λ q. refl) tells
tells_holder lay d around b n body held rest a before (anonymous s k) here told clean clear tells =
    let got = holder_got (anonymous s k) held here in
    let there = item_there d b n body (holder_item (anonymous s k) held) here.is got in
    let found = held_within lay d (b ++ n ∷ []) k s held a told clean before in
    subst (Tells d b (suc n)) (sym found.2)
    (tells_instance d around b n body before s (Anonymous (record { kind = k; body = held })) found.0 (b ++ n ∷ []) here.is got clear
    (sym (component-anonymous d (b ++ n ∷ []) s (record { kind = k; body = held }) there)) found.1 tells)

holder_is_judged : (lay : Laying) (d : Items) (h : Holder) (held rest : Items) → IsJudged lay d held → IsJudged lay d rest → IsJudged lay d (holder h held rest)
holder_is_judged lay d h held rest inside behind around b body n a before here types tells =
    let c = b ++ n ∷ [] in
    let k = item_fault d around b body n (holder_item h held) in
    let it = known lay a (holder_kind h) held in
    let fault_e = holder_judged d b n body held rest around h here in
    let is = body_held d b n body held rest h here in
    let inner = inside (Some (holder_kind h)) c held 0 a no_instances (body_first d c held is) (types_inside d c held a is types) (tells_nothing d c held is) in
    let within = are_clean lay a (Some (holder_kind h)) held 0 no_instances held in
    let more = are_clean lay (after_holder h it a) around body (suc n) (holder_instances h it before) rest in
    let told : within ≡ true → Told d c it = λ w. told_component lay d c (holder_kind h) held a (kind_held d b n body held rest h here) is (inner.tells w) in
    let next : k ≡ None → within ≡ true → Judged lay d around b body (suc n) (after_holder h it a) (holder_instances h it before) rest =
    λ clear w. behind around b body (suc n) (after_holder h it a) (holder_instances h it before) (holder_next h held here) (types_holder d b n body rest a h held it here (told w) types)
    (tells_holder lay d around b n body held rest a before h here (told w) w clear tells) in
    let inner_fault = first_fault d (Some (holder_kind h)) c held 0 held in
    let rest_fault = first_fault d around b body (suc n) rest in
    record {
      same =
          ap (λ (f : Option FaultKind). is_none f && (within && more)) fault_e
          ∙ and_same (is_none k) (within && more) (is_none inner_fault && is_none rest_fault)
          (λ z. and_same within more (is_none rest_fault) (λ w. (next (none_clear k z) w).same) ∙ ap (λ (y : Bool). y && is_none rest_fault) inner.same)
          ∙ ap (λ (y : Bool). is_none k && y) (sym (clear_both inner_fault rest_fault))
          ∙ sym (clear_or c k (option_or inner_fault rest_fault));
      tells = λ z.
          let all = both_second (is_none (holder_fault around body n h)) (within && more) z in
          let clear = none_clear k (ap is_none (sym fault_e) ∙ both_first (is_none (holder_fault around body n h)) (within && more) z) in
          let w = both_first within more all in
          shifted d b n (length (list_of rest)) (walked lay (after_holder h it a) (holder_instances h it before) rest).instances ((next clear w).tells (both_second within more all));
    }

none_is_judged : (lay : Laying) (d : Items) → IsJudged lay d no_items
none_is_judged lay d around b body n a before here types tells = record { same = refl; tells = λ h. subst (λ m. Tells d b m before) (plus_zero n) tells }

pub is_judged : (lay : Laying) (d t : Items) → IsJudged lay d t
is_judged lay d no_items = none_is_judged lay d
is_judged lay d (plain p rest) = plain_is_judged lay d p rest (is_judged lay d rest)
is_judged lay d (holder h held rest) = holder_is_judged lay d h held rest (is_judged lay d held) (is_judged lay d rest)

-- at the root nothing stands around
no_types : (d : Items) → AreTypes d (0 ∷ []) nothing_around
no_types d name = subst (λ o. SameType d o None) (sym (ap (λ o. option_or (option_map (λ a. 0 ∷ a) o) (option_map (λ k. k ∷ []) (last_definition name 0 d))) (no_type (inner 0 d) name))) tt

root_judged : (lay : Laying) (d : Items) → is_clean_map lay d ≡ is_none (first_fault d None [] d 0 d)
root_judged lay d = (is_judged lay d d None [] d 0 nothing_around no_instances (body_first d [] d refl) (no_types d) (tells_nothing d [] d refl)).same

unless_large : (large : Bool) (f : Fault) (o : Option Fault) → is_none (elim large [ true ↦ Some f | false ↦ o ]) ≡ (not large && is_none o)
unless_large true f o = refl
unless_large false f o = refl

pub faults_are_found : FaultsAreFound
faults_are_found lay d =
    unless_large (is_too_large d) (record { kind = DescriptionTooLarge; address = [] }) (first_fault d None [] d 0 d)
    ∙ ap (λ (z : Bool). not (is_too_large d) && z) (sym (root_judged lay d))
