-- What is walked of some items is what stands there.
use Rattle.std.proofs.Common.{◌≡◌, ℕ, suc, true, false, List, [], ◌∷◌, ◌++◌, Option, Some, option_map, bytes_eq, if◌then◌else◌, refl, sym, ap, subst, ◌∙◌}
use Rattle.std.specs.Prelude.{min, ◌||◌, Bool, ◌&&◌, not}
use Rattle.std.specs.Option.{option_or}
use Rattle.rdl_tree.specs.Component.{holder_kind}
use Rattle.rdl_tree.specs.Depth.{depth}
use Rattle.rdl_tree.specs.Items.{Items, no_items, plain, holder, Plain, named, own, default, dynamic, Holder, define, anonymous}
use Rattle.rdl_tree.specs.declared.shell.Kind.{Kind}
use Rattle.rdl_tree.specs.declared.shell.Kind.TheVariants.{Addrmap, Regfile, Reg, Field}
use Rattle.rdl_tree.specs.declared.shell.Shell.{Shell}
use Rattle.rdl_tree.specs.Properties.{row}
use Rattle.rdl_scope.specs.Closed as scope
use Rattle.rdl_scope.specs.Closed.{Parts, no_parts, part, Made, Standing, lookup, head_at, with_made, parts}
use Rattle.rdl_seen.specs.declared.values.Values.{Values}
use Rattle.rdl_seen.specs.Contents.{are_harmless, contents, with_slot, with_instance as contents_with, field_of}
use Rattle.rdl_seen.specs.Fields.{of_field, of_seen, member_of, members, resets, accesses, clash_none, are_fields_sound}
use Rattle.rdl_seen.specs.Inside.{Spots, asked, verdict_of, is_harmless, Inside, no_instances, nothing_within, with_instance}
use Rattle.rdl_seen.specs.Layouts.{sizes, accesses as widest}
use Rattle.rdl_seen.specs.Meaning.{defaults_of, stated_of, HasValues}
use Rattle.rdl_seen.specs.Names.{class_of}
use Rattle.rdl_seen.specs.Node.{Known, Around, with_type, after_plain, is_container, is_ordered, values_of, core_of, known_of, within_type, Walked, walked, known, spots_of, apart_of, sound_inside, sound_of}
use Rattle.rdl_seen.specs.Slots.{Core, slot, written, field_slot, named_slot, part_slot}
use Rattle.rdl_seen.specs.Values.{bit_count, access, put_named}
use Rattle.rdl_seen.proofs.Puts.{put-kept}
use Rattle.node_laws.specs.Laid.{laying}
use Rattle.node_laws.specs.Laws.{MeansAllBehind, MeansAllBehindComponent}
use Rattle.node_laws.specs.Meant.{AreKnown, MeansAll, IsSeen, IsCore, IsKnown}
use Rattle.node_laws.specs.Seen.{layouts_seen, member_seen, members_seen, behind, within_seen, spots_seen}
use Rattle.node_laws.specs.Sound.{resets_seen, accesses_seen, apart_seen, harmless, sound_by, sound_seen}
use Rattle.node_laws.proofs.Accepted.{IsNamed, HolderAccepted, AreAccepted, not-in-field, field-in-register, fields-are-flat}
use Rattle.node_laws.proofs.Inner.{IsInner, inner-none, inner-written, inner-part, inner-field, empty-is, more-depth, field-depth}
use Rattle.node_laws.proofs.Laying.{IsAlike, AreAlike, same-alike, laid-seen, seen-member, field-member, apart-alike}

-- ---- What is seen behind an item.

pub means_all_behind : MeansAllBehind
means_all_behind e a same (named s t) = record { types = same.types; defaults = same.defaults }
means_all_behind e a same (own p x) = record { types = same.types; defaults = same.defaults }
means_all_behind e a same (default p x) = record {
  types = same.types;
  defaults = ap (put_named p x) same.defaults ∙ put-kept p x (λ q. lookup (row q).name e.defaults);
}
means_all_behind e a same (dynamic t p x) = record { types = same.types; defaults = same.defaults }

pub means_all_behind_component : MeansAllBehindComponent
means_all_behind_component e a same (define n k) at body inside known is = record { types = (refl, is, same.types); defaults = same.defaults }
means_all_behind_component e a same (anonymous s k) at body inside known is = record { types = same.types; defaults = same.defaults }

-- a type that is there is known
record IsThere (m : Made) (o : Option Known) : Type 0 where
  known : Known
  there : o ≡ Some known
  is : IsKnown m known

here-or-behind : (x y : Bool) (made m : Made) (known : Known) (o : Option Made) (p : Option Known) → x ≡ y → IsKnown made known → (o ≡ Some m → IsThere m p)
    → (if x then Some made else o) ≡ Some m → IsThere m (if y then Some known else p)
here-or-behind true true made m known o p e is more h = let same : made ≡ m = cc in record { known = known; there = refl; is = subst (λ z. IsKnown z known) same is }
here-or-behind true false made m known o p e is more h = absurd cc
here-or-behind false true made m known o p e is more h = absurd cc
here-or-behind false false made m known o p e is more h = more h

known-there : (name : List ℕ) (xs : List (List ℕ × Made)) (ys : List (List ℕ × Known)) (m : Made) → AreKnown xs ys → lookup name xs ≡ Some m → IsThere m (lookup name ys)
known-there name [] [] m are h = absurd cc
known-there name (x ∷ xs) [] m are h = absurd are
known-there name [] (y ∷ ys) m are h = absurd are
known-there name (x ∷ xs) (y ∷ ys) m are h =
    here-or-behind (bytes_eq x.0 name) (bytes_eq y.0 name) x.1 m y.1 (lookup name xs) (lookup name ys) (ap (λ n. bytes_eq n name) are.0) are.1
    (known-there name xs ys m are.2) h

-- ---- What is walked.

-- these slots and instances, behind others, are these parts of a component of this kind
pub record IsWalked (around : Option Kind) (v : Values) (t : Items) (w : Walked) (before : Inside) (ps : Parts) : Type 0 where
  pub members : AreAlike around (members v t w.slots) (members_seen ps)
  pub inner : IsInner (contents w.slots) ps
  pub depth : min (contents w.slots).depth 255 ≡ min (depth t) 255
  pub resets : resets v t w.slots ≡ resets_seen ps
  pub accesses : accesses v t w.slots ≡ accesses_seen ps
  pub harmless : (spots : Spots) → are_harmless spots w.slots ≡ harmless spots t ps before
  pub instances : w.instances ≡ behind ps before

-- what is kept of a component, and known of it
pub record IsNode (m : Made) (c : Core) (instances : Inside) : Type 0 where
  pub core : IsCore m c
  pub known : IsKnown m (known_of c instances)

module _ (e : Standing) (a : Around) (same : MeansAll e a) (at : List ℕ) (k : Kind) (body : Items) (w : Walked) (ps : Parts)
    (stated : values_of k (defaults_of e.defaults) body ≡ stated_of (head_at at k body e))
    (values : HasValues (head_at at k body e) (values_of k (defaults_of e.defaults) body)) (walks : IsWalked (Some k) a.defaults body w no_instances ps) where
  abbrev made : Made
  made = record { head = head_at at k body e; parts = ps }

  abbrev core : Core
  core = core_of laying k a.defaults body w.slots

  has-values : HasValues (head_at at k body e) core.values
  has-values = subst (λ v. HasValues (head_at at k body e) (values_of k v body)) (sym same.defaults) values

  is-stated : core.values ≡ stated_of (head_at at k body e)
  is-stated = ap (λ v. values_of k v body) same.defaults ∙ stated

  laid : core.layouts ≡ layouts_seen made
  laid = laid-seen (head_at at k body e) core.values (members a.defaults body w.slots) ps has-values walks.members

  is-apart : core.apart ≡ apart_seen made
  is-apart = apart-alike k core.values core.layouts (members a.defaults body w.slots) (members_seen ps) walks.members ∙ (λ i. apart_of k (is-stated i) (laid i) (members_seen ps))

  is-harmless : are_harmless (spots_of k core.layouts) w.slots ≡ harmless (spots_seen made) body ps no_instances
  is-harmless = ap (λ l. are_harmless (spots_of k l) w.slots) laid ∙ walks.harmless (spots_seen made)

  is-sound : core.seen.sound ≡ sound_seen made
  unfolding sound_by
  is-sound = λ i.
      sound_of k (sound_inside k (is-stated i) (walks.inner.sound i)) (is-apart i)
      (are_fields_sound (is-stated i) (laid i).compact.spans (walks.resets i) (is_ordered k (laid i) || clash_none (laid i).compact.spans (walks.accesses i)))
      (is-harmless i)

  is-seen : IsSeen made core.seen
  is-seen = record {
    kind = refl;
    levels = walks.inner.levels;
    rows = walks.inner.rows;
    is_empty = ap (λ b. is_container k && not b) walks.inner.has_instances ∙ empty-is k ps;
    has_empty = walks.inner.has_empty;
    size = ap sizes laid;
    widest = ap widest laid;
    is_ordered = ap (is_ordered k) laid;
    depth = walks.depth;
    access = ap access is-stated;
    reset = ap (λ (v : Values). v.reset) is-stated;
    sound = is-sound;
  }

  is-node : IsNode made core w.instances
  is-node = record {
    core = record { seen = is-seen; layouts = laid; apart = is-apart; stated = is-stated; whole = has-values };
    known = record {
      seen = is-seen;
      within = λ i. record { kind = k; spots = record { spans = (laid i).compact.spans; is_ordered = is_ordered k (laid i) }; inside = walks.instances i };
    };
  }

-- what is walked of these items, wherever they stand without a fault, is what stands there
abbrev Walks : Items → Type 0
Walks t =
    (around : Option Kind) (e : Standing) (a : Around) (b : List ℕ) (n : ℕ) (before : Inside) → MeansAll e a → AreAccepted around e b n t
    → IsWalked around a.defaults t (walked laying a before t) before (parts e b n t)

-- an instance of which the component is seen, before others
abbrev named_walked : Around → Inside → Shell → List ℕ → Items → Option Known → Walked
named_walked a before s t rest p =
    let more = walked laying a (with_instance s.name (within_type p) before) rest in
    record { slots = slot (named_slot (class_of t) (option_map (λ (k : Known). k.seen) p)) more.slots; instances = more.instances }

instances-more : (s : Shell) (m : Made) (k : Known) (at : List ℕ) (w before : Inside) (ps : Parts) → IsKnown m k → w ≡ behind ps (with_instance s.name k.within before)
    → w ≡ behind (part at s m.head m.parts ps) before
instances-more s m k at w before ps is e = e ∙ ap (λ z. behind ps (with_instance s.name z before)) is.within

named-here : (around : Option Kind) (v : Values) (s : Shell) (t : List ℕ) (rest : Items) (w : Walked) (before : Inside) (at : List ℕ) (ps : Parts) (m : Made) (k : Known)
    → IsKnown m k → IsWalked around v rest w (with_instance s.name k.within before) ps
    → IsWalked around v (plain (named s t) rest) (record { slots = slot (named_slot (class_of t) (Some k.seen)) w.slots; instances = w.instances }) before (part at s m.head m.parts ps)
named-here around v s t rest w before at ps m k is more = record {
  members = (same-alike around (member_of v s (of_seen k.seen)) (member_seen s m) (seen-member v s m k.seen is.seen), more.members);
  inner = inner-part m k.seen (contents w.slots) at s ps is.seen more.inner;
  depth = more.depth;
  resets = λ i. option_or (option_map bit_count s.reset) (is.seen.reset i) ∷ more.resets i;
  accesses = λ i. is.seen.access i ∷ more.accesses i;
  harmless = λ spots. more.harmless spots ∙ ap (λ z. harmless spots rest ps (with_instance s.name z before)) is.within;
  instances = instances-more s m k at w.instances before ps is more.instances;
}

named-walks : (s : Shell) (t : List ℕ) (rest : Items) → Walks rest → Walks (plain (named s t) rest)
named-walks s t rest walks around e a b n before same accepted =
    let first : IsNamed around e t = accepted.0 in
    let type = known-there t e.types a.types first.made same.types first.there in
    let at = b ++ n ∷ [] in
    let ps = parts e b (suc n) rest in
    let more = walks around e a b (suc n) (with_instance s.name type.known.within before) same accepted.1 in
    subst (λ p. IsWalked around a.defaults (plain (named s t) rest) (named_walked a before s t rest p) before (with_made at s (lookup t e.types) ps)) (sym type.there)
    (subst (λ o. IsWalked around a.defaults (plain (named s t) rest) (named_walked a before s t rest (Some type.known)) before (with_made at s o ps)) (sym first.there)
    (named-here around a.defaults s t rest (walked laying a (with_instance s.name type.known.within before) rest) before at ps first.made type.known type.is more))

plain-walks : (p : Plain) (rest : Items) → Walks rest → Walks (plain p rest)
plain-walks (named s t) rest walks around e a b n before same accepted = named-walks s t rest walks around e a b n before same accepted
plain-walks (own p x) rest walks around e a b n before same accepted =
    let more = walks around e a b (suc n) before same accepted.1 in record { members = more.members; inner = more.inner; depth = more.depth; resets = more.resets; accesses = more.accesses; harmless = more.harmless; instances = more.instances }
plain-walks (default p x) rest walks around e a b n before same accepted =
    let more =
    walks around (scope.after_plain (default p x) e) (after_plain (default p x) a) b (suc n) before (means_all_behind e a same (default p x)) accepted.1 in
    record { members = more.members; inner = more.inner; depth = more.depth; resets = more.resets; accesses = more.accesses; harmless = more.harmless; instances = more.instances }
plain-walks (dynamic t p x) rest walks around e a b n before same accepted =
    let more = walks around e a b (suc n) before same accepted.1 in record { members = more.members; inner = more.inner; depth = more.depth; resets = more.resets; accesses = more.accesses; harmless = λ spots. ap (λ z. is_harmless spots (verdict_of (asked p x) t before) && z) (more.harmless spots); instances = more.instances }

-- a component among the items
abbrev pub made_here : Standing → List ℕ → Kind → Items → Made
made_here e at k body = record { head = head_at at k body e; parts = parts e at 0 body }

abbrev pub core_here : Around → Kind → Items → Core
core_here a k body = core_of laying k a.defaults body (walked laying a no_instances body).slots

here : (k : Kind) (body : Items) → Walks body → (e : Standing) (a : Around) (at : List ℕ) → MeansAll e a
    → values_of k (defaults_of e.defaults) body ≡ stated_of (head_at at k body e) → HasValues (head_at at k body e) (values_of k (defaults_of e.defaults) body)
    → AreAccepted (Some k) e at 0 body → IsNode (made_here e at k body) (core_here a k body) (walked laying a no_instances body).instances
here k body walks e a at same stated values accepted =
    is-node e a same at k body (walked laying a no_instances body) (parts e at 0 body) stated values (walks (Some k) e a at 0 no_instances same accepted)

define-walks : (name : List ℕ) (k : Kind) (body rest : Items) → Walks body → Walks rest → Walks (holder (define name k) body rest)
define-walks name k body rest inside walks around e a b n before same accepted =
    let at = b ++ n ∷ [] in
    let component : HolderAccepted around e at (define name k) body = accepted.0 in
    let node_is = here k body inside e a at same component.stated component.whole accepted.1 in
    let known_is = known_of (core_here a k body) (walked laying a no_instances body).instances in
    let around_is = with_type name known_is a in
    let e_is = scope.with_type name (made_here e at k body) e in
    let more =
    walks around e_is around_is b (suc n) before (means_all_behind_component e a same (define name k) at body (parts e at 0 body) known_is node_is.known) accepted.2 in
    record {
      members = more.members;
      inner = inner-written (core_here a k body).seen (contents (walked laying around_is before rest).slots) (parts e_is b (suc n) rest) more.inner;
      depth = more-depth (core_here a k body).seen.depth (contents (walked laying around_is before rest).slots).depth (depth body) (depth rest) node_is.known.seen.depth more.depth;
      resets = more.resets;
      accesses = more.accesses;
      harmless = more.harmless;
      instances = more.instances;
    }

-- an instance with a component of its own
abbrev part_walked : Around → Inside → Shell → Kind → Items → Items → Walked
part_walked a before s k body rest =
    let core = core_here a k body in
    let inner = walked laying a no_instances body in
    let more = walked laying a (with_instance s.name (known_of core inner.instances).within before) rest in
    record { slots = written part_slot core inner.slots more.slots; instances = more.instances }

part-walks : (s : Shell) (k : Kind) (body rest : Items) → Walks body → Walks rest
    → (around : Option Kind) (e : Standing) (a : Around) (b : List ℕ) (n : ℕ) (before : Inside) → MeansAll e a → AreAccepted around e b n (holder (anonymous s k) body rest)
    → IsWalked around a.defaults (holder (anonymous s k) body rest) (part_walked a before s k body rest) before (parts e b n (holder (anonymous s k) body rest))
part-walks s k body rest inside walks around e a b n before same accepted =
    let at = b ++ n ∷ [] in
    let component : HolderAccepted around e at (anonymous s k) body = accepted.0 in
    let node_is = here k body inside e a at same component.stated component.whole accepted.1 in
    let seen = (core_here a k body).seen in
    let made_is = made_here e at k body in
    let known_is = known_of (core_here a k body) (walked laying a no_instances body).instances in
    let w = walked laying a (with_instance s.name known_is.within before) rest in
    let ps = parts e b (suc n) rest in
    let more = walks around e a b (suc n) (with_instance s.name known_is.within before) same accepted.2 in
    record {
      members = (same-alike around (member_of a.defaults s (of_seen seen)) (member_seen s made_is) (seen-member a.defaults s made_is seen node_is.known.seen), more.members);
      inner = inner-written seen (contents_with seen (contents w.slots)) (part at s made_is.head made_is.parts ps) (inner-part made_is seen (contents w.slots) at s ps node_is.known.seen more.inner);
      depth = more-depth seen.depth (contents w.slots).depth (depth body) (depth rest) node_is.known.seen.depth more.depth;
      resets = λ i. option_or (option_map bit_count s.reset) (node_is.known.seen.reset i) ∷ more.resets i;
      accesses = λ i. node_is.known.seen.access i ∷ more.accesses i;
      harmless = λ spots. more.harmless spots ∙ ap (λ z. harmless spots rest ps (with_instance s.name z before)) node_is.known.within;
      instances = instances-more s made_is known_is at w.instances before ps node_is.known more.instances;
    }

-- a field has no instances, and targets find nothing inside it
fields-empty : (e : Standing) (b : List ℕ) (n : ℕ) (t : Items) → AreAccepted (Some Field) e b n t → parts e b n t ≡ no_parts
fields-empty e b n no_items h = refl
fields-empty e b n (plain (named s t) rest) h = let first : IsNamed (Some Field) e t = h.0 in absurd (first.holds refl)
fields-empty e b n (plain (own p x) rest) h = fields-empty e b (suc n) rest h.1
fields-empty e b n (plain (default p x) rest) h = fields-empty (scope.after_plain (default p x) e) b (suc n) rest h.1
fields-empty e b n (plain (dynamic t p x) rest) h = fields-empty e b (suc n) rest h.1
fields-empty e b n (holder (define name k) body rest) h =
    fields-empty (scope.after_holder (define name k) (b ++ n ∷ []) body (parts e (b ++ n ∷ []) 0 body) e) b (suc n) rest h.2
fields-empty e b n (holder (anonymous s k) body rest) h =
    let first : HolderAccepted (Some Field) e (b ++ n ∷ []) (anonymous s k) body = h.0 in absurd (not-in-field (Some Field) k first.stands refl)

field-within : (at : List ℕ) (body : Items) (e : Standing) (ps : Parts) → ps ≡ no_parts → nothing_within ≡ within_seen (record { head = head_at at Field body e; parts = ps })
unfolding layouts_seen
field-within at body e ps is = λ i. record { kind = Field; spots = record { spans = []; is_ordered = false }; inside = behind (sym is i) no_instances }

field-walks : (s : Shell) (body rest : Items) → Walks rest → Walks (holder (anonymous s Field) body rest)
field-walks s body rest walks around e a b n before same accepted =
    let at = b ++ n ∷ [] in
    let component : HolderAccepted around e at (anonymous s Field) body = accepted.0 in
    let empty = fields-empty e at 0 body accepted.1 in
    let w = walked laying a (with_instance s.name nothing_within before) rest in
    let ps = parts e b (suc n) rest in
    let more = walks around e a b (suc n) (with_instance s.name nothing_within before) same accepted.2 in
    let made_is = made_here e at Field body in
    let stated : values_of Field a.defaults body ≡ stated_of (head_at at Field body e) = ap (λ v. values_of Field v body) same.defaults ∙ component.stated in
    let alike : IsAlike (Some Reg) (member_of a.defaults s (of_field (field_of body))) (member_seen s made_is) =
    field-member a.defaults (values_of Field (defaults_of e.defaults) body) s (field_of body) at body e (parts e at 0 body) component.whole component.stated
    (ap (λ v. (values_of Field v body).fieldwidth) (sym same.defaults)) in
    record {
      members = (
        subst (λ o. IsAlike o (member_of a.defaults s (of_field (field_of body))) (member_seen s made_is)) (sym (field-in-register around component.stands)) alike,
        more.members,
      );
      inner =
          subst (λ z. IsInner (with_slot (field_slot (field_of body)) (contents w.slots)) (part at s (head_at at Field body e) z ps)) (sym empty)
          (inner-field (field_of body) (contents w.slots) at at s body e ps more.inner);
      depth = field-depth (contents w.slots).depth (depth body) (depth rest) (fields-are-flat e at 0 body accepted.1) more.depth;
      resets = λ i. option_or (option_map bit_count s.reset) (stated i).reset ∷ more.resets i;
      accesses = λ i. access (stated i) ∷ more.accesses i;
      harmless = λ spots. more.harmless spots ∙ ap (λ z. harmless spots rest ps (with_instance s.name z before)) (field-within at body e (parts e at 0 body) empty);
      instances = more.instances ∙ ap (λ z. behind ps (with_instance s.name z before)) (field-within at body e (parts e at 0 body) empty);
    }

holder-walks : (h : Holder) (body rest : Items) → Walks body → Walks rest → Walks (holder h body rest)
holder-walks (define name k) body rest inside walks = define-walks name k body rest inside walks
holder-walks (anonymous s Field) body rest inside walks = field-walks s body rest walks
holder-walks (anonymous s Addrmap) body rest inside walks = part-walks s Addrmap body rest inside walks
holder-walks (anonymous s Regfile) body rest inside walks = part-walks s Regfile body rest inside walks
holder-walks (anonymous s Reg) body rest inside walks = part-walks s Reg body rest inside walks

none-walk : Walks no_items
none-walk around e a b n before same accepted = record { members = tt; inner = inner-none; depth = refl; resets = refl; accesses = refl; harmless = λ spots. refl; instances = refl }

pub walks : (t : Items) → Walks t
walks no_items = none-walk
walks (plain p rest) = plain-walks p rest (walks rest)
walks (holder h body rest) = holder-walks h body rest (walks body) (walks rest)

-- the node of a component that stands without a fault
pub node-here : (h : Holder) (body : Items) (around : Option Kind) (e : Standing) (a : Around) (at : List ℕ) → MeansAll e a → HolderAccepted around e at h body
    → AreAccepted (Some (holder_kind h)) e at 0 body
    → IsNode (made_here e at (holder_kind h) body) (core_here a (holder_kind h) body) (walked laying a no_instances body).instances
node-here h body around e a at same component accepted = here (holder_kind h) body (walks body) e a at same component.stated component.whole accepted
