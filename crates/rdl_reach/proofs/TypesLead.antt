-- Where all items stay quietly and the skeleton stays, no type becomes another definition.
use Rattle.std.proofs.Common.{◌≡◌, ℕ, zero, suc, ◌≤◌, Bool, true, false, ◌||◌, List, [], ◌∷◌, ◌++◌, length, drop, Option, Some, None, unwrap_or, refl, sym, ap, subst, ◌∙◌, arith}
use Rattle.std.specs.Prelude.{not, option_map, option_and_then, bytes_eq}
use Rattle.std.specs.Option.{option_or}
use Rattle.std.proofs.lemmas.List.{append_assoc, append-nil}
use Rattle.std.proofs.lemmas.Slice.Eq.{bytes_eq-Decides}
use Rattle.rdl_tree.specs.Address.{inner, body_at}
use Rattle.rdl_tree.specs.Items.{Items}
use Rattle.rdl_tree.specs.View.{list_of, items_of}
use Rattle.rdl_tree.specs.declared.description.Item.{Item}
use Rattle.rdl_tree.specs.declared.description.Item.TheVariants.{Define, Instance, Own, Default, Dynamic}
use Rattle.rdl_tree.specs.declared.description.Of.TheVariants.{Named, Anonymous}
use Rattle.rdl_tree.proofs.Edits.{get-some}
use Rattle.rdl_scope.specs.Closed.{lookup}
use Rattle.rdl_scope.specs.Types.{last_definition, type_at, type_from, type_of, items_in}
use Rattle.rdl_scope.proofs.Accepted.{inner-own}
use Rattle.rdl_scope.proofs.Levelled.{item-deeper, body-inside}
use Rattle.rdl_marks.specs.Describes.{Describes, IsItem, restored}
use Rattle.rdl_marks.specs.InOrder.{AreInOrder}
use Rattle.rdl_marks.specs.Marks.{Firsts, Marks}
use Rattle.rdl_marks.specs.View.{Trace, new_item, old_item}
use Rattle.rdl_marks.specs.Was.{trace_of}
use Rattle.rdl_marks.proofs.From.{IsFrom}
use Rattle.rdl_reach.specs.Before.{number_then, address_before}
use Rattle.rdl_reach.specs.EditedBodies.{is_set, leads_where_it_led, has_another_type, any_has_another_type}
use Rattle.rdl_reach.specs.QuietMarks.{AreQuietMarks}
use Rattle.rdl_reach.specs.Skeleton.{skeleton_in, skeleton}
use Rattle.rdl_reach.proofs.Follows.{same_there, unchanged_there}
use Rattle.rdl_renew.proofs.ItemSteps.{inside_in_order}
use Rattle.rdl_reach.proofs.QuietEdits.{still-there}
use Rattle.rdl_renew.proofs.Raised.{from_there}
use Rattle.rdl_reach.proofs.SameTypes.{is_unquiet, unquiet_kept, none_unquiet, body_of, body_skeleton, heads, beside, type_same}
use Rattle.rdl_reach.proofs.Scopes.{Scope, names, scope_before, AreLed, LeadAlike, lead_alike, looked_up}
use Rattle.rdl_renew.proofs.SideBySide.{had}
use Rattle.rdl_reach.proofs.Stood.{was_inside}

-- ---- What a name leads to, from inside an item.

no_type : (o : Option Items) (name : List ℕ) → option_and_then (λ b. type_at [] b name) o ≡ None
no_type None name = refl
no_type (Some t) name = refl

deeper : (b : List ℕ) (i : ℕ) (T : Option (List ℕ)) (L : Option ℕ) (X : Option (List ℕ))
    → option_or (option_map (λ a. b ++ a) (option_or (option_map (λ a. i ∷ a) T) (option_map (λ k. k ∷ []) L))) X
    ≡ option_or (option_map (λ a. (b ++ i ∷ []) ++ a) T) (option_or (option_map (λ k. b ++ k ∷ []) L) X)
deeper b i (Some t) L X = ap Some (sym (append_assoc b (i ∷ []) t))
deeper b i None (Some k) X = refl
deeper b i None None X = refl

-- a name leads from item i of the body at b, and from inside it, to what it leads to there, or else to the definition in scope
abbrev Finds : Items → List ℕ → Items → Scope → Type 0
Finds d b u fs = (i : ℕ) (c name : List ℕ) → type_at (b ++ i ∷ c) d name ≡ option_or (option_map (λ a. b ++ a) (type_at (i ∷ c) u name)) (lookup name fs)

finds_all : (d : Items) → Finds d [] d []
finds_all d i c name = by (type_at (i ∷ c) d name)
  where
    by : (o : Option (List ℕ)) → o ≡ option_or (option_map (λ a. a) o) None
    by None = refl
    by (Some a) = refl

finds_inside : (d : Items) (b : List ℕ) (u e : Items) (fs : Scope) (i : ℕ) → Finds d b u fs → inner i u ≡ Some e → Finds d (b ++ i ∷ []) e (scope_before b i (list_of u) fs)
finds_inside d b u e fs i finds within j c name =
    ap (λ a. type_at a d name) (append_assoc b (i ∷ []) (j ∷ c)) ∙ finds i (j ∷ c) name
    ∙ ap (λ o. option_or (option_map (λ a. b ++ a) (option_or (option_map (λ a. i ∷ a) (option_and_then (λ t. type_at (j ∷ c) t name) o)) (option_map (λ k. k ∷ []) (last_definition name i u)))) (lookup name fs)) within
    ∙ deeper b i (type_at (j ∷ c) e name) (last_definition name i u) (lookup name fs)
    ∙ ap (option_or (option_map (λ a. (b ++ i ∷ []) ++ a) (type_at (j ∷ c) e name))) (sym (looked_up b name i u fs))

finds_here : (d : Items) (b : List ℕ) (u : Items) (fs : Scope) (i : ℕ) (name : List ℕ) → Finds d b u fs → type_at (b ++ i ∷ []) d name ≡ lookup name (scope_before b i (list_of u) fs)
finds_here d b u fs i name finds =
    finds i [] name
    ∙ ap (λ o. option_or (option_map (λ a. b ++ a) (option_or (option_map (λ a. i ∷ a) o) (option_map (λ k. k ∷ []) (last_definition name i u)))) (lookup name fs)) (no_type (inner i u) name)
    ∙ deeper b i None (last_definition name i u) (lookup name fs) ∙ sym (looked_up b name i u fs)

-- ---- One body.

map_none : (o : Option (List ℕ)) → o ≡ option_map (λ a. a) o
map_none None = refl
map_none (Some a) = refl

map_twice : (at : List ℕ) (n : ℕ) (o : Option (List ℕ)) → option_map (λ a. at ++ a) (option_map (λ a. n ∷ a) o) ≡ option_map (λ a. (at ++ n ∷ []) ++ a) o
map_twice at n None = refl
map_twice at n (Some a) = ap Some (sym (append_assoc at (n ∷ []) a))

-- a body that stood there, with the definitions in scope then and now
record IsBody (M : Marks) (old now : Items) (b : List ℕ) (u : Items) : Type 0 where
  at : List ℕ
  was : Items
  marks : Marks
  fs : Scope
  es : Scope
  before : (c : List ℕ) → address_before M (b ++ c) ≡ option_map (λ a. at ++ a) (address_before marks c)
  there : body_at b now ≡ Some u
  stood : body_at at old ≡ Some was
  described : Describes marks was u
  ordered : AreInOrder marks
  quiet : AreQuietMarks marks u
  led : AreLed M fs es
  same : skeleton_in (names es) was ≡ skeleton_in (names fs) u
  finds : Finds now b u fs
  found : Finds old at was es

first_moved : (a b : Bool) → (a || b) ≡ false → a ≡ false
first_moved true b e = e
first_moved false b e = refl

led_true : (m : Marks) (o u : Option (List ℕ)) → LeadAlike m o u → leads_where_it_led m o u ≡ true
led_true m None None h = refl
led_true m None (Some q) h = absurd h
led_true m (Some p) None h = absurd h
led_true m (Some p) (Some q) h = ap (λ o. elim o [ None ↦ false | Some c ↦ bytes_eq c q ]) h ∙ (bytes_eq-Decides q q).1 refl

module _ (M : Marks) (old now : Items) (b : List ℕ) (u : Items) (s : IsBody M old now b u) where
  -- the body of an item in it
  inside_body : (i : ℕ) (d : Items) → inner i u ≡ Some d → IsBody M old now (b ++ i ∷ []) d
  inside_body i d within =
      let t = still-there s.marks u d i s.quiet within in
      let y = inner-own i u d within in
      let from = from_there s.marks s.was u i (old_item t.number t.firsts t.inside) y.0 s.described y.2 t.told in
      let z = was_inside s.was t.number t.firsts t.inside y.0 y.1 d from y.3 in
      let h = beside M b s.at s.marks s.was u s.fs s.es s.before s.described s.ordered s.quiet s.led s.same i t.number t.firsts t.inside y.0 y.2 t.told t.unmoved in
      let all = heads M b s.at s.marks s.was u s.fs s.es s.before s.described s.ordered s.quiet s.led s.same i t.number y.0 z.item y.2 z.is h in
      record {
        at = s.at ++ t.number ∷ [];
        was = z.was;
        marks = t.inside;
        fs = scope_before b i (list_of u) s.fs;
        es = scope_before s.at t.number (list_of s.was) s.es;
        before = λ c.
            ap (address_before M) (append_assoc b (i ∷ []) c) ∙ s.before (i ∷ c) ∙ ap (λ o. option_map (λ a. s.at ++ a) (number_then (λ inside. address_before inside c) o)) t.told
            ∙ map_twice s.at t.number (address_before t.inside c);
        there = body-inside b i now u y.0 (record { kind = y.1; body = d }) s.there y.2 y.3;
        stood = body-inside s.at t.number old s.was z.item (record { kind = y.1; body = z.was }) s.stood z.is z.holds;
        described = z.described;
        ordered = inside_in_order s.marks i t.number t.firsts t.inside s.ordered t.told;
        quiet = t.quiet;
        led = h.scopes;
        same = sym (body_skeleton _ z.item _ y.1 z.was z.holds) ∙ ap body_of all ∙ body_skeleton _ y.0 _ y.1 d y.3;
        finds = finds_inside now b u d s.fs i s.finds within;
        found = finds_inside old s.at s.was z.was s.es t.number s.found z.there;
      }

  -- ---- Its items.

  abbrev IsLed : ℕ → ℕ → Type 0
  IsLed i n = leads_where_it_led M (type_of now (b ++ i ∷ [])) (type_of old (s.at ++ n ∷ [])) ≡ true

  neither-leads : (i n : ℕ) (y z : Item) → IsItem i u y → IsItem n s.was z → type_from now (b ++ i ∷ []) y ≡ None → type_from old (s.at ++ n ∷ []) z ≡ None → IsLed i n
  neither-leads i n y z e g none nor =
      let now_none = ap (option_and_then (type_from now (b ++ i ∷ []))) (item-deeper b i now u s.there ∙ e) ∙ none in
      let old_none = ap (option_and_then (type_from old (s.at ++ n ∷ []))) (item-deeper s.at n old s.was s.stood ∙ g) ∙ nor in
      λ j. leads_where_it_led M (now_none j) (old_none j)

  item_led : (i n : ℕ) (f : Firsts) (inside : Marks) (y z : Item) → IsItem i u y → IsItem n s.was z → trace_of s.marks i ≡ Some (old_item n f inside) → IsFrom s.was (old_item n f inside) y → IsLed i n
  item_led i n f inside (Define k c) z e g told from =
      neither-leads i n (Define k c) z e g refl (ap (type_from old (s.at ++ n ∷ [])) (sym (same_there s.was n (Define (unwrap_or f.defined k) (record { kind = c.kind; body = from.0.0 })) z from.0.1 g)))
  item_led i n f inside (Instance w (Anonymous c)) z e g told from =
      neither-leads i n (Instance w (Anonymous c)) z e g refl
      (ap (type_from old (s.at ++ n ∷ [])) (sym (same_there s.was n (Instance (unwrap_or f.shell w) (Anonymous (record { kind = c.kind; body = from.0.0 }))) z from.0.1 g)))
  item_led i n f inside (Own p v) z e g told from = neither-leads i n (Own p v) z e g refl (ap (type_from old (s.at ++ n ∷ [])) (sym (same_there s.was n (restored f (Own p v)) z from.0 g)))
  item_led i n f inside (Default p v) z e g told from = neither-leads i n (Default p v) z e g refl (ap (type_from old (s.at ++ n ∷ [])) (sym (same_there s.was n (restored f (Default p v)) z from.0 g)))
  item_led i n f inside (Dynamic t p v) z e g told from = neither-leads i n (Dynamic t p v) z e g refl (ap (type_from old (s.at ++ n ∷ [])) (sym (same_there s.was n (restored f (Dynamic t p v)) z from.0 g)))
  item_led i n f inside (Instance w (Named t)) z e g told from =
      let still = unchanged_there is_unquiet unquiet_kept s.marks s.was u s.described s.ordered (none_unquiet s.marks u s.quiet) i (old_item n f inside) (Instance w (Named t)) e told in
      let unmoved = first_moved f.is_moved (is_set f (Instance w (Named t))) still in
      let h = beside M b s.at s.marks s.was u s.fs s.es s.before s.described s.ordered s.quiet s.led s.same i n f inside (Instance w (Named t)) e told unmoved in
      let all = heads M b s.at s.marks s.was u s.fs s.es s.before s.described s.ordered s.quiet s.led s.same i n (Instance w (Named t)) z e g h in
      let same = type_same b s.at i n (scope_before b i (list_of u) s.fs) (scope_before s.at n (list_of s.was) s.es) s.was f inside (items_of (drop (suc i) (list_of u))) (items_of (drop (suc n) (list_of s.was))) w t z from g all in
      let alike = lead_alike M (scope_before b i (list_of u) s.fs) (scope_before s.at n (list_of s.was) s.es) t same.0 h.scopes same.3 in
      let now_type : type_of now (b ++ i ∷ []) ≡ lookup t (scope_before b i (list_of u) s.fs) =
      ap (option_and_then (type_from now (b ++ i ∷ []))) (item-deeper b i now u s.there ∙ e) ∙ finds_here now b u s.fs i t s.finds in
      let old_type : type_of old (s.at ++ n ∷ []) ≡ lookup same.0 (scope_before s.at n (list_of s.was) s.es) =
      ap (option_and_then (type_from old (s.at ++ n ∷ []))) (item-deeper s.at n old s.was s.stood ∙ g ∙ ap Some same.2) ∙ finds_here old s.at s.was s.es n same.0 s.found in
      (λ j. leads_where_it_led M (now_type j) (old_type j)) ∙ led_true M _ _ alike

  abbrev pick : Option (List ℕ) → ℕ → Bool
  pick o i = elim o [ None ↦ false | Some q ↦ not (leads_where_it_led M (type_of now (b ++ i ∷ [])) (type_of old q)) ]

  item_same : (i : ℕ) (y : Item) → IsItem i u y → has_another_type M old now (b ++ i ∷ []) ≡ false
  item_same i y e = by (trace_of s.marks i) refl
    where
      place : (o : Option Trace) → trace_of s.marks i ≡ o → address_before M (b ++ i ∷ []) ≡ option_map (λ a. s.at ++ a) (number_then (λ inside. Some []) o)
      place o told = s.before (i ∷ []) ∙ ap (λ o. option_map (λ a. s.at ++ a) (number_then (λ inside. Some []) o)) told

      by : (o : Option Trace) → trace_of s.marks i ≡ o → has_another_type M old now (b ++ i ∷ []) ≡ false
      by None told = ap (λ o. pick o i) (place None told)
      by (Some new_item) told = ap (λ o. pick o i) (place (Some new_item) told)
      by (Some (old_item n f inside)) told =
          let z = had s.marks s.was u i n f inside y s.described e told in
          let from = from_there s.marks s.was u i (old_item n f inside) y s.described e told in
          ap (λ o. pick o i) (place (Some (old_item n f inside)) told) ∙ ap not (item_led i n f inside y z.item e z.is told from)

  none_other : (n : ℕ) → n ≤ length (list_of u) → any_has_another_type M old now b n ≡ false
  none_other zero l = refl
  none_other (suc n) l =
      let y = get-some (list_of u) n (omega (arith, l)) in
      let one = item_same n y.0 y.1 in
      let rest = none_other n (omega (arith, l)) in
      λ j. one j || rest j

-- ---- All bodies.

next-body : (a : List ℕ) (b : Items) (o : Option Items) → option_and_then (body_at a) o ≡ Some b → (d : Items) × (o ≡ Some d) × (body_at a d ≡ Some b)
next-body a b None e = cc
next-body a b (Some d) e = (d, refl, e)

along : (M : Marks) (old now : Items) (a b : List ℕ) (u t : Items) → IsBody M old now b u → body_at a u ≡ Some t → IsBody M old now (b ++ a) t
along M old now [] b u t s e =
    let same : u ≡ t = cc in
    subst (λ p. IsBody M old now p t) (sym (append-nil b)) (subst (IsBody M old now b) same s)
along M old now (i ∷ a) b u t s e =
    let d = next-body a t (inner i u) e in
    subst (λ p. IsBody M old now p t) (append_assoc b (i ∷ []) a) (along M old now a (b ++ i ∷ []) d.0 t (inside_body M old now b u s i d.0 d.1) d.2)

pub types_lead : (m : Marks) (old now : Items) → Describes m old now → AreInOrder m → AreQuietMarks m now → skeleton now ≡ skeleton old → (a : List ℕ) (t : Items) → body_at a now ≡ Some t
    → any_has_another_type m old now a (items_in a now) ≡ false
types_lead m old now described ordered quiet same a t there =
    let root : IsBody m old now [] now = record {
      at = [];
      was = old;
      marks = m;
      fs = [];
      es = [];
      before = λ c. map_none (address_before m c);
      there = refl;
      stood = refl;
      described = described;
      ordered = ordered;
      quiet = quiet;
      led = tt;
      same = sym same;
      finds = finds_all now;
      found = finds_all old;
    } in
    let s = along m old now a [] now t root there in
    let count : items_in a now ≡ length (list_of t) = ap (λ (o : Option Items). elim o [ None ↦ 0 | Some t ↦ length (list_of t) ]) there in
    ap (any_has_another_type m old now a) count ∙ none_other m old now a t s (length (list_of t)) (omega arith)
