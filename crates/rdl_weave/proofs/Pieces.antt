-- Pieces one behind another, and those of the items of a body.
use Rattle.std.proofs.Common.{◌≡◌, ℕ, zero, suc, ◌+◌, ◌<◌, ◌≤◌, Bool, true, false, cond, List, [], ◌∷◌, ◌++◌, length, take, drop, get_or, drop-cons, Option, Some, None, Result, Ok, Err, refl, ap, sym, ◌∙◌, append_assoc, arith}
use Rattle.std.specs.Prelude.{OnOk, slice_range}
use Rattle.std.specs.Str.{IsUtf8, is_utf8}
use Rattle.std.proofs.lemmas.List.{append-nil, drop_all}
use Rattle.std.proofs.lemmas.Str.{is_utf8-from_IsUtf8, IsUtf8-from_is_utf8}
use Rattle.rdl_tree.specs.declared.description.Component.{Component}
use Rattle.rdl_tree.specs.declared.shell.Shell.{Shell}
use Rattle.rdl_source.specs.Beside.{line}
use Rattle.rdl_source.specs.LaidText.{part}
use Rattle.rdl_tree.specs.Items.{Items, no_items, holder, Holder, define, anonymous, count}
use Rattle.rdl_tree.specs.View.{add, items_of, list_of}
use Rattle.rdl_tree.proofs.Rounds.{items_of-list_of}
use Rattle.rdl_weave.specs.Untouched.{is_untouched}
use Rattle.rdl_tree.specs.declared.description.Item.{Item}
use Rattle.rdl_tree.specs.declared.description.Item.TheVariants.{Define, Instance, Own, Default, Dynamic}
use Rattle.rdl_tree.specs.declared.description.Of.TheVariants.{Named, Anonymous}
use Rattle.rdl_origin.specs.Traces.{Traces}
use Rattle.rdl_origin.specs.View as origins
use Rattle.rdl_origin.specs.declared.origin.Origin.{Origin}
use Rattle.rdl_source.specs.Laid.{Laid}
use Rattle.rdl_source.specs.View as laid
use Rattle.rdl_source.specs.View.{last_of}
use Rattle.rdl_source.specs.declared.span.Span.{Span}
use Rattle.rdl_source.specs.declared.statement.Statement.{Statement}
use Rattle.rdl_write.specs.ItemText.{holder_text}
use Rattle.rdl_write.specs.MapText.{open_line, close_line, deeper}
use Rattle.rdl_weave.specs.Coarse.{kept_at, changed_at, Piece, old, new, cut, piece_text, text_of, piece_spans, spans_of, float_of, loose, kept_or, others, next, walk, body_pieces, holder_pieces, anew, item_pieces, item_skip}

pub text_both : (source : List ℕ) (ps qs : List Piece) → text_of source (ps ++ qs) ≡ text_of source ps ++ text_of source qs
text_both source [] qs = refl
text_both source (p ∷ ps) qs = ap (λ t. piece_text source p ++ t) (text_both source ps qs) ∙ sym (append_assoc (piece_text source p) (text_of source ps) (text_of source qs))

pub spans_both : (ps qs : List Piece) → spans_of (ps ++ qs) ≡ spans_of ps ++ spans_of qs
spans_both [] qs = refl
spans_both (p ∷ ps) qs = ap (λ t. piece_spans p ++ t) (spans_both ps qs) ∙ sym (append_assoc (piece_spans p) (spans_of ps) (spans_of qs))

-- what was put in before, then a piece of the rest, then what is left
pub text_step : (source before after all whole : List ℕ) (ps qs : List Piece) → before ++ text_of source (ps ++ qs) ≡ whole → after ≡ before ++ text_of source ps → after ++ text_of source qs ≡ whole
text_step source before after all whole ps qs e f =
    ap (λ t. t ++ text_of source qs) f ∙ (append_assoc before (text_of source ps) (text_of source qs) ∙ (ap (λ t. before ++ t) (sym (text_both source ps qs)) ∙ e))

pub spans_step : (before after whole : List Span) (ps qs : List Piece) → before ++ spans_of (ps ++ qs) ≡ whole → after ≡ before ++ spans_of ps → after ++ spans_of qs ≡ whole
spans_step before after whole ps qs e f =
    ap (λ t. t ++ spans_of qs) f ∙ (append_assoc before (spans_of ps) (spans_of qs) ∙ (ap (λ t. before ++ t) (sym (spans_both ps qs)) ∙ e))

-- ---- One item of a walk.

abbrev Found : (source sizes indent : List ℕ) → (n : ℕ) → Holder → Items → Option (Laid × Traces) → List Piece
Found source sizes indent n h body found =
    elim found [
      | None ↦ new (holder_text indent h body) ∷ []
      | Some c ↦
          new (open_line indent h)
          ∷ ((loose source sizes (laid.list_of c.0) (origins.list_of c.1)
          ++ (walk source sizes (deeper indent) (laid.list_of c.0) (origins.list_of c.1) 0 (next n 1) body ++ cut source (last_of c.0)))
          ++ (new (close_line indent h) ∷ []))
    ]

found_is : (source sizes indent : List ℕ) (n : ℕ) (h : Holder) (body : Items) (o : Option (Laid × Traces)) → Found source sizes indent n h body o ≡ holder_pieces source sizes indent o n h body
found_is source sizes indent n h body None = refl
found_is source sizes indent n h body (Some c) = refl

abbrev Rest : (source sizes indent : List ℕ) → List Statement → List Origin → Items → (skip n : ℕ) → List Piece
Rest source sizes indent ss os rest skip n = walk source sizes indent ss os skip n rest

holder_add : (source sizes indent : List ℕ) (ss : List Statement) (os : List Origin) (skip n : ℕ) (h : Holder) (body rest : Items)
    → walk source sizes indent ss os zero n (holder h body rest)
    ≡ kept_or source (kept_at sizes n ss os) (holder_pieces source sizes indent (changed_at n ss os) n h body) ++ walk source sizes indent ss os (others (kept_at sizes n ss os)) (next n (count body + 1)) rest
holder_add source sizes indent ss os skip n h body rest =
    ap (λ ps. kept_or source (kept_at sizes n ss os) ps ++ walk source sizes indent ss os (others (kept_at sizes n ss os)) (next n (count body + 1)) rest) (found_is source sizes indent n h body (changed_at n ss os))

holder_size : (body : Items) → count body + 1 ≡ count body + 1 + 0
holder_size body = omega arith

-- an item of a body, and those behind it
pub walk_add : (source sizes indent : List ℕ) (ss : List Statement) (os : List Origin) (skip n : ℕ) (x : Item) (rest : Items)
    → walk source sizes indent ss os skip n (add x rest)
    ≡ item_pieces source sizes indent ss os skip n x ++ walk source sizes indent ss os (item_skip sizes ss os skip n) (next n (count (add x no_items))) rest
walk_add source sizes indent ss os zero n (Define nm c) rest =
    holder_add source sizes indent ss os zero n (define nm c.kind) c.body rest
    ∙ ap (λ k. kept_or source (kept_at sizes n ss os) (holder_pieces source sizes indent (changed_at n ss os) n (define nm c.kind) c.body) ++ walk source sizes indent ss os (others (kept_at sizes n ss os)) (next n k) rest) (holder_size c.body)
walk_add source sizes indent ss os zero n (Instance s (Named t)) rest = refl
walk_add source sizes indent ss os zero n (Instance s (Anonymous c)) rest =
    holder_add source sizes indent ss os zero n (anonymous s c.kind) c.body rest
    ∙ ap (λ k. kept_or source (kept_at sizes n ss os) (holder_pieces source sizes indent (changed_at n ss os) n (anonymous s c.kind) c.body) ++ walk source sizes indent ss os (others (kept_at sizes n ss os)) (next n k) rest) (holder_size c.body)
walk_add source sizes indent ss os zero n (Own p v) rest = refl
walk_add source sizes indent ss os zero n (Default p v) rest = refl
walk_add source sizes indent ss os zero n (Dynamic t p v) rest = refl
walk_add source sizes indent ss os (suc skip) n (Define nm c) rest = ap (λ k. walk source sizes indent ss os skip (next n k) rest) (holder_size c.body)
walk_add source sizes indent ss os (suc skip) n (Instance s (Named t)) rest = refl
walk_add source sizes indent ss os (suc skip) n (Instance s (Anonymous c)) rest = ap (λ k. walk source sizes indent ss os skip (next n k) rest) (holder_size c.body)
walk_add source sizes indent ss os (suc skip) n (Own p v) rest = refl
walk_add source sizes indent ss os (suc skip) n (Default p v) rest = refl
walk_add source sizes indent ss os (suc skip) n (Dynamic t p v) rest = refl

-- ---- What the source has in a span.

is_cut : (source : List ℕ) (s : Span) → IsUtf8 (part source s) → cut source s ≡ old s ∷ []
is_cut source s u = ap (λ b. cond b (old s ∷ []) []) (is_utf8-from_IsUtf8 (part source s) u)

not_cut : (source : List ℕ) (s : Span) → (IsUtf8 (part source s) → ⊥) → cut source s ≡ []
not_cut source s h = by (is_utf8 (part source s)) refl
  where
    by : (b : Bool) → is_utf8 (part source s) ≡ b → cond b (old s ∷ []) [] ≡ []
    by true e = absurd (h (IsUtf8-from_is_utf8 (part source s) e))
    by false e = refl

pub cut_text : (source : List ℕ) (s : Span) → IsUtf8 (slice_range source s.from s.to) → line (slice_range source s.from s.to) ≡ text_of source (cut source s)
cut_text source s u = sym (ap (text_of source) (is_cut source s u) ∙ append-nil (line (part source s)))

pub cut_spans : (source : List ℕ) (s : Span) → IsUtf8 (slice_range source s.from s.to) → s ∷ [] ≡ spans_of (cut source s)
cut_spans source s u = sym (ap spans_of (is_cut source s u))

pub no_text : (source : List ℕ) (s : Span) (t : List ℕ) → (IsUtf8 (slice_range source s.from s.to) → ⊥) → t ≡ t ++ text_of source (cut source s)
no_text source s t h = sym (ap (λ ps. t ++ text_of source ps) (not_cut source s h) ∙ append-nil t)

pub no_spans : (source : List ℕ) (s : Span) (t : List Span) → (IsUtf8 (slice_range source s.from s.to) → ⊥) → t ≡ t ++ spans_of (cut source s)
no_spans source s t h = sym (ap (λ ps. t ++ spans_of ps) (not_cut source s h) ∙ append-nil t)

pub text_twice : (source a b c : List ℕ) (ps qs : List Piece) → b ≡ a ++ text_of source ps → c ≡ b ++ text_of source qs → c ≡ a ++ text_of source (ps ++ qs)
text_twice source a b c ps qs e f =
    f ∙ (ap (λ t. t ++ text_of source qs) e ∙ (append_assoc a (text_of source ps) (text_of source qs) ∙ ap (λ t. a ++ t) (sym (text_both source ps qs))))

pub spans_twice : (a b c : List Span) (ps qs : List Piece) → b ≡ a ++ spans_of ps → c ≡ b ++ spans_of qs → c ≡ a ++ spans_of (ps ++ qs)
spans_twice a b c ps qs e f =
    f ∙ (ap (λ t. t ++ spans_of qs) e ∙ (append_assoc a (spans_of ps) (spans_of qs) ∙ ap (λ t. a ++ t) (sym (spans_both ps qs))))

-- ---- An item with a body, spelled anew.

holder_text_is : (source a b c d o z : List ℕ) (ps : List Piece) → b ≡ a ++ o → c ≡ b ++ text_of source ps → d ≡ c ++ z → d ≡ a ++ text_of source (new o ∷ (ps ++ (new z ∷ [])))
holder_text_is source a b c d o z ps e f g =
    let behind : text_of source (ps ++ (new z ∷ [])) ≡ text_of source ps ++ z = text_both source ps (new z ∷ []) ∙ ap (λ t. text_of source ps ++ t) (append-nil z) in
    g ∙ (ap (λ t. t ++ z) (f ∙ ap (λ t. t ++ text_of source ps) e)
    ∙ (append_assoc (a ++ o) (text_of source ps) z ∙ (append_assoc a o (text_of source ps ++ z) ∙ ap (λ t. a ++ (o ++ t)) (sym behind))))

holder_spans_are : (a b : List Span) (o z : List ℕ) (ps : List Piece) → b ≡ a ++ spans_of ps → b ≡ a ++ spans_of (new o ∷ (ps ++ (new z ∷ [])))
holder_spans_are a b o z ps e = e ∙ ap (λ t. a ++ t) (sym (spans_both ps (new z ∷ []) ∙ append-nil (spans_of ps)))

pub on_ok : {X E P Q : Type 0} (r : Result X E) → (P → Q) → OnOk r P → OnOk r Q
on_ok (Ok x) f h = f h
on_ok (Err e) f h = h

define_is : (source sizes indent : List ℕ) (ss : List Statement) (os : List Origin) (n : ℕ) (x : Item) (name : List ℕ) (comp : Component) (l : Laid) (t : Traces) → x ≡ Define name comp → changed_at n ss os ≡ Some (l, t)
    → new (open_line indent (define name comp.kind)) ∷ (body_pieces source sizes (deeper indent) l t (next n 1) comp.body ++ (new (close_line indent (define name comp.kind)) ∷ []))
    ≡ anew source sizes indent ss os n x
define_is source sizes indent ss os n x name comp l t e f =
    sym (ap (anew source sizes indent ss os n) e ∙ ap (λ o. holder_pieces source sizes indent o n (define name comp.kind) comp.body) f)

anonymous_is : (source sizes indent : List ℕ) (ss : List Statement) (os : List Origin) (n : ℕ) (x : Item) (s : Shell) (comp : Component) (l : Laid) (t : Traces) → x ≡ Instance s (Anonymous comp) → changed_at n ss os ≡ Some (l, t)
    → new (open_line indent (anonymous s comp.kind)) ∷ (body_pieces source sizes (deeper indent) l t (next n 1) comp.body ++ (new (close_line indent (anonymous s comp.kind)) ∷ []))
    ≡ anew source sizes indent ss os n x
anonymous_is source sizes indent ss os n x s comp l t e f =
    sym (ap (anew source sizes indent ss os n) e ∙ ap (λ o. holder_pieces source sizes indent o n (anonymous s comp.kind) comp.body) f)

pub define_text : (source sizes indent a b c d : List ℕ) (ss : List Statement) (os : List Origin) (n : ℕ) (x : Item) (name : List ℕ) (comp : Component) (l : Laid) (t : Traces) → x ≡ Define name comp → changed_at n ss os ≡ Some (l, t)
    → b ≡ a ++ open_line indent (define name comp.kind) → c ≡ b ++ text_of source (body_pieces source sizes (deeper indent) l t (next n 1) comp.body) → d ≡ c ++ close_line indent (define name comp.kind)
    → d ≡ a ++ text_of source (anew source sizes indent ss os n x)
define_text source sizes indent a b c d ss os n x name comp l t e f h i j =
    holder_text_is source a b c d (open_line indent (define name comp.kind)) (close_line indent (define name comp.kind)) (body_pieces source sizes (deeper indent) l t (next n 1) comp.body) h i j
    ∙ ap (λ ps. a ++ text_of source ps) (define_is source sizes indent ss os n x name comp l t e f)

pub define_spans : (source sizes indent : List ℕ) (a b : List Span) (ss : List Statement) (os : List Origin) (n : ℕ) (x : Item) (name : List ℕ) (comp : Component) (l : Laid) (t : Traces) → x ≡ Define name comp → changed_at n ss os ≡ Some (l, t)
    → b ≡ a ++ spans_of (body_pieces source sizes (deeper indent) l t (next n 1) comp.body) → b ≡ a ++ spans_of (anew source sizes indent ss os n x)
define_spans source sizes indent a b ss os n x name comp l t e f h =
    holder_spans_are a b (open_line indent (define name comp.kind)) (close_line indent (define name comp.kind)) (body_pieces source sizes (deeper indent) l t (next n 1) comp.body) h
    ∙ ap (λ ps. a ++ spans_of ps) (define_is source sizes indent ss os n x name comp l t e f)

pub anonymous_text : (source sizes indent a b c d : List ℕ) (ss : List Statement) (os : List Origin) (n : ℕ) (x : Item) (s : Shell) (comp : Component) (l : Laid) (t : Traces) → x ≡ Instance s (Anonymous comp) → changed_at n ss os ≡ Some (l, t)
    → b ≡ a ++ open_line indent (anonymous s comp.kind) → c ≡ b ++ text_of source (body_pieces source sizes (deeper indent) l t (next n 1) comp.body) → d ≡ c ++ close_line indent (anonymous s comp.kind)
    → d ≡ a ++ text_of source (anew source sizes indent ss os n x)
anonymous_text source sizes indent a b c d ss os n x s comp l t e f h i j =
    holder_text_is source a b c d (open_line indent (anonymous s comp.kind)) (close_line indent (anonymous s comp.kind)) (body_pieces source sizes (deeper indent) l t (next n 1) comp.body) h i j
    ∙ ap (λ ps. a ++ text_of source ps) (anonymous_is source sizes indent ss os n x s comp l t e f)

pub anonymous_spans : (source sizes indent : List ℕ) (a b : List Span) (ss : List Statement) (os : List Origin) (n : ℕ) (x : Item) (s : Shell) (comp : Component) (l : Laid) (t : Traces) → x ≡ Instance s (Anonymous comp) → changed_at n ss os ≡ Some (l, t)
    → b ≡ a ++ spans_of (body_pieces source sizes (deeper indent) l t (next n 1) comp.body) → b ≡ a ++ spans_of (anew source sizes indent ss os n x)
anonymous_spans source sizes indent a b ss os n x s comp l t e f h =
    holder_spans_are a b (open_line indent (anonymous s comp.kind)) (close_line indent (anonymous s comp.kind)) (body_pieces source sizes (deeper indent) l t (next n 1) comp.body) h
    ∙ ap (λ ps. a ++ spans_of ps) (anonymous_is source sizes indent ss os n x s comp l t e f)

-- ---- Loops.

pub none_text : (source sizes t : List ℕ) (s : Statement) (os : List Origin) → is_untouched sizes s.items os ≡ true → t ≡ t ++ text_of source (float_of source sizes s os)
none_text source sizes t s os e = sym (ap (λ b. t ++ text_of source (cond b [] (cut source s.float))) e ∙ append-nil t)

pub none_spans : (source sizes : List ℕ) (t : List Span) (s : Statement) (os : List Origin) → is_untouched sizes s.items os ≡ true → t ≡ t ++ spans_of (float_of source sizes s os)
none_spans source sizes t s os e = sym (ap (λ b. t ++ spans_of (cond b [] (cut source s.float))) e ∙ append-nil t)

pub some_text : (source sizes : List ℕ) (s : Statement) (os : List Origin) → is_untouched sizes s.items os ≡ false → text_of source (cut source s.float) ≡ text_of source (float_of source sizes s os)
some_text source sizes s os e = sym (ap (λ b. text_of source (cond b [] (cut source s.float))) e)

pub some_spans : (source sizes : List ℕ) (s : Statement) (os : List Origin) → is_untouched sizes s.items os ≡ false → spans_of (cut source s.float) ≡ spans_of (float_of source sizes s os)
some_spans source sizes s os e = sym (ap (λ b. spans_of (cond b [] (cut source s.float))) e)

loose_step : (source sizes : List ℕ) (ss : List Statement) (i : ℕ) (s : Statement) (os mine left : List Origin) → i < length ss → s ≡ get_or ss i s → mine ≡ take s.items os → left ≡ drop s.items os
    → loose source sizes (drop i ss) os ≡ cond (is_untouched sizes s.items mine) [] (cut source s.float) ++ loose source sizes (drop (i + 1) ss) left
loose_step source sizes ss i s os mine left h e f g =
    let split : drop i ss ≡ s ∷ drop (suc i) ss = drop-cons ss i s h ∙ ap (λ t. t ∷ drop (suc i) ss) (sym e) in
    let next : suc i ≡ i + 1 = omega arith in
    ap (λ ts. loose source sizes ts os) split
    ∙ (λ j. cond (is_untouched sizes s.items (sym f j)) [] (cut source s.float) ++ loose source sizes (drop (next j) ss) (sym g j))

pub loose_more : (source sizes a b whole : List ℕ) (ss : List Statement) (i : ℕ) (s : Statement) (os mine left : List Origin) → i < length ss → s ≡ get_or ss i s → mine ≡ take s.items os → left ≡ drop s.items os
    → a ++ text_of source (loose source sizes (drop i ss) os) ≡ whole → b ≡ a ++ text_of source (cond (is_untouched sizes s.items mine) [] (cut source s.float))
    → b ++ text_of source (loose source sizes (drop (i + 1) ss) left) ≡ whole
loose_more source sizes a b whole ss i s os mine left h e f g k m =
    text_step source a b [] whole (cond (is_untouched sizes s.items mine) [] (cut source s.float)) (loose source sizes (drop (i + 1) ss) left)
    (ap (λ ps. a ++ text_of source ps) (sym (loose_step source sizes ss i s os mine left h e f g)) ∙ k) m

pub loose_more_spans : (source sizes : List ℕ) (a b whole : List Span) (ss : List Statement) (i : ℕ) (s : Statement) (os mine left : List Origin) → i < length ss → s ≡ get_or ss i s → mine ≡ take s.items os → left ≡ drop s.items os
    → a ++ spans_of (loose source sizes (drop i ss) os) ≡ whole → b ≡ a ++ spans_of (cond (is_untouched sizes s.items mine) [] (cut source s.float))
    → b ++ spans_of (loose source sizes (drop (i + 1) ss) left) ≡ whole
loose_more_spans source sizes a b whole ss i s os mine left h e f g k m =
    spans_step a b whole (cond (is_untouched sizes s.items mine) [] (cut source s.float)) (loose source sizes (drop (i + 1) ss) left)
    (ap (λ ps. a ++ spans_of ps) (sym (loose_step source sizes ss i s os mine left h e f g)) ∙ k) m

walk_step : (source sizes indent : List ℕ) (ss : List Statement) (os : List Origin) (skip n more m : ℕ) (xs : List Item) (i : ℕ) (x : Item) → i < length xs → x ≡ get_or xs i x
    → more ≡ item_skip sizes ss os skip n → m ≡ next n (count (add x no_items))
    → walk source sizes indent ss os skip n (items_of (drop i xs)) ≡ item_pieces source sizes indent ss os skip n x ++ walk source sizes indent ss os more m (items_of (drop (i + 1) xs))
walk_step source sizes indent ss os skip n more m xs i x h e f g =
    let split : drop i xs ≡ x ∷ drop (suc i) xs = drop-cons xs i x h ∙ ap (λ t. t ∷ drop (suc i) xs) (sym e) in
    let behind : suc i ≡ i + 1 = omega arith in
    ap (λ ys. walk source sizes indent ss os skip n (items_of ys)) split
    ∙ (walk_add source sizes indent ss os skip n x (items_of (drop (suc i) xs))
    ∙ (λ j. item_pieces source sizes indent ss os skip n x ++ walk source sizes indent ss os (sym f j) (sym g j) (items_of (drop (behind j) xs))))

pub walk_more : (source sizes indent a b whole : List ℕ) (ss : List Statement) (os : List Origin) (skip n more m : ℕ) (xs : List Item) (i : ℕ) (x : Item) → i < length xs → x ≡ get_or xs i x
    → more ≡ item_skip sizes ss os skip n → m ≡ next n (count (add x no_items))
    → a ++ text_of source (walk source sizes indent ss os skip n (items_of (drop i xs))) ≡ whole → b ≡ a ++ text_of source (item_pieces source sizes indent ss os skip n x)
    → b ++ text_of source (walk source sizes indent ss os more m (items_of (drop (i + 1) xs))) ≡ whole
walk_more source sizes indent a b whole ss os skip n more m xs i x h e f g k p =
    text_step source a b [] whole (item_pieces source sizes indent ss os skip n x) (walk source sizes indent ss os more m (items_of (drop (i + 1) xs)))
    (ap (λ ps. a ++ text_of source ps) (sym (walk_step source sizes indent ss os skip n more m xs i x h e f g)) ∙ k) p

pub walk_more_spans : (source sizes indent : List ℕ) (a b whole : List Span) (ss : List Statement) (os : List Origin) (skip n more m : ℕ) (xs : List Item) (i : ℕ) (x : Item) → i < length xs → x ≡ get_or xs i x
    → more ≡ item_skip sizes ss os skip n → m ≡ next n (count (add x no_items))
    → a ++ spans_of (walk source sizes indent ss os skip n (items_of (drop i xs))) ≡ whole → b ≡ a ++ spans_of (item_pieces source sizes indent ss os skip n x)
    → b ++ spans_of (walk source sizes indent ss os more m (items_of (drop (i + 1) xs))) ≡ whole
walk_more_spans source sizes indent a b whole ss os skip n more m xs i x h e f g k p =
    spans_step a b whole (item_pieces source sizes indent ss os skip n x) (walk source sizes indent ss os more m (items_of (drop (i + 1) xs)))
    (ap (λ ps. a ++ spans_of ps) (sym (walk_step source sizes indent ss os skip n more m xs i x h e f g)) ∙ k) p

pub walk_begun : (source sizes indent : List ℕ) (ss : List Statement) (os : List Origin) (n : ℕ) (xs : List Item) (d : Items) → xs ≡ list_of d
    → walk source sizes indent ss os 0 n (items_of xs) ≡ walk source sizes indent ss os 0 n d
walk_begun source sizes indent ss os n xs d e = ap (walk source sizes indent ss os 0 n) (ap items_of e ∙ items_of-list_of d)

walk_none : (source sizes indent : List ℕ) (ss : List Statement) (os : List Origin) (skip n : ℕ) → walk source sizes indent ss os skip n no_items ≡ []
walk_none source sizes indent ss os zero n = refl
walk_none source sizes indent ss os (suc skip) n = refl

walk_done : (source sizes indent : List ℕ) (ss : List Statement) (os : List Origin) (skip n : ℕ) (xs : List Item) (i : ℕ) → length xs ≤ i → walk source sizes indent ss os skip n (items_of (drop i xs)) ≡ []
walk_done source sizes indent ss os skip n xs i h = ap (λ ys. walk source sizes indent ss os skip n (items_of ys)) (drop_all i xs h) ∙ walk_none source sizes indent ss os skip n

pub body_done : (source sizes indent a b c e : List ℕ) (l : Laid) (t : Traces) (n skip m : ℕ) (d : Items) (ss : List Statement) (os : List Origin) (xs : List Item) (i : ℕ) (last : Span)
    → ss ≡ laid.list_of l → os ≡ origins.list_of t → last ≡ last_of l → length xs ≤ i → b ≡ a ++ text_of source (loose source sizes ss os)
    → c ++ text_of source (walk source sizes indent (laid.list_of l) (origins.list_of t) skip m (items_of (drop i xs))) ≡ b ++ text_of source (walk source sizes indent (laid.list_of l) (origins.list_of t) 0 n d)
    → e ≡ c ++ text_of source (cut source last) → e ≡ a ++ text_of source (body_pieces source sizes indent l t n d)
body_done source sizes indent a b c e l t n skip m d ss os xs i last s o z h begun going ended =
    let walked = walk source sizes indent (laid.list_of l) (origins.list_of t) 0 n d in
    let before : b ≡ a ++ text_of source (loose source sizes (laid.list_of l) (origins.list_of t)) = begun ∙ (λ j. a ++ text_of source (loose source sizes (s j) (o j))) in
    let between : c ≡ b ++ text_of source walked =
    sym (ap (λ ps. c ++ text_of source ps) (walk_done source sizes indent (laid.list_of l) (origins.list_of t) skip m xs i h) ∙ append-nil c) ∙ going in
    let last_is : e ≡ c ++ text_of source (cut source (last_of l)) = ended ∙ ap (λ k. c ++ text_of source (cut source k)) z in
    text_twice source a b e (loose source sizes (laid.list_of l) (origins.list_of t)) (walked ++ cut source (last_of l)) before
    (text_twice source b c e walked (cut source (last_of l)) between last_is)

pub body_done_spans : (source sizes indent : List ℕ) (a b c e : List Span) (l : Laid) (t : Traces) (n skip m : ℕ) (d : Items) (ss : List Statement) (os : List Origin) (xs : List Item) (i : ℕ) (last : Span)
    → ss ≡ laid.list_of l → os ≡ origins.list_of t → last ≡ last_of l → length xs ≤ i → b ≡ a ++ spans_of (loose source sizes ss os)
    → c ++ spans_of (walk source sizes indent (laid.list_of l) (origins.list_of t) skip m (items_of (drop i xs))) ≡ b ++ spans_of (walk source sizes indent (laid.list_of l) (origins.list_of t) 0 n d)
    → e ≡ c ++ spans_of (cut source last) → e ≡ a ++ spans_of (body_pieces source sizes indent l t n d)
body_done_spans source sizes indent a b c e l t n skip m d ss os xs i last s o z h begun going ended =
    let walked = walk source sizes indent (laid.list_of l) (origins.list_of t) 0 n d in
    let before : b ≡ a ++ spans_of (loose source sizes (laid.list_of l) (origins.list_of t)) = begun ∙ (λ j. a ++ spans_of (loose source sizes (s j) (o j))) in
    let between : c ≡ b ++ spans_of walked =
    sym (ap (λ ps. c ++ spans_of ps) (walk_done source sizes indent (laid.list_of l) (origins.list_of t) skip m xs i h) ∙ append-nil c) ∙ going in
    let last_is : e ≡ c ++ spans_of (cut source (last_of l)) = ended ∙ ap (λ k. c ++ spans_of (cut source k)) z in
    spans_twice a b e (loose source sizes (laid.list_of l) (origins.list_of t)) (walked ++ cut source (last_of l)) before
    (spans_twice b c e walked (cut source (last_of l)) between last_is)
