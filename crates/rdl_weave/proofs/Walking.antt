-- What goes out stands for the items of the last map.
use Rattle.std.proofs.Common.{◌≡◌, ℕ, zero, suc, ◌+◌, ◌-◌, Bool, true, false, cond, List, [], ◌∷◌, ◌++◌, take, drop, Option, Some, None, refl, ap, sym, ◌∙◌, subst, arith}
use Rattle.std.specs.Option.{option_map}
use Rattle.std.proofs.lemmas.List.{append-nil, take-append-drop}
use Rattle.rdl_tree.specs.Items.{Items, no_items, plain, holder, Holder, count}
use Rattle.rdl_tree.specs.View.{list_of, plain_item, holder_item}
use Rattle.rdl_tree.specs.declared.description.Item.{Item}
use Rattle.rdl_origin.specs.Traces.{Traces}
use Rattle.rdl_origin.specs.View as origins
use Rattle.rdl_origin.specs.declared.origin.Origin.{Origin}
use Rattle.rdl_parse.specs.Spelling as grammar
use Rattle.rdl_round.specs.OfWords.{IsOfWords}
use Rattle.rdl_round.specs.Spellable.{IsSpellable}
use Rattle.rdl_round.proofs.Lines.{deeper-blank}
use Rattle.rdl_round.proofs.Parts.{AllBlank}
use Rattle.rdl_source.specs.Laid.{Laid, ended, bare, braced}
use Rattle.rdl_source.specs.View as views
use Rattle.rdl_source.specs.View.{bare_of, last_of}
use Rattle.rdl_source.specs.declared.statement.Inner.{Inner}
use Rattle.rdl_source.specs.declared.statement.Statement.{Statement}
use Rattle.rdl_write.specs.ItemText.{holder_text}
use Rattle.rdl_write.specs.MapText.{statement_line, open_line, close_line, deeper}
use Rattle.rdl_weave.specs.Coarse.{is_kept, kept_at, inside_now, changed_in, first_of, changed_at, Piece, new, cut, loose, kept_or, others, next, walk, body_pieces}
use Rattle.rdl_weave.specs.Keeping.{core}
use Rattle.rdl_weave.specs.Sound.{IsSilent, FloatsAreSilent, IsAlone, StandsFor, unless, Matches}
use Rattle.rdl_weave.specs.Untouched.{is_untouched}
use Rattle.rdl_weave.proofs.Reading.{Reads, reads_none, reads_append, reads_silent, reads_alone, reads_plain, reads_holder, reads_new}

-- ---- What floats before statements, and inside them.

abbrev SilentInside : (source : List ℕ) → Option Inner → Type 0
SilentInside source None = Unit {0}
SilentInside source (Some i) = FloatsAreSilent source i.body

abbrev Silent : (source : List ℕ) → List Statement → Type 0
Silent source [] = Unit {0}
Silent source (s ∷ ss) = IsSilent source s.float × SilentInside source s.inside × Silent source ss

silent_list : (source : List ℕ) (l : Laid) → FloatsAreSilent source l → Silent source (views.list_of l)
silent_list source (ended last) h = tt
silent_list source (bare b rest) h = (h.0, tt, silent_list source rest h.1)
silent_list source (braced b br body rest) h = (h.0, h.1, silent_list source rest h.2)

silent_last : (source : List ℕ) (l : Laid) → FloatsAreSilent source l → IsSilent source (last_of l)
silent_last source (ended last) h = h
silent_last source (bare b rest) h = silent_last source rest h.1
silent_last source (braced b br body rest) h = silent_last source rest h.2

abbrev SilentFloat : (source : List ℕ) → Option Statement → Type 0
SilentFloat source None = Unit {0}
SilentFloat source (Some s) = IsSilent source s.float

kept_silent : (source sizes : List ℕ) (n : ℕ) (ss : List Statement) (os : List Origin) → Silent source ss → SilentFloat source (kept_at sizes n ss os)
kept_silent source sizes n [] os h = tt
kept_silent source sizes n (s ∷ ss) os h = by (is_kept sizes n s.items (take s.items os)) (kept_silent source sizes n ss (drop s.items os) h.2)
  where
    by : (b : Bool) → SilentFloat source (kept_at sizes n ss (drop s.items os)) → SilentFloat source (cond b (Some s) (kept_at sizes n ss (drop s.items os)))
    by true r = h.0
    by false r = r

abbrev SilentBody : (source : List ℕ) → Option (Laid × Traces) → Type 0
SilentBody source None = Unit {0}
SilentBody source (Some c) = FloatsAreSilent source c.0

in_silent : (source : List ℕ) (n : ℕ) (o : Option Inner) (os : List Origin) → SilentInside source o → SilentBody source (changed_in n o os)
in_silent source n None os h = tt
in_silent source n (Some i) os h = by (inside_now n os)
  where
    by : (t : Option Traces) → SilentBody source (option_map (λ t. (i.body, t)) t)
    by None = tt
    by (Some t) = h

first_silent : (source : List ℕ) (a b : Option (Laid × Traces)) → SilentBody source a → SilentBody source b → SilentBody source (first_of a b)
first_silent source None b h k = k
first_silent source (Some c) b h k = h

changed_silent : (source : List ℕ) (n : ℕ) (ss : List Statement) (os : List Origin) → Silent source ss → SilentBody source (changed_at n ss os)
changed_silent source n [] os h = tt
changed_silent source n (s ∷ ss) os h =
    first_silent source (changed_in n s.inside (take s.items os)) (changed_at n ss (drop s.items os)) (in_silent source n s.inside (take s.items os) h.1) (changed_silent source n ss (drop s.items os) h.2)

reads_loose : (source sizes : List ℕ) (ss : List Statement) (os : List Origin) → Silent source ss → Reads source (loose source sizes ss os) []
reads_loose source sizes [] os h = reads_none source
reads_loose source sizes (s ∷ ss) os h = by (is_untouched sizes s.items (take s.items os)) (reads_loose source sizes ss (drop s.items os) h.2)
  where
    by : (b : Bool) → Reads source (loose source sizes ss (drop s.items os)) [] → Reads source (cond b [] (cut source s.float) ++ loose source sizes ss (drop s.items os)) []
    by true r = r
    by false r = reads_append source (cut source s.float) (loose source sizes ss (drop s.items os)) [] [] (reads_silent source s.float h.0) r

-- ---- Items.

some_items : (st : grammar.Statement) → grammar.statement_items st ≡ [] → ⊥
some_items (grammar.define k n body) e = cc
some_items (grammar.define_with o k n body i is) e = cc
some_items (grammar.anonymous o k body i is) e = cc
some_items (grammar.named o n i is) e = cc
some_items (grammar.own p v) e = cc
some_items (grammar.default p v) e = cc
some_items (grammar.dynamic n ns p v) e = cc

-- the first items, as many as there are in a statement, and those behind the others of them
all_items : (k : ℕ) (x : Item) (xs : List Item) → (k ≡ 0 → ⊥) → take k (x ∷ xs) ++ drop (k - 1) xs ≡ x ∷ xs
all_items zero x xs h = absurd (h refl)
all_items (suc k) x xs h =
    let one : suc k - 1 ≡ k = omega arith in
    ap (λ ys. x ∷ ys) (ap (λ j. take k xs ++ drop j xs) one ∙ take-append-drop k xs)

none_alone : (source : List ℕ) (s : Statement) (xs : List Item) → IsAlone source s (take s.items xs) → s.items ≡ 0 → ⊥
none_alone source s xs h e =
    let st = h.spelled.spelled in
    some_items st.0 (sym st.2 ∙ ap (λ k. take k xs) e)

-- an item, be it the first of a statement that goes out as it stood or not, and those behind it
one_more : (source : List ℕ) (k : Option Statement) (anew : List Piece) (x : Item) (xs : List Item) (going : (skip : ℕ) → List Piece) → SilentFloat source k → StandsFor source k (x ∷ xs)
    → (unless k (Some x) ≡ Some x → Reads source anew (x ∷ [])) → Reads source (going (others k)) (drop (others k) xs)
    → Reads source (kept_or source k anew ++ going (others k)) (x ∷ xs)
one_more source None anew x xs going f h a r = reads_append source anew (going 0) (x ∷ []) xs (a refl) r
one_more source (Some s) anew x xs going f h a r =
    subst (λ ys. Reads source ((cut source s.float ++ cut source (core (bare_of s))) ++ going (s.items - 1)) ys) (all_items s.items x xs (none_alone source s (x ∷ xs) h))
    (reads_append source (cut source s.float ++ cut source (core (bare_of s))) (going (s.items - 1)) (take s.items (x ∷ xs)) (drop (s.items - 1) xs)
    (reads_append source (cut source s.float) (cut source (core (bare_of s))) [] (take s.items (x ∷ xs)) (reads_silent source s.float f) (reads_alone source s (take s.items (x ∷ xs)) h)) r)

reads_framed : (source sizes indent : List ℕ) (l : Laid) (t : Traces) (n : ℕ) (body : Items) → FloatsAreSilent source l
    → Reads source (walk source sizes indent (views.list_of l) (origins.list_of t) 0 n body) (list_of body) → Reads source (body_pieces source sizes indent l t n body) (list_of body)
reads_framed source sizes indent l t n body h r =
    let ss = views.list_of l in
    let going = walk source sizes indent ss (origins.list_of t) 0 n body in
    reads_append source (loose source sizes ss (origins.list_of t)) (going ++ cut source (last_of l)) [] (list_of body) (reads_loose source sizes ss (origins.list_of t) (silent_list source l h))
    (subst (λ ys. Reads source (going ++ cut source (last_of l)) ys) (append-nil (list_of body))
    (reads_append source going (cut source (last_of l)) (list_of body) [] r (reads_silent source (last_of l) (silent_last source l h))))

abbrev Anew : (source sizes indent : List ℕ) (n : ℕ) → Option (Laid × Traces) → Holder → Items → List Piece
Anew source sizes indent n found h body =
    elim found [
      | None ↦ new (holder_text indent h body) ∷ []
      | Some c ↦ new (open_line indent h) ∷ (body_pieces source sizes (deeper indent) c.0 c.1 (next n 1) body ++ (new (close_line indent h) ∷ []))
    ]

abbrev Inside : (source sizes : List ℕ) (n : ℕ) → Option (Laid × Traces) → Items → Type 0
Inside source sizes n found body =
    elim found [
      | None ↦ Unit {0}
      | Some c ↦ Matches source sizes (views.list_of c.0) (origins.list_of c.1) 0 (next n 1) body
    ]

reads_anew : (source sizes indent : List ℕ) (n : ℕ) (found : Option (Laid × Traces)) (h : Holder) (body : Items) → AllBlank indent → IsOfWords (holder h body no_items) → IsSpellable (holder h body no_items)
    → SilentBody source found → Inside source sizes n found body
    → ((l : Laid) (t : Traces) → FloatsAreSilent source l → Matches source sizes (views.list_of l) (origins.list_of t) 0 (next n 1) body → Reads source (walk source sizes (deeper indent) (views.list_of l) (origins.list_of t) 0 (next n 1) body) (list_of body))
    → Reads source (Anew source sizes indent n found h body) (holder_item h body ∷ [])
reads_anew source sizes indent n None h body b w k f m inner = reads_new source indent h body b w k
reads_anew source sizes indent n (Some c) h body b w k f m inner =
    reads_holder source indent h body (body_pieces source sizes (deeper indent) c.0 c.1 (next n 1) body) b w.0 k.0 (reads_framed source sizes (deeper indent) c.0 c.1 (next n 1) body f (inner c.0 c.1 f m))

unless_none : {X : Type 0} (k : Option Statement) (o : Option X) (x : Item) → unless k (Some x) ≡ Some x → unless k o ≡ o
unless_none None o x e = refl
unless_none (Some s) o x e = cc

pub reads_walk : (source sizes indent : List ℕ) (ss : List Statement) (os : List Origin) (skip n : ℕ) (d : Items) → AllBlank indent → Silent source ss → IsOfWords d → IsSpellable d
    → Matches source sizes ss os skip n d → Reads source (walk source sizes indent ss os skip n d) (drop skip (list_of d))
reads_walk source sizes indent ss os zero n no_items b f w k m = reads_none source
reads_walk source sizes indent ss os (suc skip) n no_items b f w k m = reads_none source
reads_walk source sizes indent ss os (suc skip) n (plain p rest) b f w k m = reads_walk source sizes indent ss os skip (next n 1) rest b f w.1 k.1 m
reads_walk source sizes indent ss os (suc skip) n (holder h body rest) b f w k m = reads_walk source sizes indent ss os skip (next n (count body + 1)) rest b f w.2 k.2 m
reads_walk source sizes indent ss os zero n (plain p rest) b f w k m =
    one_more source (kept_at sizes n ss os) (new (statement_line indent p) ∷ []) (plain_item p) (list_of rest) (λ skip. walk source sizes indent ss os skip (next n 1) rest) (kept_silent source sizes n ss os f) m.0
    (λ e. reads_plain source indent p b w.0 k.0) (reads_walk source sizes indent ss os (others (kept_at sizes n ss os)) (next n 1) rest b f w.1 k.1 m.1)
reads_walk source sizes indent ss os zero n (holder h body rest) b f w k m =
    let kept = kept_at sizes n ss os in
    let found = changed_at n ss os in
    one_more source kept (Anew source sizes indent n found h body) (holder_item h body) (list_of rest) (λ skip. walk source sizes indent ss os skip (next n (count body + 1)) rest) (kept_silent source sizes n ss os f) m.0
    (λ e. reads_anew source sizes indent n found h body b (w.0, w.1, tt) (k.0, k.1, tt) (changed_silent source n ss os f)
    (subst (λ o. Inside source sizes n o body) (unless_none kept found (holder_item h body) e) m.1)
    (λ l t g i. reads_walk source sizes (deeper indent) (views.list_of l) (origins.list_of t) 0 (next n 1) body (deeper-blank indent b) (silent_list source l g) w.1 k.1 i))
    (reads_walk source sizes indent ss os (others kept) (next n (count body + 1)) rest b f w.2 k.2 m.2)

pub reads_coarse : (source sizes : List ℕ) (l : Laid) (t : Traces) (d : Items) → FloatsAreSilent source l → IsOfWords d → IsSpellable d
    → Matches source sizes (views.list_of l) (origins.list_of t) 0 0 d → Reads source (body_pieces source sizes [] l t 0 d) (list_of d)
reads_coarse source sizes l t d f w k m =
    reads_framed source sizes [] l t 0 d f (reads_walk source sizes [] (views.list_of l) (origins.list_of t) 0 0 d tt (silent_list source l f) w k m)
