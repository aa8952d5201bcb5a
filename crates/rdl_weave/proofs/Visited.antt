-- On the walk through the last map all statements are met that no edit touched, and all bodies of others.
use Rattle.std.proofs.Common.{◌≡◌, ℕ, zero, suc, ◌+◌, ◌-◌, ◌<◌, ◌≤◌, Bool, true, false, cond, ◌&&◌, ◌||◌, List, [], ◌∷◌, ◌++◌, length, take, drop, Option, Some, None, inl, inr, ◌⊎◌, refl, ap, sym, ◌∙◌, arith, subst, append_assoc, eq-eqb, IsTrue}
use Rattle.std.specs.List.{All, list_all}
use Rattle.std.specs.Option.{option_map, option_map_or}
use Rattle.std.specs.Prelude.{nat_eq, not, is_some, slice_index_or}
use Rattle.std.specs.Str.{IsUtf8}
use Rattle.std.proofs.lemmas.Bool.{eqb-true, false≢true, and_parts, and_from}
use Rattle.rdl_tree.specs.Items.{Items, no_items, plain, holder, Plain, Holder, named, own as own_item, default, dynamic, define, anonymous, count}
use Rattle.rdl_tree.specs.View.{items_of, list_of, plain_item, holder_item, own_body}
use Rattle.rdl_tree.specs.declared.description.Item.{Item}
use Rattle.rdl_tree.specs.declared.description.Item.TheVariants.{Define, Instance, Own, Default, Dynamic}
use Rattle.rdl_tree.specs.declared.description.Of.TheVariants.{Named, Anonymous}
use Rattle.rdl_origin.specs.Once.{StandOnce}
use Rattle.rdl_origin.specs.Traces.{Traces, no_traces}
use Rattle.rdl_origin.specs.Values.{item_with, IsPlainValue, IsHolderValue, AreValues}
use Rattle.rdl_origin.specs.View as origins
use Rattle.rdl_origin.specs.declared.origin.Origin.{Origin}
use Rattle.rdl_origin.proofs.Rounds as traces_rounds
use Rattle.rdl_origin.proofs.Values.{Ends, IsValue, AreSo, first_value, ends_plain, ends_holder, plain_past, holder_past}
use Rattle.rdl_source.specs.Laid.{Bare, Laid, ended, bare, braced}
use Rattle.rdl_source.specs.LaidText.{part}
use Rattle.rdl_source.specs.View as views
use Rattle.rdl_source.specs.View.{bare_of, last_of, statement_of}
use Rattle.rdl_source.specs.declared.span.Span.{Span}
use Rattle.rdl_source.specs.declared.statement.Inner.{Inner}
use Rattle.rdl_source.specs.declared.statement.Statement.{Statement}
use Rattle.rdl_write.specs.ItemText.{holder_text}
use Rattle.rdl_write.specs.MapText.{statement_line, open_line, close_line, deeper}
use Rattle.rdl_source.specs.Alone.{InBody, InBodies, StandAlone}
use Rattle.rdl_weave.specs.Coarse.{is_kept, kept_at, inside_now, changed_in, first_of, changed_at, Piece, new, cut, spans_of, piece_spans, float_of, loose, kept_or, others, next, walk, body_pieces, coarse, is_span, has, covers_one, covers, holder_pieces, anew}
use Rattle.rdl_weave.specs.Keeping.{core, is_empty, holds_items}
use Rattle.rdl_weave.specs.Sound.{IsSilent, FloatsAreSilent}
use Rattle.rdl_weave.specs.Untouched.{is_now, behind, is_untouched}
use Rattle.rdl_weave.proofs.Found.{Holds, tail, holds_tail, holds_take, holds_drop, lacks_unless, once, apart, once_drop, once_take, so_take, so_drop, so_lists, AloneList, alone_list, Inside, kept_found, kept_taken, next_plain, next_holder}
use Rattle.rdl_weave.proofs.Reading.{is_cut}
use Rattle.rdl_weave.proofs.Same.{At, at_plain, at_rest, at_inside, Skips, some_same}

-- ---- What holds of pieces, and so of the first of them and of the others.

abbrev pub Left : (P : List Piece → Type 0) → Type 0
Left P = (ps qs : List Piece) → P (ps ++ qs) → P ps

abbrev pub Right : (P : List Piece → Type 0) → Type 0
Right P = (ps qs : List Piece) → P (ps ++ qs) → P qs

-- ---- Spans among others.

-- the spans of the pieces are among these
abbrev Sub : List Piece → List Span → Type 0
Sub ps spans = (s : Span) → has (spans_of ps) s ≡ true → has spans s ≡ true

has_left : (a b : List Span) (s : Span) → has a s ≡ true → has (a ++ b) s ≡ true
has_left [] b s e = absurd (false≢true e)
has_left (x ∷ a) b s e = by (is_span s x) e (has_left a b s)
  where
    by : (q : Bool) → (q || has a s) ≡ true → (has a s ≡ true → has (a ++ b) s ≡ true) → (q || has (a ++ b) s) ≡ true
    by true e f = refl
    by false e f = f e

has_right : (a b : List Span) (s : Span) → has b s ≡ true → has (a ++ b) s ≡ true
has_right [] b s e = e
has_right (x ∷ a) b s e = by (is_span s x) (has_right a b s e)
  where
    by : (q : Bool) → has (a ++ b) s ≡ true → (q || has (a ++ b) s) ≡ true
    by true e = refl
    by false e = e

both : (ps qs : List Piece) → spans_of (ps ++ qs) ≡ spans_of ps ++ spans_of qs
both [] qs = refl
both (p ∷ ps) qs = ap (λ l. piece_spans p ++ l) (both ps qs) ∙ sym (append_assoc (piece_spans p) (spans_of ps) (spans_of qs))

sub_left : (ps qs : List Piece) (spans : List Span) → Sub (ps ++ qs) spans → Sub ps spans
sub_left ps qs spans h s e = h s (ap (λ l. has l s) (both ps qs) ∙ has_left (spans_of ps) (spans_of qs) s e)

sub_right : (ps qs : List Piece) (spans : List Span) → Sub (ps ++ qs) spans → Sub qs spans
sub_right ps qs spans h s e = h s (ap (λ l. has l s) (both ps qs) ∙ has_right (spans_of ps) (spans_of qs) s e)

itself : (s : Span) → is_span s s ≡ true
itself s = and_from _ _ (eq-eqb s.from s.from refl) (eq-eqb s.to s.to refl)

has_cut : (source : List ℕ) (s : Span) (spans : List Span) → IsUtf8 (part source s) → Sub (cut source s) spans → has spans s ≡ true
has_cut source s spans u h =
    h s (ap (λ ps. has (spans_of ps) s) (is_cut source s u) ∙ ap (λ b. b || false) (itself s))

-- ---- An item that is met.

anew-plain : (source sizes indent : List ℕ) (ss : List Statement) (os : List Origin) (n : ℕ) (p : Plain) → anew source sizes indent ss os n (plain_item p) ≡ new (statement_line indent p) ∷ []
anew-plain source sizes indent ss os n (named s t) = refl
anew-plain source sizes indent ss os n (own_item p v) = refl
anew-plain source sizes indent ss os n (default p v) = refl
anew-plain source sizes indent ss os n (dynamic t p v) = refl

anew-holder : (source sizes indent : List ℕ) (ss : List Statement) (os : List Origin) (n : ℕ) (h : Holder) (body : Items)
    → anew source sizes indent ss os n (holder_item h body) ≡ holder_pieces source sizes indent (changed_at n ss os) n h body
anew-holder source sizes indent ss os n (define name k) body = refl
anew-holder source sizes indent ss os n (anonymous s k) body = refl

abbrev Anew : (source sizes indent : List ℕ) (n : ℕ) → Option (Laid × Traces) → Holder → Items → List Piece
Anew source sizes indent n found h body =
    elim found [
      | None ↦ new (holder_text indent h body) ∷ []
      | Some c ↦
          new (open_line indent h)
          ∷ ((loose source sizes (views.list_of c.0) (origins.list_of c.1)
          ++ (walk source sizes (deeper indent) (views.list_of c.0) (origins.list_of c.1) 0 (next n 1) body ++ cut source (last_of c.0)))
          ++ (new (close_line indent h) ∷ []))
    ]

anew_is : (source sizes indent : List ℕ) (n : ℕ) (found : Option (Laid × Traces)) (h : Holder) (body : Items) → Anew source sizes indent n found h body ≡ holder_pieces source sizes indent found n h body
anew_is source sizes indent n None h body = refl
anew_is source sizes indent n (Some c) h body = refl

abbrev pub Good : (sizes : List ℕ) (from : ℕ) (last : Items) (ss : List Statement) (os : List Origin) (m : ℕ) → Type 0
Good sizes from last ss os m = (n : ℕ) (d : Items) (s : Statement) → Ends from last n d → At sizes n d → kept_at sizes n ss os ≡ Some s → (n ≡ m → ⊥) → Skips s.items n m d

less_plain : (k n m : ℕ) (p : Plain) (rest : Items) → Skips k n m (plain p rest) → Skips (k - 1) (n + 1) m rest
less_plain zero n m p rest h = let none : zero - 1 ≡ zero = omega arith in subst (λ j. Skips j (n + 1) m rest) (sym none) tt
less_plain (suc k) n m p rest h = let one : suc k - 1 ≡ k = omega arith in subst (λ j. Skips j (n + 1) m rest) (sym one) h.1

less_holder : (k n m : ℕ) (q : Holder) (b rest : Items) → Skips k n m (holder q b rest) → Skips (k - 1) (n + 1 + count b) m rest
less_holder zero n m q b rest h = let none : zero - 1 ≡ zero = omega arith in subst (λ j. Skips j (n + 1 + count b) m rest) (sym none) tt
less_holder (suc k) n m q b rest h = let one : suc k - 1 ≡ k = omega arith in subst (λ j. Skips j (n + 1 + count b) m rest) (sym one) h.1

-- those behind it are passed over that a statement has, which is met
skips_plain : (sizes : List ℕ) (from : ℕ) (last : Items) (ss : List Statement) (os : List Origin) (n k : ℕ) (p : Plain) (rest : Items) → Ends from last n (plain p rest) → At sizes n (plain p rest) → Good sizes from last ss os k → (n ≡ k → ⊥)
    → (o : Option Statement) → kept_at sizes n ss os ≡ o → Skips (others o) (n + 1) k rest
skips_plain sizes from last ss os n k p rest e z g h None i = tt
skips_plain sizes from last ss os n k p rest e z g h (Some s) i = less_plain s.items n k p rest (g n (plain p rest) s e z i h)

skips_holder : (sizes : List ℕ) (from : ℕ) (last : Items) (ss : List Statement) (os : List Origin) (n k : ℕ) (q : Holder) (b rest : Items) → Ends from last n (holder q b rest) → At sizes n (holder q b rest) → Good sizes from last ss os k → (n ≡ k → ⊥)
    → (o : Option Statement) → kept_at sizes n ss os ≡ o → Skips (others o) (n + 1 + count b) k rest
skips_holder sizes from last ss os n k q b rest e z g h None i = tt
skips_holder sizes from last ss os n k q b rest e z g h (Some s) i = less_holder s.items n k q b rest (g n (holder q b rest) s e z i h)

item_from : (n m : ℕ) (d : Items) (x : Item) → item_with n m d ≡ Some x → n ≤ m
item_from n m no_items x e = cc
item_from n m (plain p rest) x e = by (nat_eq n m) refl e (λ f. item_from (n + 1) m rest x f)
  where
    by : (q : Bool) → nat_eq n m ≡ q → cond q (Some (plain_item p)) (item_with (n + 1) m rest) ≡ Some x → (item_with (n + 1) m rest ≡ Some x → n + 1 ≤ m) → n ≤ m
    by true i f g = omega (arith, eqb-true n m i)
    by false i f g = omega (arith, g f)
item_from n m (holder q b rest) x e = by (nat_eq n m) refl e (λ f. item_from (n + 1 + count b) m rest x f)
  where
    by : (t : Bool) → nat_eq n m ≡ t → cond t (Some (holder_item q b)) (item_with (n + 1 + count b) m rest) ≡ Some x → (item_with (n + 1 + count b) m rest ≡ Some x → n + 1 + count b ≤ m) → n ≤ m
    by true i f g = omega (arith, eqb-true n m i)
    by false i f g = omega (arith, g f)

-- the walk at the item of a number: what goes out before it, what of it, and how it goes on with those behind it
pub record Split (source sizes indent : List ℕ) (from : ℕ) (last : Items) (ss : List Statement) (os : List Origin) (m : ℕ) (x : Item) (skip n : ℕ) (d : Items) : Type 0 where
  pub before : List Piece
  pub left : ℕ
  pub number : ℕ
  pub rest : Items
  pub ends : Ends from last number rest
  pub at : At sizes number rest
  pub parts : walk source sizes indent ss os skip n d
      ≡ before ++ (kept_or source (kept_at sizes m ss os) (anew source sizes indent ss os m x) ++ walk source sizes indent ss os left number rest)
  pub later : (k : ℕ) (y : Item) → m < k → item_with n k d ≡ Some y → item_with number k rest ≡ Some y
  pub skips : (k : ℕ) → m < k → Good sizes from last ss os k → Skips left number k rest

module _ (source sizes indent : List ℕ) (from : ℕ) (last : Items) (ss : List Statement) (os : List Origin) where
  abbrev SplitAt : (m : ℕ) (x : Item) (skip n : ℕ) (d : Items) → Type 0
  SplitAt m x skip n d = Split source sizes indent from last ss os m x skip n d

  abbrev Walk : (skip n : ℕ) (d : Items) → List Piece
  Walk skip n d = walk source sizes indent ss os skip n d

  beyond : (m : ℕ) (x : Item) (skip n : ℕ) (d : Items) (ps : List Piece) (more next_n : ℕ) (rest : Items) → Walk skip n d ≡ ps ++ Walk more next_n rest
      → ((k : ℕ) (y : Item) → m < k → item_with n k d ≡ Some y → item_with next_n k rest ≡ Some y) → SplitAt m x more next_n rest → SplitAt m x skip n d
  beyond m x skip n d ps more next_n rest e f s = record {
    before = ps ++ s.before;
    left = s.left;
    number = s.number;
    rest = s.rest;
    ends = s.ends;
    at = s.at;
    parts = e
        ∙ (ap (λ qs. ps ++ qs) s.parts
        ∙ sym (append_assoc ps s.before (kept_or source (kept_at sizes m ss os) (anew source sizes indent ss os m x) ++ Walk s.left s.number s.rest)));
    later = λ k y low h. s.later k y low (f k y low h);
    skips = s.skips;
  }

  met_plain : (n : ℕ) (p : Plain) (rest : Items) → Ends from last n (plain p rest) → At sizes n (plain p rest) → SplitAt n (plain_item p) zero n (plain p rest)
  met_plain n p rest e z = record {
    before = [];
    left = others (kept_at sizes n ss os);
    number = n + 1;
    rest = rest;
    ends = ends_plain from last n p rest e;
    at = at_plain sizes n p rest z;
    parts = ap (λ ps. kept_or source (kept_at sizes n ss os) ps ++ Walk (others (kept_at sizes n ss os)) (next n 1) rest) (sym (anew-plain source sizes indent ss os n p))
        ∙ ap (λ l. kept_or source (kept_at sizes n ss os) (anew source sizes indent ss os n (plain_item p)) ++ Walk (others (kept_at sizes n ss os)) l rest) (next_plain n p rest z.small);
    later = λ k y low h. sym (plain_past n k p rest low) ∙ h;
    skips = λ k low g. skips_plain sizes from last ss os n k p rest e z g (λ i. omega (arith, low, i)) (kept_at sizes n ss os) refl;
  }

  met_holder : (n : ℕ) (q : Holder) (b rest : Items) → Ends from last n (holder q b rest) → At sizes n (holder q b rest) → SplitAt n (holder_item q b) zero n (holder q b rest)
  met_holder n q b rest e z = record {
    before = [];
    left = others (kept_at sizes n ss os);
    number = n + 1 + count b;
    rest = rest;
    ends = ends_holder from last n q b rest e;
    at = at_rest sizes n q b rest z;
    parts = ap (λ ps. kept_or source (kept_at sizes n ss os) ps ++ Walk (others (kept_at sizes n ss os)) (next n (count b + 1)) rest)
        (anew_is source sizes indent n (changed_at n ss os) q b ∙ sym (anew-holder source sizes indent ss os n q b))
        ∙ ap (λ l. kept_or source (kept_at sizes n ss os) (anew source sizes indent ss os n (holder_item q b)) ++ Walk (others (kept_at sizes n ss os)) l rest) (next_holder n q b rest z.small);
    later = λ k y low h. sym (holder_past n k q b rest low) ∙ h;
    skips = λ k low g. skips_holder sizes from last ss os n k q b rest e z g (λ i. omega (arith, low, i)) (kept_at sizes n ss os) refl;
  }

  later_plain : (m : ℕ) (x : Item) (n : ℕ) (p : Plain) (rest : Items) → item_with (n + 1) m rest ≡ Some x → (k : ℕ) (y : Item) → m < k → item_with n k (plain p rest) ≡ Some y → item_with (n + 1) k rest ≡ Some y
  later_plain m x n p rest f k y low h = let past : n < k = omega (arith, item_from (n + 1) m rest x f, low) in sym (plain_past n k p rest past) ∙ h

  later_holder : (m : ℕ) (x : Item) (n : ℕ) (q : Holder) (b rest : Items) → item_with (n + 1 + count b) m rest ≡ Some x → (k : ℕ) (y : Item) → m < k → item_with n k (holder q b rest) ≡ Some y
      → item_with (n + 1 + count b) k rest ≡ Some y
  later_holder m x n q b rest f k y low h = let past : n < k = omega (arith, item_from (n + 1 + count b) m rest x f, low) in sym (holder_past n k q b rest past) ∙ h

  here_plain : (m : ℕ) (x : Item) (skip n : ℕ) (p : Plain) (rest : Items) → nat_eq n m ≡ true → Some (plain_item p) ≡ Some x → SplitAt n (plain_item p) skip n (plain p rest) → SplitAt m x skip n (plain p rest)
  here_plain m x skip n p rest i j s =
      subst (λ k. SplitAt k x skip n (plain p rest)) (eqb-true n m i) (subst (λ y. SplitAt n y skip n (plain p rest)) (some_same (plain_item p) x j) s)

  here_holder : (m : ℕ) (x : Item) (skip n : ℕ) (q : Holder) (b rest : Items) → nat_eq n m ≡ true → Some (holder_item q b) ≡ Some x → SplitAt n (holder_item q b) skip n (holder q b rest) → SplitAt m x skip n (holder q b rest)
  here_holder m x skip n q b rest i j s =
      subst (λ k. SplitAt k x skip n (holder q b rest)) (eqb-true n m i) (subst (λ y. SplitAt n y skip n (holder q b rest)) (some_same (holder_item q b) x j) s)

  not_met : (n m : ℕ) → nat_eq n m ≡ false → n ≡ m → ⊥
  not_met n m i j = false≢true (sym i ∙ eq-eqb n m j)

  pub split : (m : ℕ) (x : Item) (skip n : ℕ) (d : Items) → Ends from last n d → At sizes n d → Good sizes from last ss os m → item_with n m d ≡ Some x → Skips skip n m d → SplitAt m x skip n d
  split m x zero n no_items e z g f k = cc
  split m x (suc skip) n no_items e z g f k = cc
  split m x (suc skip) n (plain p rest) e z g f k =
      by (nat_eq n m) refl f
      (λ j. beyond m x (suc skip) n (plain p rest) [] skip (n + 1) rest (ap (λ l. Walk skip l rest) (next_plain n p rest z.small)) (later_plain m x n p rest j)
      (split m x skip (n + 1) rest (ends_plain from last n p rest e) (at_plain sizes n p rest z) g j k.1))
    where
      by : (q : Bool) → nat_eq n m ≡ q → cond q (Some (plain_item p)) (item_with (n + 1) m rest) ≡ Some x → (item_with (n + 1) m rest ≡ Some x → SplitAt m x (suc skip) n (plain p rest)) → SplitAt m x (suc skip) n (plain p rest)
      by true i j r = absurd (k.0 (eqb-true n m i))
      by false i j r = r j
  split m x (suc skip) n (holder q b rest) e z g f k =
      by (nat_eq n m) refl f
      (λ j. beyond m x (suc skip) n (holder q b rest) [] skip (n + 1 + count b) rest (ap (λ l. Walk skip l rest) (next_holder n q b rest z.small)) (later_holder m x n q b rest j)
      (split m x skip (n + 1 + count b) rest (ends_holder from last n q b rest e) (at_rest sizes n q b rest z) g j k.1))
    where
      by : (t : Bool) → nat_eq n m ≡ t → cond t (Some (holder_item q b)) (item_with (n + 1 + count b) m rest) ≡ Some x → (item_with (n + 1 + count b) m rest ≡ Some x → SplitAt m x (suc skip) n (holder q b rest))
          → SplitAt m x (suc skip) n (holder q b rest)
      by true i j r = absurd (k.0 (eqb-true n m i))
      by false i j r = r j
  split m x zero n (plain p rest) e z g f k =
      by (nat_eq n m) refl f
      (λ i j. beyond m x zero n (plain p rest) (kept_or source (kept_at sizes n ss os) (new (statement_line indent p) ∷ [])) (others (kept_at sizes n ss os)) (n + 1) rest
      (ap (λ l. kept_or source (kept_at sizes n ss os) (new (statement_line indent p) ∷ []) ++ Walk (others (kept_at sizes n ss os)) l rest) (next_plain n p rest z.small)) (later_plain m x n p rest j)
      (split m x (others (kept_at sizes n ss os)) (n + 1) rest (ends_plain from last n p rest e) (at_plain sizes n p rest z) g j
      (skips_plain sizes from last ss os n m p rest e z g (not_met n m i) (kept_at sizes n ss os) refl)))
    where
      by : (q : Bool) → nat_eq n m ≡ q → cond q (Some (plain_item p)) (item_with (n + 1) m rest) ≡ Some x → (nat_eq n m ≡ false → item_with (n + 1) m rest ≡ Some x → SplitAt m x zero n (plain p rest)) → SplitAt m x zero n (plain p rest)
      by true i j r = here_plain m x zero n p rest i j (met_plain n p rest e z)
      by false i j r = r i j
  split m x zero n (holder q b rest) e z g f k =
      by (nat_eq n m) refl f
      (λ i j. beyond m x zero n (holder q b rest) (kept_or source (kept_at sizes n ss os) (Anew source sizes indent n (changed_at n ss os) q b)) (others (kept_at sizes n ss os)) (n + 1 + count b) rest
      (ap (λ l. kept_or source (kept_at sizes n ss os) (Anew source sizes indent n (changed_at n ss os) q b) ++ Walk (others (kept_at sizes n ss os)) l rest) (next_holder n q b rest z.small)) (later_holder m x n q b rest j)
      (split m x (others (kept_at sizes n ss os)) (n + 1 + count b) rest (ends_holder from last n q b rest e) (at_rest sizes n q b rest z) g j
      (skips_holder sizes from last ss os n m q b rest e z g (not_met n m i) (kept_at sizes n ss os) refl)))
    where
      by : (t : Bool) → nat_eq n m ≡ t → cond t (Some (holder_item q b)) (item_with (n + 1 + count b) m rest) ≡ Some x → (nat_eq n m ≡ false → item_with (n + 1 + count b) m rest ≡ Some x → SplitAt m x zero n (holder q b rest))
          → SplitAt m x zero n (holder q b rest)
      by true i j r = here_holder m x zero n q b rest i j (met_holder n q b rest e z)
      by false i j r = r i j

-- what holds of all pieces of a walk holds of those of an item
abbrev pub IsMet : (source sizes indent : List ℕ) (P : List Piece → Type 0) (ss : List Statement) (os : List Origin) (m : ℕ) (x : Item) → Type 0
IsMet source sizes indent P ss os m x = P (kept_or source (kept_at sizes m ss os) (anew source sizes indent ss os m x))

visited : (source sizes indent : List ℕ) (P : List Piece → Type 0) → Left P → Right P → (from : ℕ) (last : Items) (ss : List Statement) (os : List Origin) (m : ℕ) (x : Item) (n : ℕ) (d : Items) → Ends from last n d → At sizes n d
    → Good sizes from last ss os m → item_with n m d ≡ Some x → P (walk source sizes indent ss os 0 n d) → IsMet source sizes indent P ss os m x
visited source sizes indent P left right from last ss os m x n d e z g f h =
    let s = split source sizes indent from last ss os m x 0 n d e z g f tt in
    let this = kept_or source (kept_at sizes m ss os) (anew source sizes indent ss os m x) in
    let going = walk source sizes indent ss os s.left s.number s.rest in
    left this going (right s.before (this ++ going) (subst P s.parts h))

-- ---- What a number says of the first statement that has it.

now_is : (m : ℕ) (now : Option ℕ) → is_now m now ≡ true → now ≡ Some m
now_is m None e = absurd (false≢true e)
now_is m (Some k) e = ap Some (eqb-true k m e)

is_now-same : (m : ℕ) (now : Option ℕ) → now ≡ Some m → is_now m now ≡ true
is_now-same m now e = ap (is_now m) e ∙ eq-eqb m m refl

kept_holds : (sizes : List ℕ) (m items : ℕ) (own : List Origin) → is_kept sizes m items own ≡ true → Holds m own
kept_holds sizes m items [] e = absurd (false≢true e)
kept_holds sizes m items (o ∷ os) e = inl (now_is m o.now (and_parts (is_now m o.now) (is_untouched sizes items (o ∷ os)) e).0)

not_kept : (sizes : List ℕ) (m items : ℕ) (own : List Origin) → (Holds m own → ⊥) → is_kept sizes m items own ≡ false
not_kept sizes m items own h = by (is_kept sizes m items own) refl
  where
    by : (q : Bool) → is_kept sizes m items own ≡ q → q ≡ false
    by true e = absurd (h (kept_holds sizes m items own e))
    by false e = refl

none_kept : (sizes : List ℕ) (m : ℕ) (ss : List Statement) (os : List Origin) → (Holds m os → ⊥) → kept_at sizes m ss os ≡ None
none_kept sizes m [] os h = refl
none_kept sizes m (s ∷ ss) os h =
    ap (λ q. cond q (Some s) (kept_at sizes m ss (drop s.items os))) (not_kept sizes m s.items (take s.items os) (λ g. h (holds_take s.items m os g)))
    ∙ none_kept sizes m ss (drop s.items os) (λ g. h (holds_drop s.items m os g))

not_inside : (m : ℕ) (os : List Origin) → (Holds m os → ⊥) → inside_now m os ≡ None
not_inside m [] h = refl
not_inside m (o ∷ os) h = by (is_now m o.now) refl (not_inside m os (λ g. h (inr g)))
  where
    by : (q : Bool) → is_now m o.now ≡ q → inside_now m os ≡ None → cond q (Some o.inside) (inside_now m os) ≡ None
    by true e f = absurd (h (inl (now_is m o.now e)))
    by false e f = f

not_changed : (m : ℕ) (o : Option Inner) (os : List Origin) → (Holds m os → ⊥) → changed_in m o os ≡ None
not_changed m None os h = refl
not_changed m (Some i) os h = ap (option_map (λ t. (i.body, t))) (not_inside m os h)

inside_holds : (sizes : List ℕ) (m : ℕ) (ss : List Statement) (os : List Origin) → Inside sizes m ss os → Holds m os
inside_holds sizes m [] os h = absurd h
inside_holds sizes m (s ∷ ss) os (inl h) = holds_take s.items m os (holds_tail m (take s.items os) h.1)
inside_holds sizes m (s ∷ ss) os (inr h) = holds_drop s.items m os (inside_holds sizes m ss (drop s.items os) h)

-- of the numbers of these items all statements say what these do
pub record Suffix (sizes : List ℕ) (ss0 : List Statement) (os0 : List Origin) (ss : List Statement) (os : List Origin) : Type 0 where
  pub kept : (m : ℕ) → Holds m os → kept_at sizes m ss0 os0 ≡ kept_at sizes m ss os
  pub changed : (m : ℕ) → Holds m os → changed_at m ss0 os0 ≡ changed_at m ss os
  pub inside : (m : ℕ) → Holds m os → Inside sizes m ss0 os0 → Inside sizes m ss os

pub suffix_all : (sizes : List ℕ) (ss : List Statement) (os : List Origin) → Suffix sizes ss os ss os
suffix_all sizes ss os = record { kept = λ m h. refl; changed = λ m h. refl; inside = λ m h i. i }

pub suffix_next : (sizes : List ℕ) (ss0 : List Statement) (os0 : List Origin) (s : Statement) (ss : List Statement) (os : List Origin) → StandOnce (origins.traces_of os) → Suffix sizes ss0 os0 (s ∷ ss) os → Suffix sizes ss0 os0 ss (drop s.items os)
suffix_next sizes ss0 os0 s ss os once f =
    let not_front : (m : ℕ) → Holds m (drop s.items os) → Holds m (take s.items os) → ⊥ = λ m h g. apart s.items m os once g h in record {
      kept = λ m h.
          f.kept m (holds_drop s.items m os h) ∙ ap (λ q. cond q (Some s) (kept_at sizes m ss (drop s.items os))) (not_kept sizes m s.items (take s.items os) (not_front m h));
      changed = λ m h.
          f.changed m (holds_drop s.items m os h) ∙ ap (λ q. first_of q (changed_at m ss (drop s.items os))) (not_changed m s.inside (take s.items os) (not_front m h));
      inside = λ m h i. behind m h (f.inside m (holds_drop s.items m os h) i);
    }
  where
    behind : (m : ℕ) → Holds m (drop s.items os) → Inside sizes m (s ∷ ss) os → Inside sizes m ss (drop s.items os)
    behind m h (inl g) = absurd (apart s.items m os once (holds_tail m (take s.items os) g.1) h)
    behind m h (inr g) = g

-- no statement that is met first has the number inside
pub good : (source sizes : List ℕ) (from : ℕ) (last : Items) (ss : List Statement) (os : List Origin) (xs : List Item) (m : ℕ) → AloneList source ss xs → AreSo from last os xs → (Inside sizes m ss os → ⊥) → Good sizes from last ss os m
good source sizes from last ss os xs m a v h n d s e z f g =
    let k = kept_found source sizes from last n ss os xs s a v f in
    let t = kept_taken source sizes from last n d ss os s k e z in
    t.skips m (lacks_unless m k.own (none k.own t.first t.more t.own_is t.now (λ i. h (k.others m i))))
  where
    other : ◌≡◌ {A = Option ℕ} (Some n) (Some m) → ⊥
    other e = g (cc)

    none : (own : List Origin) (o : Origin) (os : List Origin) → own ≡ o ∷ os → o.now ≡ Some n → (Holds m (tail own) → ⊥) → Holds m own → ⊥
    none own o os e f i h = at (subst (λ l. Holds m l) e h)
      where
        at : (o.now ≡ Some m) ⊎ Holds m os → ⊥
        at (inl j) = other (sym f ∙ j)
        at (inr j) = i (subst (λ l. Holds m (tail l)) (sym e) j)

-- ---- A body whose statements are all met.

value_there : (from : ℕ) (last : Items) (o : Origin) (x : Item) (m : ℕ) → IsValue from last o x → o.now ≡ Some m → (z : Item) × (item_with from m last ≡ Some z)
value_there from last o x m v e = by x v
  where
    plain_there : (p : Plain) → IsPlainValue from last o.now o.is_touched p → (z : Item) × (item_with from m last ≡ Some z)
    plain_there p v = let w = subst (λ now. IsPlainValue from last now o.is_touched p) e v in (plain_item w.0, w.1)

    holder_there : (h : Holder) (inside : ℕ → Items → Type 0) → IsHolderValue from last o.now o.is_touched h inside → (z : Item) × (item_with from m last ≡ Some z)
    holder_there h inside v = let w = subst (λ now. IsHolderValue from last now o.is_touched h inside) e v in (holder_item w.0 w.1, w.2)

    by : (x : Item) → IsValue from last o x → (z : Item) × (item_with from m last ≡ Some z)
    by (Define n c) v = holder_there _ _ v.0
    by (Instance s (Named t)) v = plain_there _ v.0
    by (Instance s (Anonymous c)) v = holder_there _ _ v.0
    by (Own p w) v = plain_there _ v.0
    by (Default p w) v = plain_there _ v.0
    by (Dynamic t p w) v = plain_there _ v.0

-- an item with items inside is one with a body in the last map
pub record Body (from : ℕ) (last : Items) (o : Origin) (x : Item) (m : ℕ) : Type 0 where
  pub head : Holder
  pub body : Items
  pub there : item_with from m last ≡ Some (holder_item head body)
  pub items : Items
  pub own : own_body x ≡ Some items
  pub values : AreValues (m + 1) body o.inside items

pub body_there : (from : ℕ) (last : Items) (o : Origin) (x : Item) (m : ℕ) → IsValue from last o x → o.now ≡ Some m → is_empty o.inside ≡ false → Body from last o x m
body_there from last o x m v e f = by x v
  where
    not_empty : o.inside ≡ no_traces → ⊥
    not_empty g = false≢true (sym f ∙ ap is_empty g)

    held : (h : Holder) (c : Items) (y : Item) → own_body y ≡ Some c → IsHolderValue from last o.now o.is_touched h (λ k b. AreValues k b o.inside c) → Body from last o y m
    held h c y g v =
        let w = subst (λ now. IsHolderValue from last now o.is_touched h (λ k b. AreValues k b o.inside c)) e v in
        record { head = w.0; body = w.1; there = w.2; items = c; own = g; values = w.4 }

    by : (x : Item) → IsValue from last o x → Body from last o x m
    by (Define n c) v = held _ c.body _ refl v.0
    by (Instance s (Named t)) v = absurd (not_empty v.1)
    by (Instance s (Anonymous c)) v = held _ c.body _ refl v.0
    by (Own p w) v = absurd (not_empty v.1)
    by (Default p w) v = absurd (not_empty v.1)
    by (Dynamic t p w) v = absurd (not_empty v.1)

-- what holds of the pieces of a body holds of those of each of its items, but of those behind the first one of a statement that no edit touched
abbrev pub Meets : (source sizes indent : List ℕ) (P : List Piece → Type 0) (from : ℕ) (last : Items) (ss : List Statement) (os : List Origin) → Type 0
Meets source sizes indent P from last ss os =
    (m : ℕ) (x : Item) → item_with from m last ≡ Some x → (Inside sizes m ss os → ⊥) → IsMet source sizes indent P ss os m x

pub meets_all : (source sizes indent : List ℕ) (P : List Piece → Type 0) → Left P → Right P → (from : ℕ) (last : Items) (l : Laid) (os : List Origin) (xs : List Item) → At sizes from last → StandAlone source l xs → AreSo from last os xs
    → P (walk source sizes indent (views.list_of l) os 0 from last) → Meets source sizes indent P from last (views.list_of l) os
meets_all source sizes indent P left right from last l os xs z a v h = λ m x there none.
    visited source sizes indent P left right from last (views.list_of l) os m x from last (λ j low. refl) z (good source sizes from last (views.list_of l) os xs m (alone_list source l xs a) v none) there h

-- the first item of these
pub record Front (sizes : List ℕ) (items : ℕ) (own : List Origin) : Type 0 where
  pub origin : Origin
  pub more : List Origin
  pub own_is : own ≡ origin ∷ more
  pub number : ℕ
  pub now : origin.now ≡ Some number

pub front : (sizes : List ℕ) (items : ℕ) (own : List Origin) → is_untouched sizes items own ≡ true → Front sizes items own
front sizes items [] e = absurd (false≢true e)
front sizes items (o ∷ os) e = at o.now refl (and_parts _ _ e).1
  where
    at : (now : Option ℕ) → o.now ≡ now → option_map_or (λ n. is_some (behind sizes n (origins.traces_of (o ∷ os)))) now false ≡ true → Front sizes items (o ∷ os)
    at None f g = absurd (false≢true g)
    at (Some n) f g = record { origin = o; more = os; own_is = refl; number = n; now = f }

-- the item of the last map with which the statement is met that no edit touched
pub record Mark (sizes : List ℕ) (from : ℕ) (last : Items) (ss0 : List Statement) (os0 : List Origin) (s : Statement) (own : List Origin) : Type 0 where
  pub first : Front sizes s.items own
  pub item : Item
  pub there : item_with from first.number last ≡ Some item
  pub found : kept_at sizes first.number ss0 os0 ≡ Some s
  pub alone : Inside sizes first.number ss0 os0 → ⊥

pub mark : (sizes : List ℕ) (from : ℕ) (last : Items) (ss0 : List Statement) (os0 : List Origin) (s : Statement) (ss : List Statement) (os : List Origin) (xs : List Item)
    → Suffix sizes ss0 os0 (s ∷ ss) os → StandOnce (origins.traces_of os) → AreSo from last (take s.items os) xs → is_untouched sizes s.items (take s.items os) ≡ true → Mark sizes from last ss0 os0 s (take s.items os)
mark sizes from last ss0 os0 s ss os xs f once_os v u =
    let r = front sizes s.items (take s.items os) u in
    let m = r.number in
    let own_holds : Holds m (take s.items os) = subst (λ l. Holds m l) (sym r.own_is) (inl r.now) in
    let held : Holds m os = holds_take s.items m os own_holds in
    let kept : is_kept sizes m s.items (take s.items os) ≡ true =
    ap (is_kept sizes m s.items) r.own_is ∙ and_from _ _ (is_now-same m r.origin.now r.now) (sym (ap (is_untouched sizes s.items) r.own_is) ∙ u) in
    let z = there r xs (subst (λ l. AreSo from last l xs) r.own_is v) in
    record {
      first = r;
      item = z.0;
      there = z.1;
      found = f.kept m held ∙ ap (λ q. cond q (Some s) (kept_at sizes m ss (drop s.items os))) kept;
      alone = λ i. not_here r own_holds (f.inside m held i);
    }
  where
    there : (r : Front sizes s.items (take s.items os)) (xs : List Item) → AreSo from last (r.origin ∷ r.more) xs → (z : Item) × (item_with from r.number last ≡ Some z)
    there r [] w = absurd w
    there r (x ∷ xs) w = value_there from last r.origin x r.number (first_value from last r.origin (origins.traces_of r.more) x (items_of xs) w).0 r.now

    not_here : (r : Front sizes s.items (take s.items os)) → Holds r.number (take s.items os) → Inside sizes r.number (s ∷ ss) os → ⊥
    not_here r h (inl g) =
        once r.number r.origin r.more (subst (λ l. StandOnce (origins.traces_of l)) r.own_is (once_take s.items os once_os)) r.now (subst (λ l. Holds r.number (tail l)) r.own_is g.1)
    not_here r h (inr g) = apart s.items r.number os once_os h (inside_holds sizes r.number ss (drop s.items os) g)

-- the statement is met that no edit touched
kept_is_met : (source sizes indent : List ℕ) (P : List Piece → Type 0) (from : ℕ) (last : Items) (ss0 : List Statement) (os0 : List Origin) (s : Statement) (ss : List Statement) (os : List Origin) (xs : List Item) → Meets source sizes indent P from last ss0 os0
    → Suffix sizes ss0 os0 (s ∷ ss) os → StandOnce (origins.traces_of os) → AreSo from last (take s.items os) xs → is_untouched sizes s.items (take s.items os) ≡ true → P (cut source s.float ++ cut source (core (bare_of s)))
kept_is_met source sizes indent P from last ss0 os0 s ss os xs meets f once_os v u =
    let r = mark sizes from last ss0 os0 s ss os xs f once_os v u in
    subst (λ k. P (kept_or source k (anew source sizes indent ss0 os0 r.first.number r.item))) r.found (meets r.first.number r.item r.there r.alone)

-- the body is met of an item of a statement that an edit touched
pub changed_is_met : (source sizes indent : List ℕ) (P : List Piece → Type 0) → Left P → Right P → (from : ℕ) (last : Items) (ss0 : List Statement) (os0 : List Origin) (b : Bare) (i : Inner) (ss : List Statement) (os : List Origin) (o : Origin) (m : ℕ) (h : Holder) (body : Items)
    → Meets source sizes indent P from last ss0 os0 → Suffix sizes ss0 os0 (statement_of b (Some i) ∷ ss) os → StandOnce (origins.traces_of os) → is_untouched sizes b.items (take b.items os) ≡ false
    → Holds m (take b.items os) → inside_now m (take b.items os) ≡ Some o.inside → item_with from m last ≡ Some (holder_item h body)
    → P (body_pieces source sizes (deeper indent) i.body o.inside (next m 1) body)
changed_is_met source sizes indent P left right from last ss0 os0 b i ss os o m h body meets f once_os u own_holds inner there =
    let own = take b.items os in
    let held : Holds m os = holds_take b.items m os own_holds in
    let behind : (Holds m (drop b.items os) → ⊥) = λ g. apart b.items m os once_os own_holds g in
    let not_it : is_kept sizes m b.items own ≡ false = not_this own u in
    let none : kept_at sizes m ss0 os0 ≡ None =
    f.kept m held ∙ (ap (λ q. cond q (Some (statement_of b (Some i))) (kept_at sizes m ss (drop b.items os))) not_it ∙ none_kept sizes m ss (drop b.items os) behind) in
    let found : changed_at m ss0 os0 ≡ Some (i.body, o.inside) =
    f.changed m held ∙ ap (λ t. first_of (option_map (λ t. (i.body, t)) t) (changed_at m ss (drop b.items os))) inner in
    let met = meets m (holder_item h body) there (λ g. not_here (f.inside m held g)) in
    let inner_pieces = body_pieces source sizes (deeper indent) i.body o.inside (next m 1) body in
    let pieces : P (holder_pieces source sizes indent (Some (i.body, o.inside)) m h body) =
    subst (λ c. P (holder_pieces source sizes indent c m h body)) found
    (subst P (anew-holder source sizes indent ss0 os0 m h body)
    (subst (λ k. P (kept_or source k (anew source sizes indent ss0 os0 m (holder_item h body)))) none met)) in
    left inner_pieces (new (close_line indent h) ∷ []) (right (new (open_line indent h) ∷ []) (inner_pieces ++ (new (close_line indent h) ∷ [])) pieces)
  where
    and_false : (a : Bool) → (a && false) ≡ false
    and_false true = refl
    and_false false = refl

    not_this : (own : List Origin) → is_untouched sizes b.items own ≡ false → is_kept sizes m b.items own ≡ false
    not_this [] e = refl
    not_this (p ∷ ps) e = ap (λ q. is_now m p.now && q) e ∙ and_false (is_now m p.now)

    not_here : Inside sizes m (statement_of b (Some i) ∷ ss) os → ⊥
    not_here (inl g) = false≢true (sym u ∙ g.0)
    not_here (inr g) = apart b.items m os once_os own_holds (inside_holds sizes m ss (drop b.items os) g)

-- one statement
covers_this : (source sizes : List ℕ) (spans : List Span) (b : Bare) (os own : List Origin) (later : List Piece) (inside : Bool) → IsUtf8 (part source b.float) → IsUtf8 (part source (core b))
    → (is_untouched sizes b.items own ≡ true → Sub (cut source b.float ++ cut source (core b)) spans) → Sub (cond (is_untouched sizes b.items own) [] (cut source b.float) ++ later) spans
    → (is_untouched sizes b.items own ≡ false → inside ≡ true) → covers_one spans sizes b own inside ≡ true
covers_this source sizes spans b os own later inside t c kept floats f = by (is_untouched sizes b.items own) refl floats
  where
    by : (q : Bool) → is_untouched sizes b.items own ≡ q → Sub (cond q [] (cut source b.float) ++ later) spans → (has spans b.float && cond q (has spans (core b)) inside) ≡ true
    by true e g =
        and_from _ _ (has_cut source b.float spans t (sub_left (cut source b.float) (cut source (core b)) spans (kept e))) (has_cut source (core b) spans c (sub_right (cut source b.float) (cut source (core b)) spans (kept e)))
    by false e g = and_from _ _ (has_cut source b.float spans t (sub_left (cut source b.float) later spans g)) (f e)

-- ---- All items with items inside.

all_cons : (Q : Origin → Type 0) (o : Origin) (os : List Origin) → Q o → All Q os → All Q (o ∷ os)
all_cons Q o os h t = at
  where
    at : (k : ℕ) (d : Origin) → k < length (o ∷ os) → Q (slice_index_or (o ∷ os) k d)
    at zero d low = h
    at (suc k) d low = t k d (omega (arith, low))

pub all_inside : (Q : Origin → Type 0) (A : Items → Type 0) (from : ℕ) (last : Items) (own0 own : List Origin) (xs : List Item) → AreSo from last own xs → InBodies A xs → StandOnce (origins.traces_of own)
    → ((m : ℕ) → Holds m own → (inside_now m own0 ≡ inside_now m own) × Holds m own0)
    → ((o : Origin) (x : Item) (m : ℕ) → IsValue from last o x → InBody A (own_body x) → o.now ≡ Some m → is_empty o.inside ≡ false → inside_now m own0 ≡ Some o.inside → Holds m own0 → Q o)
    → All (λ o. IsTrue (holds_items o) → Q o) own
all_inside Q A from last own0 [] xs v a s g f = λ k d low. absurd (omega (arith, low))
all_inside Q A from last own0 (o ∷ os) [] v a s g f = absurd v
all_inside Q A from last own0 (o ∷ os) (x ∷ xs) v a s g f =
    let parts = first_value from last o (origins.traces_of os) x (items_of xs) v in
    all_cons (λ o. IsTrue (holds_items o) → Q o) o os (this o.now refl (is_empty o.inside) refl parts.0) (all_inside Q A from last own0 os xs parts.1 a.1 s.2 (λ m h. behind m h) f)
  where
    this : (now : Option ℕ) → o.now ≡ now → (q : Bool) → is_empty o.inside ≡ q → IsValue from last o x → IsTrue (is_some now && not q) → Q o
    this None e q h w t = absurd (false≢true t)
    this (Some m) e true h w t = absurd (false≢true t)
    this (Some m) e false h w t =
        let at = g m (inl e) in
        f o x m w a.0 e h (at.0 ∙ ap (λ q. cond q (Some o.inside) (inside_now m os)) (is_now-same m o.now e)) at.1

    behind : (m : ℕ) → Holds m os → (inside_now m own0 ≡ inside_now m os) × Holds m own0
    behind m h =
        let at = g m (inr h) in (at.0 ∙ later (is_now m o.now) refl, at.1)
      where
        later : (q : Bool) → is_now m o.now ≡ q → cond q (Some o.inside) (inside_now m os) ≡ inside_now m os
        later true e = absurd (once m o os s (now_is m o.now e) h)
        later false e = refl

all_said : (q : Origin → Bool) (own : List Origin) → All (λ o. IsTrue (holds_items o) → q o ≡ true) own → list_all (λ o. not (holds_items o) || q o) own ≡ true
all_said q [] h = refl
all_said q (o ∷ os) h = and_from _ _ (one (holds_items o) (h 0 o (omega arith))) (all_said q os (λ k d low. h (suc k) d (omega (arith, low))))
  where
    one : (b : Bool) → (IsTrue b → q o ≡ true) → (not b || q o) ≡ true
    one true f = f refl
    one false f = refl

silent_last : (source : List ℕ) (l : Laid) → FloatsAreSilent source l → IsSilent source (last_of l)
silent_last source (ended last) h = h
silent_last source (bare b rest) h = silent_last source rest h.1
silent_last source (braced b br body rest) h = silent_last source rest h.2

pub inside_once : (m : ℕ) (o : Origin) (own : List Origin) → StandOnce (origins.traces_of own) → inside_now m own ≡ Some o.inside → StandOnce o.inside
inside_once m o [] s e = cc
inside_once m o (p ∷ ps) s e = by (is_now m p.now) e (inside_once m o ps s.2)
  where
    by : (q : Bool) → cond q (Some p.inside) (inside_now m ps) ≡ Some o.inside → (inside_now m ps ≡ Some o.inside → StandOnce o.inside) → StandOnce o.inside
    by true f g = subst StandOnce (some_same p.inside o.inside f) s.1
    by false f g = g f

pub next_small : (m : ℕ) {sizes : List ℕ} {b : Items} → At sizes (m + 1) b → next m 1 ≡ m + 1
next_small m z = omega (arith, z.small)

-- what holds of a body whose pieces are in the text
record InText (source sizes indent : List ℕ) (spans : List Span) (from : ℕ) (last : Items) (l : Laid) (t : Traces) (xs : Items) : Type 0 where
  pub meets : Meets source sizes indent (λ ps. Sub ps spans) from last (views.list_of l) (origins.list_of t)
  pub alone : StandAlone source l (list_of xs)
  pub values : AreSo from last (origins.list_of t) (list_of xs)
  pub once : StandOnce (origins.traces_of (origins.list_of t))
  pub floats : Sub (loose source sizes (views.list_of l) (origins.list_of t)) spans
  pub end : has spans (last_of l) ≡ true

in_body : (source sizes indent : List ℕ) (spans : List Span) (from : ℕ) (last : Items) (l : Laid) (t : Traces) (xs : Items) → At sizes from last → FloatsAreSilent source l → StandAlone source l (list_of xs)
    → AreValues from last t xs → StandOnce t → Sub (body_pieces source sizes indent l t from last) spans → InText source sizes indent spans from last l t xs
in_body source sizes indent spans from last l t xs z f a v s h =
    let ss = views.list_of l in
    let os = origins.list_of t in
    let going = walk source sizes indent ss os 0 from last in
    let behind = sub_right (loose source sizes ss os) (going ++ cut source (last_of l)) spans h in
    let so = so_lists from last t xs v in
    record {
      meets = meets_all source sizes indent (λ ps. Sub ps spans) (λ ps qs. sub_left ps qs spans) (λ ps qs. sub_right ps qs spans) from last l os (list_of xs) z a so (sub_left going (cut source (last_of l)) spans behind);
      alone = a;
      values = so;
      once = subst StandOnce (sym (traces_rounds.traces_of-list_of t)) s;
      floats = sub_left (loose source sizes ss os) (going ++ cut source (last_of l)) spans h;
      end = has_cut source (last_of l) spans (silent_last source l f).is_text (sub_right going (cut source (last_of l)) spans behind);
    }

covers_list : (source sizes indent : List ℕ) (spans : List Span) (from : ℕ) (last : Items) (ss0 : List Statement) (os0 : List Origin) (l : Laid) (os : List Origin) (xs : List Item) → Meets source sizes indent (λ ps. Sub ps spans) from last ss0 os0
    → At sizes from last → FloatsAreSilent source l → StandAlone source l xs → AreSo from last os xs → StandOnce (origins.traces_of os) → Suffix sizes ss0 os0 (views.list_of l) os
    → Sub (loose source sizes (views.list_of l) os) spans → has spans (last_of l) ≡ true → covers spans sizes l os ≡ true
covers_list source sizes indent spans from last ss0 os0 (ended end) os xs meets z t a v s f g h = h
covers_list source sizes indent spans from last ss0 os0 (bare b rest) os xs meets z t a v s f g h =
    let st = statement_of b None in
    let later = loose source sizes (views.list_of rest) (drop b.items os) in
    and_from _ _
    (covers_this source sizes spans b os (take b.items os) later true t.0.is_text a.0.is_text
    (λ u. kept_is_met source sizes indent (λ ps. Sub ps spans) from last ss0 os0 st (views.list_of rest) os (take b.items xs) meets f s (so_take from last b.items os xs v) u) g (λ u. refl))
    (covers_list source sizes indent spans from last ss0 os0 rest (drop b.items os) (drop b.items xs) meets z t.1 a.1 (so_drop from last b.items os xs v) (once_drop b.items os s)
    (suffix_next sizes ss0 os0 st (views.list_of rest) os s f) (sub_right (float_of source sizes st (take b.items os)) later spans g) h)
covers_list source sizes indent spans from last ss0 os0 (braced b br body rest) os xs meets z t a v s f g h =
    let i : Inner = record { «open» = br.begin; close = br.close; body = body } in
    let st = statement_of b (Some i) in
    let later = loose source sizes (views.list_of rest) (drop b.items os) in
    and_from _ _
    (covers_this source sizes spans b os (take b.items os) later (list_all (λ o. not (holds_items o) || covers spans sizes body (origins.list_of o.inside)) (take b.items os)) t.0.is_text a.0.is_text
    (λ u. kept_is_met source sizes indent (λ ps. Sub ps spans) from last ss0 os0 st (views.list_of rest) os (take b.items xs) meets f s (so_take from last b.items os xs v) u) g
    (λ u. all_said (λ o. covers spans sizes body (origins.list_of o.inside)) (take b.items os) (all_inside (λ o. covers spans sizes body (origins.list_of o.inside) ≡ true) (λ y. StandAlone source body (list_of y)) from last (take b.items os) (take b.items os) (take b.items xs)
    (so_take from last b.items os xs v) a.1 (once_take b.items os s) (λ m k. (refl, k))
    (λ o x m w c e n j k.
    let there = body_there from last o x m w e n in
    let small = at_inside sizes from m last there.head there.body z there.there in
    let r = in_body source sizes (deeper indent) spans (m + 1) there.body body o.inside there.items small t.1 (subst (InBody (λ y. StandAlone source body (list_of y))) there.own c) there.values
    (inside_once m o (take b.items os) (once_take b.items os s) j)
    (subst (λ n. Sub (body_pieces source sizes (deeper indent) body o.inside n there.body) spans) (next_small m small)
    (changed_is_met source sizes indent (λ ps. Sub ps spans) (λ ps qs. sub_left ps qs spans) (λ ps qs. sub_right ps qs spans) from last ss0 os0 b i (views.list_of rest) os o m there.head there.body meets f s u k j there.there)) in
    covers_list source sizes (deeper indent) spans (m + 1) there.body (views.list_of body) (origins.list_of o.inside) body (origins.list_of o.inside) (list_of there.items)
    r.meets small t.1 r.alone r.values r.once (suffix_all sizes (views.list_of body) (origins.list_of o.inside)) r.floats r.end))))
    (covers_list source sizes indent spans from last ss0 os0 rest (drop b.items os) (drop b.items xs) meets z t.2 a.2 (so_drop from last b.items os xs v) (once_drop b.items os s)
    (suffix_next sizes ss0 os0 st (views.list_of rest) os s f) (sub_right (float_of source sizes st (take b.items os)) later spans g) h)

covers_body : (source sizes indent : List ℕ) (spans : List Span) (from : ℕ) (last : Items) (l : Laid) (t : Traces) (xs : Items) → At sizes from last → FloatsAreSilent source l → StandAlone source l (list_of xs)
    → AreValues from last t xs → StandOnce t → Sub (body_pieces source sizes indent l t from last) spans → covers spans sizes l (origins.list_of t) ≡ true
covers_body source sizes indent spans from last l t xs z f a v s h =
    let r = in_body source sizes indent spans from last l t xs z f a v s h in
    covers_list source sizes indent spans from last (views.list_of l) (origins.list_of t) l (origins.list_of t) (list_of xs) r.meets z f r.alone r.values r.once (suffix_all sizes (views.list_of l) (origins.list_of t)) r.floats r.end

pub covered_all : (source sizes : List ℕ) (l : Laid) (t : Traces) (xs last : Items) → At sizes 0 last → FloatsAreSilent source l → StandAlone source l (list_of xs) → AreValues 0 last t xs → StandOnce t
    → covers (spans_of (coarse source sizes l t last)) sizes l (origins.list_of t) ≡ true
covered_all source sizes l t xs last z f a v s = covers_body source sizes [] (spans_of (coarse source sizes l t last)) 0 last l t xs z f a v s (λ u e. e)
