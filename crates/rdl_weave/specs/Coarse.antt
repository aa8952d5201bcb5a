-- A text in which every statement that no edit touched stands as it stood, and the other items of the last map are spelled anew.
-- own: SystemRDL 2.0 has no edits.
use Rattle.std.specs.Prelude.{ℕ, zero, suc, ◌+◌, ◌-◌, Bool, true, false, ◌&&◌, ◌||◌, not, nat_eq, if◌then◌else◌, List, [], ◌∷◌, ◌++◌, take, drop, Option, Some, None, option_map}
use Rattle.std.specs.List.{list_all, list_any}
use Rattle.std.specs.Str.{is_utf8}
use Rattle.rdl_tree.specs.Items.{Items, no_items, plain, holder, named, own, default, dynamic, Holder, define, anonymous, count}
use Rattle.rdl_tree.specs.declared.description.Item.{Item}
use Rattle.rdl_tree.specs.declared.description.Item.TheVariants.{Define, Instance, Own, Default, Dynamic}
use Rattle.rdl_tree.specs.declared.description.Of.TheVariants.{Named, Anonymous}
use Rattle.rdl_tree.specs.Weight.{capped}
use Rattle.rdl_origin.specs.Traces.{Traces}
use Rattle.rdl_origin.specs.View as origins
use Rattle.rdl_origin.specs.declared.origin.Origin.{Origin}
use Rattle.rdl_source.specs.Beside.{line}
use Rattle.rdl_source.specs.Laid.{Bare, Laid, ended, bare, braced}
use Rattle.rdl_source.specs.LaidText.{part}
use Rattle.rdl_source.specs.View as laid
use Rattle.rdl_source.specs.View.{bare_of, last_of}
use Rattle.rdl_source.specs.declared.span.Span.{Span}
use Rattle.rdl_source.specs.declared.statement.Inner.{Inner}
use Rattle.rdl_source.specs.declared.statement.Statement.{Statement}
use Rattle.rdl_write.specs.ItemText.{holder_text}
use Rattle.rdl_write.specs.MapText.{statement_line, open_line, close_line, deeper}
use Rattle.rdl_weave.specs.Keeping.{core, holds_items}
use Rattle.rdl_weave.specs.Untouched.{is_now, is_untouched}

-- ---- What an item of the last map was, by its number.

-- no edit touched the statement with these items, and the first of them has this number
abbrev pub is_kept : (sizes : List ℕ) → (n : ℕ) → (items : ℕ) → List Origin → Bool
is_kept sizes n items [] = false
is_kept sizes n items (o ∷ os) = is_now n o.now && is_untouched sizes items (o ∷ os)

-- the one of these statements, with these items, for which that is so
abbrev pub kept_at : (sizes : List ℕ) → (n : ℕ) → List Statement → List Origin → Option Statement
kept_at sizes n [] os = None
kept_at sizes n (s ∷ ss) os = if is_kept sizes n s.items (take s.items os) then Some s else kept_at sizes n ss (drop s.items os)

-- what was inside the one of these items that has this number
abbrev pub inside_now : (n : ℕ) → List Origin → Option Traces
inside_now n [] = None
inside_now n (o ∷ os) = if is_now n o.now then Some o.inside else inside_now n os

-- the statements between the braces of a statement with these items, and what was inside the item that has this number
abbrev pub changed_in : (n : ℕ) → Option Inner → List Origin → Option (Laid × Traces)
changed_in n None os = None
changed_in n (Some i) os = option_map (λ t. (i.body, t)) (inside_now n os)

abbrev pub first_of : {X : Type 0} → Option X → Option X → Option X
first_of (Some x) o = Some x
first_of None o = o

-- the same of these statements, with these items
abbrev pub changed_at : (n : ℕ) → List Statement → List Origin → Option (Laid × Traces)
changed_at n [] os = None
changed_at n (s ∷ ss) os = first_of (changed_in n s.inside (take s.items os)) (changed_at n ss (drop s.items os))

-- ---- What is put together: what the source has in a span, ended by a line feed, and new lines.

pub data Piece : Type 0 where
  old : Span → Piece
  new : List ℕ → Piece

-- what the source has in a span, if it is a text
abbrev pub cut : (source : List ℕ) → Span → List Piece
cut source s = if is_utf8 (part source s) then old s ∷ [] else []

abbrev pub piece_text : (source : List ℕ) → Piece → List ℕ
piece_text source (old s) = line (part source s)
piece_text source (new t) = t

abbrev pub text_of : (source : List ℕ) → List Piece → List ℕ
text_of source [] = []
text_of source (p ∷ ps) = piece_text source p ++ text_of source ps

-- the spans that stand in the text
abbrev pub piece_spans : Piece → List Span
piece_spans (old s) = s ∷ []
piece_spans (new t) = []

abbrev pub spans_of : List Piece → List Span
spans_of [] = []
spans_of (p ∷ ps) = piece_spans p ++ spans_of ps

-- ---- What goes out.

-- what floats before the statement with these items, if an edit touched it
abbrev pub float_of : (source sizes : List ℕ) → Statement → List Origin → List Piece
float_of source sizes s os = if is_untouched sizes s.items os then [] else cut source s.float

-- what floats before the statements that an edit touched
abbrev pub loose : (source sizes : List ℕ) → List Statement → List Origin → List Piece
loose source sizes [] os = []
loose source sizes (s ∷ ss) os =
    float_of source sizes s (take s.items os) ++ loose source sizes ss (drop s.items os)

-- the statement, with what floats before it, if there is one, or what is new
abbrev pub kept_or : (source : List ℕ) → Option Statement → List Piece → List Piece
kept_or source None anew = anew
kept_or source (Some s) anew = cut source s.float ++ cut source (core (bare_of s))

-- how many items behind the first the statement has
abbrev pub others : Option Statement → ℕ
others None = 0
others (Some s) = s.items - 1

-- the number behind so many items
abbrev pub next : (n size : ℕ) → ℕ
next n size = capped (n + capped size)

-- The items of a body of the last map from a number on, but for the first ones, so many, which stand in the text already. The body was
-- these statements, with these items.
abbrev pub walk : (source sizes : List ℕ) → (indent : List ℕ) → List Statement → List Origin → (skip n : ℕ) → Items → List Piece
walk source sizes indent ss os skip n no_items = []
walk source sizes indent ss os (suc skip) n (plain p rest) = walk source sizes indent ss os skip (next n 1) rest
walk source sizes indent ss os (suc skip) n (holder h body rest) = walk source sizes indent ss os skip (next n (count body + 1)) rest
walk source sizes indent ss os zero n (plain p rest) =
    kept_or source (kept_at sizes n ss os) (new (statement_line indent p) ∷ [])
    ++ walk source sizes indent ss os (others (kept_at sizes n ss os)) (next n 1) rest
walk source sizes indent ss os zero n (holder h body rest) =
    kept_or source (kept_at sizes n ss os)
    (elim (changed_at n ss os) [
      | None ↦ new (holder_text indent h body) ∷ []
      | Some c ↦
          new (open_line indent h)
          ∷ ((loose source sizes (laid.list_of c.0) (origins.list_of c.1)
          ++ (walk source sizes (deeper indent) (laid.list_of c.0) (origins.list_of c.1) 0 (next n 1) body ++ cut source (last_of c.0)))
          ++ (new (close_line indent h) ∷ []))
    ])
    ++ walk source sizes indent ss os (others (kept_at sizes n ss os)) (next n (count body + 1)) rest

-- a body, with what floats in it
abbrev pub body_pieces : (source sizes : List ℕ) → (indent : List ℕ) → Laid → Traces → (n : ℕ) → Items → List Piece
body_pieces source sizes indent l t n body =
    loose source sizes (laid.list_of l) (origins.list_of t)
    ++ (walk source sizes indent (laid.list_of l) (origins.list_of t) 0 n body ++ cut source (last_of l))

-- the whole map
abbrev pub coarse : (source sizes : List ℕ) → Laid → Traces → (last : Items) → List Piece
coarse source sizes l t last = body_pieces source sizes [] l t 0 last

-- ---- Whether that is all that has to stand in the text.

abbrev pub is_span : Span → Span → Bool
is_span s t = nat_eq t.from s.from && nat_eq t.to s.to

abbrev pub has : List Span → Span → Bool
has spans s = list_any (is_span s) spans

abbrev pub covers_one : (spans : List Span) → (sizes : List ℕ) → Bare → List Origin → (inside : Bool) → Bool
covers_one spans sizes b os inside = has spans b.float && (if is_untouched sizes b.items os then has spans (core b) else inside)

abbrev pub covers : (spans : List Span) → (sizes : List ℕ) → Laid → List Origin → Bool
covers spans sizes (ended last) os = has spans last
covers spans sizes (bare b rest) os = covers_one spans sizes b (take b.items os) true && covers spans sizes rest (drop b.items os)
covers spans sizes (braced b br body rest) os =
    covers_one spans sizes b (take b.items os) (list_all (λ o. not (holds_items o) || covers spans sizes body (origins.list_of o.inside)) (take b.items os))
    && covers spans sizes rest (drop b.items os)

-- the same inside a statement's braces, if it has any
abbrev pub covers_inside : (spans : List Span) → (sizes : List ℕ) → Option Inner → List Origin → Bool
covers_inside spans sizes None os = true
covers_inside spans sizes (Some i) os = list_all (λ o. not (holds_items o) || covers spans sizes i.body (origins.list_of o.inside)) os

-- ---- The same of one item.

abbrev pub holder_pieces : (source sizes : List ℕ) → (indent : List ℕ) → Option (Laid × Traces) → (n : ℕ) → Holder → Items → List Piece
holder_pieces source sizes indent None n h body = new (holder_text indent h body) ∷ []
holder_pieces source sizes indent (Some c) n h body =
    new (open_line indent h) ∷ (body_pieces source sizes (deeper indent) c.0 c.1 (next n 1) body ++ (new (close_line indent h) ∷ []))

-- an item that doesn't go out as it stood
abbrev pub anew : (source sizes : List ℕ) → (indent : List ℕ) → List Statement → List Origin → (n : ℕ) → Item → List Piece
anew source sizes indent ss os n (Define name c) = holder_pieces source sizes indent (changed_at n ss os) n (define name c.kind) c.body
anew source sizes indent ss os n (Instance s (Named t)) = new (statement_line indent (named s t)) ∷ []
anew source sizes indent ss os n (Instance s (Anonymous c)) = holder_pieces source sizes indent (changed_at n ss os) n (anonymous s c.kind) c.body
anew source sizes indent ss os n (Own p v) = new (statement_line indent (own p v)) ∷ []
anew source sizes indent ss os n (Default p v) = new (statement_line indent (default p v)) ∷ []
anew source sizes indent ss os n (Dynamic t p v) = new (statement_line indent (dynamic t p v)) ∷ []

abbrev pub item_pieces : (source sizes : List ℕ) → (indent : List ℕ) → List Statement → List Origin → (skip n : ℕ) → Item → List Piece
item_pieces source sizes indent ss os zero n x = kept_or source (kept_at sizes n ss os) (anew source sizes indent ss os n x)
item_pieces source sizes indent ss os (suc skip) n x = []

-- how many behind it are in the text already
abbrev pub item_skip : (sizes : List ℕ) → List Statement → List Origin → (skip n : ℕ) → ℕ
item_skip sizes ss os zero n = others (kept_at sizes n ss os)
item_skip sizes ss os (suc skip) n = skip
