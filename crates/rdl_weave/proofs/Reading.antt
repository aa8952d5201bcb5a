-- The text of the pieces that go out has the words of statements that stand for the items of the last map.
use Rattle.std.proofs.Common.{◌≡◌, ℕ, cond, List, [], ◌∷◌, ◌++◌, refl, ap, sym, ◌∙◌, subst, append_assoc}
use Rattle.std.proofs.lemmas.List.{append-nil}
use Rattle.std.proofs.lemmas.Str.{is_utf8-from_IsUtf8}
use Rattle.std.specs.Str.{IsUtf8}
use Rattle.rdl_text.specs.declared.token.Mark.TheVariants.{Semicolon}
use Rattle.rdl_tree.specs.Items.{Items, no_items, plain, holder, Plain, Holder, count}
use Rattle.rdl_tree.specs.Items as items
use Rattle.rdl_tree.specs.View.{items_of, list_of, plain_item, holder_item}
use Rattle.rdl_tree.specs.declared.description.Item.{Item}
use Rattle.rdl_tree.proofs.Rounds.{list_of-items_of, items_of-list_of}
use Rattle.rdl_parse.specs.Spelling as grammar
use Rattle.rdl_parse.specs.Spelling.{Statement, Statements, none, one}
use Rattle.rdl_parse.specs.Symbol.{Symbol, symbols, mark}
use Rattle.rdl_round.specs.OfWords.{IsPlainOfWords, IsHolderOfWords, IsOfWords}
use Rattle.rdl_round.specs.Spellable.{IsPlain, IsHolder, IsSpellable}
use Rattle.rdl_round.specs.WrittenWords.{close_words}
use Rattle.rdl_round.proofs.Lines.{statement-line, open-line, close-line, body-part, deeper-blank}
use Rattle.rdl_round.proofs.Parts.{AllBlank}
use Rattle.rdl_round.proofs.Statements as written
use Rattle.rdl_round.proofs.Statements.{plain_statement, plain-words, plain-items, holder_statement, holder-words, holder-items, words-are, items-are}
use Rattle.rdl_source.specs.Beside.{line}
use Rattle.rdl_source.specs.LaidText.{part}
use Rattle.rdl_source.specs.View.{bare_of}
use Rattle.rdl_source.specs.declared.span.Span.{Span}
use Rattle.rdl_source.specs.declared.statement.Statement.{Statement as Old}
use Rattle.rdl_source.proofs.Appended.{joined, items_joined, statement_goes}
use Rattle.rdl_source.proofs.Behind.{Cut, cut_from, cut_line}
use Rattle.rdl_write.specs.ItemText.{holder_text}
use Rattle.rdl_write.specs.MapText.{statement_line, open_line, close_line, deeper, body_text}
use Rattle.rdl_weave.specs.Coarse.{Piece, old, new, cut, text_of}
use Rattle.rdl_weave.specs.Keeping.{core}
use Rattle.rdl_weave.specs.Sound.{IsSilent, IsAlone}

-- ---- Pieces that stand for items.

-- before any text the pieces have the words of statements that stand for these items
pub record Reads (source : List ℕ) (ps : List Piece) (xs : List Item) : Type 0 where
  pub tree : Statements
  pub items : grammar.items tree ≡ xs
  pub cut : (rest : List ℕ) (us : List Symbol) → Cut rest us → Cut (text_of source ps ++ rest) (grammar.words tree us)

text_append : (source : List ℕ) (ps qs : List Piece) (rest : List ℕ) → text_of source (ps ++ qs) ++ rest ≡ text_of source ps ++ (text_of source qs ++ rest)
text_append source [] qs rest = refl
text_append source (p ∷ ps) qs rest = go p (text_append source ps qs rest)
  where
    Rest : Type 0
    Rest = text_of source (ps ++ qs) ++ rest ≡ text_of source ps ++ (text_of source qs ++ rest)

    behind : (t : List ℕ) → Rest → (t ++ text_of source (ps ++ qs)) ++ rest ≡ (t ++ text_of source ps) ++ (text_of source qs ++ rest)
    behind t r = append_assoc t (text_of source (ps ++ qs)) rest ∙ (ap (λ s. t ++ s) r ∙ sym (append_assoc t (text_of source ps) (text_of source qs ++ rest)))

    go : (p : Piece) → Rest → text_of source (p ∷ (ps ++ qs)) ++ rest ≡ text_of source (p ∷ ps) ++ (text_of source qs ++ rest)
    go (old s) r = behind (line (part source s)) r
    go (new t) r = behind t r

joined_words : (t u : Statements) (after : List Symbol) → grammar.words (joined t u) after ≡ grammar.words t (grammar.words u after)
joined_words none u after = refl
joined_words (one s ss) u after = ap (grammar.statement_words s) (joined_words ss u after)

pub reads_none : (source : List ℕ) → Reads source [] []
reads_none source = record { tree = none; items = refl; cut = λ rest us c. c }

pub reads_append : (source : List ℕ) (ps qs : List Piece) (xs ys : List Item) → Reads source ps xs → Reads source qs ys → Reads source (ps ++ qs) (xs ++ ys)
reads_append source ps qs xs ys p q = record {
  tree = joined p.tree q.tree;
  items = items_joined p.tree q.tree ∙ ((λ i. p.items i ++ grammar.items q.tree) ∙ ap (λ zs. xs ++ zs) q.items);
  cut = λ rest us c.
      subst (λ s. Cut s (grammar.words (joined p.tree q.tree) us)) (sym (text_append source ps qs rest))
      (subst (λ ws. Cut (text_of source ps ++ (text_of source qs ++ rest)) ws) (sym (joined_words p.tree q.tree us))
      (p.cut (text_of source qs ++ rest) (grammar.words q.tree us) (q.cut rest us c)));
}

reads_as : (source : List ℕ) (ps : List Piece) (xs ys : List Item) → xs ≡ ys → Reads source ps xs → Reads source ps ys
reads_as source ps xs ys e r = subst (λ zs. Reads source ps zs) e r

pub is_cut : (source : List ℕ) (s : Span) → IsUtf8 (part source s) → cut source s ≡ old s ∷ []
is_cut source s u = ap (λ b. cond b (old s ∷ []) []) (is_utf8-from_IsUtf8 (part source s) u)

-- one piece of the source
old_text : (source : List ℕ) (s : Span) (rest : List ℕ) → line (part source s) ++ rest ≡ text_of source (old s ∷ []) ++ rest
old_text source s rest = ap (λ t. t ++ rest) (sym (append-nil (line (part source s))))

new_text : (source t rest : List ℕ) → t ++ rest ≡ text_of source (new t ∷ []) ++ rest
new_text source t rest = ap (λ s. s ++ rest) (sym (append-nil t))

pub reads_silent : (source : List ℕ) (s : Span) → IsSilent source s → Reads source (cut source s) []
reads_silent source s h =
    subst (λ ps. Reads source ps []) (sym (is_cut source s h.is_text))
    (record {
      tree = none;
      items = refl;
      cut = λ rest us c.
          subst (λ t. Cut t us) (old_text source s rest) (cut_line (part source s) rest [] us (cut_from (part source s) [] h.none) c);
    })

pub reads_alone : (source : List ℕ) (s : Old) (xs : List Item) → IsAlone source s xs → Reads source (cut source (core (bare_of s))) xs
reads_alone source s xs h =
    let span = core (bare_of s) in
    let st = h.spelled.spelled in
    subst (λ ps. Reads source ps xs) (sym (is_cut source span h.is_text))
    (record {
      tree = one st.0 none;
      items = append-nil (grammar.statement_items st.0) ∙ sym st.2;
      cut = λ rest us c.
          subst (λ t. Cut t (grammar.statement_words st.0 us)) (old_text source span rest)
          (subst (λ ws. Cut (line (part source span) ++ rest) ws) ((λ i. st.1 i ++ us) ∙ sym (statement_goes st.0 us))
          (cut_line (part source span) rest (symbols h.spelled.ws) us (cut_from (part source span) h.spelled.ws h.spelled.has_words.cut) c));
    })

-- ---- Items that are spelled anew.

plain_same : (p : Plain) → written.plain_item p ≡ plain_item p
plain_same (items.named s type) = refl
plain_same (items.own p v) = refl
plain_same (items.default p v) = refl
plain_same (items.dynamic t p v) = refl

holder_same : (h : Holder) (body : Items) → written.holder_item h body ≡ holder_item h body
holder_same (items.define name k) body = refl
holder_same (items.anonymous s k) body = refl

pub reads_plain : (source indent : List ℕ) (p : Plain) → AllBlank indent → IsPlainOfWords p → IsPlain p → Reads source (new (statement_line indent p) ∷ []) (plain_item p ∷ [])
reads_plain source indent p b w h = record {
  tree = one (plain_statement p h) none;
  items = append-nil (grammar.statement_items (plain_statement p h)) ∙ (sym (plain-items p h) ∙ ap (λ x. x ∷ []) (plain_same p));
  cut = λ rest us c.
      subst (λ t. Cut t (grammar.statement_words (plain_statement p h) us)) (new_text source (statement_line indent p) rest)
      (subst (λ ws. Cut (statement_line indent p ++ rest) ws) (plain-words p us h) (statement-line indent p b w rest us tt c));
}

holder_text_is : (source opened closed rest : List ℕ) (ps : List Piece)
    → opened ++ (text_of source ps ++ (closed ++ rest)) ≡ text_of source (new opened ∷ (ps ++ (new closed ∷ []))) ++ rest
holder_text_is source opened closed rest ps =
    ap (λ t. opened ++ (text_of source ps ++ t)) (new_text source closed rest)
    ∙ (ap (λ t. opened ++ t) (sym (text_append source ps (new closed ∷ []) rest))
    ∙ sym (append_assoc opened (text_of source (ps ++ (new closed ∷ []))) rest))

pub reads_holder : (source indent : List ℕ) (h : Holder) (body : Items) (ps : List Piece) → AllBlank indent → IsHolderOfWords h → IsHolder h → Reads source ps (list_of body)
    → Reads source (new (open_line indent h) ∷ (ps ++ (new (close_line indent h) ∷ []))) (holder_item h body ∷ [])
reads_holder source indent h body ps b w k r =
    let st = holder_statement h r.tree in
    let body_is : body ≡ items_of (grammar.items r.tree) = sym (items_of-list_of body) ∙ ap items_of (sym r.items) in
    record {
      tree = one st none;
      items = append-nil (grammar.statement_items st) ∙ (sym (holder-items h r.tree body k body_is) ∙ ap (λ x. x ∷ []) (holder_same h body));
      cut = λ rest us c.
          subst (λ t. Cut t (grammar.statement_words st us)) (holder_text_is source (open_line indent h) (close_line indent h) rest ps)
          (subst (λ ws. Cut (open_line indent h ++ (text_of source ps ++ (close_line indent h ++ rest))) ws) (holder-words h r.tree (grammar.words r.tree) us k (λ ws. refl))
          (open-line indent h b w (text_of source ps ++ (close_line indent h ++ rest)) (grammar.words r.tree (close_words h (mark Semicolon ∷ us))) tt
          (r.cut (close_line indent h ++ rest) (close_words h (mark Semicolon ∷ us)) (close-line indent h b w rest us tt c))));
    }

reads_body : (source indent : List ℕ) (body : Items) → AllBlank indent → IsOfWords body → IsSpellable body → Reads source (new (body_text indent body) ∷ []) (list_of body)
reads_body source indent body b w h = record {
  tree = written.statements body h;
  items = sym (list_of-items_of (grammar.items (written.statements body h))) ∙ ap list_of (sym (items-are body h));
  cut = λ rest us c.
      subst (λ t. Cut t (grammar.words (written.statements body h) us)) (new_text source (body_text indent body) rest)
      (subst (λ ws. Cut (body_text indent body ++ rest) ws) (words-are body us h) (body-part body indent b w rest us tt c));
}

pub reads_new : (source indent : List ℕ) (h : Holder) (body : Items) → AllBlank indent → IsOfWords (holder h body no_items) → IsSpellable (holder h body no_items)
    → Reads source (new (holder_text indent h body) ∷ []) (holder_item h body ∷ [])
reads_new source indent h body b w k =
    let r = reads_holder source indent h body (new (body_text (deeper indent) body) ∷ []) b w.0 k.0 (reads_body source (deeper indent) body (deeper-blank indent b) w.1 k.1) in
    record {
      tree = r.tree;
      items = r.items;
      cut = λ rest us c. subst (λ t. Cut (t ++ rest) (grammar.words r.tree us)) (same (open_line indent h) (body_text (deeper indent) body) (close_line indent h)) (r.cut rest us c);
    }
  where
    same : (x y z : List ℕ) → x ++ (y ++ (z ++ [])) ≡ ((x ++ y) ++ z) ++ []
    same x y z =
        ap (λ t. x ++ (y ++ t)) (append-nil z) ∙ (sym (append_assoc x y z) ∙ sym (append-nil ((x ++ y) ++ z)))
