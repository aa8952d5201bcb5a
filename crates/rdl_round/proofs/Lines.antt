-- The lines of a written map, and their words.
use Rattle.std.proofs.Common.{◌≡◌, ℕ, List, [], ◌∷◌, ◌++◌, refl, subst, arith}
use Rattle.std.specs.Prelude.{codes}
use Rattle.std.proofs.lemmas.List.{append-nil}
use Rattle.rdl_text.specs.declared.token.Mark.TheVariants.{OpenBrace, CloseBrace, Semicolon, Arrow}
use Rattle.rdl_tree.specs.Items.{Items, no_items, plain, holder, Plain, named, own, default, dynamic, Holder, define, anonymous}
use Rattle.rdl_parse.specs.Symbol.{Symbol, mark}
use Rattle.rdl_write.specs.Texts.{newline, assignment_text, target_text, kind_text, outside_text, shell_text}
use Rattle.rdl_write.specs.MapText.{statement_text, open_text, close_text, statement_line, open_line, close_line, deeper, body_text, map_text}
use Rattle.rdl_round.specs.OfWords.{IsPlainOfWords, IsHolderOfWords, IsOfWords}
use Rattle.rdl_round.specs.WrittenWords.{identifier_word, assignment_words, target_words, outside_words, shell_words, statement_words, open_words, close_words, body_words, map_words, HasSymbols}
use Rattle.rdl_round.proofs.Parts.{Cut, Stops, Any, Part, join, name-part, mark-part, blank-part, AllBlank, cut-none}
use Rattle.rdl_round.proofs.Written.{stops-at, blank, before-blank, assignment-part, target-part, kind-name, outside-part, shell-part}

statement-part : (p : Plain) → IsPlainOfWords p → Part Stops (statement_text p) (statement_words p)
statement-part (named s type) h =
    join (outside_text s.outside ++ type ++ codes " ") (shell_text s) (λ ws. outside_words s.outside (identifier_word type ∷ ws)) (shell_words s)
    (join (outside_text s.outside ++ type) (codes " ") (λ ws. outside_words s.outside (identifier_word type ∷ ws)) (λ ws. ws)
    (join (outside_text s.outside) type (outside_words s.outside) (λ ws. identifier_word type ∷ ws) (outside-part s.outside) (name-part type h.1) (λ rest q. tt))
    blank (λ rest q. stops-at 32 refl refl))
    (shell-part s h.0) (λ rest q. tt)
statement-part (own p v) h = assignment-part p v h.0 h.1
statement-part (default p v) h =
    join (codes "default ") (assignment_text p v) (λ ws. identifier_word (codes "default") ∷ ws) (assignment_words p v)
    (before-blank (codes "default") (record { short = omega arith; identifier = refl })) (assignment-part p v h.0 h.1) (λ rest q. tt)
statement-part (dynamic target p v) h =
    join (target_text target ++ codes "->") (assignment_text p v) (λ ws. target_words target (mark Arrow ∷ ws)) (assignment_words p v)
    (join (target_text target) (codes "->") (target_words target) (λ ws. mark Arrow ∷ ws) (target-part target h.0) (mark-part Arrow) (λ rest q. stops-at 45 refl refl))
    (assignment-part p v h.1 h.2) (λ rest q. tt)

brace : Part Any (codes " {") (λ ws. mark OpenBrace ∷ ws)
brace = join (codes " ") (codes "{") (λ ws. ws) (λ ws. mark OpenBrace ∷ ws) blank (mark-part OpenBrace) (λ rest q. tt)

abbrev before_brace : Holder → List Symbol → List Symbol
before_brace (define name k) ws = identifier_word (kind_text k) ∷ identifier_word name ∷ ws
before_brace (anonymous s k) ws = outside_words s.outside (identifier_word (kind_text k) ∷ ws)

open-part : (h : Holder) → IsHolderOfWords h → Part Stops (open_text h) (before_brace h)
open-part (define name k) h =
    join (kind_text k ++ codes " ") name (λ ws. identifier_word (kind_text k) ∷ ws) (λ ws. identifier_word name ∷ ws) (before-blank (kind_text k) (kind-name k)) (name-part name h) (λ rest q. tt)
open-part (anonymous s k) h =
    join (outside_text s.outside) (kind_text k) (outside_words s.outside) (λ ws. identifier_word (kind_text k) ∷ ws) (outside-part s.outside) (name-part (kind_text k) (kind-name k)) (λ rest q. tt)

close-part : (h : Holder) → IsHolderOfWords h → Part Stops (close_text h) (close_words h)
close-part (define name k) h = λ rest ws s c. mark-part CloseBrace rest ws tt c
close-part (anonymous s k) h =
    join (codes "} ") (shell_text s) (λ ws. mark CloseBrace ∷ ws) (shell_words s)
    (join (codes "}") (codes " ") (λ ws. mark CloseBrace ∷ ws) (λ ws. ws) (mark-part CloseBrace) blank (λ rest q. tt))
    (shell-part s h) (λ rest q. tt)

-- ---- Lines, behind an indent.

line-end : Part Any newline (λ ws. ws)
line-end = blank-part newline (refl, tt)

-- what stands between the indent and the semicolon
ended-part : (indent a : List ℕ) (f : List Symbol → List Symbol) → AllBlank indent → Part Stops a f → Part Any (indent ++ a ++ codes ";" ++ newline) (λ ws. f (mark Semicolon ∷ ws))
ended-part indent a f b p =
    join (indent ++ a ++ codes ";") newline (λ ws. f (mark Semicolon ∷ ws)) (λ ws. ws)
    (join (indent ++ a) (codes ";") f (λ ws. mark Semicolon ∷ ws) (join indent a (λ ws. ws) f (blank-part indent b) p (λ rest q. tt)) (mark-part Semicolon) (λ rest q. stops-at 59 refl refl))
    line-end (λ rest q. tt)

pub statement-line : (indent : List ℕ) (p : Plain) → AllBlank indent → IsPlainOfWords p → Part Any (statement_line indent p) (λ ws. statement_words p (mark Semicolon ∷ ws))
unfolding statement_line
statement-line indent p b h = ended-part indent (statement_text p) (statement_words p) b (statement-part p h)

pub close-line : (indent : List ℕ) (h : Holder) → AllBlank indent → IsHolderOfWords h → Part Any (close_line indent h) (λ ws. close_words h (mark Semicolon ∷ ws))
unfolding close_line
close-line indent h b k = ended-part indent (close_text h) (close_words h) b (close-part h k)

brace-is : (h : Holder) (ws : List Symbol) → before_brace h (mark OpenBrace ∷ ws) ≡ open_words h ws
brace-is (define name k) ws = refl
brace-is (anonymous s k) ws = refl

pub open-line : (indent : List ℕ) (h : Holder) → AllBlank indent → IsHolderOfWords h → Part Any (open_line indent h) (open_words h)
unfolding open_line
open-line indent h b k rest ws q c =
    subst (λ us. Cut (indent ++ open_text h ++ codes " {" ++ newline ++ rest) us) (brace-is h ws)
    (join (indent ++ open_text h ++ codes " {") newline (λ us. before_brace h (mark OpenBrace ∷ us)) (λ us. us)
    (join (indent ++ open_text h) (codes " {") (before_brace h) (λ us. mark OpenBrace ∷ us) (join indent (open_text h) (λ us. us) (before_brace h) (blank-part indent b) (open-part h k) (λ r p. tt)) brace (λ r p. stops-at 32 refl refl))
    line-end (λ r p. tt) rest ws q c)

-- ---- Bodies.

pub deeper-blank : (indent : List ℕ) → AllBlank indent → AllBlank (deeper indent)
deeper-blank [] b = (refl, (refl, (refl, (refl, tt))))
deeper-blank (c ∷ cs) b = (b.0, deeper-blank cs b.1)

pub body-part : (d : Items) (indent : List ℕ) → AllBlank indent → IsOfWords d → Part Any (body_text indent d) (body_words d)
body-part no_items indent b h = λ rest ws s c. c
body-part (plain p rest) indent b h =
    join (statement_line indent p) (body_text indent rest) (λ ws. statement_words p (mark Semicolon ∷ ws)) (body_words rest)
    (statement-line indent p b h.0) (body-part rest indent b h.1) (λ r q. tt)
body-part (holder k body rest) indent b h =
    let first = open_line indent k in
    let inner = body_text (deeper indent) body in
    let close = close_line indent k in
    join (first ++ inner ++ close) (body_text indent rest) (λ ws. open_words k (body_words body (close_words k (mark Semicolon ∷ ws)))) (body_words rest)
    (join (first ++ inner) close (λ ws. open_words k (body_words body ws)) (λ ws. close_words k (mark Semicolon ∷ ws))
    (join first inner (open_words k) (body_words body) (open-line indent k b h.0) (body-part body (deeper indent) (deeper-blank indent b) h.1) (λ r q. tt))
    (close-line indent k b h.0) (λ r q. tt))
    (body-part rest indent b h.2) (λ r q. tt)

pub map-cut : (d : Items) → IsOfWords d → HasSymbols (map_text d) (map_words d)
map-cut d h = subst (λ s. HasSymbols s (map_words d)) (append-nil (map_text d)) (body-part d [] tt h [] [] tt cut-none 0)
