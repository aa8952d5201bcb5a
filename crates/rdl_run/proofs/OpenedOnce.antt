-- The bytes of a map or a session open one history, and what is read or opened isn't refused.
use Rattle.std.proofs.Common.{◌≡◌, ◌⊎◌, inl, inr, ℕ, Bool, true, false, List, Option, Result, Ok, Err, sym, ap, ◌∙◌, subst, arith}
use Rattle.std.proofs.lemmas.Option.{none-some}
use Rattle.rdl_text.specs.Word.{Word}
use Rattle.rdl_text.specs.Words.{words}
use Rattle.rdl_tree.specs.Items.{Items}
use Rattle.rdl_tree.specs.Limits.{IsWithinLimits}
use Rattle.rdl_tree.specs.View.{items_of}
use Rattle.rdl_tree.specs.declared.description.Item.{Item}
use Rattle.rdl_tree.specs.declared.patch.Patch.{Patch}
use Rattle.rdl_parse.specs.Parsing.{HasWords, HasStatementFault, RefusesBy, SpellsSomewhere}
use Rattle.rdl_parse.specs.Places.{Located}
use Rattle.rdl_parse.specs.Spelling.{Spells, SpellsItems}
use Rattle.rdl_parse.specs.Symbol.{Symbol, symbols}
use Rattle.rdl_parse.specs.declared.fault.ParseFault.{ParseFault}
use Rattle.rdl_parse.specs.declared.fault.ParseFaultKind.{ParseFaultKind}
use Rattle.rdl_parse.specs.declared.fault.ParseFaultKind.TheVariants.{Words, UnexpectedWord, UnexpectedEnd, TooDeep, TooLarge, TooLong}
use Rattle.rdl_parse.proofs.Exact.{one-spelled, one-statement}
use Rattle.rdl_session.proofs.Meant.{one-session}
use Rattle.rdl_elab.specs.Faults.{elaborated}
use Rattle.rdl_edit.specs.Resuming.{session_fault}
use Rattle.rdl_edit.specs.Step.{State}
use Rattle.rdl_run.specs.Answers.{History'}
use Rattle.rdl_run.specs.Opening.{Opens, OpensMap, OpensHistory, RefusedText, RefusedMap, RefusesToOpen, one_map}
use Rattle.rdl_run.specs.Readings.{ReadsMap, ReadsItems, RefusesMap, RefusesItems}
use Rattle.rdl_run.specs.Sessions.{ReadsSession, OpensSession, IsNoSession, FaultySession, history_of, is_session}

-- ---- What is found is one, and is found or isn't.

-- an answer is one
pub ok-once : {X E : Type 0} (r : Result X E) (x y : X) → r ≡ Ok x → r ≡ Ok y → x ≡ y
ok-once r x y h k = cc

-- it isn't both an answer and a fault
pub ok-or-err : {X E : Type 0} (r : Result X E) (x : X) (e : E) → r ≡ Ok x → r ≡ Err e → ⊥
ok-or-err r x e h k = cc

pub true-or-false : (b : Bool) → b ≡ true → b ≡ false → ⊥
true-or-false b h k = cc

-- ---- A text is read in one way, and one that is read isn't refused.

same-words : (text : List ℕ) (ws us : List Word) → HasWords text ws → HasWords text us → ws ≡ us
same-words text ws us h k = ok-once (words text) ws us h.cut k.cut

-- bytes are read as one map
pub map-once : (bytes : List ℕ) (d e : Items) (p q : Located) → ReadsMap bytes d p → ReadsMap bytes e q → d ≡ e
map-once bytes d e p q r t =
    let s = r.spelled in
    let u = t.spelled in
    let same = same-words bytes s.ws u.ws s.has_words u.has_words in
    (one-spelled (symbols u.ws) d e s.spots u.spots (subst (λ ws. Spells (symbols ws) d s.spots) same s.spelled) u.spelled).0

-- or as the items of one statement
pub statement-once : (bytes : List ℕ) (xs ys : List Item) → ReadsItems bytes xs → ReadsItems bytes ys → xs ≡ ys
statement-once bytes xs ys r t =
    let s = r.spelled in
    let u = t.spelled in
    let same = same-words bytes s.ws u.ws s.has_words u.has_words in
    one-statement (symbols u.ws) xs ys (subst (λ ws. SpellsItems (symbols ws) xs) same s.spelled) u.spelled

module _ {X : Type 0} (spells : List Symbol → X → Type 0) (within : X → Type 0) (text : List ℕ) (offset : ℕ) (ws : List Word) (x : X) where
  spells-some : (stands : List Word → ℕ → Type 0) → HasWords text ws → spells (symbols ws) x → within x → HasStatementFault spells within stands text offset → ⊥
  spells-some stands w s i h = h.none x (subst (λ us. spells (symbols us) x) (same-words text ws h.ws w h.has_words) s) i

  -- a text that spells something within the limits has no fault
  no-fault : (kind : ParseFaultKind) → HasWords text ws → spells (symbols ws) x → within x → RefusesBy spells within text kind offset → ⊥
  no-fault TooLong w s i h = absurd (omega (arith, w.short, h.0))
  no-fault (Words kind) w s i h = ok-or-err (words text) ws _ w.cut h.fault
  no-fault UnexpectedWord w s i h = spells-some _ w s i h
  no-fault UnexpectedEnd w s i h = spells-some _ w s i h
  no-fault TooDeep w s i h = spells-some _ w s i h
  no-fault TooLarge w s i h = spells-some _ w s i h

-- what is read as a map isn't refused
pub map-or-fault : (bytes : List ℕ) (d : Items) (p : Located) (fault : ParseFault) → ReadsMap bytes d p → RefusesMap bytes fault → ⊥
map-or-fault bytes d p fault r (inl n) = n.no_text r.text
map-or-fault bytes d p fault r (inr f) =
    let s = r.spelled in
    no-fault SpellsSomewhere IsWithinLimits bytes fault.offset s.ws d fault.kind s.has_words (s.spots, s.spelled) r.is_within f.refused

-- nor is what is read as a statement
pub statement-or-fault : (bytes : List ℕ) (xs : List Item) (fault : ParseFault) → ReadsItems bytes xs → RefusesItems bytes fault → ⊥
statement-or-fault bytes xs fault r (inl n) = n.no_text r.text
statement-or-fault bytes xs fault r (inr f) =
    let s = r.spelled in
    no-fault SpellsItems (λ xs. IsWithinLimits (items_of xs)) bytes fault.offset s.ws xs fault.kind s.has_words s.spelled r.is_within f.refused

-- ---- A map or a session opens one history, and one that opens it isn't refused.

same-state : (s t : State) → s.description ≡ t.description → s.option ≡ t.option → s ≡ t
same-state s t d o = λ i. record { description = d i; option = o i }

module _ (option : Option (List ℕ)) (limit : ℕ) (bytes : List ℕ) where
  state-once : (s t : State) → Opens option bytes s → Opens option bytes t → s ≡ t
  state-once s t o q = same-state s t (map-once bytes s.description t.description o.places q.places o.read q.read) (o.same_option ∙ sym q.same_option)

  session-once : (d e : Items) (undo redo others ahead : List (List Patch)) → ReadsSession bytes d undo redo → ReadsSession bytes e others ahead
      → (d ≡ e) × (undo ≡ others) × (redo ≡ ahead)
  session-once d e undo redo others ahead r q = one-session bytes d e undo redo others ahead r.spelled q.spelled

  -- the same bytes open the same history
  pub opened-agree : (h k : History') → OpensHistory option limit bytes h → OpensHistory option limit bytes k → h ≡ k
  opened-agree h k (inl o) (inl q) = o.opened ∙ ap (one_map limit) (state-once o.first q.first o.opens q.opens) ∙ sym q.opened
  opened-agree h k (inl o) (inr q) = absurd (true-or-false (is_session bytes) q.named o.unnamed)
  opened-agree h k (inr o) (inl q) = absurd (true-or-false (is_session bytes) o.named q.unnamed)
  opened-agree h k (inr o) (inr q) =
      let same = session-once o.description q.description o.undo o.redo q.undo q.redo o.read q.read in
      o.opened ∙ (λ i. history_of limit (record { description = same.0 i; option = option }) (same.1 i) (same.2 i)) ∙ sym q.opened

  map-or-not : (h : History') (message : List ℕ) → OpensMap option limit bytes h → RefusedText bytes message ⊎ RefusedMap option bytes message → ⊥
  map-or-not h message o (inl r) = map-or-fault bytes o.first.description o.opens.places r.fault o.opens.read r.refused
  map-or-not h message o (inr r) =
      let same = map-once bytes o.first.description r.d o.opens.places r.places o.opens.read r.read in
      let rows = o.opens.whole in
      ok-or-err (elaborated r.d option) rows.rows r.fault
      (subst (λ d. elaborated d option ≡ Ok rows.rows) same (subst (λ name. elaborated o.first.description name ≡ Ok rows.rows) o.opens.same_option rows.are)) r.first

  session-or-not : (h : History') (message : List ℕ) → OpensSession option limit bytes h → IsNoSession bytes message ⊎ FaultySession option bytes message → ⊥
  session-or-not h message o (inl n) = n.none o.description o.undo o.redo o.read
  session-or-not h message o (inr f) =
      let same = session-once o.description f.description o.undo o.redo f.undo f.redo o.read f.read in
      none-some f.fault (sym o.faultless ∙ (λ i. session_fault option (same.0 i) (same.1 i) (same.2 i)) ∙ f.first)

  -- and aren't refused
  pub opened-or-not : (h : History') (message : List ℕ) → OpensHistory option limit bytes h → RefusesToOpen option bytes message → ⊥
  opened-or-not h message (inl o) (inl r) = map-or-not h message o r.refused
  opened-or-not h message (inl o) (inr r) = true-or-false (is_session bytes) r.named o.unnamed
  opened-or-not h message (inr o) (inl r) = true-or-false (is_session bytes) o.named r.unnamed
  opened-or-not h message (inr o) (inr r) = session-or-not h message o r.refused
