-- What has been read of a body, one statement after another.
use Rattle.std.proofs.Common.{◌≡◌, ℕ, ◌+◌, List, [], ◌∷◌, ◌++◌, Some, None, refl, ap, sym, ◌∙◌, subst}
use Rattle.std.specs.Prelude.{Option}
use Rattle.rdl_text.specs.Word.{Word}
use Rattle.rdl_parse.specs.declared.places.ItemPlace.{ItemPlace}
use Rattle.rdl_parse.specs.Places.{from_item}
use Rattle.rdl_source.specs.declared.span.Span.{Span}
use Rattle.rdl_source.specs.declared.gap.Left.{Left}
use Rattle.rdl_source.specs.declared.gap.Left.TheVariants as left
use Rattle.rdl_source.specs.declared.gap.Right.{Right}
use Rattle.rdl_source.specs.declared.gap.Right.TheVariants as right
use Rattle.rdl_source.specs.declared.walk.Spot.{Spot}
use Rattle.rdl_source.specs.declared.statement.Inner.{Inner}
use Rattle.rdl_source.specs.declared.statement.Statement.{Statement}
use Rattle.rdl_source.specs.Laid.{Bare, Laid, ended}
use Rattle.rdl_source.specs.View.{bare_of, add_to, add, put}
use Rattle.rdl_source.specs.LaidOut.{IsGap, Has, Lie}
use Rattle.rdl_source.specs.Worded.{IsWorded}
use Rattle.rdl_source.proofs.Views.{put-more}

-- what has been read from a spot on, where the trail of the word before it ends at `to`, up to another: whatever lies behind that lies with it behind the first
abbrev pub Done : List ℕ → List Word → Spot → (to : ℕ) → List ItemPlace → List Statement → Spot → (to' : ℕ) → List ItemPlace → Type 0
Done source ws begin to ps list spot to' rest =
    (laid : Laid) (close n : ℕ) → Lie source ws laid spot.left spot.at to' spot.word rest close n → Lie source ws (put list laid) begin.left begin.at to begin.word ps close n

pub nothing_done : (source : List ℕ) (ws : List Word) (begin : Spot) (to : ℕ) (ps : List ItemPlace) (list : List Statement) → list ≡ [] → Done source ws begin to ps list begin to ps
nothing_done source ws begin to ps list e laid close n h =
    subst (λ xs. Lie source ws (put xs laid) begin.left begin.at to begin.word ps close n) (sym e) h

-- a statement behind a gap, before others
follow_with : (source : List ℕ) (ws : List Word) (b : Bare) (inside : Option Inner) (l : Left) (at to k : ℕ) (ps : List ItemPlace) (j end : ℕ)
    → IsGap source ws l right.Statement at k b.words.from to b.float b.lead → IsWorded source ws ps inside b.words.from k j end → Has end ps b
    → (laid : Laid) (close n : ℕ) → Lie source ws laid left.Word b.words.to b.trail.to (j + 1) (from_item b.items ps) close n
    → Lie source ws (add_to b inside laid) l at to k ps close n
follow_with source ws b None l at to k ps j end g w h laid close n rest = (g, j, end, w.0, w.1, h, rest)
follow_with source ws b (Some i) l at to k ps j end g w h laid close n rest = (g, w.0, w.1, w.2, w.3, w.4, w.5, j, end, w.6, h, rest)

pub one_done : (source : List ℕ) (ws : List Word) (begin : Spot) (first : ℕ) (places : List ItemPlace) (list list' : List Statement) (spot spot' : Spot) (to : ℕ) (ps others : List ItemPlace) (s : Statement) (r : Right) (j end : ℕ)
    → Done source ws begin first places list spot to ps
    → IsGap source ws spot.left r spot.at spot.word s.words.from to s.float s.lead → r ≡ right.Statement
    → IsWorded source ws ps s.inside s.words.from spot.word j end → Has end ps (bare_of s) → others ≡ from_item s.items ps → list' ≡ list ++ (s ∷ [])
    → spot' ≡ record { left = left.Word; at = s.words.to; word = j + 1 } → Done source ws begin first places list' spot' s.trail.to others
one_done source ws begin first places list list' spot spot' to ps others s r j end done g e w h o more at laid close n k =
    let gap = subst (λ q. IsGap source ws spot.left q spot.at spot.word s.words.from to s.float s.lead) e g in
    let there = subst (λ (q : Spot). Lie source ws laid q.left q.at s.trail.to q.word others close n) at k in
    let behind = subst (λ us. Lie source ws laid left.Word s.words.to s.trail.to (j + 1) us close n) o there in
    let all = done (add s laid) close n (follow_with source ws (bare_of s) s.inside spot.left spot.at to spot.word ps j end gap w h laid close n behind) in
    subst (λ l. Lie source ws l begin.left begin.at first begin.word places close n) (sym (ap (λ xs. put xs laid) more ∙ put-more list s laid)) all

-- what stands behind the last of them
pub all_done : (source : List ℕ) (ws : List Word) (begin : Spot) (first : ℕ) (places : List ItemPlace) (list : List Statement) (spot : Spot) (to end : ℕ) (rest : List ItemPlace) (r : Right) (float lead : Span)
    → Done source ws begin first places list spot to rest → IsGap source ws spot.left r spot.at spot.word end to float lead → r ≡ right.End → rest ≡ []
    → Lie source ws (put list (ended (record { from = to; to = end }))) begin.left begin.at first begin.word places end spot.word
all_done source ws begin first places list spot to end rest r float lead done g e none =
    done (ended (record { from = to; to = end })) end spot.word
    (float, lead, subst (λ q. IsGap source ws spot.left q spot.at spot.word end to float lead) e g, refl, none, refl)
