-- Where a word begins is what is kept of it.
use Rattle.std.proofs.Common.{◌≡◌, ℕ, List, Some, None, refl, sym, ◌∙◌, ap}
use Rattle.std.proofs.lemmas.Option.{slice_get_read, slice_get_past}
use Rattle.std.specs.Prelude.{slice_get}
use Rattle.std.specs.Option.{option_map}
use Rattle.rdl_text.specs.Word.{Word}
use Rattle.rdl_text.proofs.Standing.{start_kept}
use Rattle.rdl_text.proofs.list.Tokens.start.Goals as goal

pub returns-in-Some : goal.returns-in-Some
returns-in-Some c =
    let starts = c.self.inside.starts.items in
    let is = ap (λ (ws : List Word). option_map (λ (w : Word). w.start) (slice_get ws c.args.index)) (sym c.self.view_is) ∙ start_kept c.self.inside.text.now starts c.args.index in
    let there : slice_get c.as_slice.result.now c.args.index ≡ Some c.in-Some.start.now = slice_get_read c.as_slice.result.now _ c.args.index c.in-Some.start.now refl c.in-Some.ensures.lookup.3.0 c.in-Some.ensures.lookup.1 in
    sym (is ∙ (ap (λ (xs : List ℕ). slice_get xs c.args.index) (sym c.as_slice.ensures.value) ∙ there))

pub returns-in-None : goal.returns-in-None
returns-in-None c =
    let starts = c.self.inside.starts.items in
    let is = ap (λ (ws : List Word). option_map (λ (w : Word). w.start) (slice_get ws c.args.index)) (sym c.self.view_is) ∙ start_kept c.self.inside.text.now starts c.args.index in
    let none : slice_get c.as_slice.result.now c.args.index ≡ None = slice_get_past c.as_slice.result.now c.args.index c.in-None.ensures.lookup.3 in
    sym (is ∙ (ap (λ (xs : List ℕ). slice_get xs c.args.index) (sym c.as_slice.ensures.value) ∙ none))
