-- All maps of a history that was opened have the option of the run, and so have all to which a script leads.
use Rattle.std.proofs.Common.{◌≡◌, ℕ, Bool, ◌+◌, List, [], ◌∷◌, take, Option, All, inl, inr, refl, sym, subst, ◌∙◌}
use mathlib.Core.List.{reverse}
use Rattle.std.proofs.lemmas.List.Elements.{All-nil, All-cons, All-append, All-push, All-take}
use Rattle.std.specs.Prelude.{map}
use Rattle.journal_core.specs.Along.{led_through}
use Rattle.journal_core.specs.History.{History}
use Rattle.rdl_tree.specs.declared.patch.Patch.{Patch}
use Rattle.rdl_edit.specs.Backs.{prior, read_back}
use Rattle.rdl_edit.specs.Step.{State}
use Rattle.rdl_edit.proofs.EditsLead.{steps}
use Rattle.rdl_run.specs.Answers.{Serves}
use Rattle.rdl_run.specs.Opening.{OpensHistory}
use Rattle.rdl_run.specs.Sessions.{history_of}
use Rattle.run_laws.specs.Histories.{Action, edit, undo, redo, Acts, Follows}
use Rattle.run_laws.proofs.Opened.{all-reverse}
use Rattle.run_laws.proofs.Scripted.{served}
use Rattle.run_laws.proofs.Stepped.{at-place}

abbrev HasOption : Option (List ℕ) → State → Type 0
HasOption option s = s.option ≡ option

abbrev HaveOption : Option (List ℕ) → History State → Type 0
HaveOption option h = All (HasOption option) h.states

-- ---- The places of a session.

led-options : (option : Option (List ℕ)) (s : State) (steps : List (List Patch)) → HasOption option s → All (HasOption option) (led_through prior s (map read_back steps))
led-options option s [] same = All-nil (HasOption option)
led-options option s (step ∷ steps) same =
    let next = prior s (read_back step) in
    All-cons (HasOption option) next (led_through prior next (map read_back steps)) same (led-options option next steps same)

session-options : (limit : ℕ) (s : State) (back on : List (List Patch)) → HaveOption s.option (history_of limit s back on)
session-options limit s back on =
    let P = HasOption s.option in
    let behind = led_through prior s (map read_back back) in
    let ahead = led_through prior s (map read_back on) in
    All-append P (reverse behind) (s ∷ ahead) (all-reverse P behind (led-options s.option s back refl)) (All-cons P s ahead refl (led-options s.option s on refl))

pub opened-options : (option : Option (List ℕ)) (limit : ℕ) (bytes : List ℕ) (first : History State) → OpensHistory option limit bytes first → All (λ s. s.option ≡ option) first.states
opened-options option limit bytes first (inl m) =
    subst (HaveOption option) (sym m.opened) (All-cons (HasOption option) m.first [] m.opens.same_option (All-nil (HasOption option)))
opened-options option limit bytes first (inr o) =
    subst (HaveOption option) (sym o.opened) (session-options limit (record { description = o.description; option = option }) o.undo o.redo)

-- ---- An accepted edit, an undo and a redo.

acted : (option : Option (List ℕ)) (old : History State) (action : Action) (new : History State) → Acts old action new → HaveOption option old → HaveOption option new
acted option old (edit e) new acts all =
    let from = at-place (HasOption option) old.states old.place acts.from all acts.stood in
    let to : HasOption option acts.to = (steps acts.from e acts.to acts.led).same_option ∙ from in
    subst (HaveOption option) (sym acts.edited) (All-push (HasOption option) (take (old.place + 1) old.states) acts.to (All-take (HasOption option) (old.place + 1) old.states all) to)
acted option old undo new acts all = subst (HaveOption option) (sym acts) all
acted option old redo new acts all = subst (HaveOption option) (sym acts) all

followed : (option : Option (List ℕ)) (old new : History State) (actions : List Action) → Follows old actions new → HaveOption option old → HaveOption option new
followed option old new [] follows all = subst (HaveOption option) (sym follows) all
followed option old new (action ∷ actions) follows all =
    followed option follows.0 new actions follows.2 (acted option old action follows.0 follows.1 all)

pub served-options : (option : Option (List ℕ)) (old new : History State) (lines : List (List ℕ)) (text : List ℕ) (refuses : Bool) → Serves old lines text refuses new
    → All (λ s. s.option ≡ option) old.states → All (λ s. s.option ≡ option) new.states
served-options option old new lines text refuses serves all =
    let only = served old new lines text refuses serves in
    followed option old new only.0 only.2 all
