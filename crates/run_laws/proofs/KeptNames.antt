-- An edit keeps that the names of a map aren't reserved.
use Rattle.std.proofs.Common.{true≢false, ◌≡◌, false, not, ℕ, List, IfOk, refl}
use Rattle.rdl_tree.specs.Items.{Items, Plain, named, own, default, dynamic, Holder, define, anonymous}
use Rattle.rdl_tree.specs.declared.shell.Shell.{Shell}
use Rattle.rdl_parse.specs.Class.{class}
use Rattle.rdl_parse.specs.declared.class.Class.{Class}
use Rattle.rdl_parse.specs.declared.class.Class.TheVariants as classes
use Rattle.rdl_scope.specs.Types.{type_of}
use Rattle.rdl_rewrite.specs.Addresses.{same, leads_to}
use Rattle.rdl_rewrite.specs.Renaming.{is_name, renamed_shell, renamed_plain, renamed_holder}
use Rattle.rdl_rewrite.specs.Rewritten.{rewritten}
use Rattle.rdl_rewrite.specs.declared.edit.Edit.{Edit}
use Rattle.rdl_rewrite.specs.declared.edit.Edit.TheVariants.{Add, Remove, Rename, Move, Resize, SetBits, SetAddress, SetStride, SetAlign, SetReset, SetOwn, SetDefault, ClearOwn, ClearDefault, Assign, Unassign}
use Rattle.run_laws.specs.NewParts.{IsEditSpellable}
use Rattle.run_laws.proofs.Kept.{KeptName, Brings, kept}
use Rattle.rdl_round.specs.Spellable.{IsFree, IsSpellable}
use Rattle.rdl_round.proofs.Each.{chosen}
use Rattle.rdl_round.proofs.FreeNames.{HasFreeNames, HasFreeName, AreNamesFree, spellable-free}

-- a name that isn't refused is free
pub class-free : (c : Class) → not (is_name c) ≡ false → c ≡ classes.Name
class-free classes.Name e = refl
class-free (classes.Kind k) e = absurd (true≢false e)
class-free (classes.Outside o) e = absurd (true≢false e)
class-free classes.Default e = absurd (true≢false e)
class-free (classes.Truth b) e = absurd (true≢false e)
class-free (classes.Property p) e = absurd (true≢false e)
class-free (classes.Word w) e = absurd (true≢false e)
class-free classes.Reserved e = absurd (true≢false e)

renamed-shell-free : (way name at : List ℕ) (s : Shell) → IsFree name → IsFree s.name → IsFree (renamed_shell way name at s).name
renamed-shell-free way name at s f h = chosen (λ (x : Shell). IsFree x.name) (same at way) (record s { name = name }) s f h

free-plain : (whole : Items) (way name at : List ℕ) (p : Plain) → IsFree name → HasFreeNames p → HasFreeNames (renamed_plain whole way name at p)
free-plain whole way name at (named s t) f h = (renamed-shell-free way name at s f h.0, chosen IsFree (leads_to way (type_of whole at)) name t f h.1)
free-plain whole way name at (own p v) f h = tt
free-plain whole way name at (default p v) f h = tt
free-plain whole way name at (dynamic t p v) f h = tt

free-holder : (way name at : List ℕ) (h : Holder) → IsFree name → HasFreeName h → HasFreeName (renamed_holder way name at h)
free-holder way name at (define n k) f h = chosen IsFree (same at way) name n f h
free-holder way name at (anonymous s k) f h = renamed-shell-free way name at s f h

free-name : (whole : Items) (name : List ℕ) → IsFree name → KeptName HasFreeNames HasFreeName whole name
free-name whole name f = record { of_plain = λ way at p h. free-plain whole way name at p f h; of_holder = λ way at h k. free-holder way name at h f k }

brings-free : (whole : Items) (e : Edit) → IsEditSpellable e → Brings HasFreeNames HasFreeName whole e
brings-free whole (Add path place new) h = spellable-free new h
brings-free whole (Remove path) h = tt
brings-free whole (Rename path name) h = λ k. free-name whole name (class-free (class name) k)
brings-free whole (Move path place) h = tt
brings-free whole (Resize path new) h = record { of_type = λ s t k. k; of_component = λ s j k. k }
brings-free whole (SetBits path new) h = record { of_type = λ s t k. k; of_component = λ s j k. k }
brings-free whole (SetAddress path new) h = record { of_type = λ s t k. k; of_component = λ s j k. k }
brings-free whole (SetStride path new) h = record { of_type = λ s t k. k; of_component = λ s j k. k }
brings-free whole (SetAlign path new) h = record { of_type = λ s t k. k; of_component = λ s j k. k }
brings-free whole (SetReset path new) h = record { of_type = λ s t k. k; of_component = λ s j k. k }
brings-free whole (SetOwn path property value) h = tt
brings-free whole (SetDefault path property value) h = tt
brings-free whole (ClearOwn path property) h = tt
brings-free whole (ClearDefault path property) h = tt
brings-free whole (Assign path target property value) h = tt
brings-free whole (Unassign path target property) h = tt

pub kept-free : (whole : Items) (e : Edit) → IsEditSpellable e → IsSpellable whole → IfOk (rewritten whole e) AreNamesFree
kept-free whole e f h = kept HasFreeNames HasFreeName whole e (brings-free whole e f) (spellable-free whole h)
