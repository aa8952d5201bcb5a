-- What kind of commands the programs are to `clap`, and their arguments one by one.
use Rattle.std.proofs.Common.{◌≡◌, ◌∙◌, ◌<◌, ◌==◌, ◌&&◌, ◌||◌, ◌⊎◌, ℕ, Bool, true, false, not, zero, suc, List, [], ◌∷◌, map, length, refl, sym, ap, arith, codes, inl, inr}
use Rattle.std.specs.Str.{bytes_eq}
use Rattle.std.specs.List.{list_all, slice_index_or}
use Rattle.std.proofs.lemmas.List.{get_or-map, length-map}
use Rattle.std.proofs.lemmas.Bool.{cases_lt, eqb-true}
use Rattle.clap.specs.Words.{App, Rule, Text, app_of, new_rule, args_of, is_simple, is_simple_and_free, rule_of}
use Rattle.clap.specs.Built.{IsPlain}
use Rattle.clap.specs.Faults.{has_free_rules}
use Rattle.clap.specs.Simple.{IsSimple, Shape, has_simple_rules, is_ready, is_ready_leaf, shape_of}
use Rattle.clap.specs.declared.builder.arg.Arg.{Arg}
use Rattle.clap.specs.declared.builder.command.Command.{Command}
use Rattle.clap.specs.declared.builder.command.Command.TheViews.{out-Command}
use Rattle.clap.proofs.OnLiterals.{clap_on_literals}
use Rattle.clap.proofs.FaultLemmas.{free_args}
use Rattle.clap.proofs.SimpleLemmas.{ready_simple, simple_groups}
use Rattle.clap.proofs.WalkLemmas.{both}
use Rattle.command_line.specs.Arguments.{format_rule, history_rule, ignore_rule, operand_rule, optional_output_rule, output_rule, regdiff_command, regedit_command, switch_rule, top_rule}

pub simple_command : is_simple regedit_command ≡ true
unfolding regedit_command clap_on_literals
simple_command = refl

pub free_command : is_simple_and_free regedit_command ≡ true
unfolding regedit_command clap_on_literals
free_command = refl

pub simple_comparison : is_simple regdiff_command ≡ true
unfolding regdiff_command clap_on_literals
simple_comparison = refl

pub free_comparison : is_simple_and_free regdiff_command ≡ true
unfolding regdiff_command clap_on_literals
free_comparison = refl

-- ---- the arguments in their order

abbrev pub edit_rules : List Rule
edit_rules = operand_rule (codes "map") ∷ operand_rule (codes "script") ∷ output_rule (codes "rdl") ∷ output_rule (codes "header") ∷ optional_output_rule (codes "edited") ∷ top_rule ∷ history_rule ∷ optional_output_rule (codes "session") ∷ switch_rule (codes "strict") ∷ switch_rule (codes "quiet") ∷ []

abbrev pub comparison_rules : List Rule
comparison_rules = operand_rule (codes "old") ∷ operand_rule (codes "new") ∷ top_rule ∷ switch_rule (codes "each") ∷ switch_rule (codes "breaking") ∷ ignore_rule ∷ format_rule ∷ []

-- what is computed of a command that has these arguments
pub record IsProgram (app : App) (rules : List Rule) : Type 0 where
  pub its_rules : app.top.rules ≡ rules
  pub ready : is_ready app.top ≡ true
  pub free : has_free_rules app.top ≡ true
  pub leaves : list_all is_ready_leaf app.subs ≡ true
  pub negates_nothing : app.top.subcommand_negates_reqs ≡ false

pub edit_program : IsProgram regedit_command edit_rules
unfolding regedit_command
edit_program = record { its_rules = refl; ready = refl; free = refl; leaves = refl; negates_nothing = refl }

pub comparison_program : IsProgram regdiff_command comparison_rules
unfolding regdiff_command
comparison_program = record { its_rules = refl; ready = refl; free = refl; leaves = refl; negates_nothing = refl }

abbrev pub rule_of_place : List Rule → ℕ → Rule
rule_of_place rules k = slice_index_or rules k (new_rule [])

-- of the first n arguments none but the k-th has this id
abbrev pub clear_of : List Rule → ℕ → Text → ℕ → Bool
clear_of rules k id zero = true
clear_of rules k id (suc n) = (not (bytes_eq (rule_of_place rules n).id id) || n == k) && clear_of rules k id n

clear_at : (rules : List Rule) (k : ℕ) (id : Text) (n j : ℕ) → clear_of rules k id n ≡ true → j < n → bytes_eq (rule_of_place rules j).id id ≡ true → j ≡ k
clear_at rules k id zero j clear lt same = absurd (omega arith)
clear_at rules k id (suc n) j clear lt same = elim (nat_split n j lt) [
  | inl below ↦ clear_at rules k id n j (both _ _ clear).1 below same
  | inr here ↦
      let hit : bytes_eq (rule_of_place rules n).id id ≡ true = rw (← here) same in
      here ∙ eqb-true _ _ (other _ _ hit (both _ _ clear).0)
]
  where
    nat_split : (n j : ℕ) → j < suc n → (j < n) ⊎ (j ≡ n)
    nat_split n j lt = elim (cases_lt j n) [ inl a ↦ inl a | inr a ↦ inr (omega arith) ]

    other : (a b : Bool) → a ≡ true → (not a || b) ≡ true → b ≡ true
    other true b e h = h
    other false b e h = cc

module _ (app : App) (the_rules : List Rule) (it : IsProgram app the_rules) (c : Command) (is : app_of c ≡ app) where
  pub simple : IsSimple c
  simple = ready_simple c (ap (λ (a : App). is_ready a.top) is ∙ it.ready) (ap (λ (a : App). list_all is_ready_leaf a.subs) is ∙ it.leaves)

  rules : map rule_of (args_of c) ≡ the_rules
  rules = ap (λ (a : App). a.top.rules) is ∙ it.its_rules

  pub as_many : length (args_of c) ≡ length the_rules
  as_many = sym (length-map (args_of c) rule_of) ∙ ap length rules

  -- the k-th argument
  pub rule_at : (k : ℕ) (d : Arg) → k < length the_rules → rule_of (slice_index_or (args_of c) k d) ≡ rule_of_place the_rules k
  rule_at k d lt = sym (get_or-map rule_of (args_of c) k d (new_rule []) (rw as_many lt)) ∙ ap (λ rs. slice_index_or rs k (new_rule [])) rules

  -- nothing in it excludes anything
  pub plain : IsPlain c
  plain =
      let simple_rules = (both c_shape.is_plain _ (both (has_simple_rules c_shape) _ (ap (λ (a : App). is_ready a.top) is ∙ it.ready)).0) in
      let free = free_args c simple (ap (λ (a : App). has_free_rules a.top) is ∙ it.free) in
      let local = simple_groups c simple_rules.1 in
      ((λ k d lt. ((free k d lt).exclusive, (free k d lt).conflicts, (free k d lt).overrides, local k d lt)), simple.groups)
    where
      c_shape : Shape
      c_shape = shape_of c

  pub local : (out-Command c).has_globals ≡ false
  local = simple.globals

  pub strict : (out-Command c).subcommand_negates_reqs ≡ false
  strict = ap (λ (a : App). a.top.subcommand_negates_reqs) is ∙ it.negates_nothing

  -- no two of its arguments have one id
  pub alone : (k : ℕ) (d : Arg) → k < length the_rules → clear_of the_rules k (rule_of_place the_rules k).id (length the_rules) ≡ true → (j : ℕ) (e : Arg) → j < length (args_of c)
      → bytes_eq (slice_index_or (args_of c) j e).id.now (slice_index_or (args_of c) k d).id.now ≡ true → j ≡ k
  alone k d lt clear j e low same =
      let below : j < length the_rules = rw (← as_many) low in
      let mine = ap (λ (r : Rule). r.id) (rule_at k d lt) in
      let other = ap (λ (r : Rule). r.id) (rule_at j e below) in
      clear_at the_rules k (rule_of_place the_rules k).id (length the_rules) j clear below (rw (← other, ← mine) same)
