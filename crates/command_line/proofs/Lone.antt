-- Of the words of a command without subcommands at most one mistake is told.
use Rattle.std.proofs.Common.{◌≡◌, ◌≤◌, ◌+◌, ◌==◌, ◌&&◌, ℕ, Bool, true, false, zero, suc, List, [], ◌∷◌, length, Option, Some, None, refl, sym, ap, subst, arith, inl, inr}
use Rattle.std.specs.Prelude.{if◌then◌else◌, min, MatchResult, Ok, Err, Result, nat_lt, slice_get}
use Rattle.std.specs.Option.{option_map_or}
use Rattle.std.specs.Str.{chars}
use Rattle.clap.specs.Kinds.{FailsBy, IsAmong, Kinds, check_kinds, or_else, range_kinds, request_kinds, value_kinds, values_kinds}
use Rattle.clap.specs.Faults.{action_fault, built_fault, bundle_step_fault, check_fault, count_fault, default_fault, defaults_fault, entered_fault, flag_word_fault, flags_fault, level_fault, long_fault, option_fault, other_fault, positional_fault, react_fault, set_fault, settle_fault, short_fault, step_fault, stray_fault, turn_fault, use_fault, walk_fault, word_fault}
use Rattle.clap.specs.Walk.{Held, nothing_held, Row, Rule, Step, Text, Waiting, Walk, idle, next, option, positional, subcommand, trailing, value, reacted, walked, with_default, arg_by_index, action_of, arg_by_id, arg_by_long, arg_by_short, attached_value, count_of, most_values, values_or_missing, walk, walk_from, word_met, finished}
use Rattle.clap.specs.Lexer.{long_of, short_of}
use Rattle.clap.specs.Facts.{parser_of_value, unwrap_or_range}
use Rattle.clap.specs.Matches.{count_text}
use Rattle.clap.specs.Simple.{App, Shape, argument_words, built}
use Rattle.clap.specs.Words.{fault_of}
use Rattle.command_line.specs.Arguments.{regdiff_command, regedit_command}
use Rattle.command_line.specs.Faults.{IsTold}
use Rattle.clap.specs.declared.builder.action.ArgAction.{ArgAction}
use Rattle.clap.specs.declared.builder.action.ArgAction.TheVariants as action
use Rattle.clap.specs.declared.builder.value_parser.ValueParser.{ValueParser}
use Rattle.clap.specs.Values.{kind_of}
use Rattle.clap.specs.declared.error.Error.{Error}
use Rattle.clap.specs.declared.error.kind.ErrorKind.{ErrorKind}
use Rattle.clap.specs.declared.error.kind.ErrorKind.TheVariants.{InvalidValue, TooFewValues, TooManyValues, UnknownArgument, WrongNumberOfValues}

record IsLone (kinds : Kinds) : Type 0 where
  few : length kinds ≤ 1

nothing : IsLone []
nothing = record { few = omega arith }

one : (k : ErrorKind) → IsLone (k ∷ [])
one k = record { few = omega arith }

lone_among : (k : ErrorKind) (kinds : Kinds) → IsLone kinds → IsAmong k kinds → kinds ≡ k ∷ []
lone_among k [] lone h = absurd h
lone_among k (x ∷ []) lone (inl e) = ap (λ y. y ∷ []) (sym e)
lone_among k (x ∷ []) lone (inr h) = absurd h
lone_among k (x ∷ y ∷ ys) lone h = absurd (omega (arith, lone.few))

lone_or : (a b : Kinds) → IsLone a → IsLone b → IsLone (or_else a b)
lone_or [] b x y = y
lone_or (k ∷ ks) b x y = x

lone_if : (c : Bool) (a b : Kinds) → IsLone a → IsLone b → IsLone (if c then a else b)
lone_if true a b x y = x
lone_if false a b x y = y

lone_option : {X : Type 0} (f : X → Kinds) (o : Option X) → ((x : X) → IsLone (f x)) → IsLone (option_map_or f o [])
lone_option f None h = nothing
lone_option f (Some x) h = h x

-- ---- one use of an argument

lone_value : (c : Bool) (p : ValueParser) (text : Text) → IsLone (value_kinds c p text)
lone_value c p text = lone_if _ _ _ nothing (one _)

lone_values : (c : Bool) (p : ValueParser) (texts : List Text) → IsLone (values_kinds c p texts)
lone_values c p [] = nothing
lone_values c p (v ∷ vs) = lone_or _ _ (lone_value c p v) (lone_values c p vs)

lone_range : (least most n : ℕ) → IsLone (range_kinds least most n)
lone_range least most n =
    lone_if (nat_lt 0 least && n == 0) _ _ (one InvalidValue)
    (lone_if (least == most) _ _ (lone_if (least == n) _ _ nothing (one WrongNumberOfValues))
    (lone_if (nat_lt n least) _ _ (one TooFewValues)
    (lone_if (nat_lt most n) _ _ (one TooManyValues) nothing)))

lone_request : (x : ArgAction) → IsLone (request_kinds x)
lone_request action.Help = one _
lone_request action.HelpShort = one _
lone_request action.HelpLong = one _
lone_request action.Version = one _
lone_request action.Set = nothing
lone_request action.Append = nothing
lone_request action.SetTrue = nothing
lone_request action.SetFalse = nothing
lone_request action.Count = nothing

lone_count : (a : Rule) (values : List Text) (rows : List Row) → IsLone (count_fault a values rows)
lone_count a [] rows = lone_value a.ignore_case (parser_of_value a.parser) (count_text (min (count_of a.id rows + 1) 255))
lone_count a (v ∷ vs) rows = lone_values _ _ (v ∷ vs)

lone_set : (again : Bool) (a : Rule) (values : List Text) (rows : List Row) → IsLone (set_fault again a values rows)
lone_set again a values rows = lone_or _ _ (lone_if _ _ _ (one _) nothing) (lone_values _ _ values)

lone_action : (x : ArgAction) (again : Bool) (a : Rule) (values : List Text) (rows : List Row) → IsLone (action_fault x again a values rows)
lone_action action.Set again a values rows = lone_set again a values rows
lone_action action.SetTrue again a values rows = lone_set again a values rows
lone_action action.SetFalse again a values rows = lone_set again a values rows
lone_action action.Append again a values rows = lone_values _ _ values
lone_action action.Count again a values rows = lone_count a values rows
lone_action action.Help again a values rows = one _
lone_action action.HelpShort again a values rows = one _
lone_action action.HelpLong again a values rows = one _
lone_action action.Version again a values rows = one _

lone_use : (again : Bool) (a : Rule) (values : List Text) (rows : List Row) → IsLone (use_fault again a values rows)
lone_use again a values rows =
    lone_or _ _ (lone_range (unwrap_or_range a.range).start_inclusive (most_values a) (length values))
    (lone_action (action_of a) again a (values_or_missing a values) rows)

-- ---- the walk

lone_settle : (c : List Rule) (again : Bool) (h : Held) → IsLone (settle_fault c again h)
lone_settle c again h = lone_option _ h.pending (λ p. lone_option _ (arg_by_id c p.0) (λ a. lone_use again a p.1 h.rows))

lone_react : (c : List Rule) (again : Bool) (a : Rule) (values : List Text) (h : Held) → IsLone (react_fault c again a values h)
lone_react c again a values h = lone_or _ _ (lone_settle c again h) (lone_use again a values _)

lone_opt : (c : List Rule) (again : Bool) (a : Rule) (v : Option Text) (h : Held) → IsLone (option_fault c again a v h)
lone_opt c again a (Some v) h = lone_react c again a (v ∷ []) h
lone_opt c again a None h = lone_settle c again h

lone_long : (c : List Rule) (again : Bool) (a : Option Rule) (v : Option Text) (h : Held) → IsLone (long_fault c again a v h)
lone_long c again None v h = one _
lone_long c again (Some a) v h = lone_if _ _ _ (lone_opt c again a v h) (lone_if _ _ _ (one _) (lone_react c again a [] h))

lone_short : (c : List Rule) (again : Bool) (a : Option Rule) (rest : Text) (h : Held) (after : Held → Kinds) → ((g : Held) → IsLone (after g)) → IsLone (short_fault c again a rest h after)
lone_short c again None rest h after lone = one _
lone_short c again (Some a) rest h after lone = lone_if _ _ _ (lone_opt c again a (attached_value rest) h) (lone_or _ _ (lone_react c again a [] h) (lone (reacted c a [] h)))

lone_step_of_flags : (c : List Rule) (again : Bool) (x : Option ℕ) (flags : Text) (skip : ℕ) (h : Held) (after : Text → ℕ → Held → Kinds)
    → ((t : Text) (n : ℕ) (g : Held) → IsLone (after t n g)) → IsLone (bundle_step_fault c again x flags skip h after)
lone_step_of_flags c again None flags skip h after lone = nothing
lone_step_of_flags c again (Some x) flags zero h after lone = lone_short c again (arg_by_short c x) _ h _ (λ g. lone _ 0 g)
lone_step_of_flags c again (Some x) flags (suc skip) h after lone = lone _ skip h

lone_flags : (c : List Rule) (again : Bool) (k : ℕ) (flags : Text) (skip : ℕ) (h : Held) → IsLone (flags_fault c again k flags skip h)
unfolding flags_fault
lone_flags c again zero flags skip h = nothing
lone_flags c again (suc k) flags skip h = lone_step_of_flags c again (slice_get (chars flags) 0) flags skip h (flags_fault c again k) (λ t n g. lone_flags c again k t n g)

lone_flag_word : (c : List Rule) (again : Bool) (l : Option (Text × Option Text)) (word : Text) (h : Held) → IsLone (flag_word_fault c again l word h)
lone_flag_word c again (Some p) word h = lone_long c again (arg_by_long c p.0) p.1 h
lone_flag_word c again None word h = lone_option _ (short_of word) (λ flags. lone_flags c again (length flags) flags h.skip (record h { skip = 0 }))

lone_other : (s : Shape) (word : Text) (h : Held) → IsLone (other_fault s None word h)
lone_other s word h = lone_if _ _ _ nothing (lone_flag_word s.rules s.args_override_self (long_of word) word h)

lone_word : (s : Shape) (is_trailing : Bool) (waiting : Waiting) (word : Text) (h : Held) → IsLone (word_fault s [] is_trailing waiting word h)
lone_word s is_trailing idle word h = lone_if _ _ _ nothing (lone_other s word h)
lone_word s is_trailing (option id) word h = lone_if _ _ _ nothing (lone_other s word h)
lone_word s is_trailing positional word h = lone_if _ _ _ nothing (lone_other s word h)

lone_step : (s : Shape) → s.is_leaf ≡ true → (position : ℕ) (h : Held) (x : Step) → IsLone (step_fault s position h x)
lone_step s leaf position h value = found (arg_by_index s.rules position)
  where
    stray : IsLone (stray_fault s)
    stray = rw leaf (one UnknownArgument)

    found : (o : Option Rule) → IsLone (option_map_or (λ a. positional_fault s.rules s.args_override_self a h) o (stray_fault s))
    found None = stray
    found (Some a) = lone_if _ _ _ nothing (lone_settle s.rules s.args_override_self h)
lone_step s leaf position h (next waiting) = nothing
lone_step s leaf position h (trailing n) = nothing
lone_step s leaf position h (subcommand name) = nothing

lone_turn : (s : Shape) → s.is_leaf ≡ true → (w : Walk) (word : Text) → IsLone (turn_fault s [] w word)
lone_turn s leaf w word =
    let met = word_met s.rules [] w.is_trailing w.waiting w.position word w.held in
    lone_if _ _ _ nothing (lone_or _ _ (lone_word s w.is_trailing w.waiting word w.held) (lone_step s leaf w.position met.0 met.1))

lone_walk : (s : Shape) → s.is_leaf ≡ true → (w : Walk) (words : List Text) → IsLone (walk_fault s [] w words)
unfolding walk_fault
lone_walk s leaf w [] = nothing
lone_walk s leaf w (word ∷ rest) = lone_or _ _ (lone_turn s leaf w word) (lone_walk s leaf (walked s.rules [] w word) rest)

-- ---- after the walk

lone_default : (rows : List Row) (a : Rule) → IsLone (default_fault rows a)
lone_default rows a = lone_if _ _ _ nothing (lone_or _ _ (lone_request (action_of a)) (lone_values a.ignore_case (parser_of_value a.parser) a.defaults))

lone_defaults : (rows : List Row) (rules : List Rule) → IsLone (defaults_fault rows rules)
unfolding defaults_fault
lone_defaults rows [] = nothing
lone_defaults rows (a ∷ rest) = lone_or _ _ (lone_default rows a) (lone_defaults (with_default rows a) rest)

lone_check : (s : Shape) (rows : List Row) (has : Bool) → IsLone (check_fault s rows has)
lone_check s rows has = checks _ _ _
  where
    checks : (help command argument : Bool) → IsLone (check_kinds help command argument)
    checks true command argument = one _
    checks false true argument = one _
    checks false false true = one _
    checks false false false = nothing

lone_level : (s : Shape) → s.is_leaf ≡ true → (h : Held) (words : List Text) (has : Bool) (below : Kinds) → IsLone below → IsLone (level_fault s [] h words has below)
lone_level s leaf h words has below lone =
    lone_or _ _ (lone_walk s leaf (walk_from h) words) (lone_or _ _ lone (lone_or _ _ (lone_settle s.rules s.args_override_self (walk s.rules [] h words).held)
    (lone_or _ _ (lone_defaults _ s.rules) (lone_check s (finished s.rules (walk s.rules [] h words).held) has))))

lone_built : (a : App) → a.top.is_leaf ≡ true → a.subs ≡ [] → (words : List Text) → IsLone (built_fault a nothing_held words)
lone_built a leaf none words =
    subst (λ subs. IsLone (built_fault (record a { subs = subs }) nothing_held words)) (sym none) (lone_level a.top leaf nothing_held words _ _ (entered (walk a.top.rules [] nothing_held words).stopped))
  where
    entered : (stop : Option (Text × List Text)) → IsLone (entered_fault (record a { subs = [] }) stop)
    entered None = nothing
    entered (Some p) = nothing

-- ---- the commands of the programs

told : {T : Type 0} (kinds : Kinds) (r : Result T Error) → IsLone kinds → FailsBy kinds r → MatchResult r (λ _. kinds ≡ []) (IsTold kinds)
told kinds (Ok x) lone none = none
told kinds (Err e) lone (inl memory) = inl memory
told kinds (Err e) lone (inr among) = inr (lone_among (kind_of e) kinds lone among)

pub told_of_edit : {T : Type 0} (words : List Text) (r : Result T Error) → FailsBy (fault_of regedit_command words) r
    → MatchResult r (λ _. fault_of regedit_command words ≡ []) (IsTold (fault_of regedit_command words))
unfolding regedit_command
told_of_edit words r = told _ r (lone_built (built regedit_command) refl refl (argument_words regedit_command words))

pub told_of_comparison : {T : Type 0} (words : List Text) (r : Result T Error) → FailsBy (fault_of regdiff_command words) r
    → MatchResult r (λ _. fault_of regdiff_command words ≡ []) (IsTold (fault_of regdiff_command words))
unfolding regdiff_command
told_of_comparison words r = told _ r (lone_built (built regdiff_command) refl refl (argument_words regdiff_command words))
