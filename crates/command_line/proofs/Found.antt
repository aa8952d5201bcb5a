-- What is found among words that `clap` takes: a value of each operand and output, and a number in its range.
use Rattle.std.proofs.Common.{◌≡◌, ◌∙◌, ◌<◌, ◌≤◌, ℕ, Bool, true, false, zero, suc, List, [], ◌∷◌, length, Option, Some, None, is_some, refl, sym, ap, subst, arith, codes, inl, inr, lit<}
use Rattle.std.specs.Prelude.{find, option_map, pos, slice_get}
use Rattle.std.specs.Borrow.{Bor}
use Rattle.std.specs.Str.{bytes_eq}
use Rattle.std.specs.List.{All, slice_index_or}
use Rattle.std.proofs.lemmas.Bool.{false≢true}
use Rattle.std.proofs.lemmas.List.{length-map}
use Rattle.std.proofs.lemmas.List.Elements.{All-get_or}
use Rattle.std.proofs.lemmas.Slice.Eq.{bytes_eq-Decides}
use Rattle.clap.specs.Words.{App, IsParsedFrom, Rule, Text, app_of, args_of, first_value, found_of, matched_of, one_of, one_text, parser_of, read_as, reading_of, rows_of, rule_of, without_minus}
use Rattle.clap.specs.Built.{IsAuto, SameRules}
use Rattle.clap.specs.Facts.{Entry, AllowsNone, EntryPasses, EntryValuesPass, HasId, HasIn, HasReading, IsCountArg, IsFilledEntry, IsGroupEntry, IsKnownGroup, MayBeEmpty, PassesArg, ReadsByParser, ValuesPass, WantsDefault, least_values, parser_of_value, unwrap_or_range}
use Rattle.clap.specs.Texts.{items_of}
use Rattle.clap.specs.Values.{Accepts, IsSignedIn}
use Rattle.clap.specs.declared.builder.action.ArgAction.TheVariants.{Count, Set}
use Rattle.clap.specs.declared.builder.arg.Arg.{Arg}
use Rattle.clap.specs.declared.builder.command.Command.{Command}
use Rattle.clap.specs.declared.builder.value_parser.Reading.{Reading}
use Rattle.clap.specs.declared.builder.value_parser.ValueParser.{ValueParser}
use Rattle.clap.specs.declared.builder.value_parser.ValueParser.TheVariants as vp
use Rattle.clap.specs.declared.parser.matches.ArgMatches.{ArgMatches}
use Rattle.clap.specs.declared.parser.matches.Found.{Found}
use Rattle.clap.specs.declared.parser.matches.MatchedArg.{MatchedArg}
use Rattle.clap.proofs.CallerLemmas.{default_present, entry_by_id, required_has_value, same_rules_by_id}
use Rattle.clap.proofs.WalkLemmas.{first_value-rows, one_text-rows}
use Rattle.command_line.specs.Arguments.{regdiff_command, regedit_command}
use Rattle.command_line.specs.ComparisonWords.{HasOperands}
use Rattle.command_line.specs.Faults.{value}
use Rattle.command_line.specs.Words.{HasHistory, IsWhole}
use Rattle.command_line.proofs.Simple.{IsProgram, alone, as_many, clear_of, comparison_program, comparison_rules, edit_program, edit_rules, local, plain, rule_at, rule_of_place, simple, strict}

-- an id that is an entry's has that entry
found_in : (xs : List Entry) (id : Text) → HasIn xs id → is_some (option_map (λ e. e.1) (find (λ e. bytes_eq e.0.now id) xs)) ≡ true
found_in [] id h = absurd (omega (arith, h.1))
found_in (x ∷ xs) id (zero, lt, at) = rw (at x) refl
found_in (x ∷ xs) id (suc i, lt, at) = go (bytes_eq x.0.now id) refl (found_in xs id (i, omega (arith, lt), at))
  where
    go : (b : Bool) → bytes_eq x.0.now id ≡ b → is_some (option_map (λ e. e.1) (find (λ e. bytes_eq e.0.now id) xs)) ≡ true
        → is_some (option_map (λ e. e.1) (find (λ e. bytes_eq e.0.now id) (x ∷ xs))) ≡ true
    go true e rest = rw e refl
    go false e rest = rw e rest

none_is_some : {X : Type 0} (o : Option X) → o ≡ None → is_some o ≡ true → ⊥
none_is_some None e some = absurd (false≢true some)
none_is_some (Some x) e some = absurd (false≢true (sym (ap is_some e)))

differ : (a b : Text) → bytes_eq a b ≡ false → a ≡ b → ⊥
differ a b unlike same = absurd (false≢true (sym unlike ∙ (bytes_eq-Decides a b).1 same))

-- ---- an entry whose argument takes a value, is alone with its id and is read by the parser q

module _ (built : Command) (id : Text) (q : ValueParser) (no_group : IsKnownGroup built id → ⊥) (counts_nothing : IsCountArg built id → ⊥)
    (needs_values : AllowsNone built id → ⊥) (reads : (how : Reading) → HasReading built id how → how ≡ reading_of q)
    (passes : (text : Text) → PassesArg built id text → (b : Bool) × Accepts b q text) where
  -- the first value, which passed the parser, and the text that is read of it
  abbrev pub IsRead : Found → Type 0
  IsRead f = (text : Text) × (first_value f id ≡ Some text) × (one_text f id ≡ Some (read_as (reading_of q) text)) × ((b : Bool) × Accepts b q text)

  first_read : (f : Found) (x : MatchedArg) → matched_of f id ≡ Some x → 0 < length x.vals.items → All (λ v. PassesArg built id v.now) x.vals.items
      → x.reading ≡ reading_of q → IsRead f
  first_read f x is some all how =
      let v = first x.vals.items some all in
      (v.0.now, rw (is, v.1) refl, rw (is, v.1, how) refl, passes v.0.now v.2)
    where
      first : (vs : List (Bor Text)) → 0 < length vs → All (λ v. PassesArg built id v.now) vs
          → (v : Bor Text) × (slice_get vs 0 ≡ Some v) × PassesArg built id v.now
      first [] some all = absurd (omega arith)
      first (v ∷ vs) some all = (v, refl, All-get_or (λ v. PassesArg built id v.now) (v ∷ vs) 0 v (omega arith) all)

  lone : (e : Entry) → e.0.now ≡ id → IsGroupEntry built e → e.1.is_group ≡ true → ⊥
  lone e key group is = no_group (subst (IsKnownGroup built) key (group is))

  all_pass : (e : Entry) → e.0.now ≡ id → (e.1.is_group ≡ true → ⊥) → EntryValuesPass built e → All (λ v. PassesArg built id v.now) e.1.vals.items
  all_pass e key lone (inl g) = absurd (lone g)
  all_pass e key lone (inr all) = subst (λ t. All (λ v. PassesArg built t v.now) e.1.vals.items) key all

  some_value : (e : Entry) → e.0.now ≡ id → (e.1.is_group ≡ true → ⊥) → IsFilledEntry built e → 0 < length e.1.vals.items
  some_value e key lone (inl g) = absurd (lone g.0)
  some_value e key lone (inr (inl some)) = some
  some_value e key lone (inr (inr (inl counted))) = absurd (counts_nothing (subst (IsCountArg built) key counted.1))
  some_value e key lone (inr (inr (inr none))) = absurd (needs_values (subst (AllowsNone built) key none))

  is_read_so : (e : Entry) → e.0.now ≡ id → (e.1.is_group ≡ true → ⊥) → ReadsByParser built e → e.1.reading ≡ reading_of q
  is_read_so e key lone (inl g) = absurd (lone g)
  is_read_so e key lone (inr h) = reads e.1.reading (subst (λ t. HasReading built t e.1.reading) key h)

  entry_read : (f : Found) (e : Entry) → matched_of f id ≡ Some e.1 → e.0.now ≡ id → EntryPasses built e → IsRead f
  entry_read f e is key pass =
      let alone = lone e key pass.3 in
      first_read f e.1 is (some_value e key alone pass.1) (all_pass e key alone pass.0) (is_read_so e key alone pass.4)

  pub found_read : (f : Found) → ValuesPass built f → is_some (matched_of f id) ≡ true → IsRead f
  found_read f values some = go (matched_of f id) refl
    where
      go : (o : Option MatchedArg) → matched_of f id ≡ o → IsRead f
      go None e = absurd (none_is_some (matched_of f id) e some)
      go (Some x) e =
          let got = entry_by_id (EntryPasses built) f.entries.items id x values e in
          entry_read f got.0 (e ∙ ap (λ (y : MatchedArg). Some y) (sym got.1)) ((bytes_eq-Decides got.0.0.now id).0 got.2) got.3

-- ---- one argument of a program, known by its place

module _ (app : App) (rules : List Rule) (it : IsProgram app rules) (c : Command) (m : ArgMatches) (is : app_of c ≡ app) (p : IsParsedFrom c m) (d : Arg)
    (k : ℕ) (lt : k < length rules) (id : Text) (my_id : (rule_of_place rules k).id ≡ id) (set : (rule_of_place rules k).action ≡ Some Set)
    (range : (rule_of_place rules k).range ≡ None) (clear : clear_of rules k (rule_of_place rules k).id (length rules) ≡ true)
    (named : bytes_eq id [] ≡ false) (help : bytes_eq id (codes "help") ≡ false) (version : bytes_eq id (codes "version") ≡ false) where
  abbrev the_rule : Rule
  the_rule = rule_of_place rules k

  abbrev mine : Arg
  mine = slice_index_or (args_of c) k d

  inside : k < length (args_of c)
  inside = rw (as_many app rules it c is) lt

  rule : rule_of mine ≡ the_rule
  rule = rule_at app rules it c is k d lt

  its_id : mine.id.now ≡ id
  its_id = ap (λ (r : Rule). r.id) rule ∙ my_id

  its_action : mine.action ≡ Some Set
  its_action = ap (λ (r : Rule). r.action) rule ∙ set

  some_values : 1 ≤ least_values mine
  some_values = subst (λ values. 1 ≤ (unwrap_or_range values).start_inclusive) (sym (ap (λ (r : Rule). r.range) rule ∙ range)) (omega arith)

  not_empty : mine.id.now ≡ [] → ⊥
  not_empty e = differ id [] named (sym its_id ∙ e)

  not_added : IsAuto mine → ⊥
  not_added auto = elim auto [ inl h ↦ differ id (codes "help") help (sym its_id ∙ h) | inr h ↦ differ id (codes "version") version (sym its_id ∙ h) ]

  pub has_value : the_rule.required ≡ true → is_some (value id (rows_of (found_of m))) ≡ true
  has_value required =
      let has = required_has_value c m p (plain app rules it c is) (local app rules it c is) (strict app rules it c is) k d inside (ap (λ (r : Rule). r.required) rule ∙ required) its_action
      ((simple app rules it c is).args k d inside).delimiter some_values (alone app rules it c is k d lt clear) not_empty not_added in
      ap (λ (o : Option Text). is_some o) (sym (first_value-rows (found_of m) id)) ∙ subst (λ t. is_some (first_value (found_of m) t) ≡ true) its_id has

  -- what building made of it
  built_rules : (j : ℕ) (a : Arg) → j < length (args_of p.built) → slice_index_or (args_of p.built) j a ≡ a → bytes_eq a.id.now id ≡ true → SameRules mine a
  built_rules j a low at same = same_rules_by_id c m p k d inside (alone app rules it c is k d lt clear) not_added j a low at (rw its_id same)

  counts_nothing : IsCountArg p.built id → ⊥
  counts_nothing any =
      let made = built_rules any.0 any.1 any.2 any.3 any.4.0 in
      let bad : Set ≡ Count = rw (made.action Set its_action) at any.4.1 in
      cc

  may_not_be_empty : (a : Arg) → SameRules mine a → MayBeEmpty a → ⊥
  may_not_be_empty a made (inl none) =
      let one = made.least its_action some_values in
      absurd (omega arith)
  may_not_be_empty a made (inr some) = absurd (false≢true (ap is_some (sym (made.val_delim ∙ ((simple app rules it c is).args k d inside).delimiter)) ∙ some))

  needs_values : AllowsNone p.built id → ⊥
  needs_values any = may_not_be_empty any.1 (built_rules any.0 any.1 any.2 any.3 any.4.0) any.4.1

  no_group : IsKnownGroup p.built id → ⊥
  no_group (inl empty) = differ id [] named empty
  no_group (inr some) =
      let bad : 0 < 0 = rw (p.from.plain (plain app rules it c is)).1 at some in
      absurd (omega arith)

  module _ (q : ValueParser) (parser : the_rule.parser ≡ Some q) where
    same_parser : (a : Arg) → SameRules mine a → parser_of a ≡ q
    same_parser a made = ap parser_of_value (made.parser q (ap (λ (r : Rule). r.parser) rule ∙ parser))

    passes : (text : Text) → PassesArg p.built id text → (b : Bool) × Accepts b q text
    passes text any =
        let made = built_rules any.0 any.1 any.2 any.3 any.4.0 in
        (any.1.ignore_case, subst (λ v. Accepts any.1.ignore_case v text) (same_parser any.1 made) any.4.1)

    reads : (how : Reading) → HasReading p.built id how → how ≡ reading_of q
    reads how any =
        let made = built_rules any.0 any.1 any.2 any.3 any.4.0 in
        sym any.4.1 ∙ ap reading_of (same_parser any.1 made)

    -- a default is found where the words give nothing
    pub has_default : 0 < length the_rule.defaults → (text : Text) × (value id (rows_of (found_of m)) ≡ Some text)
        × (one_of id (rows_of (found_of m)) ≡ Some (read_as (reading_of q) text)) × ((b : Bool) × Accepts b q text)
    has_default some =
        let defaults : length (items_of mine.default_vals) ≡ length the_rule.defaults =
        sym (length-map (items_of mine.default_vals) (λ (s : Bor Text). s.now)) ∙ ap (λ (r : Rule). length r.defaults) rule in
        let wants : WantsDefault mine = (((simple app rules it c is).args k d inside).default_ifs, rw defaults some) in
        let has : HasId (found_of m) id = subst (HasId (found_of m)) its_id (default_present c m p (local app rules it c is) k d inside wants) in
        let parsed = p.parsed (p.from.globals ∙ local app rules it c is) in
        let read = found_read p.built id q no_group counts_nothing needs_values reads passes (found_of m) parsed.values (found_in (found_of m).entries.items id has) in
        (read.0, sym (first_value-rows (found_of m) id) ∙ read.1, sym (one_text-rows (found_of m) id) ∙ read.2, read.3)

-- ---- all of them

first_arg : (xs : List Arg) → 0 < length xs → Arg
first_arg [] some = absurd (omega arith)
first_arg (x ∷ xs) some = x

pub whole : (c : Command) (m : ArgMatches) → app_of c ≡ regedit_command → IsParsedFrom c m → IsWhole (rows_of (found_of m))
whole c m is p = record {
  map = has 0 (lit< tt) (codes "map") refl refl refl refl refl refl refl refl;
  script = has 1 (lit< tt) (codes "script") refl refl refl refl refl refl refl refl;
  rdl = has 2 (lit< tt) (codes "rdl") refl refl refl refl refl refl refl refl;
  header = has 3 (lit< tt) (codes "header") refl refl refl refl refl refl refl refl;
  history = numbered (has_default regedit_command edit_rules edit_program c m is p d 6 (lit< tt) (codes "history") refl refl refl refl refl refl refl
      (vp.Signed (pos 1) (pos 1000000)) refl (lit< tt));
}
  where
    d : Arg
    d = first_arg (args_of c) (rw (as_many regedit_command edit_rules edit_program c is) (lit< tt))

    has : (k : ℕ) (lt : k < length edit_rules) (id : Text) → (rule_of_place edit_rules k).id ≡ id → (rule_of_place edit_rules k).action ≡ Some Set → (rule_of_place edit_rules k).range ≡ None
        → clear_of edit_rules k (rule_of_place edit_rules k).id (length edit_rules) ≡ true → bytes_eq id [] ≡ false → bytes_eq id (codes "help") ≡ false → bytes_eq id (codes "version") ≡ false
        → (rule_of_place edit_rules k).required ≡ true → is_some (value id (rows_of (found_of m))) ≡ true
    has = has_value regedit_command edit_rules edit_program c m is p d

    numbered : (text : Text) × (value (codes "history") (rows_of (found_of m)) ≡ Some text)
        × (one_of (codes "history") (rows_of (found_of m)) ≡ Some (without_minus text)) × ((b : Bool) × IsSignedIn (pos 1) (pos 1000000) text)
        → HasHistory (rows_of (found_of m))
    numbered h = record {
      text = h.0;
      is = h.1;
      fits = h.3.1;
      read = h.2;
    }

pub has_operands : (c : Command) (m : ArgMatches) → app_of c ≡ regdiff_command → IsParsedFrom c m → HasOperands (rows_of (found_of m))
has_operands c m is p = record {
  old = has_value regdiff_command comparison_rules comparison_program c m is p d 0 (lit< tt) (codes "old") refl refl refl refl refl refl refl refl;
  new = has_value regdiff_command comparison_rules comparison_program c m is p d 1 (lit< tt) (codes "new") refl refl refl refl refl refl refl refl;
}
  where
    d : Arg
    d = first_arg (args_of c) (rw (as_many regdiff_command comparison_rules comparison_program c is) (lit< tt))
