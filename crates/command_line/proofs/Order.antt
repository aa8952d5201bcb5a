-- The words in the order of the usage, computed.
use Rattle.std.proofs.Common.{◌≡◌, ◌∙◌, ◌==◌, ◌&&◌, Bool, true, false, ℕ, List, [], ◌∷◌, Some, None, refl, ap, ap₂, codes, fold}
use Rattle.clap.specs.Words.{Kinds, Rule, Text, first_of}
use Rattle.clap.specs.Faults.{defaults_fault, step_fault, turn_fault, walk_fault, word_fault, settle_fault, check_fault, entered_fault}
use Rattle.clap.specs.Kinds.{or_else}
use Rattle.clap.specs.Lexer.{long_of, long_of_rest, short_of, short_of_rest, strip_byte}
use Rattle.clap.specs.Simple.{Shape, built, entered}
use Rattle.clap.specs.Takes.{default_passes, entered_passes, is_valid, settle_passes, step_passes, turn_passes, walk_passes, word_passes}
use Rattle.clap.specs.Walk.{Held, Waiting, Walk, after_step, finished, idle, nothing_held, option, plain_word, positional, settled, walk, walk_from, walked, word_met}
use Rattle.std.specs.Str.{bytes_eq}
use Rattle.std.specs.Prelude.{if◌then◌else◌, option_and_then, is_some}
use Rattle.std.specs.List.{list_all}
use Rattle.command_line.proofs.Simple.{simple_command}
use Rattle.clap.proofs.OnLiterals.{clap_on_literals}
use Rattle.clap.proofs.SimpleLemmas.{is_false}
use Rattle.command_line.specs.Arguments.{regedit_command}
use Rattle.command_line.specs.Plain.{ReadsInOrder, ReadsWithSession, is_plain}
use Rattle.command_line.specs.Words.{AreTaken, found, mistakes}

-- ---- a word that begins with no hyphen is no flag

no_long : (word : Text) → is_plain word ≡ true → long_of word ≡ None
no_long [] plain = refl
no_long (x ∷ xs) plain = ap (λ b. option_and_then long_of_rest (option_and_then (strip_byte 45) (if b then Some xs else None))) (is_false (x == 45) plain)

no_short : (word : Text) → is_plain word ≡ true → short_of word ≡ None
no_short [] plain = refl
no_short (x ∷ xs) plain = ap (λ b. option_and_then short_of_rest (if b then Some xs else None)) (is_false (x == 45) plain)

no_dashes : (word : Text) → is_plain word ≡ true → bytes_eq word (45 ∷ 45 ∷ []) ≡ false
no_dashes [] plain = refl
no_dashes (x ∷ xs) plain = rw (is_false (x == 45) plain) refl

met_plain : (c : List Rule) (waiting : Waiting) (position : ℕ) (word : Text) (h : Held) → is_plain word ≡ true → word_met c [] false waiting position word h ≡ plain_word c waiting word h
met_plain c idle position word h plain = rw (no_dashes word plain, no_long word plain, no_short word plain) refl
met_plain c (option id) position word h plain = rw (no_dashes word plain, no_long word plain, no_short word plain) refl
met_plain c positional position word h plain = rw (no_dashes word plain, no_long word plain, no_short word plain) refl

fault_plain : (s : Shape) (waiting : Waiting) (word : Text) (h : Held) → is_plain word ≡ true → word_fault s [] false waiting word h ≡ []
fault_plain s idle word h plain = rw (no_dashes word plain, no_long word plain, no_short word plain) refl
fault_plain s (option id) word h plain = rw (no_dashes word plain, no_long word plain, no_short word plain) refl
fault_plain s positional word h plain = rw (no_dashes word plain, no_long word plain, no_short word plain) refl

passes_plain : (s : Shape) (waiting : Waiting) (word : Text) (h : Held) → is_plain word ≡ true → word_passes s [] false waiting word h ≡ true
passes_plain s idle word h plain = rw (no_dashes word plain, no_long word plain, no_short word plain) refl
passes_plain s (option id) word h plain = rw (no_dashes word plain, no_long word plain, no_short word plain) refl
passes_plain s positional word h plain = rw (no_dashes word plain, no_long word plain, no_short word plain) refl

-- ---- where the walk stands behind such a word

abbrev at : Held → Waiting → ℕ → Walk
at h waiting position = record { held = h; waiting = waiting; position = position; is_trailing = false; stopped = None }

abbrev behind : List Rule → Walk → Text → Walk
behind c w word = after_step c word w (plain_word c w.waiting word w.held).0 (plain_word c w.waiting word w.held).1

walked_plain : (c : List Rule) (h : Held) (waiting : Waiting) (position : ℕ) (word : Text) → is_plain word ≡ true
    → walked c [] (at h waiting position) word ≡ behind c (at h waiting position) word
unfolding walked
walked_plain c h waiting position word plain = ap (λ met. after_step c word (at h waiting position) met.0 met.1) (met_plain c waiting position word h plain)

turn_fault_plain : (s : Shape) (h : Held) (waiting : Waiting) (position : ℕ) (word : Text) → is_plain word ≡ true
    → turn_fault s [] (at h waiting position) word ≡ step_fault s position (plain_word s.rules waiting word h).0 (plain_word s.rules waiting word h).1
turn_fault_plain s h waiting position word plain =
    ap₂ or_else (fault_plain s waiting word h plain) (ap (λ met. step_fault s position met.0 met.1) (met_plain s.rules waiting position word h plain))

turn_passes_plain : (s : Shape) (h : Held) (waiting : Waiting) (position : ℕ) (word : Text) → is_plain word ≡ true
    → turn_passes s [] (at h waiting position) word ≡ step_passes s position (plain_word s.rules waiting word h).0 (plain_word s.rules waiting word h).1
turn_passes_plain s h waiting position word plain =
    ap₂ (λ a b. a && b) (passes_plain s waiting word h plain) (ap (λ met. step_passes s position met.0 met.1) (met_plain s.rules waiting position word h plain))

-- ---- one word more

fault_more : (s : Shape) (w after : Walk) (word : Text) (rest : List Text) → turn_fault s [] w word ≡ [] → walked s.rules [] w word ≡ after
    → walk_fault s [] after rest ≡ [] → walk_fault s [] w (word ∷ rest) ≡ []
unfolding walk_fault
fault_more s w after word rest turn moves none = ap₂ or_else turn (ap (λ v. walk_fault s [] v rest) moves ∙ none)

passes_more : (s : Shape) (w after : Walk) (word : Text) (rest : List Text) → turn_passes s [] w word ≡ true → walked s.rules [] w word ≡ after
    → walk_passes s [] after rest ≡ true → walk_passes s [] w (word ∷ rest) ≡ true
unfolding walk_passes
passes_more s w after word rest turn moves all = ap₂ (λ a b. a && b) turn (ap (λ v. walk_passes s [] v rest) moves ∙ all)

-- ---- the walk over the words

abbrev shape : Shape
shape = (built regedit_command).top

abbrev rules : List Rule
rules = (built regedit_command).top.rules

module _ (map script rdl header : Text) (plain_map : is_plain map ≡ true) (plain_script : is_plain script ≡ true) (plain_rdl : is_plain rdl ≡ true)
    (plain_header : is_plain header ≡ true) where
  abbrev start : Walk
  start = walk_from nothing_held

  abbrev second : Walk
  second = behind rules start map

  abbrev third : Walk
  third = behind rules second script

  abbrev fourth : Walk
  fourth = walked rules [] third (codes "--rdl")

  abbrev fifth : Walk
  fifth = behind rules fourth rdl

  abbrev sixth : Walk
  sixth = walked rules [] fifth (codes "--header")

  abbrev last : Walk
  last = behind rules sixth header

  to_second : walked rules [] start map ≡ second
  to_second = walked_plain rules nothing_held idle 1 map plain_map

  to_third : walked rules [] second script ≡ third
  unfolding regedit_command clap_on_literals
  to_third = walked_plain rules second.held second.waiting second.position script plain_script

  to_fifth : walked rules [] fourth rdl ≡ fifth
  unfolding regedit_command clap_on_literals
  to_fifth = walked_plain rules fourth.held fourth.waiting fourth.position rdl plain_rdl

  to_last : walked rules [] sixth header ≡ last
  unfolding regedit_command clap_on_literals
  to_last = walked_plain rules sixth.held sixth.waiting sixth.position header plain_header

  -- ---- with more words behind them

  abbrev with : List Text → List Text
  with more = map ∷ script ∷ codes "--rdl" ∷ rdl ∷ codes "--header" ∷ header ∷ more

  walk_over : (more : List Text) → walk rules [] nothing_held (with more) ≡ fold (walked rules []) last more
  walk_over more =
      ap (λ w. fold (walked rules []) w (script ∷ codes "--rdl" ∷ rdl ∷ codes "--header" ∷ header ∷ more)) to_second
      ∙ (ap (λ w. fold (walked rules []) w (codes "--rdl" ∷ rdl ∷ codes "--header" ∷ header ∷ more)) to_third
      ∙ (ap (λ w. fold (walked rules []) w (codes "--header" ∷ header ∷ more)) to_fifth ∙ ap (λ w. fold (walked rules []) w more) to_last))

  fault_over : (more : List Text) → walk_fault shape [] last more ≡ [] → walk_fault shape [] start (with more) ≡ []
  unfolding regedit_command clap_on_literals
  fault_over more none =
      fault_more shape start second map (script ∷ codes "--rdl" ∷ rdl ∷ codes "--header" ∷ header ∷ more) (turn_fault_plain shape nothing_held idle 1 map plain_map) to_second
      (fault_more shape second third script (codes "--rdl" ∷ rdl ∷ codes "--header" ∷ header ∷ more) (turn_fault_plain shape second.held second.waiting second.position script plain_script) to_third
      (fault_more shape third fourth (codes "--rdl") (rdl ∷ codes "--header" ∷ header ∷ more) refl refl
      (fault_more shape fourth fifth rdl (codes "--header" ∷ header ∷ more) (turn_fault_plain shape fourth.held fourth.waiting fourth.position rdl plain_rdl) to_fifth
      (fault_more shape fifth sixth (codes "--header") (header ∷ more) refl refl
      (fault_more shape sixth last header more (turn_fault_plain shape sixth.held sixth.waiting sixth.position header plain_header) to_last none)))))

  passes_over : (more : List Text) → walk_passes shape [] last more ≡ true → walk_passes shape [] start (with more) ≡ true
  unfolding regedit_command clap_on_literals
  passes_over more all =
      passes_more shape start second map (script ∷ codes "--rdl" ∷ rdl ∷ codes "--header" ∷ header ∷ more) (turn_passes_plain shape nothing_held idle 1 map plain_map) to_second
      (passes_more shape second third script (codes "--rdl" ∷ rdl ∷ codes "--header" ∷ header ∷ more) (turn_passes_plain shape second.held second.waiting second.position script plain_script) to_third
      (passes_more shape third fourth (codes "--rdl") (rdl ∷ codes "--header" ∷ header ∷ more) refl refl
      (passes_more shape fourth fifth rdl (codes "--header" ∷ header ∷ more) (turn_passes_plain shape fourth.held fourth.waiting fourth.position rdl plain_rdl) to_fifth
      (passes_more shape fifth sixth (codes "--header") (header ∷ more) refl refl
      (passes_more shape sixth last header more (turn_passes_plain shape sixth.held sixth.waiting sixth.position header plain_header) to_last all)))))

  -- what is judged behind the walk
  abbrev judged : Walk → Kinds
  judged w = or_else (entered_fault (built regedit_command) w.stopped)
      (or_else (settle_fault rules shape.args_override_self w.held)
      (or_else (defaults_fault (settled rules w.held).rows rules) (check_fault shape (finished rules w.held) (is_some (entered (built regedit_command) w.stopped)))))

  abbrev passed : Walk → Bool
  passed w = settle_passes rules shape.args_override_self w.held
      && (list_all default_passes rules && is_valid shape (finished rules w.held) (is_some (entered (built regedit_command) w.stopped)))

  abbrev entered_well : Walk → Bool
  entered_well w = entered_passes (built regedit_command) w.stopped

  -- where the walk ends, all is taken, and what is found is finished there
  module _ (more : List Text) (end : Walk) (ends : fold (walked rules []) last more ≡ end) where
    all_over : walk rules [] nothing_held (with more) ≡ end
    all_over = walk_over more ∙ ends

    values : found (with more) ≡ finished rules end.held
    unfolding regedit_command
    values = ap (λ (w : Walk). finished rules w.held) all_over

    told : walk_fault shape [] last more ≡ [] → judged end ≡ [] → mistakes (with more) ≡ []
    unfolding regedit_command
    told none none_judged = ap₂ or_else (fault_over more none) (ap judged all_over ∙ none_judged)

    taken : walk_passes shape [] last more ≡ true → entered_well end ≡ true → passed end ≡ true → AreTaken (with more)
    unfolding regedit_command
    taken all none_entered all_passed = ap₂ (λ a b. a && b) simple_command
        (ap₂ (λ a b. a && b) (ap entered_well all_over ∙ none_entered) (ap₂ (λ a b. a && b) (passes_over more all) (ap passed all_over ∙ all_passed)))

  pub reads_in_order : ReadsInOrder map script rdl header
  unfolding regedit_command clap_on_literals
  reads_in_order = record {
    taken = taken [] last refl refl refl refl;
    told = told [] last refl refl refl;
    map_value = ap (first_of (codes "map")) (values [] last refl);
    script_value = ap (first_of (codes "script")) (values [] last refl);
    rdl_value = ap (first_of (codes "rdl")) (values [] last refl);
    header_value = ap (first_of (codes "header")) (values [] last refl);
    top_value = ap (first_of (codes "top")) (values [] last refl);
    history_value = ap (first_of (codes "history")) (values [] last refl);
    session_value = ap (first_of (codes "session")) (values [] last refl);
    edited_value = ap (first_of (codes "edited")) (values [] last refl);
    strict_value = ap (first_of (codes "strict")) (values [] last refl);
    quiet_value = ap (first_of (codes "quiet")) (values [] last refl);
  }

  module _ (session : Text) (plain_session : is_plain session ≡ true) where
    abbrev asked : List Text
    asked = codes "--session" ∷ session ∷ []

    abbrev seventh : Walk
    seventh = walked rules [] last (codes "--session")

    abbrev end : Walk
    end = behind rules seventh session

    to_end : walked rules [] seventh session ≡ end
    unfolding regedit_command clap_on_literals
    to_end = walked_plain rules seventh.held seventh.waiting seventh.position session plain_session

    asked_fault : walk_fault shape [] last asked ≡ []
    unfolding regedit_command clap_on_literals
    asked_fault =
        fault_more shape last seventh (codes "--session") (session ∷ []) refl refl
        (fault_more shape seventh end session [] (turn_fault_plain shape seventh.held seventh.waiting seventh.position session plain_session) to_end refl)

    asked_passes : walk_passes shape [] last asked ≡ true
    unfolding regedit_command clap_on_literals
    asked_passes =
        passes_more shape last seventh (codes "--session") (session ∷ []) refl refl
        (passes_more shape seventh end session [] (turn_passes_plain shape seventh.held seventh.waiting seventh.position session plain_session) to_end refl)

    pub reads_with_session : ReadsWithSession map script rdl header session
    unfolding regedit_command clap_on_literals
    reads_with_session = record {
      taken = taken asked end to_end asked_passes refl refl;
      told = told asked end to_end asked_fault refl;
      map_value = ap (first_of (codes "map")) (values asked end to_end);
      script_value = ap (first_of (codes "script")) (values asked end to_end);
      rdl_value = ap (first_of (codes "rdl")) (values asked end to_end);
      header_value = ap (first_of (codes "header")) (values asked end to_end);
      top_value = ap (first_of (codes "top")) (values asked end to_end);
      history_value = ap (first_of (codes "history")) (values asked end to_end);
      session_value = ap (first_of (codes "session")) (values asked end to_end);
      edited_value = ap (first_of (codes "edited")) (values asked end to_end);
      strict_value = ap (first_of (codes "strict")) (values asked end to_end);
      quiet_value = ap (first_of (codes "quiet")) (values asked end to_end);
    }
