-- Texts that are written in blocks.
use Rattle.std.proofs.Common.{◌≡◌, ◌≢◌, ◌⊎◌, inl, inr, ℕ, ◌<◌, Bool, List, [], ◌∷◌, ◌++◌, flat_map, length, take, Option, refl, sym, ap, ◌∙◌, subst, append_assoc, append-nil, arith}
use Rattle.std.specs.Io.KnownBytes.{Appends}
use Rattle.std.proofs.KnownBytes.{Appends-nil, Appends-trans}
use Rattle.std.proofs.Math.Seq.{take-append_seam}
use Rattle.std.proofs.lemmas.List.Concat.{flat_map-append}
use Rattle.rdl_diff.specs.Endings.{status_of}
use Rattle.rdl_diff.specs.Left.{Passes, left}
use Rattle.rdl_diff.specs.declared.diff.Differences.{Differences}
use Rattle.rdl_diff.specs.declared.status.Status.{Status}
use Rattle.rdl_diff.specs.declared.status.Status.TheVariants.{Same, Different}
use Rattle.rdl_run.specs.Comparing.{WritesLines}
use Rattle.rdl_run.specs.Known.{AppendsFront, AppendsSome, concat}
use Rattle.rdl_run.proofs.Written.{AppendsFront-after}

-- ---- Texts.

abbrev told : (texts : List (List ℕ)) → List ℕ
told ts = flat_map (λ t. t) ts

concat-texts : (ts : List (List ℕ)) → concat ts ≡ told ts
concat-texts [] = refl
concat-texts (t ∷ ts) = ap (λ u. t ++ u) (concat-texts ts)

-- the first of some are written
some : (a b : Option (List ℕ)) (first later : List (List ℕ)) → Appends a b (told first) → AppendsSome a b (first ++ later)
some a b first later w =
    (length first, subst (Appends a b) (sym (ap concat (take-append_seam first later) ∙ concat-texts first)) w)

-- ---- How far it is.

-- texts that are written, and texts that wait
pub record Waits (all : List (List ℕ)) (now : Differences) (before after : Option (List ℕ)) (text : List ℕ) (status : Status) : Type 0 where
  pub passed : List (List ℕ)
  pub waiting : List (List ℕ)
  pub parts : all ≡ (passed ++ waiting) ++ left now
  pub wrote : Appends before after (told passed)
  pub waits : text ≡ told waiting
  pub answer : status ≡ status_of (told passed)

pub nothing_yet : (d : Differences) (a : Option (List ℕ)) → Waits (left d) d a a [] Same
nothing_yet d a = record { passed = []; waiting = []; parts = refl; wrote = Appends-nil a; waits = refl; answer = refl }

-- one text more waits
pub one_more : (all : List (List ℕ)) (before after : Differences) (a b : Option (List ℕ)) (text more : List ℕ) (status : Status) → Waits all before a b text status → Passes before after text more → Waits all after a b more status
one_more all before after a b text more status w p = record {
  passed = w.passed;
  waiting = w.waiting ++ p.passed;
  parts = w.parts ∙ ap (λ ls. (w.passed ++ w.waiting) ++ ls) p.next ∙ sym (append_assoc (w.passed ++ w.waiting) p.passed (left after)) ∙ ap (λ ls. ls ++ left after) (append_assoc w.passed w.waiting p.passed);
  wrote = w.wrote;
  waits = p.said ∙ ap (λ t. t ++ told p.passed) w.waits ∙ sym (flat_map-append (λ t. t) w.waiting p.passed);
  answer = w.answer;
}

different : (front text : List ℕ) → 0 < length text → status_of (front ++ text) ≡ Different
different [] [] h = absurd (omega arith)
different [] (b ∷ text) h = refl
different (b ∷ front) text h = refl

both-told : (w v : List (List ℕ)) (a b c : Option (List ℕ)) (text : List ℕ) → Appends a b (told w) → text ≡ told v → Appends b c text → Appends a c (told (w ++ v))
both-told w v a b c text h is k =
    subst (Appends a c) (sym (flat_map-append (λ t. t) w v)) (Appends-trans a b c (told w) (told v) h (subst (Appends b c) is k))

-- what waits is written
pub block_written : (all : List (List ℕ)) (now : Differences) (a b c : Option (List ℕ)) (text : List ℕ) (status : Status) → Waits all now a b text status → 0 < length text → Appends b c text → Waits all now a c [] Different
block_written all now a b c text status w long k = record {
  passed = w.passed ++ w.waiting;
  waiting = [];
  parts = w.parts ∙ ap (λ ls. ls ++ left now) (sym (append-nil (w.passed ++ w.waiting)));
  wrote = both-told w.passed w.waiting a b c text w.wrote w.waits k;
  waits = refl;
  answer = sym (ap status_of (flat_map-append (λ t. t) w.passed w.waiting ∙ ap (λ t. told w.passed ++ t) (sym w.waits)) ∙ different (told w.passed) text long);
}

-- ---- How it ends.

whole : (all : List (List ℕ)) (now : Differences) (a b : Option (List ℕ)) (text : List ℕ) (status : Status) (w : Waits all now a b text status) → left now ≡ [] → told all ≡ told w.passed ++ text
whole all now a b text status w none =
    ap told (w.parts ∙ ap (λ ls. (w.passed ++ w.waiting) ++ ls) none ∙ append-nil (w.passed ++ w.waiting))
    ∙ flat_map-append (λ t. t) w.passed w.waiting
    ∙ ap (λ t. told w.passed ++ t) (sym w.waits)

pub last_written : (all : List (List ℕ)) (now : Differences) (a b c : Option (List ℕ)) (text : List ℕ) (status : Status) → Waits all now a b text status → left now ≡ [] → Appends b c text → 0 < length text → WritesLines all a c Different
last_written all now a b c text status w none k long =
    let e = whole all now a b text status w none in
    record {
      wrote = subst (Appends a c) (sym e) (Appends-trans a b c (told w.passed) text w.wrote k);
      answer = sym (ap status_of e ∙ different (told w.passed) text long);
    }

pub none_written : (all : List (List ℕ)) (now : Differences) (a b c : Option (List ℕ)) (text : List ℕ) (status : Status) → Waits all now a b text status → left now ≡ [] → Appends b c text → text ≡ [] → WritesLines all a c status
none_written all now a b c text status w none k is =
    let e = whole all now a b text status w none in
    record {
      wrote = subst (Appends a c) (sym e) (Appends-trans a b c (told w.passed) text w.wrote k);
      answer = w.answer ∙ ap status_of (sym (append-nil (told w.passed)) ∙ ap (λ t. told w.passed ++ t) (sym is) ∙ sym e);
    }

-- no memory
pub stopped_between : (all : List (List ℕ)) (now : Differences) (a b : Option (List ℕ)) (text : List ℕ) (status : Status) → Waits all now a b text status → AppendsSome a b all
stopped_between all now a b text status w =
    subst (λ ls. AppendsSome a b ls) (sym (w.parts ∙ append_assoc w.passed w.waiting (left now))) (some a b w.passed (w.waiting ++ left now) w.wrote)

-- a write that failed
pub front_written : (all : List (List ℕ)) (now : Differences) (a b c : Option (List ℕ)) (text : List ℕ) (status : Status) → Waits all now a b text status → AppendsFront b c text → AppendsFront a c (told all)
front_written all now a b c text status w f =
    let e : told all ≡ told w.passed ++ (text ++ told (left now)) =
    ap told (w.parts ∙ append_assoc w.passed w.waiting (left now))
    ∙ flat_map-append (λ t. t) w.passed (w.waiting ++ left now)
    ∙ ap (λ t. told w.passed ++ t) (flat_map-append (λ t. t) w.waiting (left now) ∙ ap (λ t. t ++ told (left now)) (sym w.waits)) in
    subst (AppendsFront a c) (sym e) (AppendsFront-after a b c (told w.passed) text (told (left now)) w.wrote f)
