-- A script of which some lines were served.
use Rattle.std.proofs.Common.{◌≡◌, ℕ, ◌+◌, Bool, true, false, List, [], ◌∷◌, ◌++◌, length, Option, Some, None, refl, sym, ap, ◌∙◌, subst, arith, append_assoc, append-nil, length-append}
use Rattle.std.specs.Prelude.{◌||◌}
use Rattle.std.specs.List.{list_any}
use Rattle.std.specs.Io.KnownBytes.{Appends}
use Rattle.std.proofs.KnownBytes.{Appends-trans}
use Rattle.rdl_run.specs.Faulted.{StopsServing}
use Rattle.rdl_run.specs.Known.{concat, AppendsFront}
use Rattle.rdl_script.specs.Commands.{lines_of, lines_left, command_of}
use Rattle.rdl_run.specs.Messages.{reply_text}
use Rattle.rdl_run.specs.Answers.{History', Answers, Run, Replied, Serves, is_refused, messages_from}
use Rattle.rdl_run.specs.Replies.{Said}
use Rattle.rdl_run.specs.Turns.{HasTaken}
use Rattle.rdl_run.specs.Waiting.{Says}
use Rattle.rdl_run.specs.Writers.{ServesAll}
use Rattle.rdl_run.specs.declared.counted.Counts.{Counts}
use Rattle.rdl_run.specs.declared.status.RunFault.TheVariants.{Memory, Write}
use Rattle.rdl_run.proofs.Tallied.{taken-none, taken-both}
use Rattle.rdl_run.proofs.Written.{concat-append, AppendsFront-after}

pub Run-more : (a b c : History') (ls : List (List ℕ)) (rs : List Said) (l : List ℕ) (r : Said) → Run a ls rs b → Answers b (command_of l) r c → Run a (ls ++ l ∷ []) (rs ++ r ∷ []) c
Run-more a b c [] [] l r h s = (c, subst (λ h'. Answers h' (command_of l) r c) h s, refl)
Run-more a b c (x ∷ ls) (y ∷ rs) l r h s = (h.0, h.1, Run-more h.0 b c ls rs l r h.2 s)
Run-more a b c [] (y ∷ rs) l r h s = absurd h
Run-more a b c (x ∷ ls) [] l r h s = absurd h

messages-more : (n : ℕ) (rs : List Said) (r : Said) → messages_from n (rs ++ r ∷ []) ≡ messages_from n rs ++ reply_text (n + length rs) r ∷ []
messages-more n [] r = ap (λ m. reply_text m r ∷ []) (let e : n ≡ n + 0 = omega arith in e)
messages-more n (x ∷ rs) r =
    ap (λ (ms : List (List ℕ)). reply_text n x ∷ ms) (messages-more (n + 1) rs r
    ∙ ap (λ m. messages_from (n + 1) rs ++ reply_text m r ∷ []) (let e : n + 1 + length rs ≡ n + length (x ∷ rs) = omega arith in e))

or_assoc : (a b c : Bool) → (a || (b || c)) ≡ ((a || b) || c)
or_assoc true b c = refl
or_assoc false b c = refl

or_false : (a : Bool) → (a || false) ≡ a
or_false true = refl
or_false false = refl

any-more : (rs : List Said) (r : Said) → list_any is_refused (rs ++ r ∷ []) ≡ (list_any is_refused rs || is_refused r)
any-more [] r = or_false (is_refused r)
any-more (x ∷ rs) r = ap (λ b. is_refused x || b) (any-more rs r) ∙ or_assoc (is_refused x) (list_any is_refused rs) (is_refused r)

-- the lines that were served, of whose messages some wait, and the lines that are left
pub record SoFar (old : History') (script : List ℕ) (left : Option (List ℕ)) (number : ℕ) (before after : Option (List ℕ)) (counted counts : Counts) (waiting : List ℕ) (refuses : Bool) (new : History') : Type 0 where
  pub done : List (List ℕ)
  pub text : List ℕ
  pub written : List ℕ
  pub served : Serves old done text refuses new
  pub lines : lines_of script ≡ done ++ lines_left left
  pub count : number ≡ length served.replies
  pub parts : text ≡ written ++ waiting
  pub wrote : Appends before after written
  pub took : HasTaken counted counts (length written)

pub nothing_yet : (old : History') (script : List ℕ) (before : Option (List ℕ)) (counted : Counts) → Appends before before [] → SoFar old script (Some script) 0 before before counted counted [] false old
nothing_yet old script before counted h = record {
  done = [];
  text = [];
  written = [];
  served = record { replies = []; ran = refl; text_is = refl; refuses_is = refl };
  lines = refl;
  count = refl;
  parts = refl;
  wrote = h;
  took = taken-none counted;
}

-- the lines that were served, and one more
record OneMore (old : History') (lines : List (List ℕ)) (text : List ℕ) (number : ℕ) (refuses : Bool) (new : History') : Type 0 where
  serves : Serves old lines text refuses new
  count : number ≡ length serves.replies

serves_more : (old mid new : History') (lines : List (List ℕ)) (line before text : List ℕ) (number : ℕ) (refuses refuses' : Bool)
    → (h : Serves old lines before refuses mid) → number ≡ length h.replies → Replied mid line (number + 1) text refuses' new
    → OneMore old (lines ++ line ∷ []) (before ++ text) (number + 1) (refuses || refuses') new
serves_more old mid new lines line before text number refuses refuses' h count said =
    let rs = h.replies in
    let messages : concat (messages_from 1 (rs ++ said.reply ∷ [])) ≡ before ++ text =
    ap concat (messages-more 1 rs said.reply) ∙ concat-append (messages_from 1 rs) (reply_text (1 + length rs) said.reply ∷ [])
    ∙ ap (λ (t : List ℕ). concat (messages_from 1 rs) ++ t) (append-nil (reply_text (1 + length rs) said.reply))
    ∙ ap (λ (t : List ℕ). t ++ reply_text (1 + length rs) said.reply) (sym h.text_is)
    ∙ ap (λ n. before ++ reply_text n said.reply) (let e : 1 + length rs ≡ number + 1 = omega (arith, count) in e)
    ∙ ap (λ (t : List ℕ). before ++ t) (sym said.text_is) in
    record {
      serves = record {
        replies = rs ++ said.reply ∷ [];
        ran = Run-more old mid new lines rs line said.reply h.ran said.answers;
        text_is = sym messages;
        refuses_is = ap (λ x. x || refuses') h.refuses_is ∙ ap (λ x. list_any is_refused rs || x) said.refuses_is ∙ sym (any-more rs said.reply);
      };
      count = omega (arith, count, length-append rs (said.reply ∷ []));
    }

module _ (old mid new : History') (script bytes line text : List ℕ) (left : Option (List ℕ)) (number : ℕ) (a b c : Option (List ℕ)) (x y z : Counts) (waiting waits : List ℕ) (refuses refuses' : Bool)
    (h : SoFar old script (Some bytes) number a b x y waiting refuses mid) (cut : lines_of bytes ≡ line ∷ lines_left left) (said : Replied mid line (number + 1) text refuses' new) where
  lines-cut : lines_of script ≡ (h.done ++ line ∷ []) ++ lines_left left
  lines-cut = h.lines ∙ ap (λ (ls : List (List ℕ)). h.done ++ ls) cut ∙ sym (append_assoc h.done (line ∷ []) (lines_left left))

  -- what was written, what waited, and this message
  with-message : h.text ++ text ≡ h.written ++ (waiting ++ text)
  with-message = ap (λ (t : List ℕ). t ++ text) h.parts ∙ append_assoc h.written waiting text

  pub one_more : Says b c y z waiting text waits → SoFar old script left (number + 1) a c x z waits (refuses || refuses') new
  one_more says =
      let more = serves_more old mid new h.done line h.text text number refuses refuses' h.served h.count said in
      record {
        done = h.done ++ line ∷ [];
        text = h.text ++ text;
        written = h.written ++ says.written;
        served = more.serves;
        lines = lines-cut;
        count = more.count;
        parts = with-message ∙ ap (λ (t : List ℕ). h.written ++ t) says.parts ∙ sym (append_assoc h.written says.written waits);
        wrote = Appends-trans a b c h.written says.written h.wrote says.wrote;
        took = taken-both x y z h.written says.written h.took says.took;
      }

  -- the message of this line wasn't written whole, or one that waited
  pub stopped_writing : AppendsFront b c (waiting ++ text) → StopsServing old (lines_of script) a c Write
  stopped_writing wrote =
      let more = serves_more old mid new h.done line h.text text number refuses refuses' h.served h.count said in
      record {
        served = h.done ++ line ∷ [];
        rest = lines_left left;
        parts = lines-cut;
        text = h.text ++ text;
        refuses = refuses || refuses';
        last = new;
        serves = more.serves;
        wrote = subst (AppendsFront a c) (ap (λ (t : List ℕ). h.written ++ t) (append-nil (waiting ++ text)) ∙ sym with-message)
            (AppendsFront-after a b c h.written (waiting ++ text) [] h.wrote wrote);
      }

-- what waits is written
module _ (old new : History') (script : List ℕ) (left : Option (List ℕ)) (number : ℕ) (a b c : Option (List ℕ)) (x y z : Counts) (waiting : List ℕ) (refuses : Bool)
    (h : SoFar old script left number a b x y waiting refuses new) where
  all-written : Appends b c waiting → Appends a c h.text
  all-written wrote = subst (Appends a c) (sym h.parts) (Appends-trans a b c h.written waiting h.wrote wrote)

  -- and nothing is left
  pub served_all : left ≡ None → Appends b c waiting → HasTaken y z (length waiting) → ServesAll old new (lines_of script) a c x z refuses
  served_all none wrote took =
      let lines : lines_of script ≡ h.done = h.lines ∙ ap (λ (l : Option (List ℕ)). h.done ++ lines_left l) none ∙ append-nil h.done in (
        h.text,
        subst (λ (ls : List (List ℕ)). Serves old ls h.text refuses new) (sym lines) h.served,
        all-written wrote,
        subst (λ (t : List ℕ). HasTaken x z (length t)) (sym h.parts) (taken-both x y z h.written waiting h.took took),
      )

  -- memory is wanting for the next line
  pub stopped_for_memory : Appends b c waiting → StopsServing old (lines_of script) a c Memory
  stopped_for_memory wrote = record {
    served = h.done;
    rest = lines_left left;
    parts = h.lines;
    text = h.text;
    refuses = refuses;
    last = new;
    serves = h.served;
    wrote = all-written wrote;
  }

  -- what waits isn't written whole
  pub stopped_at_waiting : AppendsFront b c waiting → StopsServing old (lines_of script) a c Write
  stopped_at_waiting wrote = record {
    served = h.done;
    rest = lines_left left;
    parts = h.lines;
    text = h.text;
    refuses = refuses;
    last = new;
    serves = h.served;
    wrote = subst (AppendsFront a c) (ap (λ (t : List ℕ). h.written ++ t) (append-nil waiting) ∙ sym h.parts)
        (AppendsFront-after a b c h.written waiting [] h.wrote wrote);
  }
