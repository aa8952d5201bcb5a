-- Blanks in front of bytes and at their end, and bytes that stand in a text.
use Rattle.std.proofs.Common.{◌≡◌, ℕ, suc, ◌+◌, ◌-◌, ◌<◌, ◌≤◌, length, true, List, [], ◌∷◌, ◌++◌, take, drop, get_or, ap, sym, ◌∙◌, arith, IsTrue, subst, drop-cons}
use Rattle.std.proofs.lemmas.List.{take_more, take-append-drop, drop_all, drop-drop}
use Rattle.std.proofs.lemmas.Slice.Eq.{bytes_eq-Decides}
use Rattle.std.specs.Prelude.{bytes_eq, slice_range}
use Rattle.rdl_text.specs.Words.{is_blank}
use Rattle.rdl_weave.specs.Standing.{AreBlanks, Comes, Trims, Occurs}

blanks_more : (s : List ℕ) (c : ℕ) → AreBlanks s → IsTrue (is_blank c) → AreBlanks (s ++ (c ∷ []))
blanks_more [] c a h = (h, tt)
blanks_more (x ∷ s) c a h = (a.0, blanks_more s c a.1 h)

along : (s t : List ℕ) → s ≡ t → AreBlanks t → AreBlanks s
along s t e a = subst AreBlanks (sym e) a

-- one more blank in front
pub front_more : (s : List ℕ) (i : ℕ) → i < length s → AreBlanks (take i s) → IsTrue (is_blank (get_or s i 0)) → AreBlanks (take (i + 1) s)
front_more s i h a b = along (take (i + 1) s) (take i s ++ (get_or s i 0 ∷ [])) (take_more s i 0 h) (blanks_more (take i s) (get_or s i 0) a b)

-- none at the end yet
pub back_none : (s : List ℕ) → AreBlanks (drop (length s) s)
back_none s = along (drop (length s) s) [] (drop_all (length s) s (omega arith)) tt

-- one more blank at the end
pub back_more : (s : List ℕ) (e i : ℕ) → e ≡ i + 1 → e ≤ length s → AreBlanks (drop e s) → IsTrue (is_blank (get_or s i 0)) → AreBlanks (drop i s)
back_more s e i f h a b =
    let there : i < length s = omega arith in
    let next : suc i ≡ e = omega arith in
    let step : drop i s ≡ get_or s i 0 ∷ drop e s = drop-cons s i 0 there ∙ ap (λ (k : ℕ). get_or s i 0 ∷ drop k s) next in
    along (drop i s) (get_or s i 0 ∷ drop e s) step (b, a)

-- bytes that are read at a place of the text stand in it
pub occurs_at : (bytes text : List ℕ) (at end : ℕ) → bytes_eq (slice_range text at end) bytes ≡ true → Occurs bytes text
occurs_at bytes text at end h =
    let same : slice_range text at end ≡ bytes = (bytes_eq-Decides (slice_range text at end) bytes).0 h in
    let tail : List ℕ = drop (end - at) (drop at text) in
    let split : drop at text ≡ bytes ++ tail = sym (take-append-drop (end - at) (drop at text)) ∙ ap (λ (b : List ℕ). b ++ tail) same in
    record { before = take at text; behind = tail; parts = sym (take-append-drop at text) ∙ ap (λ (b : List ℕ). take at text ++ b) split }

-- bytes that are read at a place of the text, not before another, come there
pub comes_at : (bytes text : List ℕ) (at begin end : ℕ) → at ≤ begin → begin ≤ end → bytes_eq (slice_range text begin end) bytes ≡ true → Comes bytes (drop at text) (drop end text)
comes_at bytes text at begin end later forward h =
    let same : slice_range text begin end ≡ bytes = (bytes_eq-Decides (slice_range text begin end) bytes).0 h in
    let behind : drop (end - begin) (drop begin text) ≡ drop end text = drop-drop (end - begin) begin text ∙ ap (λ (n : ℕ). drop n text) (omega arith) in
    let there : drop begin text ≡ bytes ++ drop end text =
    sym (take-append-drop (end - begin) (drop begin text)) ∙ (ap (λ (b : List ℕ). b ++ drop (end - begin) (drop begin text)) same ∙ ap (λ (r : List ℕ). bytes ++ r) behind) in
    let from : drop (begin - at) (drop at text) ≡ drop begin text = drop-drop (begin - at) at text ∙ ap (λ (n : ℕ). drop n text) (omega arith) in
    record {
      before = take (begin - at) (drop at text);
      parts = sym (take-append-drop (begin - at) (drop at text)) ∙ ap (λ (r : List ℕ). take (begin - at) (drop at text) ++ r) (from ∙ there);
    }

-- bytes between blanks
pub trims_by : (whole bytes rest core : List ℕ) (front end : ℕ) → bytes ≡ whole → AreBlanks (take front bytes) → rest ≡ drop front bytes → AreBlanks (drop end rest) → core ≡ take end rest → Trims whole core
trims_by whole bytes rest core front end p a q b r =
    let inner : rest ≡ core ++ drop end rest = sym (take-append-drop end rest) ∙ ap (λ (c : List ℕ). c ++ drop end rest) (sym r) in
    let all : bytes ≡ take front bytes ++ (core ++ drop end rest) = sym (take-append-drop front bytes) ∙ ap (λ (c : List ℕ). take front bytes ++ c) (sym q ∙ inner) in
    record { front = take front bytes; back = drop end rest; blank_front = a; blank_back = b; parts = sym p ∙ all }
