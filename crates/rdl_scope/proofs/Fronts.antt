-- Maps by name that keep the front of each name beside it: what a change at one name leaves at any.
use Rattle.std.proofs.Common.{◌≡◌, ℕ, refl, sym, ap, ◌∙◌, subst, Bool, true, false, ◌&&◌, List, Option, cond, ⊎_elim}
use Rattle.std.specs.declared.cmp.Ordering.{Ordering}
use Rattle.std.specs.Ordering.{nat_cmp, ordering_then, is_eq, eq_by_cmp}
use Rattle.std.specs.Cmp.{IsTotalOrder, IsEquivalence, eq_by_cmp_equiv, then_total, on_total, tied_then, nat_cmp_total}
use Rattle.std.specs.Cmp.Lexicographic.{slice_cmp, bytes_decides, nat_list_cmp_total}
use Rattle.std.specs.Str.{bytes_eq}
use Rattle.std.specs.BTreeMap as tree
use Rattle.std.specs.BTreeMap.{BTreeMap, is_at}
use Rattle.std.specs.Map.{lookup, IsKeyTest, AreApart, KeepsOthers}
use Rattle.std.proofs.lemmas.Bool.{cases_Bool, cond-true, cond-false}
use Rattle.std.proofs.lemmas.Map.Text.{is_eq-slice_cmp}
use denote.Ref.{Bor}
use Rattle.rdl_scope.specs.Front.{front, name_cmp}

-- the key that the code keeps
abbrev Key : Type 0
Key = ℕ × Bor (List ℕ)

-- keys by what they show
abbrev Shown : Type 0
Shown = ℕ × List ℕ

abbrev shown_cmp : Shown → Shown → Ordering
shown_cmp x y = ordering_then (nat_cmp x.0 y.0) (slice_cmp nat_cmp x.1 y.1)

abbrev key_cmp : Key → Key → Ordering
key_cmp x y = ordering_then (nat_cmp x.0 y.0) (slice_cmp nat_cmp x.1.now y.1.now)

shown_total : IsTotalOrder shown_cmp
shown_total = then_total (on_total (λ t. t.0) nat_cmp_total) (on_total (λ t. t.1) nat_list_cmp_total)

shown_equiv : IsEquivalence (eq_by_cmp shown_cmp)
shown_equiv = eq_by_cmp_equiv shown_total

and-false : (b : Bool) → b && false ≡ false
and-false true = refl
and-false false = refl

names_apart : (bs cs : List ℕ) → bytes_eq bs cs ≡ false → eq_by_cmp shown_cmp (front bs, bs) (front cs, cs) ≡ false
names_apart bs cs n =
    sym (tied_then (nat_cmp (front bs) (front cs)) (slice_cmp nat_cmp bs cs))
    ∙ ap (λ z. is_eq (nat_cmp (front bs) (front cs)) && z) (is_eq-slice_cmp bs cs ∙ n)
    ∙ and-false (is_eq (nat_cmp (front bs) (front cs)))

apart : (bs cs : List ℕ) → bytes_eq bs cs ≡ false → (k : Shown) → eq_by_cmp shown_cmp (front bs, bs) k ≡ true → eq_by_cmp shown_cmp (front cs, cs) k ≡ false
apart bs cs n k y = shown_equiv.symm (front cs, cs) k ∙ sym (shown_equiv.congr (front bs, bs) k (front cs, cs) y) ∙ names_apart bs cs n

other_entries : {K X : Type 0} (eq : K → K → Bool) (test : K → Bool) (old new : List (K × X)) → KeepsOthers eq test old new → (other : K → Bool) → IsKeyTest eq other → AreApart test other → lookup other new ≡ lookup other old
unfolding KeepsOthers
other_entries eq test old new h = h

-- a key made of a name is compared as the name
compared : (k : Key) (bs : List ℕ) → k.0 ≡ front bs → k.1.now ≡ bs → key_cmp k ≡ name_cmp bs
compared k bs e f = λ i y. ordering_then (nat_cmp (e i) y.0) (slice_cmp nat_cmp (f i) y.1.now)

module _ {X : Type 0} (m n : BTreeMap Key X) where
  updated : (bs : List ℕ) (w : Option X) → tree.UpdatesBy key_cmp (name_cmp bs) m n w → (cs : List ℕ)
      → tree.get_by (name_cmp cs) n ≡ cond (bytes_eq bs cs) w (tree.get_by (name_cmp cs) m)
  updated bs w h cs =
      ⊎_elim
      (λ y. subst (λ l. tree.get_by (name_cmp l) n ≡ w) ((bytes_decides bs cs).0 y) h.1 ∙ sym (cond-true (bytes_eq bs cs) w (tree.get_by (name_cmp cs) m) y))
      (λ a. other_entries _ _ _ _ h.3 (is_at (name_cmp cs)) (λ x y. shown_equiv.congr (front cs, cs) (x.0, x.1.now) (y.0, y.1.now)) (λ k. apart bs cs a (k.0, k.1.now))
      ∙ sym (cond-false (bytes_eq bs cs) w (tree.get_by (name_cmp cs) m) a))
      (cases_Bool (bytes_eq bs cs))

  -- what stands at the key of a name stands under the name
  pub name_gets : (bs : List ℕ) (k : Key) → k.0 ≡ front bs → k.1.now ≡ bs → tree.get_by (λ y. ordering_then (nat_cmp k.0 y.0) (slice_cmp nat_cmp k.1.now y.1.now)) m ≡ tree.get_by (name_cmp bs) m
  name_gets bs k e f = ap (λ c. tree.get_by c m) (compared k bs e f)

  -- after a change at the key of a name, each name finds what it found before, or, where it is this name, what was put
  pub name_updates : (bs : List ℕ) (k : Key) (w : Option X) → k.0 ≡ front bs → k.1.now ≡ bs → tree.UpdatesBy (λ x y. ordering_then (nat_cmp x.0 y.0) (slice_cmp nat_cmp x.1.now y.1.now)) (λ y. ordering_then (nat_cmp k.0 y.0) (slice_cmp nat_cmp k.1.now y.1.now)) m n w → (cs : List ℕ)
      → tree.get_by (name_cmp cs) n ≡ cond (bytes_eq bs cs) w (tree.get_by (name_cmp cs) m)
  name_updates bs k w e f h = updated bs w (subst (λ c. tree.UpdatesBy key_cmp c m n w) (compared k bs e f) h)
