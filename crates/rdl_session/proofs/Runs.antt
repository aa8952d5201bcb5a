-- Lists of patches and of steps that are read one after another.
use Rattle.std.proofs.Common.{◌≡◌, ℕ, suc, ◌+◌, ◌-◌, ◌<◌, List, [], ◌∷◌, ◌++◌, Option, None, Some, refl, ap, sym, ◌∙◌, append_assoc, arith}
use Rattle.std.proofs.lemmas.List.{append-nil}
use Rattle.std.specs.Prelude.{map, option_map}
use Rattle.rdl_session.specs.Reading.{many}

-- what is read, behind these
abbrev pub behind : {A : Type 0} → List A → Option (List A × List ℕ) → Option (List A × List ℕ)
behind done left = option_map (λ q. (done ++ q.0, q.1)) left

behind-none : {A : Type 0} (left : Option (List A × List ℕ)) → left ≡ behind [] left
behind-none None = refl
behind-none (Some q) = refl

behind-more : {A : Type 0} (done : List A) (y : A) (left : Option (List A × List ℕ)) → behind (done ++ y ∷ []) left ≡ behind done (option_map (λ q. (y ∷ q.0, q.1)) left)
behind-more done y None = refl
behind-more done y (Some q) = ap (λ ys. Some (ys, q.1)) (append_assoc done (y ∷ []) q.0)

map-push : {A B : Type 0} (f : A → B) (xs : List A) (x : A) → map f (xs ++ x ∷ []) ≡ map f xs ++ f x ∷ []
map-push f [] x = refl
map-push f (y ∷ ys) x = ap (λ zs. f y ∷ zs) (map-push f ys x)

pub run-on : {X A : Type 0} (view : X → A) (one : List ℕ → Option (A × List ℕ)) (xs ys : List X) (n i : ℕ) (x : X) (text rest : List ℕ) (all : Option (List A × List ℕ))
    → i < n → one text ≡ Some (view x, rest) → ys ≡ xs ++ x ∷ [] → behind (map view xs) (many one (n - i) text) ≡ all → behind (map view ys) (many one (n - (i + 1)) rest) ≡ all
run-on view one xs ys n i x text rest all within read push told =
    let left : n - i ≡ suc (n - (i + 1)) = omega arith in
    let now = rw (left, read) at told in
    ap (λ zs. behind (map view zs) (many one (n - (i + 1)) rest)) push
    ∙ ap (λ zs. behind zs (many one (n - (i + 1)) rest)) (map-push view xs x)
    ∙ behind-more (map view xs) (view x) (many one (n - (i + 1)) rest) ∙ now

pub run-stop : {A : Type 0} (one : List ℕ → Option (A × List ℕ)) (done : List A) (n i : ℕ) (text : List ℕ) (all : Option (List A × List ℕ))
    → i < n → one text ≡ None → behind done (many one (n - i) text) ≡ all → None ≡ all
run-stop one done n i text all within read told =
    let left : n - i ≡ suc (n - (i + 1)) = omega arith in
    rw (left, read) at told

pub run-end : {A : Type 0} (one : List ℕ → Option (A × List ℕ)) (done : List A) (n i : ℕ) (text : List ℕ) (all : Option (List A × List ℕ))
    → n ≡ i → behind done (many one (n - i) text) ≡ all → Some (done, text) ≡ all
run-end one done n i text all ends told =
    let left : n - i ≡ 0 = omega arith in
    let now = rw left at told in
    ap (λ ys. Some (ys, text)) (sym (append-nil done)) ∙ now

pub run-begin : {A : Type 0} (one : List ℕ → Option (A × List ℕ)) (n : ℕ) (text : List ℕ) (all : Option (List A × List ℕ)) → many one n text ≡ all → behind [] (many one (n - 0) text) ≡ all
run-begin one n text all e =
    let whole : n - 0 ≡ n = omega arith in
    ap (λ k. behind [] (many one k text)) whole ∙ sym (behind-none (many one n text)) ∙ e
