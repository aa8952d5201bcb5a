-- Code spans, a character at a time.
use Rattle.std.proofs.Common.{◌≡◌, ◌⊎◌, inl, inr, ℕ, ◌<◌, ◌≤◌, Bool, true, false, List, [], ◌∷◌, ◌++◌, refl, sym, ap, ◌∙◌, append_assoc, append-nil, if◌then◌else◌, arith}
use Rattle.std.specs.Prelude.{◌==◌, codes, encode_utf8}
use Rattle.std.proofs.lemmas.Bool.Decides.{Decides-eqb}
use Rattle.std.proofs.lemmas.Grind.{flat_map-append}
use Rattle.std.proofs.lemmas.Str.{encode_ascii}
use lib.Utf8.{encodes as encode_utf8_all}
use Rattle.rdl_diff.specs.Markdown.{in_span, spanned}
use Rattle.rdl_diff.proofs.Escapes.{Each, high-bytes}

span-high : (c : ℕ) (own : List ℕ) → 128 ≤ c → in_span c own ≡ own
unfolding in_span
span-high c own h = by (c == 124) (c == 96) refl refl
  where
    by : (t1 t2 : Bool) → (c == 124) ≡ t1 → (c == 96) ≡ t2 → (if t1 then codes "\\|" else if t2 then codes "\\x60" else own) ≡ own
    by true t2 e f = let is : c ≡ 124 = (Decides-eqb c 124).0 e in absurd (omega (arith, is, h))
    by false true e f = let is : c ≡ 96 = (Decides-eqb c 96).0 f in absurd (omega (arith, is, h))
    by false false e f = refl

text-high : (bs : List ℕ) → Each (λ b. 128 ≤ b) bs → spanned bs ≡ bs
unfolding Each
text-high [] h = refl
text-high (b ∷ bs) h = (λ i. span-high b (b ∷ []) h.0 i ++ text-high bs h.1 i)

of-char : (c : ℕ) → in_span c (encode_utf8 c) ≡ spanned (encode_utf8 c)
of-char c = by (low-or-high c)
  where
    low-or-high : (c : ℕ) → (c < 128) ⊎ (128 ≤ c)
    low-or-high c = grind arith

    by : (c < 128) ⊎ (128 ≤ c) → in_span c (encode_utf8 c) ≡ spanned (encode_utf8 c)
    by (inl low) = ap (in_span c) (encode_ascii c low) ∙ sym (append-nil (in_span c (c ∷ []))) ∙ ap spanned (sym (encode_ascii c low))
    by (inr high) = span-high c (encode_utf8 c) high ∙ sym (text-high (encode_utf8 c) (high-bytes c high))

-- one character more
spanned-more : (cs : List ℕ) (c : ℕ) → spanned (encode_utf8_all (cs ++ c ∷ [])) ≡ spanned (encode_utf8_all cs) ++ in_span c (encode_utf8 c)
spanned-more [] c = ap spanned (append-nil (encode_utf8 c)) ∙ sym (of-char c)
spanned-more (x ∷ cs) c =
    flat_map-append one (encode_utf8 x) (encode_utf8_all (cs ++ c ∷ []))
    ∙ ap (λ ys. spanned (encode_utf8 x) ++ ys) (spanned-more cs c)
    ∙ sym (append_assoc (spanned (encode_utf8 x)) (spanned (encode_utf8_all cs)) (in_span c (encode_utf8 c)))
    ∙ ap (λ ys. ys ++ in_span c (encode_utf8 c)) (sym (flat_map-append one (encode_utf8 x) (encode_utf8_all cs)))
  where
    one : ℕ → List ℕ
    one b = in_span b (b ∷ [])

pub pushed : (old mid new cs : List ℕ) (c : ℕ) → mid ≡ old ++ spanned (encode_utf8_all cs) → new ≡ mid ++ in_span c (encode_utf8 c) → new ≡ old ++ spanned (encode_utf8_all (cs ++ c ∷ []))
pushed old mid new cs c e f =
    f ∙ ap (λ t. t ++ in_span c (encode_utf8 c)) e ∙ append_assoc old (spanned (encode_utf8_all cs)) (in_span c (encode_utf8 c)) ∙ ap (λ t. old ++ t) (sym (spanned-more cs c))
