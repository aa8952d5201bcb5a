-- Escaped texts: what a character becomes, that each byte shows, and that no two texts become one.
use Rattle.std.proofs.Common.{◌≡◌, ◌≢◌, ◌⊎◌, inl, inr, ℕ, zero, suc, ◌+◌, ◌-◌, ◌*◌, ◌/◌, ◌%◌, ◌<◌, ◌≤◌, Bool, true, false, List, [], ◌∷◌, ◌++◌, drop, refl, sym, ap, ◌∙◌, subst, append_assoc, append-nil, cond, if◌then◌else◌, arith}
use Rattle.std.specs.Prelude.{◌==◌, ltb, codes, encode_utf8, All}
use Rattle.std.specs.Char.{is_ascii_control}
use Rattle.std.specs.Fmt.{digits}
use Rattle.std.proofs.lemmas.Bool.Decides.{Decides-eqb, nat_tests}
use Rattle.std.proofs.lemmas.Grind.{flat_map-append}
use Rattle.std.proofs.lemmas.List.Elements.{All-cons, All-nil, All-append}
use Rattle.std.proofs.lemmas.Str.{encode_ascii}
use lib.Utf8.{encode, encodes as encode_utf8_all}
use Rattle.rdl_diff.specs.Escaped.{shown, escaped, IsShown}

-- ---- What holds of each.

unfoldable pub Each : (ℕ → Type 0) → List ℕ → Type 0
Each P [] = Unit {0}
Each P (x ∷ xs) = P x × Each P xs

all-each : (P : ℕ → Type 0) (xs : List ℕ) → Each P xs → All P xs
unfolding Each
all-each P [] h = All-nil P
all-each P (x ∷ xs) h = All-cons P x xs h.0 (all-each P xs h.1)

-- ---- The digits of a number below 16.

upto : ℕ → List ℕ
upto zero = []
upto (suc n) = n ∷ upto n

next : (n m : ℕ) → n < suc m → (n ≡ m) ⊎ (n < m)
next n m l = grind arith

each-below : (P : ℕ → Type 0) (m n : ℕ) → Each P (upto m) → n < m → P n
unfolding upto Each
each-below P zero n all l = absurd (omega arith)
each-below P (suc m) n all l = by (next n m l) (each-below P m n all.1)
  where
    by : (n ≡ m) ⊎ (n < m) → (n < m → P n) → P n
    by (inl e) rest = subst P (sym e) all.0
    by (inr k) rest = rest k

digit : ℕ → ℕ
digit n = if ltb n 10 then 48 + n else 55 + n

value : ℕ → ℕ
value d = if ltb d 58 then d - 48 else d - 55

record IsDigit (n : ℕ) : Type 0 where
  alone : digits 16 true n ≡ digit n ∷ []
  back : value (digit n) ≡ n
  shown : IsShown (digit n)

is-digit : (n : ℕ) → n < 16 → IsDigit n
unfolding upto digit value Each digits
is-digit n l = each-below IsDigit 16 n all l
  where
    one : (n : ℕ) → digits 16 true n ≡ digit n ∷ [] → value (digit n) ≡ n → IsShown (digit n) → IsDigit n
    one n a b s = record { alone = a; back = b; shown = s }

    all : Each IsDigit (upto 16)
    all = (
      one 15 refl refl refl,
      (
        one 14 refl refl refl,
        (
          one 13 refl refl refl,
          (
            one 12 refl refl refl,
            (
              one 11 refl refl refl,
              (
                one 10 refl refl refl,
                (
                  one 9 refl refl refl,
                  (
                    one 8 refl refl refl,
                    (one 7 refl refl refl, (one 6 refl refl refl, (one 5 refl refl refl, (one 4 refl refl refl, (one 3 refl refl refl, (one 2 refl refl refl, (one 1 refl refl refl, (one 0 refl refl refl, tt)))))))),
                  ),
                ),
              ),
            ),
          ),
        ),
      ),
    )

-- ---- What a byte becomes, and how it is read back.

control-low : (b : ℕ) → is_ascii_control b ≡ true → b < 128
control-low b e = grind (arith, nat_tests)

hex_pair : ℕ → List ℕ
hex_pair b = digit (b / 16) ∷ digit (b % 16) ∷ []

digits-of : (b : ℕ) → b < 128 → digits 16 true (b / 16) ++ digits 16 true (b % 16) ≡ hex_pair b
unfolding hex_pair
digits-of b l =
    let h : b / 16 < 16 = omega arith in
    let k : b % 16 < 16 = omega arith in
    (λ i. (is-digit (b / 16) h).alone i ++ (is-digit (b % 16) k).alone i)

first_hex : List ℕ → ℕ
first_hex [] = 0
first_hex (d ∷ []) = 0
first_hex (d ∷ e ∷ r) = 16 * value d + value e

hex-back : (b : ℕ) (x : List ℕ) → b < 128 → first_hex (hex_pair b ++ x) ≡ b
unfolding first_hex hex_pair
hex-back b x l =
    let h : b / 16 < 16 = omega arith in
    let k : b % 16 < 16 = omega arith in
    let high = (is-digit (b / 16) h).back in
    let low = (is-digit (b % 16) k).back in
    omega (arith, high, low)

first_escaped : List ℕ → ℕ
first_escaped [] = 0
first_escaped (l ∷ r) = if l == 110 then 10 else if l == 116 then 9 else if l == 120 then first_hex r else l

first : List ℕ → ℕ
first [] = 0
first (c ∷ r) = if c == 92 then first_escaped r else c

rest_escaped : List ℕ → List ℕ
rest_escaped [] = []
rest_escaped (l ∷ r) = if l == 120 then drop 2 r else r

rest : List ℕ → List ℕ
rest [] = []
rest (c ∷ r) = if c == 92 then rest_escaped r else r

abbrev chosen : (t1 t2 t3 t4 t5 : Bool) → ℕ → List ℕ → List ℕ
chosen t1 t2 t3 t4 t5 c own =
    if t1 then codes "\\n"
    else if t2 then codes "\\t"
    else if t3 then codes "\\\""
    else if t4 then codes "\\\\"
    else if t5 then codes "\\x" ++ digits 16 true (c / 16) ++ digits 16 true (c % 16)
    else own

-- what holds of each form holds of what stands for a byte or a character
each-form : (P : ℕ → List ℕ → Type 0) → P 10 (codes "\\n") → P 9 (codes "\\t") → P 34 (codes "\\\"") → P 92 (codes "\\\\")
    → ((b : ℕ) → b < 128 → P b (codes "\\x" ++ hex_pair b)) → (c : ℕ) (own : List ℕ) → (c ≢ 92 → is_ascii_control c ≡ false → P c own)
    → P c (shown c own)
unfolding shown
each-form P feed tab quote slash hex c own plain = by (c == 10) (c == 9) (c == 34) (c == 92) (is_ascii_control c) refl refl refl refl refl
  where
    by : (t1 t2 t3 t4 t5 : Bool) → (c == 10) ≡ t1 → (c == 9) ≡ t2 → (c == 34) ≡ t3 → (c == 92) ≡ t4 → is_ascii_control c ≡ t5 → P c (chosen t1 t2 t3 t4 t5 c own)
    by true t2 t3 t4 t5 e f g h k = let is : c ≡ 10 = (Decides-eqb c 10).0 e in subst (λ n. P n (codes "\\n")) (sym is) feed
    by false true t3 t4 t5 e f g h k = let is : c ≡ 9 = (Decides-eqb c 9).0 f in subst (λ n. P n (codes "\\t")) (sym is) tab
    by false false true t4 t5 e f g h k = let is : c ≡ 34 = (Decides-eqb c 34).0 g in subst (λ n. P n (codes "\\\"")) (sym is) quote
    by false false false true t5 e f g h k = let is : c ≡ 92 = (Decides-eqb c 92).0 h in subst (λ n. P n (codes "\\\\")) (sym is) slash
    by false false false false true e f g h k =
        let low : c < 128 = control-low c k in
        let same : codes "\\x" ++ hex_pair c ≡ codes "\\x" ++ digits 16 true (c / 16) ++ digits 16 true (c % 16) = ap (λ ds. codes "\\x" ++ ds) (sym (digits-of c low)) in
        subst (P c) same (hex c low)
    by false false false false false e f g h k = plain (λ is. let no : true ≡ false = sym ((Decides-eqb c 92).1 is) ∙ h in cc) k

-- a text that begins with this is read as this byte, and what stands behind
record IsRead (x : List ℕ) (b : ℕ) (text : List ℕ) : Type 0 where
  byte : first (text ++ x) ≡ b
  others : rest (text ++ x) ≡ x

read : (x : List ℕ) (b : ℕ) → IsRead x b (shown b (b ∷ []))
unfolding first rest first_escaped rest_escaped hex_pair
read x b = each-form (IsRead x) (done 10 (codes "\\n") refl refl) (done 9 (codes "\\t") refl refl) (done 34 (codes "\\\"") refl refl) (done 92 (codes "\\\\") refl refl)
    (λ b l. done b (codes "\\x" ++ hex_pair b) (hex-back b x l) refl) b (b ∷ []) plain
  where
    done : (b : ℕ) (text : List ℕ) → first (text ++ x) ≡ b → rest (text ++ x) ≡ x → IsRead x b text
    done b text e f = record { byte = e; others = f }

    plain : b ≢ 92 → is_ascii_control b ≡ false → IsRead x b (b ∷ [])
    plain not k = by (b == 92) refl
      where
        by : (t : Bool) → (b == 92) ≡ t → IsRead x b (b ∷ [])
        by true e = absurd (not ((Decides-eqb b 92).0 e))
        by false e = done b (b ∷ []) (ap (λ (t : Bool). if t then first_escaped x else b) e) (ap (λ (t : Bool). if t then rest_escaped x else x) e)

-- ---- The laws.

shown-byte : (b : ℕ) → Each IsShown (shown b (b ∷ []))
unfolding hex_pair Each
shown-byte b = each-form (λ n text. Each IsShown text) (refl, (refl, tt)) (refl, (refl, tt)) (refl, (refl, tt)) (refl, (refl, tt)) hex b (b ∷ []) (λ not k. (k, tt))
  where
    hex : (b : ℕ) → b < 128 → Each IsShown (codes "\\x" ++ hex_pair b)
    hex b l =
        let h : b / 16 < 16 = omega arith in
        let k : b % 16 < 16 = omega arith in
        (refl, (refl, ((is-digit (b / 16) h).shown, ((is-digit (b % 16) k).shown, tt))))

pub escaped-shown : (text : List ℕ) → All IsShown (escaped text)
escaped-shown [] = All-nil IsShown
escaped-shown (b ∷ bs) = All-append IsShown (shown b (b ∷ [])) (escaped bs) (all-each IsShown (shown b (b ∷ [])) (shown-byte b)) (escaped-shown bs)

escaped-longer : (b : ℕ) (bs : List ℕ) → escaped (b ∷ bs) ≡ [] → ⊥
escaped-longer b bs e = each-form (λ n text. text ++ escaped bs ≡ [] → ⊥) (λ e. cc) (λ e. cc) (λ e. cc) (λ e. cc) (λ b l e. cc) b (b ∷ []) (λ not k e. cc) e

pub escaped-differ : (a b : List ℕ) → escaped a ≡ escaped b → a ≡ b
escaped-differ [] [] e = refl
escaped-differ [] (y ∷ b) e = absurd (escaped-longer y b (sym e))
escaped-differ (x ∷ a) [] e = absurd (escaped-longer x a e)
escaped-differ (x ∷ a) (y ∷ b) e =
    let one = read (escaped a) x in
    let two = read (escaped b) y in
    let same : x ≡ y = sym one.byte ∙ ap first e ∙ two.byte in
    let others : escaped a ≡ escaped b = sym one.others ∙ ap rest e ∙ two.others in
    (λ i. same i ∷ escaped-differ a b others i)

-- ---- Characters.

high-form : (c : ℕ) (own : List ℕ) → 128 ≤ c → shown c own ≡ own
high-form c own high = each-form (λ n text. 128 ≤ n → text ≡ own) (λ h. absurd (omega arith)) (λ h. absurd (omega arith)) (λ h. absurd (omega arith)) (λ h. absurd (omega arith))
    (λ b l h. absurd (omega arith)) c own (λ not k h. refl) high

high-text : (bs : List ℕ) → Each (λ b. 128 ≤ b) bs → escaped bs ≡ bs
unfolding Each
high-text [] h = refl
high-text (b ∷ bs) h = (λ i. high-form b (b ∷ []) h.0 i ++ high-text bs h.1 i)

pub high-bytes : (c : ℕ) → 128 ≤ c → Each (λ b. 128 ≤ b) (encode c)
unfolding encode Each
high-bytes c h = by (ltb c 128) refl (ltb c 2048) (ltb c 65536)
  where
    by : (t1 : Bool) → ltb c 128 ≡ t1 → (t2 t3 : Bool) → Each (λ b. 128 ≤ b) (cond t1 (c ∷ []) (cond t2 ((192 + c / 64) ∷ (128 + c % 64) ∷ []) (cond t3 ((224 + c / 4096) ∷ (128 + c / 64 % 64) ∷ (128 + c % 64) ∷ []) ((240 + c / 262144) ∷ (128 + c / 4096 % 64) ∷ (128 + c / 64 % 64) ∷ (128 + c % 64) ∷ []))))
    by true e t2 t3 = (h, tt)
    by false e true t3 = (omega arith, (omega arith, tt))
    by false e false true = (omega arith, (omega arith, (omega arith, tt)))
    by false e false false = (omega arith, (omega arith, (omega arith, (omega arith, tt))))

pub shown-char : (c : ℕ) → shown c (encode_utf8 c) ≡ escaped (encode_utf8 c)
shown-char c = by (low-or-high c)
  where
    low-or-high : (c : ℕ) → (c < 128) ⊎ (128 ≤ c)
    low-or-high c = grind arith

    by : (c < 128) ⊎ (128 ≤ c) → shown c (encode_utf8 c) ≡ escaped (encode_utf8 c)
    by (inl low) = ap (shown c) (encode_ascii c low) ∙ sym (append-nil (shown c (c ∷ []))) ∙ ap escaped (sym (encode_ascii c low))
    by (inr high) = high-form c (encode_utf8 c) high ∙ sym (high-text (encode_utf8 c) (high-bytes c high))

-- one character more
pub shown-more : (cs : List ℕ) (c : ℕ) → escaped (encode_utf8_all (cs ++ c ∷ [])) ≡ escaped (encode_utf8_all cs) ++ shown c (encode_utf8 c)
shown-more [] c = ap escaped (append-nil (encode_utf8 c)) ∙ sym (shown-char c)
shown-more (x ∷ cs) c =
    flat_map-append one (encode_utf8 x) (encode_utf8_all (cs ++ c ∷ []))
    ∙ ap (λ ys. escaped (encode_utf8 x) ++ ys) (shown-more cs c)
    ∙ sym (append_assoc (escaped (encode_utf8 x)) (escaped (encode_utf8_all cs)) (shown c (encode_utf8 c)))
    ∙ ap (λ ys. ys ++ shown c (encode_utf8 c)) (sym (flat_map-append one (encode_utf8 x) (encode_utf8_all cs)))
  where
    one : ℕ → List ℕ
    one b = shown b (b ∷ [])

pub pushed : (old mid new cs : List ℕ) (c : ℕ) → mid ≡ old ++ escaped (encode_utf8_all cs) → new ≡ mid ++ shown c (encode_utf8 c) → new ≡ old ++ escaped (encode_utf8_all (cs ++ c ∷ []))
pushed old mid new cs c e f =
    f ∙ ap (λ t. t ++ shown c (encode_utf8 c)) e ∙ append_assoc old (escaped (encode_utf8_all cs)) (shown c (encode_utf8 c)) ∙ ap (λ t. old ++ t) (sym (shown-more cs c))
