-- A text to which pieces are appended one after another.
use Rattle.std.proofs.Common.{◌≡◌, ℕ, List, ◌++◌, ap, ◌∙◌, append_assoc}

pub pieces_2 : (t0 t1 t2 a b : List ℕ) → t1 ≡ t0 ++ a → t2 ≡ t1 ++ b → t2 ≡ t0 ++ (a ++ b)
pieces_2 t0 t1 t2 a b p q = q ∙ ap (λ (t : List ℕ). t ++ b) p ∙ append_assoc t0 a b

pub pieces_3 : (t0 t1 t2 t3 a b c : List ℕ) → t1 ≡ t0 ++ a → t2 ≡ t1 ++ b → t3 ≡ t2 ++ c → t3 ≡ t0 ++ (a ++ b ++ c)
pieces_3 t0 t1 t2 t3 a b c p q r = pieces_2 t0 t2 t3 (a ++ b) c (pieces_2 t0 t1 t2 a b p q) r

pub pieces_4 : (t0 t1 t2 t3 t4 a b c d : List ℕ) → t1 ≡ t0 ++ a → t2 ≡ t1 ++ b → t3 ≡ t2 ++ c → t4 ≡ t3 ++ d → t4 ≡ t0 ++ (a ++ b ++ c ++ d)
pieces_4 t0 t1 t2 t3 t4 a b c d p q r s = pieces_2 t0 t3 t4 (a ++ b ++ c) d (pieces_3 t0 t1 t2 t3 a b c p q r) s

pub pieces_5 : (t0 t1 t2 t3 t4 t5 a b c d e : List ℕ) → t1 ≡ t0 ++ a → t2 ≡ t1 ++ b → t3 ≡ t2 ++ c → t4 ≡ t3 ++ d → t5 ≡ t4 ++ e → t5 ≡ t0 ++ (a ++ b ++ c ++ d ++ e)
pieces_5 t0 t1 t2 t3 t4 t5 a b c d e p q r s u = pieces_2 t0 t4 t5 (a ++ b ++ c ++ d) e (pieces_4 t0 t1 t2 t3 t4 a b c d p q r s) u
