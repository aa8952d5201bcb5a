-- What of one text stands in another.
-- own: SystemRDL 2.0 knows no second text.
use Rattle.std.specs.Prelude.{◌≡◌, ℕ, List, [], ◌∷◌, ◌++◌, IsTrue, slice_range}
use Rattle.rdl_text.specs.Words.{is_blank}
use Rattle.rdl_source.specs.declared.span.Span.{Span}

abbrev pub AreBlanks : List ℕ → Type 0
AreBlanks [] = Unit {0}
AreBlanks (c ∷ s) = IsTrue (is_blank c) × AreBlanks s

-- the bytes, without some of the blanks in front and at the end
pub record Trims (bytes core : List ℕ) : Type 0 where
  pub front : List ℕ
  pub back : List ℕ
  pub blank_front : AreBlanks front
  pub blank_back : AreBlanks back
  pub parts : bytes ≡ front ++ (core ++ back)

-- the bytes stand in the text
pub record Occurs (bytes text : List ℕ) : Type 0 where
  pub before : List ℕ
  pub behind : List ℕ
  pub parts : text ≡ before ++ (bytes ++ behind)

-- the bytes stand in the text, and behind them is the rest
pub record Comes (bytes text rest : List ℕ) : Type 0 where
  pub before : List ℕ
  pub parts : text ≡ before ++ (bytes ++ rest)

-- what the source has in the span stands in the text, but for blanks in front and at the end
pub record Stands (source : List ℕ) (s : Span) (text : List ℕ) : Type 0 where
  pub core : List ℕ
  pub trims : Trims (slice_range source s.from s.to) core
  pub there : Occurs core text
