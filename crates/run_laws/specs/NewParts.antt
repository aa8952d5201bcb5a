-- What an edit brings into a map: items, names, numbers and values of its own.
-- own: SystemRDL 2.0 has no edits.
use Rattle.rdl_text.specs.Name.{IsName}
use Rattle.rdl_rewrite.specs.declared.edit.Edit.{Edit}
use Rattle.rdl_rewrite.specs.declared.edit.Edit.TheVariants.{Add, Rename, Resize, SetBits, SetAddress, SetStride, SetAlign, SetReset, SetOwn, SetDefault, Assign}
use Rattle.rdl_round.specs.OfWords.{AreNumbers, IsPart, IsRange, AreNames, IsValue, IsOfWords}
use Rattle.rdl_round.specs.Spellable.{IsSpellable}

-- its added items are made of words, its own names are identifiers, its numbers have the bits of a number, and its strings
-- can stand between quotes
abbrev pub IsEditOfWords : Edit → Type 0
IsEditOfWords (Add path place new) = IsOfWords new
IsEditOfWords (Rename path name) = IsName name
IsEditOfWords (Resize path new) = AreNumbers new
IsEditOfWords (SetBits path new) = IsRange new
IsEditOfWords (SetAddress path new) = IsPart new
IsEditOfWords (SetStride path new) = IsPart new
IsEditOfWords (SetAlign path new) = IsPart new
IsEditOfWords (SetReset path new) = IsPart new
IsEditOfWords (SetOwn path property value) = IsName property × IsValue value
IsEditOfWords (SetDefault path property value) = IsName property × IsValue value
IsEditOfWords (Assign path target property value) = AreNames target × IsName property × IsValue value
IsEditOfWords e = Unit {0}

-- a text can spell its added items; nothing is asked of the other edits
abbrev pub IsEditSpellable : Edit → Type 0
IsEditSpellable (Add path place new) = IsSpellable new
IsEditSpellable e = Unit {0}

-- what it brings is made of words, and a text can spell the items that it adds
abbrev pub BringsWords : Edit → Type 0
BringsWords e = IsEditOfWords e × IsEditSpellable e
