-- The reserved words with what each is to the grammar, as a table, and those of one length.
-- SystemRDL 2.0, keywords and reserved words; the list is own.
use Rattle.std.specs.Prelude.{ℕ, true, false, nat_eq, if◌then◌else◌, List, [], ◌∷◌, length, map, codes, bytes_eq}
use denote.Ref.{Bor}
use Rattle.rdl_tree.specs.declared.shell.Kind.TheVariants.{Addrmap, Regfile, Reg, Field}
use Rattle.rdl_tree.specs.declared.shell.Outside.TheVariants.{External, Internal}
use Rattle.rdl_tree.specs.declared.value.Word.TheVariants as value
use Rattle.rdl_parse.specs.declared.class.ReservedProperty.TheVariants as properties
use Rattle.rdl_parse.specs.declared.class.Class.{Class}
use Rattle.rdl_parse.specs.declared.class.Class.TheVariants.{Kind, Outside, Default, Truth, Property, Word, Reserved, Name}

abbrev pub Table : Type 0
Table = List (List ℕ × Class)

-- those that have no use in this profile
abbrev pub unused : Table
unused =
    (codes "mem", Reserved) ∷ (codes "signal", Reserved) ∷ (codes "enum", Reserved) ∷ (codes "struct", Reserved)
    ∷ (codes "constraint", Reserved) ∷ (codes "property", Reserved) ∷ (codes "alias", Reserved)
    ∷ (codes "abstract", Reserved) ∷ (codes "encode", Reserved) ∷ []

abbrev pub reserved : Table
reserved =
    (codes "addrmap", Kind Addrmap) ∷ (codes "regfile", Kind Regfile) ∷ (codes "reg", Kind Reg) ∷ (codes "field", Kind Field)
    ∷ (codes "external", Outside External) ∷ (codes "internal", Outside Internal) ∷ (codes "default", Default)
    ∷ (codes "true", Truth true) ∷ (codes "false", Truth false)
    ∷ (codes "sw", Property properties.Sw) ∷ (codes "hw", Property properties.Hw) ∷ (codes "rclr", Property properties.Rclr)
    ∷ (codes "rset", Property properties.Rset) ∷ (codes "woset", Property properties.Woset) ∷ (codes "woclr", Property properties.Woclr)
    ∷ (codes "rw", Word value.Rw) ∷ (codes "wr", Word value.Wr) ∷ (codes "rw1", Word value.Rw1) ∷ (codes "w1", Word value.W1)
    ∷ (codes "na", Word value.Na) ∷ (codes "ruser", Word value.Ruser) ∷ (codes "wot", Word value.Wot) ∷ (codes "wzs", Word value.Wzs)
    ∷ (codes "wzc", Word value.Wzc) ∷ (codes "wzt", Word value.Wzt) ∷ (codes "wclr", Word value.Wclr) ∷ (codes "wset", Word value.Wset)
    ∷ (codes "wuser", Word value.Wuser) ∷ (codes "compact", Word value.Compact) ∷ (codes "regalign", Word value.Regalign)
    ∷ (codes "fullalign", Word value.Fullalign) ∷ unused

-- what an identifier is by a table; one that isn't in it is a name
abbrev pub look : List ℕ → Table → Class
look n [] = Name
look n (e ∷ es) = if bytes_eq n e.0 then e.1 else look n es

-- a table as the code holds it
abbrev pub table_of : List (Bor (List ℕ) × Class) → Table
table_of words = map (λ w. (w.0.now, w.1)) words

-- the words of so many letters
abbrev pub of_length : ℕ → Table → Table
of_length k [] = []
of_length k (e ∷ es) = if nat_eq k (length e.0) then e ∷ of_length k es else of_length k es

-- what an identifier is by the words of its length
unfoldable pub by_length : List ℕ → Class
by_length n =
    if nat_eq (length n) 2 then look n (of_length 2 reserved)
    else if nat_eq (length n) 3 then look n (of_length 3 reserved)
    else if nat_eq (length n) 4 then look n (of_length 4 reserved)
    else if nat_eq (length n) 5 then look n (of_length 5 reserved)
    else if nat_eq (length n) 6 then look n (of_length 6 reserved)
    else if nat_eq (length n) 7 then look n (of_length 7 reserved)
    else if nat_eq (length n) 8 then look n (of_length 8 reserved)
    else if nat_eq (length n) 9 then look n (of_length 9 reserved)
    else if nat_eq (length n) 10 then look n (of_length 10 reserved)
    else Name
