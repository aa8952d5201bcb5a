-- What an identifier is to the grammar.
-- SystemRDL 2.0, keywords and reserved words; the list is own, and `r` and `w` are names too.
use Rattle.std.specs.Prelude.{ℕ, Bool, true, false, ◌||◌, if◌then◌else◌, List, codes, bytes_eq}
use Rattle.rdl_tree.specs.declared.shell.Kind.TheVariants.{Addrmap, Regfile, Reg, Field}
use Rattle.rdl_tree.specs.declared.shell.Outside.TheVariants.{External, Internal}
use Rattle.rdl_tree.specs.declared.value.Word.TheVariants as value
use Rattle.rdl_parse.specs.declared.class.ReservedProperty.TheVariants as properties
use Rattle.rdl_parse.specs.declared.class.Class.{Class}
use Rattle.rdl_parse.specs.declared.class.Class.TheVariants.{Kind, Outside, Default, Truth, Property, Word, Reserved, Name}

-- the reserved words that have no use in this profile
unfoldable pub is_unused : List ℕ → Bool
is_unused n =
    bytes_eq n (codes "mem") || bytes_eq n (codes "signal") || bytes_eq n (codes "enum") || bytes_eq n (codes "struct")
    || bytes_eq n (codes "constraint") || bytes_eq n (codes "property") || bytes_eq n (codes "alias")
    || bytes_eq n (codes "abstract") || bytes_eq n (codes "encode")

-- every reserved word; any other identifier is a name
unfoldable pub class : List ℕ → Class
class n =
    if bytes_eq n (codes "addrmap") then Kind Addrmap
    else if bytes_eq n (codes "regfile") then Kind Regfile
    else if bytes_eq n (codes "reg") then Kind Reg
    else if bytes_eq n (codes "field") then Kind Field
    else if bytes_eq n (codes "external") then Outside External
    else if bytes_eq n (codes "internal") then Outside Internal
    else if bytes_eq n (codes "default") then Default
    else if bytes_eq n (codes "true") then Truth true
    else if bytes_eq n (codes "false") then Truth false
    else if bytes_eq n (codes "sw") then Property properties.Sw
    else if bytes_eq n (codes "hw") then Property properties.Hw
    else if bytes_eq n (codes "rclr") then Property properties.Rclr
    else if bytes_eq n (codes "rset") then Property properties.Rset
    else if bytes_eq n (codes "woset") then Property properties.Woset
    else if bytes_eq n (codes "woclr") then Property properties.Woclr
    else if bytes_eq n (codes "rw") then Word value.Rw
    else if bytes_eq n (codes "wr") then Word value.Wr
    else if bytes_eq n (codes "rw1") then Word value.Rw1
    else if bytes_eq n (codes "w1") then Word value.W1
    else if bytes_eq n (codes "na") then Word value.Na
    else if bytes_eq n (codes "ruser") then Word value.Ruser
    else if bytes_eq n (codes "wot") then Word value.Wot
    else if bytes_eq n (codes "wzs") then Word value.Wzs
    else if bytes_eq n (codes "wzc") then Word value.Wzc
    else if bytes_eq n (codes "wzt") then Word value.Wzt
    else if bytes_eq n (codes "wclr") then Word value.Wclr
    else if bytes_eq n (codes "wset") then Word value.Wset
    else if bytes_eq n (codes "wuser") then Word value.Wuser
    else if bytes_eq n (codes "compact") then Word value.Compact
    else if bytes_eq n (codes "regalign") then Word value.Regalign
    else if bytes_eq n (codes "fullalign") then Word value.Fullalign
    else if is_unused n then Reserved
    else Name
