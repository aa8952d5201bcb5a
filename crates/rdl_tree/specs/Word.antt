-- How a text spells each word that stands for a value.
-- SystemRDL 2.0: field access properties and software access properties (clause 9), addressing modes (clause 13).
use Rattle.std.specs.Prelude.{ℕ, List, codes}
use Rattle.rdl_tree.specs.declared.value.Word.{Word}
use Rattle.rdl_tree.specs.declared.value.Word.TheVariants.{R, W, Rw, Wr, Rw1, W1, Na, Rclr, Rset, Ruser, Woset, Woclr, Wot, Wzs, Wzc, Wzt, Wclr, Wset, Wuser, Compact, Regalign, Fullalign}

abbrev pub word_text : Word → List ℕ
word_text R = codes "r"
word_text W = codes "w"
word_text Rw = codes "rw"
word_text Wr = codes "wr"
word_text Rw1 = codes "rw1"
word_text W1 = codes "w1"
word_text Na = codes "na"
word_text Rclr = codes "rclr"
word_text Rset = codes "rset"
word_text Ruser = codes "ruser"
word_text Woset = codes "woset"
word_text Woclr = codes "woclr"
word_text Wot = codes "wot"
word_text Wzs = codes "wzs"
word_text Wzc = codes "wzc"
word_text Wzt = codes "wzt"
word_text Wclr = codes "wclr"
word_text Wset = codes "wset"
word_text Wuser = codes "wuser"
word_text Compact = codes "compact"
word_text Regalign = codes "regalign"
word_text Fullalign = codes "fullalign"
