-- The words at the front of a report's lines.
use Rattle.std.specs.Prelude.{ℕ, List, codes}
use Rattle.cert_text.specs.declared.word.Word.{Word}
use Rattle.cert_text.specs.declared.word.Word.TheVariants as words

unfoldable pub word_text : Word → List ℕ
word_text words.Germ = codes "germ"
word_text words.Long = codes "long"
word_text words.TooLong = codes "answer too-long"
word_text words.Syntax = codes "answer syntax"
word_text words.Literal = codes "answer literal"
word_text words.NotCritical = codes "answer not-critical"
word_text words.Range = codes "answer range"
word_text words.Unbuilt = codes "answer unbuilt"
word_text words.Named = codes "answer named"
word_text words.Outside = codes "answer outside"
word_text words.Limit = codes "answer limit"
word_text words.Unresolved = codes "answer unresolved"
word_text words.Order = codes "order"
word_text words.Algebra = codes "algebra"
word_text words.Corank = codes "corank"
word_text words.Change = codes "change"
word_text words.Inverse = codes "inverse"
word_text words.Form = codes "form"
word_text words.Jet = codes "jet"
word_text words.Units = codes "units"
word_text words.Modulus = codes "modulus"
word_text words.Milnor = codes "milnor"
word_text words.Mather = codes "mather"
word_text words.Basis = codes "basis"
word_text words.Table = codes "table"
word_text words.Functional = codes "functional"
word_text words.End = codes "end"
