-- Reading a line byte by byte: what may come next, without the tree.
use Rattle.std.specs.Prelude.{ℕ, ◌+◌, ◌-◌, Bool, true, false, not, ◌&&◌, ◌||◌, List, [], ◌∷◌, ◌++◌, length, take, nat_le, nat_lt, ◌==◌, if◌then◌else◌, Option, Some, None}
use Rattle.std.specs.List.{list_any}
use Rattle.std.specs.Str.{bytes_eq}
use Rattle.line_syntax.specs.Syntax.{Word, is_among, is_digit, is_letter, is_symbol, number_of, Token, name, number, symbol}
use Rattle.line_syntax.specs.Grammar.{is_blank}
use Rattle.line_reader.specs.declared.place.Place.{Place}
use Rattle.line_reader.specs.declared.place.Place.TheVariants.{LineStart, NameWanted, NameSeen, ExprStart, AtomWanted, AtomSeen, ExponentWanted, DivisorWanted, TermSeen}

-- where reading stands between two tokens: how many groups are open, whether names were declared, and the names so far
pub record Situation : Type 0 where
  pub place : Place
  pub depth : ℕ
  pub declared : Bool
  pub names : List Word

-- the situation with these parts
abbrev pub situation : Place → ℕ → Bool → List Word → Situation
situation p d b ns = record { place = p; depth = d; declared = b; names = ns }

-- nothing was read yet
abbrev pub line_start : Situation
line_start = situation LineStart 0 false []

-- after `(`, where fewer than 64 groups are open
abbrev pub group_opened : ℕ → ℕ → Option (Place × ℕ)
group_opened d c = if (c == 40) && nat_lt d 64 then Some (ExprStart, d + 1) else None

-- after a symbol that may begin an expression: a sign or `(`
abbrev pub after_opening : ℕ → ℕ → Option (Place × ℕ)
after_opening d c = if (c == 43) || (c == 45) then Some (AtomWanted, d) else group_opened d c

-- after `)`, where some group is open
abbrev pub group_closed : ℕ → ℕ → Option (Place × ℕ)
group_closed d c = if (c == 41) && nat_lt 0 d then Some (AtomSeen, d - 1) else None

-- after a symbol that may follow a term: an operator, a sign or `)`
abbrev pub after_term : ℕ → ℕ → Option (Place × ℕ)
after_term d c =
    if c == 42 then Some (AtomWanted, d) else
    (if c == 47 then Some (DivisorWanted, d) else
    (if (c == 43) || (c == 45) then Some (AtomWanted, d) else group_closed d c))

-- after a symbol that may follow a declared name: `,`, where fewer than eight are declared, or `]`
abbrev pub after_name : ℕ → ℕ → ℕ → Option (Place × ℕ)
after_name count d c =
    if (c == 44) && nat_lt count 8 then Some (NameWanted, d) else
    (if c == 93 then Some (ExprStart, d) else None)

-- the place and the number of open groups after a symbol
abbrev pub after_symbol : Place → ℕ → ℕ → ℕ → Option (Place × ℕ)
after_symbol LineStart count d c = if c == 91 then Some (NameWanted, d) else after_opening d c
after_symbol ExprStart count d c = after_opening d c
after_symbol AtomWanted count d c = group_opened d c
after_symbol AtomSeen count d c = if c == 94 then Some (ExponentWanted, d) else after_term d c
after_symbol TermSeen count d c = after_term d c
after_symbol NameSeen count d c = after_name count d c
after_symbol NameWanted count d c = None
after_symbol ExponentWanted count d c = None
after_symbol DivisorWanted count d c = None

-- the place after a number, which is positive or 0
abbrev pub after_number : Place → Bool → Option Place
after_number LineStart positive = Some AtomSeen
after_number ExprStart positive = Some AtomSeen
after_number AtomWanted positive = Some AtomSeen
after_number ExponentWanted positive = Some TermSeen
after_number DivisorWanted positive = if positive then Some TermSeen else None
after_number AtomSeen positive = None
after_number TermSeen positive = None
after_number NameSeen positive = None
after_number NameWanted positive = None

-- whether an atom may stand here
abbrev pub wants_atom : Place → Bool
wants_atom LineStart = true
wants_atom ExprStart = true
wants_atom AtomWanted = true
wants_atom AtomSeen = false
wants_atom TermSeen = false
wants_atom NameSeen = false
wants_atom NameWanted = false
wants_atom ExponentWanted = false
wants_atom DivisorWanted = false

-- whether a name of the declaration may stand here
abbrev pub wants_name : Place → Bool
wants_name NameWanted = true
wants_name LineStart = false
wants_name ExprStart = false
wants_name AtomWanted = false
wants_name AtomSeen = false
wants_name TermSeen = false
wants_name NameSeen = false
wants_name ExponentWanted = false
wants_name DivisorWanted = false

-- whether one more name may come in the expression
abbrev pub has_room : Situation → Bool
has_room s = not s.declared && nat_lt (length s.names) 8

-- the situation at another place
abbrev pub moved : Situation → Place → Situation
moved s p = situation p s.depth s.declared s.names

-- the situation at another place, with one more name
abbrev pub with_name : Situation → Place → Word → Situation
with_name s p x = situation p s.depth s.declared (s.names ++ x ∷ [])

-- after a name of the declaration, which has to be new
abbrev pub declared_name : Situation → Word → Option Situation
declared_name s x = if is_among s.names x then None else Some (with_name s NameSeen x)

-- after a name of the expression, which is known or finds room
abbrev pub used_name : Situation → Word → Option Situation
used_name s x = if is_among s.names x then Some (moved s AtomSeen) else (if has_room s then Some (with_name s AtomSeen x) else None)

-- the situation after a name, if it may stand here
abbrev pub on_name : Situation → Word → Option Situation
on_name s x = if wants_name s.place then declared_name s x else (if wants_atom s.place then used_name s x else None)

-- the situation at a place, if there is one
abbrev pub moved_to : Situation → Option Place → Option Situation
moved_to s None = None
moved_to s (Some p) = Some (moved s p)

-- the situation after a number, if it may stand here
abbrev pub on_number : Situation → Word → Option Situation
on_number s d = moved_to s (after_number s.place (nat_lt 0 (number_of d)))

-- the situation at a place and a number of open groups, if they are there; a wanted name begins a declaration
abbrev pub turned : Situation → Option (Place × ℕ) → Option Situation
turned s None = None
turned s (Some q) = Some (situation q.0 q.1 (s.declared || wants_name q.0) s.names)

-- the situation after a symbol, if it may stand here
abbrev pub on_symbol : Situation → ℕ → Option Situation
on_symbol s c = turned s (after_symbol s.place (length s.names) s.depth c)

-- the situation after a token, if it may stand here
abbrev pub on_token : Situation → Token → Option Situation
on_token s (name x) = on_name s x
on_token s (number d) = on_number s d
on_token s (symbol c) = on_symbol s c

-- the situation after tokens, if each may stand where it does
abbrev pub on_tokens : Option Situation → List Token → Option Situation
on_tokens o [] = o
on_tokens None (t ∷ ts) = None
on_tokens (Some s) (t ∷ ts) = on_tokens (on_token s t) ts

-- the reader: the situation before the word that is being read, and that word, which is empty between words
pub record Reader : Type 0 where
  pub at : Situation
  pub word : Word

-- the reader with these parts
abbrev pub reader : Situation → Word → Reader
reader s w = record { at = s; word = w }

-- the token that a word is
abbrev pub word_token : ℕ → Word → Token
word_token c w = if is_letter c then name (c ∷ w) else number (c ∷ w)

-- the situation after the word, if it may end here
abbrev pub finished : Situation → Word → Option Situation
finished s [] = Some s
finished s (c ∷ w) = if is_letter c then on_name s (c ∷ w) else on_number s (c ∷ w)

-- x begins with w
abbrev pub begins_with : Word → Word → Bool
begins_with w x = nat_le (length w) (length x) && bytes_eq (take (length w) x) w

-- whether the front w of a name can become a name that may stand here
abbrev pub can_become_name : Situation → Word → Bool
can_become_name s w =
    if wants_name s.place then nat_lt (length w) 4 || not (is_among s.names w) else
    (wants_atom s.place && (has_room s || list_any (begins_with w) s.names))

-- whether a number may stand here
abbrev pub wants_number : Place → Bool
wants_number LineStart = true
wants_number ExprStart = true
wants_number AtomWanted = true
wants_number ExponentWanted = true
wants_number DivisorWanted = true
wants_number AtomSeen = false
wants_number TermSeen = false
wants_number NameSeen = false
wants_number NameWanted = false

-- whether the front w of a word can become a word that may stand here
abbrev pub can_become : Situation → Word → Bool
can_become s [] = true
can_become s (c ∷ w) = if is_letter c then can_become_name s (c ∷ w) else wants_number s.place

-- whether the byte c belongs to the word: a digit, and after a letter at most the third
abbrev pub goes_on : Word → ℕ → Bool
goes_on [] c = false
goes_on (f ∷ w) c = is_digit c && (not (is_letter f) || nat_lt (length w) 3)

-- the reader with a longer word, if that can still become one that may stand here
abbrev pub grown : Situation → Word → Option Reader
grown s w = if can_become s w then Some (reader s w) else None

-- the reader between two words
abbrev pub between : Option Situation → Option Reader
between None = None
between (Some s) = Some (reader s [])

-- the byte c, where no word is being read
abbrev pub begun : Situation → ℕ → Option Reader
begun s c =
    if is_blank c then Some (reader s []) else
    (if is_digit c || is_letter c then grown s (c ∷ []) else (if is_symbol c then between (on_symbol s c) else None))

-- the byte c after a word that has ended
abbrev pub begun_after : Option Situation → ℕ → Option Reader
begun_after None c = None
begun_after (Some s) c = begun s c

-- the reader after the byte c, if some line of the grammar goes on so
abbrev pub take_byte : Reader → ℕ → Option Reader
take_byte r c = if goes_on r.word c then grown r.at (r.word ++ c ∷ []) else begun_after (finished r.at r.word) c

-- the reader after these bytes
abbrev pub run : Option Reader → List ℕ → Option Reader
run o [] = o
run None (c ∷ cs) = None
run (Some r) (c ∷ cs) = run (take_byte r c) cs

-- whether an expression may end here
abbrev pub is_whole_place : Place → Bool
is_whole_place AtomSeen = true
is_whole_place TermSeen = true
is_whole_place LineStart = false
is_whole_place ExprStart = false
is_whole_place AtomWanted = false
is_whole_place NameSeen = false
is_whole_place NameWanted = false
is_whole_place ExponentWanted = false
is_whole_place DivisorWanted = false

-- whether the tokens so far are a line
abbrev pub is_whole : Situation → Bool
is_whole s = is_whole_place s.place && ((s.depth == 0) && nat_lt 0 (length s.names))

-- whether the tokens are a line, if they may stand so
abbrev pub is_whole_after : Option Situation → Bool
is_whole_after None = false
is_whole_after (Some s) = is_whole s

-- whether the bytes so far are a line
abbrev pub accepts : Reader → Bool
accepts r = is_whole_after (finished r.at r.word)
