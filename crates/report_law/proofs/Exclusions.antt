-- Which refusals exclude each other, since bytes spell one line.
use Rattle.std.proofs.Common.{◌≡◌, ℕ, ◌+◌, ◌<◌, ◌≤◌, ◌⊎◌, inl, inr, true, List, [], ◌∷◌, ◌++◌, length, drop, IsTrue, sym, ap, ap₂, subst, ◌∙◌, refl, arith, leb-true, append_assoc}
use Rattle.std.specs.Prelude.{nat_le, get_or}
use Rattle.std.specs.List.{list_all}
use Rattle.std.proofs.lemmas.List.Folds.{list_all-append}
use Rattle.std.proofs.lemmas.List.{length-append}
use Rattle.std.proofs.Math.Seq.{drop-append_seam}
use Rattle.line_syntax.specs.Syntax.{Word, Line, Token, number, symbol, number_of, is_token, token_text, names_of, tokens_of}
use Rattle.line_syntax.specs.Grammar.{IsSpaced, Spells, IsSyntaxError, IsLiteralError, has_small_literals, is_small_token, literal_limit}
use Rattle.line_syntax.proofs.Bools.{and_left, and_right}
use Rattle.line_syntax.proofs.Lexing.{begins, same_after_blanks, token_begins}
use Rattle.line_syntax.proofs.OneLine.{one_line}
use Rattle.line_reader.proofs.Held.{spaced_append, one_spaced}
use Rattle.germ_law.specs.Germ.{IsCritical, IsFirstLinear}
use Rattle.poly_text.specs.declared.what.What.{What}
use Rattle.poly_text.specs.declared.name.Name.{Name}
use Rattle.line_germ.specs.Names.{name_of}
use Rattle.line_germ.specs.Reads.{IsSyntaxAt, IsLiteralAt, IsLinearIn}

-- the bytes spell a line with a number that is too large
pub record Spelled (line : List ℕ) : Type 0 where
  pub line_is : Line
  pub spells : Spells line line_is
  pub not_small : IsTrue (has_small_literals line_is) → ⊥

-- a list of tokens with a number that is too large is not small
not_all : (before after : List Token) (d : Word) → literal_limit < number_of d → list_all is_small_token (before ++ number d ∷ after) ≡ true → ⊥
not_all before after d above h =
    let both = sym (list_all-append is_small_token before (number d ∷ after)) ∙ h in
    let here : nat_le (number_of d) literal_limit ≡ true = and_left (is_small_token (number d)) (list_all is_small_token after) (and_right (list_all is_small_token before) (list_all is_small_token (number d ∷ after)) both) in
    let low : number_of d ≤ literal_limit = leb-true (number_of d) literal_limit here in
    omega arith

-- a line with a number that is too large is in the grammar
pub large_line : (line : List ℕ) (n : ℕ) → IsLiteralError line n → Spelled line
large_line line n e =
    let number_spaced = spaced_append (number e.digits ∷ []) e.after e.digits e.rest (one_spaced (number e.digits) e.digits refl) e.rest_spaced in
    let whole = spaced_append e.before (number e.digits ∷ e.after) e.front (e.digits ++ e.rest) e.front_spaced number_spaced in
    record {
      line_is = e.line;
      spells = record {
        is_line = e.is_line;
        spaced = subst (λ b. IsSpaced (tokens_of e.line) b) (sym (e.bytes_are ∙ append_assoc e.front e.digits e.rest)) (subst (λ ts. IsSpaced ts (e.front ++ (e.digits ++ e.rest))) (sym e.tokens) whole);
      };
      not_small = λ small. not_all e.before e.after e.digits e.large (ap (list_all is_small_token) (sym e.tokens) ∙ small);
    }

pub large_spelled : (line : List ℕ) (column : ℕ) → IsLiteralAt line column → Spelled line
large_spelled line column h = large_line line h.before h.error

-- a line without one has no such number
pub small_excludes : (line : List ℕ) (column : ℕ) (l : Line) → Spells line l → IsTrue (has_small_literals l) → IsLiteralAt line column → ⊥
small_excludes line column l spells small h =
    let s = large_spelled line column h in
    s.not_small (subst (λ m. IsTrue (has_small_literals m)) (one_line line l s.line_is spells s.spells) small)

-- a line of the grammar has no column where it stops being one
pub grammar_excludes : (line : List ℕ) (column : ℕ) (what : What) (l : Line) → Spells line l → IsSyntaxAt line column what → ⊥
grammar_excludes line column what l spells h = h.error.outside (l, spells)

-- a critical line has no linear coefficient
pub critical_excludes : (line : List ℕ) (l : Line) (v : Name) → IsCritical line l → IsLinearIn line v → ⊥
critical_excludes line l v critical h =
    let same : l ≡ h.linear.line = one_line line l h.linear.line critical.spells h.linear.spells in
    let there : IsCritical line h.linear.line = subst (IsCritical line) same critical in
    h.linear.first.linear (there.critical h.place h.linear.first.within)

-- the longest front is one
pub one_front : (line : List ℕ) (n m : ℕ) → IsSyntaxError line n → IsSyntaxError line m → n ≡ m
one_front line n m h k = elim (below_or line n m) [
  | inl below ↦ absurd (h.longest m below k.within k.viable)
  | inr (inl above) ↦ absurd (k.longest n above h.within h.viable)
  | inr (inr same) ↦ same
]
  where
    below_or : (line : List ℕ) (n m : ℕ) → (n < m) ⊎ ((m < n) ⊎ (n ≡ m))
    below_or line n m = grind arith

-- the first linear coefficient that is not 0 is one
pub one_place : (l : Line) (i j : ℕ) → IsFirstLinear l i → IsFirstLinear l j → i ≡ j
one_place l i j h k = elim (below_or i j) [
  | inl below ↦ absurd (h.linear (k.first i below))
  | inr (inl above) ↦ absurd (k.linear (h.first j above))
  | inr (inr same) ↦ same
]
  where
    below_or : (i j : ℕ) → (i < j) ⊎ ((j < i) ⊎ (i ≡ j))
    below_or i j = grind arith

-- and so is its variable
pub one_variable_name : (line : List ℕ) (v w : Name) → IsLinearIn line v → IsLinearIn line w → v ≡ w
one_variable_name line v w h k =
    let same : h.linear.line ≡ k.linear.line = one_line line h.linear.line k.linear.line h.linear.spells k.linear.spells in
    let place : h.place ≡ k.place = one_place k.linear.line h.place k.place (subst (λ l. IsFirstLinear l h.place) same h.linear.first) k.linear.first in
    let names : h.names ≡ k.names = sym h.linear.names_are ∙ ap names_of same ∙ k.linear.names_are in
    h.variable_is ∙ ap (λ ns. name_of (get_or ns h.place [])) names ∙ ap (λ i. name_of (get_or k.names i [])) place ∙ sym k.variable_is

-- ---- the place of the first number that is too large

small_or_large : (d : Word) → is_small_token (number d) ≡ true → literal_limit < number_of d → ⊥
small_or_large d small large = let low : number_of d ≤ literal_limit = leb-true (number_of d) literal_limit small in omega arith

head_of : List Token → Token
head_of [] = symbol 0
head_of (t ∷ ts) = t

-- tokens have one first number that is too large
same_before : (b c x y : List Token) (d e : Word) → list_all is_small_token b ≡ true → list_all is_small_token c ≡ true → literal_limit < number_of d → literal_limit < number_of e
    → b ++ number d ∷ x ≡ c ++ number e ∷ y → b ≡ c
unfolding head_of
same_before [] [] x y d e hb hc hd he same = refl
same_before [] (u ∷ us) x y d e hb hc hd he same =
    absurd (small_or_large d (ap (λ ts. is_small_token (head_of ts)) same ∙ and_left (is_small_token u) (list_all is_small_token us) hc) hd)
same_before (t ∷ ts) [] x y d e hb hc hd he same =
    absurd (small_or_large e (ap (λ ts. is_small_token (head_of ts)) (sym same) ∙ and_left (is_small_token t) (list_all is_small_token ts) hb) he)
same_before (t ∷ ts) (u ∷ us) x y d e hb hc hd he same =
    ap₂ (λ v w. v ∷ w) (ap head_of same)
    (same_before ts us x y d e (and_right (is_small_token t) (list_all is_small_token ts) hb) (and_right (is_small_token u) (list_all is_small_token us) hc) hd he (ap (drop 1) same))

-- after a spelling of the same tokens the same bytes stand
same_after : (ts : List Token) (f g x y : List ℕ) → list_all is_token ts ≡ true → IsSpaced ts f → IsSpaced ts g → begins x ≡ true → begins y ≡ true → f ++ x ≡ g ++ y → x ≡ y
same_after [] f g x y all s z hx hy same = same_after_blanks f g x y s z hx hy same
same_after (t ∷ ts) f g x y all s z hx hy same =
    let token = and_left (is_token t) (list_all is_token ts) all in
    let apart : (blanks rest more : List ℕ) → (blanks ++ token_text t ++ rest) ++ more ≡ blanks ++ (token_text t ++ (rest ++ more)) =
    λ blanks rest more. append_assoc (blanks ++ token_text t) rest more ∙ append_assoc blanks (token_text t) (rest ++ more) in
    let texts : token_text t ++ (s.1 ++ x) ≡ token_text t ++ (z.1 ++ y) =
    same_after_blanks s.0 z.0 (token_text t ++ (s.1 ++ x)) (token_text t ++ (z.1 ++ y)) s.2 z.2 (token_begins t token (s.1 ++ x)) (token_begins t token (z.1 ++ y))
    (sym (apart s.0 s.1 x) ∙ ap (λ f. f ++ x) (sym s.3) ∙ same ∙ ap (λ g. g ++ y) z.3 ∙ apart z.0 z.1 y) in
    let rests : s.1 ++ x ≡ z.1 ++ y =
    sym (drop-append_seam (token_text t) (s.1 ++ x)) ∙ ap (drop (length (token_text t))) texts ∙ drop-append_seam (token_text t) (z.1 ++ y) in
    same_after ts s.1 z.1 x y (and_right (is_token t) (list_all is_token ts) all) s.4 z.4 hx hy rests

number_begins : (b x : List Token) (d : Word) (rest : List ℕ) → list_all is_token (b ++ number d ∷ x) ≡ true → begins (d ++ rest) ≡ true
number_begins [] x d rest all = token_begins (number d) (and_left (is_token (number d)) (list_all is_token x) all) rest
number_begins (t ∷ b) x d rest all = number_begins b x d rest (and_right (is_token t) (list_all is_token (b ++ number d ∷ x)) all)

front_tokens : (b x : List Token) → list_all is_token (b ++ x) ≡ true → list_all is_token b ≡ true
front_tokens b x all = and_left (list_all is_token b) (list_all is_token x) (sym (list_all-append is_token b x) ∙ all)

-- the first number that is too large stands at one place
pub one_literal : (line : List ℕ) (n m : ℕ) → IsLiteralError line n → IsLiteralError line m → n ≡ m
unfolding large_line
one_literal line n m h k =
    let same : h.line ≡ k.line = one_line line h.line k.line (large_line line n h).spells (large_line line m k).spells in
    let lists : h.before ++ number h.digits ∷ h.after ≡ k.before ++ number k.digits ∷ k.after = sym h.tokens ∙ ap tokens_of same ∙ k.tokens in
    let before : h.before ≡ k.before = same_before h.before k.before h.after k.after h.digits k.digits h.small k.small h.large k.large lists in
    let tokens_h : list_all is_token (h.before ++ number h.digits ∷ h.after) ≡ true = subst (λ ts. list_all is_token ts ≡ true) h.tokens h.is_line.tokens in
    let tokens_k : list_all is_token (k.before ++ number k.digits ∷ k.after) ≡ true = subst (λ ts. list_all is_token ts ≡ true) k.tokens k.is_line.tokens in
    let bytes : h.front ++ (h.digits ++ h.rest) ≡ k.front ++ (k.digits ++ k.rest) =
    sym (append_assoc h.front h.digits h.rest) ∙ sym h.bytes_are ∙ k.bytes_are ∙ append_assoc k.front k.digits k.rest in
    let after : h.digits ++ h.rest ≡ k.digits ++ k.rest =
    same_after k.before h.front k.front (h.digits ++ h.rest) (k.digits ++ k.rest) (front_tokens k.before (number k.digits ∷ k.after) tokens_k)
    (subst (λ ts. IsSpaced ts h.front) before h.front_spaced) k.front_spaced
    (number_begins h.before h.after h.digits h.rest tokens_h) (number_begins k.before k.after k.digits k.rest tokens_k) bytes in
    let whole = sym (length-append h.front (h.digits ++ h.rest)) ∙ ap (λ l. length l) bytes ∙ length-append k.front (k.digits ++ k.rest) in
    let parts : length (h.digits ++ h.rest) ≡ length (k.digits ++ k.rest) = ap (λ l. length l) after in
    let place_h = h.place in
    let place_k = k.place in
    omega (arith, whole, parts, place_h, place_k)
