-- The steps so far are those of the tokens so far.
use Rattle.std.proofs.Common.{◌≡◌, ◌≤◌, ◌<◌, ◌+◌, ◌-◌, ℕ, zero, suc, Bool, true, false, cond, ◌&&◌, ◌||◌, List, [], ◌∷◌, ◌++◌, map, length, take, drop, get_or, refl, sym, ap, ap₂, subst, ◌∙◌, append_assoc, append-nil, length-append, add-one, arith}
use Rattle.std.specs.Prelude.{nat_le}
use Rattle.std.specs.List.{list_all}
use Rattle.std.proofs.lemmas.List.Folds.{list_all-append}
use Rattle.std.proofs.lemmas.List.{take-append-drop}
use Rattle.line_syntax.specs.Syntax.{Word, Token, number, symbol, is_digit, is_letter, number_of}
use Rattle.line_syntax.specs.Grammar.{IsSpaced, is_blank, literal_limit, is_small_token}
use Rattle.line_reader.specs.declared.step.Step.{Step}
use Rattle.line_reader.specs.Views.{is_word}
use Rattle.line_reader.specs.Reading.{goes_on}
use Rattle.line_reader.specs.Steps.{word_tokens, lexed, step_of, lex_byte, Lexes, IsLargeAt}
use Rattle.line_reader.proofs.Held.{spaced_append, one_spaced, longer_word}
use Rattle.line_reader.proofs.Lexed.{word_tokens_spaced, lexed_spaced}

abbrev Pair : Type 0
Pair = List Token × Word

-- the tokens of a byte and of those after it
byte_lexed : (w : Word) (c : ℕ) (cs : List ℕ) → lexed w (c ∷ cs) ≡ (lex_byte w c).0 ++ lexed (lex_byte w c).1 cs
byte_lexed w c cs = go (goes_on w c) (is_blank c) (is_digit c || is_letter c)
  where
    go : (a b d : Bool) → cond a (lexed (w ++ c ∷ []) cs) (word_tokens w ++ cond b (lexed [] cs) (cond d (lexed (c ∷ []) cs) (symbol c ∷ lexed [] cs)))
        ≡ (let p : Pair = cond a ([], w ++ c ∷ []) (cond b (word_tokens w, []) (cond d (word_tokens w, c ∷ []) (word_tokens w ++ symbol c ∷ [], []))) in p.0 ++ lexed p.1 cs)
    go true b d = refl
    go false true d = refl
    go false false true = refl
    go false false false = sym (append_assoc (word_tokens w) (symbol c ∷ []) (lexed [] cs))

abbrev byte_of : Bool → Bool → Bool → Word → ℕ → Pair
byte_of a b d w c = cond a ([], w ++ c ∷ []) (cond b (word_tokens w, []) (cond d (word_tokens w, c ∷ []) (word_tokens w ++ symbol c ∷ [], [])))

-- the new word ends the bytes, and what is before it is spelled by the new tokens
record Cut (p : Pair) (w : Word) (c : ℕ) : Type 0 where
  front : List ℕ
  bytes : w ++ c ∷ [] ≡ front ++ p.1
  spaced : IsSpaced p.0 front
  word : is_word w ≡ true → is_word p.1 ≡ true

one_byte : (a b : Bool) → (b || a) ≡ true → (true && cond a (nat_le 0 3) b) ≡ true
one_byte true b k = refl
one_byte false true k = refl
one_byte false false k = k

cut_by : (a b d : Bool) (w : Word) (c : ℕ) → goes_on w c ≡ a → is_blank c ≡ b → (is_digit c || is_letter c) ≡ d → Cut (byte_of a b d w c) w c
cut_by true b d w c q r p = record { front = []; bytes = refl; spaced = refl; word = λ h. longer_word w c h q }
cut_by false true d w c q r p = record {
  front = w ++ c ∷ [];
  bytes = sym (append-nil (w ++ c ∷ []));
  spaced = subst (λ ts. IsSpaced ts (w ++ c ∷ [])) (append-nil (word_tokens w)) (spaced_append (word_tokens w) [] w (c ∷ []) (word_tokens_spaced w) (ap (λ b. b && true) r));
  word = λ h. refl;
}
cut_by false false true w c q r p = record { front = w; bytes = refl; spaced = word_tokens_spaced w; word = λ h. one_byte (is_letter c) (is_digit c) p }
cut_by false false false w c q r p = record {
  front = w ++ c ∷ [];
  bytes = sym (append-nil (w ++ c ∷ []));
  spaced = spaced_append (word_tokens w) (symbol c ∷ []) w (c ∷ []) (word_tokens_spaced w) (one_spaced (symbol c) (c ∷ []) refl);
  word = λ h. refl;
}

cut : (w : Word) (c : ℕ) → Cut (lex_byte w c) w c
cut w c = cut_by (goes_on w c) (is_blank c) (is_digit c || is_letter c) w c refl refl refl

-- ---- the loop

pub record Stepped (names : List Word) (line : List ℕ) (i : ℕ) (w : Word) (steps : List Step) : Type 0 where
  pub tokens : List Token
  pub front : List ℕ
  pub whole : lexed [] line ≡ tokens ++ lexed w (drop i line)
  pub bytes : take i line ≡ front ++ w
  pub spaced : IsSpaced tokens front
  pub small : list_all is_small_token tokens ≡ true
  pub steps_are : steps ≡ map (step_of names) tokens
  pub word : is_word w ≡ true

pub stepped_start : (names : List Word) (line : List ℕ) → Stepped names line 0 [] []
stepped_start names line = record { tokens = []; front = []; whole = refl; bytes = refl; spaced = refl; small = refl; steps_are = refl; word = refl }

take_next : (bytes : List ℕ) (i : ℕ) → i < length bytes → take (i + 1) bytes ≡ take i bytes ++ get_or bytes i 0 ∷ []
take_next bytes i h = ap (λ n. take n bytes) (add-one i) ∙ by bytes i h
  where
    by : (bytes : List ℕ) (i : ℕ) → i < length bytes → take (suc i) bytes ≡ take i bytes ++ get_or bytes i 0 ∷ []
    by [] i h = absurd (omega arith)
    by (b ∷ bytes) zero h = refl
    by (b ∷ bytes) (suc i) h = ap (λ z. b ∷ z) (by bytes i (omega arith))

drop_next : (bytes : List ℕ) (i : ℕ) → i < length bytes → drop i bytes ≡ get_or bytes i 0 ∷ drop (i + 1) bytes
drop_next bytes i h = by bytes i h ∙ ap (λ n. get_or bytes i 0 ∷ drop n bytes) (sym (add-one i))
  where
    by : (bytes : List ℕ) (i : ℕ) → i < length bytes → drop i bytes ≡ get_or bytes i 0 ∷ drop (suc i) bytes
    by [] i h = absurd (omega arith)
    by (b ∷ bytes) zero h = refl
    by (b ∷ bytes) (suc i) h = by bytes i (omega arith)

map_append : (f : Token → Step) (xs ys : List Token) → map f (xs ++ ys) ≡ map f xs ++ map f ys
map_append f [] ys = refl
map_append f (x ∷ xs) ys = ap (λ z. f x ∷ z) (map_append f xs ys)

pub stepped_next : (names : List Word) (line : List ℕ) (i : ℕ) (w w' : Word) (steps steps' : List Step) → Stepped names line i w steps → i < length line → Lexes true names (get_or line i 0) w w' steps steps' → Stepped names line (i + 1) w' steps'
stepped_next names line i w w' steps steps' s l h =
    let c : ℕ = get_or line i 0 in
    let k = cut w c in
    subst (λ z. Stepped names line (i + 1) z steps') (sym h.1) (record {
      tokens = s.tokens ++ (lex_byte w c).0;
      front = s.front ++ k.front;
      whole = s.whole ∙ ap (λ z. s.tokens ++ lexed w z) (drop_next line i l) ∙ ap (λ z. s.tokens ++ z) (byte_lexed w c (drop (i + 1) line)) ∙ sym (append_assoc s.tokens (lex_byte w c).0 (lexed (lex_byte w c).1 (drop (i + 1) line)));
      bytes = take_next line i l ∙ ap (λ z. z ++ c ∷ []) s.bytes ∙ append_assoc s.front w (c ∷ []) ∙ ap (λ z. s.front ++ z) k.bytes ∙ sym (append_assoc s.front k.front (lex_byte w c).1);
      spaced = spaced_append s.tokens (lex_byte w c).0 s.front k.front s.spaced k.spaced;
      small = list_all-append is_small_token s.tokens (lex_byte w c).0 ∙ ap₂ (λ a b. a && b) s.small h.0;
      steps_are = h.2 ∙ ap (λ z. z ++ map (step_of names) (lex_byte w c).0) s.steps_are ∙ sym (map_append (step_of names) s.tokens (lex_byte w c).0);
      word = k.word s.word;
    })

length_front : (bytes : List ℕ) (i : ℕ) → i ≤ length bytes → length (take i bytes) ≡ i
length_front bytes zero h = refl
length_front [] (suc i) h = absurd (omega arith)
length_front (b ∷ bytes) (suc i) h = ap suc (length_front bytes i (omega arith))

word_begins : (names : List Word) (line : List ℕ) (i : ℕ) (w : Word) (steps : List Step) → (s : Stepped names line i w steps) → i ≤ length line → i - length w ≡ length s.front
word_begins names line i w steps s l =
    let whole : i ≡ length s.front + length w = sym (length_front line i l) ∙ ap length s.bytes ∙ length-append s.front w in
    back i (length s.front) (length w) whole
  where
    back : (i a b : ℕ) → i ≡ a + b → i - b ≡ a
    back i a b e = omega arith

-- a word that is a number above the limit
large_word : (names : List Word) (line : List ℕ) (i : ℕ) (w : Word) (steps : List Step) → Stepped names line i w steps → i ≤ length line → lexed w (drop i line) ≡ word_tokens w ++ lexed [] (drop i line) → word_tokens w ≡ number w ∷ [] → literal_limit < number_of w → IsLargeAt line (i - length w)
large_word names line i w steps s l e n large = record {
  before = s.tokens;
  after = lexed [] (drop i line);
  digits = w;
  front = s.front;
  rest = drop i line;
  tokens = s.whole ∙ ap (λ z. s.tokens ++ z) (e ∙ ap (λ z. z ++ lexed [] (drop i line)) n);
  small = s.small;
  large = large;
  bytes_are = sym (take-append-drop i line) ∙ ap (λ z. z ++ drop i line) s.bytes;
  front_spaced = s.spaced;
  rest_spaced = lexed_spaced (drop i line) [];
  place = word_begins names line i w steps s l;
}

pub stepped_large : (names : List Word) (line : List ℕ) (i : ℕ) (w w' : Word) (steps steps' : List Step) → Stepped names line i w steps → i < length line → Lexes false names (get_or line i 0) w w' steps steps' → IsLargeAt line (i - length w')
stepped_large names line i w w' steps steps' s l h =
    let c : ℕ = get_or line i 0 in
    let next : drop i line ≡ c ∷ drop (i + 1) line = drop_next line i l in
    let split : lexed w (drop i line) ≡ word_tokens w ++ lexed [] (drop i line) =
    ap (lexed w) next
    ∙ ap (λ b. cond b (lexed (w ++ c ∷ []) (drop (i + 1) line)) (word_tokens w ++ cond (is_blank c) (lexed [] (drop (i + 1) line)) (cond (is_digit c || is_letter c) (lexed (c ∷ []) (drop (i + 1) line)) (symbol c ∷ lexed [] (drop (i + 1) line))))) h.0
    ∙ ap (λ z. word_tokens w ++ lexed [] z) (sym next) in
    subst (λ z. IsLargeAt line (i - length z)) (sym h.3) (large_word names line i w steps s (less i (length line) l) split h.1 h.2)
  where
    less : (i n : ℕ) → i < n → i ≤ n
    less i n h = omega arith

nothing_left : (bytes : List ℕ) (i : ℕ) → length bytes ≤ i → drop i bytes ≡ []
nothing_left [] zero h = refl
nothing_left [] (suc i) h = refl
nothing_left (b ∷ bytes) zero h = absurd (omega arith)
nothing_left (b ∷ bytes) (suc i) h = nothing_left bytes i (omega arith)
