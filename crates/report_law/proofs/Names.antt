-- The names of a line of the grammar are names, and the code keeps their bytes.
use Rattle.std.proofs.Common.{◌≡◌, ℕ, zero, suc, ◌+◌, ◌-◌, ◌<◌, ◌≤◌, true, IsTrue, ◌&&◌, List, [], ◌∷◌, ◌++◌, map, get_or, length, take, drop, min, replicate, Option, Some, None, refl, sym, ap, ap₂, subst, ◌∙◌, arith, leb-true, le-leb, eqb-true}
use Rattle.std.specs.Prelude.{nat_le, ◌==◌}
use Rattle.std.specs.List.{list_all}
use Rattle.std.proofs.Math.Seq.{take-append_seam, drop-append_seam}
use Rattle.std.proofs.lemmas.List.{length-append, length-replicate, length-take-le, length-drop, take-append-drop}
use Rattle.std.proofs.lemmas.List.Folds.{list_all-append}
use Rattle.line_syntax.specs.Syntax.{Word, Line, IsLine, Expr, Token, name, number, symbol, is_token, is_name, is_letter, is_digit, after_commas, separated, declaration_tokens, expr_tokens, tokens_of, names_of}
use Rattle.line_syntax.proofs.Bools.{and_left, and_right}
use Rattle.line_reader.proofs.Names.{all_names, all_of_collected}
use Rattle.line_germ.specs.Names.{name_of}
use Rattle.line_germ.specs.Reads.{IsLinearIn}
use Rattle.poly_text.specs.declared.name.Name.{Name}
use Rattle.poly_text.specs.Polynomials.{name_text}
use Rattle.cert_text.specs.WellFormed.{is_valid_name}
use Rattle.report_law.proofs.Splitting.{and_both}

-- ---- the names of a line

-- the names among tokens are names
among_tokens : (ts : List Token) → list_all is_token ts ≡ true → list_all is_name (all_names ts) ≡ true
among_tokens [] h = refl
among_tokens (name x ∷ ts) h = and_both (is_name x) (list_all is_name (all_names ts)) (and_left (is_name x) (list_all is_token ts) h) (among_tokens ts (and_right (is_name x) (list_all is_token ts) h))
among_tokens (number d ∷ ts) h = among_tokens ts (and_right (is_token (number d)) (list_all is_token ts) h)
among_tokens (symbol c ∷ ts) h = among_tokens ts (and_right (is_token (symbol c)) (list_all is_token ts) h)

after_first : (xs : List Word) (ts : List Token) → list_all is_token (after_commas xs ++ ts) ≡ true → list_all is_name xs ≡ true
after_first [] ts h = refl
after_first (x ∷ xs) ts h =
    let rest = and_right (is_token (symbol 44)) (is_name x && list_all is_token (after_commas xs ++ ts)) h in
    and_both (is_name x) (list_all is_name xs) (and_left (is_name x) (list_all is_token (after_commas xs ++ ts)) rest) (after_first xs ts (and_right (is_name x) (list_all is_token (after_commas xs ++ ts)) rest))

declared_names : (xs : List Word) (ts : List Token) → list_all is_token (separated xs ++ ts) ≡ true → list_all is_name xs ≡ true
declared_names [] ts h = refl
declared_names (x ∷ xs) ts h =
    and_both (is_name x) (list_all is_name xs) (and_left (is_name x) (list_all is_token (after_commas xs ++ ts)) h) (after_first xs ts (and_right (is_name x) (list_all is_token (after_commas xs ++ ts)) h))

names_by_parts : (declared : Option (List Word)) (body : Expr) → let l : Line = record { declared = declared; body = body } in list_all is_token (tokens_of l) ≡ true → list_all is_name (names_of l) ≡ true
names_by_parts None body h = all_of_collected is_name [] (all_names (expr_tokens body)) refl (among_tokens (expr_tokens body) h)
names_by_parts (Some xs) body h =
    let front = and_left (list_all is_token (declaration_tokens (Some xs))) (list_all is_token (expr_tokens body)) (sym (list_all-append is_token (declaration_tokens (Some xs)) (expr_tokens body)) ∙ h) in
    declared_names xs (symbol 93 ∷ []) (and_right (is_token (symbol 91)) (list_all is_token (separated xs ++ symbol 93 ∷ [])) front)

pub line_names : (l : Line) → IsLine l → list_all is_name (names_of l) ≡ true
line_names l h = names_by_parts l.declared l.body h.tokens

-- ---- a word as a name

pub name_length : (x : Word) → is_name x ≡ true → length x ≤ 4
name_length [] h = omega arith
name_length (c ∷ cs) h =
    let few : length cs ≤ 3 = leb-true (length cs) 3 (and_right (list_all is_digit cs) (nat_le (length cs) 3) (and_right (is_letter c) (list_all is_digit cs && nat_le (length cs) 3) h)) in
    omega (arith, few)

-- the bytes of the name are those of the word
pub name_text-name_of : (x : Word) → is_name x ≡ true → name_text (name_of x) ≡ x
name_text-name_of x good =
    let few = name_length x good in
    ap (λ n. take n (x ++ replicate (4 - length x) 0)) (let m : min (length x) 4 ≡ length x = omega (arith, few) in m) ∙ take-append_seam x (replicate (4 - length x) 0)

zeros : (n : ℕ) → list_all (λ b. b == 0) (replicate n 0) ≡ true
zeros zero = refl
zeros (suc n) = zeros n

pub name_valid : (x : Word) → is_name x ≡ true → is_valid_name (name_of x) ≡ true
name_valid x good =
    let rest : List ℕ = replicate (4 - length x) 0 in
    let few = name_length x good in
    let four : length (x ++ rest) ≡ 4 = length-append x rest ∙ ap (λ (k : ℕ). length x + k) (length-replicate (4 - length x) 0) ∙ omega (arith, few) in
    and_both ((length (x ++ rest) == 4) && nat_le (length x) 4) (is_name (take (length x) (x ++ rest)) && list_all (λ b. b == 0) (drop (length x) (x ++ rest)))
    (and_both (length (x ++ rest) == 4) (nat_le (length x) 4) (ap (λ (k : ℕ). k == 4) four) (le-leb (length x) 4 few))
    (and_both (is_name (take (length x) (x ++ rest))) (list_all (λ b. b == 0) (drop (length x) (x ++ rest))) (ap is_name (take-append_seam x rest) ∙ good)
    (ap (list_all (λ b. b == 0)) (drop-append_seam x rest) ∙ zeros (4 - length x)))

-- ---- a valid name as a word

zeros_are : (xs : List ℕ) → list_all (λ b. b == 0) xs ≡ true → xs ≡ replicate (length xs) 0
zeros_are [] h = refl
zeros_are (x ∷ xs) h = ap₂ (λ v w. v ∷ w) (eqb-true x 0 (and_left (x == 0) (list_all (λ b. b == 0) xs) h)) (zeros_are xs (and_right (x == 0) (list_all (λ b. b == 0) xs) h))

-- a valid name has a word of the grammar
pub text_is_name : (v : Name) → is_valid_name v ≡ true → is_name (name_text v) ≡ true
text_is_name v h =
    let sizes = (length v.bytes == 4) && nat_le v.len 4 in
    let parts = is_name (take v.len v.bytes) && list_all (λ b. b == 0) (drop v.len v.bytes) in
    let few : v.len ≤ 4 = leb-true v.len 4 (and_right (length v.bytes == 4) (nat_le v.len 4) (and_left sizes parts h)) in
    ap (λ n. is_name (take n v.bytes)) (let m : min v.len 4 ≡ v.len = omega (arith, few) in m)
    ∙ and_left (is_name (take v.len v.bytes)) (list_all (λ b. b == 0) (drop v.len v.bytes)) (and_right sizes parts h)

-- a valid name is the name of its word
pub name_of-name_text : (v : Name) → is_valid_name v ≡ true → name_of (name_text v) ≡ v
name_of-name_text v h =
    let sizes = (length v.bytes == 4) && nat_le v.len 4 in
    let parts = is_name (take v.len v.bytes) && list_all (λ b. b == 0) (drop v.len v.bytes) in
    let four : length v.bytes ≡ 4 = eqb-true (length v.bytes) 4 (and_left (length v.bytes == 4) (nat_le v.len 4) (and_left sizes parts h)) in
    let few : v.len ≤ 4 = leb-true v.len 4 (and_right (length v.bytes == 4) (nat_le v.len 4) (and_left sizes parts h)) in
    let rest : List ℕ = drop v.len v.bytes in
    let size : length (take v.len v.bytes) ≡ v.len = length-take-le v.len v.bytes (omega (arith, four, few)) in
    let left : length rest ≡ 4 - v.len = length-drop v.len v.bytes ∙ ap (λ (k : ℕ). k - v.len) four in
    let zeros : rest ≡ replicate (4 - v.len) 0 = zeros_are rest (and_right (is_name (take v.len v.bytes)) (list_all (λ b. b == 0) rest) (and_right sizes parts h)) ∙ ap (λ (k : ℕ). replicate k 0) left in
    let bytes : take v.len v.bytes ++ replicate (4 - length (take v.len v.bytes)) 0 ≡ v.bytes =
    ap (λ (k : ℕ). take v.len v.bytes ++ replicate (4 - k) 0) size ∙ ap (λ z. take v.len v.bytes ++ z) (sym zeros) ∙ take-append-drop v.len v.bytes in
    let short : min v.len 4 ≡ v.len = omega (arith, few) in
    let by_length : ℕ → Name = λ k. name_of (take k v.bytes) in
    ap by_length short ∙ λ i. record { bytes = bytes i; len = size i }

-- valid names with one word are one
pub one_name : (v w : Name) → is_valid_name v ≡ true → is_valid_name w ≡ true → name_text v ≡ name_text w → v ≡ w
one_name v w h k e = sym (name_of-name_text v h) ∙ ap name_of e ∙ name_of-name_text w k

-- and so are lists of them
pub one_list_of_names : (vs ws : List Name) → list_all is_valid_name vs ≡ true → list_all is_valid_name ws ≡ true → map name_text vs ≡ map name_text ws → vs ≡ ws
one_list_of_names [] [] h k e = refl
one_list_of_names [] (w ∷ ws) h k e = absurd cc
one_list_of_names (v ∷ vs) [] h k e = absurd cc
one_list_of_names (v ∷ vs) (w ∷ ws) h k e =
    ap₂ (λ x y. x ∷ y)
    (one_name v w (and_left (is_valid_name v) (list_all is_valid_name vs) h) (and_left (is_valid_name w) (list_all is_valid_name ws) k) (ap (λ l. get_or l 0 []) e))
    (one_list_of_names vs ws (and_right (is_valid_name v) (list_all is_valid_name vs) h) (and_right (is_valid_name w) (list_all is_valid_name ws) k) (ap (drop 1) e))

-- the names of words of the grammar are valid, and have these words
pub names_of_words : (xs : List Word) → list_all is_name xs ≡ true → list_all is_valid_name (map name_of xs) ≡ true
names_of_words [] h = refl
names_of_words (x ∷ xs) h =
    and_both (is_valid_name (name_of x)) (list_all is_valid_name (map name_of xs)) (name_valid x (and_left (is_name x) (list_all is_name xs) h)) (names_of_words xs (and_right (is_name x) (list_all is_name xs) h))

pub words_of_names : (xs : List Word) → list_all is_name xs ≡ true → map name_text (map name_of xs) ≡ xs
words_of_names [] h = refl
words_of_names (x ∷ xs) h = ap₂ (λ v w. v ∷ w) (name_text-name_of x (and_left (is_name x) (list_all is_name xs) h)) (words_of_names xs (and_right (is_name x) (list_all is_name xs) h))

-- ---- linear terms

-- a name of a line
name_at : (names : List Word) (i : ℕ) → list_all is_name names ≡ true → i < length names → is_name (get_or names i []) ≡ true
name_at [] i all h = absurd (omega arith)
name_at (x ∷ xs) zero all h = and_left (is_name x) (list_all is_name xs) all
name_at (x ∷ xs) (suc i) all h = name_at xs i (and_right (is_name x) (list_all is_name xs) all) (omega arith)

-- the variable of a linear term that is read has a valid name
pub linear_valid : (bytes : List ℕ) (v : Name) → IsLinearIn bytes v → IsTrue (is_valid_name v)
linear_valid bytes v h =
    let within : h.place < length h.names = subst (λ ns. h.place < length ns) h.linear.names_are h.linear.first.within in
    let word : Word = get_or h.names h.place [] in
    let is_word : is_name word ≡ true = name_at h.names h.place (subst (λ ns. list_all is_name ns ≡ true) h.linear.names_are (line_names h.linear.line h.linear.spells.is_line)) within in
    ap is_valid_name h.variable_is ∙ name_valid word is_word
