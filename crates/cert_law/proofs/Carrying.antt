-- The lines from `order` to the jet are told from their text.
use Rattle.std.proofs.Common.{◌≡◌, ℕ, ◌*◌, ◌<◌, ◌≤◌, ◌^◌, true, List, [], ◌∷◌, ◌++◌, length, refl, sym, ap, ◌∙◌, append_assoc, arith}
use Rattle.std.specs.Prelude.{decimal, map}
use Rattle.std.specs.List.{AllByRecursion, flat_map}
use Rattle.ext_algebra.specs.declared.algebra.Algebra.{Algebra}
use Rattle.ext_algebra.specs.Algebra.{is_element, is_algebra}
use Rattle.jet_poly.specs.JetTerms.{JetTerms}
use Rattle.coord_change.specs.declared.change.Change.{Change}
use Rattle.poly_text.specs.declared.name.Name.{Name}
use Rattle.poly_text.specs.Polynomials.{jet_text}
use Rattle.cert_text.specs.declared.report.Carried.{Carried}
use Rattle.cert_text.specs.declared.word.Word.{Word}
use Rattle.cert_text.specs.declared.word.Word.TheVariants as words
use Rattle.cert_text.specs.Words.{word_text}
use Rattle.cert_text.specs.Text.{line, word_line, algebra_text, parts_text, rows_text, carried_text}
use Rattle.cert_text.specs.WellFormed.{IsPartOf, IsJetOf, IsWellFormedCarried}
use Rattle.cert_law.specs.Unique.{IsSelfEnding}
use Rattle.cert_law.specs.Fields.{Element, IsSmallElement, IsPolynomial, IsReadableJet}
use Rattle.cert_law.proofs.Cut.{head, all_of, same_front}
use Rattle.cert_law.proofs.Numbers.{number_one, NoDigit}
use Rattle.cert_law.proofs.Valid.{all_from, all_to, element_by, polynomial_by}
use Rattle.cert_law.proofs.Series.{rows_one, jet_read}
use Rattle.cert_law.proofs.Parts.{terms_of, AreParts, parts_one, algebra_one}

-- what stands behind the word
pub word_rest : (w : Word) (t u x y : List ℕ) → word_line w t ++ x ≡ word_line w u ++ y → t ++ (10 ∷ x) ≡ u ++ (10 ∷ y)
unfolding word_line line
word_rest w t u x y e =
    let left : ((word_text w ++ 32 ∷ t) ++ 10 ∷ []) ++ x ≡ word_text w ++ (32 ∷ (t ++ (10 ∷ x))) = simp append_assoc in
    let right : ((word_text w ++ 32 ∷ u) ++ 10 ∷ []) ++ y ≡ word_text w ++ (32 ∷ (u ++ (10 ∷ y))) = simp append_assoc in
    (head 32 32 _ _ (same_front (word_text w) _ _ (sym left ∙ e ∙ right))).1

newline_ends : NoDigit 10
newline_ends = λ d. omega (arith, d.0)

-- a word and a number
pub number_line : (w : Word) (m n : ℕ) (x y : List ℕ) → m < 10 ^ 64 → n < 10 ^ 64 → word_line w (decimal m) ++ x ≡ word_line w (decimal n) ++ y → (m ≡ n) × (x ≡ y)
number_line w m n x y lm ln e =
    let h = number_one m n (10 ∷ x) (10 ∷ y) lm ln newline_ends newline_ends (word_rest w (decimal m) (decimal n) x y e) in
    (h.0, (head 10 10 x y h.1).1)

-- a word and a count, and so many lines
pub block_one : {A : Type 0} (w : Word) (Ok : A → Type 0) (f : A → List ℕ) → IsSelfEnding Ok f → (us vs : List A) (x y : List ℕ) → length us < 10 ^ 64 → length vs < 10 ^ 64 → AllByRecursion Ok us → AllByRecursion Ok vs
    → word_line w (decimal (length us)) ++ (flat_map f us ++ x) ≡ word_line w (decimal (length vs)) ++ (flat_map f vs ++ y) → (us ≡ vs) × (x ≡ y)
block_one w Ok f unique us vs x y lu lv ou ov e =
    let h = number_line w (length us) (length vs) (flat_map f us ++ x) (flat_map f vs ++ y) lu lv e in
    all_of Ok f unique us vs x y h.0 ou ov h.1

pub algebra_line : (w : Word) (a b : Algebra) (x y : List ℕ) → is_algebra a ≡ true → is_algebra b ≡ true → word_line w (algebra_text a) ++ x ≡ word_line w (algebra_text b) ++ y → (a ≡ b) × (x ≡ y)
algebra_line w a b x y va vb e = algebra_one a b x y va vb (word_rest w (algebra_text a) (algebra_text b) x y e)

-- the parts, and the line `inverse`
pub part_lines : (ms ns : List Name) (fs gs : List (JetTerms Element)) (x y : List ℕ) → AreParts ms fs → AreParts ns gs
    → parts_text ms fs ++ (line (word_text words.Inverse) ++ x) ≡ parts_text ns gs ++ (line (word_text words.Inverse) ++ y) → (ms ≡ ns) × (map terms_of fs ≡ map terms_of gs) × (x ≡ y)
unfolding line word_text
part_lines ms ns fs gs x y of og e =
    let h = parts_one ms ns fs gs (118 ∷ 101 ∷ 114 ∷ 115 ∷ 101 ∷ 10 ∷ x) (118 ∷ 101 ∷ 114 ∷ 115 ∷ 101 ∷ 10 ∷ y) of og e in
    (h.0, h.1, same_front (118 ∷ 101 ∷ 114 ∷ 115 ∷ 101 ∷ 10 ∷ []) x y h.2)

pub jet_is : (f g : JetTerms Element) → f.n ≡ g.n → f.order ≡ g.order → f.terms ≡ g.terms → f ≡ g
jet_is f g a b c = λ i. record { n = a i; order = b i; terms = c i }

pub jets_same : (n k : ℕ) (fs gs : List (JetTerms Element)) → AllByRecursion (IsReadableJet n k) fs → AllByRecursion (IsReadableJet n k) gs → map terms_of fs ≡ map terms_of gs → fs ≡ gs
jets_same n k [] [] of og e = refl
jets_same n k [] (g ∷ gs) of og e = absurd cc
jets_same n k (f ∷ fs) [] of og e = absurd cc
jets_same n k (f ∷ fs) (g ∷ gs) of og e =
    let first : f.terms ≡ g.terms = cc in
    let others : map terms_of fs ≡ map terms_of gs = cc in
    let a = jet_is f g (of.0.variables ∙ sym og.0.variables) (of.0.order ∙ sym og.0.order) first in
    let b = jets_same n k fs gs of.1 og.1 others in
    cc (a, b)

pub readable : (n k : ℕ) (a : Algebra) → k ≤ 16 → (f : JetTerms Element) → IsJetOf n k a f → IsReadableJet n k f
readable n k a le f is = record { variables = is.variables; order = is.order_is; polynomial = polynomial_by n k a f (omega (arith, le)) is }

change_is : (c d : Change Element) → c.n ≡ d.n → c.order ≡ d.order → c.parts ≡ d.parts → c.inverse ≡ d.inverse → c ≡ d
change_is c d p q r s = λ i. record { n = p i; order = q i; parts = r i; inverse = s i }

carried_is : (c d : Carried) → c.names ≡ d.names → c.algebra ≡ d.algebra → c.order ≡ d.order → c.corank ≡ d.corank → c.change ≡ d.change → c.jet ≡ d.jet → c ≡ d
carried_is c d p q r s t u = λ i. record { names = p i; algebra = q i; order = r i; corank = s i; change = t i; jet = u i }

-- the parts of a change are told by their terms, its names count its variables
parts_of : (c : Carried) → IsWellFormedCarried c → AreParts c.names c.change.parts
parts_of c w = (w.names, w.parts_count, all_to (IsPartOf (length c.names) c.order c.algebra) (λ f. IsPolynomial f.terms) (λ f p. polynomial_by (length c.names) c.order c.algebra f (omega (arith, w.order_at_most)) p.jet) c.change.parts w.parts)

readable_parts : (c : Carried) → IsWellFormedCarried c → AllByRecursion (IsReadableJet (length c.names) c.order) c.change.parts
readable_parts c w = all_to (IsPartOf (length c.names) c.order c.algebra) (IsReadableJet (length c.names) c.order) (λ f p. readable (length c.names) c.order c.algebra w.order_at_most f p.jet) c.change.parts w.parts

matrix_of : (c : Carried) → IsWellFormedCarried c → AllByRecursion IsSmallElement c.change.inverse
matrix_of c w = all_from (is_element c.algebra) IsSmallElement (λ e. element_by c.algebra e) c.change.inverse w.matrix

square_size : (c : Carried) → IsWellFormedCarried c → length c.change.inverse ≡ c.change.n * c.change.n
square_size c w = w.matrix_size ∙ sym (ap (λ (k : ℕ). k * k) w.change_variables)

pub jet_line : (w : Word) (n k : ℕ) (f g : JetTerms Element) (x y : List ℕ) → IsReadableJet n k f → IsReadableJet n k g → word_line w (jet_text f) ++ x ≡ word_line w (jet_text g) ++ y → (f ≡ g) × (x ≡ y)
jet_line w n k f g x y of og e =
    let h = (jet_read n k).one f g (10 ∷ x) (10 ∷ y) of og (omega arith) (omega arith) (word_rest w (jet_text f) (jet_text g) x y e) in
    (h.0, (head 10 10 x y h.1).1)

regroup : (w : Word) (c : Carried) (x : List ℕ) → carried_text w c ++ x
    ≡ word_line words.Order (decimal c.order) ++ (word_line words.Algebra (algebra_text c.algebra) ++ (word_line words.Corank (decimal c.corank) ++ (line (word_text words.Change)
    ++ (parts_text c.names c.change.parts ++ (line (word_text words.Inverse) ++ (rows_text c.change.n c.change.n c.change.inverse ++ (word_line w (jet_text c.jet) ++ x)))))))
unfolding carried_text
regroup w c x = simp append_assoc

pub carried_one : (w : Word) (c d : Carried) (x y : List ℕ) → IsWellFormedCarried c → IsWellFormedCarried d → carried_text w c ++ x ≡ carried_text w d ++ y → (c ≡ d) × (x ≡ y)
carried_one w c d x y wc wd e =
    let few_c = wc.few_names in
    let few_d = wd.few_names in
    let h1 = number_line words.Order c.order d.order _ _ (omega (arith, wc.order_at_most)) (omega (arith, wd.order_at_most)) (sym (regroup w c x) ∙ e ∙ regroup w d y) in
    let h2 = algebra_line words.Algebra c.algebra d.algebra _ _ wc.algebra wd.algebra h1.1 in
    let h3 = number_line words.Corank c.corank d.corank _ _ (omega (arith, wc.corank, few_c)) (omega (arith, wd.corank, few_d)) h2.1 in
    let h4 = same_front (line (word_text words.Change)) _ _ h3.1 in
    let h5 = part_lines c.names d.names c.change.parts d.change.parts _ _ (parts_of c wc) (parts_of d wd) h4 in
    let variables : length d.names ≡ length c.names = sym (ap length h5.0) in
    let sizes : d.change.n ≡ c.change.n = wd.change_variables ∙ variables ∙ sym wc.change_variables in
    let h6 = rows_one c.change.n c.change.n c.change.inverse d.change.inverse _ _ (square_size c wc) (square_size d wd ∙ ap (λ (k : ℕ). k * k) sizes) (matrix_of c wc) (matrix_of d wd)
    (h5.2 ∙ ap (λ (k : ℕ). rows_text k k d.change.inverse ++ (word_line w (jet_text d.jet) ++ y)) sizes) in
    let to_c : (f : JetTerms Element) → IsReadableJet (length d.names) d.order f → IsReadableJet (length c.names) c.order f = λ f r. record { variables = r.variables ∙ variables; order = r.order ∙ sym h1.0; polynomial = r.polynomial } in
    let h7 = jet_line w (length c.names) c.order c.jet d.jet x y (readable (length c.names) c.order c.algebra wc.order_at_most c.jet wc.jet) (to_c d.jet (readable (length d.names) d.order d.algebra wd.order_at_most d.jet wd.jet)) h6.1 in
    let parts = jets_same (length c.names) c.order c.change.parts d.change.parts (readable_parts c wc) (all_to (IsReadableJet (length d.names) d.order) (IsReadableJet (length c.names) c.order) to_c d.change.parts (readable_parts d wd)) h5.1 in
    (carried_is c d h5.0 h2.0 h1.0 h3.0 (change_is c.change d.change (sym sizes) (wc.change_order ∙ h1.0 ∙ sym wd.change_order) parts h6.0) h7.0, h7.1)
