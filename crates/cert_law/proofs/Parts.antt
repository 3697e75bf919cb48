-- Names, algebras and modulus lines are told from their texts, and so are the parts of a change.
use Rattle.std.proofs.Common.{◌≡◌, ℕ, ◌-◌, ◌≤◌, Bool, true, false, cond, eqb, leb, ◌&&◌, ◌||◌, ◌⊎◌, inl, inr, List, [], ◌∷◌, ◌++◌, length, take, drop, get_or, IsTrue, refl, sym, ap, ◌∙◌, append_assoc, arith}
use Rattle.std.specs.Prelude.{codes, map}
use Rattle.std.specs.List.{AllByRecursion, flat_map, list_all}
use Rattle.std.proofs.Math.Nat.{min-eq_left}
use Rattle.std.proofs.lemmas.Bool.{eqb-true, leb-true}
use Rattle.std.proofs.lemmas.List.{append-nil, take-append-drop, length-take-le, length-drop}
use Rattle.ring_law.specs.declared.fraction.Frac.{Frac}
use Rattle.ext_algebra.specs.declared.algebra.Algebra.{Algebra}
use Rattle.ext_algebra.specs.declared.algebra.Algebra.TheVariants.{Rational, Quadratic, Cubic, Tower}
use Rattle.ext_algebra.specs.Fractions.{is_frac}
use Rattle.ext_algebra.specs.Algebra.{is_algebra}
use Rattle.jet_poly.specs.JetTerms.{JetTerms}
use Rattle.line_syntax.specs.Syntax.{is_name, is_letter, is_digit}
use Rattle.normal_forms.specs.declared.modulus_line.ModulusLine.{ModulusLine}
use Rattle.normal_forms.specs.declared.modulus_line.ModulusLine.TheVariants as moduli
use Rattle.poly_text.specs.declared.name.Name.{Name}
use Rattle.poly_text.specs.Numbers.{fraction_text, component_text, element_text}
use Rattle.poly_text.specs.Polynomials.{name_text, polynomial_in, jet_text}
use Rattle.cert_text.specs.Text.{line, algebra_text, cubic_text, opposite_text, other_sign, square_text, part_text, parts_text, modulus_text}
use Rattle.cert_text.specs.WellFormed.{is_valid_name}
use Rattle.cert_law.specs.Unique.{Starts}
use Rattle.cert_law.specs.Fields.{Element, Term, EndsSum, EndsFraction, IsComponent, IsSmallElement, IsPolynomial}
use Rattle.cert_law.proofs.Cut.{head, cut, same_front}
use Rattle.cert_law.proofs.Numbers.{fraction_one}
use Rattle.cert_law.proofs.Elements.{element_one, numbers_one}
use Rattle.cert_law.proofs.Jets.{polynomial_one, zeros_same}
use Rattle.cert_law.proofs.Valid.{both, all_from, component_by}

-- ---- names

abbrev pub IsNameByte : ℕ → Type 0
IsNameByte b = 48 ≤ b

abbrev pub EndsName : ℕ → Type 0
EndsName b = b ≤ 32

either : (a b : Bool) → (a || b) ≡ true → (a ≡ true) ⊎ (b ≡ true)
either true b e = inl refl
either false b e = inr e

digit_byte : (b : ℕ) → is_digit b ≡ true → (48 ≤ b) × (b ≤ 57)
digit_byte b e = let h = both (leb 48 b) (leb b 57) e in (leb-true 48 b h.0, leb-true b 57 h.1)

letter_byte : (b : ℕ) → is_letter b ≡ true → 48 ≤ b
letter_byte b e = elim (either (leb 65 b && leb b 90) (leb 97 b && leb b 122) e) [
  | inl upper ↦ (let h = leb-true 65 b (both (leb 65 b) (leb b 90) upper).0 in omega (arith, h))
  | inr lower ↦ (let h = leb-true 97 b (both (leb 97 b) (leb b 122) lower).0 in omega (arith, h))
]

pub name_bytes : (name : List ℕ) → is_name name ≡ true → AllByRecursion IsNameByte name
name_bytes [] e = tt
name_bytes (c ∷ cs) e =
    let h = both (is_letter c) (list_all is_digit cs && leb (length cs) 3) e in
    let d = both (list_all is_digit cs) (leb (length cs) 3) h.1 in
    (letter_byte c h.0, all_from is_digit IsNameByte (λ b q. (digit_byte b q).0) cs d.0)

-- what a valid name is: its text, and zeros
pub record IsNameOf (name : Name) : Type 0 where
  pub text : name_text name ≡ take name.len name.bytes
  pub spelled : is_name (take name.len name.bytes) ≡ true
  pub zeros : list_all (λ b. eqb b 0) (drop name.len name.bytes) ≡ true
  pub long : length (take name.len name.bytes) ≡ name.len
  pub rest : length (drop name.len name.bytes) ≡ 4 - name.len

pub name_by : (name : Name) → is_valid_name name ≡ true → IsNameOf name
name_by name e =
    let h = both (eqb (length name.bytes) 4 && leb name.len 4) (is_name (take name.len name.bytes) && list_all (λ b. eqb b 0) (drop name.len name.bytes)) e in
    let p = both (eqb (length name.bytes) 4) (leb name.len 4) h.0 in
    let q = both (is_name (take name.len name.bytes)) (list_all (λ b. eqb b 0) (drop name.len name.bytes)) h.1 in
    let four = eqb-true (length name.bytes) 4 p.0 in
    let few = leb-true name.len 4 p.1 in
    record {
      text = ap (λ (k : ℕ). take k name.bytes) (min-eq_left few);
      spelled = q.0;
      zeros = q.1;
      long = length-take-le name.len name.bytes (omega (arith, four, few));
      rest = length-drop name.len name.bytes ∙ ap (λ (k : ℕ). k - name.len) four;
    }

name_is : (m n : Name) → m.bytes ≡ n.bytes → m.len ≡ n.len → m ≡ n
name_is m n a b = λ i. record { bytes = a i; len = b i }

pub name_one : (m n : Name) (x y : List ℕ) → is_valid_name m ≡ true → is_valid_name n ≡ true → Starts EndsName x → Starts EndsName y → name_text m ++ x ≡ name_text n ++ y → (m ≡ n) × (x ≡ y)
name_one m n x y vm vn sx sy e =
    let p = name_by m vm in
    let q = name_by n vn in
    let tm = take m.len m.bytes in
    let tn = take n.len n.bytes in
    let h = cut IsNameByte EndsName (λ b i o. omega (arith, i, o)) tm tn x y (name_bytes tm p.spelled) (name_bytes tn q.spelled) sx sy
    (ap (λ (z : List ℕ). z ++ x) (sym p.text) ∙ e ∙ ap (λ (z : List ℕ). z ++ y) q.text) in
    let len : m.len ≡ n.len = sym p.long ∙ ap length h.0 ∙ q.long in
    let zeros = zeros_same (drop m.len m.bytes) (drop n.len n.bytes) (p.rest ∙ ap (λ (k : ℕ). 4 - k) len ∙ sym q.rest) p.zeros q.zeros in
    (name_is m n (sym (take-append-drop m.len m.bytes) ∙ ap (λ (z : List ℕ). z ++ drop m.len m.bytes) h.0 ∙ ap (λ (z : List ℕ). tn ++ z) zeros ∙ take-append-drop n.len n.bytes) len, h.1)

-- a name and a blank do not begin as `inverse` does
pub no_word : (name z x : List ℕ) → is_name name ≡ true → name ++ (32 ∷ z) ≡ 105 ∷ 110 ∷ x → ⊥
no_word [] z x e q = cc
no_word (c ∷ []) z x e q = let h = (head 32 110 z x (head c 105 _ _ q).1).0 in omega (arith, h)
no_word (c ∷ d ∷ ds) z x e q =
    let h = both (is_letter c) (list_all is_digit (d ∷ ds) && leb (length (d ∷ ds)) 3) e in
    let digits = both (list_all is_digit (d ∷ ds)) (leb (length (d ∷ ds)) 3) h.1 in
    let first = digit_byte d (both (is_digit d) (list_all is_digit ds) digits.0).0 in
    let same = (head d 110 (ds ++ (32 ∷ z)) x (head c 105 _ _ q).1).0 in
    omega (arith, first.1, same)

-- ---- the parts of a change, up to the word `inverse`

abbrev pub terms_of : JetTerms Element → List Term
terms_of f = f.terms

pub part_apart : (n : Name) (f : JetTerms Element) (z x : List ℕ) → is_valid_name n ≡ true → 105 ∷ 110 ∷ x ≡ part_text n f ++ z → ⊥
unfolding part_text line
part_apart n f z x v e =
    let p = name_by n v in
    let all : part_text n f ++ z ≡ name_text n ++ (32 ∷ (61 ∷ (32 ∷ (jet_text f ++ (10 ∷ z))))) = simp append_assoc in
    no_word (take n.len n.bytes) _ x p.spelled (ap (λ (b : List ℕ). b ++ (32 ∷ (61 ∷ (32 ∷ (jet_text f ++ (10 ∷ z)))))) (sym p.text) ∙ sym all ∙ sym e)

pub part_one : (m n : Name) (f g : JetTerms Element) (x y : List ℕ) → is_valid_name m ≡ true → is_valid_name n ≡ true → IsPolynomial f.terms → IsPolynomial g.terms
    → part_text m f ++ x ≡ part_text n g ++ y → (m ≡ n) × (f.terms ≡ g.terms) × (x ≡ y)
unfolding part_text line polynomial_in
part_one m n f g x y vm vn of og e =
    let left : part_text m f ++ x ≡ name_text m ++ (32 ∷ (61 ∷ (32 ∷ (jet_text f ++ (10 ∷ x))))) = simp append_assoc in
    let right : part_text n g ++ y ≡ name_text n ++ (32 ∷ (61 ∷ (32 ∷ (jet_text g ++ (10 ∷ y))))) = simp append_assoc in
    let a = name_one m n _ _ vm vn (omega arith) (omega arith) (sym left ∙ e ∙ right) in
    let inner = (head 32 32 _ _ (head 61 61 _ _ (head 32 32 _ _ a.1).1).1).1 in
    let b = polynomial_one f.terms g.terms (10 ∷ x) (10 ∷ y) of og (omega arith) (omega arith) inner in
    (a.0, b.0, (head 10 10 x y b.1).1)

abbrev pub AreParts : List Name → List (JetTerms Element) → Type 0
AreParts ns fs = (list_all is_valid_name ns ≡ true) × (length fs ≡ length ns) × AllByRecursion (λ f. IsPolynomial f.terms) fs

pub parts_one : (ms ns : List Name) (fs gs : List (JetTerms Element)) (x y : List ℕ) → AreParts ms fs → AreParts ns gs
    → parts_text ms fs ++ (105 ∷ 110 ∷ x) ≡ parts_text ns gs ++ (105 ∷ 110 ∷ y) → (ms ≡ ns) × (map terms_of fs ≡ map terms_of gs) × (x ≡ y)
unfolding parts_text
parts_one [] [] [] [] x y of og e = (refl, refl, (head 110 110 x y (head 105 105 _ _ e).1).1)
parts_one [] [] [] (g ∷ gs) x y of og e = absurd (omega (arith, og.1))
parts_one [] [] (f ∷ fs) gs x y of og e = absurd (omega (arith, of.1))
parts_one [] (n ∷ ns) (f ∷ fs) gs x y of og e = absurd (omega (arith, of.1))
parts_one [] (n ∷ ns) [] [] x y of og e = absurd (omega (arith, og.1))
parts_one [] (n ∷ ns) [] (g ∷ gs) x y of og e =
    absurd (part_apart n g (parts_text ns gs ++ (105 ∷ 110 ∷ y)) x (both (is_valid_name n) (list_all is_valid_name ns) og.0).0 (e ∙ append_assoc (part_text n g) (parts_text ns gs) (105 ∷ 110 ∷ y)))
parts_one (m ∷ ms) ns [] gs x y of og e = absurd (omega (arith, of.1))
parts_one (m ∷ ms) [] (f ∷ fs) (g ∷ gs) x y of og e = absurd (omega (arith, og.1))
parts_one (m ∷ ms) [] (f ∷ fs) [] x y of og e =
    absurd (part_apart m f (parts_text ms fs ++ (105 ∷ 110 ∷ x)) y (both (is_valid_name m) (list_all is_valid_name ms) of.0).0 (sym e ∙ append_assoc (part_text m f) (parts_text ms fs) (105 ∷ 110 ∷ x)))
parts_one (m ∷ ms) (n ∷ ns) (f ∷ fs) [] x y of og e = absurd (omega (arith, og.1))
parts_one (m ∷ ms) (n ∷ ns) (f ∷ fs) (g ∷ gs) x y of og e =
    let vm = both (is_valid_name m) (list_all is_valid_name ms) of.0 in
    let vn = both (is_valid_name n) (list_all is_valid_name ns) og.0 in
    let h = part_one m n f g (parts_text ms fs ++ (105 ∷ 110 ∷ x)) (parts_text ns gs ++ (105 ∷ 110 ∷ y)) vm.0 vn.0 of.2.0 og.2.0
    (sym (append_assoc (part_text m f) (parts_text ms fs) (105 ∷ 110 ∷ x)) ∙ e ∙ append_assoc (part_text n g) (parts_text ns gs) (105 ∷ 110 ∷ y)) in
    let r = parts_one ms ns fs gs x y (vm.1, omega (arith, of.1), of.2.1) (vn.1, omega (arith, og.1), og.2.1) h.2 in
    (cc (h.0, r.0), cc (h.1, r.1), r.2)

-- ---- algebras

abbrev quadratic_letters : List (List ℕ)
quadratic_letters = codes "*t" ∷ [] ∷ []

abbrev cubic_letters : List (List ℕ)
cubic_letters = codes "*t^2" ∷ codes "*t" ∷ [] ∷ []

quadratic_one : (p1 p0 q1 q0 : Frac) (x y : List ℕ) → AllByRecursion IsComponent (p1 ∷ p0 ∷ []) → AllByRecursion IsComponent (q1 ∷ q0 ∷ []) → Starts EndsSum x → Starts EndsSum y
    → flat_map component_text ((p1, codes "*t") ∷ (p0, []) ∷ []) ++ x ≡ flat_map component_text ((q1, codes "*t") ∷ (q0, []) ∷ []) ++ y → (Quadratic p1 p0 ≡ Quadratic q1 q0) × (x ≡ y)
quadratic_one p1 p0 q1 q0 x y cp cq sx sy e =
    let h = numbers_one (p1 ∷ p0 ∷ []) (q1 ∷ q0 ∷ []) quadratic_letters x y ((λ z. absurd cc, tt), (tt, tt)) ((refl, omega arith, tt), (tt, tt)) refl refl cp cq sx sy e in
    (ap (λ (ms : List Frac). Quadratic (get_or ms 0 p0) (get_or ms 1 p0)) h.0, h.1)

cubic_one : (p2 p1 p0 q2 q1 q0 : Frac) (x y : List ℕ) → AllByRecursion IsComponent (p2 ∷ p1 ∷ p0 ∷ []) → AllByRecursion IsComponent (q2 ∷ q1 ∷ q0 ∷ []) → Starts EndsSum x → Starts EndsSum y
    → cubic_text p2 p1 p0 ++ x ≡ cubic_text q2 q1 q0 ++ y → (p2 ∷ p1 ∷ p0 ∷ [] ≡ q2 ∷ q1 ∷ q0 ∷ []) × (x ≡ y)
cubic_one p2 p1 p0 q2 q1 q0 x y cp cq sx sy e =
    numbers_one (p2 ∷ p1 ∷ p0 ∷ []) (q2 ∷ q1 ∷ q0 ∷ []) cubic_letters x y ((λ z. absurd cc, (λ z. absurd cc, tt)), ((λ z. absurd cc, tt), (tt, tt)))
    ((refl, omega arith, (inl (omega arith), (inl (omega arith), tt))), ((refl, omega arith, tt), (tt, tt))) refl refl cp cq sx sy (same_front (codes "t^3") _ _ e)

pub other_sign_twice : (b : ℕ) → other_sign (other_sign b) ≡ b
other_sign_twice b = by_tests (eqb b 43) (eqb b 45) refl refl
  where
    by_tests : (s t : Bool) → eqb b 43 ≡ s → eqb b 45 ≡ t → other_sign (cond s 45 (cond t 43 b)) ≡ b
    by_tests true t plus minus = sym (eqb-true b 43 plus)
    by_tests false true plus minus = sym (eqb-true b 45 minus)
    by_tests false false plus minus = ap (λ (z : Bool). cond z 45 (cond (eqb b 45) 43 b)) plus ∙ ap (λ (z : Bool). cond z 43 b) minus

-- the sign turned again
opposite_twice : (c x : List ℕ) → opposite_text (opposite_text c ++ 10 ∷ x) ≡ c ++ 10 ∷ x
opposite_twice [] x = refl
opposite_twice (b ∷ c) x = ap (λ (n : ℕ). n ∷ (c ++ 10 ∷ x)) (other_sign_twice b)

square_one : (d e : Frac) (x y : List ℕ) → IsComponent d → IsComponent e → square_text d ++ (10 ∷ x) ≡ square_text e ++ (10 ∷ y) → (d ≡ e) × (x ≡ y)
square_one d e x y cd ce eq =
    let turned = same_front (codes " ; s^2") (opposite_text (component_text (d, [])) ++ (10 ∷ x)) (opposite_text (component_text (e, [])) ++ (10 ∷ y)) eq in
    let there : component_text (d, []) ++ (10 ∷ x) ≡ component_text (e, []) ++ (10 ∷ y) = sym (opposite_twice (component_text (d, [])) x) ∙ ap opposite_text turned ∙ opposite_twice (component_text (e, [])) y in
    let h = numbers_one (d ∷ []) (e ∷ []) ([] ∷ []) (10 ∷ x) (10 ∷ y) (tt, tt) (tt, tt) refl refl (cd, tt) (ce, tt) (omega arith) (omega arith)
    (ap (λ (z : List ℕ). z ++ (10 ∷ x)) (append-nil (component_text (d, []))) ∙ there ∙ ap (λ (z : List ℕ). z ++ (10 ∷ y)) (sym (append-nil (component_text (e, []))))) in
    (ap (λ (ms : List Frac). get_or ms 0 d) h.0, (head 10 10 x y h.1).1)

three_by : (m2 m1 m0 : Frac) → IsTrue (is_frac m2) → IsTrue (is_frac m1) → IsTrue (is_frac m0) → AllByRecursion IsComponent (m2 ∷ m1 ∷ m0 ∷ [])
three_by m2 m1 m0 v2 v1 v0 = (component_by m2 v2, (component_by m1 v1, (component_by m0 v0, tt)))

tower_is : (p2 p1 p0 d q2 q1 q0 e : Frac) → p2 ∷ p1 ∷ p0 ∷ [] ≡ q2 ∷ q1 ∷ q0 ∷ [] → d ≡ e → Tower p2 p1 p0 d ≡ Tower q2 q1 q0 e
tower_is p2 p1 p0 d q2 q1 q0 e ms de = λ i. Tower (get_or (ms i) 0 p0) (get_or (ms i) 1 p0) (get_or (ms i) 2 p0) (de i)

cubic_or_tower : (p2 p1 p0 q2 q1 q0 d : Frac) (x y : List ℕ) → is_algebra (Cubic p2 p1 p0) ≡ true → is_algebra (Tower q2 q1 q0 d) ≡ true
    → algebra_text (Cubic p2 p1 p0) ++ (10 ∷ x) ≡ algebra_text (Tower q2 q1 q0 d) ++ (10 ∷ y) → ⊥
unfolding algebra_text is_algebra
cubic_or_tower p2 p1 p0 q2 q1 q0 d x y va vb e =
    let a = both (is_frac p2) (is_frac p1 && is_frac p0) va in
    let a2 = both (is_frac p1) (is_frac p0) a.1 in
    let b = both (is_frac q2) (is_frac q1 && (is_frac q0 && is_frac d)) vb in
    let b2 = both (is_frac q1) (is_frac q0 && is_frac d) b.1 in
    let b3 = both (is_frac q0) (is_frac d) b2.1 in
    let h = cubic_one p2 p1 p0 q2 q1 q0 (10 ∷ x) (square_text d ++ 10 ∷ y) (three_by p2 p1 p0 a.0 a2.0 a2.1) (three_by q2 q1 q0 b.0 b2.0 b3.0) (omega arith) (omega arith) (e ∙ append_assoc (cubic_text q2 q1 q0) (square_text d) (10 ∷ y)) in
    let k = (head 10 32 _ _ h.1).0 in omega (arith, k)

pub algebra_one : (a b : Algebra) (x y : List ℕ) → is_algebra a ≡ true → is_algebra b ≡ true → algebra_text a ++ (10 ∷ x) ≡ algebra_text b ++ (10 ∷ y) → (a ≡ b) × (x ≡ y)
unfolding algebra_text is_algebra
algebra_one Rational Rational x y va vb e = (refl, (head 10 10 x y (head 81 81 _ _ e).1).1)
algebra_one Rational (Quadratic q1 q0) x y va vb e = (let h = (head 81 116 _ _ e).0 in absurd (omega (arith, h)))
algebra_one Rational (Cubic q2 q1 q0) x y va vb e = (let h = (head 81 116 _ _ e).0 in absurd (omega (arith, h)))
algebra_one Rational (Tower q2 q1 q0 d) x y va vb e = (let h = (head 81 116 _ _ e).0 in absurd (omega (arith, h)))
algebra_one (Quadratic p1 p0) Rational x y va vb e = (let h = (head 116 81 _ _ e).0 in absurd (omega (arith, h)))
algebra_one (Cubic p2 p1 p0) Rational x y va vb e = (let h = (head 116 81 _ _ e).0 in absurd (omega (arith, h)))
algebra_one (Tower p2 p1 p0 d) Rational x y va vb e = (let h = (head 116 81 _ _ e).0 in absurd (omega (arith, h)))
algebra_one (Quadratic p1 p0) (Cubic q2 q1 q0) x y va vb e = (let h = (head 50 51 _ _ (head 94 94 _ _ (head 116 116 _ _ e).1).1).0 in absurd (omega (arith, h)))
algebra_one (Quadratic p1 p0) (Tower q2 q1 q0 d) x y va vb e = (let h = (head 50 51 _ _ (head 94 94 _ _ (head 116 116 _ _ e).1).1).0 in absurd (omega (arith, h)))
algebra_one (Cubic p2 p1 p0) (Quadratic q1 q0) x y va vb e = (let h = (head 51 50 _ _ (head 94 94 _ _ (head 116 116 _ _ e).1).1).0 in absurd (omega (arith, h)))
algebra_one (Tower p2 p1 p0 d) (Quadratic q1 q0) x y va vb e = (let h = (head 51 50 _ _ (head 94 94 _ _ (head 116 116 _ _ e).1).1).0 in absurd (omega (arith, h)))
algebra_one (Quadratic p1 p0) (Quadratic q1 q0) x y va vb e =
    let a = both (is_frac p1) (is_frac p0) va in
    let b = both (is_frac q1) (is_frac q0) vb in
    let h = quadratic_one p1 p0 q1 q0 (10 ∷ x) (10 ∷ y) (component_by p1 a.0, (component_by p0 a.1, tt)) (component_by q1 b.0, (component_by q0 b.1, tt)) (omega arith) (omega arith) (same_front (codes "t^2") _ _ e) in
    (h.0, (head 10 10 x y h.1).1)
algebra_one (Cubic p2 p1 p0) (Cubic q2 q1 q0) x y va vb e =
    let a = both (is_frac p2) (is_frac p1 && is_frac p0) va in
    let a2 = both (is_frac p1) (is_frac p0) a.1 in
    let b = both (is_frac q2) (is_frac q1 && is_frac q0) vb in
    let b2 = both (is_frac q1) (is_frac q0) b.1 in
    let h = cubic_one p2 p1 p0 q2 q1 q0 (10 ∷ x) (10 ∷ y) (three_by p2 p1 p0 a.0 a2.0 a2.1) (three_by q2 q1 q0 b.0 b2.0 b2.1) (omega arith) (omega arith) e in
    (ap (λ (ms : List Frac). Cubic (get_or ms 0 p0) (get_or ms 1 p0) (get_or ms 2 p0)) h.0, (head 10 10 x y h.1).1)
algebra_one (Cubic p2 p1 p0) (Tower q2 q1 q0 d) x y va vb e = absurd (cubic_or_tower p2 p1 p0 q2 q1 q0 d x y va vb e)
algebra_one (Tower p2 p1 p0 d) (Cubic q2 q1 q0) x y va vb e = absurd (cubic_or_tower q2 q1 q0 p2 p1 p0 d y x vb va (sym e))
algebra_one (Tower p2 p1 p0 d) (Tower q2 q1 q0 f) x y va vb e =
    let a = both (is_frac p2) (is_frac p1 && (is_frac p0 && is_frac d)) va in
    let a2 = both (is_frac p1) (is_frac p0 && is_frac d) a.1 in
    let a3 = both (is_frac p0) (is_frac d) a2.1 in
    let b = both (is_frac q2) (is_frac q1 && (is_frac q0 && is_frac f)) vb in
    let b2 = both (is_frac q1) (is_frac q0 && is_frac f) b.1 in
    let b3 = both (is_frac q0) (is_frac f) b2.1 in
    let h = cubic_one p2 p1 p0 q2 q1 q0 (square_text d ++ 10 ∷ x) (square_text f ++ 10 ∷ y) (three_by p2 p1 p0 a.0 a2.0 a3.0) (three_by q2 q1 q0 b.0 b2.0 b3.0) (omega arith) (omega arith)
    (sym (append_assoc (cubic_text p2 p1 p0) (square_text d) (10 ∷ x)) ∙ e ∙ append_assoc (cubic_text q2 q1 q0) (square_text f) (10 ∷ y)) in
    let k = square_one d f x y (component_by d a3.1) (component_by f b3.1) h.1 in
    (tower_is p2 p1 p0 d q2 q1 q0 f h.0 k.0, k.1)

-- ---- modulus lines

abbrev pub IsModulusLine : ModulusLine → Type 0
IsModulusLine moduli.None = Unit {0}
IsModulusLine moduli.Form = Unit {0}
IsModulusLine (moduli.Value e) = IsSmallElement e
IsModulusLine (moduli.J q) = IsComponent q

newline_after : EndsFraction 10
newline_after = (λ d. omega (arith, d.0), λ e. omega (arith, e))

pub modulus_one : (a b : ModulusLine) (x y : List ℕ) → IsModulusLine a → IsModulusLine b → modulus_text a ++ (10 ∷ x) ≡ modulus_text b ++ (10 ∷ y) → (a ≡ b) × (x ≡ y)
unfolding modulus_text
modulus_one moduli.None moduli.None x y va vb e = (refl, (head 10 10 x y (same_front (codes "none") _ _ e)).1)
modulus_one moduli.None moduli.Form x y va vb e = (let h = (head 110 102 _ _ e).0 in absurd (omega (arith, h)))
modulus_one moduli.None (moduli.Value f) x y va vb e = (let h = (head 110 118 _ _ e).0 in absurd (omega (arith, h)))
modulus_one moduli.None (moduli.J q) x y va vb e = (let h = (head 110 106 _ _ e).0 in absurd (omega (arith, h)))
modulus_one moduli.Form moduli.None x y va vb e = (let h = (head 102 110 _ _ e).0 in absurd (omega (arith, h)))
modulus_one moduli.Form moduli.Form x y va vb e = (refl, (head 10 10 x y (same_front (codes "form") _ _ e)).1)
modulus_one moduli.Form (moduli.Value f) x y va vb e = (let h = (head 102 118 _ _ e).0 in absurd (omega (arith, h)))
modulus_one moduli.Form (moduli.J q) x y va vb e = (let h = (head 102 106 _ _ e).0 in absurd (omega (arith, h)))
modulus_one (moduli.Value f) moduli.None x y va vb e = (let h = (head 118 110 _ _ e).0 in absurd (omega (arith, h)))
modulus_one (moduli.Value f) moduli.Form x y va vb e = (let h = (head 118 102 _ _ e).0 in absurd (omega (arith, h)))
modulus_one (moduli.Value f) (moduli.J q) x y va vb e = (let h = (head 118 106 _ _ e).0 in absurd (omega (arith, h)))
modulus_one (moduli.J p) moduli.None x y va vb e = (let h = (head 106 110 _ _ e).0 in absurd (omega (arith, h)))
modulus_one (moduli.J p) moduli.Form x y va vb e = (let h = (head 106 102 _ _ e).0 in absurd (omega (arith, h)))
modulus_one (moduli.J p) (moduli.Value f) x y va vb e = (let h = (head 106 118 _ _ e).0 in absurd (omega (arith, h)))
modulus_one (moduli.Value f) (moduli.Value g) x y va vb e =
    let inner = same_front (codes "value ") _ _ (sym (append_assoc (codes "value ") (element_text f) (10 ∷ x)) ∙ e ∙ append_assoc (codes "value ") (element_text g) (10 ∷ y)) in
    let h = element_one f g (10 ∷ x) (10 ∷ y) va vb (omega arith) (omega arith) inner in
    (ap moduli.Value h.0, (head 10 10 x y h.1).1)
modulus_one (moduli.J p) (moduli.J q) x y va vb e =
    let inner = same_front (codes "j ") _ _ (sym (append_assoc (codes "j ") (fraction_text p) (10 ∷ x)) ∙ e ∙ append_assoc (codes "j ") (fraction_text q) (10 ∷ y)) in
    let h = fraction_one p q (10 ∷ x) (10 ∷ y) va.small vb.small newline_after newline_after inner in
    (ap moduli.J h.0, (head 10 10 x y h.1).1)
