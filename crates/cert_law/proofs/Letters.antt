-- Families, patterns, phases and kinds of refusal are told from their texts.
use Rattle.std.proofs.Common.{◌≡◌, ℕ, zero, suc, ◌+◌, ◌*◌, ◌<◌, List, [], ◌∷◌, ◌++◌, get_or, refl, sym, ap, ◌∙◌, subst, append_assoc, arith}
use Rattle.std.specs.Prelude.{decimal, codes, ◌==◌, if◌then◌else◌}
use Rattle.normal_forms.specs.declared.family.Family.{Family}
use Rattle.normal_forms.specs.declared.family.Family.TheVariants as families
use Rattle.normal_forms.specs.declared.pattern.Pattern.{Pattern}
use Rattle.normal_forms.specs.declared.pattern.Pattern.TheVariants as patterns
use Rattle.poly_text.specs.declared.what.What.{What}
use Rattle.poly_text.specs.declared.what.What.TheVariants as whats
use Rattle.cert_text.specs.declared.report.Phase.{Phase}
use Rattle.cert_text.specs.declared.report.Phase.TheVariants as phases
use Rattle.cert_text.specs.Names.{family_letters, family_numbers, family_text, pattern_text, phase_text, what_text}
use Rattle.cert_law.proofs.Cut.{head, same_front}
use Rattle.cert_law.proofs.Numbers.{number_one, NoDigit}

-- the first byte, and the first three as one number
abbrev first : List ℕ → ℕ
first x = get_or x 0 0

abbrev first_three : List ℕ → ℕ
first_three x = (get_or x 0 0 * 256 + get_or x 1 0) * 256 + get_or x 2 0

-- ---- phases

abbrev phase_index : Phase → ℕ
phase_index phases.Line = 7104878
phase_index phases.Hessian = 6841715
phase_index phases.Split = 7565420
phase_index phases.Shape = 7563361
phase_index phases.Kill = 7039340
phase_index phases.Mather = 7168372
phase_index phases.Finish = 6711662
phase_index phases.Milnor = 7170412

abbrev phase_at : ℕ → Phase
phase_at n =
    if n == 7104878 then phases.Line else (if n == 6841715 then phases.Hessian else (if n == 7565420 then phases.Split else (if n == 7563361 then phases.Shape else (
    if n == 7039340 then phases.Kill else (if n == 7168372 then phases.Mather else (if n == 6711662 then phases.Finish else phases.Milnor))))))

phase_index_is : (p : Phase) (x : List ℕ) → first_three (phase_text p ++ x) ≡ phase_index p
unfolding phase_text
phase_index_is phases.Line x = refl
phase_index_is phases.Hessian x = refl
phase_index_is phases.Split x = refl
phase_index_is phases.Shape x = refl
phase_index_is phases.Kill x = refl
phase_index_is phases.Mather x = refl
phase_index_is phases.Finish x = refl
phase_index_is phases.Milnor x = refl

phase_back : (p : Phase) → phase_at (phase_index p) ≡ p
phase_back phases.Line = refl
phase_back phases.Hessian = refl
phase_back phases.Split = refl
phase_back phases.Shape = refl
phase_back phases.Kill = refl
phase_back phases.Mather = refl
phase_back phases.Finish = refl
phase_back phases.Milnor = refl

pub phase_one : (p q : Phase) (x y : List ℕ) → phase_text p ++ x ≡ phase_text q ++ y → (p ≡ q) × (x ≡ y)
phase_one p q x y e =
    let index : phase_index p ≡ phase_index q = sym (phase_index_is p x) ∙ ap first_three e ∙ phase_index_is q y in
    let same : p ≡ q = sym (phase_back p) ∙ ap phase_at index ∙ phase_back q in
    (same, same_front (phase_text p) x y (e ∙ ap (λ (z : Phase). phase_text z ++ y) (sym same)))

-- ---- patterns, up to a newline

abbrev pattern_index : Pattern → ℕ
pattern_index patterns.O = 20234
pattern_index patterns.V = 22026
pattern_index patterns.N = 19978
pattern_index patterns.J3 = 18995
pattern_index patterns.Z1 = 23089
pattern_index patterns.W1 = 22321
pattern_index patterns.Q2 = 20786
pattern_index patterns.S1 = 21297
pattern_index patterns.U1 = 21809

abbrev pattern_at : ℕ → Pattern
pattern_at n =
    if n == 20234 then patterns.O else (if n == 22026 then patterns.V else (if n == 19978 then patterns.N else (if n == 18995 then patterns.J3 else (
    if n == 23089 then patterns.Z1 else (if n == 22321 then patterns.W1 else (if n == 20786 then patterns.Q2 else (if n == 21297 then patterns.S1 else patterns.U1)))))))

abbrev first_two : List ℕ → ℕ
first_two x = get_or x 0 0 * 256 + get_or x 1 0

pattern_index_is : (p : Pattern) (x : List ℕ) → first_two (pattern_text p ++ (10 ∷ x)) ≡ pattern_index p
unfolding pattern_text
pattern_index_is patterns.O x = refl
pattern_index_is patterns.V x = refl
pattern_index_is patterns.N x = refl
pattern_index_is patterns.J3 x = refl
pattern_index_is patterns.Z1 x = refl
pattern_index_is patterns.W1 x = refl
pattern_index_is patterns.Q2 x = refl
pattern_index_is patterns.S1 x = refl
pattern_index_is patterns.U1 x = refl

pattern_back : (p : Pattern) → pattern_at (pattern_index p) ≡ p
pattern_back patterns.O = refl
pattern_back patterns.V = refl
pattern_back patterns.N = refl
pattern_back patterns.J3 = refl
pattern_back patterns.Z1 = refl
pattern_back patterns.W1 = refl
pattern_back patterns.Q2 = refl
pattern_back patterns.S1 = refl
pattern_back patterns.U1 = refl

pub pattern_one : (p q : Pattern) (x y : List ℕ) → pattern_text p ++ (10 ∷ x) ≡ pattern_text q ++ (10 ∷ y) → (p ≡ q) × (x ≡ y)
pattern_one p q x y e =
    let index : pattern_index p ≡ pattern_index q = sym (pattern_index_is p x) ∙ ap first_two e ∙ pattern_index_is q y in
    let same : p ≡ q = sym (pattern_back p) ∙ ap pattern_at index ∙ pattern_back q in
    (same, (head 10 10 x y (same_front (pattern_text p) (10 ∷ x) (10 ∷ y) (e ∙ ap (λ (z : Pattern). pattern_text z ++ (10 ∷ y)) (sym same)))).1)

-- ---- kinds of refusal

pub what_one : (p q : What) (x y : List ℕ) → what_text p ++ x ≡ what_text q ++ y → (p ≡ q) × (x ≡ y)
unfolding what_text
what_one whats.Byte whats.Byte x y e = (refl, same_front (codes "byte") x y e)
what_one whats.Byte whats.End x y e = (let h = (head 98 101 _ _ e).0 in absurd (omega (arith, h)))
what_one whats.End whats.Byte x y e = (let h = (head 101 98 _ _ e).0 in absurd (omega (arith, h)))
what_one whats.End whats.End x y e = (refl, same_front (codes "end") x y e)

-- ---- families: the letters, and the numbers behind them

abbrev Numbers : Type 0
Numbers = ℕ × ℕ × ℕ

abbrev numbers_of : Family → Numbers
numbers_of (families.A m) = (m, 0, 0)
numbers_of (families.D m) = (m, 0, 0)
numbers_of (families.T p q r) = (p, q, r)
numbers_of _ = (0, 0, 0)

-- the letters by a number: for A, D and T that of the first byte, else that of the first three, with a newline at the end
abbrev family_index : Family → ℕ
family_index (families.A m) = 65
family_index (families.D m) = 68
family_index families.E6 = 4535818
family_index families.E7 = 4536074
family_index families.E8 = 4536330
family_index families.P8 = 5257226
family_index families.X9 = 5781770
family_index families.J10 = 4862256
family_index (families.T p q r) = 84
family_index families.E12 = 4534578
family_index families.E13 = 4534579
family_index families.E14 = 4534580
family_index families.Z11 = 5910833
family_index families.Z12 = 5910834
family_index families.Z13 = 5910835
family_index families.W12 = 5714226
family_index families.W13 = 5714227
family_index families.Q10 = 5321008
family_index families.Q11 = 5321009
family_index families.Q12 = 5321010
family_index families.S11 = 5452081
family_index families.S12 = 5452082
family_index families.U12 = 5583154

abbrev index_in : List ℕ → ℕ
index_in x =
    if first x == 65 then 65 else (if first x == 68 then 68 else (if first x == 84 then 84 else first_three x))

-- how many numbers follow
abbrev number_count : ℕ → ℕ
number_count n = if n == 65 then 1 else (if n == 68 then 1 else (if n == 84 then 3 else 0))

abbrev numbers_text : ℕ → Numbers → List ℕ
numbers_text zero n = []
numbers_text (suc zero) n = decimal n.0
numbers_text (suc (suc k)) n = decimal n.0 ++ 44 ∷ decimal n.1 ++ 44 ∷ decimal n.2 ++ 41 ∷ []

abbrev family_at : ℕ → Numbers → Family
family_at n k =
    if n == 65 then families.A k.0 else (if n == 68 then families.D k.0 else (if n == 84 then families.T k.0 k.1 k.2 else (
    if n == 4535818 then families.E6 else (if n == 4536074 then families.E7 else (if n == 4536330 then families.E8 else (
    if n == 5257226 then families.P8 else (if n == 5781770 then families.X9 else (if n == 4862256 then families.J10 else (
    if n == 4534578 then families.E12 else (if n == 4534579 then families.E13 else (if n == 4534580 then families.E14 else (
    if n == 5910833 then families.Z11 else (if n == 5910834 then families.Z12 else (if n == 5910835 then families.Z13 else (
    if n == 5714226 then families.W12 else (if n == 5714227 then families.W13 else (if n == 5321008 then families.Q10 else (
    if n == 5321009 then families.Q11 else (if n == 5321010 then families.Q12 else (if n == 5452081 then families.S11 else (
    if n == 5452082 then families.S12 else families.U12)))))))))))))))))))))

index_is : (f : Family) (x : List ℕ) → index_in (family_letters f ++ (numbers_text (number_count (family_index f)) (numbers_of f) ++ (10 ∷ x))) ≡ family_index f
unfolding family_letters
index_is (families.A m) x = refl
index_is (families.D m) x = refl
index_is families.E6 x = refl
index_is families.E7 x = refl
index_is families.E8 x = refl
index_is families.P8 x = refl
index_is families.X9 x = refl
index_is families.J10 x = refl
index_is (families.T p q r) x = refl
index_is families.E12 x = refl
index_is families.E13 x = refl
index_is families.E14 x = refl
index_is families.Z11 x = refl
index_is families.Z12 x = refl
index_is families.Z13 x = refl
index_is families.W12 x = refl
index_is families.W13 x = refl
index_is families.Q10 x = refl
index_is families.Q11 x = refl
index_is families.Q12 x = refl
index_is families.S11 x = refl
index_is families.S12 x = refl
index_is families.U12 x = refl

family_back : (f : Family) → family_at (family_index f) (numbers_of f) ≡ f
family_back (families.A m) = refl
family_back (families.D m) = refl
family_back families.E6 = refl
family_back families.E7 = refl
family_back families.E8 = refl
family_back families.P8 = refl
family_back families.X9 = refl
family_back families.J10 = refl
family_back (families.T p q r) = refl
family_back families.E12 = refl
family_back families.E13 = refl
family_back families.E14 = refl
family_back families.Z11 = refl
family_back families.Z12 = refl
family_back families.Z13 = refl
family_back families.W12 = refl
family_back families.W13 = refl
family_back families.Q10 = refl
family_back families.Q11 = refl
family_back families.Q12 = refl
family_back families.S11 = refl
family_back families.S12 = refl
family_back families.U12 = refl

numbers_are : (f : Family) → family_numbers f ≡ numbers_text (number_count (family_index f)) (numbers_of f)
unfolding family_numbers
numbers_are (families.A m) = refl
numbers_are (families.D m) = refl
numbers_are (families.T p q r) = refl
numbers_are _ = refl

letters_at : (f : Family) → family_letters (family_at (family_index f) (0, 0, 0)) ≡ family_letters f
unfolding family_letters
letters_at (families.A m) = refl
letters_at (families.D m) = refl
letters_at families.E6 = refl
letters_at families.E7 = refl
letters_at families.E8 = refl
letters_at families.P8 = refl
letters_at families.X9 = refl
letters_at families.J10 = refl
letters_at (families.T p q r) = refl
letters_at families.E12 = refl
letters_at families.E13 = refl
letters_at families.E14 = refl
letters_at families.Z11 = refl
letters_at families.Z12 = refl
letters_at families.Z13 = refl
letters_at families.W12 = refl
letters_at families.W13 = refl
letters_at families.Q10 = refl
letters_at families.Q11 = refl
letters_at families.Q12 = refl
letters_at families.S11 = refl
letters_at families.S12 = refl
letters_at families.U12 = refl

-- the letters by their number
letters_by : (f g : Family) → family_index f ≡ family_index g → family_letters f ≡ family_letters g
letters_by f g e = sym (letters_at f) ∙ ap (λ (n : ℕ). family_letters (family_at n (0, 0, 0))) e ∙ letters_at g

-- numbers that a family with so many of them has
abbrev Few : ℕ → Numbers → Type 0
Few zero n = (n.0 ≡ 0) × (n.1 ≡ 0) × (n.2 ≡ 0)
Few (suc zero) n = (n.0 < 256) × (n.1 ≡ 0) × (n.2 ≡ 0)
Few (suc (suc k)) n = (n.0 < 256) × (n.1 < 256) × (n.2 < 256)

numbers_same : (m n : Numbers) → m.0 ≡ n.0 → m.1 ≡ n.1 → m.2 ≡ n.2 → m ≡ n
numbers_same m n a b c = λ i. (a i, b i, c i)

comma_ends : NoDigit 44
comma_ends = λ d. omega (arith, d.0)

bracket_ends : NoDigit 41
bracket_ends = λ d. omega (arith, d.0)

newline_ends : NoDigit 10
newline_ends = λ d. omega (arith, d.0)

numbers_one : (k : ℕ) (m n : Numbers) (x y : List ℕ) → Few k m → Few k n → numbers_text k m ++ (10 ∷ x) ≡ numbers_text k n ++ (10 ∷ y) → (m ≡ n) × (x ≡ y)
numbers_one zero m n x y fm fn e = (numbers_same m n (fm.0 ∙ sym fn.0) (fm.1 ∙ sym fn.1) (fm.2 ∙ sym fn.2), (head 10 10 x y e).1)
numbers_one (suc zero) m n x y fm fn e =
    let a = fm.0 in
    let b = fn.0 in
    let h = number_one m.0 n.0 (10 ∷ x) (10 ∷ y) (omega (arith, a)) (omega (arith, b)) newline_ends newline_ends e in
    (numbers_same m n h.0 (fm.1 ∙ sym fn.1) (fm.2 ∙ sym fn.2), (head 10 10 x y h.1).1)
numbers_one (suc (suc k)) m n x y fm fn e =
    let a0 = fm.0 in
    let b0 = fn.0 in
    let a1 = fm.1 in
    let b1 = fn.1 in
    let a2 = fm.2 in
    let b2 = fn.2 in
    let left : (decimal m.0 ++ 44 ∷ decimal m.1 ++ 44 ∷ decimal m.2 ++ 41 ∷ []) ++ (10 ∷ x) ≡ decimal m.0 ++ (44 ∷ (decimal m.1 ++ (44 ∷ (decimal m.2 ++ (41 ∷ (10 ∷ x)))))) = simp append_assoc in
    let right : (decimal n.0 ++ 44 ∷ decimal n.1 ++ 44 ∷ decimal n.2 ++ 41 ∷ []) ++ (10 ∷ y) ≡ decimal n.0 ++ (44 ∷ (decimal n.1 ++ (44 ∷ (decimal n.2 ++ (41 ∷ (10 ∷ y)))))) = simp append_assoc in
    let p = number_one m.0 n.0 _ _ (omega (arith, a0)) (omega (arith, b0)) comma_ends comma_ends (sym left ∙ e ∙ right) in
    let q = number_one m.1 n.1 _ _ (omega (arith, a1)) (omega (arith, b1)) comma_ends comma_ends (head 44 44 _ _ p.1).1 in
    let r = number_one m.2 n.2 _ _ (omega (arith, a2)) (omega (arith, b2)) bracket_ends bracket_ends (head 44 44 _ _ q.1).1 in
    (numbers_same m n p.0 q.0 r.0, (head 10 10 x y (head 41 41 _ _ r.1).1).1)

-- the numbers of a family are bytes
abbrev pub HasFew : Family → Type 0
HasFew f = Few (number_count (family_index f)) (numbers_of f)

pub family_one : (f g : Family) (x y : List ℕ) → HasFew f → HasFew g → family_text f ++ (10 ∷ x) ≡ family_text g ++ (10 ∷ y) → (f ≡ g) × (x ≡ y)
unfolding family_text
family_one f g x y hf hg e =
    let count_f = number_count (family_index f) in
    let rest_f = numbers_text count_f (numbers_of f) ++ (10 ∷ x) in
    let rest_g = numbers_text (number_count (family_index g)) (numbers_of g) ++ (10 ∷ y) in
    let left : (family_letters f ++ family_numbers f) ++ (10 ∷ x) ≡ family_letters f ++ rest_f =
    append_assoc (family_letters f) (family_numbers f) (10 ∷ x) ∙ ap (λ (z : List ℕ). family_letters f ++ (z ++ (10 ∷ x))) (numbers_are f) in
    let right : (family_letters g ++ family_numbers g) ++ (10 ∷ y) ≡ family_letters g ++ rest_g =
    append_assoc (family_letters g) (family_numbers g) (10 ∷ y) ∙ ap (λ (z : List ℕ). family_letters g ++ (z ++ (10 ∷ y))) (numbers_are g) in
    let both_sides : family_letters f ++ rest_f ≡ family_letters g ++ rest_g = sym left ∙ e ∙ right in
    let index : family_index f ≡ family_index g = sym (index_is f x) ∙ ap index_in both_sides ∙ index_is g y in
    let rests : rest_f ≡ rest_g = same_front (family_letters f) rest_f rest_g (both_sides ∙ ap (λ (z : List ℕ). z ++ rest_g) (sym (letters_by f g index))) in
    let count : number_count (family_index g) ≡ count_f = ap number_count (sym index) in
    let few_g : Few count_f (numbers_of g) = subst (λ (k : ℕ). Few k (numbers_of g)) count hg in
    let h = numbers_one count_f (numbers_of f) (numbers_of g) x y hf few_g (rests ∙ ap (λ (k : ℕ). numbers_text k (numbers_of g) ++ (10 ∷ y)) count) in
    let same : f ≡ g = sym (family_back f) ∙ ap (λ (n : ℕ). family_at n (numbers_of f)) index ∙ ap (λ (k : Numbers). family_at (family_index g) k) h.0 ∙ family_back g in
    (same, h.1)
