-- Families by their names.
use Rattle.std.proofs.Common.{◌≡◌, ◌≢◌, ℕ, ◌<◌, ◌≤◌, ◌^◌, Bool, true, false, eqb, length, List, [], ◌∷◌, ◌++◌, refl, sym, ap, ◌∙◌, append_assoc, subst, arith, IsTrue}
use Rattle.std.specs.Prelude.{decimal}
use Rattle.std.specs.List.{AllByRecursion}
use Rattle.normal_forms.specs.declared.family.Family.{Family}
use Rattle.normal_forms.specs.declared.family.Family.TheVariants as families
use Rattle.normal_forms.specs.Families.{is_family}
use Rattle.cert_text.specs.Names.{family_text, family_letters, family_numbers}
use Rattle.cert_law.proofs.Cut.{head, same_front}
use Rattle.cert_law.proofs.Numbers.{number_one}
use Rattle.text_reader.specs.Reading.{IsNoText}
use Rattle.text_reader.specs.Numbers.{three_text, AreSmall, IsHyperbolic, IsSeries}
use Rattle.text_reader.proofs.Visible.{cut_at, unsplit, digits_lack}

abbrev Three : Type 0
Three = ℕ × ℕ × ℕ

wide : (n : ℕ) → n < 256 → n < 10 ^ 64
wide n lt = omega (arith, lt)

-- the three numbers, one after another
three_is : (t : Three) → three_text t ≡ decimal t.0 ++ 44 ∷ (decimal t.1 ++ 44 ∷ (decimal t.2 ++ 41 ∷ []))
three_is t = simp append_assoc

-- a number before a comma
pub comma_one : (m n : ℕ) (x y : List ℕ) → m < 256 → n < 256 → decimal m ++ 44 ∷ x ≡ decimal n ++ 44 ∷ y → (m ≡ n) × (x ≡ y)
comma_one m n x y lm ln e =
    let h = number_one m n (44 ∷ x) (44 ∷ y) (wide m lm) (wide n ln) (λ d. omega (arith, d.0)) (λ d. omega (arith, d.0)) e in
    (h.0, (head 44 44 x y h.1).1)

pub no_comma : (n : ℕ) (rest bytes : List ℕ) → n < 256 → AllByRecursion (λ b. b ≢ 44) bytes → decimal n ++ 44 ∷ rest ≡ bytes → ⊥
no_comma n rest bytes lt free e = unsplit 44 (decimal n) rest bytes free e

-- what stands before the first comma is the number
pub before_comma : (n : ℕ) (rest front behind bytes : List ℕ) → n < 256 → AllByRecursion (λ b. b ≢ 44) front → bytes ≡ front ++ 44 ∷ behind → decimal n ++ 44 ∷ rest ≡ bytes → decimal n ≡ front
before_comma n rest front behind bytes lt free is e = (cut_at 44 (decimal n) front rest behind (digits_lack 44 n (omega arith) (wide n lt)) free (e ∙ is)).0

-- what stands before the parenthesis is the number, and nothing stands behind it
pub before_close : (n : ℕ) (front behind bytes : List ℕ) → n < 256 → AllByRecursion (λ b. b ≢ 41) front → bytes ≡ front ++ 41 ∷ behind → decimal n ++ 41 ∷ [] ≡ bytes → (decimal n ≡ front) × ([] ≡ behind)
before_close n front behind bytes lt free is e = cut_at 41 (decimal n) front [] behind (digits_lack 41 n (omega arith) (wide n lt)) free (e ∙ is)

-- the rest of three numbers behind the first comma
pub behind_first : (t : Three) (n : ℕ) (rest bytes : List ℕ) → AreSmall t → n < 256 → decimal n ++ 44 ∷ rest ≡ bytes → three_text t ≡ bytes → (t.0 ≡ n) × (decimal t.1 ++ 44 ∷ (decimal t.2 ++ 41 ∷ []) ≡ rest)
behind_first t n rest bytes small lt is e = comma_one t.0 n _ rest small.0 lt (sym (three_is t) ∙ e ∙ sym is)

pub three_first : (t : Three) (bytes : List ℕ) → three_text t ≡ bytes → decimal t.0 ++ 44 ∷ (decimal t.1 ++ 44 ∷ (decimal t.2 ++ 41 ∷ [])) ≡ bytes
three_first t bytes e = sym (three_is t) ∙ e

pub not_empty : (xs : List ℕ) (r : Bool) → r ≡ eqb (length xs) 0 → r ≡ false → [] ≡ xs → ⊥
not_empty xs r is e empty = let yes : eqb (length xs) 0 ≡ true = ap (λ z. eqb (length z) 0) (sym empty) in cc

-- two triples of one text are one
pub three_one : (t u : Three) (bytes : List ℕ) → AreSmall t → AreSmall u → three_text t ≡ bytes → three_text u ≡ bytes → (t.0 ≡ u.0) × (t.1 ≡ u.1) × (t.2 ≡ u.2)
three_one t u bytes st su e f =
    let a = behind_first t u.0 _ bytes st su.0 (three_first u bytes f) e in
    let b = comma_one t.1 u.1 _ _ st.1 su.1 a.1 in
    let c = number_one t.2 u.2 (41 ∷ []) (41 ∷ []) (wide t.2 st.2) (wide u.2 su.2) (λ d. omega (arith, d.0)) (λ d. omega (arith, d.0)) b.1 in
    (a.0, b.0, c.0)

-- ---- the families T

pub hyperbolic_text : (t : Three) → family_text (families.T t.0 t.1 t.2) ≡ (84 ∷ 40 ∷ []) ++ three_text t
unfolding family_text family_letters family_numbers
hyperbolic_text t = refl

pub record IsTextOfT (bytes : List ℕ) (t : Three) : Type 0 where
  pub listed : IsTrue (is_family (families.T t.0 t.1 t.2))
  pub small : AreSmall t
  pub text : (84 ∷ 40 ∷ []) ++ three_text t ≡ bytes

pub hyperbolic_parts : (f : Family) (bytes : List ℕ) → IsHyperbolic f → family_text f ≡ bytes → (t : Three) × IsTextOfT bytes t
hyperbolic_parts (families.T p q r) bytes h e = ((p, q, r), record { listed = h.0; small = h.1; text = sym (hyperbolic_text (p, q, r)) ∙ e })
hyperbolic_parts _ bytes h e = absurd h

-- the numbers of a family T are those that were read
pub hyperbolic_same : (t u : Three) (numbers bytes : List ℕ) → IsTextOfT bytes t → bytes ≡ (84 ∷ 40 ∷ []) ++ numbers → AreSmall u → three_text u ≡ numbers → IsTrue (is_family (families.T u.0 u.1 u.2))
hyperbolic_same t u numbers bytes h is small e =
    let same = three_one t u numbers h.small small (same_front (84 ∷ 40 ∷ []) _ _ (h.text ∙ is)) e in
    subst (λ (b : Bool). IsTrue b) (λ i. is_family (families.T (same.0 i) (same.1 i) (same.2 i))) h.listed

-- ---- the series

pub a_text : (m : ℕ) → family_text (families.A m) ≡ (65 ∷ []) ++ decimal m
unfolding family_text family_letters family_numbers
a_text m = refl

pub d_text : (m : ℕ) → family_text (families.D m) ≡ (68 ∷ []) ++ decimal m
unfolding family_text family_letters family_numbers
d_text m = refl

pub series_none : (f : Family) (bytes : List ℕ) → IsSeries f → family_text f ≡ bytes → IsNoText (λ m. (1 ≤ m) × (m < 256)) (λ m. (65 ∷ []) ++ decimal m) bytes → IsNoText (λ m. (4 ≤ m) × (m < 256)) (λ m. (68 ∷ []) ++ decimal m) bytes
    → IsNoText IsHyperbolic family_text bytes → ⊥
series_none (families.A m) bytes h e a d t = a m h (sym (a_text m) ∙ e)
series_none (families.D m) bytes h e a d t = d m h (sym (d_text m) ∙ e)
series_none (families.T p q r) bytes h e a d t = t (families.T p q r) h e
series_none _ bytes h e a d t = absurd h
