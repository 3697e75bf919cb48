-- The factors of a monomial.
use Rattle.std.proofs.Common.{◌≡◌, ℕ, ◌+◌, ◌<◌, ◌^◌, Bool, true, false, cond, eqb, List, [], ◌∷◌, ◌++◌, length, refl, sym, ap, ◌∙◌, subst, append_assoc, arith}
use Rattle.std.specs.Prelude.{decimal}
use Rattle.std.specs.List.{AllByRecursion}
use Rattle.std.proofs.lemmas.Bool.{eqb-true}
use Rattle.mono_exp.specs.declared.exponent.Exp.{Exp}
use Rattle.poly_text.specs.declared.name.Name.{Name}
use Rattle.poly_text.specs.Polynomials.{factors_text, new_name, new_names}
use Rattle.cert_law.specs.Unique.{Starts}
use Rattle.cert_law.specs.Fields.{IsMonomial, EndsMonomial}
use Rattle.cert_law.proofs.Cut.{head}
use Rattle.cert_law.proofs.Numbers.{number_one, NoDigit}

-- the exponent of a factor, where it is not 1
abbrev pub raised : Bool → ℕ → List ℕ
raised t e = cond t [] (94 ∷ decimal e)

-- a factor that is there: a star, `u`, the digit d and the exponent
abbrev pub present : ℕ → ℕ → List ℕ
present d e = 42 ∷ 117 ∷ d ∷ raised (eqb e 1) e

-- the factors of the variables u and a digit, from the digit d on
abbrev pub factors_from : ℕ → List ℕ → List ℕ
factors_from d [] = []
factors_from d (e ∷ es) = cond (eqb e 0) [] (present d e) ++ factors_from (d + 1) es

-- the names from the digit d on
abbrev names_from : ℕ → List ℕ → List Name
names_from d [] = []
names_from d (e ∷ es) = new_name d ∷ names_from (d + 1) es

factors_are : (d : ℕ) (es : List ℕ) → factors_text (names_from d es) es ≡ factors_from d es
unfolding factors_text
factors_are d [] = refl
factors_are d (e ∷ es) = ap (λ (z : List ℕ). cond (eqb e 0) [] (present d e) ++ z) (factors_are (d + 1) es)

names_by_length : (d : ℕ) (es fs : List ℕ) → length es ≡ length fs → names_from d es ≡ names_from d fs
names_by_length d [] [] len = refl
names_by_length d [] (f ∷ fs) len = absurd (omega (arith, len))
names_by_length d (e ∷ es) [] len = absurd (omega (arith, len))
names_by_length d (e ∷ es) (f ∷ fs) len = ap (λ (z : List Name). new_name d ∷ z) (names_by_length (d + 1) es fs (omega (arith, len)))

-- the factors of a monomial, each with a star before it
abbrev pub starred : Exp → List ℕ
starred m = factors_text new_names m.e

pub starred_is : (m : Exp) → length m.e ≡ 8 → starred m ≡ factors_from 49 m.e
unfolding new_names
starred_is m eight =
    ap (λ (z : List Name). factors_text z m.e) (sym (names_by_length 49 m.e (0 ∷ 0 ∷ 0 ∷ 0 ∷ 0 ∷ 0 ∷ 0 ∷ 0 ∷ []) eight)) ∙ factors_are 49 m.e

-- what may stand behind a factor: a star, or what ends a body
abbrev EndsFactor : ℕ → Type 0
EndsFactor b = (NoDigit b) × (b ≡ 94 → ⊥)

plain_end : (x : List ℕ) → Starts EndsFactor x → Starts NoDigit x
plain_end [] s = tt
plain_end (b ∷ bs) s = s.0

raised_one : (t s : Bool) (e f : ℕ) (x y : List ℕ) → e < 10 ^ 64 → f < 10 ^ 64 → (t ≡ true → e ≡ 1) → (s ≡ true → f ≡ 1) → Starts EndsFactor x → Starts EndsFactor y → raised t e ++ x ≡ raised s f ++ y → (e ≡ f) × (x ≡ y)
raised_one true true e f x y le lf te tf sx sy eq = (te refl ∙ sym (tf refl), eq)
raised_one true false e f [] y le lf te tf sx sy eq = absurd cc
raised_one true false e f (b ∷ x) y le lf te tf sx sy eq = absurd (sx.1 (head b 94 x (decimal f ++ y) eq).0)
raised_one false true e f x [] le lf te tf sx sy eq = absurd cc
raised_one false true e f x (b ∷ y) le lf te tf sx sy eq = absurd (sy.1 (sym (head 94 b (decimal e ++ x) y eq).0))
raised_one false false e f x y le lf te tf sx sy eq = number_one e f x y le lf (plain_end x sx) (plain_end y sy) (head 94 94 (decimal e ++ x) (decimal f ++ y) eq).1

factor_end : (x : List ℕ) → Starts EndsMonomial x → Starts EndsFactor x
factor_end [] s = tt
factor_end (b ∷ bs) s = (s.0, s.1)

factor_start : (t : Bool) (d e : ℕ) (x : List ℕ) → Starts EndsFactor x → Starts EndsFactor (cond t [] (present d e) ++ x)
factor_start true d e x s = s
factor_start false d e x s = ((λ k. omega (arith, k.0)), (λ q. omega (arith, q)))

factors_start : (d : ℕ) (es x : List ℕ) → Starts EndsMonomial x → Starts EndsFactor (factors_from d es ++ x)
factors_start d [] x s = factor_end x s
factors_start d (e ∷ es) x s =
    let whole : factors_from d (e ∷ es) ++ x ≡ cond (eqb e 0) [] (present d e) ++ (factors_from (d + 1) es ++ x) = append_assoc (cond (eqb e 0) [] (present d e)) (factors_from (d + 1) es) x in
    subst (Starts EndsFactor) (sym whole) (factor_start (eqb e 0) d e (factors_from (d + 1) es ++ x) (factors_start (d + 1) es x s))

-- two factors that are there
present_one : (c d e f : ℕ) (x y : List ℕ) → e < 10 ^ 64 → f < 10 ^ 64 → Starts EndsFactor x → Starts EndsFactor y → present c e ++ x ≡ present d f ++ y → (c ≡ d) × (e ≡ f) × (x ≡ y)
present_one c d e f x y le lf sx sy eq =
    let inner = head c d _ _ (head 117 117 _ _ (head 42 42 _ _ eq).1).1 in
    let b = raised_one (eqb e 1) (eqb f 1) e f x y le lf (eqb-true e 1) (eqb-true f 1) sx sy inner.1 in
    (inner.0, b.0, b.1)

abbrev Fit : List ℕ → Type 0
Fit es = AllByRecursion (λ e. e < 10 ^ 64) es

-- the factors of later variables do not begin with this one's
later_step : (t : Bool) (c d e f : ℕ) (rest x y : List ℕ) → c < d → e < 10 ^ 64 → f < 10 ^ 64 → Starts EndsFactor y → Starts EndsFactor (rest ++ x)
    → (rest ++ x ≡ present c f ++ y → ⊥) → cond t [] (present d e) ++ (rest ++ x) ≡ present c f ++ y → ⊥
later_step true c d e f rest x y lt le lf sy sx others eq = others eq
later_step false c d e f rest x y lt le lf sy sx others eq = let h = present_one d c e f (rest ++ x) y le lf sx sy eq in omega (arith, h.0)

later : (c d f : ℕ) (es x y : List ℕ) → c < d → f < 10 ^ 64 → Fit es → Starts EndsMonomial x → Starts EndsFactor y → factors_from d es ++ x ≡ present c f ++ y → ⊥
later c d f [] [] y lt lf fit sx sy eq = absurd cc
later c d f [] (b ∷ x) y lt lf fit sx sy eq = sx.2 (head b 42 x _ eq).0
later c d f (e ∷ es) x y lt lf fit sx sy eq =
    let whole : factors_from d (e ∷ es) ++ x ≡ cond (eqb e 0) [] (present d e) ++ (factors_from (d + 1) es ++ x) = append_assoc (cond (eqb e 0) [] (present d e)) (factors_from (d + 1) es) x in
    later_step (eqb e 0) c d e f (factors_from (d + 1) es) x y lt fit.0 lf sy (factors_start (d + 1) es x sx)
    (λ q. later c (d + 1) f es x y (omega (arith, lt)) lf fit.1 sx sy q) (sym whole ∙ eq)

factors_step : (t s : Bool) (d e f : ℕ) (x y : List ℕ) → (t ≡ true → e ≡ 0) → (s ≡ true → f ≡ 0) → e < 10 ^ 64 → f < 10 ^ 64 → Starts EndsFactor x → Starts EndsFactor y
    → (x ≡ present d f ++ y → ⊥) → (y ≡ present d e ++ x → ⊥)
    → cond t [] (present d e) ++ x ≡ cond s [] (present d f) ++ y → (e ≡ f) × (x ≡ y)
factors_step true true d e f x y te tf le lf sx sy la lb eq = (te refl ∙ sym (tf refl), eq)
factors_step true false d e f x y te tf le lf sx sy la lb eq = absurd (la eq)
factors_step false true d e f x y te tf le lf sx sy la lb eq = absurd (lb (sym eq))
factors_step false false d e f x y te tf le lf sx sy la lb eq = let h = present_one d d e f _ _ le lf sx sy eq in (h.1, h.2)

factors_one : (d : ℕ) (es fs x y : List ℕ) → length es ≡ length fs → Fit es → Fit fs → Starts EndsMonomial x → Starts EndsMonomial y → factors_from d es ++ x ≡ factors_from d fs ++ y → (es ≡ fs) × (x ≡ y)
factors_one d [] [] x y len oe of sx sy eq = (refl, eq)
factors_one d [] (f ∷ fs) x y len oe of sx sy eq = absurd (omega (arith, len))
factors_one d (e ∷ es) [] x y len oe of sx sy eq = absurd (omega (arith, len))
factors_one d (e ∷ es) (f ∷ fs) x y len oe of sx sy eq =
    let left : factors_from d (e ∷ es) ++ x ≡ cond (eqb e 0) [] (present d e) ++ (factors_from (d + 1) es ++ x) = append_assoc (cond (eqb e 0) [] (present d e)) (factors_from (d + 1) es) x in
    let right : factors_from d (f ∷ fs) ++ y ≡ cond (eqb f 0) [] (present d f) ++ (factors_from (d + 1) fs ++ y) = append_assoc (cond (eqb f 0) [] (present d f)) (factors_from (d + 1) fs) y in
    let h = factors_step (eqb e 0) (eqb f 0) d e f (factors_from (d + 1) es ++ x) (factors_from (d + 1) fs ++ y) (eqb-true e 0) (eqb-true f 0) oe.0 of.0 (factors_start (d + 1) es x sx) (factors_start (d + 1) fs y sy)
    (λ q. later d (d + 1) f es x (factors_from (d + 1) fs ++ y) (omega arith) of.0 oe.1 sx (factors_start (d + 1) fs y sy) q)
    (λ q. later d (d + 1) e fs y (factors_from (d + 1) es ++ x) (omega arith) oe.0 of.1 sy (factors_start (d + 1) es x sx) q)
    (sym left ∙ eq ∙ right) in
    let r = factors_one (d + 1) es fs x y (omega (arith, len)) oe.1 of.1 sx sy h.1 in
    (cc (h.0, r.0), r.1)

wide : (es : List ℕ) → AllByRecursion (λ e. e < 256) es → Fit es
wide [] a = tt
wide (e ∷ es) a = (omega (arith, a.0), wide es a.1)

pub exponents_is : (m n : Exp) → m.e ≡ n.e → m ≡ n
exponents_is m n a = λ i. record { e = a i }

pub monomial_one : (m n : Exp) (x y : List ℕ) → IsMonomial m → IsMonomial n → Starts EndsMonomial x → Starts EndsMonomial y → starred m ++ x ≡ starred n ++ y → (m ≡ n) × (x ≡ y)
monomial_one m n x y om on sx sy e =
    let h = factors_one 49 m.e n.e x y (om.eight ∙ sym on.eight) (wide m.e om.fit) (wide n.e on.fit) sx sy
    (ap (λ (z : List ℕ). z ++ x) (sym (starred_is m om.eight)) ∙ e ∙ ap (λ (z : List ℕ). z ++ y) (starred_is n on.eight)) in
    (exponents_is m n h.0, h.1)
