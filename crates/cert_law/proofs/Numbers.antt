-- Numbers and fractions, read up to a byte that is neither a digit nor a slash.
use Rattle.std.proofs.Common.{◌≡◌, ℕ, suc, ◌+◌, ◌<◌, ◌≤◌, ◌^◌, ◌%◌, Bool, true, false, cond, ℤ, pos, negsuc, List, [], ◌∷◌, ◌++◌, length, refl, sym, ap, ◌∙◌, append_assoc, arith}
use Rattle.std.specs.Prelude.{decimal}
use Rattle.std.specs.List.{AllByRecursion}
use Rattle.std.specs.Fmt.{signed_decimal}
use Rattle.std.specs.Str.Parse.{digits_value}
use Rattle.std.proofs.lemmas.Fmt.{decimal_is_IsNumeral_wide, decimal_by_steps_wide}
use Rattle.std.proofs.lemmas.Bool.Decides.{Decides-int_eq}
use Rattle.ring_law.specs.declared.fraction.Frac.{Frac}
use Rattle.poly_text.specs.Numbers.{fraction_text, over_text, is_whole}
use Rattle.cert_law.specs.Unique.{Starts}
use Rattle.cert_law.specs.Fields.{size, IsSmall, EndsFraction}
use Rattle.cert_law.proofs.Cut.{head, cut}

abbrev pub IsDigit : ℕ → Type 0
IsDigit b = (48 ≤ b) × (b ≤ 57)

abbrev pub NoDigit : ℕ → Type 0
NoDigit b = IsDigit b → ⊥

pub all_append : (P : ℕ → Type 0) (xs ys : List ℕ) → AllByRecursion P xs → AllByRecursion P ys → AllByRecursion P (xs ++ ys)
all_append P [] ys p q = q
all_append P (x ∷ xs) ys p q = (p.0, all_append P xs ys p.1 q)

pub digits : (n : ℕ) → n < 10 ^ 64 → AllByRecursion IsDigit (decimal n)
digits n lt = decimal_by_steps_wide (λ n ds. AllByRecursion IsDigit ds) (λ n small. ((omega arith, omega arith), tt)) (λ n ds big so_far. all_append IsDigit ds ((48 + n % 10) ∷ []) so_far ((omega arith, omega arith), tt)) n lt

value_back : (n : ℕ) → n < 10 ^ 64 → digits_value 10 (decimal n) ≡ n
value_back n lt = (decimal_is_IsNumeral_wide n lt).1

pub number_one : (m n : ℕ) (x y : List ℕ) → m < 10 ^ 64 → n < 10 ^ 64 → Starts NoDigit x → Starts NoDigit y → decimal m ++ x ≡ decimal n ++ y → (m ≡ n) × (x ≡ y)
number_one m n x y lm ln sx sy e =
    let h = cut IsDigit NoDigit (λ b i o. o i) (decimal m) (decimal n) x y (digits m lm) (digits n ln) sx sy e in
    (sym (value_back m lm) ∙ ap (digits_value 10) h.0 ∙ value_back n ln, h.1)

pub nonempty : (n : ℕ) → n < 10 ^ 64 → 0 < length (decimal n)
nonempty n lt = (decimal_is_IsNumeral_wide n lt).0.0

pub no_minus : (ds x y : List ℕ) → 0 < length ds → AllByRecursion IsDigit ds → ds ++ x ≡ 45 ∷ y → ⊥
no_minus [] x y some all e = omega arith
no_minus (d ∷ ds) x y some all e = let h = head d 45 (ds ++ x) y e in omega (arith, h.0, all.0.0)

pub signed_one : (p q : ℤ) (x y : List ℕ) → size p < 10 ^ 64 → size q < 10 ^ 64 → Starts NoDigit x → Starts NoDigit y → signed_decimal p ++ x ≡ signed_decimal q ++ y → (p ≡ q) × (x ≡ y)
signed_one (pos m) (pos n) x y lm ln sx sy e = let h = number_one m n x y lm ln sx sy e in (ap (λ (k : ℕ). pos k) h.0, h.1)
signed_one (pos m) (negsuc n) x y lm ln sx sy e = absurd (no_minus (decimal m) x (decimal (suc n) ++ y) (nonempty m lm) (digits m lm) e)
signed_one (negsuc m) (pos n) x y lm ln sx sy e = absurd (no_minus (decimal n) y (decimal (suc m) ++ x) (nonempty n ln) (digits n ln) (sym e))
signed_one (negsuc m) (negsuc n) x y lm ln sx sy e =
    let h = number_one (suc m) (suc n) x y lm ln sx sy (head 45 45 (decimal (suc m) ++ x) (decimal (suc n) ++ y) e).1 in
    let same : m ≡ n = omega (arith, h.0) in
    (ap (λ (k : ℕ). negsuc k) same, h.1)

-- ---- fractions

plain : (x : List ℕ) → Starts EndsFraction x → Starts NoDigit x
plain [] s = tt
plain (b ∷ bs) s = s.0

over_plain : (t : Bool) (ds x : List ℕ) → Starts EndsFraction x → Starts NoDigit (cond t [] (47 ∷ ds) ++ x)
over_plain true ds x s = plain x s
over_plain false ds x s = λ d. omega (arith, d.1, d.0)

no_slash : (x y : List ℕ) → Starts EndsFraction x → x ≡ 47 ∷ y → ⊥
no_slash [] y s e = absurd cc
no_slash (b ∷ bs) y s e = s.1 (head b 47 bs y e).0

over_one : (t u : Bool) (d e : ℤ) (x y : List ℕ) → size d < 10 ^ 64 → size e < 10 ^ 64 → (t ≡ true → d ≡ pos 1) → (u ≡ true → e ≡ pos 1) → Starts EndsFraction x → Starts EndsFraction y
    → cond t [] (47 ∷ signed_decimal d) ++ x ≡ cond u [] (47 ∷ signed_decimal e) ++ y → (d ≡ e) × (x ≡ y)
over_one true true d e x y ld le td te sx sy eq = (td refl ∙ sym (te refl), eq)
over_one true false d e x y ld le td te sx sy eq = absurd (no_slash x (signed_decimal e ++ y) sx eq)
over_one false true d e x y ld le td te sx sy eq = absurd (no_slash y (signed_decimal d ++ x) sy (sym eq))
over_one false false d e x y ld le td te sx sy eq = signed_one d e x y ld le (plain x sx) (plain y sy) (head 47 47 (signed_decimal d ++ x) (signed_decimal e ++ y) eq).1

pub fraction_is : (p q : Frac) → p.num ≡ q.num → p.den ≡ q.den → p ≡ q
fraction_is p q a b = λ i. record { num = a i; den = b i }

pub fraction_one : (p q : Frac) (x y : List ℕ) → IsSmall p → IsSmall q → Starts EndsFraction x → Starts EndsFraction y → fraction_text p ++ x ≡ fraction_text q ++ y → (p ≡ q) × (x ≡ y)
fraction_one p q x y sp sq sx sy e =
    let e2 : signed_decimal p.num ++ (over_text p.den ++ x) ≡ signed_decimal q.num ++ (over_text q.den ++ y) = sym (append_assoc (signed_decimal p.num) (over_text p.den) x) ∙ e ∙ append_assoc (signed_decimal q.num) (over_text q.den) y in
    let t = is_whole p.den (pos 1) in
    let u = is_whole q.den (pos 1) in
    let h = signed_one p.num q.num (over_text p.den ++ x) (over_text q.den ++ y) sp.num sq.num (over_plain t (signed_decimal p.den) x sx) (over_plain u (signed_decimal q.den) y sy) e2 in
    let k = over_one t u p.den q.den x y sp.den sq.den (Decides-int_eq p.den (pos 1)).0 (Decides-int_eq q.den (pos 1)).0 sx sy h.1 in
    (fraction_is p q h.0 k.0, k.1)
