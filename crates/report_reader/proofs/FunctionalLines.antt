-- The functional of a limit report: numbers of monomials, values one after the other, and the head before them.
use Rattle.std.proofs.Common.{◌≡◌, ℕ, zero, suc, ◌+◌, ◌-◌, ◌<◌, ◌≤◌, ◌^◌, Bool, true, false, ◌&&◌, eqb, leb, pos, List, [], ◌∷◌, ◌++◌, length, take, drop, get_or, refl, sym, ap, ◌∙◌, subst, append_assoc, length-append, arith}
use Rattle.std.specs.Prelude.{decimal, not, sum}
use Rattle.std.specs.List.{AllByRecursion, flat_map, list_all}
use Rattle.std.proofs.lemmas.Bool.{eq-eqb, eqb-true, le-leb, leb-false, leb-true}
use Rattle.std.proofs.lemmas.List.{get_or-map}
use Rattle.std.proofs.Math.Seq.{drop-append_seam, take-append_seam}
use Rattle.std.specs.Cmp.Derive.{both_true}
use Rattle.ring_theory.specs.Gcd.{gcd}
use Rattle.ring_law.specs.declared.fraction.Frac.{Frac}
use Rattle.ext_algebra.specs.declared.algebra.Algebra.{Algebra}
use Rattle.ext_algebra.specs.declared.algebra.Algebra.TheVariants as algebras
use Rattle.ext_algebra.specs.declared.algebra.Ext.{Ext}
use Rattle.ext_algebra.specs.Algebra.{is_element}
use Rattle.mono_exp.specs.declared.exponent.Exp.{Exp}
use Rattle.mono_exp.specs.Exponents.{IsIn, exponents, is_before, monomials_below, rank_of}
use Rattle.mono_exp.proofs.Counting.{below_are_long, count_below, count-le, place, place_at_least, place_below, places, rank_is_place}
use Rattle.mono_exp.proofs.Lists.{each-at, get_or-numbers_below, sum-cons}
use Rattle.mono_exp.proofs.NumberLemmas.{exponents-take, length-exponents, sum-exponents}
use Rattle.mono_exp.proofs.OrderLaws.{ranks-rise}
use Rattle.mono_exp.proofs.Table.{count-small, length-monomials_below}
use Rattle.jacobian_row.proofs.NumberLemmas.{before_in}
use Rattle.jet_poly.specs.JetTerms.{AllAfter, IsRising}
use Rattle.jet_poly.proofs.Output.{before-rank}
use Rattle.poly_text.specs.Numbers.{element_text}
use Rattle.poly_text.specs.Polynomials.{monomial_text}
use Rattle.cert_text.specs.declared.word.Word.TheVariants as words
use Rattle.cert_text.specs.Text.{functional_text, line, word_line, functional_inside}
use Rattle.cert_text.specs.WellFormed.{is_monomial_in, is_zero_element, list_limit}
use Rattle.cert_law.specs.Unique.{IsSelfEnding}
use Rattle.cert_law.proofs.Reporting.{functional_head, low_monomial, value_by}
use Rattle.cert_law.proofs.Series.{functional_line}
use Rattle.cert_law.proofs.Valid.{all_to, both}
use Rattle.text_reader.specs.Elements.{rational_element}
use Rattle.text_reader.specs.Reading.{IsNoText}
use Rattle.text_reader.proofs.Visible.{digits_lack}
use Rattle.text_reader.specs.Terms.{one_monomial}
use Rattle.row_reader.specs.Values.{IsFunctionalValue, IsResidual}
use Rattle.row_reader.proofs.ValueTexts.{functional_valid}
use Rattle.report_reader.specs.Blocks.{IsNotAtFront, IsStop}
use Rattle.report_reader.specs.Functional.{AreFrom, IsFunctional, IsHead, IsLater, Term, functional_lines, head_line, number_limit, number_of}
use Rattle.report_reader.specs.Lines.{IsClean, IsCounted, counted_monomial_text}
use Rattle.report_reader.proofs.EvidenceLines.{one_residual}
use Rattle.report_reader.proofs.Fronts.{clean-append, line-line, line-word_line}
use Rattle.report_reader.proofs.RowLines.{line_stop}
use Rattle.report_reader.proofs.CleanTexts.{monomial_clean, element_clean}
use Rattle.report_reader.proofs.Stops.{IsApart, IsLine, IsPair, pair_first, pair_second, stop_behind, stop_here, whole-line}

-- ---- how many residual monomials there are

limit_is : (n : ℕ) → number_limit n ≡ count_below n 18
limit_is n = length-monomials_below n 18

pub limit_there : (k n m : ℕ) → n ≡ m → k ≡ count_below m 18 → k ≡ number_limit n
limit_there k n m e h = h ∙ sym (limit_is m) ∙ ap number_limit (sym e)

-- ---- residual monomials by their numbers

zero_in : (n : ℕ) (e : List ℕ) → list_all (λ x. eqb x 0) (drop n e) ≡ true → (i : ℕ) → n ≤ i → get_or e i 0 ≡ 0
zero_in zero [] h zero le = refl
zero_in zero [] h (suc i) le = refl
zero_in zero (x ∷ e) h zero le = eqb-true x 0 (both (eqb x 0) (list_all (λ x. eqb x 0) e) h).0
zero_in zero (x ∷ e) h (suc i) le = zero_in zero e (both (eqb x 0) (list_all (λ x. eqb x 0) e) h).1 i (omega arith)
zero_in (suc n) [] h zero le = refl
zero_in (suc n) [] h (suc i) le = refl
zero_in (suc n) (x ∷ e) h zero le = absurd (omega (arith, le))
zero_in (suc n) (x ∷ e) h (suc i) le = zero_in n e h i (omega (arith, le))

-- what a residual monomial is
pub record IsResidualOf (n : ℕ) (m : Exp) : Type 0 where
  pub unused : IsIn n m.e
  pub eight : length m.e ≡ 8
  pub degree : sum m.e ≤ 17

pub residual_of : (n : ℕ) (m : Exp) → IsResidual n m → IsResidualOf n m
residual_of n m h =
    let p = both (is_monomial_in n m) (leb (sum m.e) 17) h in
    let q = both (eqb (length m.e) 8) (list_all (λ x. eqb x 0) (drop n m.e)) p.0 in
    record { unused = zero_in n m.e q.1; eight = eqb-true (length m.e) 8 q.0; degree = leb-true (sum m.e) 17 p.1 }

pub number_below : (n : ℕ) (m : Exp) → IsResidual n m → number_of n m < number_limit n
number_below n m h =
    let r = residual_of n m h in
    let e = exponents n m.e in
    let size = length-exponents n m.e in
    let low : place e < count_below (length e) (suc (sum e)) = place_below e in
    let same : sum e ≡ sum m.e = sum-exponents n m.e r.unused in
    let up : count_below n (suc (sum e)) ≤ count_below n 18 = count-le n (suc (sum e)) 18 (omega (arith, same, r.degree)) in
    let here : place e < count_below n (suc (sum e)) = subst (λ k. place e < count_below k (suc (sum e))) size low in
    let rank : rank_of n e ≡ place e = rank_is_place n e size in
    let total = limit_is n in
    omega (arith, here, up, rank, total)

pub before_number : (n : ℕ) (a b : Exp) → IsResidual n a → IsResidual n b → is_before a.e b.e ≡ true → number_of n a < number_of n b
before_number n a b ha hb h = (ranks-rise n (exponents n a.e) (exponents n b.e) (length-exponents n a.e) (length-exponents n b.e)).0 (before_in n a.e b.e (residual_of n a ha).unused (residual_of n b hb).unused h)

pub number_before : (n : ℕ) (a b : Exp) → n ≤ 8 → IsResidual n a → IsResidual n b → number_of n a < number_of n b → is_before a.e b.e ≡ true
number_before n a b le ha hb lt =
    let p = residual_of n a ha in
    let q = residual_of n b hb in
    before-rank n a.e b.e le p.eight q.eight p.unused q.unused lt

zeros_list : ℕ → List ℕ
zeros_list zero = []
zeros_list (suc k) = 0 ∷ zeros_list k

zeros_long : (k : ℕ) → length (zeros_list k) ≡ k
unfolding zeros_list
zeros_long zero = refl
zeros_long (suc k) = let h = zeros_long k in omega (arith, h)

zeros_sum : (k : ℕ) → sum (zeros_list k) ≡ 0
unfolding zeros_list
zeros_sum zero = refl
zeros_sum (suc k) = sum-cons 0 (zeros_list k) ∙ (let h = zeros_sum k in omega (arith, h))

zeros_all : (k : ℕ) → list_all (λ x. eqb x 0) (zeros_list k) ≡ true
unfolding zeros_list
zeros_all zero = refl
zeros_all (suc k) = zeros_all k

sum_append : (xs ys : List ℕ) → sum (xs ++ ys) ≡ sum xs + sum ys
sum_append [] ys = let z : 0 + sum ys ≡ sum ys = omega arith in sym z
sum_append (x ∷ xs) ys =
    let a = sum-cons x (xs ++ ys) in
    let b = sum_append xs ys in
    let c = sum-cons x xs in
    omega (arith, a, b, c)

padded : ℕ → List ℕ → Exp
padded n x = record { e = x ++ zeros_list (8 - n) }

padded_residual : (n : ℕ) (x : List ℕ) → n ≤ 8 → length x ≡ n → sum x ≤ 17 → IsResidual n (padded n x)
unfolding padded
padded_residual n x le size low =
    let e = x ++ zeros_list (8 - n) in
    let long : length e ≡ 8 = (let a = length-append x (zeros_list (8 - n)) in let b = zeros_long (8 - n) in omega (arith, a, b, size, le)) in
    let behind : drop n e ≡ zeros_list (8 - n) = subst (λ k. drop k e ≡ zeros_list (8 - n)) size (drop-append_seam x (zeros_list (8 - n))) in
    let all : list_all (λ x. eqb x 0) (drop n e) ≡ true = ap (list_all (λ x. eqb x 0)) behind ∙ zeros_all (8 - n) in
    let total : sum e ≤ 17 = (let a = sum_append x (zeros_list (8 - n)) in let b = zeros_sum (8 - n) in omega (arith, a, b, low)) in
    both_true (both_true (eq-eqb (length e) 8 long) all) (le-leb (sum e) 17 total)

padded_number : (n : ℕ) (x : List ℕ) → n ≤ 8 → length x ≡ n → number_of n (padded n x) ≡ place x
unfolding padded
padded_number n x le size =
    let e = x ++ zeros_list (8 - n) in
    let long : n ≤ length e = (let a = length-append x (zeros_list (8 - n)) in omega (arith, a, size)) in
    let front : take n e ≡ x = subst (λ k. take k e ≡ x) size (take-append_seam x (zeros_list (8 - n))) in
    let same : exponents n e ≡ x = exponents-take n e long ∙ front in
    ap (rank_of n) same ∙ rank_is_place n x size

-- there is a residual monomial of each number below the limit
pub monomial_with : (n r : ℕ) → n ≤ 8 → r < number_limit n → (m : Exp) × IsResidual n m × (number_of n m ≡ r)
monomial_with n r le lt =
    let ms = monomials_below n 18 in
    let x = get_or ms r [] in
    let size : length x ≡ n = each-at (λ m. length m ≡ n) ms r [] lt (below_are_long n 18) in
    let counted : r < count_below n 18 = (let a = limit_is n in omega (arith, a, lt)) in
    let at : place x ≡ r = sym (get_or-map place ms r [] 0 lt) ∙ ap (λ l. get_or l r 0) (places n 18) ∙ get_or-numbers_below (count_below n 18) r 0 counted in
    let low : sum x ≤ 17 = by_degree (sum x) (count_below n (sum x)) r (count_below n 18) (count-le n 18 (sum x)) (subst (λ k. count_below k (sum x) ≤ r) size (subst (λ p. count_below (length x) (sum x) ≤ p) at (place_at_least x))) counted in
    (padded n x, padded_residual n x le size low, padded_number n x le size ∙ at)
  where
    by_degree : (d c r top : ℕ) → (18 ≤ d → top ≤ c) → c ≤ r → r < top → d ≤ 17
    by_degree d c r top up at_most below = by_test (leb d 17) refl
      where
        by_test : (t : Bool) → leb d 17 ≡ t → d ≤ 17
        by_test true e = leb-true d 17 e
        by_test false e = (let high = leb-false d 17 e in let a = up (omega (arith, high)) in absurd (omega (arith, a, at_most, below)))

-- ---- values one after the other

one_element : Ext Frac
one_element = rational_element (record { num = pos 1; den = pos 1 })

one_valid : (a : Algebra) → (is_element a one_element && not (is_zero_element one_element)) ≡ true
unfolding is_element one_element gcd
one_valid algebras.Rational = refl
one_valid (algebras.Quadratic m1 m0) = refl
one_valid (algebras.Cubic m2 m1 m0) = refl
one_valid (algebras.Tower m2 m1 m0 d) = refl

one_value : (a : Algebra) (n : ℕ) (m : Exp) → IsResidual n m → IsFunctionalValue a n (m, one_element)
one_value a n m h = both_true h (one_valid a)

pub value_residual : (a : Algebra) (n : ℕ) (v : Term) → IsFunctionalValue a n v → IsResidual n v.0
value_residual a n v h = (functional_valid a n v h).0

-- where there is room, there are values
pub fill : (a : Algebra) (n low k : ℕ) → n ≤ 8 → low + k ≤ number_limit n → (vs : List Term) × AreFrom a n low k vs
fill a n low zero le room = ([], tt)
fill a n low (suc k) le room =
    let m = monomial_with n low le (omega (arith, room)) in
    let at = m.2 in
    let rest = fill a n (suc low) k le (omega (arith, room)) in
    ((m.0, one_element) ∷ rest.0, (one_value a n m.0 m.1, omega (arith, at), subst (λ j. AreFrom a n (suc j) k rest.0) (sym at) rest.1))

-- values have room
pub from_room : (a : Algebra) (n low k : ℕ) (vs : List Term) → low ≤ number_limit n → AreFrom a n low k vs → low + k ≤ number_limit n
from_room a n low zero [] le h = omega (arith, le)
from_room a n low zero (v ∷ vs) le h = absurd h
from_room a n low (suc k) [] le h = absurd h
from_room a n low (suc k) (v ∷ vs) le h =
    let below = number_below n v.0 (value_residual a n v h.0) in
    let later = h.1 in
    let rest = from_room a n (suc (number_of n v.0)) k vs (omega (arith, below)) h.2 in
    omega (arith, rest, later)

later_of : (a : Algebra) (n low k : ℕ) (v : Term) (vs : List Term) → AreFrom a n low (suc k) (v ∷ vs) → IsLater a n low (suc k) v
later_of a n low k v vs h =
    let below = number_below n v.0 (value_residual a n v h.0) in
    let rest = from_room a n (suc (number_of n v.0)) k vs (omega (arith, below)) h.2 in
    record { value = h.0; later = h.1; room = omega (arith, rest) }

-- values that were read, of so many, and the least number of the next
abbrev pub AreDone : Algebra → ℕ → ℕ → ℕ → List Term → ℕ → Type 0
AreDone a n low k [] next = (low ≡ next) × (low + k ≤ number_limit n)
AreDone a n low zero (v ∷ vs) next = ⊥
AreDone a n low (suc k) (v ∷ vs) next = IsLater a n low (suc k) v × AreDone a n (suc (number_of n v.0)) k vs next

pub done_push : (a : Algebra) (n low k left : ℕ) (vs : List Term) (next : ℕ) (v : Term) → AreDone a n low k vs next → length vs + left ≡ k → 0 < left → IsLater a n next left v → AreDone a n low k (vs ++ v ∷ []) (suc (number_of n v.0))
done_push a n low zero left [] next v d size lt h = absurd (omega (arith, size, lt))
done_push a n low (suc k) left [] next v d size lt h =
    let same : left ≡ suc k = omega (arith, size) in
    let is = d.0 in
    let room = h.room in
    (subst (λ j. IsLater a n low j v) same (subst (λ l. IsLater a n l left v) (sym is) h), (refl, omega (arith, room, same)))
done_push a n low zero left (u ∷ vs) next v d size lt h = absurd d
done_push a n low (suc k) left (u ∷ vs) next v d size lt h = (d.0, done_push a n (suc (number_of n u.0)) k left vs next v d.1 (omega (arith, size)) lt h)

pub done_all : (a : Algebra) (n low k : ℕ) (vs : List Term) (next : ℕ) → AreDone a n low k vs next → length vs ≡ k → AreFrom a n low k vs
done_all a n low zero [] next d size = tt
done_all a n low (suc k) [] next d size = absurd (omega (arith, size))
done_all a n low zero (v ∷ vs) next d size = absurd d
done_all a n low (suc k) (v ∷ vs) next d size = (d.0.value, d.0.later, done_all a n (suc (number_of n v.0)) k vs next d.1 (omega (arith, size)))

-- ---- lines

pub value_clean : (a : Algebra) (n : ℕ) (v : Term) → IsFunctionalValue a n v → IsClean (functional_inside v)
value_clean a n v h =
    let p = functional_valid a n v h in
    clean-append (monomial_text v.0) (32 ∷ element_text v.1) (monomial_clean n v.0 p.0) ((λ e. omega (arith, e)), element_clean a v.1 p.1)

value_is_line : (a : Algebra) (n : ℕ) (v : Term) → IsFunctionalValue a n v → IsLine (functional_text v)
unfolding functional_text
value_is_line a n v h = line-line (functional_inside v) (value_clean a n v h)

inside_text : (v : Term) → functional_text v ≡ line (functional_inside v)
unfolding functional_text
inside_text v = refl

-- two values of one text are one
pub value_same : (a : Algebra) (n : ℕ) (u v : Term) → IsFunctionalValue a n u → IsFunctionalValue a n v → functional_inside u ≡ functional_inside v → u ≡ v
value_same a n u v hu hv e = (functional_line.one u v [] [] (value_by a n u hu) (value_by a n v hv) (ap (λ z. z ++ []) (inside_text u ∙ ap line e ∙ sym (inside_text v)))).0

-- the next value is not at the front: none, or one without room
pub no_value : (a : Algebra) (n low left : ℕ) (text : List ℕ) → IsNoText (IsFunctionalValue a n) functional_inside text → IsNoText (IsLater a n low left) functional_inside text
no_value a n low left text none v h e = none v h.value e

pub no_room : (a : Algebra) (n low left : ℕ) (v : Term) (text : List ℕ) → IsFunctionalValue a n v → functional_inside v ≡ text → ((low ≤ number_of n v.0) × (number_of n v.0 + left ≤ number_limit n) → ⊥) → IsNoText (IsLater a n low left) functional_inside text
no_room a n low left v text hv own none u h e =
    let same = value_same a n u v h.value hv (e ∙ sym own) in
    none (subst (λ (w : Term). (low ≤ number_of n w.0) × (number_of n w.0 + left ≤ number_limit n)) same (h.later, h.room))

first_apart : (a : Algebra) (n low k : ℕ) (bytes : List ℕ) (vs : List Term) → 0 < k → IsNotAtFront (IsLater a n low k) functional_text bytes → AreFrom a n low k vs → IsApart (flat_map functional_text vs) bytes
first_apart a n low zero bytes vs lt none h = absurd (omega (arith, lt))
first_apart a n low (suc k) bytes [] lt none h = absurd h
first_apart a n low (suc k) bytes (v ∷ vs) lt none h = record { first = functional_text v; tail = flat_map functional_text vs; line = value_is_line a n v h.0; is = refl; never = λ more e. none v more (later_of a n low k v vs h) e }

pub values_stop : (a : Algebra) (n low k left : ℕ) (done : List Term) (next : ℕ) (bytes rest : List ℕ) → n ≤ 8 → AreDone a n low k done next → length done + left ≡ k → 0 < left → flat_map functional_text done ++ rest ≡ bytes → IsNotAtFront (IsLater a n next left) functional_text rest
    → IsStop (AreFrom a n low k) (flat_map functional_text) bytes (length rest)
values_stop a n low k left [] next bytes rest le d size lt e none =
    let filled = fill a n low k le d.1 in
    let same : left ≡ k = omega (arith, size) in
    let here : IsNotAtFront (IsLater a n low k) functional_text rest = subst (λ j. IsNotAtFront (IsLater a n low j) functional_text rest) same (subst (λ l. IsNotAtFront (IsLater a n l left) functional_text rest) (sym d.0) none) in
    subst (λ (z : List ℕ). IsStop (AreFrom a n low k) (flat_map functional_text) z (length rest)) e
    (stop_here (AreFrom a n low k) (flat_map functional_text) rest filled.0 filled.1 (λ vs is. first_apart a n low k rest vs (omega (arith, lt, same)) here is))
values_stop a n low zero left (v ∷ done) next bytes rest le d size lt e none = absurd d
values_stop a n low (suc k) left (v ∷ done) next bytes rest le d size lt e none =
    stop_behind (AreFrom a n low (suc k)) (flat_map functional_text) (AreFrom a n (suc (number_of n v.0)) k) (flat_map functional_text) bytes (functional_text v) (flat_map functional_text done ++ rest) (length rest)
    (whole-line (functional_text v) (value_is_line a n v d.0.value)) (sym (append_assoc (functional_text v) (flat_map functional_text done) rest) ∙ e)
    (λ vs is. (v ∷ vs, (d.0.value, d.0.later, is), refl))
    (λ vs x y is f. out vs x y is f)
    (values_stop a n (suc (number_of n v.0)) k left done next (flat_map functional_text done ++ rest) rest le d.1 (omega (arith, size)) lt refl none)
  where
    out : (vs : List Term) (x y : List ℕ) → AreFrom a n low (suc k) vs → flat_map functional_text vs ++ x ≡ functional_text v ++ y → (us : List Term) × AreFrom a n (suc (number_of n v.0)) k us × (flat_map functional_text vs ≡ functional_text v ++ flat_map functional_text us)
    out [] x y is f = absurd is
    out (u ∷ vs) x y is f =
        let h = functional_line.one u v (flat_map functional_text vs ++ x) y (value_by a n u is.0) (value_by a n v d.0.value) (sym (append_assoc (functional_text u) (flat_map functional_text vs) x) ∙ f) in
        (vs, subst (λ (w : Term). AreFrom a n (suc (number_of n w.0)) k vs) h.0 is.2, ap (λ (w : Term). functional_text w ++ flat_map functional_text vs) h.0)

-- ---- rising values

all_later : (a : Algebra) (n low k : ℕ) (vs : List Term) → AreFrom a n low k vs → AllByRecursion (λ v. low ≤ number_of n v.0) vs
all_later a n low zero [] h = tt
all_later a n low zero (v ∷ vs) h = absurd h
all_later a n low (suc k) [] h = absurd h
all_later a n low (suc k) (v ∷ vs) h =
    let later = h.1 in
    (later, all_to (λ u. suc (number_of n v.0) ≤ number_of n u.0) (λ u. low ≤ number_of n u.0) (λ u le. omega (arith, le, later)) vs (all_later a n (suc (number_of n v.0)) k vs h.2))

from_values : (a : Algebra) (n low k : ℕ) (vs : List Term) → AreFrom a n low k vs → AllByRecursion (IsFunctionalValue a n) vs
from_values a n low zero [] h = tt
from_values a n low zero (v ∷ vs) h = absurd h
from_values a n low (suc k) [] h = absurd h
from_values a n low (suc k) (v ∷ vs) h = (h.0, from_values a n (suc (number_of n v.0)) k vs h.2)

from_length : (a : Algebra) (n low k : ℕ) (vs : List Term) → AreFrom a n low k vs → length vs ≡ k
from_length a n low zero [] h = refl
from_length a n low zero (v ∷ vs) h = absurd h
from_length a n low (suc k) [] h = absurd h
from_length a n low (suc k) (v ∷ vs) h = let e = from_length a n (suc (number_of n v.0)) k vs h.2 in omega (arith, e)

after_all : (a : Algebra) (n : ℕ) (m : Exp) (vs : List Term) → n ≤ 8 → IsResidual n m → AllByRecursion (IsFunctionalValue a n) vs → AllByRecursion (λ v. suc (number_of n m) ≤ number_of n v.0) vs → AllAfter m vs
after_all a n m [] le h each later = tt
after_all a n m (v ∷ vs) le h each later = (number_before n m v.0 le h (value_residual a n v each.0) (let lt = later.0 in omega (arith, lt)), after_all a n m vs le h each.1 later.1)

from_rising : (a : Algebra) (n low k : ℕ) (vs : List Term) → n ≤ 8 → AreFrom a n low k vs → IsRising vs
from_rising a n low zero [] le h = tt
from_rising a n low zero (v ∷ vs) le h = absurd h
from_rising a n low (suc k) [] le h = absurd h
from_rising a n low (suc k) (v ∷ vs) le h =
    (after_all a n v.0 vs le (value_residual a n v h.0) (from_values a n (suc (number_of n v.0)) k vs h.2) (all_later a n (suc (number_of n v.0)) k vs h.2), from_rising a n (suc (number_of n v.0)) k vs le h.2)

numbers_after : (a : Algebra) (n : ℕ) (m : Exp) (vs : List Term) → IsResidual n m → AllByRecursion (IsFunctionalValue a n) vs → AllAfter m vs → AllByRecursion (λ v. suc (number_of n m) ≤ number_of n v.0) vs
numbers_after a n m [] h each after = tt
numbers_after a n m (v ∷ vs) h each after = ((let lt = before_number n m v.0 h (value_residual a n v each.0) after.0 in omega (arith, lt)), numbers_after a n m vs h each.1 after.1)

rising_from : (a : Algebra) (n low k : ℕ) (vs : List Term) → length vs ≡ k → IsRising vs → AllByRecursion (IsFunctionalValue a n) vs → AllByRecursion (λ v. low ≤ number_of n v.0) vs → AreFrom a n low k vs
rising_from a n low zero [] size rising each later = tt
rising_from a n low zero (v ∷ vs) size rising each later = absurd (omega (arith, size))
rising_from a n low (suc k) [] size rising each later = absurd (omega (arith, size))
rising_from a n low (suc k) (v ∷ vs) size rising each later =
    (each.0, later.0, rising_from a n (suc (number_of n v.0)) k vs (omega (arith, size)) rising.1 each.1 (numbers_after a n v.0 vs (value_residual a n v each.0) each.1 rising.0))

from_start : (n : ℕ) (vs : List Term) → AllByRecursion (λ v. 0 ≤ number_of n v.0) vs
from_start n [] = tt
from_start n (v ∷ vs) = (omega arith, from_start n vs)

-- ---- the head, and the values behind it

pub head_clean : (n : ℕ) (h : Exp × ℕ) → IsHead n h → IsClean (counted_monomial_text h)
head_clean n h is =
    let few = is.few in
    clean-append (monomial_text h.0) (32 ∷ decimal h.1) (monomial_clean n h.0 is.monomial) ((λ e. omega (arith, e)), digits_lack 10 h.1 (omega arith) (omega (arith, few)))

head_is_line : (n : ℕ) (h : Exp × ℕ) → IsHead n h → IsLine (head_line h)
head_is_line n h is = line-word_line words.Functional (counted_monomial_text h) (head_clean n h is)

head_same : (n : ℕ) (g h : Exp × ℕ) → IsResidual n g.0 → g.1 < 2 ^ 64 → IsResidual n h.0 → h.1 < 2 ^ 64 → (x y : List ℕ) → head_line g ++ x ≡ head_line h ++ y → (g ≡ h) × (x ≡ y)
head_same n g h rg lg rh lh x y e =
    let k = functional_head g.0 h.0 g.1 h.1 x y (low_monomial n g.0 rg) (low_monomial n h.0 rh) (omega (arith, lg)) (omega (arith, lh)) e in
    ((λ i. (k.0 i, k.1 i)), k.2)

pub head_told : (n : ℕ) → IsSelfEnding (IsHead n) head_line
head_told n = record { one = λ g h x y ig ih e. let a = ig.few in let b = ih.few in head_same n g h ig.monomial (omega (arith, a)) ih.monomial (omega (arith, b)) x y e }

-- a head that is read and has no room
pub no_head : (n : ℕ) (h : Exp × ℕ) (text : List ℕ) → IsResidual n h.0 → h.1 < 2 ^ 64 → counted_monomial_text h ≡ text → ((h.1 ≤ list_limit) × (h.1 ≤ number_limit n) → ⊥) → IsNoText (IsHead n) counted_monomial_text text
no_head n h text rh lh own none g is e =
    let a = is.few in
    let same = (head_same n g h is.monomial (omega (arith, a)) rh lh [] [] (ap (λ z. word_line words.Functional z ++ []) (e ∙ sym own))).0 in
    none (subst (λ (w : Exp × ℕ). (w.1 ≤ list_limit) × (w.1 ≤ number_limit n)) same (is.few, is.room))

pub no_counted : (n : ℕ) (text : List ℕ) → IsNoText (IsCounted n) counted_monomial_text text → IsNoText (IsHead n) counted_monomial_text text
no_counted n text none h is e = let few = is.few in none h (is.monomial, omega (arith, few)) e

pub some_head : (n : ℕ) → (h : Exp × ℕ) × IsHead n h
some_head n = ((one_monomial, 0), record { monomial = one_residual n; few = omega arith; room = omega arith })

functional_pair : (a : Algebra) (n : ℕ) → n ≤ 8 → IsPair (IsHead n) head_line (λ h vs. AreFrom a n 0 h.1 vs) (flat_map functional_text) (IsFunctional a n) functional_lines
functional_pair a n le = record {
  lines = λ h is. whole-line (head_line h) (head_is_line n h is);
  told = head_told n;
  some = λ h is. let room = is.room in fill a n 0 h.1 le (omega (arith, room));
  join = λ h vs is from.
      let size = from_length a n 0 h.1 vs from in
      let few = is.few in
      ((h.0, vs), record { at = is.monomial; few = omega (arith, few, size); rising = from_rising a n 0 h.1 vs le from; values = from_values a n 0 h.1 vs from }, ap (λ (k : ℕ). head_line (h.0, k) ++ flat_map functional_text vs) size);
  part = λ f is.
      let from = rising_from a n 0 (length f.1) f.1 refl is.rising is.values (from_start n f.1) in
      let room = from_room a n 0 (length f.1) f.1 (omega arith) from in
      ((f.0, length f.1), record { monomial = is.at; few = is.few; room = omega (arith, room) }, (f.1, from, refl));
}

pub head_stop : (a : Algebra) (n : ℕ) (bytes : List ℕ) → n ≤ 8 → IsNotAtFront (IsHead n) head_line bytes → IsStop (IsFunctional a n) functional_lines bytes (length bytes)
head_stop a n bytes le none =
    let h = some_head n in
    pair_first (IsHead n) head_line (λ h vs. AreFrom a n 0 h.1 vs) (flat_map functional_text) (IsFunctional a n) functional_lines bytes (length bytes) (functional_pair a n le)
    (line_stop (IsHead n) head_line bytes h.0 h.1 (head_is_line n) none)

pub behind_head : (a : Algebra) (n : ℕ) (h : Exp × ℕ) (bytes rest : List ℕ) (left : ℕ) → n ≤ 8 → IsHead n h → head_line h ++ rest ≡ bytes → IsStop (AreFrom a n 0 h.1) (flat_map functional_text) rest left → IsStop (IsFunctional a n) functional_lines bytes left
behind_head a n h bytes rest left le is e s = pair_second (IsHead n) head_line (λ h vs. AreFrom a n 0 h.1 vs) (flat_map functional_text) (IsFunctional a n) functional_lines h bytes rest left (functional_pair a n le) is e s

pub functional_read : (a : Algebra) (n : ℕ) (h : Exp × ℕ) (vs : List Term) (bytes rest end : List ℕ) → n ≤ 8 → IsHead n h → head_line h ++ rest ≡ bytes → AreFrom a n 0 h.1 vs → flat_map functional_text vs ++ end ≡ rest → IsFunctional a n (h.0, vs) × (functional_lines (h.0, vs) ++ end ≡ bytes)
functional_read a n h vs bytes rest end le is e from d =
    let size = from_length a n 0 h.1 vs from in
    let few = is.few in (
      record { at = is.monomial; few = omega (arith, few, size); rising = from_rising a n 0 h.1 vs le from; values = from_values a n 0 h.1 vs from },
      append_assoc (head_line (h.0, length vs)) (flat_map functional_text vs) end ∙ ap (λ z. head_line (h.0, length vs) ++ z) d ∙ ap (λ (k : ℕ). head_line (h.0, k) ++ rest) size ∙ e,
    )

-- numbers are small
pub number_fits : (n : ℕ) (m : Exp) → n ≤ 8 → IsResidual n m → number_of n m < 1081575
number_fits n m le h = let a = number_below n m h in let b = limit_is n in let c = count-small n 18 le (omega arith) in omega (arith, a, b, c)
