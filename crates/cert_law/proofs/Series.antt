-- Series of elements, monomials and jets on a line, and the rows that have them.
use Rattle.std.proofs.Common.{◌≡◌, ℕ, zero, suc, ◌+◌, ◌*◌, ◌≤◌, Bool, true, false, List, [], ◌∷◌, ◌++◌, ◌⊎◌, inl, inr, length, take, drop, refl, sym, ap, ◌∙◌, append_assoc, arith}
use Rattle.std.specs.Prelude.{codes}
use Rattle.std.specs.List.{AllByRecursion, flat_map}
use Rattle.std.proofs.lemmas.List.{take-append-drop, length-take-le, length-drop}
use Rattle.mono_exp.specs.declared.exponent.Exp.{Exp}
use Rattle.jet_poly.specs.JetTerms.{JetTerms}
use Rattle.determinacy.specs.declared.row.MatherRow.{MatherRow}
use Rattle.milnor_alg.specs.declared.quotient.TableRow.{TableRow}
use Rattle.poly_text.specs.Numbers.{element_text}
use Rattle.poly_text.specs.Polynomials.{is_one, monomial_in, without_star, new_names, factors_text, polynomial_in, jet_text, monomial_text}
use Rattle.cert_text.specs.Text.{line, spaced, rows_text, multipliers_text, mather_text, table_text, functional_text}
use Rattle.cert_law.specs.Unique.{Starts, IsReadUpTo, IsSelfEnding}
use Rattle.cert_law.specs.Fields.{Element, Term, EndsSum, EndsMonomial, IsSmallElement, IsMonomial, IsReadableJet, AreJets, IsRow, IsTableLine, IsValue}
use Rattle.cert_law.proofs.Cut.{head, same_front}
use Rattle.cert_law.proofs.Elements.{element_one}
use Rattle.cert_law.proofs.Monomials.{monomial_one, starred}
use Rattle.cert_law.proofs.Jets.{polynomial_one, starred_front, factors_is, zeros_same}
use Rattle.cert_law.proofs.Monomials.{exponents_is}

-- ---- a piece before each value

module _ {A : Type 0} (kind : ℕ → Type 0) (Ok : A → Type 0) (text : A → List ℕ) (read : IsReadUpTo kind Ok text) (b : ℕ) (more : List ℕ) (ends : kind b) where
  abbrev all : List A → List ℕ
  all xs = flat_map (λ v. (b ∷ more) ++ text v) xs

  start : (xs : List A) (x : List ℕ) → Starts kind x → Starts kind (all xs ++ x)
  start [] x s = s
  start (v ∷ xs) x s = ends

  step : (u v : A) (us vs : List A) (x y : List ℕ) → Ok u → Ok v → Starts kind x → Starts kind y → all (u ∷ us) ++ x ≡ all (v ∷ vs) ++ y → (u ≡ v) × (all us ++ x ≡ all vs ++ y)
  step u v us vs x y ou ov sx sy e =
      let left : (((b ∷ more) ++ text u) ++ all us) ++ x ≡ (b ∷ more) ++ (text u ++ (all us ++ x)) = append_assoc ((b ∷ more) ++ text u) (all us) x ∙ append_assoc (b ∷ more) (text u) (all us ++ x) in
      let right : (((b ∷ more) ++ text v) ++ all vs) ++ y ≡ (b ∷ more) ++ (text v ++ (all vs ++ y)) = append_assoc ((b ∷ more) ++ text v) (all vs) y ∙ append_assoc (b ∷ more) (text v) (all vs ++ y) in
      read.one u v (all us ++ x) (all vs ++ y) ou ov (start us x sx) (start vs y sy) (same_front (b ∷ more) _ _ (sym left ∙ e ∙ right))

  -- as many on both sides
  pub series_one : (us vs : List A) (x y : List ℕ) → length us ≡ length vs → AllByRecursion Ok us → AllByRecursion Ok vs → Starts kind x → Starts kind y → all us ++ x ≡ all vs ++ y → (us ≡ vs) × (x ≡ y)
  series_one [] [] x y len ou ov sx sy e = (refl, e)
  series_one [] (v ∷ vs) x y len ou ov sx sy e = absurd (omega (arith, len))
  series_one (u ∷ us) [] x y len ou ov sx sy e = absurd (omega (arith, len))
  series_one (u ∷ us) (v ∷ vs) x y len ou ov sx sy e =
      let h = step u v us vs x y ou.0 ov.0 sx sy e in
      let r = series_one us vs x y (omega (arith, len)) ou.1 ov.1 sx sy h.1 in
      (cc (h.0, r.0), r.1)

  -- up to a byte that begins no piece
  pub series_to : (stop : ℕ) → (b ≡ stop → ⊥) → kind stop → (us vs : List A) (x y : List ℕ) → AllByRecursion Ok us → AllByRecursion Ok vs → all us ++ (stop ∷ x) ≡ all vs ++ (stop ∷ y) → (us ≡ vs) × (x ≡ y)
  series_to stop apart ks [] [] x y ou ov e = (refl, (head stop stop x y e).1)
  series_to stop apart ks [] (v ∷ vs) x y ou ov e = absurd (apart (sym (head stop b x ((more ++ text v) ++ all vs ++ (stop ∷ y)) e).0))
  series_to stop apart ks (u ∷ us) [] x y ou ov e = absurd (apart (head b stop ((more ++ text u) ++ all us ++ (stop ∷ x)) y e).0)
  series_to stop apart ks (u ∷ us) (v ∷ vs) x y ou ov e =
      let h = step u v us vs (stop ∷ x) (stop ∷ y) ou.0 ov.0 ks ks e in
      let r = series_to stop apart ks us vs x y ou.1 ov.1 h.1 in
      (cc (h.0, r.0), r.1)

-- ---- elements

pub element_read : IsReadUpTo EndsSum IsSmallElement element_text
element_read = record { one = element_one }

abbrev values_text : List Element → List ℕ
values_text vs = flat_map (λ v. 32 ∷ element_text v) vs

pub values_one : (us vs : List Element) (x y : List ℕ) → length us ≡ length vs → AllByRecursion IsSmallElement us → AllByRecursion IsSmallElement vs → Starts EndsSum x → Starts EndsSum y
    → values_text us ++ x ≡ values_text vs ++ y → (us ≡ vs) × (x ≡ y)
values_one us vs x y len ou ov sx sy e = series_one EndsSum IsSmallElement element_text element_read 32 [] (omega arith) us vs x y len ou ov sx sy e

values_start : (us : List Element) (x : List ℕ) → Starts EndsSum x → Starts EndsSum (values_text us ++ x)
values_start [] x s = s
values_start (u ∷ us) x s = omega arith

pub spaced_one : (us vs : List Element) (x y : List ℕ) → length us ≡ length vs → AllByRecursion IsSmallElement us → AllByRecursion IsSmallElement vs → Starts EndsSum x → Starts EndsSum y → spaced us ++ x ≡ spaced vs ++ y → (us ≡ vs) × (x ≡ y)
unfolding spaced
spaced_one [] [] x y len ou ov sx sy e = (refl, e)
spaced_one [] (v ∷ vs) x y len ou ov sx sy e = absurd (omega (arith, len))
spaced_one (u ∷ us) [] x y len ou ov sx sy e = absurd (omega (arith, len))
spaced_one (u ∷ us) (v ∷ vs) x y len ou ov sx sy e =
    let h = element_one u v (values_text us ++ x) (values_text vs ++ y) ou.0 ov.0 (values_start us x sx) (values_start vs y sy)
    (sym (append_assoc (element_text u) (values_text us) x) ∙ e ∙ append_assoc (element_text v) (values_text vs) y) in
    let r = values_one us vs x y (omega (arith, len)) ou.1 ov.1 sx sy h.1 in
    (cc (h.0, r.0), r.1)

all_take : (n : ℕ) (es : List Element) → AllByRecursion IsSmallElement es → AllByRecursion IsSmallElement (take n es)
all_take zero es all = tt
all_take (suc n) [] all = tt
all_take (suc n) (e ∷ es) all = (all.0, all_take n es all.1)

all_drop : (n : ℕ) (es : List Element) → AllByRecursion IsSmallElement es → AllByRecursion IsSmallElement (drop n es)
all_drop zero es all = all
all_drop (suc n) [] all = all
all_drop (suc n) (e ∷ es) all = all_drop n es all.1

none_left : (es : List Element) → length es ≡ 0 → es ≡ []
none_left [] e = refl
none_left (v ∷ es) e = absurd (omega (arith, e))

-- the rows of a matrix
pub rows_one : (rows n : ℕ) (us vs : List Element) (x y : List ℕ) → length us ≡ rows * n → length vs ≡ rows * n → AllByRecursion IsSmallElement us → AllByRecursion IsSmallElement vs → rows_text rows n us ++ x ≡ rows_text rows n vs ++ y → (us ≡ vs) × (x ≡ y)
unfolding rows_text line
rows_one zero n us vs x y lu lv ou ov e = (none_left us (omega (arith, lu)) ∙ sym (none_left vs (omega (arith, lv))), e)
rows_one (suc rows) n us vs x y lu lv ou ov e =
    let more : suc rows * n ≡ n + rows * n = omega arith in
    let enough_u : n ≤ length us = omega (arith, lu, more) in
    let enough_v : n ≤ length vs = omega (arith, lv, more) in
    let left : ((spaced (take n us) ++ 10 ∷ []) ++ rows_text rows n (drop n us)) ++ x ≡ spaced (take n us) ++ (10 ∷ (rows_text rows n (drop n us) ++ x)) = simp append_assoc in
    let right : ((spaced (take n vs) ++ 10 ∷ []) ++ rows_text rows n (drop n vs)) ++ y ≡ spaced (take n vs) ++ (10 ∷ (rows_text rows n (drop n vs) ++ y)) = simp append_assoc in
    let h = spaced_one (take n us) (take n vs) _ _ (length-take-le n us enough_u ∙ sym (length-take-le n vs enough_v)) (all_take n us ou) (all_take n vs ov) (omega arith) (omega arith) (sym left ∙ e ∙ right) in
    let rest_u : length (drop n us) ≡ rows * n = length-drop n us ∙ omega (arith, lu, more) in
    let rest_v : length (drop n vs) ≡ rows * n = length-drop n vs ∙ omega (arith, lv, more) in
    let r = rows_one rows n (drop n us) (drop n vs) x y rest_u rest_v (all_drop n us ou) (all_drop n vs ov) (head 10 10 _ _ h.1).1 in
    (sym (take-append-drop n us) ∙ ap (λ (z : List Element). z ++ drop n us) h.0 ∙ ap (λ (z : List Element). take n vs ++ z) r.0 ∙ take-append-drop n vs, r.1)

-- ---- monomials

-- the star is told from the text: a monomial's first factor begins with `u`
with_star : (a b x y : List ℕ) → ((a ≡ []) ⊎ ((r : List ℕ) × (a ≡ 42 ∷ 117 ∷ r))) → ((b ≡ []) ⊎ ((r : List ℕ) × (b ≡ 42 ∷ 117 ∷ r))) → without_star a ++ x ≡ without_star b ++ y → a ++ x ≡ b ++ y
with_star a b x y fa fb e = elim fa [
  | inl na ↦ elim fb [
    | inl nb ↦ ap (λ (z : List ℕ). z ++ x) na ∙ (head 49 49 x y (sym (ap (λ (z : List ℕ). without_star z ++ x) na) ∙ e ∙ ap (λ (z : List ℕ). without_star z ++ y) nb)).1 ∙ sym (ap (λ (z : List ℕ). z ++ y) nb)
    | inr sb ↦ (let h = (head 49 117 x (sb.0 ++ y) (sym (ap (λ (z : List ℕ). without_star z ++ x) na) ∙ e ∙ ap (λ (z : List ℕ). without_star z ++ y) sb.1)).0 in absurd (omega (arith, h)))
  ]
  | inr sa ↦ elim fb [
    | inl nb ↦ (let h = (head 117 49 (sa.0 ++ x) y (sym (ap (λ (z : List ℕ). without_star z ++ x) sa.1) ∙ e ∙ ap (λ (z : List ℕ). without_star z ++ y) nb)).0 in absurd (omega (arith, h)))
    | inr sb ↦ ap (λ (z : List ℕ). z ++ x) sa.1 ∙ ap (λ (z : List ℕ). 42 ∷ z) (sym (ap (λ (z : List ℕ). without_star z ++ x) sa.1) ∙ e ∙ ap (λ (z : List ℕ). without_star z ++ y) sb.1) ∙ sym (ap (λ (z : List ℕ). z ++ y) sb.1)
  ]
]

no_factor : starred (record { e = 0 ∷ 0 ∷ 0 ∷ 0 ∷ 0 ∷ 0 ∷ 0 ∷ 0 ∷ [] }) ≡ []
unfolding factors_text new_names
no_factor = refl

pub no_factors : (m : Exp) → IsMonomial m → is_one m ≡ true → starred m ≡ []
no_factors m is one =
    let zeros = zeros_same m.e (0 ∷ 0 ∷ 0 ∷ 0 ∷ 0 ∷ 0 ∷ 0 ∷ 0 ∷ []) is.eight one refl in
    ap starred (exponents_is m (record { e = 0 ∷ 0 ∷ 0 ∷ 0 ∷ 0 ∷ 0 ∷ 0 ∷ 0 ∷ [] }) zeros) ∙ no_factor

factor_form : (t : Bool) (m : Exp) → IsMonomial m → is_one m ≡ t → (starred m ≡ []) ⊎ ((r : List ℕ) × (starred m ≡ 42 ∷ 117 ∷ r))
factor_form true m is e = inl (no_factors m is e)
factor_form false m is e = inr (factors_is (starred m) (starred_front m is e))

pub power_one : (m n : Exp) (x y : List ℕ) → IsMonomial m → IsMonomial n → Starts EndsMonomial x → Starts EndsMonomial y → monomial_text m ++ x ≡ monomial_text n ++ y → (m ≡ n) × (x ≡ y)
unfolding monomial_in
power_one m n x y om on sx sy e = monomial_one m n x y om on sx sy (with_star (starred m) (starred n) x y (factor_form (is_one m) m om refl) (factor_form (is_one n) n on refl) e)

pub power_read : IsReadUpTo EndsMonomial IsMonomial monomial_text
power_read = record { one = power_one }

pub blank_ends : EndsMonomial 32
blank_ends = (λ d. omega (arith, d.0), λ e. omega (arith, e), λ e. omega (arith, e))

pub newline_stops : EndsMonomial 10
newline_stops = (λ d. omega (arith, d.0), λ e. omega (arith, e), λ e. omega (arith, e))

-- the monomials of a basis, up to the end of the line
pub basis_one : (us vs : List Exp) (x y : List ℕ) → AllByRecursion IsMonomial us → AllByRecursion IsMonomial vs
    → flat_map (λ m. 32 ∷ monomial_text m) us ++ (10 ∷ x) ≡ flat_map (λ m. 32 ∷ monomial_text m) vs ++ (10 ∷ y) → (us ≡ vs) × (x ≡ y)
basis_one us vs x y ou ov e = series_to EndsMonomial IsMonomial monomial_text power_read 32 [] blank_ends 10 (λ q. omega (arith, q)) newline_stops us vs x y ou ov e

-- ---- jets

jet_is : (f g : JetTerms Element) → f.n ≡ g.n → f.order ≡ g.order → f.terms ≡ g.terms → f ≡ g
jet_is f g a b c = λ i. record { n = a i; order = b i; terms = c i }

pub jet_read : (n k : ℕ) → IsReadUpTo EndsSum (IsReadableJet n k) jet_text
unfolding polynomial_in
jet_read n k = record {
  one = λ f g x y of og sx sy e.
      let h = polynomial_one f.terms g.terms x y of.polynomial og.polynomial sx sy e in
      (jet_is f g (of.variables ∙ sym og.variables) (of.order ∙ sym og.order) h.0, h.1);
}

jets_start : (fs : List (JetTerms Element)) (x : List ℕ) → Starts EndsSum x → Starts EndsSum (flat_map (λ h. codes " ; " ++ jet_text h) fs ++ x)
jets_start [] x s = s
jets_start (f ∷ fs) x s = omega arith

-- multipliers, as many as the residual variables
pub multipliers_one : (count n k : ℕ) (fs gs : List (JetTerms Element)) (x y : List ℕ) → AreJets count n k fs → AreJets count n k gs → Starts EndsSum x → Starts EndsSum y
    → multipliers_text fs ++ x ≡ multipliers_text gs ++ y → (fs ≡ gs) × (x ≡ y)
unfolding multipliers_text
multipliers_one count n k [] [] x y of og sx sy e = (refl, e)
multipliers_one count n k [] (g ∷ gs) x y of og sx sy e = absurd (omega (arith, of.long, og.long))
multipliers_one count n k (f ∷ fs) [] x y of og sx sy e = absurd (omega (arith, of.long, og.long))
multipliers_one count n k (f ∷ fs) (g ∷ gs) x y of og sx sy e =
    let F = flat_map (λ h. codes " ; " ++ jet_text h) fs in
    let G = flat_map (λ h. codes " ; " ++ jet_text h) gs in
    let inner : jet_text f ++ (F ++ x) ≡ jet_text g ++ (G ++ y) = sym (append_assoc (jet_text f) F x) ∙ (head 32 32 _ _ e).1 ∙ append_assoc (jet_text g) G y in
    let h = (jet_read n k).one f g (F ++ x) (G ++ y) of.each.0 og.each.0 (jets_start fs x sx) (jets_start gs y sy) inner in
    let same : length fs ≡ length gs = omega (arith, of.long, og.long) in
    let r = series_one EndsSum (IsReadableJet n k) jet_text (jet_read n k) 32 (59 ∷ 32 ∷ []) (omega arith) fs gs x y same of.each.1 og.each.1 sx sy h.1 in
    (cc (h.0, r.0), r.1)

-- ---- lines

mather_is : (u v : MatherRow Element) → u.monomial ≡ v.monomial → u.multipliers ≡ v.multipliers → u ≡ v
mather_is u v a b = λ i. record { monomial = a i; multipliers = b i }

pub mather_line : (c k : ℕ) → IsSelfEnding (IsRow c k) mather_text
unfolding mather_text line
mather_line c k = record {
  one = λ u v x y ou ov e.
      let left : mather_text u ++ x ≡ monomial_text u.monomial ++ (32 ∷ (61 ∷ (multipliers_text u.multipliers ++ (10 ∷ x)))) = simp append_assoc in
      let right : mather_text v ++ y ≡ monomial_text v.monomial ++ (32 ∷ (61 ∷ (multipliers_text v.multipliers ++ (10 ∷ y)))) = simp append_assoc in
      let a = power_one u.monomial v.monomial _ _ ou.monomial ov.monomial blank_ends blank_ends (sym left ∙ e ∙ right) in
      let inner = (head 61 61 _ _ (head 32 32 _ _ a.1).1).1 in
      let b = multipliers_one c c k u.multipliers v.multipliers (10 ∷ x) (10 ∷ y) ou.multipliers ov.multipliers (omega arith) (omega arith) inner in
      (mather_is u v a.0 b.0, (head 10 10 x y b.1).1);
}

table_is : (u v : TableRow Element) → u.monomial ≡ v.monomial → u.values ≡ v.values → u.multipliers ≡ v.multipliers → u ≡ v
table_is u v a b c = λ i. record { monomial = a i; values = b i; multipliers = c i }

pub table_line : (size c k : ℕ) → IsSelfEnding (IsTableLine size c k) table_text
unfolding table_text line
table_line size c k = record {
  one = λ u v x y ou ov e.
      let left : table_text u ++ x ≡ monomial_text u.monomial ++ (32 ∷ (61 ∷ (values_text u.values ++ (32 ∷ (58 ∷ (multipliers_text u.multipliers ++ (10 ∷ x))))))) = simp append_assoc in
      let right : table_text v ++ y ≡ monomial_text v.monomial ++ (32 ∷ (61 ∷ (values_text v.values ++ (32 ∷ (58 ∷ (multipliers_text v.multipliers ++ (10 ∷ y))))))) = simp append_assoc in
      let a = power_one u.monomial v.monomial _ _ ou.monomial ov.monomial blank_ends blank_ends (sym left ∙ e ∙ right) in
      let inner = (head 61 61 _ _ (head 32 32 _ _ a.1).1).1 in
      let b = values_one u.values v.values _ _ (ou.long ∙ sym ov.long) ou.values ov.values (omega arith) (omega arith) inner in
      let behind = (head 58 58 _ _ (head 32 32 _ _ b.1).1).1 in
      let d = multipliers_one c c k u.multipliers v.multipliers (10 ∷ x) (10 ∷ y) ou.multipliers ov.multipliers (omega arith) (omega arith) behind in
      (table_is u v a.0 b.0 d.0, (head 10 10 x y d.1).1);
}

value_is : (u v : Term) → u.0 ≡ v.0 → u.1 ≡ v.1 → u ≡ v
value_is u v a b = λ i. (a i, b i)

pub functional_line : IsSelfEnding IsValue functional_text
unfolding functional_text line
functional_line = record {
  one = λ u v x y ou ov e.
      let left : functional_text u ++ x ≡ monomial_text u.0 ++ (32 ∷ (element_text u.1 ++ (10 ∷ x))) = simp append_assoc in
      let right : functional_text v ++ y ≡ monomial_text v.0 ++ (32 ∷ (element_text v.1 ++ (10 ∷ y))) = simp append_assoc in
      let a = power_one u.0 v.0 _ _ ou.monomial ov.monomial blank_ends blank_ends (sym left ∙ e ∙ right) in
      let b = element_one u.1 v.1 (10 ∷ x) (10 ∷ y) ou.value ov.value (omega arith) (omega arith) (head 32 32 _ _ a.1).1 in
      (value_is u v a.0 b.0, (head 10 10 x y b.1).1);
}
