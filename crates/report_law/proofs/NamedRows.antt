-- The form of a valid named report meets Mather's condition at its order, square variables included.
use Rattle.std.proofs.Common.{◌≡◌, ℕ, zero, suc, ◌+◌, ◌-◌, ◌<◌, ◌≤◌, ◌⊎◌, inl, inr, pos, Bool, true, false, cond, List, [], ◌∷◌, ◌++◌, map, length, drop, replicate, get_or, eqb, eqb-true, eq-eqb, refl, sym, ap, ap₂, subst, ◌∙◌, true≢false, arith, append_assoc, length-append, get_or-take, get_or-append-add}
use Rattle.std.proofs.Math.ListN.{get_or-append}
use Rattle.std.proofs.lemmas.List.{map-append, length-map}
use Rattle.std.specs.List.{list_any, AllByRecursion}
use Rattle.std.specs.Str.{bytes_eq}
use Rattle.std.specs.Cmp.Lexicographic.{bytes_decides}
use Rattle.ring_theory.specs.Gcd.{gcd}
use Rattle.ring_theory.specs.Rational.{rational, rational_zero, rational_add}
use Rattle.ring_theory.specs.Ring.{RingOps, IsCommRing}
use Rattle.ring_theory.specs.Scalars.{Scalars, ScalarLaws}
use Rattle.ring_theory.proofs.ValueSet.{values_are_set}
use Rattle.ring_law.specs.declared.fraction.Frac.{Frac}
use Rattle.ext_algebra.specs.declared.algebra.Algebra.{Algebra}
use Rattle.ext_algebra.specs.declared.algebra.Ext.{Ext}
use Rattle.ext_algebra.specs.Algebra.{Value, ops, scalars, value_in, IsInverse}
use Rattle.ext_algebra.specs.AlgebraLaws.{algebra_scalar_laws}
use Rattle.determinacy.specs.declared.row.MatherRow as printed
use Rattle.poly_law.specs.Sums.{multiple}
use Rattle.poly_law.specs.ExpList.{ExpList, exps}
use Rattle.poly_law.specs.Exps.{variable}
use Rattle.poly_law.specs.Poly.{coefficient, square, IsMatherRow, IsSplit, MatherRows}
use Rattle.poly_law.specs.Laws.{InvertSquares}
use Rattle.poly_law.proofs.ExpLists.{exps_are}
use Rattle.poly_law.proofs.ExpLaws as exp_laws
use Rattle.poly_law.proofs.LawsOverRings as over_rings
use Rattle.line_syntax.proofs.Bools.{or_other}
use Rattle.mono_exp.specs.Exponents.{monomials_of}
use Rattle.normal_forms.specs.Monomials.{in_eight, numbers_below, square_of}
use Rattle.normal_forms.specs.Families.{kind_of}
use Rattle.normal_forms.specs.Units.{unit_values}
use Rattle.cert_text.specs.declared.report.Carried.{Carried}
use Rattle.cert_text.specs.declared.report.Named as named_type
use Rattle.cert_text.specs.WellFormed.{IsWellFormedNamed}
use Rattle.line_syntax.specs.Syntax.{Line}
use Rattle.jet_law.specs.Canonical.{monomial_in}
use Rattle.report_law.specs.Polynomials.{jet_at, coefficient_at}
use Rattle.report_law.specs.Items.{variables_of, ring_of, jet_of, residual_of, coefficients_of, squares_of, AreUnits, IsRowOf, AreMatherRows}
use Rattle.report_law.specs.Valid.{NamedItem, named_items}
use Rattle.report_law.specs.Meaning.{NamedHasRows}
use Rattle.report_law.proofs.AllMonomials.{has_degree, degree_of_entries}
use Rattle.report_law.proofs.Splitting.{is_split-is}
use Rattle.report_law.proofs.Limits.{all_in}

abbrev Row : Type 0
Row = printed.MatherRow (Ext Frac)

-- the row of a monomial that is in the list
find_row : (P : Row → Type 0) (e : List ℕ) (ms : List (List ℕ)) (rows : List Row) → map (λ row. row.monomial) rows ≡ map in_eight ms → AllByRecursion P rows
    → list_any (bytes_eq e) ms ≡ true → (row : Row) × P row × (row.monomial ≡ in_eight e)
find_row P e [] rows same each found = absurd (true≢false (sym found))
find_row P e (m ∷ ms) [] same each found = let l : 0 ≡ suc (length (map in_eight ms)) = ap (λ l. length l) same in absurd (omega arith)
find_row P e (m ∷ ms) (row ∷ rows) same each found =
    let step : (b : Bool) → bytes_eq e m ≡ b → (row : Row) × P row × (row.monomial ≡ in_eight e) = elim [
      | true ↦ λ q. (row, each.0, ap (λ l. get_or l 0 (in_eight [])) same ∙ ap in_eight (sym ((bytes_decides e m).0 q)))
      | false ↦ λ q. find_row P e ms rows (ap (drop 1) same) each.1 (or_other (bytes_eq e m) (list_any (bytes_eq e) ms) found q)
    ] in step (bytes_eq e m) refl

-- eight places keep the exponents of few variables
in_eight_is : (n : ℕ) → n ≤ 8 → (m : ExpList n) → monomial_in n (in_eight m.entries).e ≡ m
in_eight_is n few m = (exps_are n).same_at (monomial_in n (in_eight m.entries).e) m λ i h.
    let here : i < length m.entries = subst (λ k. i < k) (sym m.long) h in
    (exps_are n).at_make (λ i. get_or (in_eight m.entries).e i 0) i h
    ∙ get_or-take 8 (m.entries ++ replicate {A = ℕ} 8 0) i 0 (omega arith)
    ∙ get_or-append m.entries (replicate {A = ℕ} 8 0) 0 i here

-- the printed rows are rows for all monomials of the degree
printed_rows : (c : Carried) (rows : List Row) → c.corank ≤ 8 → AreMatherRows c rows → MatherRows (exps c.corank) (ring_of c) c.order (residual_of c)
printed_rows c rows few h m d =
    let found = find_row (IsRowOf c) m.entries (monomials_of c.corank (c.order + 1)) rows h.monomials h.each (has_degree c.corank (c.order + 1) m.entries m.long (sym (degree_of_entries c.corank m) ∙ d)) in
    let is_m : monomial_in c.corank found.0.monomial.e ≡ m = ap (λ z. monomial_in c.corank z.e) found.2 ∙ in_eight_is c.corank few m in
    record {
      multiplier = jet_at c.corank c.algebra found.0.multipliers;
      is_row = subst (λ z. IsMatherRow (exps c.corank) (ring_of c) c.order (residual_of c) z (jet_at c.corank c.algebra found.0.multipliers)) is_m found.1;
    }

-- ---- the squares' coefficients stand beside their inverses

length_below : (m : ℕ) → length (numbers_below m) ≡ m
length_below zero = refl
length_below (suc m) = length-append (numbers_below m) (m ∷ []) ∙ (let h = length_below m in omega arith)

last_or_before : (j m : ℕ) → j < suc m → (j < m) ⊎ (j ≡ m)
last_or_before j m h = grind arith

-- the entries of a function's values at 0, 1, ..
entry_below : {X : Type 0} (f : ℕ → X) (z : X) (m j : ℕ) → j < m → get_or (map f (numbers_below m)) j z ≡ f j
entry_below f z zero j h = absurd (omega arith)
entry_below f z (suc m) j h =
    let size : length (map f (numbers_below m)) ≡ m = length-map (numbers_below m) f ∙ length_below m in
    ap (λ l. get_or l j z) (map-append f (numbers_below m) (m ∷ []))
    ∙ elim (last_or_before j m h) [
      | inl g ↦ get_or-append (map f (numbers_below m)) (f m ∷ []) z j (subst (λ k. j < k) (sym size) g) ∙ entry_below f z m j g
      | inr e ↦ ap (λ i. get_or (map f (numbers_below m) ++ f m ∷ []) i z) (e ∙ sym size ∙ (let k : length (map f (numbers_below m)) ≡ length (map f (numbers_below m)) + 0 = omega arith in k))
          ∙ get_or-append-add (map f (numbers_below m)) (f m ∷ []) 0 z ∙ ap f (sym e)
    ]

map_twice : {X : Type 0} (f : ℕ → X) (c : ℕ) (xs : List ℕ) → map f (map (λ i. c + i) xs) ≡ map (λ i. f (c + i)) xs
map_twice f c [] = refl
map_twice f c (i ∷ xs) = ap (λ l. f (c + i) ∷ l) (map_twice f c xs)

-- each printed value times the inverse beside it
unit_at_place : (a : Algebra) (us : List (Ext Frac × Ext Frac)) → AllByRecursion (λ u. IsInverse a u.0 u.1) us → (z : Value a) (j : ℕ) → j < length us
    → (ops a).mul (get_or (map (λ u. value_in a u.0) us) j z) (get_or (map (λ u. value_in a u.1) us) j z) ≡ (ops a).one
unit_at_place a [] h z j g = absurd (omega arith)
unit_at_place a (u ∷ us) h z zero g = h.0
unit_at_place a (u ∷ us) h z (suc j) g = unit_at_place a us h.1 z j (omega arith)

abbrev unit_list : (r : named_type.Named) → List (Value r.carried.algebra)
unit_list r = unit_values (scalars r.carried.algebra) (kind_of r.family) (coefficients_of r.carried r.family)

-- the printed inverse of the square variable i
abbrev inverse_of : (r : named_type.Named) → ℕ → Value r.carried.algebra
inverse_of r i = get_or (map (λ u. value_in r.carried.algebra u.1) r.units) (length (unit_list r) + (i - r.carried.corank)) (ops r.carried.algebra).zero

squares_are_units : (r : named_type.Named) → AreUnits r → (i : ℕ) → r.carried.corank ≤ i → i < variables_of r.carried
    → (ops r.carried.algebra).mul (coefficient_at (variables_of r.carried) r.carried.algebra (jet_of r.carried) (square_of i).e) (inverse_of r i) ≡ (ops r.carried.algebra).one
squares_are_units r units i past below =
    let a : Algebra = r.carried.algebra in
    let c : ℕ = r.carried.corank in
    let n : ℕ = variables_of r.carried in
    let z : Value a = (ops a).zero in
    let firsts : List (Value a) = unit_list r in
    let f : ℕ → Value a = λ i. coefficient_at n a (jet_of r.carried) (square_of i).e in
    let j : ℕ = i - c in
    let place : ℕ = length firsts + j in
    let within : j < n - c = omega arith in
    let back : c + j ≡ i = omega arith in
    let squares_is : squares_of r.carried ≡ map (λ i. f (c + i)) (numbers_below (n - c)) = map_twice f c (numbers_below (n - c)) in
    let size : length (squares_of r.carried) ≡ n - c = ap (λ l. length l) squares_is ∙ length-map (numbers_below (n - c)) (λ i. f (c + i)) ∙ length_below (n - c) in
    let count : length r.units ≡ length firsts + length (squares_of r.carried) =
    sym (length-map r.units (λ u. value_in a u.0)) ∙ ap (λ l. length l) units.values ∙ length-append firsts (squares_of r.carried) in
    let value : get_or (map (λ u. value_in a u.0) r.units) place z ≡ f i =
    ap (λ l. get_or l place z) units.values ∙ get_or-append-add firsts (squares_of r.carried) j z
    ∙ ap (λ l. get_or l j z) squares_is ∙ entry_below (λ i. f (c + i)) z (n - c) j within ∙ ap f back in
    ap (λ v. (ops a).mul v (inverse_of r i)) (sym value) ∙ unit_at_place a r.units units.inverses z place (omega arith)

-- ---- squares and halves

two_here : (w : ℕ) (zs : List ℕ) → get_or (replicate w 0 ++ 2 ∷ zs) w 0 ≡ 2
two_here zero zs = refl
two_here (suc w) zs = two_here w zs

zero_apart : (w i : ℕ) (zs : List ℕ) → ((j : ℕ) → get_or zs j 0 ≡ 0) → (i ≡ w → ⊥) → get_or (replicate w 0 ++ 2 ∷ zs) i 0 ≡ 0
zero_apart zero zero zs h k = absurd (k refl)
zero_apart zero (suc i) zs h k = h i
zero_apart (suc w) zero zs h k = refl
zero_apart (suc w) (suc i) zs h k = zero_apart w i zs h (λ e. k (ap suc e))

zeros_at : (k j : ℕ) → get_or (replicate {A = ℕ} k 0) j 0 ≡ 0
zeros_at zero j = refl
zeros_at (suc k) zero = refl
zeros_at (suc k) (suc j) = zeros_at k j

regroup : (w : ℕ) → ((replicate {A = ℕ} w 0 ++ 2 ∷ []) ++ replicate {A = ℕ} 8 0) ≡ (replicate {A = ℕ} w 0 ++ 2 ∷ replicate {A = ℕ} 8 0)
regroup w = append_assoc (replicate {A = ℕ} w 0) (2 ∷ []) (replicate {A = ℕ} 8 0)

square_here : (w : ℕ) → w < 8 → get_or (square_of w).e w 0 ≡ 2
square_here w h = get_or-take 8 ((replicate {A = ℕ} w 0 ++ 2 ∷ []) ++ replicate {A = ℕ} 8 0) w 0 h ∙ ap (λ zs. get_or zs w 0) (regroup w) ∙ two_here w (replicate 8 0)

square_apart : (w i : ℕ) → i < 8 → (i ≡ w → ⊥) → get_or (square_of w).e i 0 ≡ 0
square_apart w i h k = get_or-take 8 ((replicate {A = ℕ} w 0 ++ 2 ∷ []) ++ replicate {A = ℕ} 8 0) i 0 h ∙ ap (λ zs. get_or zs i 0) (regroup w) ∙ zero_apart w i (replicate 8 0) (zeros_at 8) k

-- the square of a variable, as it is printed
square_is : {V : Type 0} (r : RingOps V) (n c w : ℕ) → n ≤ 8 → w < n → monomial_in n (square_of w).e ≡ square (exps n) (exps c) r w
square_is r n c w few h = (exps_are n).same_at (monomial_in n (square_of w).e) (square (exps n) (exps c) r w) λ i g.
    let at_square = exp_laws.at-plus (exps n) (exps_are n) (variable (exps n) w) (variable (exps n) w) i g in
    let at_one = exp_laws.at-variable (exps n) (exps_are n) w i g in
    let step : (b : Bool) → eqb i w ≡ b → get_or (square_of w).e i 0 ≡ (exps n).at (square (exps n) (exps c) r w) i = elim [
      | true ↦ λ q. let one : (exps n).at (variable (exps n) w) i ≡ 1 = at_one ∙ ap (λ b. cond b 1 0) q in
          let here : get_or (square_of w).e i 0 ≡ 2 = ap (λ j. get_or (square_of w).e j 0) (eqb-true i w q) ∙ square_here w (omega arith) in omega arith
      | false ↦ λ q. let none : (exps n).at (variable (exps n) w) i ≡ 0 = at_one ∙ ap (λ b. cond b 1 0) q in
          let there : get_or (square_of w).e i 0 ≡ 0 = square_apart w i (omega arith) (λ p. true≢false (sym (eq-eqb i w p) ∙ q)) in omega arith
    ] in (exps_are n).at_make (λ i. get_or (square_of w).e i 0) i g ∙ step (eqb i w) refl

half_sum : rational_add (rational (pos 1) 2) (rational (pos 1) 2) ≡ rational (pos 1) 1
unfolding rational_add rational gcd rational_zero
half_sum = refl

-- one half, twice, is one
half_and_half : {V : Type 0} (s : Scalars V) → ScalarLaws s → s.ops.add (s.rational (rational (pos 1) 2)) (s.rational (rational (pos 1) 2)) ≡ s.ops.one
half_and_half s laws = sym (laws.embeds.add (rational (pos 1) 2) (rational (pos 1) 2)) ∙ ap s.rational half_sum ∙ laws.embeds.one

-- (b h) (2 s) = (s b) (h + h)
twice : {V : Type 0} (r : RingOps V) → IsCommRing r → (s b h : V) → r.mul s b ≡ r.one → r.add h h ≡ r.one → r.mul (r.mul b h) (multiple r 2 s) ≡ r.one
twice r c s b h e f =
    let two : multiple r 2 s ≡ r.add s s = ap (λ z. r.add z s) (c.add_comm r.zero s ∙ c.add_zero s) in
    let swap : r.mul (r.mul b h) s ≡ r.mul h (r.mul s b) = c.mul_comm (r.mul b h) s ∙ sym (c.mul_assoc s b h) ∙ c.mul_comm (r.mul s b) h in
    let one_half : r.mul (r.mul b h) s ≡ h = swap ∙ ap (r.mul h) e ∙ c.mul_one h in
    let split : r.mul (r.mul b h) (r.add s s) ≡ r.add (r.mul (r.mul b h) s) (r.mul (r.mul b h) s) =
    c.mul_comm (r.mul b h) (r.add s s) ∙ c.distrib s s (r.mul b h) ∙ ap₂ r.add (c.mul_comm s (r.mul b h)) (c.mul_comm s (r.mul b h)) in
    ap (r.mul (r.mul b h)) two ∙ split ∙ ap₂ r.add one_half one_half ∙ f

-- ---- the printed form is split, with inverses of its squares' coefficients

module _ (bytes : List ℕ) (l : Line) (r : named_type.Named) (form : IsWellFormedNamed r) (items : AllByRecursion (NamedItem bytes l r) named_items) where
  -- the printed form is its residual part and the squares of the other variables
  pub form_is_split : IsSplit (exps (variables_of r.carried)) (exps r.carried.corank) (ring_of r.carried) (jet_of r.carried) (residual_of r.carried)
  form_is_split =
      let c : Carried = r.carried in
      is_split-is (variables_of c) c.corank form.carried.corank c.algebra (algebra_scalar_laws c.algebra).ring c.jet.terms (all_in (variables_of c) c.order c.algebra c.jet.terms form.carried.jet.terms)
      items.1.1.1.1.0.split

  -- half of the printed inverse of a square's coefficient
  abbrev pub half_inverse : ℕ → Value r.carried.algebra
  half_inverse w = (ops r.carried.algebra).mul (inverse_of r w) ((scalars r.carried.algebra).rational (rational (pos 1) 2))

  -- it is inverse to twice the coefficient
  pub squares_are_inverted : InvertSquares (scalars r.carried.algebra).ops (variables_of r.carried) r.carried.corank (jet_of r.carried) half_inverse
  unfolding coefficient_at scalars
  squares_are_inverted w past below =
      let c : Carried = r.carried in
      let s = scalars c.algebra in
      let laws = algebra_scalar_laws c.algebra in
      let n : ℕ = variables_of c in
      twice s.ops laws.ring (coefficient (exps n) s.ops (jet_of c) (square (exps n) (exps c.corank) s.ops w)) (inverse_of r w) (s.rational (rational (pos 1) 2))
      (subst (λ m. s.ops.mul (coefficient (exps n) s.ops (jet_of c) m) (inverse_of r w) ≡ s.ops.one) (square_is s.ops n c.corank w form.carried.few_names below) (squares_are_units r items.1.1.1.1.1.0 w past below))
      (half_and_half s laws)

pub named_has_rows : NamedHasRows
named_has_rows bytes l r form items =
    let c : Carried = r.carried in
    let s = scalars c.algebra in
    let laws = algebra_scalar_laws c.algebra in
    let residual_rows = printed_rows c r.mather (omega (arith, form.carried.corank, form.carried.few_names)) items.1.1.1.1.1.1.1.0 in
    (over_rings.mather_split s.ops laws.ring (values_are_set s laws) (variables_of c) c.corank form.carried.corank (jet_of c) (residual_of c) (form_is_split bytes l r form items) c.order form.carried.order_at_least).1
    (half_inverse bytes l r form items) (squares_are_inverted bytes l r form items) residual_rows
