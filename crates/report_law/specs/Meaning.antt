-- What a valid report means for the polynomials: the printed quotient is free with the printed basis.
use Rattle.std.specs.Prelude.{◌≡◌, ℕ, ◌<◌, ◌≤◌, List, ◌++◌, length, cond}
use Rattle.std.specs.List.{AllByRecursion}
use Rattle.ext_algebra.specs.Algebra.{Value}
use Rattle.poly_law.specs.ExpList.{ExpList, exps}
use Rattle.poly_law.specs.Exps.{same}
use Rattle.poly_law.specs.Poly.{MatherRows, InIdeal, of_basis, values_of, place}
use Rattle.poly_law.specs.Polynomials.{poly_in}
use Rattle.line_syntax.specs.Syntax.{Line, names_of}
use Rattle.cert_text.specs.declared.report.Named as named_type
use Rattle.cert_text.specs.declared.report.Limit as limit_type
use Rattle.cert_text.specs.WellFormed.{IsWellFormedLimit, IsWellFormedNamed}
use Rattle.report_law.specs.Polynomials.{PolynomialOver}
use Rattle.report_law.specs.Items.{ring_of, germ_in, residual_of, basis_of, values_of_row, variables_of, jet_of}
use Rattle.report_law.specs.Valid.{NamedItem, named_items, LimitItem, limit_items}

-- f is in the ideal of the partials of the form's residual part, modulo the terms of degree above the order
abbrev pub InJacobianIdeal : (r : named_type.Named) → PolynomialOver r.carried.corank r.carried.algebra → Type 0
InJacobianIdeal r f = InIdeal (exps r.carried.corank) (ring_of r.carried) r.carried.order (residual_of r.carried) f

-- the combination of the printed basis with these values
abbrev pub combination_of : (r : named_type.Named) → (ℕ → Value r.carried.algebra) → PolynomialOver r.carried.corank r.carried.algebra
combination_of r v = of_basis (exps r.carried.corank) (ring_of r.carried) (length r.quotient.basis) (basis_of r) v

-- the values of a polynomial by the printed table, extended linearly from the monomials
abbrev pub values_by_table : (r : named_type.Named) → PolynomialOver r.carried.corank r.carried.algebra → ℕ → Value r.carried.algebra
values_by_table r f = values_of (exps r.carried.corank) (ring_of r.carried) (values_of_row r) r.carried.order f

-- The jets of the order modulo the ideal are free with the printed basis, as many monomials as the Milnor number says: each polynomial less
-- the combination of the basis with its values is in the ideal, and a combination of the basis that is in the ideal has only zeros.
pub record IsFree (r : named_type.Named) : Type 0 where
  pub spans : (f : PolynomialOver r.carried.corank r.carried.algebra)
      → InJacobianIdeal r (f ++ (poly_in r.carried.corank (ring_of r.carried)).neg (combination_of r (values_by_table r f)))
  pub independent : (v : ℕ → Value r.carried.algebra) → InJacobianIdeal r (combination_of r v) → (j : ℕ) → j < r.milnor → v j ≡ (ring_of r.carried).zero

-- of a valid named report the jets modulo the ideal are free, so that the Milnor number is their dimension
abbrev pub NamedIsFree : Type 0
NamedIsFree = (bytes : List ℕ) (l : Line) (r : named_type.Named) → AllByRecursion (NamedItem bytes l r) named_items → IsFree r

-- ---- the whole form, in all its variables

-- f is in the ideal of the partials of the printed form, modulo the terms of degree above the order
abbrev pub InFormIdeal : (r : named_type.Named) → PolynomialOver (variables_of r.carried) r.carried.algebra → Type 0
InFormIdeal r f = InIdeal (exps (variables_of r.carried)) (ring_of r.carried) r.carried.order (jet_of r.carried) f

-- the monomial of the residual variables as one of all variables
abbrev pub placed : (r : named_type.Named) → ExpList r.carried.corank → ExpList (variables_of r.carried)
placed r b = place (exps (variables_of r.carried)) (exps r.carried.corank) (ring_of r.carried) b

-- the combination of the printed basis with these values, in all variables
abbrev pub placed_combination : (r : named_type.Named) → (ℕ → Value r.carried.algebra) → PolynomialOver (variables_of r.carried) r.carried.algebra
placed_combination r v = of_basis (exps (variables_of r.carried)) (ring_of r.carried) (length r.quotient.basis) (λ j. placed r (basis_of r j)) v

-- the values of a monomial in all variables: those of the printed table where no square variable occurs in it, and else 0
abbrev pub placed_values : (r : named_type.Named) → ExpList (variables_of r.carried) → ℕ → Value r.carried.algebra
placed_values r a j =
    let b = (exps r.carried.corank).make ((exps (variables_of r.carried)).at a) in
    cond (same (exps (variables_of r.carried)) a (placed r b)) (values_of_row r b j) (ring_of r.carried).zero

-- the values of a polynomial in all variables, extended linearly from the monomials
abbrev pub values_in_form : (r : named_type.Named) → PolynomialOver (variables_of r.carried) r.carried.algebra → ℕ → Value r.carried.algebra
values_in_form r f = values_of (exps (variables_of r.carried)) (ring_of r.carried) (placed_values r) r.carried.order f

-- The jets of the order in all variables, modulo the Jacobian ideal of the printed form, are free with the printed basis, as many monomials
-- as the Milnor number says.
pub record IsFreeWhole (r : named_type.Named) : Type 0 where
  pub spans : (f : PolynomialOver (variables_of r.carried) r.carried.algebra)
      → InFormIdeal r (f ++ (poly_in (variables_of r.carried) (ring_of r.carried)).neg (placed_combination r (values_in_form r f)))
  pub independent : (v : ℕ → Value r.carried.algebra) → InFormIdeal r (placed_combination r v) → (j : ℕ) → j < r.milnor → v j ≡ (ring_of r.carried).zero

-- of a valid named report the jets modulo the form's Jacobian ideal are free, so that the Milnor number is their dimension
abbrev pub NamedIsFreeWhole : Type 0
NamedIsFreeWhole = (bytes : List ℕ) (l : Line) (r : named_type.Named) → IsWellFormedNamed r → AllByRecursion (NamedItem bytes l r) named_items → IsFreeWhole r

-- the germ of a valid limit report, in its own variables and over the printed algebra, does not meet Mather's condition at the order or below
abbrev pub LimitHasNoRows : Type 0
LimitHasNoRows = (bytes : List ℕ) (l : Line) (r : limit_type.Limit) → IsWellFormedLimit r → AllByRecursion (LimitItem bytes l r) limit_items
    → (k : ℕ) → k ≤ r.carried.order → MatherRows (exps (length (names_of l))) (ring_of r.carried) k (germ_in l r.carried.algebra) → ⊥

-- the form of a valid named report meets Mather's condition at the order, for all its monomials, those with square variables among them
abbrev pub NamedHasRows : Type 0
NamedHasRows = (bytes : List ℕ) (l : Line) (r : named_type.Named) → IsWellFormedNamed r → AllByRecursion (NamedItem bytes l r) named_items
    → MatherRows (exps (variables_of r.carried)) (ring_of r.carried) r.carried.order (jet_of r.carried)
