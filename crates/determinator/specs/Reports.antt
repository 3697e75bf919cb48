-- What a report says of a germ, apart from the line that the germ is of: the outcome that it reports, and the items that are true of the germ.
use Rattle.std.specs.Prelude.{◌≡◌, ℕ, ◌≤◌, IsTrue, Some, List, length}
use Rattle.std.specs.List.{list_all}
use Rattle.ring_theory.specs.Rational.{Rational}
use Rattle.ext_algebra.specs.Algebra.{IsIrreducible}
use Rattle.poly_law.specs.ExpList.{exps}
use Rattle.poly_law.specs.Poly.{SameTo}
use Rattle.poly_law.specs.Polynomials.{Polynomial, substitute}
use Rattle.normal_forms.specs.Patterns.{order_of}
use Rattle.poly_text.specs.declared.name.Name.{Name}
use Rattle.cert_text.specs.declared.report.Carried.{Carried}
use Rattle.cert_text.specs.declared.report.Named as named_type
use Rattle.cert_text.specs.declared.report.Outside as outside_type
use Rattle.cert_text.specs.declared.report.Limit as limit_type
use Rattle.cert_text.specs.declared.report.Unresolved as unresolved_type
use Rattle.cert_text.specs.declared.report.Answer.{Answer}
use Rattle.cert_text.specs.declared.report.Answer.TheVariants as answers
use Rattle.cert_text.specs.WellFormed.{is_valid_name, IsWellFormedCarried, IsWellFormedNamed, IsWellFormedLimit, IsWellFormedUnresolved}
use Rattle.report_law.specs.Polynomials.{terms_in, jet_at, lifted}
use Rattle.report_law.specs.Items.{ring_of, IsInvertibleChange, IsForm, AreUnits, IsModulusOf, AreMatherRows, IsMilnorTable, IsInPattern, IsLimitFunctional, IsDetermined}
use Rattle.plan_law.specs.Outcomes.{Outcome}
use Rattle.planned_law.specs.Planned.{reported}

-- valid names of n variables
pub record AreNames (n : ℕ) (names : List Name) : Type 0 where
  pub count : length names ≡ n
  pub valid : IsTrue (list_all is_valid_name names)

module _ (names : List Name) (n last : ℕ) (germ : Polynomial n Rational) where
  -- the germ in new variables, over a field, up to an order of at most `last`: the change has an invertible linear part and carries the germ to the jet
  pub record IsCarriedGerm (c : Carried) : Type 0 where
    pub names_are : c.names ≡ names
    pub well_formed : IsWellFormedCarried c
    pub order : c.order ≤ last
    pub field : IsIrreducible c.algebra
    pub invertible : IsInvertibleChange c
    pub carried : SameTo (exps n) (ring_of c) c.order (terms_in n c.algebra c.jet.terms) (substitute n n (ring_of c) (λ i. jet_at n c.algebra c.change.parts i) (lifted n c.algebra germ))

  -- the items of a named report
  pub record IsNamedGerm (r : named_type.Named) : Type 0 where
    pub well_formed : IsWellFormedNamed r
    pub carried : IsCarriedGerm r.carried
    pub corank : r.carried.corank ≤ 3
    pub form : IsForm r.family r.carried
    pub units : AreUnits r
    pub modulus : IsModulusOf r
    pub mather : AreMatherRows r.carried r.mather
    pub milnor : IsMilnorTable r

  -- of an outside report
  pub record IsOutsideGerm (r : outside_type.Outside) : Type 0 where
    pub carried : IsCarriedGerm r.carried
    pub order : r.carried.order ≡ order_of r.pattern
    pub pattern : IsInPattern r.pattern r.carried

  -- of a limit report
  pub record IsLimitGerm (r : limit_type.Limit) : Type 0 where
    pub well_formed : IsWellFormedLimit r
    pub carried : IsCarriedGerm r.carried
    pub corank : r.carried.corank ≤ 3
    pub at_least_3 : 3 ≤ r.carried.order
    pub at_last : r.carried.order ≡ last
    pub functional : IsLimitFunctional r

  -- of an unresolved report
  pub record IsUnresolvedGerm (r : unresolved_type.Unresolved) : Type 0 where
    pub well_formed : IsWellFormedUnresolved r
    pub carried : IsCarriedGerm r.carried
    pub corank : r.carried.corank ≤ 3
    pub determined : IsDetermined r

  -- the items that are true of the germ; other answers report no outcome
  abbrev pub IsTrueOf : Answer → Type 0
  IsTrueOf (answers.Named r) = IsNamedGerm r
  IsTrueOf (answers.Outside r) = IsOutsideGerm r
  IsTrueOf (answers.Limit r) = IsLimitGerm r
  IsTrueOf (answers.Unresolved r) = IsUnresolvedGerm r
  IsTrueOf answers.Unbuilt = ⊥
  IsTrueOf (answers.Range phase) = ⊥
  IsTrueOf (answers.Syntax column what) = ⊥
  IsTrueOf (answers.Literal column) = ⊥
  IsTrueOf (answers.NotCritical variable) = ⊥

  -- the answer reports the outcome, and its items are true of the germ
  pub record IsReport (answer : Answer) (outcome : Outcome n) : Type 0 where
    pub reports : reported n answer ≡ Some outcome
    pub is_true : IsTrueOf answer
