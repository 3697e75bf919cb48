-- The germ of the line, carried by the change of a report.
use Rattle.std.proofs.Common.{◌≡◌, ℕ, ◌≤◌, Bool, true, false, cond, IsTrue, ◌↔◌, Result, IfOk, List, length, max, min, sym, ap, subst, ◌∙◌, refl, arith, le-leb, true≢false}
use Rattle.std.specs.Prelude.{nat_le}
use Rattle.std.proofs.lemmas.List.{length-map}
use Rattle.ring_law.specs.declared.fraction.Fault.{Fault}
use Rattle.ring_law.specs.Refusals.{OnFault}
use Rattle.ring_law.proofs.Exits.{faulted_by}
use Rattle.ring_theory.specs.Rational.{Rational, rational_ops}
use Rattle.ring_law.specs.declared.fraction.Frac.{Frac}
use Rattle.poly_law.specs.Polynomials.{Polynomial, SameToIn, substitute}
use Rattle.jet_poly.specs.JetTerms.{JetTerms}
use Rattle.jet_poly.proofs.Steps.{if_ok}
use Rattle.line_syntax.specs.Syntax.{Line, names_of}
use Rattle.germ_law.specs.Germ.{IsCritical, germ_of}
use Rattle.line_jet_law.specs.LineJets.{rational_polynomial}
use Rattle.line_jet.specs.Reads.{IsGermOf, order_of}
use Rattle.line_germ.specs.declared.reading.Germ.{Germ}
use Rattle.poly_text.specs.Polynomials.{name_text}
use Rattle.cert_text.specs.declared.report.Carried.{Carried}
use Rattle.report_law.specs.Polynomials.{lifted, terms_in, jet_at}
use Rattle.report_law.specs.Items.{variables_of, ring_of, IsShape, IsCarriedTo}
use Rattle.check_line.specs.declared.tested.Tested.{Tested}
use Rattle.check_line.specs.Tests.{IsTested}
use Rattle.check_line.specs.Lines.{reading_limit, IsGermOfLine}
use Rattle.cert_check.specs.Heights.{IsGermCarryHigh}
use Rattle.check_change.specs.Heights.{IsCarryHigh}
use Rattle.cert_check.specs.Outcomes.{IsTestOf}
use Rattle.cert_check.proofs.Findings.{tested_is}

-- what the call says of one answer: for each polynomial in n variables that the jet agrees with up to the order
abbrev pub Carries : (c : Carried) → JetTerms Frac → Bool → ℕ → Type 0
Carries c germ b n = (g : Polynomial n Rational) → SameToIn n rational_ops c.order (rational_polynomial n germ) g
    → IsTrue b ↔ SameToIn n (ring_of c) c.order (terms_in n c.algebra c.jet.terms) (substitute n n (ring_of c) (λ i. jet_at n c.algebra c.change.parts i) (lifted n c.algebra g))

-- as many variables as the line has
pub same_count : (l : Line) (c : Carried) → IsShape l c → length c.names ≡ length (names_of l)
same_count l c shape = sym (length-map c.names name_text) ∙ ap (λ w. length w) shape.names

-- the order of the report is at most the order of the germ
pub order_low : (l : Line) (c : Carried) → IsShape l c → c.order ≤ order_of (reading_limit c.order) l
order_low l c shape = by_test (nat_le (length (names_of l)) 4) refl
  where
    by_test : (b : Bool) → nat_le (length (names_of l)) 4 ≡ b → c.order ≤ cond b (max c.order 3) (min (max c.order 3) 12)
    by_test true e = omega arith
    by_test false e =
        let many : 5 ≤ length c.names = let n = same_count l c shape in let large : (length (names_of l) ≤ 4) → ⊥ = λ h. true≢false (sym (le-leb (length (names_of l)) 4 h) ∙ e) in grind (arith, n, large) in
        let low = shape.order many in
        omega (arith, low)

-- for a line with the shape of the report and its germ, the call decides whether the germ is carried to the jet
pub carries_line : (l : Line) (c : Carried) (germ : JetTerms Frac) (b : Bool) → IsShape l c → IsGermOf (reading_limit c.order) l germ
    → Carries c germ b (length c.names) → IsTrue b ↔ IsCarriedTo l c
carries_line l c germ b shape is_germ h =
    let at_line = subst (Carries c germ b) (same_count l c shape) h in
    let low = order_low l c shape in
    at_line (germ_of l) (λ m d. is_germ.germ m (omega (arith, d, low)))

-- the same as a test: where the call is refused, the numbers of the germ that is carried are high
pub carried_test : (bytes : List ℕ) (c : Carried) (g : Germ) (r : Result Bool Fault) → IsGermOfLine bytes (reading_limit c.order) g → ((l : Line) → IsCritical bytes l → IsShape l c)
    → IfOk r (λ b. Carries c g.jet b (length c.names)) → OnFault r (IsCarryHigh c (rational_polynomial (variables_of c) g.jet))
    → (t : Tested) → IsTestOf r t → (l : Line) → IsCritical bytes l → IsTested (IsCarriedTo l c) (IsGermCarryHigh bytes c) t
carried_test bytes c g r h shape carried range t test l critical =
    let germ : IsGermOf (reading_limit c.order) l g.jet = subst (λ m. IsGermOf (reading_limit c.order) m g.jet) (sym (h.only l critical.spells)) h.germ in
    tested_is (IsCarriedTo l c) (IsGermCarryHigh bytes c) r (if_ok r (λ b k. carries_line l c g.jet b (shape l critical) germ k) carried)
    (faulted_by (λ high. record { line = l; critical = critical; germ = g.jet; is_germ = germ; high = high }) range) t test
