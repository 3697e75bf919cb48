-- What is answered for a line is right, and planned.
use Rattle.std.proofs.Common.{◌≡◌, ℕ, ◌<◌, ◌≤◌, ◌⊎◌, inl, inr, Bool, true, false, cond, min, nat_le, List, [], ◌∷◌, map, sum, length, length-append, ◌++◌, refl, sym, ap, subst, ◌∙◌, true≢false, arith, ltb-true, lt-ltb}
use Rattle.std.specs.Prelude.{nat_lt}
use Rattle.std.specs.List.{All, AllByRecursion, list_all}
use Rattle.std.proofs.lemmas.List.{length-map}
use Rattle.std.proofs.lemmas.List.Elements.{recursion_from_All}
use Rattle.ring_theory.specs.Rational.{Rational, rational_ops}
use Rattle.ring_theory.specs.Height.{rational_scalars}
use Rattle.ring_theory.proofs.RationalLaws.{rational_scalar_laws, rational_laws}
use Rattle.ring_law.specs.declared.fraction.Frac.{Frac}
use Rattle.ring_law.specs.Fraction.{frac_value, rational_meaning}
use Rattle.poly_law.specs.ExpList.{ExpList, exps}
use Rattle.poly_law.specs.Exps.{degree, same, variable}
use Rattle.poly_law.specs.Poly.{SameTo, coefficient}
use Rattle.poly_law.specs.Polynomials.{Polynomial, StartsAtIn, coefficient_in}
use Rattle.poly_law.proofs.ExpLists.{exps_are}
use Rattle.poly_law.proofs.ExpLaws
use Rattle.mono_exp.specs.declared.exponent.Exp.{Exp}
use Rattle.mono_exp.specs.Exponents.{IsIn}
use Rattle.mono_exp.proofs.Lists.{Each}
use Rattle.jet_law.specs.Canonical.{jet}
use Rattle.jet_law.specs.Terms.{poly_of}
use Rattle.jet_law.proofs.TermLemmas.{degree-exp_of}
use Rattle.jet_poly.specs.JetTerms.{JetTerms}
use Rattle.germ_law.specs.Germ as germs
use Rattle.germ_law.specs.Germ.{RationalPolynomial, germ_of, without_constant, IsCritical}
use Rattle.germ_law.specs.Reading.{IsReadingHigh}
use Rattle.germ_law.proofs.Canonical
use Rattle.line_syntax.specs.Syntax.{Line, names_of, is_name}
use Rattle.line_syntax.proofs.OneLine.{one_line}
use Rattle.line_jet_law.specs.LineJets.{order_limit, IsRationalJet, rational_polynomial}
use Rattle.line_jet.specs.Reads.{order_of, IsReadHigh}
use Rattle.line_germ.specs.Names.{name_of}
use Rattle.line_germ.specs.Reads.{IsLineGerm, IsLiteralAt, IsLinearIn}
use Rattle.line_germ.specs.declared.reading.Germ.{Germ}
use Rattle.poly_text.specs.declared.name.Name.{Name}
use Rattle.poly_text.specs.Polynomials.{name_text}
use Rattle.cert_text.specs.declared.report.Answer.{Answer}
use Rattle.cert_text.specs.declared.report.Answer.TheVariants as answers
use Rattle.cert_text.specs.declared.report.Carried.{Carried}
use Rattle.cert_text.specs.declared.report.Phase.TheVariants as phases
use Rattle.cert_text.specs.declared.report.Phase.{Phase}
use Rattle.cert_text.specs.WellFormed.{is_valid_name}
use Rattle.report_law.specs.Items.{IsShape}
use Rattle.report_law.specs.Right.{IsWithin}
use Rattle.report_law.proofs.Exclusions.{small_excludes, critical_excludes}
use Rattle.report_law.proofs.Names.{line_names, linear_valid, names_of_words, words_of_names}
use Rattle.report_jet.proofs.OneJet
use Rattle.plan_law.specs.Outcomes.{Outcome}
use Rattle.plan_law.specs.Plan.{HasOutcome, IsPhaseHigh}
use Rattle.planned_law.specs.Planned.{is_unbuilt, corank_of_line, IsUnbuilt, IsPlannedFor}
use Rattle.planned_law.specs.Planned as plans
use Rattle.determinator.specs.Answered.{IsPlannedAnswer, by_outcome, in_range, by_corank}
use Rattle.determinator.specs.Lines.{IsGood}
use Rattle.determinator.specs.Places.{IsPastReading}
use Rattle.determinator.specs.Reports.{AreNames, IsCarriedGerm, IsReport}
use Rattle.determinator.specs.Starts.{IsGermJet, IsJetOfGerm}

-- ---- refusals

pub literal_good : (bytes : List ℕ) (limit column : ℕ) → length bytes ≤ 65536 → IsLiteralAt bytes column → IsGood bytes limit (answers.Literal column)
literal_good bytes limit column short h = record {
  well_formed =
      let place = h.error.place in
      let at = h.column_is in
      let size : length bytes ≡ length (h.error.front ++ h.error.digits ++ h.error.rest) = ap (λ l. length l) h.error.bytes_are in
      let two = length-append (h.error.front ++ h.error.digits) h.error.rest in
      let one = length-append h.error.front h.error.digits in
      omega arith;
  right = h;
  planned = λ l k. absurd (small_excludes bytes column l k.spells k.small h);
}

pub high_good : (bytes : List ℕ) (limit : ℕ) → IsReadHigh bytes limit → IsGood bytes limit (answers.Range phases.Line)
high_good bytes limit h = record {
  well_formed = tt;
  right = record { read = record { line = h.line; spells = h.spells; small = h.small }; is_high = h.is_high };
  planned = λ l k. plans.in_range (subst (λ x. IsReadingHigh (order_of limit x) x) (one_line bytes h.line l h.spells k.spells) h.is_high);
}

pub linear_good : (bytes : List ℕ) (limit : ℕ) (variable : Name) → IsLinearIn bytes variable → IsGood bytes limit (answers.NotCritical variable)
linear_good bytes limit variable h = record { well_formed = linear_valid bytes variable h; right = h; planned = λ l k. absurd (critical_excludes bytes l variable k h) }

-- ---- the germ of a critical line has no constant and no linear term

module _ (n : ℕ) where
  abbrev at_monomial : RationalPolynomial n → ExpList n → Rational
  at_monomial f m = coefficient (exps n) rational_ops f m

  skip : (t : ExpList n × Rational) (f : RationalPolynomial n) (m : ExpList n) → (t.0 ≡ m → ⊥) → at_monomial (t ∷ f) m ≡ at_monomial f m
  skip t f m apart = ap (λ b. rational_ops.add (cond b t.1 rational_ops.zero) (at_monomial f m)) (ExpLaws.same-no (exps n) (exps_are n) t.0 m apart) ∙ zero_add (at_monomial f m)
    where
      zero_add : (v : Rational) → rational_ops.add rational_ops.zero v ≡ v
      zero_add v = rational_laws.add_comm rational_ops.zero v ∙ rational_laws.add_zero v

  -- the constant term is left out, and no other
  no_constant : (f : RationalPolynomial n) (m : ExpList n) → degree (exps n) m ≡ 0 → at_monomial (without_constant n f) m ≡ rational_ops.zero
  no_constant [] m d = refl
  no_constant (t ∷ f) m d = by_test (nat_lt 0 (degree (exps n) t.0)) refl (no_constant f m d)
    where
      by_test : (b : Bool) → nat_lt 0 (degree (exps n) t.0) ≡ b → at_monomial (without_constant n f) m ≡ rational_ops.zero → at_monomial (cond b (t ∷ without_constant n f) (without_constant n f)) m ≡ rational_ops.zero
      by_test true q rest =
          let some = ltb-true 0 (degree (exps n) t.0) q in
          skip t (without_constant n f) m (λ e. let z = ap (degree (exps n)) e in omega arith) ∙ rest
      by_test false q rest = rest

  same_linear : (f : RationalPolynomial n) (m : ExpList n) → degree (exps n) m ≡ 1 → at_monomial (without_constant n f) m ≡ at_monomial f m
  same_linear [] m d = refl
  same_linear (t ∷ f) m d = by_test (nat_lt 0 (degree (exps n) t.0)) refl (same_linear f m d)
    where
      by_test : (b : Bool) → nat_lt 0 (degree (exps n) t.0) ≡ b → at_monomial (without_constant n f) m ≡ at_monomial f m → at_monomial (cond b (t ∷ without_constant n f) (without_constant n f)) m ≡ at_monomial (t ∷ f) m
      by_test true q rest = ap (λ v. rational_ops.add (cond (same (exps n) t.0 m) t.1 rational_ops.zero) v) rest
      by_test false q rest = rest ∙ sym (skip t f m (λ e. let z = ap (degree (exps n)) e in true≢false (sym (lt-ltb 0 (degree (exps n) t.0) (omega arith)) ∙ q)))

zero_or_one : (d : ℕ) → d < 2 → (d ≡ 0) ⊎ (d ≡ 1)
zero_or_one d h = grind arith

pub germ_low : (bytes : List ℕ) (l : Line) → IsCritical bytes l → StartsAtIn (length (names_of l)) rational_scalars.ops 2 (germ_of l)
germ_low bytes l h m d = cases (zero_or_one (degree (exps (length (names_of l))) m) d)
  where
    n : ℕ
    n = length (names_of l)

    cases : (degree (exps (length (names_of l))) m ≡ 0) ⊎ (degree (exps (length (names_of l))) m ≡ 1) → coefficient_in (length (names_of l)) rational_scalars.ops (germ_of l) m ≡ rational_scalars.ops.zero
    cases (inl z) = no_constant (length (names_of l)) (germs.polynomial_of l) m z
    cases (inr z) =
        let v = ExpLaws.variable_of_degree (exps (length (names_of l))) (exps_are (length (names_of l))) m z in
        same_linear (length (names_of l)) (germs.polynomial_of l) m z ∙ ap (coefficient (exps (length (names_of l))) rational_ops (germs.polynomial_of l)) v.2 ∙ h.critical v.0 v.1

-- ---- the jet that was read

each_low : (n k : ℕ) (ts : List (Exp × Frac)) → AllByRecursion (λ t. IsIn n t.0.e) ts → AllByRecursion (λ t. sum t.0.e ≤ k) ts → Each (λ (t : ExpList n × Rational). degree (exps n) t.0 ≤ k) (poly_of n frac_value ts)
each_low n k [] i d = tt
each_low n k (t ∷ ts) i d = ((let e = degree-exp_of n t.0 i.0 in let low = d.0 in omega arith), each_low n k ts i.1 d.1)

-- a jet that agrees with a polynomial up to its order is the jet of it
pub jet_of_polynomial : (n k : ℕ) (f : JetTerms Frac) (g : Polynomial n Rational) → IsRationalJet n k f → SameTo (exps n) rational_ops k (rational_polynomial n f) g → poly_of n frac_value f.terms ≡ jet n rational_scalars k g
jet_of_polynomial n k f g h same =
    let inside : All (λ (t : Exp × Frac). IsIn n t.0.e) f.terms = subst (λ z. All (λ (t : Exp × Frac). IsIn z t.0.e) f.terms) h.n_is h.is_jet.variables in
    let low : All (λ (t : Exp × Frac). sum t.0.e ≤ k) f.terms = subst (λ z. All (λ (t : Exp × Frac). sum t.0.e ≤ z) f.terms) h.order_is h.is_jet.degrees in
    Canonical.one_jet n rational_scalars rational_scalar_laws k (poly_of n frac_value f.terms) g
    (OneJet.rising_in rational_meaning rational_scalar_laws.ring n f.terms inside h.rising)
    (OneJet.no_zero_in rational_meaning rational_scalar_laws.ring n f.terms h.is_jet.units)
    (each_low n k f.terms (recursion_from_All (λ t. IsIn n t.0.e) f.terms inside) (recursion_from_All (λ t. sum t.0.e ≤ k) f.terms low)) same

-- what holds of the jet and each germ that it is of, holds in as many variables and up to the order that it has
at_germ : (f : JetTerms Frac) (P : (z : ℕ) → ℕ → Polynomial z Rational → Type 0) → ((g : Polynomial f.n Rational) → IsJetOfGerm f g → P f.n f.order g) → (z k : ℕ) → f.n ≡ z → f.order ≡ k
    → (w : Polynomial z Rational) → poly_of z frac_value f.terms ≡ jet z rational_scalars k w → StartsAtIn z rational_scalars.ops 2 w → P z k w
at_germ f P h z k variables order =
    subst (λ k. (w : Polynomial z Rational) → poly_of z frac_value f.terms ≡ jet z rational_scalars k w → StartsAtIn z rational_scalars.ops 2 w → P z k w) order
    (subst (λ z. (w : Polynomial z Rational) → poly_of z frac_value f.terms ≡ jet z rational_scalars f.order w → StartsAtIn z rational_scalars.ops 2 w → P z f.order w) variables
    (λ w polynomial low. h w (record { polynomial = polynomial; low = low })))

order_from : (limit n : ℕ) → 3 ≤ limit → limit ≤ 16 → (3 ≤ order_limit limit n) × (order_limit limit n ≤ 16)
order_from limit n low high = step (nat_le n 4)
  where
    step : (b : Bool) → (3 ≤ cond b limit (min limit 12)) × (cond b limit (min limit 12) ≤ 16)
    step true = (low, high)
    step false = (omega arith, omega arith)

order_many : (limit n : ℕ) → 5 ≤ n → order_limit limit n ≤ 12
order_many limit n h = subst (λ b. cond b limit (min limit 12) ≤ 12) (sym few) (omega arith)
  where
    few : nat_le n 4 ≡ false
    few = grind arith

module _ (bytes : List ℕ) (limit : ℕ) (low_limit : 3 ≤ limit) (high_limit : limit ≤ 16) (g : Germ) (h : IsLineGerm bytes limit g) where
  abbrev l : Line
  l = h.is_germ.line

  abbrev n : ℕ
  n = length (names_of l)

  abbrev f : JetTerms Frac
  f = g.jet

  same_polynomial : poly_of n frac_value f.terms ≡ jet n rational_scalars (order_of limit l) (germ_of l)
  same_polynomial = jet_of_polynomial n (order_of limit l) f (germ_of l) h.is_germ.is_germ.is_jet h.is_germ.is_germ.germ

  low : StartsAtIn n rational_scalars.ops 2 (germ_of l)
  low = germ_low bytes l h.is_germ.critical

  -- the germ of the line in the variables of the jet
  pub germ_jet : IsGermJet f
  germ_jet =
      let v = h.is_germ.is_germ.is_jet.n_is in
      let e = h.is_germ.is_germ.is_jet.order_is in
      let r = order_from limit n low_limit high_limit in
      let at_least = r.0 in
      let at_most = r.1 in
      let some = h.is_germ.critical.spells.is_line.some_name in
      let few = h.is_germ.critical.spells.is_line.few_names in
      subst (λ z. (w : Polynomial z Rational) → poly_of z frac_value f.terms ≡ jet z rational_scalars f.order w → StartsAtIn z rational_scalars.ops 2 w → IsGermJet f) v
      (λ w polynomial starts. record {
        jet = h.is_germ.is_germ.is_jet.is_jet;
        given = omega arith;
        at_most_8_variables = omega arith;
        order_at_least_3 = omega arith;
        order_at_most_16 = omega arith;
        low = λ m d. ap (λ q. coefficient_in f.n rational_scalars.ops q m) polynomial ∙ Canonical.jet_same_to f.n rational_scalars rational_scalar_laws f.order w m (omega arith) ∙ starts m d;
        germ = w;
        germ_is = record { polynomial = polynomial; low = starts };
      })
      (germ_of l) (subst (λ k. poly_of n frac_value f.terms ≡ jet n rational_scalars k (germ_of l)) (sym e) same_polynomial) low

  words_valid : list_all is_name (names_of l) ≡ true
  words_valid = line_names l h.is_germ.critical.spells.is_line

  names_same : g.names ≡ map name_of (names_of l)
  names_same = h.names_are ∙ ap (map name_of) (sym h.is_germ.names_are)

  name_count : length g.names ≡ n
  name_count = ap (λ (ns : List Name). length ns) names_same ∙ length-map (names_of l) name_of

  pub germ_names : AreNames f.n g.names
  germ_names = record {
    count = name_count ∙ sym h.is_germ.is_germ.is_jet.n_is;
    valid = subst (λ ns. list_all is_valid_name ns ≡ true) (sym names_same) (names_of_words (names_of l) words_valid);
  }

  -- ---- the answer

  module _ (a : Answer) (planned : (q : Polynomial f.n Rational) → IsJetOfGerm f q → IsPlannedAnswer g.names f.n f.order q a) where
    answer_planned : IsPlannedAnswer g.names n (order_of limit l) (germ_of l) a
    answer_planned = at_germ f (λ z k w. IsPlannedAnswer g.names z k w a) planned n (order_of limit l) h.is_germ.is_germ.is_jet.n_is h.is_germ.is_germ.is_jet.order_is (germ_of l) same_polynomial low

  -- what a report carries
  module _ (c : Carried) (k : IsCarriedGerm g.names n (order_of limit l) (germ_of l) c) where
    count : length c.names ≡ n
    count = ap (λ (ns : List Name). length ns) k.names_are ∙ name_count

    shape : IsShape l c
    shape = record {
      names = ap (map name_text) (k.names_are ∙ names_same) ∙ words_of_names (names_of l) words_valid;
      parts = k.well_formed.parts_count;
      corank = k.well_formed.corank;
      order = λ many. let top = order_many limit n (let e = count in omega arith) in let o = k.order in omega arith;
    }

    within : IsWithin limit c
    within = record { order = subst (λ z. c.order ≤ order_limit limit z) (sym count) k.order; field = k.field }

  built_only : is_unbuilt (corank_of_line l) ≡ false → IsUnbuilt limit bytes → ⊥
  built_only built u =
      let same = one_line bytes u.line l u.critical.spells h.is_germ.critical.spells in
      true≢false (sym (subst (λ x. is_unbuilt (corank_of_line x) ≡ true) same u.corank) ∙ built)

  -- each critical line that the bytes spell is this one
  for_each : (a : Answer) → IsPlannedFor limit l a → (x : Line) → IsCritical bytes x → IsPlannedFor limit x a
  for_each a p x k = subst (λ x. IsPlannedFor limit x a) (one_line bytes l x h.is_germ.critical.spells k.spells) p

  module _ (built : is_unbuilt (corank_of_line l) ≡ false) (outcome : Outcome n) (runs : HasOutcome n (germ_of l) (order_of limit l) outcome) where
    report_good : (a : Answer) → IsReport g.names n (order_of limit l) (germ_of l) a outcome → IsGood bytes limit a
    report_good (answers.Named r) k =
        let t = k.is_true in
        record {
          well_formed = t.well_formed;
          right = (
            (l, (h.is_germ.critical, ((shape r.carried t.carried, t.corank), (t.carried.invertible, (t.carried.carried, (t.form, (t.units, (t.modulus, (t.mather, (t.milnor, tt)))))))))),
            within r.carried t.carried,
            built_only built,
          );
          planned = for_each (answers.Named r) (plans.by_outcome built (record { outcome = outcome; planned = runs; reports = k.reports; rest = (t.carried.invertible, t.modulus, t.milnor) }));
        }
    report_good (answers.Outside r) k =
        let t = k.is_true in
        record {
          well_formed = t.carried.well_formed;
          right = (
            (l, (h.is_germ.critical, ((shape r.carried t.carried, t.order), (t.carried.invertible, (t.carried.carried, (t.pattern, tt)))))),
            within r.carried t.carried,
            built_only built,
          );
          planned = for_each (answers.Outside r) (plans.by_outcome built (record { outcome = outcome; planned = runs; reports = k.reports; rest = t.carried.invertible }));
        }
    report_good (answers.Limit r) k =
        let t = k.is_true in
        record {
          well_formed = t.well_formed;
          right = (
            (l, (h.is_germ.critical, ((shape r.carried t.carried, t.corank, t.at_least_3), (t.carried.invertible, (t.carried.carried, (t.functional, tt)))))),
            within r.carried t.carried,
            subst (λ z. r.carried.order ≡ order_limit limit z) (sym (count r.carried t.carried)) t.at_last,
            built_only built,
          );
          planned = for_each (answers.Limit r) (plans.by_outcome built (record { outcome = outcome; planned = runs; reports = k.reports; rest = t.carried.invertible }));
        }
    report_good (answers.Unresolved r) k =
        let t = k.is_true in
        record {
          well_formed = t.well_formed;
          right = (
            (l, (h.is_germ.critical, ((shape r.carried t.carried, t.corank), (t.carried.invertible, (t.carried.carried, (t.determined, tt)))))),
            within r.carried t.carried,
            built_only built,
          );
          planned = for_each (answers.Unresolved r) (plans.by_outcome built (record { outcome = outcome; planned = runs; reports = k.reports; rest = t.carried.invertible }));
        }
    report_good answers.Unbuilt k = absurd k.is_true
    report_good (answers.Range p) k = absurd k.is_true
    report_good (answers.Syntax column what) k = absurd k.is_true
    report_good (answers.Literal column) k = absurd k.is_true
    report_good (answers.NotCritical variable) k = absurd k.is_true

  range_good : (p : Phase) → IsPastReading p → IsPhaseHigh n (germ_of l) (order_of limit l) p → IsGood bytes limit (answers.Range p)
  range_good phases.Line past high = absurd past
  range_good phases.Hessian past high = record { well_formed = tt; right = (l, h.is_germ.critical); planned = for_each (answers.Range phases.Hessian) (plans.in_range high) }
  range_good phases.Split past high = record { well_formed = tt; right = (l, h.is_germ.critical); planned = for_each (answers.Range phases.Split) (plans.in_range high) }
  range_good phases.Shape past high = record { well_formed = tt; right = (l, h.is_germ.critical); planned = for_each (answers.Range phases.Shape) (plans.in_range high) }
  range_good phases.Kill past high = record { well_formed = tt; right = (l, h.is_germ.critical); planned = for_each (answers.Range phases.Kill) (plans.in_range high) }
  range_good phases.Mather past high = record { well_formed = tt; right = (l, h.is_germ.critical); planned = for_each (answers.Range phases.Mather) (plans.in_range high) }
  range_good phases.Finish past high = record { well_formed = tt; right = (l, h.is_germ.critical); planned = for_each (answers.Range phases.Finish) (plans.in_range high) }
  range_good phases.Milnor past high = record { well_formed = tt; right = (l, h.is_germ.critical); planned = for_each (answers.Range phases.Milnor) (plans.in_range high) }

  planned_good : (a : Answer) → IsPlannedAnswer g.names n (order_of limit l) (germ_of l) a → IsGood bytes limit a
  planned_good a (by_outcome {outcome = outcome} built runs report) = report_good built outcome runs a report
  planned_good _ (in_range {p} past high) = range_good p past high
  planned_good _ (by_corank c) = record {
    well_formed = tt;
    right = record { line = l; critical = h.is_germ.critical; corank = c };
    planned = for_each answers.Unbuilt (plans.by_corank c);
  }

  pub germ_good : (a : Answer) → ((q : Polynomial f.n Rational) → IsJetOfGerm f q → IsPlannedAnswer g.names f.n f.order q a) → IsGood bytes limit a
  germ_good a planned = planned_good a (answer_planned a planned)
