-- The answer of Mather's test from what solves or excludes each monomial.
use Rattle.std.proofs.Common.{◌≡◌, ℕ, zero, suc, ◌+◌, ◌<◌, ◌≤◌, inl, inr, List, [], ◌∷◌, length, get_or, map, sum, refl, sym, ap, ap₂, subst, ◌∙◌, arith, Result, Ok, Err, IfOk}
use Rattle.std.specs.List.{All}
use Rattle.std.proofs.lemmas.List.Elements.{recursion_from_All, All-from_recursion}
use Rattle.ring_theory.specs.Ring.{RingOps, IsCommRing}
use Rattle.ring_theory.specs.Scalars.{Meaning}
use Rattle.poly_law.specs.Sums.{unit_at}
use Rattle.poly_law.specs.Exps.{degree}
use Rattle.poly_law.specs.ExpList.{ExpList, exps}
use Rattle.poly_law.specs.Poly.{coefficient, StartsAt, times, term, derivative, cut, value_on}
use Rattle.poly_law.specs.Polynomials.{Polynomial, StartsAtIn, term_in}
use Rattle.mono_exp.specs.declared.exponent.Exp.{Exp}
use Rattle.mono_exp.specs.Exponents.{IsIn, exponents, monomials_of}
use Rattle.jet_law.specs.Terms.{exp_of, poly_of}
use Rattle.jet_law.proofs.TermLemmas.{degree-exp_of}
use Rattle.jet_poly.specs.JetTerms.{JetTerms}
use Rattle.lin_row.specs.Lines.{AllBelow, EachOf, entry}
use Rattle.lin_row.specs.Rows.{rows_of, IsSolved, IsExcluded, IsSolution, AreSolutions}
use Rattle.lin_row.proofs.BuildLaws.{rows-length}
use Rattle.lin_row.proofs.SystemLaws
use Rattle.lin_row.specs.declared.row.Row.{Row}
use Rattle.lin_row.specs.declared.row.Solution.{Solution}
use Rattle.lin_row.specs.declared.row.Solution.TheVariants.{Solved, Excluded}
use Rattle.jacobian_row.specs.Numbers.{number, count_to}
use Rattle.jacobian_row.specs.Multiples.{AreMultiples}
use Rattle.jacobian_row.specs.Multipliers.{terms_of}
use Rattle.jacobian_row.specs.Rows.{IsRowOf, AreRowsOf, AreMonomialRows, ArePartials}
use Rattle.jacobian_row.specs.declared.multiple.Multiple.{Multiple}
use Rattle.jacobian_row.proofs.Combinations
use Rattle.jacobian_row.proofs.MultiplierLemmas
use Rattle.jacobian_row.proofs.MultiplierLemmas.{jet_of}
use Rattle.jacobian_row.proofs.RowFacts
use Rattle.determinacy.specs.Tests.{IsJetOf, IsRow, AreRows, IsFailure, IsAnswer}
use Rattle.determinacy.specs.Answers.{IsRowFrom, IsUsable, IsRowBy, AreRowsBy, IsFailureBy, IsAnswerBy}
use Rattle.determinacy.specs.declared.row.MatherRow.{MatherRow}
use Rattle.determinacy.specs.declared.row.MatherTest.{MatherTest}
use Rattle.determinacy.specs.declared.row.MatherTest.TheVariants.{Holds, Fails}
use Rattle.determinacy.proofs.FailureLemmas

-- what the steps of the test have made
pub record Steps {E V : Type 0} (m : Meaning E V) (g : JetTerms E) (k n : ℕ) (answer : MatherTest E) : Type 0 where
  pub partials : List (JetTerms E)
  pub multiples : List Multiple
  pub rows : List (Row E)
  pub monomials : List Exp
  pub targets : List (Row E)
  pub solutions : List (Solution E)
  pub small : n ≤ 8
  pub are_partials : ArePartials m n (poly_of n m.value g.terms) partials
  pub are_multiples : AreMultiples n 2 k multiples
  pub are_rows : AreRowsOf m n (count_to n (k + 1)) (k + 1) partials multiples rows
  pub are_monomials : map (λ a. exponents n a.e) monomials ≡ monomials_of n (k + 1)
  pub unused : All (λ a. IsIn n a.e) monomials
  pub are_targets : AreMonomialRows m n (count_to n (k + 1)) monomials targets
  pub are_solutions : AreSolutions m rows targets solutions
  pub answered : IsAnswerBy m n k multiples monomials solutions answer

module _ {E V : Type 0} (m : Meaning E V) where
  pub solutions_length : (rows ts : List (Row E)) (ss : List (Solution E)) → AreSolutions m rows ts ss → length ss ≡ length ts
  solutions_length rows [] [] all = refl
  solutions_length rows [] (s ∷ ss) all = absurd all
  solutions_length rows (t ∷ ts) [] all = absurd all
  solutions_length rows (t ∷ ts) (s ∷ ss) all = ap suc (solutions_length rows ts ss all.1)

  solution_at : (rows ts : List (Row E)) (ss : List (Solution E)) → AreSolutions m rows ts ss → (i : ℕ) (t : Row E) (s : Solution E) → i < length ts → IsSolution m rows (get_or ts i t).entries (get_or ss i s)
  solution_at rows [] ss all i t s h = absurd (omega arith)
  solution_at rows (u ∷ ts) [] all i t s h = absurd all
  solution_at rows (u ∷ ts) (v ∷ ss) all zero t s h = all.0
  solution_at rows (u ∷ ts) (v ∷ ss) all (suc i) t s h = solution_at rows ts ss all.1 i t s (omega arith)

  row_monomial : (n k : ℕ) (us : List Multiple) (a : Exp) (sol : Solution E) (row : MatherRow E) → IsRowBy m n k us a sol row → row.monomial ≡ a
  row_monomial n k us a (Solved xs) row by = by.monomial
  row_monomial n k us a (Excluded values) row by = absurd by

-- rows whose monomials are those of a list
same_monomials : {E : Type 0} (n : ℕ) (rows : List (MatherRow E)) (ms : List Exp) → length rows ≡ length ms → ((i : ℕ) (row : MatherRow E) (a : Exp) → i < length rows → (get_or rows i row).monomial ≡ get_or ms i a)
    → map (λ row. exponents n row.monomial.e) rows ≡ map (λ a. exponents n a.e) ms
same_monomials n [] [] e same = refl
same_monomials n [] (a ∷ ms) e same = absurd (omega arith)
same_monomials n (row ∷ rows) [] e same = absurd (omega arith)
same_monomials n (row ∷ rows) (a ∷ ms) e same = ap₂ (λ x xs. x ∷ xs) (ap (λ (b : Exp). exponents n b.e) (same 0 row a (omega arith))) (same_monomials n rows ms (omega arith) (λ i r b h. same (suc i) r b (omega arith)))

module _ {E V : Type 0} (m : Meaning E V) (c : IsCommRing m.scalars.ops) (set : IsSet V) (g : JetTerms E) (k : ℕ) (answer : MatherTest E) (steps : Steps m g k g.n answer) where
  abbrev n : ℕ
  n = g.n

  abbrev r : RingOps V
  r = m.scalars.ops

  abbrev gp : Polynomial n V
  gp = poly_of n m.value g.terms

  open steps use {partials, multiples, rows, monomials, targets, solutions}

  abbrev bound : ℕ
  bound = count_to n (k + 1)

  degrees : All (λ a. sum a.e ≡ k + 1) monomials
  degrees = RowFacts.degrees_are n (k + 1) monomials steps.are_monomials steps.unused

  variables : All (λ u. u.variable < n) multiples
  variables = RowFacts.variables_within n 2 k multiples steps.are_multiples

  count-targets : length targets ≡ length monomials
  count-targets = RowFacts.monomials_length m n bound monomials targets steps.are_targets

  count-solutions : length solutions ≡ length targets
  count-solutions = solutions_length m rows targets solutions steps.are_solutions

  -- ---- a row
  module _ (a : Exp) (target : Row E) (unused : IsIn n a.e) (is_target : IsRowOf m n bound (term_in n r (exp_of n a)) target.entries) (xs : List E) (solved : IsSolved m (rows_of rows) target.entries xs) (row : MatherRow E) (from : IsRowFrom m n k multiples a xs row) where
    abbrev cs : List (ℕ × E)
    cs = from.nonzero

    within : AllBelow (length multiples) cs
    within = subst (λ b. AllBelow b cs) (solved.count ∙ rows-length rows ∙ RowFacts.rows_length m n bound (k + 1) partials multiples rows steps.are_rows) from.are.within

    is : (i : ℕ) (f : JetTerms E) → i < length row.multipliers → get_or row.multipliers i f ≡ jet_of n k (terms_of multiples cs i)
    is i f h = from.multipliers.each i f h

    is_jet : (i : ℕ) → IsJetOf m n k (jet_of n k (terms_of multiples cs i))
    is_jet i = record {
      jet = MultiplierLemmas.multiplier_jet m n 2 k multiples steps.are_multiples i k cs (omega arith) from.are.line.units within;
      variables = refl;
      order = refl;
      rising = MultiplierLemmas.terms_rise n 2 k steps.small multiples steps.are_multiples i cs from.are.line.rising within;
      long = MultiplierLemmas.multiplier_long m n 2 k multiples steps.are_multiples i cs from.are.line.units within;
    }

    starts : (i : ℕ) → StartsAt (exps n) r 2 (poly_of n m.value (terms_of multiples cs i))
    starts i = Combinations.starts_terms r c set n 2 (poly_of n m.value (terms_of multiples cs i)) (MultiplierLemmas.multiplier_low m n 2 k multiples steps.are_multiples i cs from.are.line.units within)

    default : JetTerms E
    default = record { n = 0; order = 0; terms = [] }

    made_row : IsRow m g k row
    made_row = record {
      monomial = record { unused = subst (λ (b : Exp). IsIn n b.e) (sym from.monomial) unused; long = subst (λ (b : Exp). length b.e ≡ 8) (sym from.monomial) from.long };
      count = from.multipliers.count;
      jets = recursion_from_All (IsJetOf m n k) row.multipliers (λ i f h. subst (IsJetOf m n k) (sym (is i f h)) (is_jet i));
      is_row = record {
        order_two = λ i h. subst (λ (f : JetTerms E). StartsAt (exps n) r 2 (poly_of n m.value f.terms)) (sym (is i (record { n = 0; order = 0; terms = [] }) (let e = from.multipliers.count in omega arith))) (starts i);
        adds_up = λ b low.
            sym (Combinations.combined m c set n (k + 1) k multiples cs row.multipliers from.multipliers bound partials gp rows steps.are_partials steps.are_rows variables within b low)
            ∙ from.are.same (rows_of rows) (unit_at r (number n b)) ∙ solved.sum (unit_at r (number n b)) ∙ is_target.value (unit_at r (number n b))
            ∙ Combinations.entries-coefficient r c set n (term_in n r (exp_of n a)) b
            ∙ ap (λ (x : Exp). coefficient (exps n) r (term (exps n) r (exp_of n x)) b) (sym from.monomial);
      };
    }

  row_by : (a : Exp) (target : Row E) → IsIn n a.e → IsRowOf m n bound (term_in n r (exp_of n a)) target.entries → (sol : Solution E) → IsSolution m rows target.entries sol → (row : MatherRow E) → IsRowBy m n k multiples a sol row → IsRow m g k row
  row_by a target unused is_target (Solved xs) solved row by = made_row a target unused is_target xs.items solved row by
  row_by a target unused is_target (Excluded values) solved row by = absurd by

  -- ---- the rows of all monomials
  pub rows_answer : (made : List (MatherRow E)) → length made ≡ length solutions → AreRowsBy m n k multiples monomials solutions made → AreRows m g k made
  rows_answer made count by = go solutions refl
    where
      go : (ss : List (Solution E)) → ss ≡ solutions → AreRows m g k made
      go [] e = record {
        monomials = same_monomials n made monomials (let p = count-targets in let q = count-solutions in omega arith) (λ i row a h. absurd (let q : length solutions ≡ 0 = ap length (sym e) in omega arith)) ∙ steps.are_monomials;
        each = recursion_from_All (IsRow m g k) made (λ i row h. absurd (let q : length solutions ≡ 0 = ap length (sym e) in omega arith));
      }
      go (s ∷ ss) e = record {
        monomials = same_monomials n made monomials (let p = count-targets in let q = count-solutions in omega arith) (λ i row a h. row_monomial m n k multiples (get_or monomials i a) (get_or solutions i s) (get_or made i row) (by a s i row h)) ∙ steps.are_monomials;
        each = recursion_from_All (IsRow m g k) made (λ i row h.
            let a : Exp = record { e = [] } in
            let t : Row E = record { entries = [] } in
            let in_targets : i < length targets = (let q = count-solutions in omega arith) in
            let in_monomials : i < length monomials = (let p = count-targets in omega arith) in
            row_by (get_or monomials i a) (get_or targets i t) (steps.unused i a in_monomials) (RowFacts.monomial_at m n bound monomials targets steps.are_targets i a t in_monomials)
            (get_or solutions i s) (solution_at m rows targets solutions steps.are_solutions i t s in_targets) (get_or made i row) (by a s i row h));
      }

  -- ---- the failure
  module _ (low : StartsAtIn n r 2 gp) (functional : List (Exp × E)) (at : Exp) (by : IsFailureBy n monomials solutions functional at) where
    abbrev numbers : List (ℕ × E)
    numbers = FailureLemmas.numbered n functional

    in_targets : by.place < length targets
    in_targets = let q = count-solutions in let h = by.within in omega arith

    in_monomials : by.place < length monomials
    in_monomials = let p = count-targets in let h = in_targets in omega arith

    abbrev target : Row E
    target = get_or targets by.place (record { entries = [] })

    is_at : at ≡ get_or monomials by.place (record { e = [] })
    is_at = by.at_is (record { e = [] })

    unused_at : IsIn n at.e
    unused_at = subst (λ (b : Exp). IsIn n b.e) (sym is_at) (steps.unused by.place (record { e = [] }) in_monomials)

    degree_at : sum at.e ≡ k + 1
    degree_at = subst (λ (b : Exp). sum b.e ≡ k + 1) (sym is_at) (degrees by.place (record { e = [] }) in_monomials)

    is_target : IsRowOf m n bound (term_in n r (exp_of n at)) target.entries
    is_target = subst (λ (b : Exp). IsRowOf m n bound (term_in n r (exp_of n b)) target.entries) (sym is_at) (RowFacts.monomial_at m n bound monomials targets steps.are_targets by.place (record { e = [] }) (record { entries = [] }) in_monomials)

    excluded : IsExcluded m (rows_of rows) target.entries numbers
    excluded = subst (IsExcluded m (rows_of rows) target.entries) (sym by.failure.2.numbers)
        (subst (IsSolution m rows target.entries) (by.excluded (Excluded by.values)) (solution_at m rows targets solutions steps.are_solutions by.place (record { entries = [] }) (Excluded by.values) in_targets))

    below : AllBelow bound numbers
    below = excluded.below bound (RowFacts.rows_below m n bound (k + 1) partials multiples rows steps.are_rows) is_target.below

    zero_on : (a : ExpList n) (i : ℕ) → 2 ≤ degree (exps n) a → i < n → value_on (exps n) r (poly_of n m.value functional) (cut (exps n) r (k + 1) (times (exps n) r (term (exps n) r a) (derivative (exps n) r i gp))) ≡ r.zero
    zero_on a i from h = elim (FailureLemmas.low_or_high (degree (exps n) a) k) [
      | inl small ↦ FailureLemmas.low_zero m c set n (k + 1) k gp functional bound 2 partials steps.are_partials multiples rows steps.are_multiples steps.are_rows excluded.rows a i from small h
      | inr large ↦ FailureLemmas.high_zero m c set n (k + 1) k gp functional 1 low a i (omega arith) h
    ]

    pub failure_answer : IsFailure m g k functional at
    failure_answer = record {
      monomial = record { unused = unused_at; long = by.failure.1 };
      values = FailureLemmas.functional_jet m c set n (k + 1) functional by.failure.2.unused below excluded.line.units;
      rising = FailureLemmas.functional_rises m c set n functional by.failure.2.unused by.failure.2.long excluded.line.rising;
      long = All-from_recursion (λ t. length t.0.e ≡ 8) functional by.failure.2.long;
      fails = record {
        of_degree = degree-exp_of n at unused_at ∙ degree_at;
        zero_on = zero_on;
        one_on = FailureLemmas.value-entry m c set n functional (term (exps n) r (exp_of n at)) ∙ sym (is_target.value (entry m numbers)) ∙ excluded.target;
      };
    }

-- the answer
answer_at : {E V : Type 0} (m : Meaning E V) (c : IsCommRing m.scalars.ops) (set : IsSet V) (g : JetTerms E) (k : ℕ) → StartsAtIn g.n m.scalars.ops 2 (poly_of g.n m.value g.terms) → (answer : MatherTest E) → Steps m g k g.n answer → IsAnswer m g k answer
answer_at m c set g k low (Holds made) steps = rows_answer m c set g k (Holds made) steps made steps.answered.0 steps.answered.1
answer_at m c set g k low (Fails functional at) steps = failure_answer m c set g k (Fails functional at) steps low functional at steps.answered

pub answer_from : {E V : Type 0} (m : Meaning E V) (c : IsCommRing m.scalars.ops) (set : IsSet V) (g : JetTerms E) (k n : ℕ) → n ≡ g.n → StartsAtIn g.n m.scalars.ops 2 (poly_of g.n m.value g.terms) → (answer : MatherTest E) → Steps m g k n answer → IsAnswer m g k answer
answer_from m c set g k n e low answer steps = answer_at m c set g k low answer (subst (λ i. Steps m g k i answer) e steps)

module _ {E V X : Type 0} (m : Meaning E V) (c : IsCommRing m.scalars.ops) (set : IsSet V) (g : JetTerms E) (k n : ℕ) (e : n ≡ g.n) (partials : List (JetTerms E)) (us : List Multiple) (rows : List (Row E)) (ms : List Exp) (targets : List (Row E)) (ss : List (Solution E)) where
  pub answer_ok : n ≤ 8 → StartsAtIn g.n m.scalars.ops 2 (poly_of g.n m.value g.terms) → ArePartials m g.n (poly_of g.n m.value g.terms) partials → AreMultiples n 2 k us → AreRowsOf m n (count_to n (k + 1)) (k + 1) partials us rows
      → map (λ a. exponents n a.e) ms ≡ monomials_of n (k + 1) → All (λ a. IsIn n a.e) ms → AreMonomialRows m n (count_to n (k + 1)) ms targets → AreSolutions m rows targets ss
      → (res : Result (MatherTest E) X) → IfOk res (IsAnswerBy m n k us ms ss) → IfOk res (IsAnswer m g k)
  answer_ok small low are multiples all list unused all_targets solutions (Err x) h = tt
  answer_ok small low are multiples all list unused all_targets solutions (Ok answer) h = answer_from m c set g k n e low answer (record {
    partials = partials;
    multiples = us;
    rows = rows;
    monomials = ms;
    targets = targets;
    solutions = ss;
    small = small;
    are_partials = subst (λ i. ArePartials m i (poly_of i m.value g.terms) partials) (sym e) are;
    are_multiples = multiples;
    are_rows = all;
    are_monomials = list;
    unused = unused;
    are_targets = all_targets;
    are_solutions = solutions;
    answered = h;
  })

-- solutions have one coefficient for each row, or values in the columns below a top
pub solutions_usable : {E V : Type 0} (m : Meaning E V) (n top count most : ℕ) (rows : List (Row E)) (ms : List Exp) (targets : List (Row E)) (ss : List (Solution E)) → length rows ≡ count → EachOf (AllBelow top) (rows_of rows) → top ≤ most
    → AreMonomialRows m n top ms targets → AreSolutions m rows targets ss → EachOf (IsUsable m count most) ss
solutions_usable m n top count most rows ms [] [] long low more targets all = tt
solutions_usable m n top count most rows ms [] (s ∷ ss) long low more targets all = absurd all
solutions_usable m n top count most rows ms (t ∷ ts) [] long low more targets all = absurd all
solutions_usable m n top count most rows [] (t ∷ ts) (s ∷ ss) long low more targets all = absurd targets
solutions_usable {E} m n top count most rows (a ∷ ms) (t ∷ ts) (s ∷ ss) long low more targets all = (one s all.0, solutions_usable m n top count most rows ms ts ss long low more targets.1 all.1)
  where
    one : (s : Solution E) → IsSolution m rows t.entries s → IsUsable m count most s
    one (Solved xs) h = (h.count ∙ rows-length rows ∙ long, h.valid)
    one (Excluded values) h = SystemLaws.below_bigger values.items top most more (h.below top low targets.0.below)
