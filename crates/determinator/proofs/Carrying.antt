-- What a report carries of a chain is true of the germ, and well formed.
use mathlib.Core.Path.{fun_ext}
use Rattle.std.proofs.Common.{◌≡◌, ℕ, ◌*◌, ◌+◌, ◌<◌, ◌≤◌, IsTrue, List, map, length, get_or, refl, sym, ap, subst, ◌∙◌, arith}
use Rattle.std.specs.List.{All, list_all}
use Rattle.std.proofs.lemmas.List.Elements.{recursion_from_All}
use Rattle.ring_theory.specs.Rational.{Rational}
use Rattle.ring_law.specs.declared.fraction.Frac.{Frac}
use Rattle.ext_algebra.specs.declared.algebra.Algebra.{Algebra}
use Rattle.ext_algebra.specs.declared.algebra.Ext.{Ext}
use Rattle.ext_algebra.specs.Algebra.{Value, ops, scalars, value_in, algebra_meaning, IsFieldAlgebra, IsElement, is_element}
use Rattle.ext_algebra.specs.AlgebraLaws.{algebra_scalar_laws}
use Rattle.ext_algebra.proofs.ElementTests.{is_algebra-IsAlgebra}
use Rattle.poly_law.specs.ExpList.{exps}
use Rattle.poly_law.specs.Poly.{IsInvertible, SameTo}
use Rattle.poly_law.specs.Polynomials.{Polynomial, StartsAtIn, substitute}
use Rattle.jet_law.specs.Canonical.{jet}
use Rattle.jet_law.specs.Terms.{poly_of}
use Rattle.jet_poly.specs.JetTerms.{JetTerms}
use Rattle.jet_subst.specs.Parts as parts_of
use Rattle.jet_subst.specs.Parts.{IsPart}
use Rattle.coord_change.specs.declared.change.Change.{Change}
use Rattle.coord_change.specs.Changes.{entry_of}
use Rattle.coord_change.specs.Moves.{Move, put}
use Rattle.coord_change.specs.Carries.{composite}
use Rattle.poly_text.specs.declared.name.Name.{Name}
use Rattle.cert_text.specs.declared.report.Carried as carried_type
use Rattle.cert_text.specs.WellFormed.{is_valid_name, IsPartOf, IsWellFormedCarried}
use Rattle.move_law.specs.Algebras as algebras_law
use Rattle.report_law.specs.Polynomials.{terms_in, jet_at, value_at, lifted}
use Rattle.report_jet.proofs.ReportJets.{terms_in-poly_of}
use Rattle.coord_change.specs.Chains.{ChainParts, carried_in}
use Rattle.coord_change.specs.MoveJets.{IsJetFor, IsMoveExactly}
use Rattle.plan_law.specs.Run.{brought, carried_by}
use Rattle.planned_law.specs.Planned.{carried_in as planned_in}
use Rattle.determinator.specs.Carried.{with_parts, IsCarriedFrom}
use Rattle.determinator.specs.Jets.{IsListed}
use Rattle.determinator.specs.Places.{IsPlace}
use Rattle.determinator.specs.Reports.{AreNames, IsCarriedGerm}
use Rattle.determinator.proofs.Chained
use Rattle.determinator.proofs.Composites
use Rattle.determinator.proofs.ReportParts.{get_same, list_passes, element_passes, jet_of_report, part_of_report, parts_same, entries_same, lifted_is}

module _ (n c last : ℕ) (germ : Polynomial n Rational) (a : Algebra) (o : ℕ) (moves : List (Move n (Value a))) (chain : ChainParts (Ext Frac)) where
  -- the change and the jet are those of the plan
  pub change_planned : (change : Change (Ext Frac)) → IsMoveExactly (algebra_meaning a) n o (composite n (scalars a) o moves) change → map (λ (j : JetTerms (Ext Frac)). terms_in n a j.terms) change.parts ≡ composite n (scalars a) o moves
  change_planned change is = ap (λ (f : JetTerms (Ext Frac) → Polynomial n (Value a)). map f change.parts) (fun_ext λ j. terms_in-poly_of n a j.terms) ∙ is.parts

  pub jet_planned : IsPlace n c last germ a o moves chain → terms_in n a (carried_in chain).terms ≡ brought n c germ a o moves
  jet_planned place = terms_in-poly_of n a (carried_in chain).terms ∙ (Chained.carried_is (algebra_meaning a) n last (algebras_law.lifted a germ) o moves chain place.chain_is).polynomial

  -- what the plan has of it
  pub planned : IsPlace n c last germ a o moves chain → (names : List Name) (change : Change (Ext Frac)) → IsMoveExactly (algebra_meaning a) n o (composite n (scalars a) o moves) change
      → planned_in n (with_parts names a o c change (carried_in chain)) ≡ carried_by n c germ a o moves (brought n c germ a o moves)
  planned place names change is = λ i. record { algebra = a; order = o; corank = c; change = change_planned change is i; form = jet_planned place i }

  -- a report with these parts is carried from the chain
  pub from_chain : IsPlace n c last germ a o moves chain → (names : List Name) (change : Change (Ext Frac)) → IsMoveExactly (algebra_meaning a) n o (composite n (scalars a) o moves) change → All IsListed change.parts
      → (jet : JetTerms (Ext Frac)) → jet ≡ carried_in chain → IsListed jet → (kept : List Name) → kept ≡ names → (order : ℕ) → order ≡ jet.order
      → IsCarriedFrom names n c a o moves chain (record { names = kept; algebra = a; order = order; corank = c; change = change; jet = jet })
  from_chain place names change is listed jet jet_is jet_listed kept names_are order order_is =
      let order_same : order ≡ o = order_is ∙ ap (λ (j : JetTerms (Ext Frac)). j.order) jet_is ∙ (Chained.carried_is (algebra_meaning a) n last (algebras_law.lifted a germ) o moves chain place.chain_is).order in
      record {
        change = change;
        change_is = is;
        parts_listed = listed;
        jet_listed = subst IsListed jet_is jet_listed;
        is = λ i. record { names = names_are i; algebra = a; order = order_same i; corank = c; change = change; jet = jet_is i };
      }

-- ---- in the variables of the names

module _ (names : List Name) (valid : IsTrue (list_all is_valid_name names)) (c last : ℕ) (germ : Polynomial (length names) Rational) (a : Algebra) (field : IsFieldAlgebra a) (o : ℕ) (moves : List (Move (length names) (Value a)))
    (chain : ChainParts (Ext Frac)) (place : IsPlace (length names) c last germ a o moves chain)
    (change : Change (Ext Frac)) (change_is : IsMoveExactly (algebra_meaning a) (length names) o (composite (length names) (scalars a) o moves) change) (listed : All IsListed change.parts) (jet_listed : IsListed (carried_in chain)) where
  abbrev n : ℕ
  n = length names

  abbrev R : carried_type.Carried
  R = with_parts names a o c change (carried_in chain)

  jet_is : IsJetFor (algebra_meaning a) n o (brought n c germ a o moves) (carried_in chain)
  jet_is = Chained.carried_is (algebra_meaning a) n last (algebras_law.lifted a germ) o moves chain place.chain_is

  invertible : IsInvertible (exps n) (ops a) (λ i. jet_at n a change.parts i) (λ i k. value_at a change.inverse (n * i + k))
  invertible =
      subst (λ p. IsInvertible (exps n) (ops a) p (λ i k. value_at a change.inverse (n * i + k))) (parts_same a n change.parts)
      (subst (IsInvertible (exps n) (ops a) (parts_of.part_of n (value_in a) change.parts)) (entries_same a n change.inverse)
      (subst (λ z. IsInvertible (exps z) (ops a) (parts_of.part_of z (value_in a) change.parts) (entry_of (algebra_meaning a) z change.inverse)) change_is.variables change_is.change.invertible))

  -- the parts are those of a report
  parts_valid : All (IsPartOf n o a) change.parts
  parts_valid i d h =
      let whole = change_is.change in
      let part : IsPart (algebra_meaning a) change.n (get_or change.parts i d) = whole.parts i d h in
      let inside : i < n = let e = whole.count in let f = change_is.variables in omega arith in
      let here : parts_of.jet_at change.parts i ≡ get_or change.parts i d = get_same change.parts i _ d h in
      part_of_report a n o (get_or change.parts i d) part.jet (part.variables ∙ change_is.variables) (whole.orders i d h ∙ change_is.order) (listed i d h)
      (subst (λ (p : JetTerms (Ext Frac)). StartsAtIn n (ops a) 1 (poly_of n (value_in a) p.terms)) here
      (subst (λ z. StartsAtIn z (ops a) 1 (parts_of.part_of z (value_in a) change.parts i)) change_is.variables (whole.invertible.no_constant i (subst (λ z. i < z) (sym change_is.variables) inside))))

  pub well_formed : IsWellFormedCarried R
  well_formed =
      let whole = change_is.change in
      let variables = change_is.variables in
      let first = place.chain_is.given in
      let few = place.chain_is.at_most_8_variables in
      let two = place.chain_is.order_at_least_2 in
      let top = place.chain_is.order_at_most_last in
      let end = place.chain_is.last_at_most_16 in
      record {
        some_name = omega arith;
        few_names = few;
        names = valid;
        algebra = (is_algebra-IsAlgebra a).1 field.algebra;
        order_at_least = two;
        order_at_most = omega arith;
        corank = place.corank;
        change_variables = variables;
        change_order = change_is.order;
        parts_count = whole.count ∙ variables;
        parts = recursion_from_All (IsPartOf n o a) change.parts parts_valid;
        matrix_size = whole.entries ∙ ap (λ z. z * z) variables;
        matrix = list_passes (IsElement a) (is_element a) (element_passes a) change.inverse (recursion_from_All (IsElement a) change.inverse whole.elems);
        jet = jet_of_report a n o (carried_in chain) jet_is.jet jet_is.variables jet_is.order jet_listed;
      }

  -- the change carries the germ to the jet
  carries : SameTo (exps n) (ops a) o (terms_in n a (carried_in chain).terms) (substitute n n (ops a) (λ i. jet_at n a change.parts i) (lifted n a germ))
  carries =
      let s = scalars a in
      let one : 1 ≤ o = let two = place.chain_is.order_at_least_2 in omega arith in
      let put_is : put n s (composite n s o moves) ≡ (λ i. jet_at n a change.parts i) =
      ap (put n s) (sym change_is.parts) ∙ (fun_ext λ i. Chained.part_is_put (algebra_meaning a) n change.parts i) ∙ parts_same a n change.parts in
      subst (λ p. SameTo (exps n) (ops a) o p (substitute n n (ops a) (λ i. jet_at n a change.parts i) (lifted n a germ))) (sym (terms_in-poly_of n a (carried_in chain).terms ∙ jet_is.polynomial))
      (subst (λ p. SameTo (exps n) (ops a) o (brought n c germ a o moves) (substitute n n (ops a) p (lifted n a germ))) put_is
      (subst (λ g. SameTo (exps n) (ops a) o (brought n c germ a o moves) (substitute n n (ops a) (put n s (composite n s o moves)) g)) (lifted_is a germ)
      (Composites.carried_by_composite n s (algebra_scalar_laws a) o one moves place.some
      (Chained.low_moves (algebra_meaning a) n last (algebras_law.lifted a germ) o moves chain place.chain_is) (algebras_law.lifted a germ))))

  pub is_carried : IsCarriedGerm names n last germ R
  is_carried = record {
    names_are = refl;
    well_formed = well_formed;
    order = place.chain_is.order_at_most_last;
    field = field.irreducible;
    invertible = invertible;
    carried = carries;
  }

-- ---- whatever the number of variables is called

pub carried_germ : (names : List Name) (n : ℕ) → AreNames n names → (c last : ℕ) (germ : Polynomial n Rational) (a : Algebra) → IsFieldAlgebra a → (o : ℕ) (moves : List (Move n (Value a))) (chain : ChainParts (Ext Frac))
    → IsPlace n c last germ a o moves chain → (r : carried_type.Carried) → IsCarriedFrom names n c a o moves chain r → IsCarriedGerm names n last germ r
carried_germ names n are = subst Holds are.count at_length
  where
    Holds : ℕ → Type 0
    Holds n = (c last : ℕ) (germ : Polynomial n Rational) (a : Algebra) → IsFieldAlgebra a → (o : ℕ) (moves : List (Move n (Value a))) (chain : ChainParts (Ext Frac))
        → IsPlace n c last germ a o moves chain → (r : carried_type.Carried) → IsCarriedFrom names n c a o moves chain r → IsCarriedGerm names n last germ r

    at_length : Holds (length names)
    at_length c last germ a field o moves chain place r from =
        subst (IsCarriedGerm names (length names) last germ) (sym from.is)
        (is_carried names are.valid c last germ a field o moves chain place from.change from.change_is from.parts_listed from.jet_listed)
