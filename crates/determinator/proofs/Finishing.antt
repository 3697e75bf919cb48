-- The finish before a part is known reports the outcome of the plan, and is true of the germ.
use Rattle.std.proofs.Common.{◌≡◌, ℕ, zero, suc, ◌≤◌, inl, inr, Bool, true, false, cond, Option, Some, None, List, [], ◌∷◌, ◌++◌, map, length, refl, sym, ap, ap₂, subst, ◌∙◌, arith}
use Rattle.std.specs.Prelude.{MatchOption}
use Rattle.ring_theory.specs.Rational.{Rational}
use Rattle.ring_theory.specs.Scalars.{Scalars}
use Rattle.ring_law.specs.declared.fraction.Frac.{Frac}
use Rattle.ext_algebra.specs.declared.algebra.Algebra.{Algebra}
use Rattle.ext_algebra.specs.declared.algebra.Algebra.TheVariants as algebras
use Rattle.ext_algebra.specs.declared.algebra.Ext.{Ext}
use Rattle.ext_algebra.specs.Algebra.{scalars, ops, value_in, algebra_meaning, IsFieldAlgebra}
use Rattle.ext_algebra.specs.AlgebraLaws.{algebra_scalar_laws}
use Rattle.poly_law.specs.Polynomials.{Polynomial, StartsAtIn}
use Rattle.jet_poly.specs.JetTerms.{JetTerms}
use Rattle.lin_row.specs.Plain.{Among}
use Rattle.line_syntax.proofs.Bools.{and_left}
use Rattle.coord_change.specs.Moves.{Move}
use Rattle.coord_change.specs.Chains.{ChainParts, carried_in}
use Rattle.coord_change.specs.MoveJets.{IsJetFor}
use Rattle.determinacy.specs.declared.row.MatherRow.{MatherRow}
use Rattle.normal_forms.specs.declared.family.Family.{Family}
use Rattle.normal_forms.specs.Families.{is_family, kind_of}
use Rattle.normal_forms.specs.Units.{modulus_heights}
use Rattle.jet_law.specs.Heights.{IsHigh}
use Rattle.poly_text.specs.declared.name.Name.{Name}
use Rattle.cert_text.specs.declared.report.Carried as carried_type
use Rattle.cert_text.specs.declared.report.Named as named_type
use Rattle.cert_text.specs.declared.report.Phase.{Phase}
use Rattle.cert_text.specs.declared.report.Phase.TheVariants as phases
use Rattle.cert_text.specs.WellFormed.{has_small_numbers, IsFamily}
use Rattle.jet_quotient.specs.Quotients.{IsQuotientHigh}
use Rattle.report_law.specs.Polynomials.{terms_in}
use Rattle.report_law.specs.Items.{jet_of, residual_of}
use Rattle.report_law.proofs.Splitting.{and_both}
use Rattle.move_law.specs.Algebras as algebras_law
use Rattle.move_law.specs.Moves.{residual}
use Rattle.move_law.specs.Work as work
use Rattle.move_law.specs.Work.{IsWorkHigh}
use Rattle.move_law.specs.Finish.{Finishing, begin_finish, finish, is_form, is_read, units_of, coefficients_of as coefficients_in_plan, reading_work}
use Rattle.plan_law.specs.Outcomes as outcomes
use Rattle.plan_law.specs.Outcomes.{Outcome}
use Rattle.plan_law.specs.Pieces.{Piece, HasHigh, piece, pieces_over, quotient}
use Rattle.plan_law.specs.Run as run
use Rattle.plan_law.specs.Run.{brought, carried_by, composing_pieces, finished, finishing_pieces, modulus_pieces, naming_pieces, printing_pieces_by, reading_pieces, searching, testing_pieces, with_inverses}
use Rattle.certificate.specs.Readings.{is_read_as}
use Rattle.determinator.specs.Carried.{with_parts, IsCarriedFrom}
use Rattle.determinator.specs.Jets.{AreRowsFor}
use Rattle.determinator.specs.Naming.{family_found, IsNamingOf, IsUnread, IsNamingByHigh, IsNamingHigh, answer_by}
use Rattle.determinator.specs.Places.{IsPlace}
use Rattle.determinator.specs.Reports.{AreNames, IsCarriedGerm, IsReport}
use Rattle.determinator.specs.declared.naming.Naming.{Naming}
use Rattle.determinator.proofs.Carrying.{carried_germ, change_planned, jet_planned}
use Rattle.determinator.proofs.Chained
use Rattle.determinator.proofs.GermReports
use Rattle.determinator.proofs.Laws
use Rattle.determinator.proofs.Namings.{IsOfA, found_of_A, numbers_of}
use Rattle.determinator.proofs.Pieces.{among_left, among_right, high_over}
use Rattle.determinator.proofs.Reporting.{from_parts, unresolved_report}
use Rattle.determinator.proofs.SplitTests

abbrev Q : Algebra
Q = algebras.Rational

abbrev s : Scalars Rational
s = scalars Q

-- without a part the finish has no moves
finish_begins : {V : Type 0} (n : ℕ) (s : Scalars V) (o : ℕ) (p : Polynomial n V) (c : ℕ) → c ≤ 3 → (finish n s o c None p).0 ≡ begin_finish n s o p
unfolding finish
finish_begins n s o p zero h = refl
finish_begins n s o p (suc zero) h = refl
finish_begins n s o p (suc (suc zero)) h = refl
finish_begins n s o p (suc (suc (suc zero))) h = refl
finish_begins n s o p (suc (suc (suc (suc c)))) h = absurd (omega arith)

module _ (n c last : ℕ) (germ : Polynomial n Rational) (o : ℕ) (moves : List (Move n Rational)) (low : c ≤ 3) where
  abbrev p : Polynomial n Rational
  p = brought n c germ Q o moves

  begins : (finish n s o c None p).0 ≡ begin_finish n s o p
  begins = finish_begins n s o p c low

  -- ---- the outcome

  finished_is : (family : Option Family) → (finish n s o c None p).1 ≡ family → finished n c germ o (searching moves) p ≡ run.read n c germ o (searching moves) (begin_finish n s o p) family
  finished_is family e = ap₂ (λ (g : Finishing n Rational) (fam : Option Family). run.read n c germ o (searching moves) g fam) begins e

  abbrev read_by : Bool → Family → Outcome n
  read_by b family = cond b (outcomes.named family (carried_by n c germ Q o moves p) (with_inverses n c germ Q (units_of n s o c family p))) (outcomes.unresolved (carried_by n c germ Q o moves p))

  finished_unread : ((family : Family) → (finish n s o c None p).1 ≡ Some family → is_read n s o c family p ≡ false) → finished n c germ o (searching moves) p ≡ outcomes.unresolved (carried_by n c germ Q o moves p)
  finished_unread unread = step ((finish n s o c None p).1) refl
    where
      step : (family : Option Family) → (finish n s o c None p).1 ≡ family → finished n c germ o (searching moves) p ≡ outcomes.unresolved (carried_by n c germ Q o moves p)
      step None e = finished_is None e
      step (Some family) e = finished_is (Some family) e ∙ ap (λ b. read_by b family) (unread family e)

  finished_named : (family : Family) → (finish n s o c None p).1 ≡ Some family → is_read n s o c family p ≡ true
      → finished n c germ o (searching moves) p ≡ outcomes.named family (carried_by n c germ Q o moves p) (with_inverses n c germ Q (units_of n s o c family p))
  finished_named family e h = finished_is (Some family) e ∙ ap (λ b. read_by b family) h

  -- ---- the pieces of work

  abbrev pieces_by : Finishing n Rational → Option Family → List (Piece n)
  pieces_by g family = pieces_over phases.Finish Q g.works ++ reading_pieces n c germ Q o family g.form ++ testing_pieces n c germ Q o g.form ++ printing_pieces_by o (searching moves) g.moves

  pieces_are : (family : Option Family) → (finish n s o c None p).1 ≡ family → pieces_by (begin_finish n s o p) family ≡ finishing_pieces n c germ o (searching moves) p
  pieces_are family e = sym (ap₂ pieces_by begins e)

  pub high_composing : HasHigh phases.Finish (composing_pieces {n = n} Q o moves) → HasHigh phases.Finish (finishing_pieces n c germ o (searching moves) p)
  high_composing h = among_right _ _ (composing_pieces Q o moves) h

  high_reading : (ph : Phase) (family : Family) → (finish n s o c None p).1 ≡ Some family → HasHigh ph (reading_pieces n c germ Q o (Some family) p) → HasHigh ph (finishing_pieces n c germ o (searching moves) p)
  high_reading ph family e h =
      subst (HasHigh ph) (pieces_are (Some family) e)
      (among_left _ (reading_pieces n c germ Q o (Some family) p ++ testing_pieces n c germ Q o p) (composing_pieces Q o moves)
      (among_left _ (reading_pieces n c germ Q o (Some family) p) (testing_pieces n c germ Q o p) h))

  high_formula : (family : Family) → (finish n s o c None p).1 ≡ Some family → Among (IsWorkHigh n s) (reading_work n s o c family p) → HasHigh phases.Finish (finishing_pieces n c germ o (searching moves) p)
  high_formula family e h =
      high_reading phases.Finish family e
      (among_left _ (pieces_over phases.Finish Q (reading_work n s o c family p)) (cond (is_read n s o c family p) (naming_pieces n c germ Q o family p) []) (high_over phases.Finish Q (reading_work n s o c family p) h))

  high_naming : (ph : Phase) (family : Family) → (finish n s o c None p).1 ≡ Some family → is_read n s o c family p ≡ true → HasHigh ph (naming_pieces n c germ Q o family p) → HasHigh ph (finishing_pieces n c germ o (searching moves) p)
  high_naming ph family e r h =
      high_reading ph family e
      (among_right _ (pieces_over phases.Finish Q (reading_work n s o c family p)) (cond (is_read n s o c family p) (naming_pieces n c germ Q o family p) [])
      (subst (λ b. HasHigh ph (cond b (naming_pieces n c germ Q o family p) [])) (sym r) h))

  abbrev inverse_pieces : Family → List (Piece n)
  inverse_pieces family = pieces_over phases.Finish Q (map (λ u. work.inverse u) (units_of n s o c family p))

  abbrev modulus_pieces_here : Family → List (Piece n)
  modulus_pieces_here family = modulus_pieces n c germ Q (kind_of family) (coefficients_in_plan n s o family p)

  abbrev quotient_pieces : List (Piece n)
  quotient_pieces = piece phases.Milnor (quotient Q c o (residual n s c o p)) ∷ []

  high_inverse : (family : Family) → Among (IsWorkHigh n s) (map (λ u. work.inverse u) (units_of n s o c family p)) → HasHigh phases.Finish (naming_pieces n c germ Q o family p)
  high_inverse family h =
      among_left _ (inverse_pieces family ++ modulus_pieces_here family) quotient_pieces
      (among_left _ (inverse_pieces family) (modulus_pieces_here family) (high_over phases.Finish Q (map (λ u. work.inverse u) (units_of n s o c family p)) h))

  high_modulus : (family : Family) → IsHigh (modulus_heights (kind_of family) (coefficients_in_plan n s o family p)) → HasHigh phases.Finish (naming_pieces n c germ Q o family p)
  high_modulus family h =
      among_left _ (inverse_pieces family ++ modulus_pieces_here family) quotient_pieces
      (among_right _ (inverse_pieces family) (modulus_pieces_here family) (inl (refl, h)))

  high_quotient : (family : Family) → IsQuotientHigh c s o (residual n s c o p) → HasHigh phases.Milnor (naming_pieces n c germ Q o family p)
  high_quotient family h = among_right _ (inverse_pieces family ++ modulus_pieces_here family) quotient_pieces (inl (refl, h))

  -- ---- what is carried

  module _ (names : List Name) (are : AreNames n names) (field : IsFieldAlgebra Q) (chain : ChainParts (Ext Frac)) (place_is : IsPlace n c last germ Q o moves chain) (r : carried_type.Carried) (h : IsCarriedFrom names n c Q o moves chain r) where
    abbrev f : JetTerms (Ext Frac)
    f = carried_in chain

    -- with its parts
    abbrev R : carried_type.Carried
    R = with_parts names Q o c h.change f

    pub germ_is : IsCarriedGerm names n last germ r
    germ_is = carried_germ names n are c last germ Q field o moves chain place_is r h

    pub corank_is : r.corank ≡ c
    corank_is = ap (λ (q : carried_type.Carried). q.corank) h.is

    -- what is said of the jet of the report is said of the carried jet of the plan
    at_plan : (P : (z : ℕ) → Polynomial z Rational → Type 0) → P (length names) (jet_of R) → P n p
    at_plan P q = subst (P n) (jet_planned n c last germ Q o moves chain place_is) (subst (λ z. P z (terms_in z Q f.terms)) are.count q)

    to_report : (P : (z : ℕ) → Polynomial z Rational → Type 0) → P n p → P (length names) (jet_of R)
    to_report P q = subst (λ z. P z (terms_in z Q f.terms)) (sym are.count) (subst (P n) (sym (jet_planned n c last germ Q o moves chain place_is)) q)

    jet_is : IsJetFor (algebra_meaning Q) n o p f
    jet_is = Chained.carried_is (algebra_meaning Q) n last (algebras_law.lifted Q germ) o moves chain place_is.chain_is

    residual_same : residual_of R ≡ residual n s c o p
    residual_same =
        GermReports.residual_same names n are c last germ Q field o moves chain place_is h.change h.jet_listed (from_parts names n c Q o moves chain r h)
        ∙ SplitTests.residual_is Q n c o p f place_is.chain_is.at_most_8_variables place_is.corank jet_is h.jet_listed place_is.split place_is.squares

    low_here : StartsAtIn c (ops Q) 2 (residual_of R)
    low_here =
        let two = place_is.chain_is.order_at_least_2 in
        subst (StartsAtIn c (ops Q) 2) (sym residual_same)
        (Laws.residual_low Q n c o 2 place_is.corank p (Chained.carried_low (algebra_meaning Q) n last (algebras_law.lifted Q germ) o moves chain place_is.chain_is (algebra_scalar_laws Q) o (omega arith)))

    pub residual_low : StartsAtIn r.corank (ops r.algebra) 2 (residual_of r)
    residual_low = subst (λ (q : carried_type.Carried). StartsAtIn q.corank (ops q.algebra) 2 (residual_of q)) (sym h.is) low_here

    -- ---- the answer

    small_order : o ≤ 16
    small_order = let l = place_is.chain_is.order_at_most_last in let e = place_is.chain_is.last_at_most_16 in omega arith

    found_there : (family : Family) → family_found R ≡ Some family → (finish n s o c None p).1 ≡ Some family
    found_there family e = at_plan (λ z w. (finish z s o c None w).1 ≡ Some family) e

    found_back : (family : Family) → (finish n s o c None p).1 ≡ Some family → family_found R ≡ Some family
    found_back family e = to_report (λ z w. (finish z s o c None w).1 ≡ Some family) e

    read_there : (family : Family) (b : Bool) → is_read_as family R ≡ b → is_read n s o c family p ≡ b
    read_there family b e = at_plan (λ z w. is_read z s o c family w ≡ b) e

    module _ (rows : List (MatherRow (Ext Frac))) (rows_are : AreRowsFor Q c f rows) where
      unread_report : IsUnread R → IsReport names n last germ (answer_by r rows None) (finished n c germ o (searching moves) p)
      unread_report unread =
          subst (IsReport names n last germ (answer_by r rows None)) (sym (finished_unread λ family e. read_there family false (unread family (found_back family e))))
          (unresolved_report names n are c last germ Q field o moves chain place_is r h low rows rows_are)

      module _ (naming : Naming) (name : IsNamingOf R naming) where
        abbrev report : named_type.Named
        report = record {
          family = naming.family;
          carried = R;
          units = naming.units;
          modulus = naming.modulus;
          milnor = length naming.quotient.basis;
          mather = rows;
          quotient = naming.quotient;
        }

        of_A : IsOfA naming.family
        of_A = found_of_A n s o small_order p c low naming.family (found_there naming.family name.found)

        read_here : is_read n s o c naming.family p ≡ true
        read_here = read_there naming.family true name.named.units.read

        family_valid : IsFamily naming.family
        unfolding is_read
        family_valid =
            and_both (is_family naming.family) (has_small_numbers naming.family)
            (and_left (is_family naming.family) _ (and_left (is_form n s o c naming.family p) _ read_here)) (numbers_of naming.family of_A)

        units_planned : map (λ (u : Ext Frac × Ext Frac). (value_in Q u.0, value_in Q u.1)) naming.units ≡ with_inverses n c germ Q (units_of n s o c naming.family p)
        units_planned = at_plan (λ z w. map (λ (u : Ext Frac × Ext Frac). (value_in Q u.0, value_in Q u.1)) naming.units ≡ map {B = Rational × Rational} (λ v. (v, s.inverse v)) (units_of z s o c naming.family w)) name.named.units.values

        germ_of_parts : IsCarriedGerm names n last germ R
        germ_of_parts = subst (IsCarriedGerm names n last germ) h.is germ_is

        named_parts : IsReport names n last germ (answer_by R rows (Some naming)) (finished n c germ o (searching moves) p)
        named_parts =
            let parts = from_parts names n c Q o moves chain r h in
            let few_basis = name.named.quotient.few_in_basis in
            let rows_here = GermReports.rows_reported names n are c last germ Q field o moves chain place_is h.change h.jet_listed parts low rows rows_are in
            record {
              reports = (λ i. Some (outcomes.named naming.family (record { algebra = Q; order = o; corank = c; change = change_planned n c last germ Q o moves chain h.change h.change_is i; form = jet_planned n c last germ Q o moves chain place_is i }) (units_planned i)))
                  ∙ ap (λ q. Some q) (sym (finished_named naming.family (found_there naming.family name.found) read_here));
              is_true = record {
                well_formed = record {
                  family = family_valid;
                  carried = germ_of_parts.well_formed;
                  few_units = name.named.units.few;
                  units = name.named.units.elems;
                  modulus = name.named.modulus.valid;
                  milnor = omega arith;
                  mather = rows_here.well_formed;
                  basis_nonempty = name.named.quotient.some_in_basis;
                  few_in_basis = few_basis;
                  basis = name.named.quotient.basis;
                  few_in_table = name.named.quotient.few_in_table;
                  table = name.named.quotient.table;
                };
                carried = germ_of_parts;
                corank = omega arith;
                form = name.named.units.form;
                units = name.named.units.units_are report;
                modulus = name.named.modulus.line_is report;
                mather = rows_here.each;
                milnor = name.named.quotient.table_is report;
              };
            }

      pub report_by : (naming : Option Naming) → MatchOption naming (IsUnread r) (IsNamingOf r) → IsReport names n last germ (answer_by r rows naming) (finished n c germ o (searching moves) p)
      report_by None unread = unread_report (subst IsUnread h.is unread)
      report_by (Some naming) name =
          subst (λ (q : carried_type.Carried). IsReport names n last germ (answer_by q rows (Some naming)) (finished n c germ o (searching moves) p)) (sym h.is)
          (named_parts naming (subst (λ (q : carried_type.Carried). IsNamingOf q naming) h.is name))

    -- ---- what is high

    high_parts : (ph : Phase) (family : Family) → family_found R ≡ Some family → IsNamingByHigh family R ph → HasHigh ph (finishing_pieces n c germ o (searching moves) p)
    high_parts _ family e (IsNamingByHigh.by_units (inl q)) = high_formula family (found_there family e) (at_plan (λ z w. Among (IsWorkHigh z s) (reading_work z s o c family w)) q)
    high_parts _ family e (IsNamingByHigh.by_units (inr q)) =
        high_naming phases.Finish family (found_there family e) (read_there family true q.0)
        (high_inverse family (at_plan (λ z w. Among (IsWorkHigh z s) (map (λ u. work.inverse u) (units_of z s o c family w))) q.1))
    high_parts _ family e (IsNamingByHigh.by_modulus b q) =
        high_naming phases.Finish family (found_there family e) (read_there family true b)
        (high_modulus family (at_plan (λ z w. IsHigh (modulus_heights (kind_of family) (coefficients_in_plan z s o family w))) q))
    high_parts _ family e (IsNamingByHigh.by_quotient b q) =
        high_naming phases.Milnor family (found_there family e) (read_there family true b) (high_quotient family (subst (IsQuotientHigh c s o) residual_same q))

    pub high_by : (ph : Phase) → IsNamingHigh r ph → HasHigh ph (finishing_pieces n c germ o (searching moves) p)
    high_by ph q = let at = subst (λ (x : carried_type.Carried). IsNamingHigh x ph) h.is q in high_parts ph at.0 at.1 at.2
