-- A monomial less a combination of basis monomials, term by term.
use Rattle.std.proofs.Common.{◌≡◌, ℕ, ◌+◌, ◌<◌, Bool, List, [], ◌∷◌, ◌++◌, map, length, get_or, IsTrue, ◌↔◌, sym, ap, ap₂, subst, ◌∙◌, append_assoc, add-one}
use Rattle.std.proofs.lemmas.List.{get_or-map, map-append}
use Rattle.ring_theory.specs.Scalars.{Meaning, ScalarLaws}
use Rattle.poly_law.specs.ExpList.{ExpList, exps}
use Rattle.poly_law.specs.Poly.{of_basis}
use Rattle.poly_law.specs.Polynomials.{Polynomial, SameIn, SameToIn, cut_in, term_in}
use Rattle.poly_law.proofs.ExpLists.{exps_are}
use Rattle.poly_law.proofs.Order
use Rattle.mono_exp.specs.declared.exponent.Exp.{Exp}
use Rattle.jet_law.specs.Terms.{exp_of, poly_of}
use Rattle.jet_law.proofs.TermLemmas.{poly_of-push}
use Rattle.jet_poly.specs.JetTerms.{JetTerms}
use Rattle.jet_poly.specs.Jets.{polynomial_of}
use Rattle.milnor_alg.specs.declared.quotient.TableRow.{TableRow}
use Rattle.table_rows.specs.Tables.{difference, values_in}

module _ {E V : Type 0} (m : Meaning E V) (laws : ScalarLaws m.scalars) (n : ℕ) where
  -- one basis monomial more
  pub difference_step : (a : ExpList n) (j : ℕ) (b : ℕ → ExpList n) (v : ℕ → V) (terms : List (Exp × E)) (d : Exp) (x : E) → exp_of n d ≡ b j → m.value x ≡ m.scalars.ops.neg (v j)
      → poly_of n m.value terms ≡ difference n m.scalars.ops a j b v → poly_of n m.value (terms ++ (d, x) ∷ []) ≡ difference n m.scalars.ops a (j + 1) b v
  difference_step a j b v terms d x ed ex so_far =
      let r = m.scalars.ops in
      let before = of_basis (exps n) r j b v in
      let opposite : Polynomial n V → Polynomial n V = λ f. map (λ t. (t.0, r.neg t.1)) f in
      poly_of-push n m.value terms (d, x)
      ∙ ap₂ (λ p q. p ++ q ∷ []) so_far (λ i. (ed i, (ex ∙ ap r.neg (sym (laws.ring.mul_one (v j)))) i))
      ∙ append_assoc (term_in n r a) (opposite before) ((b j, r.neg (r.mul (v j) r.one)) ∷ [])
      ∙ ap (λ z. term_in n r a ++ z) (sym (map-append (λ t. (t.0, r.neg t.1)) before ((b j, r.mul (v j) r.one) ∷ [])))
      ∙ ap (λ s. difference n r a s b v) (sym (add-one j))

  -- a value of a row by number
  pub value_is : (row : TableRow E) (values : List E) (j : ℕ) (x : E) → values ≡ row.values → j < length values → x ≡ get_or values j x → m.value x ≡ values_in m row j
  value_is row values j x e h read = ap m.value read ∙ sym (get_or-map m.value values j x m.scalars.ops.zero h) ∙ ap (λ z. get_or (map m.value z) j m.scalars.ops.zero) e

  -- jets of two polynomials that are cut at k are equal where the polynomials are, up to degree k
  pub cuts_decide : (k : ℕ) (left right : JetTerms E) (f h : Polynomial n V) (b : Bool) → left.n ≡ n
      → SameIn n m.scalars.ops (poly_of n m.value left.terms) (cut_in n m.scalars.ops k f) → SameIn n m.scalars.ops (poly_of n m.value right.terms) (cut_in n m.scalars.ops k h)
      → IsTrue b ↔ SameIn left.n m.scalars.ops (polynomial_of m left) (poly_of left.n m.value right.terms) → IsTrue b ↔ SameToIn n m.scalars.ops k f h
  cuts_decide k left right f h b e ef eh decides =
      let r = m.scalars.ops in
      let at : IsTrue b ↔ SameIn n m.scalars.ops (poly_of n m.value left.terms) (poly_of n m.value right.terms)
      = subst (λ i. IsTrue b ↔ SameIn i m.scalars.ops (poly_of i m.value left.terms) (poly_of i m.value right.terms)) e decides in (
        (λ yes d low. sym (Order.cut_same_to (exps n) (exps_are n) r laws.ring k f d low) ∙ sym (ef d) ∙ at.0 yes d ∙ eh d ∙ Order.cut_same_to (exps n) (exps_are n) r laws.ring k h d low),
        (λ same. at.1 (λ d. ef d ∙ Order.same-cut (exps n) (exps_are n) r laws.ring k f h same d ∙ sym (eh d))),
      )
