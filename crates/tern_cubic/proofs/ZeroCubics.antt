-- The cubic with ten coefficients 0 has no terms, so its partials have a kernel of dimension 2 or more.
use Rattle.std.proofs.Common.{◌≡◌, ℕ, ◌==◌, Bool, true, false, cond, if◌then◌else◌, List, [], ◌∷◌, map, filter, refl, sym, ◌∙◌, ap, subst, arith}
use Rattle.std.specs.Prelude.{not}
use Rattle.std.specs.List.{zip}
use Rattle.ring_theory.specs.Gcd.{gcd}
use Rattle.ring_theory.specs.Ring.{RingOps, IsCommRing}
use Rattle.ring_theory.specs.Rational.{Rational, rational, rational_zero, rational_ops}
use Rattle.ring_theory.specs.Height.{rational_scalars}
use Rattle.ring_theory.specs.Scalars.{Scalars}
use Rattle.ring_theory.proofs.RationalLaws.{rational_laws}
use Rattle.ring_theory.proofs.RingReify.{by_ring, reify}
use Rattle.poly_law.specs.ExpList.{ExpList, exps}
use Rattle.poly_law.specs.Exps.{same}
use Rattle.poly_law.specs.Poly.{coefficient}
use Rattle.poly_law.specs.Polynomials.{Polynomial}
use Rattle.mono_exp.specs.Exponents.{monomials_of}
use Rattle.jet_law.specs.Canonical.{monomial_in, jet, terms_at}
use Rattle.lin_row.specs.Lines.{EachOf}
use Rattle.ternary_law.specs.Linear.{row_at, HasKernelPlane}
use Rattle.ternary_law.specs.Cubics.{cubic_of, cubic_monomials, partial_rows}
use Rattle.ternary_law.specs.Shapes.{form, IsZeroForm}

abbrev q : Scalars Rational
q = rational_scalars

abbrev o : Rational
o = rational_ops.zero

-- all coefficients of a list of terms are 0
abbrev Zeros : Polynomial 3 Rational → Type 0
Zeros [] = Unit {0}
Zeros (t ∷ f) = (t.1 ≡ o) × Zeros f

kept : (b : Bool) (t : ExpList 3 × Rational) (f : Polynomial 3 Rational) → t.1 ≡ o → Zeros f → Zeros (if b then t ∷ f else f)
kept true t f e h = (e, h)
kept false t f e h = h

zeros_filter : (p : ExpList 3 × Rational → Bool) (f : Polynomial 3 Rational) → Zeros f → Zeros (filter p f)
zeros_filter p [] h = tt
zeros_filter p (t ∷ f) h = kept (p t) t (filter p f) h.0 (zeros_filter p f h.1)

none_added : {V : Type 0} (r : RingOps V) (laws : IsCommRing r) → r.add r.zero r.zero ≡ r.zero
none_added r laws = by_ring laws [] (search reify depth 20) tt

zeros_coefficient : (f : Polynomial 3 Rational) (m : ExpList 3) → Zeros f → coefficient (exps 3) rational_ops f m ≡ o
zeros_coefficient [] m h = refl
zeros_coefficient (t ∷ f) m h =
    (λ i. rational_ops.add (cond (same (exps 3) t.0 m) (h.0 i) o) (zeros_coefficient f m h.1 i))
    ∙ ap (λ v. rational_ops.add v o) (either (same (exps 3) t.0 m)) ∙ none_added rational_ops rational_laws
  where
    either : (b : Bool) → cond b o o ≡ o
    either true = refl
    either false = refl

zeros_zip : (ms : List (List ℕ)) (c : List Rational) → EachOf (λ k. k ≡ o) c → Zeros (map (λ p. (monomial_in 3 p.0, p.1)) (zip ms c))
zeros_zip [] c h = tt
zeros_zip (m ∷ ms) [] h = tt
zeros_zip (m ∷ ms) (v ∷ c) h = (h.0, zeros_zip ms c h.1)

-- no term of a list without coefficients other than 0 is left in canonical form
zero_terms : (f : Polynomial 3 Rational) (es : List (List ℕ)) → ((m : ExpList 3) → coefficient (exps 3) rational_ops f m ≡ o) → terms_at 3 q f es ≡ []
unfolding rational_zero rational gcd
zero_terms f [] h = refl
zero_terms f (e ∷ es) h =
    ap (λ v. filter (λ t. not (q.is_zero t.1)) ((monomial_in 3 e, v) ∷ map (λ u. (monomial_in 3 u, coefficient (exps 3) rational_ops f (monomial_in 3 u))) es)) (h (monomial_in 3 e))
    ∙ zero_terms f es h

zero_form : (c : List Rational) → IsZeroForm c → form c ≡ []
unfolding cubic_of jet
zero_form c h = zero_terms _ _ (λ m. zeros_coefficient _ m (zeros_filter _ _ (zeros_zip cubic_monomials c h)))

zero_row : {V : Type 0} (r : RingOps V) (laws : IsCommRing r) (x y z : V)
    → r.add (r.add (r.add r.zero (r.mul r.zero x)) (r.mul r.zero y)) (r.mul r.zero z) ≡ r.zero
zero_row r laws x y z = by_ring laws (x ∷ y ∷ z ∷ []) (search reify depth 20) tt

zero_rows : (w : ℕ → Rational) (ms : List (List ℕ)) → EachOf (λ row. row_at rational_ops 3 row w ≡ o) (map (λ m i. o) ms)
zero_rows w [] = tt
zero_rows w (m ∷ ms) = (zero_row rational_ops rational_laws (w 0) (w 1) (w 2), zero_rows w ms)

abbrev unit_at : ℕ → ℕ → Rational
unit_at i d = if d == i then rational_ops.one else o

alone : {V : Type 0} (r : RingOps V) (laws : IsCommRing r) (a b : V) → r.add (r.mul a r.one) (r.mul b r.zero) ≡ a
alone r laws a b = by_ring laws (a ∷ b ∷ []) (search reify depth 20) tt

alone_second : {V : Type 0} (r : RingOps V) (laws : IsCommRing r) (a b : V) → r.add (r.mul a r.zero) (r.mul b r.one) ≡ b
alone_second r laws a b = by_ring laws (a ∷ b ∷ []) (search reify depth 20) tt

plane_of_zero : HasKernelPlane rational_ops 3 (partial_rows q [])
plane_of_zero = record {
  first = unit_at 0;
  second = unit_at 1;
  first_in = zero_rows (unit_at 0) (monomials_of 3 2);
  second_in = zero_rows (unit_at 1) (monomials_of 3 2);
  independent = λ a b h. (sym (alone rational_ops rational_laws a b) ∙ h 0 (omega arith), sym (alone_second rational_ops rational_laws a b) ∙ h 1 (omega arith));
}

pub zero_plane : (c : List Rational) → IsZeroForm c → HasKernelPlane rational_ops 3 (partial_rows q (form c))
zero_plane c h = subst (λ g. HasKernelPlane rational_ops 3 (partial_rows q g)) (sym (zero_form c h)) plane_of_zero
