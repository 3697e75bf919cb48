-- Jets and changes over the rational numbers, over an algebra.
use mathlib.Core.Path.{fun_ext}
use Rattle.std.proofs.Common.{◌≡◌, ◌≢◌, ℕ, zero, suc, ◌+◌, ◌*◌, ◌<◌, ◌≤◌, List, [], ◌∷◌, map, length, get_or, refl, sym, ap, ap₂, subst, ◌∙◌, arith}
use Rattle.std.specs.List.{All}
use Rattle.std.proofs.lemmas.List.Elements.{All-head, All-tail}
use Rattle.ring_theory.specs.Rational.{Rational, rational_ops}
use Rattle.ring_theory.specs.Height.{rational_scalars}
use Rattle.ring_law.specs.declared.fraction.Frac.{Frac}
use Rattle.ext_algebra.specs.declared.algebra.Algebra.{Algebra}
use Rattle.ext_algebra.specs.declared.algebra.Algebra.TheVariants as algebras
use Rattle.ext_algebra.specs.declared.algebra.Ext.{Ext}
use Rattle.ext_algebra.specs.Algebra.{scalars, ops, value_in, IsElement, algebra_meaning}
use Rattle.ext_algebra.specs.AlgebraLaws.{algebra_scalar_laws}
use Rattle.poly_law.specs.Exps.{variable}
use Rattle.poly_law.specs.ExpList.{exps}
use Rattle.poly_law.specs.Poly.{IsInvertible}
use Rattle.poly_law.specs.Polynomials.{Polynomial, StartsAtIn, coefficient_in}
use Rattle.poly_law.specs.Sums.{sum_to, unit_at}
use Rattle.poly_law.proofs.Sums.{sum_to-cong}
use Rattle.jet_law.specs.Terms.{poly_of}
use Rattle.jet_law.specs.Canonical.{jet}
use Rattle.jet_poly.specs.JetTerms.{JetTerms}
use Rattle.jet_poly.specs.Jets.{IsJet}
use Rattle.jet_subst.specs.Parts.{IsPart, jet_at, part_of}
use Rattle.coord_change.specs.declared.change.Change.{Change}
use Rattle.coord_change.specs.Changes.{IsChange, entry_of}
use Rattle.coord_change.specs.Moves.{Move, move_from}
use Rattle.coord_change.specs.MoveJets.{IsJetFor, IsMoveExactly}
use Rattle.coord_change.specs.Chains.{IsMoveFrom, AreMoves}
use Rattle.move_law.specs.Algebras.{lifted, lifted_move}
use Rattle.chain_lift.proofs.LiftedElements.{element_value, element_of, rational_zero, unit_value, sum_to-rational, unit_at-rational, coefficient_in-lifted, starts_at-lifted, jet-lifted, poly_of-lifted}

module _ (a : Algebra) where
  -- the same terms are a jet over the algebra
  pub is_jet-lifted : (f : JetTerms (Ext Frac)) → IsJet (algebra_meaning algebras.Rational) f → IsJet (algebra_meaning a) f
  unfolding scalars
  is_jet-lifted f j = record {
    variables = j.variables;
    degrees = j.degrees;
    elems = λ i t h. element_of a (get_or f.terms i t).1 (j.elems i t h);
    units = λ i t h z. unit_value a (value_in algebras.Rational (get_or f.terms i t).1) (j.units i t h) (sym (element_value a (get_or f.terms i t).1 (j.elems i t h)) ∙ z);
  }

  pub is_jet_for-lifted : (n k : ℕ) (p : Polynomial n Rational) (f : JetTerms (Ext Frac)) → IsJetFor (algebra_meaning algebras.Rational) n k p f → IsJetFor (algebra_meaning a) n k (lifted a p) f
  is_jet_for-lifted n k p f h = record {
    jet = is_jet-lifted f h.jet;
    variables = h.variables;
    order = h.order;
    polynomial = poly_of-lifted n a f.terms h.jet.elems ∙ ap (lifted a) h.polynomial;
  }

  -- the jet of the germ
  pub germ-lifted : (n k : ℕ) (g : Polynomial n Rational) (f : JetTerms (Ext Frac)) → IsJetFor (algebra_meaning algebras.Rational) n k (jet n rational_scalars k g) f
      → IsJetFor (algebra_meaning a) n k (jet n (scalars a) k (lifted a g)) f
  unfolding scalars
  germ-lifted n k g f h = subst (λ p. IsJetFor (algebra_meaning a) n k p f) (jet-lifted n a k g) (is_jet_for-lifted n k (jet n rational_scalars k g) f h)

  -- ---- changes

  part-lifted : (n : ℕ) (parts : List (JetTerms (Ext Frac))) → All (IsPart (algebra_meaning algebras.Rational) n) parts → (i : ℕ) → part_of n (value_in a) parts i ≡ lifted a (part_of n (value_in algebras.Rational) parts i)
  unfolding lifted
  part-lifted n [] h i = refl
  part-lifted n (p ∷ ps) h zero = poly_of-lifted n a p.terms (All-head (IsPart (algebra_meaning algebras.Rational) n) p ps h).jet.elems
  part-lifted n (p ∷ ps) h (suc i) = part-lifted n ps (All-tail (IsPart (algebra_meaning algebras.Rational) n) p ps h) i

  values-lifted : (es : List (Ext Frac)) → All (IsElement algebras.Rational) es → (i : ℕ) → get_or (map (value_in a) es) i (ops a).zero ≡ (scalars a).rational (get_or (map (value_in algebras.Rational) es) i rational_ops.zero)
  values-lifted [] h i = sym (rational_zero a)
  values-lifted (e ∷ es) h zero = element_value a e (All-head (IsElement algebras.Rational) e es h)
  values-lifted (e ∷ es) h (suc i) = values-lifted es (All-tail (IsElement algebras.Rational) e es h) i

  move-lifted : (n : ℕ) (parts : List (JetTerms (Ext Frac))) → All (IsPart (algebra_meaning algebras.Rational) n) parts
      → map (λ p. poly_of n (value_in a) p.terms) parts ≡ lifted_move a (map (λ p. poly_of n (value_in algebras.Rational) p.terms) parts)
  unfolding lifted_move
  move-lifted n [] h = refl
  move-lifted n (p ∷ ps) h =
      ap₂ (λ x xs. x ∷ xs) (poly_of-lifted n a p.terms (All-head (IsPart (algebra_meaning algebras.Rational) n) p ps h).jet.elems) (move-lifted n ps (All-tail (IsPart (algebra_meaning algebras.Rational) n) p ps h))

  -- a sum of products of rational numbers
  products-lifted : (n : ℕ) (x y : ℕ → Rational) (u v : ℕ → _) → ((j : ℕ) → u j ≡ (scalars a).rational (x j)) → ((j : ℕ) → v j ≡ (scalars a).rational (y j))
      → sum_to (ops a) n (λ j. (ops a).mul (u j) (v j)) ≡ (scalars a).rational (sum_to rational_ops n (λ j. rational_ops.mul (x j) (y j)))
  products-lifted n x y u v eu ev =
      sum_to-cong (ops a) n (λ j. (ops a).mul (u j) (v j)) (λ j. (scalars a).rational (rational_ops.mul (x j) (y j)))
      (λ j h. ap₂ (ops a).mul (eu j) (ev j) ∙ sym ((algebra_scalar_laws a).embeds.mul (x j) (y j)))
      ∙ sum_to-rational a n (λ j. rational_ops.mul (x j) (y j))

  -- the same change over the algebra
  pub change-lifted : (c : Change (Ext Frac)) → IsChange (algebra_meaning algebras.Rational) c → IsChange (algebra_meaning a) c
  unfolding scalars
  change-lifted c h =
      let n = c.n in
      let entry = entry_of (algebra_meaning algebras.Rational) n c.inverse in
      let linear : ℕ → ℕ → Rational = λ i j. coefficient_in n rational_ops (part_of n (value_in algebras.Rational) c.parts i) (variable (exps n) j) in
      let entries : (i j : ℕ) → entry_of (algebra_meaning a) n c.inverse i j ≡ (scalars a).rational (entry i j) = λ i j. values-lifted c.inverse h.elems (n * i + j) in
      let linears : (i j : ℕ) → coefficient_in n (ops a) (part_of n (value_in a) c.parts i) (variable (exps n) j) ≡ (scalars a).rational (linear i j) =
      λ i j. ap (λ p. coefficient_in n (ops a) p (variable (exps n) j)) (part-lifted n c.parts h.parts i) ∙ coefficient_in-lifted n a (part_of n (value_in algebras.Rational) c.parts i) (variable (exps n) j) in
      record {
        given = h.given;
        at_most_8_variables = h.at_most_8_variables;
        order_at_most_17 = h.order_at_most_17;
        count = h.count;
        parts = λ i d inside. let part = h.parts i d inside in record { jet = is_jet-lifted (get_or c.parts i d) part.jet; variables = part.variables };
        orders = h.orders;
        elems = λ i d inside. element_of a (get_or c.inverse i d) (h.elems i d inside);
        entries = h.entries;
        invertible = record {
          no_constant = λ i inside. subst (StartsAtIn n (ops a) 1) (sym (part-lifted n c.parts h.parts i)) (starts_at-lifted n a 1 (part_of n (value_in algebras.Rational) c.parts i) (h.invertible.no_constant i inside));
          left = λ i k hi hk.
              products-lifted n (λ j. entry i j) (λ j. linear j k) (λ j. entry_of (algebra_meaning a) n c.inverse i j) (λ j. coefficient_in n (ops a) (part_of n (value_in a) c.parts j) (variable (exps n) k)) (λ j. entries i j) (λ j. linears j k)
              ∙ ap (scalars a).rational (h.invertible.left i k hi hk) ∙ unit_at-rational a i k;
          right = λ i k hi hk.
              products-lifted n (λ j. linear i j) (λ j. entry j k) (λ j. coefficient_in n (ops a) (part_of n (value_in a) c.parts i) (variable (exps n) j)) (λ j. entry_of (algebra_meaning a) n c.inverse j k) (λ j. linears i j) (λ j. entries j k)
              ∙ ap (scalars a).rational (h.invertible.right i k hi hk) ∙ unit_at-rational a i k;
        };
      }

  move_exactly-lifted : (n k : ℕ) (move : Move n Rational) (c : Change (Ext Frac)) → IsMoveExactly (algebra_meaning algebras.Rational) n k move c → IsMoveExactly (algebra_meaning a) n k (lifted_move a move) c
  move_exactly-lifted n k move c h = record {
    change = change-lifted c h.change;
    variables = h.variables;
    order = h.order;
    parts = move-lifted n c.parts (subst (λ z. All (IsPart (algebra_meaning algebras.Rational) z) c.parts) h.variables h.change.parts) ∙ ap (lifted_move a) h.parts;
  }

  -- the changes are those of the lifted moves
  pub moves-lifted : (n last : ℕ) (moves : List (Move n Rational)) (cs : List (Change (Ext Frac))) → AreMoves (algebra_meaning algebras.Rational) n last moves cs → AreMoves (algebra_meaning a) n last (map (lifted_move a) moves) cs
  moves-lifted n last [] [] h = tt
  moves-lifted n last [] (c ∷ cs) h = absurd h
  moves-lifted n last (move ∷ moves) [] h = absurd h
  moves-lifted n last (move ∷ moves) (c ∷ cs) h = (
    record { order = h.0.order; at_least = h.0.at_least; exactly = move_exactly-lifted n h.0.order move c h.0.exactly },
    moves-lifted n last moves cs h.1,
  )
