-- What the plan reads of polynomials that agree up to a degree, and of carried jets of two orders.
use Rattle.std.proofs.Common.{◌≡◌, ℕ, suc, ◌≤◌, Bool, true, false, ◌&&◌, leb, leb-true, List, [], ◌∷◌, map, get_or, sum, refl, sym, ap, ap₂, subst, ◌∙◌, arith}
use Rattle.std.specs.List.{list_all, AllByRecursion}
use Rattle.ring_theory.specs.Scalars.{Scalars, ScalarLaws}
use Rattle.ring_theory.proofs.ValueSet.{values_are_set}
use Rattle.poly_law.specs.ExpList.{exps}
use Rattle.poly_law.specs.Poly.{coefficient}
use Rattle.poly_law.specs.Polynomials.{Polynomial, SameToIn, StartsAtIn, HaveNoConstant}
use Rattle.poly_law.proofs.ExpLists.{exps_are}
use Rattle.poly_law.proofs.SubstOrder
use Rattle.jet_law.specs.Canonical.{jet, monomial_in}
use Rattle.germ_law.proofs.Canonical
use Rattle.kill_law.specs.Table.{row}
use Rattle.kill_law.specs.Kill.{letters_of}
use Rattle.coord_change.specs.Moves.{Move, put}
use Rattle.coord_change.specs.Carries.{carry, carry_all}
use Rattle.carry_law.proofs.CarryLemmas
use Rattle.split_lemma.proofs.Residuals
use Rattle.split_lemma.proofs.SplitMoves
use Rattle.kept_law.specs.KeptParts.{LettersAgree, LowAgrees, SquaresStay, SplitStays, LettersStay, LowStays, JetsLow, AllSplitsKeep}
use Rattle.kept_law.proofs.PartDegrees.{degree_at_most, part_degree, form_degrees}

pub and_left : (a b : Bool) → (a && b) ≡ true → a ≡ true
and_left true b e = refl
and_left false b e = e

pub and_right : (a b : Bool) → (a && b) ≡ true → b ≡ true
and_right true b e = e
and_right false b e = let bad : ⊥ = cc e in absurd bad

module _ {V : Type 0} (s : Scalars V) where
  -- coefficients at monomials of degree at most o
  coefficients_same : (n o : ℕ) (es : List (List ℕ)) → list_all (λ m. leb (sum m) o) es ≡ true → (f g : Polynomial n V) → SameToIn n s.ops o f g
      → map (λ m. coefficient (exps n) s.ops f (monomial_in n m)) es ≡ map (λ m. coefficient (exps n) s.ops g (monomial_in n m)) es
  coefficients_same n o [] h f g e = refl
  coefficients_same n o (m ∷ es) h f g e =
      let low = leb-true (sum m) o (and_left (leb (sum m) o) (list_all (λ m. leb (sum m) o) es) h) in
      let at_most = degree_at_most n m in
      ap₂ (λ v vs. v ∷ vs) (e (monomial_in n m) (omega arith)) (coefficients_same n o es (and_right (leb (sum m) o) (list_all (λ m. leb (sum m) o) es) h) f g e)

  pub letters_agree : LettersAgree s
  unfolding letters_of
  letters_agree n o p h f g e =
      ap (λ (vs : List V). get_or vs 0 s.ops.zero ∷ get_or vs 1 s.ops.zero ∷ get_or vs 2 s.ops.zero ∷ [])
      (coefficients_same n (row p).degree (row p).form (form_degrees p) f g (λ m low. e m (omega arith)))

module _ {V : Type 0} (s : Scalars V) (laws : ScalarLaws s) where
  pub low_agrees : LowAgrees s
  low_agrees n c o k p fewer h g f f' e low b d =
      Residuals.coefficient-residual n c fewer s laws k f b (omega arith)
      ∙ e (Residuals.placed n c fewer s laws b) (let q = Residuals.degree-placed n c fewer s laws b in omega arith)
      ∙ sym (Residuals.coefficient-residual n c fewer s laws o f' b (omega arith))
      ∙ low b d

  -- the jet of an order is that of the next one, up to its degree
  orders_same : (n o : ℕ) (moves : List (Move n V)) → AllByRecursion (λ m. HaveNoConstant n s.ops n (put n s m)) moves → (g : Polynomial n V)
      → SameToIn n s.ops o (carry_all n s (suc o) moves (jet n s (suc o) g)) (carry_all n s o moves (jet n s o g))
  orders_same n o moves low g = CarryLemmas.carry_all_same n s laws o (suc o) (omega arith) moves low (jet n s (suc o) g) (jet n s o g) (CarryLemmas.jets_same n s laws o (suc o) (omega arith) g)

  pub squares_stay : SquaresStay s
  squares_stay n c o two moves low g =
      Residuals.squares_agree n s c (carry_all n s (suc o) moves (jet n s (suc o) g)) (carry_all n s o moves (jet n s o g)) (λ m h. orders_same n o moves low g m (omega arith))

  pub split_stays : SplitStays s
  split_stays n c o moves low g split m w past inside has ne h = orders_same n o moves low g m h ∙ split m w past inside has ne h

  pub letters_stay : LettersStay s
  letters_stay n o p h moves low g =
      letters_agree s n o p h (carry_all n s (suc o) moves (jet n s (suc o) g)) (carry_all n s o moves (jet n s o g)) (orders_same n o moves low g)

  pub low_stays : LowStays s
  low_stays n c o p fewer h moves low g start =
      low_agrees n c o (suc o) p fewer h (omega arith) (carry_all n s (suc o) moves (jet n s (suc o) g)) (carry_all n s o moves (jet n s o g)) (orders_same n o moves low g) start

  -- nothing of degree below 2 comes in
  carry_low : (n k : ℕ) → 1 ≤ k → (m : Move n V) → HaveNoConstant n s.ops n (put n s m) → (f : Polynomial n V) → StartsAtIn n s.ops 2 f → StartsAtIn n s.ops 2 (carry n s k m f)
  carry_low n k le m low f h a d =
      CarryLemmas.carry_same_to n s laws k m f a (omega arith)
      ∙ SubstOrder.starts_subst (exps n) (exps_are n) (exps n) (exps_are n) s.ops laws.ring (values_are_set s laws) (put n s m) low 2 f h a d

  carry_all_low : (n k : ℕ) → 1 ≤ k → (ms : List (Move n V)) → AllByRecursion (λ m. HaveNoConstant n s.ops n (put n s m)) ms → (f : Polynomial n V) → StartsAtIn n s.ops 2 f
      → StartsAtIn n s.ops 2 (carry_all n s k ms f)
  carry_all_low n k le [] low f h = h
  carry_all_low n k le (m ∷ ms) low f h = carry_all_low n k le ms low.1 (carry n s k m f) (carry_low n k le m low.0 f h)

  pub jets_low : JetsLow s
  jets_low n k le ms low g h = carry_all_low n k le ms low (jet n s k g) (λ a d. Canonical.jet_same_to n s laws k g a (omega arith) ∙ h a d)

  pub all_splits_keep : AllSplitsKeep s
  all_splits_keep n c o p fewer h f start split low =
      let three = leb-true 3 (row p).degree (part_degree p) in
      let kept = SplitMoves.keeps n c o (omega arith) s laws f start fewer in
      record {
        letters = letters_agree s n o p h _ f kept.below;
        low = subst (StartsAtIn c s.ops (row p).degree) (sym (kept.residual_part split)) low;
      }
