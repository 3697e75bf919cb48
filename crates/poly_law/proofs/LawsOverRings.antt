-- The laws of specs/Laws, over every commutative ring in which equations are propositions.
use Rattle.std.proofs.Common.{◌≡◌, ◌≢◌, ◌+◌, ◌-◌, subst, sym, ◌∙◌, ap, append_assoc, append-nil, arith}
use Rattle.ring_theory.specs.Ring.{RingOps, IsCommRing}
use Rattle.poly_law.specs.ExpList.{exps}
use Rattle.poly_law.specs.Poly.{MatherRows, coefficient}
use Rattle.poly_law.specs.Polynomials.{cut_in, substitute}
use Rattle.poly_law.specs.Laws.{PolynomialRing, CutTimes, CutIsSameTo, Leibniz, SubstIsRingMap, SubstMul, SubstCompose, SubstComposeCut, SubstCut, ChainRule, ComposeInvertible, IsInverse, InverseExists, MatherKept, MatherUp, MatherSplit, LimitMeans, QuotientFree, QuotientOfTable, QuotientOfSplit}
use Rattle.poly_law.proofs.ExpLists.{exps_are}
use Rattle.poly_law.proofs.PolyRing
use Rattle.poly_law.proofs.Derivative
use Rattle.poly_law.proofs.Order
use Rattle.poly_law.proofs.Subst
use Rattle.poly_law.proofs.SubstOrder
use Rattle.poly_law.proofs.Compose
use Rattle.poly_law.proofs.Chain
use Rattle.poly_law.proofs.Inverse
use Rattle.poly_law.proofs.Kept
use Rattle.poly_law.proofs.Split
use Rattle.poly_law.proofs.Functional
use Rattle.poly_law.proofs.Quotient
use Rattle.poly_law.proofs.QuotientSplit

module _ {V : Type 0} (r : RingOps V) (c : IsCommRing r) where
  pub polynomial_ring : PolynomialRing r
  polynomial_ring n = record {
    add_equal = λ f f' g g' p q m. PolyRing.add_left (exps n) (exps_are n) r c f f' g p m ∙ PolyRing.add_right (exps n) (exps_are n) r c f' g g' q m;
    mul_equal = λ f f' g g' p q m. PolyRing.times_left (exps n) (exps_are n) r c f f' g p m ∙ PolyRing.times_right (exps n) (exps_are n) r c f' g g' q m;
    neg_equal = PolyRing.neg_same (exps n) (exps_are n) r c;
    add_assoc = λ f g h m. ap (λ z. coefficient (exps n) r z m) (append_assoc f g h);
    add_comm = PolyRing.append_comm (exps n) (exps_are n) r c;
    add_zero = λ f m. ap (λ z. coefficient (exps n) r z m) (append-nil f);
    add_neg = PolyRing.append_neg (exps n) (exps_are n) r c;
    mul_assoc = PolyRing.times_assoc (exps n) (exps_are n) r c;
    mul_comm = PolyRing.times_comm (exps n) (exps_are n) r c;
    mul_one = PolyRing.times_one (exps n) (exps_are n) r c;
    distrib = PolyRing.append_times (exps n) (exps_are n) r c;
  }

  pub cut_times : CutTimes r
  cut_times n = Order.cut-times (exps n) (exps_are n) r c

  pub cut_is_same_to : CutIsSameTo r
  cut_is_same_to n k f g = (Order.cut_same_to (exps n) (exps_are n) r c k f, Order.same-cut (exps n) (exps_are n) r c k f g)

  pub leibniz : Leibniz r
  leibniz n = Derivative.derivative_times (exps n) (exps_are n) r c

  pub quotient_of_table : QuotientOfTable r
  quotient_of_table n k g size basis row multiplier q = record {
    low = q.low;
    units = q.units;
    zero_on = q.zero_on;
    spans = λ a h. record { multiplier = multiplier a; adds_up = q.adds_up a h };
  }

  module _ (s : IsSet V) where
    pub subst_is_ring_map : SubstIsRingMap r
    subst_is_ring_map m n parts = record {
      equal = Subst.subst_same (exps m) (exps_are m) (exps n) (exps_are n) r c s parts;
      one = Subst.subst_constant (exps m) (exps_are m) (exps n) (exps_are n) r c s parts r.one;
      add = Subst.subst_append (exps m) (exps_are m) (exps n) (exps_are n) r c s parts;
      mul = Subst.subst_times (exps m) (exps_are m) (exps n) (exps_are n) r c s parts;
    }

    pub subst_mul : SubstMul r
    subst_mul m n k parts f g a =
        Order.same-cut (exps n) (exps_are n) r c k _ _ (λ b h. Subst.subst_times (exps m) (exps_are m) (exps n) (exps_are n) r c s parts f g b) a
        ∙ Order.cut-times (exps n) (exps_are n) r c k (substitute m n r parts f) (substitute m n r parts g) a

    pub subst_compose : SubstCompose r
    subst_compose l m n = Compose.subst_twice (exps l) (exps_are l) (exps m) (exps_are m) (exps n) (exps_are n) r c s

    pub subst_cut : SubstCut r
    subst_cut m n k first next starts same f g e a d =
        SubstOrder.subst_same_to (exps m) (exps_are m) (exps n) (exps_are n) r c s first starts k f g e a d
        ∙ SubstOrder.parts_same_to (exps m) (exps_are m) (exps n) (exps_are n) r c s k first next same g a d

    pub subst_compose_cut : SubstComposeCut r
    subst_compose_cut l m n k first next starts f = Order.same-cut (exps n) (exps_are n) r c k
        (substitute m n r next (cut_in m r k (substitute l m r first f))) (substitute l n r (λ i. cut_in n r k (substitute m n r next (first i))) f)
        λ a d.
        SubstOrder.subst_same_to (exps m) (exps_are m) (exps n) (exps_are n) r c s next starts k (cut_in m r k (substitute l m r first f)) (substitute l m r first f)
        (Order.cut_same_to (exps m) (exps_are m) r c k (substitute l m r first f)) a d
        ∙ subst_compose l m n first next f a
        ∙ SubstOrder.parts_same_to (exps l) (exps_are l) (exps n) (exps_are n) r c s k (λ i. substitute m n r next (first i)) (λ i. cut_in n r k (substitute m n r next (first i)))
        (λ i g b h. sym (Order.cut_same_to (exps n) (exps_are n) r c k (substitute m n r next (first i)) b h)) f a d

    pub chain_rule : ChainRule r
    chain_rule m n = Chain.chain_rule (exps m) (exps_are m) (exps n) (exps_are n) r c s

    pub compose_invertible : ComposeInvertible r
    compose_invertible n = Inverse.compose_invertible (exps n) (exps_are n) r c s

    pub inverse_exists : InverseExists r
    inverse_exists n parts matrix q k one =
        let w = Inverse.find_inverse (exps n) (exps_are n) r c s parts matrix q (k - 1) in
        let at_k : IsInverse r n parts (1 + (k - 1)) w.psi = record {
          no_constant = w.none;
          right = w.right;
          left = Inverse.both_sides (exps n) (exps_are n) r c s parts matrix q (1 + (k - 1)) (omega arith) w.psi w.none w.right;
        } in
        (w.psi, subst (λ z. IsInverse r n parts z w.psi) (let e : 1 + (k - 1) ≡ k = omega arith in e) at_k)

    pub mather_kept : MatherKept r
    mather_kept n parts matrix q k f h e = (
      Kept.kept_after (exps n) (exps_are n) r c s parts matrix q k f h e,
      Kept.kept_before (exps n) (exps_are n) r c s parts matrix q k f h e,
    )

    pub mather_up : MatherUp r
    mather_up n k k' h g rows =
        subst (λ z. MatherRows (exps n) r z g) (let e : k + (k' - k) ≡ k' = omega arith in e) (Kept.rows_above (exps n) (exps_are n) r c s (k' - k) k g rows)

    pub mather_split : MatherSplit r
    mather_split n d fewer f g split k two = (
      Split.rows_of_residual (exps n) (exps_are n) (exps d) (exps_are d) fewer r c s f g split k,
      λ inverse units. Split.rows_of_split (exps n) (exps_are n) (exps d) (exps_are d) fewer r c s f g split inverse units k two,
    )

    pub limit_means : r.one ≢ r.zero → LimitMeans r
    limit_means apart n d fewer parts matrix q k germ jet carried residual split values at fails k' h rows =
        let at_k = mather_up n k' k h germ rows in
        let of_jet = Kept.kept_after (exps n) (exps_are n) r c s parts matrix q k germ jet carried at_k in
        let of_residual = Split.rows_of_residual (exps n) (exps_are n) (exps d) (exps_are d) fewer r c s jet residual split k of_jet in
        apart (sym (Functional.no_row (exps d) (exps_are d) r c s k residual values at fails (of_residual at fails.of_degree)))

    pub quotient_free : QuotientFree r
    quotient_free n k g size basis row q = (
      Quotient.basis_spans (exps n) (exps_are n) r c s k row g size basis q,
      Quotient.basis_is_free (exps n) (exps_are n) r c s k row g size basis q,
    )

    pub quotient_of_split : QuotientOfSplit r
    quotient_of_split n d fewer f g split inverse units k size basis row q =
        QuotientSplit.quotient_of_split (exps n) (exps_are n) (exps d) (exps_are d) fewer r c s f g split inverse units k size basis row q
