use Rattle.std.proofs.Common.{◌≡◌, ◌<◌, ◌^◌, pos, ◌+ℤ◌, unsigned_abs, to_z, of_z, sym, ◌∙◌, ap, ap₂, subst, refl, arith, ⊎_elim}
use mir.Syntax.{w128}
use Rattle.ring_law.specs.Fraction.{Represents, FitsFrac, ratio, add_left, add_right, add_den}
use Rattle.ring_law.proofs.FractionLaws.{add_value, add_den_pos, den_nonzero, parts_fit}
use Rattle.small_frac.proofs.AddParts.{g_pos, left_is, right_is, den_is, sum_is}
use Rattle.small_frac.proofs.Parts.{kept}
use Rattle.small_frac.proofs.arithmetic.add.Goals as goal

pub nonzero_div-scale_a : goal.nonzero_div-scale_a
nonzero_div-scale_a c = g_pos c.args.a c.args.b c.requires.left c.requires.right _ _ _ c.unsigned_abs-p.ensures.value c.unsigned_abs-q.ensures.value c.common_divisor-g.ensures

pub nonzero_div-scale_b : goal.nonzero_div-scale_b
nonzero_div-scale_b c = g_pos c.args.a c.args.b c.requires.left c.requires.right _ _ _ c.unsigned_abs-p.ensures.value c.unsigned_abs-q.ensures.value c.common_divisor-g.ensures

pub returns-in_default-bounded_add : goal.returns-in_default-bounded_add
returns-in_default-bounded_add c =
    let ep = c.unsigned_abs-p.ensures.value in
    let eq = c.unsigned_abs-q.ensures.value in
    let eg = c.common_divisor-g.ensures in
    let left = c.in-Some.ensures.1 ∙ left_is c.args.a c.args.b c.requires.left c.requires.right _ _ _ ep eq eg in
    let right = c.in-Some-bounded_mul.ensures.1 ∙ right_is c.args.a c.args.b c.requires.left c.requires.right _ _ _ ep eq eg in
    ((λ f. c.in_default-bounded_add.ensures (subst (λ z. unsigned_abs z < 2 ^ 127) (sym (sum_is c.args.a c.args.b c.requires.left c.requires.right _ _ _ ep eq eg _ _ f.left left f.right right)) f.sum)), refl)

pub returns-in_default-bounded_mul-2 : goal.returns-in_default-bounded_mul-2
returns-in_default-bounded_mul-2 c =
    let den = den_is c.args.a c.args.b c.requires.left c.requires.right _ _ _ c.unsigned_abs-p.ensures.value c.unsigned_abs-q.ensures.value c.common_divisor-g.ensures in
    ((λ f. c.in_default-bounded_mul-2.ensures (subst (λ z. unsigned_abs z < 2 ^ 127) (sym den) f.den)), refl)

pub returns-in-Some-make_frac : goal.returns-in-Some-make_frac
returns-in-Some-make_frac c =
    let a = c.args.a in
    let b = c.args.b in
    let va = c.requires.left in
    let vb = c.requires.right in
    let ep = c.unsigned_abs-p.ensures.value in
    let eq = c.unsigned_abs-q.ensures.value in
    let eg = c.common_divisor-g.ensures in
    let s1 = c.in-Some.ensures in
    let s2 = c.in-Some-bounded_mul.ensures in
    let s3 = c.in-Some-bounded_add.ensures in
    let s4 = c.in-Some-bounded_mul-2.ensures in
    let s5 = c.in-Some-make_frac.ensures in
    let e1 = left_is a b va vb _ _ _ ep eq eg in
    let e2 = right_is a b va vb _ _ _ ep eq eg in
    let f1 : unsigned_abs (add_left a b) < 2 ^ 127 = subst (λ z. unsigned_abs z < 2 ^ 127) e1 s1.0 in
    let f2 : unsigned_abs (add_right a b) < 2 ^ 127 = subst (λ z. unsigned_abs z < 2 ^ 127) e2 s2.0 in
    let e3 = sum_is a b va vb _ _ _ ep eq eg _ _ f1 (s1.1 ∙ e1) f2 (s2.1 ∙ e2) in
    let f3 : unsigned_abs (add_left a b +ℤ add_right a b) < 2 ^ 127 = subst (λ z. unsigned_abs z < 2 ^ 127) e3 s3.0 in
    let e4 = den_is a b va vb _ _ _ ep eq eg in
    let f4 : add_den a b < 2 ^ 127 = subst (λ z. unsigned_abs z < 2 ^ 127) e4 s4.0 in
    let sum = ap (λ z. to_z w128 (of_z w128 z)) (s3.1 ∙ e3) ∙ kept _ f3 in
    let den = ap (λ z. to_z w128 (of_z w128 z)) (s4.1 ∙ e4) ∙ kept (pos (add_den a b)) f4 in (
      record { left = f1; right = f2; sum = f3; den = f4 },
      subst (λ q. Represents c.in-Some-make_frac.f q) (ap₂ ratio sum den ∙ add_value a b (den_nonzero a va) (den_nonzero b vb)) s5.1,
    )

pub returns-in-None : goal.returns-in-None
returns-in-None c =
    let a = c.args.a in
    let b = c.args.b in
    let va = c.requires.left in
    let vb = c.requires.right in
    let ep = c.unsigned_abs-p.ensures.value in
    let eq = c.unsigned_abs-q.ensures.value in
    let eg = c.common_divisor-g.ensures in
    let s1 = c.in-Some.ensures in
    let s2 = c.in-Some-bounded_mul.ensures in
    let s3 = c.in-Some-bounded_add.ensures in
    let s4 = c.in-Some-bounded_mul-2.ensures in
    let e1 = left_is a b va vb _ _ _ ep eq eg in
    let e2 = right_is a b va vb _ _ _ ep eq eg in (
      (λ f.
          let e3 = sum_is a b va vb _ _ _ ep eq eg _ _ f.left (s1.1 ∙ e1) f.right (s2.1 ∙ e2) in
          let sum = ap (λ z. to_z w128 (of_z w128 z)) (s3.1 ∙ e3) ∙ kept _ f.sum in
          let den = ap (λ z. to_z w128 (of_z w128 z)) (s4.1 ∙ den_is a b va vb _ _ _ ep eq eg) ∙ kept (pos (add_den a b)) f.den in
          ⊎_elim
          (λ z. let e : pos (add_den a b) ≡ pos 0 = sym den ∙ z in let h : 0 < add_den a b = add_den_pos a b va vb in let k : add_den a b ≡ 0 = ap unsigned_abs e in omega arith)
          (λ not_fits. not_fits (subst FitsFrac (sym (ap₂ ratio sum den)) (parts_fit (add_left a b +ℤ add_right a b) (add_den a b) (add_den_pos a b va vb) f.sum f.den)))
          c.in-None.ensures),
      refl,
    )
