use Rattle.std.proofs.Common.{◌<◌, ◌^◌, unsigned_abs, sym, ◌∙◌, arith, subst}
use Rattle.small_frac.proofs.Parts.{kept}
use Rattle.small_frac.proofs.CubicRoots.{no_scaled, den_high, a_high, b_part_high, b_high, c_part_high, c_middle_high, c_high}
use Rattle.small_frac.proofs.root.scaled_coefficients.Goals as goal

pub returns-in_err-den : goal.returns-in_err-den
returns-in_err-den c =
    let r = c.requires in
    let a = c.args in
    no_scaled a.m2 a.m1 a.m0 r.m2_valid r.m1_valid r.m0_valid _ c.from_residual.ensures (den_high a.m2 a.m1 a.m0 r.m2_valid r.m1_valid r.m0_valid c.in_err-den.ensures)

pub returns-in_err-a : goal.returns-in_err-a
returns-in_err-a c =
    let r = c.requires in
    let a = c.args in
    no_scaled a.m2 a.m1 a.m0 r.m2_valid r.m1_valid r.m0_valid _ c.from_residual-in_err-a.ensures (a_high a.m2 a.m1 a.m0 r.m2_valid r.m1_valid r.m0_valid _ c.in_ok-den.ensures.1 c.in_err-a.ensures)

pub returns-in_err-multiple : goal.returns-in_err-multiple
returns-in_err-multiple c =
    let r = c.requires in
    let a = c.args in
    no_scaled a.m2 a.m1 a.m0 r.m2_valid r.m1_valid r.m0_valid _ c.from_residual-in_err-multiple.ensures (b_part_high a.m2 a.m1 a.m0 r.m2_valid r.m1_valid r.m0_valid _ c.in_ok-den.ensures.1 c.in_err-multiple.ensures)

pub returns-in_err-b : goal.returns-in_err-b
returns-in_err-b c =
    let r = c.requires in
    let a = c.args in
    let m = c.in_ok-multiple.ensures in
    let same = kept _ (subst (λ z. unsigned_abs z < 2 ^ 127) (sym m.1) (let s = m.0 in omega arith)) in
    no_scaled a.m2 a.m1 a.m0 r.m2_valid r.m1_valid r.m0_valid _ c.from_residual-in_err-b.ensures (b_high a.m2 a.m1 a.m0 r.m2_valid r.m1_valid r.m0_valid _ c.in_ok-den.ensures.1 _ (same ∙ m.1) c.in_err-b.ensures)

pub returns-in_err-multiple-2 : goal.returns-in_err-multiple-2
returns-in_err-multiple-2 c =
    let r = c.requires in
    let a = c.args in
    no_scaled a.m2 a.m1 a.m0 r.m2_valid r.m1_valid r.m0_valid _ c.from_residual-in_err-multiple-2.ensures (c_part_high a.m2 a.m1 a.m0 r.m2_valid r.m1_valid r.m0_valid _ c.in_ok-den.ensures.1 c.in_err-multiple-2.ensures)

pub returns-in_err-small_product : goal.returns-in_err-small_product
returns-in_err-small_product c =
    let r = c.requires in
    let a = c.args in
    let m = c.in_ok-multiple-2.ensures in
    let same = kept _ (subst (λ z. unsigned_abs z < 2 ^ 127) (sym m.1) (let s = m.0 in omega arith)) in
    no_scaled a.m2 a.m1 a.m0 r.m2_valid r.m1_valid r.m0_valid _ c.from_residual-in_err-small_product.ensures (c_middle_high a.m2 a.m1 a.m0 r.m2_valid r.m1_valid r.m0_valid _ c.in_ok-den.ensures.1 _ (same ∙ m.1) c.in_err-small_product.ensures)

pub returns-in_err-c : goal.returns-in_err-c
returns-in_err-c c =
    let r = c.requires in
    let a = c.args in
    let m = c.in_ok-multiple-2.ensures in
    let same = kept _ (subst (λ z. unsigned_abs z < 2 ^ 127) (sym m.1) (let s = m.0 in omega arith)) in
    let n = c.in_ok-small_product.ensures in
    let same_n = kept _ (subst (λ z. unsigned_abs z < 2 ^ 127) (sym n.1) (let s = n.0 in omega arith)) in
    no_scaled a.m2 a.m1 a.m0 r.m2_valid r.m1_valid r.m0_valid _ c.from_residual-in_err-c.ensures (c_high a.m2 a.m1 a.m0 r.m2_valid r.m1_valid r.m0_valid _ c.in_ok-den.ensures.1 _ _ (same ∙ m.1) (same_n ∙ n.1) c.in_err-c.ensures)
