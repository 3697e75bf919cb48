use Rattle.std.proofs.Common.{◌∷◌, [], map, arith, refl}
use Rattle.std.proofs.lemmas.List.Elements.{All-from_recursion}
use Rattle.ring_law.specs.Fraction.{IsFrac, frac_value}
use Rattle.ring_law.proofs.Exits.{handed_on}
use Rattle.ternary_law.specs.Hessian.{hessian3}
use Rattle.tern_cubic.specs.declared.hessian.TheConstants.{AT_X3, AT_X2Y, AT_X2Z, AT_XY2, AT_XYZ, AT_XZ2, AT_Y3, AT_Y2Z, AT_YZ2, AT_Z3}
use Rattle.tern_cubic.proofs.Hessians.{coefficient_high}
use Rattle.tern_cubic.proofs.hessian.hessian3.Goals as goal

pub returns-in_err-at_x3-clause-range : goal.returns-in_err-at_x3-clause-range
returns-in_err-at_x3-clause-range c = handed_on _ c.from_residual.ensures.1 (coefficient_high (map frac_value c.args.c) 0 AT_X3 (omega arith) refl) c.in_err-at_x3.ensures.range

pub returns-in_err-at_x2y-clause-range : goal.returns-in_err-at_x2y-clause-range
returns-in_err-at_x2y-clause-range c = handed_on _ c.from_residual-in_err-at_x2y.ensures.1 (coefficient_high (map frac_value c.args.c) 1 AT_X2Y (omega arith) refl) c.in_err-at_x2y.ensures.range

pub returns-in_err-at_x2z-clause-range : goal.returns-in_err-at_x2z-clause-range
returns-in_err-at_x2z-clause-range c = handed_on _ c.from_residual-in_err-at_x2z.ensures.1 (coefficient_high (map frac_value c.args.c) 2 AT_X2Z (omega arith) refl) c.in_err-at_x2z.ensures.range

pub returns-in_err-at_xy2-clause-range : goal.returns-in_err-at_xy2-clause-range
returns-in_err-at_xy2-clause-range c = handed_on _ c.from_residual-in_err-at_xy2.ensures.1 (coefficient_high (map frac_value c.args.c) 3 AT_XY2 (omega arith) refl) c.in_err-at_xy2.ensures.range

pub returns-in_err-at_xyz-clause-range : goal.returns-in_err-at_xyz-clause-range
returns-in_err-at_xyz-clause-range c = handed_on _ c.from_residual-in_err-at_xyz.ensures.1 (coefficient_high (map frac_value c.args.c) 4 AT_XYZ (omega arith) refl) c.in_err-at_xyz.ensures.range

pub returns-in_err-at_xz2-clause-range : goal.returns-in_err-at_xz2-clause-range
returns-in_err-at_xz2-clause-range c = handed_on _ c.from_residual-in_err-at_xz2.ensures.1 (coefficient_high (map frac_value c.args.c) 5 AT_XZ2 (omega arith) refl) c.in_err-at_xz2.ensures.range

pub returns-in_err-at_y3-clause-range : goal.returns-in_err-at_y3-clause-range
returns-in_err-at_y3-clause-range c = handed_on _ c.from_residual-in_err-at_y3.ensures.1 (coefficient_high (map frac_value c.args.c) 6 AT_Y3 (omega arith) refl) c.in_err-at_y3.ensures.range

pub returns-in_err-at_y2z-clause-range : goal.returns-in_err-at_y2z-clause-range
returns-in_err-at_y2z-clause-range c = handed_on _ c.from_residual-in_err-at_y2z.ensures.1 (coefficient_high (map frac_value c.args.c) 7 AT_Y2Z (omega arith) refl) c.in_err-at_y2z.ensures.range

pub returns-in_err-at_yz2-clause-range : goal.returns-in_err-at_yz2-clause-range
returns-in_err-at_yz2-clause-range c = handed_on _ c.from_residual-in_err-at_yz2.ensures.1 (coefficient_high (map frac_value c.args.c) 8 AT_YZ2 (omega arith) refl) c.in_err-at_yz2.ensures.range

pub returns-in_err-at_z3-clause-range : goal.returns-in_err-at_z3-clause-range
returns-in_err-at_z3-clause-range c = handed_on _ c.from_residual-in_err-at_z3.ensures.1 (coefficient_high (map frac_value c.args.c) 9 AT_Z3 (omega arith) refl) c.in_err-at_z3.ensures.range

pub returns-clause-elems : goal.returns-clause-elems
returns-clause-elems c = All-from_recursion IsFrac (c.in_ok-at_x3.at_x3 ∷ c.in_ok-at_x2y.at_x2y ∷ c.in_ok-at_x2z.at_x2z ∷ c.in_ok-at_xy2.at_xy2 ∷ c.in_ok-at_xyz.at_xyz ∷ c.in_ok-at_xz2.at_xz2 ∷ c.in_ok-at_y3.at_y3 ∷ c.in_ok-at_y2z.at_y2z ∷ c.in_ok-at_yz2.at_yz2 ∷ c.in_ok-at_z3.at_z3 ∷ []) (c.in_ok-at_x3.ensures.elem, (c.in_ok-at_x2y.ensures.elem, (c.in_ok-at_x2z.ensures.elem, (c.in_ok-at_xy2.ensures.elem, (c.in_ok-at_xyz.ensures.elem, (c.in_ok-at_xz2.ensures.elem, (c.in_ok-at_y3.ensures.elem, (c.in_ok-at_y2z.ensures.elem, (c.in_ok-at_yz2.ensures.elem, (c.in_ok-at_z3.ensures.elem, tt))))))))))

pub returns-clause-value : goal.returns-clause-value
unfolding hessian3
returns-clause-value c = λ k. c.in_ok-at_x3.ensures.value k ∷ c.in_ok-at_x2y.ensures.value k ∷ c.in_ok-at_x2z.ensures.value k ∷ c.in_ok-at_xy2.ensures.value k ∷ c.in_ok-at_xyz.ensures.value k ∷ c.in_ok-at_xz2.ensures.value k ∷ c.in_ok-at_y3.ensures.value k ∷ c.in_ok-at_y2z.ensures.value k ∷ c.in_ok-at_yz2.ensures.value k ∷ c.in_ok-at_z3.ensures.value k ∷ []
