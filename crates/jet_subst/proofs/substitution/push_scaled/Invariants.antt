use Rattle.std.proofs.Common.{◌≡◌, ℕ, ◌≤◌, ◌++◌, take, length, All}
use Rattle.poly_law.specs.ExpList.{exps}
use Rattle.poly_law.specs.Poly.{scale}
use Rattle.mono_exp.specs.Exponents.{IsIn}
use Rattle.jet_law.specs.Terms.{poly_of}
use Rattle.jet_subst.proofs.substitution.push_scaled.Given as goal

abbrev pub invariant-loop-u : goal.invariant-loop-u
invariant-loop-u g l = record {
  within : l.u-index ≤ length l.terms;
  elems : All (λ u. (g.R.Ring.meaning l.ring).is_elem u.1) l.all.items;
  variables : (n : ℕ) → All (λ u. IsIn n u.0.e) l.initial.all.items → All (λ u. IsIn n u.0.e) l.terms → All (λ u. IsIn n u.0.e) l.all.items;
  multiples : let m = g.R.Ring.meaning l.ring in (n : ℕ) → poly_of n m.value l.all.items ≡ poly_of n m.value l.initial.all.items ++ scale (exps n) m.scalars.ops (m.value l.c) (poly_of n m.value (take l.u-index l.terms));
}
