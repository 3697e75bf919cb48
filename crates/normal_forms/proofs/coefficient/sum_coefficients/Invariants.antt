use Rattle.std.proofs.Common.{◌≡◌, map, take}
use Rattle.std.specs.List.{All}
use Rattle.poly_law.specs.Polynomials.{coefficient_in}
use Rattle.jet_law.specs.Terms.{exp_of, poly_of}
use Rattle.normal_forms.proofs.coefficient.sum_coefficients.Given as goal

abbrev pub invariant-loop-monomial : goal.invariant-loop-monomial
invariant-loop-monomial g l =
    let m = g.R.Ring.meaning l.ring in
    record {
      elems : All m.is_elem l.coefs.items;
      so_far : map m.value l.coefs.items ≡ map (λ a. coefficient_in 8 m.scalars.ops (poly_of 8 m.value l.f.terms) (exp_of 8 a)) (take l.monomial-index l.monomial-items);
    }
