use Rattle.std.proofs.Common.{◌≡◌, ◌+◌, map}
use Rattle.std.specs.List.{All}
use Rattle.poly_law.specs.Polynomials.{coefficient_in}
use Rattle.jet_law.specs.Terms.{exp_of, poly_of}
use Rattle.normal_forms.specs.Monomials.{numbers_below, square_of}
use Rattle.determinator.proofs.jet.squares_of.Given as goal

abbrev pub invariant-loop-k : goal.invariant-loop-k
invariant-loop-k g l =
    let m = g.R.Ring.meaning l.ring in
    record {
      elems : All m.is_elem l.squares.items;
      so_far : map m.value l.squares.items ≡ map (λ i. coefficient_in l.f.n m.scalars.ops (poly_of l.f.n m.value l.f.terms) (exp_of l.f.n (square_of (l.corank + i)))) (numbers_below l.k);
    }
