use Rattle.std.proofs.Common.{◌≡◌, ◌≤◌, true, not, take, length}
use Rattle.std.specs.List.{list_all}
use Rattle.jet_law.specs.Terms.{poly_of}
use Rattle.move_law.specs.Moves.{is_there}
use Rattle.rules_corank3.proofs.pattern.lacks.Given as goal

abbrev pub invariant-loop-e : goal.invariant-loop-e
invariant-loop-e g l =
    let m = g.R.Ring.meaning l.ring in
    let n = l.f.n in
    record {
      within : l.e-index ≤ length l.monomials;
      before : list_all (λ e. not (is_there n m.scalars (poly_of n m.value l.f.terms) e)) (take l.e-index l.monomials) ≡ true;
    }
