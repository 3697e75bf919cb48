use Rattle.std.proofs.Common.{◌≡◌, take}
use Rattle.std.specs.List.{flat_map}
use Rattle.poly_text.specs.Polynomials.{term_in}
use Rattle.poly_text.proofs.polynomial.put_polynomial.Given as goal

abbrev pub invariant-loop-term : goal.invariant-loop-term
invariant-loop-term l = l.pieces.items ≡ flat_map (term_in l.names) (take l.term-index l.term-items)
