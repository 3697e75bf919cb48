use Rattle.std.proofs.Common.{map, take}
use Rattle.ring_law.specs.Fraction.{frac_value}
use Rattle.mono_exp.specs.Exponents.{exponents}
use Rattle.jet_law.specs.Terms.{poly_of}
use Rattle.tern_cubic.specs.Rows.{HaveEntries}
use Rattle.tern_cubic.proofs.RowLemmas.{gradient_at}
use Rattle.tern_cubic.proofs.rows.partial_rows.Given as goal

abbrev pub invariant-loop-a : goal.invariant-loop-a
invariant-loop-a l = HaveEntries 3 (map (λ a. gradient_at (poly_of 3 frac_value l.f.terms) (exponents 3 a.e)) (take l.a-index l.a-items)) l.rows.items
