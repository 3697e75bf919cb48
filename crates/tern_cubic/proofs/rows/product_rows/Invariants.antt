use Rattle.std.proofs.Common.{map, take}
use Rattle.ring_law.specs.Fraction.{frac_value}
use Rattle.jet_law.specs.Terms.{poly_of}
use Rattle.jacobian_row.specs.Multiples.{pair_of}
use Rattle.tern_cubic.specs.Rows.{HaveEntries}
use Rattle.tern_cubic.proofs.RowLemmas.{product_at}
use Rattle.tern_cubic.proofs.rows.product_rows.Given as goal

abbrev pub invariant-loop-u : goal.invariant-loop-u
invariant-loop-u l = HaveEntries 15 (map (λ u. product_at (poly_of 3 frac_value l.f.terms) (pair_of 3 u)) (take l.u-index l.u-items)) l.rows.items
