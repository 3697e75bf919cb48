use Rattle.std.proofs.Common.{rules}
use Rattle.std.proofs.lemmas.List.Sorted.{IsPartitionPoint-from_clause}
use Rattle.mono_exp.specs.Exponents.{is_before}
use Rattle.jet_poly.proofs.Coefficients.{before-partitioned}
use Rattle.jet_poly.proofs.coefficient.place_of.Goals as goal

pub returns : goal.returns
returns g c = record {
  place = IsPartitionPoint-from_clause (λ t. is_before t.0.e c.args.a.e) _ _ c.partition_point.ensures.partitioned (before-partitioned c.args.a.e c.args.terms.now c.requires.rising) (λ a r f k. search rules);
}
