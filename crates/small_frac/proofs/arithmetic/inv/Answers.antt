use Rattle.std.proofs.Common.{arith, ◌≡◌, pos}
use Rattle.std.proofs.lemmas.Int.{ints}
use Rattle.ring_law.proofs.FractionLaws.{zero_value, nonzero_value, inv_pos, inv_neg}
use Rattle.small_frac.proofs.Parts.{kept, negated}
use Rattle.small_frac.proofs.arithmetic.inv.Goals as goal

pub returns-then-a-eq0 : goal.returns-then-a-eq0
returns-then-a-eq0 c = zero_value c.args.a c.requires (let h : c.args.a.num ≡ pos 0 = omega (arith, ints) in h)

pub returns-then-a-gt0 : goal.returns-then-a-gt0
returns-then-a-gt0 c = (
  nonzero_value c.args.a c.requires (λ e. omega (arith, ints)),
  (inv_pos c.args.a _ c.requires (omega (arith, ints)) (kept c.args.a.den c.requires.den_fits) (kept c.args.a.num c.requires.num_fits)),
)

pub returns-else-a-gt0 : goal.returns-else-a-gt0
returns-else-a-gt0 c = (
  nonzero_value c.args.a c.requires (λ e. omega (arith, ints)),
  (inv_neg c.args.a _ c.requires (omega (arith, ints)) (negated c.args.a.den c.requires.den_fits) (negated c.args.a.num c.requires.num_fits)),
)
