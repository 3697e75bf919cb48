use Rattle.std.proofs.Common.{◌≡◌, ℕ, ◌<◌, [], map, get_or}
use Rattle.mono_exp.specs.Exponents.{exponents}
use Rattle.tern_cubic.proofs.reaching.has_monomials.Given as goal

abbrev pub invariant-loop-i : goal.invariant-loop-i
invariant-loop-i g l = (k : ℕ) → k < l.i → get_or (map (λ t. exponents 3 t.0.e) l.f.terms) k [] ≡ get_or l.monomials k []
