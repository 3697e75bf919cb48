use Rattle.std.proofs.Common.{◌≡◌, ℕ, ◌+◌, ◌<◌, get_or, length}
use Rattle.mono_exp.proofs.exponent.times.Given as goal

abbrev pub invariant-loop-i : goal.invariant-loop-i
invariant-loop-i l = record {
  long : length l.e ≡ 8;
  done : (k : ℕ) → k < l.i → get_or l.e k 0 ≡ get_or l.a.e k 0 + get_or l.b.e k 0;
  fits : (k : ℕ) → k < l.i → get_or l.a.e k 0 + get_or l.b.e k 0 < 256;
}
