use Rattle.std.proofs.Common.{map}
use Rattle.mono_exp.specs.Exponents.{numbers_below}
use Rattle.jet_law.specs.Terms.{poly_of}
use Rattle.move_law.specs.Split.{split_put}
use Rattle.split_lemma.proofs.SplitParts.{AreJetsFor}
use Rattle.split_lemma.proofs.splitting.split.Given as goal

abbrev pub invariant-loop-w : goal.invariant-loop-w
invariant-loop-w g l =
    let m = g.F.Ring.meaning l.field in
    let n = l.f.n in
    AreJetsFor m n 16 (map (split_put n m.scalars l.corank l.d (map m.value l.squares) (poly_of n m.value l.f.terms)) (numbers_below l.w)) l.parts.items
