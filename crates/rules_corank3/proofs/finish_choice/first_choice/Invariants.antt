use Rattle.std.proofs.Common.{◌≡◌, drop}
use Rattle.jet_law.specs.Terms.{poly_of}
use Rattle.kill_law.specs.Kill.{first}
use Rattle.move_law.specs.Moves.{is_there}
use Rattle.rules_corank3.specs.declared.finish_choice.Choice as coded
use Rattle.rules_corank3.proofs.finish_choice.first_choice.Given as goal

abbrev pub invariant-loop-choice : goal.invariant-loop-choice
invariant-loop-choice g l =
    let m = g.R.Ring.meaning l.ring in
    let n = l.f.n in
    let p = λ (ch : coded.Choice). is_there n m.scalars (poly_of n m.value l.f.terms) ch.monomial in
    first p l.choices ≡ first p (drop l.choice-index l.choices)
