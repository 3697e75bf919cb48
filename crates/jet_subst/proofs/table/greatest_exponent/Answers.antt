use Rattle.std.proofs.Common.{◌≤◌, get_or, map, Contains, sym, subst, arith, [], ◌∷◌, List, length, ◌<◌, ◌≢◌, refl}
use Rattle.jet_subst.proofs.Tables
use Rattle.jet_subst.proofs.table.greatest_exponent.Goals as goal

pub loop-t-preserved : goal.loop-t-preserved
loop-t-preserved g c = record {
  within = omega arith;
  greatest = λ k d h.
      subst (λ z. get_or (get_or c.args.terms.now k d).0.e c.args.i 0 ≤ z) (sym c.larger-greatest.ensures)
      (Tables.greatest_more c.args.i c.args.terms.now c.loop-t.t-index c.loop-t.greatest c.t-item.result c.loop-t-test.true c.t-item.is c.loop-t.invariant.greatest k d h);
  first = λ h. absurd (omega arith);
  among = λ h.
      subst (Contains (map (λ t. get_or t.0.e c.args.i 0) c.args.terms.now)) (sym c.larger-greatest.ensures)
      (Tables.among_more c.args.i c.args.terms.now c.loop-t.t-index c.loop-t.greatest c.t-item.result c.loop-t-test.true c.t-item.is c.loop-t.invariant.first c.loop-t.invariant.among);
}

not_empty : {X : Type 0} (xs : List X) → xs ≢ [] → 0 < length xs
not_empty [] h = absurd (h refl)
not_empty (x ∷ xs) h = omega arith

pub returns-clause-among : goal.returns-clause-among
returns-clause-among g c = λ h. c.loop-t.invariant.among (let z = not_empty c.args.terms.now h in omega arith)

pub returns-clause-greatest : goal.returns-clause-greatest
returns-clause-greatest g c = λ k d h. c.loop-t.invariant.greatest k d (omega arith)
