use Rattle.std.proofs.Common.{List, ℕ, [], Bool, ◌&&◌, ◌∙◌, not, sym, ap, ap₂, arith}
use Rattle.std.proofs.lemmas.List.Folds.{list_all_at, list_all_more}
use Rattle.jet_law.specs.Terms.{poly_of}
use Rattle.move_law.specs.Moves.{is_there}
use Rattle.rules_corank3.proofs.pattern.lacks.Goals as goal

pub loop-e-preserved : goal.loop-e-preserved
loop-e-preserved g c =
    let m = g.R.Ring.meaning c.args.ring.now in
    let n = c.args.f.now.n in
    let p : List ℕ → Bool = λ e. not (is_there n m.scalars (poly_of n m.value c.args.f.now.terms) e) in
    record {
      within = let h = c.loop-e-test.true in omega arith;
      before = list_all_more p c.args.monomials.now c.loop-e.e-index [] c.loop-e-test.true ∙ ap₂ ◌&&◌ c.loop-e.invariant.before (ap not (sym c.is_there.ensures ∙ c.if-is_there.false));
    }

pub returns-then-is_there : goal.returns-then-is_there
returns-then-is_there g c =
    let m = g.R.Ring.meaning c.args.ring.now in
    let n = c.args.f.now.n in
    let p : List ℕ → Bool = λ e. not (is_there n m.scalars (poly_of n m.value c.args.f.now.terms) e) in
    sym (list_all_at p c.args.monomials.now c.loop-e.e-index [] c.loop-e-test.true (ap not (sym c.is_there.ensures ∙ c.if-is_there.true)))
