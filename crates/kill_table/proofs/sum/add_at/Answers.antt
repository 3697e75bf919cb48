use Rattle.std.proofs.Common.{◌≡◌, ◌+◌, true, false, cond, [], ◌∷◌, ◌++◌, take, drop, sym, ap, ◌∙◌, true≢false}
use Rattle.ring_law.proofs.Exits.{handed_on}
use Rattle.kill_table.proofs.Putting.{set-parts, remove-parts, not-true}
use Rattle.kill_table.proofs.sum.add_at.Goals as goal

pub returns-in_err-sum-clause-range : goal.returns-in_err-sum-clause-range
returns-in_err-sum-clause-range g c = handed_on _ c.from_residual.ensures.1 (λ high. record { term = c.index.result.now; read = c.index.ensures; high = high }) c.in_err-sum.ensures.cause

pub returns-then-eq-clause-sum : goal.returns-then-eq-clause-sum
returns-then-eq-clause-sum g c =
    let m = g.R.Ring.meaning c.args.ring.now in
    let laws = (g.met.R.Ring.laws c.args.ring.now c.requires.ring).numbers in
    let zero : m.scalars.is_zero (m.value c.in_ok-sum.sum) ≡ true = (laws.zero_test (m.value c.in_ok-sum.sum)).1 (c.eq.ensures.0 c.if-eq.true ∙ c.zero.ensures.value) in
    record {
      term = c.index.result.now;
      read = c.index.ensures;
      number = c.in_ok-sum.sum;
      elem = c.in_ok-sum.ensures.elem;
      sum = c.in_ok-sum.ensures.value;
      changed = c.remove.ensures.items ∙ remove-parts c.args.terms.now.items c.args.place
          ∙ sym (ap (λ b. take c.args.place c.args.terms.now.items ++ (cond b [] ((c.index.result.now.0, c.in_ok-sum.sum) ∷ []) ++ drop (c.args.place + 1) c.args.terms.now.items)) zero);
    }

pub returns-else-eq-clause-sum : goal.returns-else-eq-clause-sum
returns-else-eq-clause-sum g c =
    let m = g.R.Ring.meaning c.args.ring.now in
    let laws = (g.met.R.Ring.laws c.args.ring.now c.requires.ring).numbers in
    let zero : m.scalars.is_zero (m.value c.in_ok-sum.sum) ≡ false = not-true (m.scalars.is_zero (m.value c.in_ok-sum.sum))
    (λ h. true≢false (sym (c.eq.ensures.1 ((laws.zero_test (m.value c.in_ok-sum.sum)).0 h ∙ sym c.zero.ensures.value)) ∙ c.if-eq.false)) in
    record {
      term = c.index.result.now;
      read = c.index.ensures;
      number = c.in_ok-sum.sum;
      elem = c.in_ok-sum.ensures.elem;
      sum = c.in_ok-sum.ensures.value;
      changed = set-parts c.args.terms.now.items c.args.place (c.index.result.now.0, c.in_ok-sum.sum) c.requires.inside
          ∙ sym (ap (λ b. take c.args.place c.args.terms.now.items ++ (cond b [] ((c.index.result.now.0, c.in_ok-sum.sum) ∷ []) ++ drop (c.args.place + 1) c.args.terms.now.items)) zero);
    }
