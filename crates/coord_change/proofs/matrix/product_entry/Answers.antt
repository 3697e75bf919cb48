use Rattle.std.proofs.Common.{◌≡◌, ℕ, suc, ◌+◌, ◌≤◌, ◌^◌, inl, inr, sym, ◌∙◌, ap, ap₂, subst₂, arith}
use Rattle.ring_theory.specs.Scalars.{SumIsHigh}
use Rattle.ring_law.proofs.Exits.{handed_on}
use Rattle.poly_law.specs.Sums.{sum_to}
use Rattle.coord_change.specs.Changes.{entry_of}
use Rattle.coord_change.proofs.Matrices
use Rattle.coord_change.proofs.matrix.product_entry.Goals as goal

pub loop-t-preserved : goal.loop-t-preserved
loop-t-preserved g c =
    let m = g.R.Ring.meaning c.args.ring.now in
    let n = c.args.n in
    let t = c.loop-t.t in
    let eb : entry_of m n c.args.b.now c.args.i t ≡ m.value c.index-b-n.result = Matrices.entry_read m n c.args.b.now c.args.i t c.index-b-n.result
    (let p = Matrices.place_inside n c.args.i t c.requires.row c.loop-t-test.true in let e = c.requires.b_entries in omega arith) c.index-b-n.is in
    let ea : entry_of m n c.args.a.now t c.args.j ≡ m.value c.index-a-n.result = Matrices.entry_read m n c.args.a.now t c.args.j c.index-a-n.result
    (let p = Matrices.place_inside n t c.args.j c.loop-t-test.true c.requires.column in let e = c.requires.a_entries in omega arith) c.index-a-n.is in
    let w = λ (t : ℕ). m.scalars.ops.mul (entry_of m n c.args.b.now c.args.i t) (entry_of m n c.args.a.now t c.args.j) in
    record {
      elem = c.in_ok-sum.ensures.elem;
      value = c.in_ok-sum.ensures.value ∙ ap₂ m.scalars.ops.add c.loop-t.invariant.value (c.in_ok-product.ensures.value ∙ sym (ap₂ m.scalars.ops.mul eb ea))
          ∙ ap (λ z. sum_to m.scalars.ops z w) (let e : suc t ≡ t + 1 = omega arith in e);
    }

pub returns-in_err-product-clause-range : goal.returns-in_err-product-clause-range
returns-in_err-product-clause-range g c =
    let m = g.R.Ring.meaning c.args.ring.now in
    let n = c.args.n in
    let t = c.loop-t.t in
    let eb : entry_of m n c.args.b.now c.args.i t ≡ m.value c.index-b-n.result = Matrices.entry_read m n c.args.b.now c.args.i t c.index-b-n.result
    (let p = Matrices.place_inside n c.args.i t c.requires.row c.loop-t-test.true in let e = c.requires.b_entries in omega arith) c.index-b-n.is in
    let ea : entry_of m n c.args.a.now t c.args.j ≡ m.value c.index-a-n.result = Matrices.entry_read m n c.args.a.now t c.args.j c.index-a-n.result
    (let p = Matrices.place_inside n t c.args.j c.loop-t-test.true c.requires.column in let e = c.requires.a_entries in omega arith) c.index-a-n.is in
    handed_on _ c.from_residual.ensures.1 (λ high. record { high = inl (t, c.loop-t-test.true, subst₂ (λ y z. 2 ^ 120 ≤ m.scalars.product_height y z) (sym eb) (sym ea) high) }) c.in_err-product.ensures.cause

pub returns-in_err-sum-clause-range : goal.returns-in_err-sum-clause-range
returns-in_err-sum-clause-range g c =
    let m = g.R.Ring.meaning c.args.ring.now in
    let l = (g.met.R.Ring.laws c.args.ring.now c.requires.ring).numbers in
    let n = c.args.n in
    let t = c.loop-t.t in
    let eb : entry_of m n c.args.b.now c.args.i t ≡ m.value c.index-b-n.result = Matrices.entry_read m n c.args.b.now c.args.i t c.index-b-n.result
    (let p = Matrices.place_inside n c.args.i t c.requires.row c.loop-t-test.true in let e = c.requires.b_entries in omega arith) c.index-b-n.is in
    let ea : entry_of m n c.args.a.now t c.args.j ≡ m.value c.index-a-n.result = Matrices.entry_read m n c.args.a.now t c.args.j c.index-a-n.result
    (let p = Matrices.place_inside n t c.args.j c.loop-t-test.true c.requires.column in let e = c.requires.a_entries in omega arith) c.index-a-n.is in
    let w = λ (t : ℕ). m.scalars.ops.mul (entry_of m n c.args.b.now c.args.i t) (entry_of m n c.args.a.now t c.args.j) in
    handed_on _ c.from_residual-in_err-sum.ensures.1
    (λ high. record {
      high = inr (Matrices.sum_high m.scalars l.ring w n t c.loop-t-test.true
          (subst₂ (SumIsHigh m.scalars) c.loop-t.invariant.value (c.in_ok-product.ensures.value ∙ sym (ap₂ m.scalars.ops.mul eb ea)) high));
    })
    c.in_err-sum.ensures.cause
