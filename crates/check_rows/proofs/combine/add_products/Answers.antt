use Rattle.std.proofs.Common.{◌≡◌, ◌++◌, append-nil, sym, subst, take_all, arith}
use Rattle.ring_law.proofs.Exits.{fault_handed_on}
use Rattle.poly_law.specs.Polynomials.{cut_in, times_in}
use Rattle.jet_law.specs.Terms.{poly_of}
use Rattle.check_rows.proofs.ListLemmas.{products_step, products_high}
use Rattle.check_rows.proofs.combine.add_products.Goals as goal

pub loop-u-init : goal.loop-u-init
loop-u-init g c =
    let m = g.R.Ring.meaning c.args.ring.now in
    record { within = omega arith; valid = c.requires.valid; so_far = sym (append-nil (poly_of c.args.n m.value c.args.all.now.items)) }

pub returns-in_err-add_multiple-clause-range : goal.returns-in_err-add_multiple-clause-range
returns-in_err-add_multiple-clause-range g c =
    let m = g.R.Ring.meaning c.args.ring.now in
    fault_handed_on _ c.from_residual.ensures.1
    (λ high. products_high m c.args.n c.args.k c.args.f.now (poly_of c.args.n m.value c.args.h.now) c.loop-u.u-index c.u-item.result c.loop-u-test.true c.u-item.is high)
    c.in_err-add_multiple.ensures.range

pub loop-u-preserved : goal.loop-u-preserved
loop-u-preserved g c =
    let m = g.R.Ring.meaning c.args.ring.now in
    record {
      within = omega arith;
      valid = c.in_ok-add_multiple.ensures.valid;
      so_far = products_step m c.args.n c.args.k (poly_of c.args.n m.value c.args.all.now.items) (poly_of c.args.n m.value c.loop-u.all.items) (poly_of c.args.n m.value c.add_multiple.new.all.items)
          c.args.f.now (poly_of c.args.n m.value c.args.h.now) c.loop-u.u-index c.u-item.result c.loop-u-test.true c.u-item.is c.loop-u.invariant.so_far c.in_ok-add_multiple.ensures.products;
    }

pub returns-clause-products : goal.returns-clause-products
returns-clause-products g c =
    let m = g.R.Ring.meaning c.args.ring.now in
    subst (λ z. poly_of c.args.n m.value c.loop-u.all.items ≡ poly_of c.args.n m.value c.args.all.now.items ++ cut_in c.args.n m.scalars.ops c.args.k (times_in c.args.n m.scalars.ops (poly_of c.args.n m.value z) (poly_of c.args.n m.value c.args.h.now)))
    (take_all c.loop-u.u-index c.args.f.now (omega arith)) c.loop-u.invariant.so_far
