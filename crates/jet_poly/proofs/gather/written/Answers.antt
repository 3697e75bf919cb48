use Rattle.std.proofs.Common.{suc, ◌+◌, ◌<◌, ◌∙◌, get_or, length, take, take_all, sym, ap, subst, refl, arith}
use Rattle.std.specs.Option.{option_map}
use Rattle.std.specs.Map.{keys_of}
use Rattle.std.specs.Map.Iter.{deref_pair}
use Rattle.poly_law.specs.ExpList.{exps}
use Rattle.poly_law.specs.Poly.{coefficient}
use Rattle.poly_law.specs.Polynomials.{SameIn}
use Rattle.mono_exp.specs.Exponents.{monomials_below}
use Rattle.jet_law.specs.Terms.{poly_of}
use Rattle.jet_poly.specs.Gathered.{gathered}
use Rattle.jet_poly.proofs.GatheredLemmas.{numbered-rank}
use Rattle.jet_poly.proofs.Output.{AreWritten, written-jet, degree-number, numbers-le}
use Rattle.jet_poly.proofs.Steps.{read-entry, entry-holds, key-at, key-next, written-step, so-far-step}
use Rattle.jet_poly.proofs.gather.written.Goals as goal

pub unrank-requires-clause-within : goal.unrank-requires-clause-within
unrank-requires-clause-within g c =
    let m = g.R.Ring.meaning c.args.ring.now in
    let e = read-entry c.args.sums.now.entries c.loop-i.i (c.unwrap.result.0.now, c.unwrap.result.1.now) (sym (ap (option_map deref_pair) c.unwrap.ensures) ∙ c.get_index.ensures.entry) in
    let h : c.loop-i.i < length c.args.sums.now.entries = (let l = c.len-i-end.ensures.len in let t = c.loop-i-test.true in omega arith) in
    let b = numbers-le c.args.n c.args.order c.requires.order_at_most_17 in
    let low = entry-holds c.args.n c.args.order m (g.met.R.Ring.laws c.args.ring.now c.requires.ring).numbers (λ s. s.0 < length (monomials_below c.args.n (suc c.args.order))) c.args.sums.now.entries c.loop-i.i (c.unwrap.result.0.now, c.unwrap.result.1.now) h e c.requires.gathered.numbers in
    omega arith

pub loop-i-init : goal.loop-i-init
loop-i-init g c =
    let m = g.R.Ring.meaning c.args.ring.now in
    record {
      written = subst (AreWritten c.args.n c.args.order (get_or (keys_of c.args.sums.now.entries) 0 (length (monomials_below c.args.n (suc c.args.order)))) m) (sym c.new-terms.ensures.items) (record { each = tt; rising = tt });
      so_far = λ b. ap (λ z. coefficient (exps c.args.n) m.scalars.ops (poly_of c.args.n m.value z) b) c.new-terms.ensures.items;
    }

pub loop-i-preserved : goal.loop-i-preserved
loop-i-preserved g c =
    let m = g.R.Ring.meaning c.args.ring.now in
    let laws = (g.met.R.Ring.laws c.args.ring.now c.requires.ring).numbers in
    let sums = c.args.sums.now.entries in
    let last = length (monomials_below c.args.n (suc c.args.order)) in
    let number = c.unwrap.result.0.now in
    let e = read-entry c.args.sums.now.entries c.loop-i.i (c.unwrap.result.0.now, c.unwrap.result.1.now) (sym (ap (option_map deref_pair) c.unwrap.ensures) ∙ c.get_index.ensures.entry) in
    let h : c.loop-i.i < length c.args.sums.now.entries = (let l = c.len-i-end.ensures.len in let t = c.loop-i-test.true in omega arith) in
    let low = entry-holds c.args.n c.args.order m laws (λ s. s.0 < length (monomials_below c.args.n (suc c.args.order))) sums c.loop-i.i (number, c.unwrap.result.1.now) h e c.requires.gathered.numbers in
    let elem = entry-holds c.args.n c.args.order m laws (λ s. m.is_elem s.1) sums c.loop-i.i (number, c.unwrap.result.1.now) h e c.requires.gathered.elems in
    let le = numbers-le c.args.n c.args.order c.requires.order_at_most_17 in
    let within : c.unwrap.result.0.now < length (monomials_below c.args.n 18) = omega arith in
    let here = key-at c.args.n c.args.order m laws sums c.loop-i.i (number, c.unwrap.result.1.now) last h e in
    let next = key-next c.args.n c.args.order m laws sums c.loop-i.i (number, c.unwrap.result.1.now) last h e c.requires.sorted c.requires.gathered.distinct low in
    let degree = degree-number c.args.n c.args.order c.unrank.result.e c.unrank.ensures.unused (subst (λ r. r < last) (sym c.unrank.ensures.rank) low) in
    record {
      written = subst (AreWritten c.args.n c.args.order (get_or (keys_of sums) (c.loop-i.i + 1) last) m) (sym c.in_ok-push_term.ensures.pushed)
          (written-step c.args.n c.args.order m laws number (get_or (keys_of sums) (c.loop-i.i + 1) last) c.loop-i.terms.items (c.unrank.result, c.unwrap.result.1.now) c.requires.at_most_8_variables
          (subst (λ b. AreWritten c.args.n c.args.order b m c.loop-i.terms.items) here c.loop-i.invariant.written)
          c.unrank.ensures.rank c.unrank.ensures.unused c.unrank.ensures.long degree elem next);
      so_far = subst (λ z. SameIn c.args.n m.scalars.ops (poly_of c.args.n m.value z) (gathered c.args.n m.value (take (c.loop-i.i + 1) sums))) (sym c.in_ok-push_term.ensures.pushed)
          (so-far-step c.args.n c.args.order m laws sums c.loop-i.i (number, c.unwrap.result.1.now) c.loop-i.terms.items c.unrank.result h e (numbered-rank c.args.n number c.unrank.result within c.unrank.ensures.rank) c.loop-i.invariant.so_far);
    }

pub returns-clause-rising : goal.returns-clause-rising
returns-clause-rising g c = c.loop-i.invariant.written.rising

pub returns-clause-jet : goal.returns-clause-jet
returns-clause-jet g c = written-jet c.args.n c.args.order (g.R.Ring.meaning c.args.ring.now) _ (record { n = c.args.n; order = c.args.order; terms = c.loop-i.terms.items }) refl refl c.loop-i.invariant.written

pub returns-clause-sum : goal.returns-clause-sum
returns-clause-sum g c =
    let m = g.R.Ring.meaning c.args.ring.now in
    subst (λ z. SameIn c.args.n m.scalars.ops (poly_of c.args.n m.value c.loop-i.terms.items) (gathered c.args.n m.value z))
    (take_all c.loop-i.i c.args.sums.now.entries (let l = c.len-i-end.ensures.len in let t = c.loop-i-test.false in omega arith)) c.loop-i.invariant.so_far
