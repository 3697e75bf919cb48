use Rattle.std.proofs.Common.{◌≡◌, ℕ, ◌+◌, ◌*◌, ◌<◌, List, map, length, sym, subst, arith}
use Rattle.ring_law.proofs.Exits.{fault_handed_on}
use Rattle.poly_law.specs.Sums.{unit_at}
use Rattle.mono_exp.specs.Exponents.{numbers_below}
use Rattle.jet_law.specs.Terms.{poly_of}
use Rattle.jet_poly.specs.JetTerms.{JetTerms}
use Rattle.coord_change.specs.Changes.{entry_of}
use Rattle.move_law.specs.Split.{split_put, split_move}
use Rattle.coord_change.specs.MoveJets.{IsMoveExactly}
use Rattle.split_lemma.proofs.SplitParts.{AreJetsFor, are_more, part_high, split_is}
use Rattle.split_lemma.proofs.splitting.split.Goals as goal

pub returns-in_err-part-clause-range : goal.returns-in_err-part-clause-range
returns-in_err-part-clause-range g c =
    let m = g.F.Ring.meaning c.args.field.now in
    fault_handed_on _ c.from_residual.ensures.1
    (part_high m.scalars c.args.f.now.n c.args.corank c.args.d (map m.value c.args.squares.now) (poly_of c.args.f.now.n m.value c.args.f.now.terms) c.loop-w.w (subst (λ k. c.loop-w.w < k) c.n-n.ensures c.loop-w-test.true))
    c.in_err-part.ensures.range

pub loop-w-preserved : goal.loop-w-preserved
loop-w-preserved g c =
    let m = g.F.Ring.meaning c.args.field.now in
    let n = c.args.f.now.n in
    let put = split_put n m.scalars c.args.corank c.args.d (map m.value c.args.squares.now) (poly_of n m.value c.args.f.now.terms) in
    subst (AreJetsFor m n 16 (map put (numbers_below (c.loop-w.w + 1)))) (sym c.in_ok-push.ensures.items)
    (are_more m n 16 put c.loop-w.w c.loop-w.parts.items c.in_ok-part.part c.loop-w.invariant c.in_ok-part.ensures.part)

pub returns-clause-change : goal.returns-clause-change
returns-clause-change g c =
    let m = g.F.Ring.meaning c.args.field.now in
    let n = c.args.f.now.n in
    let squares = map m.value c.args.squares.now in
    let f = poly_of n m.value c.args.f.now.terms in
    let move = split_move n m.scalars c.args.corank c.args.d squares f in
    let last = c.loop-w-test.false in
    let end = c.loop-w.auto.w-end in
    let same = c.n-n.ensures in
    subst (λ k. IsMoveExactly m n 16 move (record { n = k; order = 16; parts = c.from_vec.result; inverse = c.from_vec-2.result })) (sym same)
    (subst (λ (zs : List (JetTerms g.row.F-Elem.Denot)). IsMoveExactly m n 16 move (record { n = n; order = 16; parts = zs; inverse = c.from_vec-2.result })) (sym c.from_vec.ensures)
    (subst (λ (es : List g.row.F-Elem.Denot). IsMoveExactly m n 16 move (record { n = n; order = 16; parts = c.loop-w.parts.items; inverse = es })) (sym c.from_vec-2.ensures)
    (split_is m (g.met.F.Ring.laws c.args.field.now c.requires.ring) n c.args.corank c.args.d c.requires.variables c.requires.at_most_8_variables c.requires.degree_at_least_3 squares f c.loop-w.parts.items c.in_ok-inverse.inverse.items
    (subst (λ k. AreJetsFor m n 16 (map (split_put n m.scalars c.args.corank c.args.d squares f) (numbers_below k)) c.loop-w.parts.items) (let e : c.loop-w.w ≡ n = omega (arith, same) in e) c.loop-w.invariant)
    c.in_ok-inverse.ensures.elems
    (subst (λ k. length c.in_ok-inverse.inverse.items ≡ k * k) same c.in_ok-inverse.ensures.count)
    (subst (λ k. (i j : ℕ) → i < k → j < k → entry_of m k c.in_ok-inverse.inverse.items i j ≡ unit_at m.scalars.ops i j) same c.in_ok-inverse.ensures.entries))))
