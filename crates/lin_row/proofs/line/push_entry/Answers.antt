use Rattle.std.proofs.Common.{◌≡◌, ◌≢◌, ◌∙◌, sym, ap, inl, inr, refl, [], ◌∷◌, append_assoc, subst}
use Rattle.lin_row.specs.Lines.{IsRising, dot}
use Rattle.ring_theory.proofs.RingSolver
use Rattle.lin_row.proofs.LineLaws
use Rattle.lin_row.proofs.line.push_entry.Goals as goal

pub returns-in_ok-push-clause-units : goal.returns-in_ok-push-clause-units
returns-in_ok-push-clause-units g c =
    let m = g.R.Ring.meaning c.args.ring.now in
    let unit : m.value c.args.x ≢ m.scalars.ops.zero = λ h. let so : c.eq.result ≡ _ = c.eq.ensures.1 (h ∙ sym c.zero.ensures.value) in cc (so, c.if-not-eq.true) in
    rw c.in_ok-push.ensures.items (LineLaws.units_append m (g.met.R.Ring.laws c.args.ring.now c.requires.ring).numbers.ring c.args.line.now.items _ c.requires.units ((c.requires.elem, unit), tt))

pub returns-in_ok-push-clause-value : goal.returns-in_ok-push-clause-value
returns-in_ok-push-clause-value g c w =
    let m = g.R.Ring.meaning c.args.ring.now in
    rw c.in_ok-push.ensures.items (LineLaws.dot-push m (g.met.R.Ring.laws c.args.ring.now c.requires.ring).numbers.ring c.args.line.now.items (c.args.column, c.args.x) w)

pub returns-else-not-eq-clause-value : goal.returns-else-not-eq-clause-value
returns-else-not-eq-clause-value g c w =
    let m = g.R.Ring.meaning c.args.ring.now in
    let laws = (g.met.R.Ring.laws c.args.ring.now c.requires.ring).numbers.ring in
    let none : m.value c.args.x ≡ m.scalars.ops.zero = c.eq.ensures.0 c.if-not-eq.false ∙ c.zero.ensures.value in
    sym (ap (λ z. m.scalars.ops.add (dot m c.args.line.now.items w) (m.scalars.ops.mul z (w c.args.column))) none ∙ ap (m.scalars.ops.add (dot m c.args.line.now.items w)) (RingSolver.zero_mul m.scalars.ops laws (w c.args.column)) ∙ laws.add_zero _)

pub returns-in_ok-push-clause-rising : goal.returns-in_ok-push-clause-rising
returns-in_ok-push-clause-rising g c rest p =
    rw c.in_ok-push.ensures.items (subst (λ ys. IsRising ys) (sym (append_assoc c.args.line.now.items ((c.args.column, c.args.x) ∷ []) rest)) p)

pub returns-else-not-eq-clause-rising : goal.returns-else-not-eq-clause-rising
returns-else-not-eq-clause-rising g c rest p = LineLaws.rising_drop c.args.line.now.items rest (c.args.column, c.args.x) p

pub returns-in_ok-push-clause-items : goal.returns-in_ok-push-clause-items
returns-in_ok-push-clause-items g c = inr c.in_ok-push.ensures.items

pub returns-else-not-eq-clause-items : goal.returns-else-not-eq-clause-items
returns-else-not-eq-clause-items g c = inl refl
