use Rattle.std.proofs.Common.{◌≡◌, true, false, not, cond, List, [], ◌∷◌, ◌++◌, take, drop, sym, ap, ◌∙◌, take-append-drop, true≢false}
use Rattle.std.specs.List.{position_or_len}
use Rattle.ring_law.proofs.Exits.{faulted}
use Rattle.mono_exp.specs.declared.exponent.Exp.{Exp}
use Rattle.mono_exp.specs.Exponents.{is_before}
use Rattle.kill_table.specs.Terms.{is_met_by}
use Rattle.kill_table.proofs.Putting.{not-true, met-inside, adding-high, added-onto, added-before}
use Rattle.kill_table.proofs.sum.add_term.Goals as goal

pub add_at-requires-clause-inside : goal.add_at-requires-clause-inside
add_at-requires-clause-inside g c =
    met-inside c.args.a c.args.terms.now.items c.place_of-place.result (ap (λ z. is_met_by c.args.a (drop c.place_of-place.result z)) (sym c.deref-2.ensures.value) ∙ sym c.is_met.ensures ∙ c.if-is_met.true)

pub returns-in_err-add_at-clause-range : goal.returns-in_err-add_at-clause-range
returns-in_err-add_at-clause-range g c =
    let m = g.R.Ring.meaning c.args.ring.now in
    let laws = (g.met.R.Ring.laws c.args.ring.now c.requires.ring).numbers in
    let h = c.args.terms.now.items in
    let k = c.place_of-place.result in
    let at = c.place_of-place.ensures.place ∙ ap (λ (z : List (Exp × g.row.R-Elem.Denot)). position_or_len (λ u. not (is_before u.0.e c.args.a.e)) z) c.deref.ensures.value in
    let met = ap (λ z. is_met_by c.args.a (drop k z)) (sym c.deref-2.ensures.value) ∙ sym c.is_met.ensures ∙ c.if-is_met.true in
    faulted _ c.from_residual.ensures.1 (λ high n a. adding-high m laws n (c.args.a, c.args.c) h k a (met-inside c.args.a h k met) at met high) c.in_err-add_at.ensures.range

pub returns-then-is_met-clause-added : goal.returns-then-is_met-clause-added
returns-then-is_met-clause-added g c =
    let m = g.R.Ring.meaning c.args.ring.now in
    let laws = (g.met.R.Ring.laws c.args.ring.now c.requires.ring).numbers in
    let h = c.args.terms.now.items in
    let k = c.place_of-place.result in
    let at = c.place_of-place.ensures.place ∙ ap (λ (z : List (Exp × g.row.R-Elem.Denot)). position_or_len (λ u. not (is_before u.0.e c.args.a.e)) z) c.deref.ensures.value in
    let met = ap (λ z. is_met_by c.args.a (drop k z)) (sym c.deref-2.ensures.value) ∙ sym c.is_met.ensures ∙ c.if-is_met.true in
    added-onto m laws (c.args.a, c.args.c) h c.add_at.new.terms.items k (met-inside c.args.a h k met) at met c.in_ok-add_at.ensures.sum

pub returns-in_ok-insert-clause-added : goal.returns-in_ok-insert-clause-added
returns-in_ok-insert-clause-added g c =
    let m = g.R.Ring.meaning c.args.ring.now in
    let laws = (g.met.R.Ring.laws c.args.ring.now c.requires.ring).numbers in
    let h = c.args.terms.now.items in
    let k = c.place_of-place.result in
    let at = c.place_of-place.ensures.place ∙ ap (λ (z : List (Exp × g.row.R-Elem.Denot)). position_or_len (λ u. not (is_before u.0.e c.args.a.e)) z) c.deref.ensures.value in
    let met = ap (λ z. is_met_by c.args.a (drop k z)) (sym c.deref-2.ensures.value) ∙ sym c.is_met.ensures ∙ c.if-is_met.false in
    let zero : m.scalars.is_zero (m.value c.args.c) ≡ false = not-true (m.scalars.is_zero (m.value c.args.c))
    (λ e. true≢false (sym (c.eq.ensures.1 ((laws.zero_test (m.value c.args.c)).0 e ∙ sym c.zero.ensures.value)) ∙ c.if-not-eq.true)) in
    added-before m laws (c.args.a, c.args.c) h c.insert.new.self.items k at met
    (c.in_ok-insert.ensures.items ∙ sym (ap (λ b. take k h ++ (cond b [] ((c.args.a, c.args.c) ∷ []) ++ drop k h)) zero))

pub returns-else-not-eq-clause-added : goal.returns-else-not-eq-clause-added
returns-else-not-eq-clause-added g c =
    let m = g.R.Ring.meaning c.args.ring.now in
    let laws = (g.met.R.Ring.laws c.args.ring.now c.requires.ring).numbers in
    let h = c.args.terms.now.items in
    let k = c.place_of-place.result in
    let at = c.place_of-place.ensures.place ∙ ap (λ (z : List (Exp × g.row.R-Elem.Denot)). position_or_len (λ u. not (is_before u.0.e c.args.a.e)) z) c.deref.ensures.value in
    let met = ap (λ z. is_met_by c.args.a (drop k z)) (sym c.deref-2.ensures.value) ∙ sym c.is_met.ensures ∙ c.if-is_met.false in
    let zero : m.scalars.is_zero (m.value c.args.c) ≡ true = (laws.zero_test (m.value c.args.c)).1 (c.eq.ensures.0 c.if-not-eq.false ∙ c.zero.ensures.value) in
    added-before m laws (c.args.a, c.args.c) h h k at met
    (sym (take-append-drop k h) ∙ sym (ap (λ b. take k h ++ (cond b [] ((c.args.a, c.args.c) ∷ []) ++ drop k h)) zero))
