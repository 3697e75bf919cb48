use Rattle.std.proofs.Common.{List, inl, inr, true≢false, refl, sym, subst, ◌∙◌}
use Rattle.ring_law.proofs.Exits.{fault_handed_on}
use Rattle.poly_law.specs.Sums.{sum_to}
use Rattle.coord_change.specs.Changes.{entry_of}
use Rattle.coord_change.specs.Linear.{linear_part_of}
use Rattle.check_change.proofs.Inverses.{AreSame, matrix_high_of, inverse_of, left_of, right_of, test_of}
use Rattle.check_change.proofs.inverse.is_inverse_matrix.Goals as goal

pub returns-in_err-left-clause-range : goal.returns-in_err-left-clause-range
returns-in_err-left-clause-range g c =
    let m = g.R.Ring.meaning c.args.ring.now in
    let r = m.scalars.ops in
    let n = c.args.n in
    let w = linear_part_of m n c.args.parts.now in
    let a = entry_of m n c.args.matrix.now in
    let same : AreSame n (entry_of m n c.deref.result.now) w = subst (λ (es : List g.row.R-Elem.Denot). AreSame n (entry_of m n es) w) (sym c.deref.ensures.value) c.in_ok-linear.ensures.entries in
    fault_handed_on _ c.from_residual-in_err-left.ensures.1 (λ high. record { high = inl (matrix_high_of m.scalars n a a (entry_of m n c.deref.result.now) w (λ i j h k. refl) same high) }) c.in_err-left.ensures.range

pub returns-in_err-right-clause-range : goal.returns-in_err-right-clause-range
returns-in_err-right-clause-range g c =
    let m = g.R.Ring.meaning c.args.ring.now in
    let r = m.scalars.ops in
    let n = c.args.n in
    let w = linear_part_of m n c.args.parts.now in
    let a = entry_of m n c.args.matrix.now in
    let same : AreSame n (entry_of m n c.deref-2.result.now) w = subst (λ (es : List g.row.R-Elem.Denot). AreSame n (entry_of m n es) w) (sym c.deref-2.ensures.value) c.in_ok-linear.ensures.entries in
    fault_handed_on _ c.from_residual-in_err-right.ensures.1 (λ high. record { high = inr (matrix_high_of m.scalars n (entry_of m n c.deref-2.result.now) w a a same (λ i j h k. refl) high) }) c.in_err-right.ensures.range

pub returns-then-not-have_same_entries-clause-inverse : goal.returns-then-not-have_same_entries-clause-inverse
returns-then-not-have_same_entries-clause-inverse g c =
    let m = g.R.Ring.meaning c.args.ring.now in
    let r = m.scalars.ops in
    let n = c.args.n in
    let w = linear_part_of m n c.args.parts.now in
    let a = entry_of m n c.args.matrix.now in
    let linear = c.in_ok-linear.linear.items in
    let left = c.in_ok-left.left.items in
    let right = c.in_ok-right.right.items in
    let unit = c.in_ok-unit.unit.items in
    let el : AreSame n (entry_of m n left) (λ i j. sum_to r n (λ t. r.mul (a i t) (entry_of m n linear t j))) =
    subst (λ (es : List g.row.R-Elem.Denot). AreSame n (entry_of m n left) (λ i j. sum_to r n (λ t. r.mul (a i t) (entry_of m n es t j)))) c.deref.ensures.value c.in_ok-left.ensures.entries in
    let er : AreSame n (entry_of m n right) (λ i j. sum_to r n (λ t. r.mul (entry_of m n linear i t) (a t j))) =
    subst (λ (es : List g.row.R-Elem.Denot). AreSame n (entry_of m n right) (λ i j. sum_to r n (λ t. r.mul (entry_of m n es i t) (a t j)))) c.deref-2.ensures.value c.in_ok-right.ensures.entries in
    let first = test_of m n c.have_same_entries.result c.deref-3.result.now c.deref-4.result.now left unit c.deref-3.ensures.value c.deref-4.ensures.value c.have_same_entries.ensures in (
      λ e. absurd (true≢false (sym e)),
      λ q. absurd (true≢false (sym (first.1 (left_of r n w (entry_of m n linear) a (entry_of m n left) (entry_of m n right) (entry_of m n unit) c.in_ok-linear.ensures.entries c.in_ok-unit.ensures.entries el er q)) ∙ c.if-not-have_same_entries.true)),
    )

pub returns-clause-inverse : goal.returns-clause-inverse
returns-clause-inverse g c =
    let m = g.R.Ring.meaning c.args.ring.now in
    let r = m.scalars.ops in
    let n = c.args.n in
    let w = linear_part_of m n c.args.parts.now in
    let a = entry_of m n c.args.matrix.now in
    let linear = c.in_ok-linear.linear.items in
    let left = c.in_ok-left.left.items in
    let right = c.in_ok-right.right.items in
    let unit = c.in_ok-unit.unit.items in
    let el : AreSame n (entry_of m n left) (λ i j. sum_to r n (λ t. r.mul (a i t) (entry_of m n linear t j))) =
    subst (λ (es : List g.row.R-Elem.Denot). AreSame n (entry_of m n left) (λ i j. sum_to r n (λ t. r.mul (a i t) (entry_of m n es t j)))) c.deref.ensures.value c.in_ok-left.ensures.entries in
    let er : AreSame n (entry_of m n right) (λ i j. sum_to r n (λ t. r.mul (entry_of m n linear i t) (a t j))) =
    subst (λ (es : List g.row.R-Elem.Denot). AreSame n (entry_of m n right) (λ i j. sum_to r n (λ t. r.mul (entry_of m n es i t) (a t j)))) c.deref-2.ensures.value c.in_ok-right.ensures.entries in
    let first = test_of m n c.have_same_entries.result c.deref-3.result.now c.deref-4.result.now left unit c.deref-3.ensures.value c.deref-4.ensures.value c.have_same_entries.ensures in
    let second = test_of m n c.have_same_entries-2.result c.deref-5.result.now c.deref-6.result.now right unit c.deref-5.ensures.value c.deref-6.ensures.value c.have_same_entries-2.ensures in (
      λ e. inverse_of r n w (entry_of m n linear) a (entry_of m n left) (entry_of m n right) (entry_of m n unit) c.in_ok-linear.ensures.entries c.in_ok-unit.ensures.entries el er (first.0 c.if-not-have_same_entries.false) (second.0 e),
      λ q. second.1 (right_of r n w (entry_of m n linear) a (entry_of m n left) (entry_of m n right) (entry_of m n unit) c.in_ok-linear.ensures.entries c.in_ok-unit.ensures.entries el er q),
    )
