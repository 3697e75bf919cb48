use Rattle.std.proofs.Common.{◌≡◌, ◌<◌, ◌≤◌, ◌^◌, ◌/◌, inl, inr, ℕ, true, false, pos, ◌-ℤ◌, to_z, of_z, neg_ℤ, sym, ◌∙◌, ap, subst, arith}
use Rattle.std.proofs.lemmas.Int.{ints, to_z_pos}
use mir.Syntax.{w128}
use Rattle.ring_theory.proofs.GcdLaws.{gcd_pos}
use Rattle.ring_law.proofs.FractionLaws.{made, too_large}
use Rattle.small_frac.proofs.arithmetic.reduce.Goals as goal
use Rattle.small_frac.proofs.arithmetic.reduce.Goals.{then-num-gt-LIMIT-via-then-num-gt-LIMIT, then-num-gt-LIMIT-via-else-num-gt-LIMIT+then-den-gt-LIMIT}

pub nonzero_div-num : goal.nonzero_div-num
nonzero_div-num c = subst (λ g. 0 < g) (sym c.common_divisor-g.ensures) (gcd_pos c.args.n c.args.d c.requires)

pub nonzero_div-den : goal.nonzero_div-den
nonzero_div-den c = subst (λ g. 0 < g) (sym c.common_divisor-g.ensures) (gcd_pos c.args.n c.args.d c.requires)

pub returns-then-num-gt-LIMIT : goal.returns-then-num-gt-LIMIT
returns-then-num-gt-LIMIT c =
    too_large c.args.negative c.args.n c.args.d c.requires
    (elim c.then-num-gt-LIMIT.branch [
      | then-num-gt-LIMIT-via-then-num-gt-LIMIT w ↦ inl (rw c.common_divisor-g.ensures at (let h : 2 ^ 127 ≤ c.args.n / c.common_divisor-g.result = omega arith in h))
      | then-num-gt-LIMIT-via-else-num-gt-LIMIT+then-den-gt-LIMIT w ↦ inr (rw c.common_divisor-g.ensures at (let h : 2 ^ 127 ≤ c.args.d / c.common_divisor-g.result = omega arith in h))
    ])

opposite : (x : ℕ) → x < 2 ^ 127 → to_z w128 (of_z w128 (pos 0 -ℤ to_z w128 x)) ≡ neg_ℤ (pos x)
opposite x h = omega (arith, ints)

pub returns-then-negative : goal.returns-then-negative
returns-then-negative c =
    let e = c.common_divisor-g.ensures in
    let hn : c.args.n / c.common_divisor-g.result < 2 ^ 127 = omega arith in
    let hd : c.args.d / c.common_divisor-g.result < 2 ^ 127 = omega arith in
    rw c.if-negative.true
    (made true c.args.n c.args.d _ c.requires (subst (λ g. c.args.n / g < 2 ^ 127) e hn) (subst (λ g. c.args.d / g < 2 ^ 127) e hd)
    (opposite _ hn ∙ ap (λ g. neg_ℤ (pos (c.args.n / g))) e)
    (to_z_pos w128 _ hd ∙ ap (λ g. pos (c.args.d / g)) e))

pub returns-else-negative : goal.returns-else-negative
returns-else-negative c =
    let e = c.common_divisor-g.ensures in
    let hn : c.args.n / c.common_divisor-g.result < 2 ^ 127 = omega arith in
    let hd : c.args.d / c.common_divisor-g.result < 2 ^ 127 = omega arith in
    rw c.if-negative.false
    (made false c.args.n c.args.d _ c.requires (subst (λ g. c.args.n / g < 2 ^ 127) e hn) (subst (λ g. c.args.d / g < 2 ^ 127) e hd)
    (to_z_pos w128 _ hn ∙ ap (λ g. pos (c.args.n / g)) e)
    (to_z_pos w128 _ hd ∙ ap (λ g. pos (c.args.d / g)) e))
