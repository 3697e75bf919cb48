use Rattle.std.proofs.Common.{◌≡◌, ◌≢◌, ◌-◌, ◌||◌, ◌&&◌, true, eqb, ne_eqb, eq-eqb, get_or, sum, ap, ap₂, sym, subst, ◌∙◌, arith}
use Rattle.std.specs.Prelude.{nat_lt, slice_set}
use Rattle.std.proofs.lemmas.Bool.{le-ltb, lt-ltb}
use Rattle.poly_law.specs.Exps.{all_to}
use Rattle.split_lemma.proofs.Belonging.{belongs_same, false_right, or_false, all_fails, positive}
use Rattle.split_lemma.proofs.completing.belonging_quotient.Goals as goal

pub returns-then-a-from-ne0 : goal.returns-then-a-from-ne0
returns-then-a-from-ne0 c n h here =
    belongs_same n c.args.corank c.args.d c.args.w c.args.a h here
    ∙ false_right (eqb (sum c.args.a.e) c.args.d) _
    (false_right (nat_lt 0 (get_or c.args.a.e c.args.w 0)) _
    (all_fails c.args.w (λ k. nat_lt k c.args.corank || eqb (get_or c.args.a.e k 0) 0) c.loop-i.i c.loop-i-test.true
    (or_false (nat_lt c.loop-i.i c.args.corank) (eqb (get_or c.args.a.e c.loop-i.i 0) 0) (le-ltb c.loop-i.i c.args.corank c.if-i-corank.true)
    (ne_eqb (get_or c.args.a.e c.loop-i.i 0) 0 (subst (λ k. get_or c.args.a.e k 0 ≢ 0) c.from.ensures c.if-a-from-ne0.true)))))

pub returns-then-degree-from : goal.returns-then-degree-from
returns-then-degree-from c n h here =
    belongs_same n c.args.corank c.args.d c.args.w c.args.a h here
    ∙ ap (λ b. b && (nat_lt 0 (get_or c.args.a.e c.args.w 0) && all_to c.args.w (λ k. nat_lt k c.args.corank || eqb (get_or c.args.a.e k 0) 0)))
    (ne_eqb (sum c.args.a.e) c.args.d (λ e. c.if-degree-from.true (c.degree.ensures.degree ∙ e ∙ sym c.from-2.ensures)))

pub returns-then-a-from-eq0 : goal.returns-then-a-from-eq0
returns-then-a-from-eq0 c n h here =
    belongs_same n c.args.corank c.args.d c.args.w c.args.a h here
    ∙ false_right (eqb (sum c.args.a.e) c.args.d) _
    (ap (λ x. nat_lt 0 x && all_to c.args.w (λ k. nat_lt k c.args.corank || eqb (get_or c.args.a.e k 0) 0))
    (ap (λ k. get_or c.args.a.e k 0) (sym c.from-3.ensures) ∙ c.if-a-from-eq0.true))

pub returns : goal.returns
returns c n h here =
    let last = c.loop-i-test.false in
    let end = c.loop-i.auto.i-end in
    let here_degree = sym c.degree.ensures.degree ∙ c.if-degree-from.false ∙ c.from-2.ensures in
    let there = positive (get_or c.args.a.e c.args.w 0) (subst (λ k. get_or c.args.a.e k 0 ≢ 0) c.from-3.ensures c.if-a-from-eq0.false) in (
      belongs_same n c.args.corank c.args.d c.args.w c.args.a h here
          ∙ ap₂ (λ x y. x && y) (eq-eqb (sum c.args.a.e) c.args.d here_degree)
          (ap₂ (λ x y. x && y) (lt-ltb 0 (get_or c.args.a.e c.args.w 0) there)
          (subst (λ i. all_to i (λ k. nat_lt k c.args.corank || eqb (get_or c.args.a.e k 0) 0) ≡ true) (let e : c.loop-i.i ≡ c.args.w = omega arith in e) c.loop-i.invariant)),
      ap (λ k. slice_set c.args.a.e k (get_or c.args.a.e k 0 - 1)) c.from-4.ensures,
    )
