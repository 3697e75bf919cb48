use Rattle.std.proofs.Common.{unsigned_abs, sym, ◌∙◌, ap, arith}
use Rattle.std.proofs.lemmas.Int.{ints, to_z_pos}
use mir.Syntax.{w128}
use Rattle.small_frac.proofs.Parts.{kept}
use Rattle.small_frac.proofs.Squares.{parts_of_square, nothing, no_root_of_num, no_root_of_den, root_made}
use Rattle.small_frac.proofs.square.is_square.Goals as goal

pub returns-then-q-lt0 : goal.returns-then-q-lt0
returns-then-q-lt0 c = λ x e. let h = (parts_of_square c.args.q x c.requires e).0 in omega (arith, ints)

pub returns-in_err-num : goal.returns-in_err-num
returns-in_err-num c =
    let kept_num = c.unsigned_abs.ensures.value ∙ ap unsigned_abs (kept c.args.q.num c.requires.num_fits) in
    nothing c.args.q _ c.from_residual.ensures (no_root_of_num c.args.q c.requires (λ k e. c.in_err-num.ensures.root k (e ∙ sym kept_num)))

pub returns-in_err-den : goal.returns-in_err-den
returns-in_err-den c =
    let kept_den = c.unsigned_abs-2.ensures.value ∙ ap unsigned_abs (kept c.args.q.den c.requires.den_fits) in
    nothing c.args.q _ c.from_residual-in_err-den.ensures (no_root_of_den c.args.q c.requires (λ k e. c.in_err-den.ensures.root k (e ∙ sym kept_den)))

pub returns : goal.returns
returns c =
    let kept_num = c.unsigned_abs.ensures.value ∙ ap unsigned_abs (kept c.args.q.num c.requires.num_fits) in
    let kept_den = c.unsigned_abs-2.ensures.value ∙ ap unsigned_abs (kept c.args.q.den c.requires.den_fits) in
    root_made c.args.q _ c.in_ok-num.num c.in_ok-den.den c.requires (omega (arith, ints)) c.in_ok-num.ensures.bound c.in_ok-den.ensures.bound
    (c.in_ok-num.ensures.root ∙ kept_num) (c.in_ok-den.ensures.root ∙ kept_den)
    (to_z_pos w128 c.in_ok-num.num (omega arith)) (to_z_pos w128 c.in_ok-den.den (omega arith))
