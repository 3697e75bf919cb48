use Rattle.std.proofs.Common.{◌≡◌, ◌∙◌, ◌+◌, sym, ap, arith, [], ◌∷◌, ◌++◌}
use Rattle.lin_row.specs.Lines.{dot}
use Rattle.lin_row.proofs.LineLaws
use Rattle.lin_row.proofs.BuildLaws
use Rattle.lin_row.proofs.line.extended.Goals as goal

pub returns-clause-line : goal.returns-clause-line
returns-clause-line g c =
    let m = g.R.Ring.meaning c.args.ring.now in
    let laws = (g.met.R.Ring.laws c.args.ring.now c.requires.ring).numbers in
    let xs = c.args.row.now.entries in
    let items : c.push.new.self.items ≡ xs ++ ((4294967296 + c.args.number, c.one.result) ∷ []) = c.in_ok-push.ensures.items ∙ ap (λ ys. ys ++ ((4294967296 + c.args.number, c.one.result) ∷ [])) c.in_ok-line.ensures.items in
    rw items
    (record {
      rising = BuildLaws.rising_push xs 4294967296 (4294967296 + c.args.number, c.one.result) (omega arith) c.in_ok-line.ensures.below c.requires.line.rising;
      units = LineLaws.units_append m laws.ring xs _ c.requires.line.units ((c.one.ensures.elem, λ e. laws.nontrivial (sym c.one.ensures.value ∙ e)), tt);
    })

pub returns-clause-value : goal.returns-clause-value
returns-clause-value g c w =
    let m = g.R.Ring.meaning c.args.ring.now in
    let laws = (g.met.R.Ring.laws c.args.ring.now c.requires.ring).numbers in
    let xs = c.args.row.now.entries in
    let items : c.push.new.self.items ≡ xs ++ ((4294967296 + c.args.number, c.one.result) ∷ []) = c.in_ok-push.ensures.items ∙ ap (λ ys. ys ++ ((4294967296 + c.args.number, c.one.result) ∷ [])) c.in_ok-line.ensures.items in
    rw items
    (LineLaws.dot-push m laws.ring xs (4294967296 + c.args.number, c.one.result) w
    ∙ ap (m.scalars.ops.add (dot m xs w)) (ap (λ z. m.scalars.ops.mul z (w (4294967296 + c.args.number))) c.one.ensures.value ∙ laws.ring.mul_comm _ _ ∙ laws.ring.mul_one _))
