use Rattle.std.proofs.Common.{◌∷◌, [], ◌++◌, ◌-◌, cond, get_or, map, ap, ap₂, sym, subst, ◌∙◌, arith}
use Rattle.std.proofs.lemmas.Bool.{lt-ltb}
use Rattle.jet_law.specs.Terms.{poly_of}
use Rattle.coord_change.specs.Linear.{one_at}
use Rattle.coord_change.specs.Moves.{variable_of}
use Rattle.move_law.specs.Split.{completed}
use Rattle.coord_change.specs.MoveJets.{IsJetFor}
use Rattle.split_lemma.proofs.SplitParts.{variable_part}
use Rattle.split_lemma.proofs.splitting.put.Goals as goal

pub returns-then-w-corank-clause-part : goal.returns-then-w-corank-clause-part
returns-then-w-corank-clause-part g c =
    let m = g.F.Ring.meaning c.args.field.now in
    let n = c.args.f.now.n in
    let w = c.args.w in
    subst (λ b. IsJetFor m n 16 (cond b (variable_of n m.scalars w) (variable_of n m.scalars w ++ completed n m.scalars c.args.corank c.args.d (get_or (map m.value c.args.squares.now) (w - c.args.corank) m.scalars.ops.zero) w (poly_of n m.value c.args.f.now.terms))) c.from_rising.result)
    (sym (lt-ltb w c.args.corank c.if-w-corank.true))
    (variable_part m (g.met.F.Ring.laws c.args.field.now c.requires.ring) n 16 w c.requires.inside c.requires.at_most_8_variables (omega arith) c.from_rising.result c.monomial.result c.one.result
    (c.monomial.ensures ∙ ap one_at c.from.ensures) c.one.ensures.elem c.one.ensures.value
    (c.from_rising.ensures ∙ ap₂ (λ k ts. record { n = k; order = 16; terms = ts }) c.n.ensures
    (c.in_ok-push.ensures.items ∙ ap (λ z. z ++ (c.monomial.result, c.one.result) ∷ []) c.new-terms.ensures.items)))
