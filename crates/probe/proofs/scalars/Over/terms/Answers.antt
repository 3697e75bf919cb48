use Rattle.std.proofs.lemmas.List.Elements.{All-append}
use Rattle.ring_law.specs.declared.fraction.Frac.{Frac}
use Rattle.ext_algebra.specs.declared.algebra.Ext.{Ext}
use Rattle.mono_exp.specs.declared.exponent.Exp.{Exp}
use Rattle.mono_exp.specs.Exponents.{IsIn}
use Rattle.probe.proofs.TermParts.{elements_of, inside_of}
use Rattle.probe.proofs.scalars.Over.terms.Goals as goal

pub loop-i-preserved : goal.loop-i-preserved
loop-i-preserved g c =
    let h = c.in_ok-f.ensures in
    let is_elem = (g.F.Ring.meaning c.args.self.now.field).is_elem in
    rw (c.in_ok-extend_from_slice.ensures.items, c.terms.ensures.terms)
    (record {
      elems = All-append (λ (t : Exp × Ext Frac). is_elem t.1) _ _ c.loop-i.invariant.elems (elements_of c.args.n 17 c.args.self.now.algebra is_elem c.requires.over.elements c.in_ok-f.f.terms h.terms);
      variables = All-append (λ (t : Exp × Ext Frac). IsIn c.args.n t.0.e) _ _ c.loop-i.invariant.variables (inside_of c.args.n 17 c.args.self.now.algebra c.in_ok-f.f.terms h.terms);
    })
