-- The rows stand for all monomials up to the order.
use Rattle.std.proofs.Common.{◌∙◌, map, ap, sym}
use Rattle.ring_law.specs.declared.fraction.Frac.{Frac}
use Rattle.ext_algebra.specs.declared.algebra.Ext.{Ext}
use Rattle.mono_exp.specs.declared.exponent.Exp.{Exp}
use Rattle.mono_exp.specs.Exponents.{exponents}
use Rattle.mono_exp.proofs.Lists.{map-map}
use Rattle.milnor_alg.specs.declared.quotient.TableRow.{TableRow}
use Rattle.check_milnor.proofs.monomials.has_all_monomials.Goals as goal

pub returns-clause-whole : goal.returns-clause-whole
returns-clause-whole c =
    let n = c.args.r.now.carried.corank in
    let list = ap (map (λ a. exponents n a.e)) c.deref-2.ensures.value ∙ c.in_ok-all.ensures.list in
    let rows = ap (map (λ (a : Exp). exponents n a.e)) (c.deref.ensures.value ∙ c.in_ok-of_rows.ensures ∙ ap (map (λ (row : TableRow (Ext Frac)). row.monomial)) c.as_slice.ensures)
    ∙ map-map (λ (a : Exp). exponents n a.e) (λ (row : TableRow (Ext Frac)). row.monomial) c.args.r.now.quotient.table in
    (λ t. sym rows ∙ c.have_same_exponents.ensures.0 t ∙ list, λ whole. c.have_same_exponents.ensures.1 (rows ∙ whole ∙ sym list))
