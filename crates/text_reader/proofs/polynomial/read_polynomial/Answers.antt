use Rattle.std.proofs.Common.{List, sym, ap, ◌∙◌, arith}
use Rattle.ring_law.specs.declared.fraction.Frac.{Frac}
use Rattle.ext_algebra.specs.declared.algebra.Ext.{Ext}
use Rattle.mono_exp.specs.declared.exponent.Exp.{Exp}
use Rattle.jet_poly.specs.JetTerms.{JetTerms}
use Rattle.text_reader.specs.Pieces.{joined}
use Rattle.text_reader.proofs.ElementTexts.{element_found, element_front}
use Rattle.text_reader.proofs.PolynomialTexts.{zero_read, constant_refused, rest_refused, whole_read, read_as, refused_as}
use Rattle.text_reader.proofs.polynomial.read_polynomial.Goals as goal

pub returns-then-is_text-clause-some : goal.returns-then-is_text-clause-some
returns-then-is_text-clause-some c =
    zero_read c.args.n c.args.order c.args.a c.args.bytes.now c.from_rising.result (c.is_text.ensures.0 c.if-is_text.true)
    (c.from_rising.ensures ∙ ap (λ (ts : List (Exp × Ext Frac)). let f : JetTerms (Ext Frac) = record { n = c.args.n; order = c.args.order; terms = ts } in f) c.new.ensures.items)

pub returns-in-None-clause-none : goal.returns-in-None-clause-none
returns-in-None-clause-none c _ f is text =
    constant_refused c.args.n c.args.order c.args.a f c.args.bytes.now (joined c.signed.result) (joined c.take_element.result.1) c.take_element.result.0 (omega arith)
    (λ e. let h = c.is_text.ensures.1 e in absurd (cc (h, c.if-is_text.false))) c.signed.ensures (record { found = λ e behind ok follows h. element_found c.take_element.result.0 e (joined c.signed.result) (joined c.take_element.result.1) behind c.take_element.ensures ok follows h }) (c.in_ok-constant_term.ensures.none c.in-None.is) is text

pub returns-in-Some-clause-some : goal.returns-in-Some-clause-some
returns-in-Some-clause-some c =
    let made = rw c.in-Some.is at c.in_ok-constant_term.ensures.some in
    let found = c.take_element.ensures in
    read_as _ _
    (λ f h. (h.0, whole_read c.take_element.result.0 c.in-Some.terms.items (joined c.take_element.result.1) c.args.bytes.now f found.valid made.0 (sym c.signed.ensures ∙ element_front c.take_element.result.0 _ _ found) h.1))
    c.read_higher.result c.read_higher.ensures.some

pub returns-in-Some-clause-none : goal.returns-in-Some-clause-none
returns-in-Some-clause-none c =
    let made = rw c.in-Some.is at c.in_ok-constant_term.ensures.some in
    refused_as _ _
    (λ bad f is text.
    rest_refused c.args.n c.args.order c.args.a f c.args.bytes.now (joined c.signed.result) (joined c.take_element.result.1) c.take_element.result.0 c.in-Some.terms.items (omega arith)
    (λ e. let h = c.is_text.ensures.1 e in absurd (cc (h, c.if-is_text.false))) c.signed.ensures (record { found = λ e behind ok follows h. element_found c.take_element.result.0 e (joined c.signed.result) (joined c.take_element.result.1) behind c.take_element.ensures ok follows h }) made.0 bad is text)
    c.read_higher.result c.read_higher.ensures.none
