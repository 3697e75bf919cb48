use Rattle.std.proofs.Common.{◌≡◌, [], ◌∷◌, ◌++◌, All, length, map, sym, ap, subst, ◌∙◌}
use Rattle.ring_law.proofs.Exits.{faulted}
use Rattle.jet_law.specs.Heights.{IsHigh}
use Rattle.jet_law.specs.Terms.{poly_of}
use Rattle.normal_forms.specs.Units.{triple_discriminant, triple_heights}
use Rattle.move_law.specs.Finish.{triple_coefficients}
use Rattle.rules_corank2.proofs.FinishTails.{three_are}
use Rattle.rules_corank2.proofs.PlaneTerms.{each_3}
use Rattle.rules_corank2.proofs.finish_graded.discriminant.Goals as goal

pub triple_discriminant_of-requires-clause-elems : goal.triple_discriminant_of-requires-clause-elems
triple_discriminant_of-requires-clause-elems g c =
    let m = g.F.Ring.meaning c.args.field.now in
    let is : c.deref.result.now ≡ c.at-a.result ∷ c.at-b.result ∷ c.at-c.result ∷ [] =
    c.deref.ensures.value ∙ c.in_ok-push-3.ensures.items ∙ ap (λ z. z ++ c.at-c.result ∷ []) (c.in_ok-push-2.ensures.items ∙ ap (λ z. z ++ c.at-b.result ∷ []) (c.in_ok-push.ensures.items ∙ ap (λ z. z ++ c.at-a.result ∷ []) c.new-coefs.ensures.items)) in
    subst (All m.is_elem) (sym is) (each_3 m.is_elem c.at-a.result c.at-b.result c.at-c.result c.at-a.ensures.elem c.at-b.ensures.elem c.at-c.ensures.elem)

pub triple_discriminant_of-requires-clause-coefficients : goal.triple_discriminant_of-requires-clause-coefficients
triple_discriminant_of-requires-clause-coefficients g c =
    let is : c.deref.result.now ≡ c.at-a.result ∷ c.at-b.result ∷ c.at-c.result ∷ [] =
    c.deref.ensures.value ∙ c.in_ok-push-3.ensures.items ∙ ap (λ z. z ++ c.at-c.result ∷ []) (c.in_ok-push-2.ensures.items ∙ ap (λ z. z ++ c.at-b.result ∷ []) (c.in_ok-push.ensures.items ∙ ap (λ z. z ++ c.at-a.result ∷ []) c.new-coefs.ensures.items)) in
    ap length is

pub returns-in_err-value-clause-range : goal.returns-in_err-value-clause-range
returns-in_err-value-clause-range g c =
    let m = g.F.Ring.meaning c.args.field.now in
    let is : c.deref.result.now ≡ c.at-a.result ∷ c.at-b.result ∷ c.at-c.result ∷ [] =
    c.deref.ensures.value ∙ c.in_ok-push-3.ensures.items ∙ ap (λ z. z ++ c.at-c.result ∷ []) (c.in_ok-push-2.ensures.items ∙ ap (λ z. z ++ c.at-b.result ∷ []) (c.in_ok-push.ensures.items ∙ ap (λ z. z ++ c.at-a.result ∷ []) c.new-coefs.ensures.items)) in
    let values : map m.value c.deref.result.now ≡ triple_coefficients c.args.f.now.n m.scalars c.args.f.now.order (poly_of c.args.f.now.n m.value c.args.f.now.terms) =
    ap (map m.value) is ∙ three_are (m.value c.at-a.result) (m.value c.at-b.result) (m.value c.at-c.result) _ _ _ c.at-a.ensures.value c.at-b.ensures.value c.at-c.ensures.value in
    faulted _ c.from_residual-in_err-value.ensures.1 (λ high. subst (λ z. IsHigh (triple_heights m.scalars z)) values high) c.in_err-value.ensures.range

pub returns-clause-value : goal.returns-clause-value
returns-clause-value g c =
    let m = g.F.Ring.meaning c.args.field.now in
    let is : c.deref.result.now ≡ c.at-a.result ∷ c.at-b.result ∷ c.at-c.result ∷ [] =
    c.deref.ensures.value ∙ c.in_ok-push-3.ensures.items ∙ ap (λ z. z ++ c.at-c.result ∷ []) (c.in_ok-push-2.ensures.items ∙ ap (λ z. z ++ c.at-b.result ∷ []) (c.in_ok-push.ensures.items ∙ ap (λ z. z ++ c.at-a.result ∷ []) c.new-coefs.ensures.items)) in
    let values : map m.value c.deref.result.now ≡ triple_coefficients c.args.f.now.n m.scalars c.args.f.now.order (poly_of c.args.f.now.n m.value c.args.f.now.terms) =
    ap (map m.value) is ∙ three_are (m.value c.at-a.result) (m.value c.at-b.result) (m.value c.at-c.result) _ _ _ c.at-a.ensures.value c.at-b.ensures.value c.at-c.ensures.value in
    c.in_ok-value.ensures.value ∙ ap (triple_discriminant m.scalars) values
