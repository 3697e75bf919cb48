-- The lines of a limit report: the germ in new variables, and the functional.
use Rattle.std.proofs.Common.{◌≡◌, ℕ, List, [], ◌++◌, refl, sym, ap, ◌∙◌, subst, append_assoc, append-nil, arith}
use Rattle.mono_exp.specs.declared.exponent.Exp.{Exp}
use Rattle.cert_text.specs.declared.report.Carried.{Carried}
use Rattle.cert_text.specs.declared.report.Limit as limit_type
use Rattle.cert_text.specs.declared.word.Word.TheVariants as words
use Rattle.cert_text.specs.Text.{carried_text}
use Rattle.cert_text.specs.WellFormed.{IsWellFormedCarried, IsWellFormedLimit, is_functional_value}
use Rattle.cert_law.specs.Fields.{Term}
use Rattle.report_reader.specs.Blocks.{IsStop}
use Rattle.report_reader.specs.Functional.{IsFunctional, functional_lines}
use Rattle.report_reader.specs.Answers.{limit_rest}
use Rattle.report_reader.proofs.Stops.{IsPair, stop_before, pair_first, pair_second}
use Rattle.report_reader.proofs.RowLines.{field_pair}
use Rattle.report_reader.proofs.CarriedLines.{carried_whole, carried_told}
use Rattle.report_reader.proofs.EvidenceLines.{one_residual}
use Rattle.row_reader.proofs.ValueTexts.{all_list, list_each}
use Rattle.text_reader.specs.Terms.{one_monomial}

abbrev pub FunctionalOf : Carried → Exp × List Term → Type 0
FunctionalOf c f = IsFunctional c.algebra c.corank f

abbrev functional_rest : limit_type.Limit → List ℕ
functional_rest r = functional_lines (r.at, r.functional)

abbrev LimitOf : Carried → limit_type.Limit → Type 0
LimitOf c r = IsWellFormedLimit r × (r.carried ≡ c)

limit_made : (c : Carried) (f : Exp × List Term) → IsWellFormedCarried c → FunctionalOf c f → IsWellFormedLimit (record { carried = c; at = f.0; functional = f.1 })
limit_made c f w h = record {
  carried = w;
  at = h.at;
  few = h.few;
  rising = h.rising;
  functional = all_list (is_functional_value c.algebra c.corank) f.1 h.values;
}

functional_in : (r : limit_type.Limit) → IsWellFormedLimit r → FunctionalOf r.carried (r.at, r.functional)
functional_in r h = record {
  at = h.at;
  few = h.few;
  rising = h.rising;
  values = list_each (is_functional_value r.carried.algebra r.carried.corank) r.functional h.functional;
}

limit_pair : IsPair IsWellFormedCarried (carried_text words.Jet) (λ c r. IsWellFormedLimit r × (r.carried ≡ c)) functional_rest IsWellFormedLimit limit_rest
unfolding limit_rest
limit_pair = field_pair IsWellFormedCarried (carried_text words.Jet) IsWellFormedLimit limit_rest (λ r. r.carried) functional_rest
    (carried_whole words.Jet) (carried_told words.Jet)
    (λ c h. (record { carried = c; at = one_monomial; functional = [] }, limit_made c (one_monomial, []) h (record { at = one_residual c.corank; few = omega arith; rising = tt; values = tt }), refl))
    (λ r h. h.carried) (λ r h. refl)

pub stop_in_jet : (bytes : List ℕ) (left : ℕ) → IsStop IsWellFormedCarried (carried_text words.Jet) bytes left → IsStop IsWellFormedLimit limit_rest bytes left
stop_in_jet bytes left s = pair_first IsWellFormedCarried (carried_text words.Jet) LimitOf functional_rest IsWellFormedLimit limit_rest bytes left limit_pair s

pub stop_in_functional : (c : Carried) (bytes one : List ℕ) (left : ℕ) → IsWellFormedCarried c → carried_text words.Jet c ++ one ≡ bytes → IsStop (FunctionalOf c) functional_lines one left → IsStop IsWellFormedLimit limit_rest bytes left
stop_in_functional c bytes one left w e s =
    pair_second IsWellFormedCarried (carried_text words.Jet) LimitOf functional_rest IsWellFormedLimit limit_rest c bytes one left limit_pair w e
    (stop_before (FunctionalOf c) functional_lines (LimitOf c) functional_rest one left
    (λ f h. (record { carried = c; at = f.0; functional = f.1 }, (limit_made c f w h, refl), ([], sym (append-nil (functional_lines f)))))
    (λ r h. ((r.at, r.functional), subst (λ (z : Carried). FunctionalOf z (r.at, r.functional)) h.1 (functional_in r h.0), ([], sym (append-nil (functional_rest r))))) s)

pub limit_read : (c : Carried) (f : Exp × List Term) (bytes one end : List ℕ) → IsWellFormedCarried c → carried_text words.Jet c ++ one ≡ bytes → FunctionalOf c f → functional_lines f ++ end ≡ one
    → IsWellFormedLimit (record { carried = c; at = f.0; functional = f.1 }) × (limit_rest (record { carried = c; at = f.0; functional = f.1 }) ++ end ≡ bytes)
unfolding limit_rest
limit_read c f bytes one end w e h d = (limit_made c f w h, append_assoc (carried_text words.Jet c) (functional_lines f) end ∙ ap (λ (z : List ℕ). carried_text words.Jet c ++ z) d ∙ e)
