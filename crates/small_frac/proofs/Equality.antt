-- Fractions of one value are compared by their parts.
use Rattle.std.proofs.Common.{◌≡◌, Bool, true, false, ◌&&◌, IsTrue, ◌↔◌, refl, sym, ap, ◌∙◌, int_eq}
use Rattle.std.proofs.lemmas.Bool.Decides.{Decides-int_eq}
use Rattle.ring_law.specs.Fraction.{IsFrac, frac_value}
use Rattle.ring_law.specs.declared.fraction.Frac.{Frac}
use Rattle.ring_law.proofs.FractionLaws.{value_injective}

both_parts : (b c : Bool) → IsTrue (b && c) → IsTrue b × IsTrue c
both_parts true true h = (refl, refl)
both_parts true false h = cc
both_parts false c h = cc

both : (b c : Bool) → IsTrue b → IsTrue c → IsTrue (b && c)
both true c hb hc = hc
both false c hb hc = cc

same_frac : (p q : Frac) → p.num ≡ q.num → p.den ≡ q.den → p ≡ q
same_frac p q hn hd = λ i. record { num = hn i; den = hd i }

pub compared : (p q : Frac) (r : Bool) → IsFrac p → IsFrac q → r ≡ (int_eq p.num q.num && int_eq p.den q.den) → IsTrue r ↔ (frac_value p ≡ frac_value q)
compared p q r hp hq e = (
  λ h. let parts = both_parts _ _ (sym e ∙ h) in ap frac_value (same_frac p q ((Decides-int_eq p.num q.num).0 parts.0) ((Decides-int_eq p.den q.den).0 parts.1)),
  λ h.
      let same = value_injective p q hp hq h in
      e ∙ both _ _ ((Decides-int_eq p.num q.num).1 (ap (λ f. f.num) same)) ((Decides-int_eq p.den q.den).1 (ap (λ f. f.den) same)),
)
