-- A term inserted before the first one whose monomial stands after its own.
use Rattle.std.proofs.Common.{◌≡◌, ◌≢◌, ℕ, zero, suc, ◌+◌, inl, inr, Bool, true, false, cond, List, [], ◌∷◌, ◌++◌, length, take, drop, refl, sym, subst, ◌∙◌, true≢false, one-add}
use Rattle.std.specs.Prelude.{insert, not}
use Rattle.std.specs.List.{position_or_len, AllByRecursion}
use Rattle.mono_exp.specs.declared.exponent.Exp.{Exp}
use Rattle.mono_exp.specs.Exponents.{is_before}
use Rattle.mono_exp.proofs.Counting.{before_or_after}
use Rattle.jet_poly.specs.JetTerms.{IsRising, AllAfter}
use Rattle.jet_poly.proofs.Coefficients.{after-trans}

module _ {E : Type 0} where
  abbrev Long : Exp × E → Type 0
  Long t = length t.0.e ≡ 8

  after-insert : (m : Exp) (t : Exp × E) (xs : List (Exp × E)) (i : ℕ) → AllAfter m xs → is_before m.e t.0.e ≡ true → AllAfter m (take i xs ++ t ∷ drop i xs)
  after-insert m t [] zero after h = (h, tt)
  after-insert m t [] (suc i) after h = (h, tt)
  after-insert m t (x ∷ xs) zero after h = (h, after)
  after-insert m t (x ∷ xs) (suc i) after h = (after.0, after-insert m t xs i after.1 h)

  module _ (m : Exp) (c : E) (long : length m.e ≡ 8) where
    abbrev place_in : List (Exp × E) → ℕ
    place_in xs = position_or_len (λ t. is_before m.e t.0.e) xs

    rising-put : (xs : List (Exp × E)) → IsRising xs → AllByRecursion Long xs → AllByRecursion (λ t. t.0.e ≢ m.e) xs → IsRising (take (place_in xs) xs ++ (m, c) ∷ drop (place_in xs) xs)
    rising-put [] r l a = (tt, tt)
    rising-put (x ∷ xs) r l a = step (is_before m.e x.0.e) refl (rising-put xs r.1 l.1 a.1)
      where
        earlier : is_before m.e x.0.e ≡ false → is_before x.0.e m.e ≡ true
        earlier e = elim (before_or_after x.0.e m.e (l.0 ∙ sym long)) [
          | inl same ↦ absurd (a.0 same)
          | inr other ↦ elim other [ inl h ↦ h | inr h ↦ absurd (true≢false (sym h ∙ e)) ]
        ]

        step : (b : Bool) → is_before m.e x.0.e ≡ b → IsRising (take (place_in xs) xs ++ (m, c) ∷ drop (place_in xs) xs)
            → IsRising (take (cond (not b) (1 + place_in xs) 0) (x ∷ xs) ++ (m, c) ∷ drop (cond (not b) (1 + place_in xs) 0) (x ∷ xs))
        step true e rest = ((e, after-trans m x.0 xs e r.0), r)
        step false e rest = rw one-add (after-insert x.0 (m, c) xs (place_in xs) r.0 (earlier e), rest)

    pub rising-insert : (xs : List (Exp × E)) (i : ℕ) → i ≡ place_in xs → IsRising xs → AllByRecursion Long xs → AllByRecursion (λ t. t.0.e ≢ m.e) xs → IsRising (insert xs i (m, c))
    rising-insert xs i at r l a = subst (λ i. IsRising (insert xs i (m, c))) (sym at) (rising-put xs r l a)
