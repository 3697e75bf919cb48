-- Moduli by their texts.
use Rattle.std.proofs.Common.{◌≡◌, ℕ, true, ◌&&◌, inl, List, [], ◌∷◌, ◌++◌, refl, sym, ap, ◌∙◌, append-nil, arith, IsTrue}
use Rattle.std.specs.Prelude.{codes}
use Rattle.std.specs.List.{AllByRecursion, flat_map, zip}
use Rattle.std.specs.Cmp.Derive.{both_true}
use Rattle.ring_law.specs.declared.fraction.Frac.{Frac}
use Rattle.ext_algebra.specs.declared.algebra.Algebra.{Algebra}
use Rattle.ext_algebra.specs.declared.algebra.Algebra.TheVariants as algebras
use Rattle.ext_algebra.specs.Fractions.{is_frac}
use Rattle.ext_algebra.specs.Algebra.{is_algebra}
use Rattle.poly_text.specs.Numbers.{component_text}
use Rattle.cert_text.specs.Text.{algebra_text, cubic_text}
use Rattle.cert_law.specs.Fields.{IsBody}
use Rattle.cert_law.proofs.Valid.{both}
use Rattle.text_reader.specs.Pieces.{AreTaken, AreValid, IsTaken}
use Rattle.text_reader.specs.Moduli.{AreThree, IsQuadratic}
use Rattle.text_reader.specs.Reading.{IsTextOf}
use Rattle.text_reader.proofs.ComponentTexts.{taken_more, taken_none}

abbrev pub quadratic_letters : List (List ℕ)
quadratic_letters = codes "*t" ∷ [] ∷ []

abbrev pub cubic_letters : List (List ℕ)
cubic_letters = codes "*t^2" ∷ codes "*t" ∷ [] ∷ []

-- the letters are bodies, and they differ
pub quadratic_bodies : AllByRecursion IsBody quadratic_letters × AllByRecursion (λ other. other ≡ codes "*t" → ⊥) ([] ∷ [])
quadratic_bodies = (((refl, omega arith, tt), (tt, tt)), (λ e. absurd cc, tt))

pub cubic_bodies : AllByRecursion IsBody cubic_letters × AllByRecursion (λ other. other ≡ codes "*t^2" → ⊥) quadratic_letters
cubic_bodies = (((refl, omega arith, (inl (omega arith), (inl (omega arith), tt))), ((refl, omega arith, tt), (tt, tt))), (λ e. absurd cc, (λ e. absurd cc, tt)))

-- the coefficients of a quadratic modulus one after the other
pub quadratic_taken : (m1 m0 : Frac) (s1 s0 rest : List ℕ) → IsTaken (codes "*t") m1 s1 s0 → IsTaken [] m0 s0 rest → AreTaken quadratic_letters (m1 ∷ m0 ∷ []) s1 rest
quadratic_taken m1 m0 s1 s0 rest t1 t0 = taken_more _ _ _ _ _ _ _ quadratic_bodies.0 quadratic_bodies.1 t1 (taken_more _ _ _ _ _ _ _ quadratic_bodies.0.1 tt t0 (taken_none rest))

-- and those of a cubic one
pub cubic_taken : (m2 m1 m0 : Frac) (s2 s1 s0 rest : List ℕ) → IsTaken (codes "*t^2") m2 s2 s1 → IsTaken (codes "*t") m1 s1 s0 → IsTaken [] m0 s0 rest → AreTaken cubic_letters (m2 ∷ m1 ∷ m0 ∷ []) s2 rest
cubic_taken m2 m1 m0 s2 s1 s0 rest t2 t1 t0 = taken_more _ _ _ _ _ _ _ cubic_bodies.0 cubic_bodies.1 t2 (quadratic_taken m1 m0 s1 s0 rest t1 t0)

-- ---- quadratic moduli

pub record IsQuadraticText (bytes : List ℕ) (m1 m0 : Frac) : Type 0 where
  pub valid : AreValid (m1 ∷ m0 ∷ [])
  pub text : bytes ≡ codes "t^2" ++ flat_map component_text (zip (m1 ∷ m0 ∷ []) quadratic_letters)

pub quadratic_parts : (a : Algebra) (bytes : List ℕ) → IsQuadratic a → algebra_text a ≡ bytes → (m1 : Frac) × (m0 : Frac) × IsQuadraticText bytes m1 m0
unfolding algebra_text
quadratic_parts algebras.Rational bytes h e = absurd h
quadratic_parts (algebras.Quadratic m1 m0) bytes h e = (m1, m0, record { valid = (h.0, (h.1, tt)); text = sym e })
quadratic_parts (algebras.Cubic m2 m1 m0) bytes h e = absurd h
quadratic_parts (algebras.Tower m2 m1 m0 d) bytes h e = absurd h

-- all of the sum behind t^2 was read
pub quadratic_read : (m1 m0 : Frac) (bytes behind sum rest : List ℕ) → bytes ≡ codes "t^2" ++ behind → sum ≡ behind → AreTaken quadratic_letters (m1 ∷ m0 ∷ []) sum rest → rest ≡ [] → IsTextOf IsQuadratic algebra_text bytes (algebras.Quadratic m1 m0)
unfolding algebra_text
quadratic_read m1 m0 bytes behind sum rest split is taken none =
    let whole : sum ≡ flat_map component_text (zip (m1 ∷ m0 ∷ []) quadratic_letters) = taken.front ∙ ap (λ z. flat_map component_text (zip (m1 ∷ m0 ∷ []) quadratic_letters) ++ z) none ∙ append-nil (flat_map component_text (zip (m1 ∷ m0 ∷ []) quadratic_letters)) in
    ((taken.valid.0, taken.valid.1.0), ap (λ z. codes "t^2" ++ z) (sym whole ∙ is) ∙ sym split)

-- ---- cubic moduli

pub three_valid : (m : Frac × Frac × Frac) → AreThree m → AreValid (m.0 ∷ m.1 ∷ m.2 ∷ [])
three_valid m h = (h.0, (h.1, (h.2, tt)))

pub cubic_read : (m2 m1 m0 : Frac) (bytes behind sum rest : List ℕ) → bytes ≡ codes "t^3" ++ behind → sum ≡ behind → AreTaken cubic_letters (m2 ∷ m1 ∷ m0 ∷ []) sum rest → rest ≡ [] → IsTextOf AreThree (λ m. cubic_text m.0 m.1 m.2) bytes (m2, m1, m0)
cubic_read m2 m1 m0 bytes behind sum rest split is taken none =
    let text : List ℕ = flat_map component_text (zip (m2 ∷ m1 ∷ m0 ∷ []) cubic_letters) in
    let whole : sum ≡ text = taken.front ∙ ap (λ z. text ++ z) none ∙ append-nil text in
    ((taken.valid.0, taken.valid.1.0, taken.valid.1.1.0), ap (λ z. codes "t^3" ++ z) (sym whole ∙ is) ∙ sym split)

pub cubic_three : (m2 m1 m0 : Frac) → IsTrue (is_algebra (algebras.Cubic m2 m1 m0)) → AreThree (m2, m1, m0)
unfolding is_algebra
cubic_three m2 m1 m0 h =
    let p = both (is_frac m2) (is_frac m1 && is_frac m0) h in
    let q = both (is_frac m1) (is_frac m0) p.1 in
    (p.0, q.0, q.1)

pub three_cubic : (m2 m1 m0 : Frac) → AreThree (m2, m1, m0) → IsTrue (is_algebra (algebras.Cubic m2 m1 m0))
unfolding is_algebra
three_cubic m2 m1 m0 h = both_true h.0 (both_true h.1 h.2)

-- ---- towers

pub tower_three : (m2 m1 m0 d : Frac) → IsTrue (is_algebra (algebras.Tower m2 m1 m0 d)) → AreThree (m2, m1, m0) × IsTrue (is_frac d)
unfolding is_algebra
tower_three m2 m1 m0 d h =
    let p = both (is_frac m2) (is_frac m1 && (is_frac m0 && is_frac d)) h in
    let q = both (is_frac m1) (is_frac m0 && is_frac d) p.1 in
    let r = both (is_frac m0) (is_frac d) q.1 in
    ((p.0, q.0, r.0), r.1)

pub three_tower : (m2 m1 m0 d : Frac) → AreThree (m2, m1, m0) → IsTrue (is_frac d) → IsTrue (is_algebra (algebras.Tower m2 m1 m0 d))
unfolding is_algebra
three_tower m2 m1 m0 d h valid = both_true h.0 (both_true h.1 (both_true h.2 valid))
