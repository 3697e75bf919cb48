-- The entries of a matrix of the program, row after row.
use Rattle.std.proofs.Common.{◌≡◌, ℕ, zero, suc, ◌<◌, List, [], ◌∷◌, ◌++◌, map, length, get_or, refl, sym, ap, subst, ◌∙◌, arith}
use Rattle.std.proofs.lemmas.List.Elements.{All-append}
use Rattle.ring_theory.specs.Scalars.{Meaning}
use Rattle.coord_change.specs.Changes.{entry_of}
use Rattle.ternary_law.specs.Matrices.{Matrix, entry}
use Rattle.tern_cubic.specs.Matrices.{IsMatrix}
use Rattle.tern_cubic.specs.Moving.{AreEntries}

-- a list of three elements
pub three_of : {X : Type 0} (xs : List X) → length xs ≡ 3 → (a b c : X) → xs ≡ get_or xs 0 a ∷ get_or xs 1 b ∷ get_or xs 2 c ∷ []
three_of [] e a b c = absurd (omega (arith, e))
three_of (x ∷ []) e a b c = absurd (omega (arith, e))
three_of (x ∷ y ∷ []) e a b c = absurd (omega (arith, e))
three_of (x ∷ y ∷ z ∷ []) e a b c = refl
three_of (x ∷ y ∷ z ∷ u ∷ us) e a b c = absurd (omega (arith, e))

module _ {E V : Type 0} (m : Meaning E V) where
  -- a matrix by its three rows
  rows_are : (w : Matrix V) (r0 r1 r2 : List E) → IsMatrix m w (r0 ∷ r1 ∷ r2 ∷ []) → length r0 ≡ 3 → length r1 ≡ 3 → length r2 ≡ 3 → AreEntries m w (r0 ++ (r1 ++ r2))
  rows_are w [] r1 r2 is e0 e1 e2 = absurd (omega (arith, e0))
  rows_are w (a ∷ []) r1 r2 is e0 e1 e2 = absurd (omega (arith, e0))
  rows_are w (a ∷ b ∷ []) r1 r2 is e0 e1 e2 = absurd (omega (arith, e0))
  rows_are w (a ∷ b ∷ c ∷ d ∷ r) r1 r2 is e0 e1 e2 = absurd (omega (arith, e0))
  rows_are w (a ∷ b ∷ c ∷ []) [] r2 is e0 e1 e2 = absurd (omega (arith, e1))
  rows_are w (a ∷ b ∷ c ∷ []) (d ∷ []) r2 is e0 e1 e2 = absurd (omega (arith, e1))
  rows_are w (a ∷ b ∷ c ∷ []) (d ∷ e ∷ []) r2 is e0 e1 e2 = absurd (omega (arith, e1))
  rows_are w (a ∷ b ∷ c ∷ []) (d ∷ e ∷ f ∷ h ∷ r) r2 is e0 e1 e2 = absurd (omega (arith, e1))
  rows_are w (a ∷ b ∷ c ∷ []) (d ∷ e ∷ f ∷ []) [] is e0 e1 e2 = absurd (omega (arith, e2))
  rows_are w (a ∷ b ∷ c ∷ []) (d ∷ e ∷ f ∷ []) (h ∷ []) is e0 e1 e2 = absurd (omega (arith, e2))
  rows_are w (a ∷ b ∷ c ∷ []) (d ∷ e ∷ f ∷ []) (h ∷ i ∷ []) is e0 e1 e2 = absurd (omega (arith, e2))
  rows_are w (a ∷ b ∷ c ∷ []) (d ∷ e ∷ f ∷ []) (h ∷ i ∷ j ∷ k ∷ r) is e0 e1 e2 = absurd (omega (arith, e2))
  rows_are w (a ∷ b ∷ c ∷ []) (d ∷ e ∷ f ∷ []) (h ∷ i ∷ j ∷ []) is e0 e1 e2 = record {
    elems = All-append m.is_elem (a ∷ b ∷ c ∷ []) ((d ∷ e ∷ f ∷ []) ++ (h ∷ i ∷ j ∷ []))
        (is.elems 0 [] (omega arith)) (All-append m.is_elem (d ∷ e ∷ f ∷ []) (h ∷ i ∷ j ∷ []) (is.elems 1 [] (omega arith)) (is.elems 2 [] (omega arith)));
    are = λ x y hx hy. at x y hx hy ∙ ap (λ u. entry m.scalars u x y) is.values;
  }
    where
      at : (x y : ℕ) → x < 3 → y < 3 → entry_of m 3 (a ∷ b ∷ c ∷ d ∷ e ∷ f ∷ h ∷ i ∷ j ∷ []) x y ≡ entry m.scalars (map (map m.value) ((a ∷ b ∷ c ∷ []) ∷ (d ∷ e ∷ f ∷ []) ∷ (h ∷ i ∷ j ∷ []) ∷ [])) x y
      at zero zero p q = refl
      at zero (suc zero) p q = refl
      at zero (suc (suc zero)) p q = refl
      at (suc zero) zero p q = refl
      at (suc zero) (suc zero) p q = refl
      at (suc zero) (suc (suc zero)) p q = refl
      at (suc (suc zero)) zero p q = refl
      at (suc (suc zero)) (suc zero) p q = refl
      at (suc (suc zero)) (suc (suc zero)) p q = refl
      at (suc (suc (suc x))) y p q = absurd (omega arith)
      at zero (suc (suc (suc y))) p q = absurd (omega arith)
      at (suc zero) (suc (suc (suc y))) p q = absurd (omega arith)
      at (suc (suc zero)) (suc (suc (suc y))) p q = absurd (omega arith)

  -- the same of a matrix as it is given
  pub are_entries : (w : Matrix V) (a : List (List E)) → IsMatrix m w a → length a ≡ 3 → (flat : List E) → flat ≡ get_or a 0 [] ++ (get_or a 1 [] ++ get_or a 2 [])
      → length (get_or a 0 []) ≡ 3 → length (get_or a 1 []) ≡ 3 → length (get_or a 2 []) ≡ 3 → AreEntries m w flat
  are_entries w a is three flat e e0 e1 e2 =
      subst (AreEntries m w) (sym e) (rows_are w (get_or a 0 []) (get_or a 1 []) (get_or a 2 []) (subst (IsMatrix m w) (three_of a three [] [] []) is) e0 e1 e2)
