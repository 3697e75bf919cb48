-- Steps of the loops that evaluate a formula.
use Rattle.std.proofs.Common.{◌≡◌, ℕ, zero, suc, ◌+◌, ◌<◌, ◌≤◌, ◌^◌, ℤ, pos, negsuc, FitsSigned, w32, List, [], ◌∷◌, ◌++◌, map, take, drop, get_or, length, sym, ap, ap₂, subst, ◌∙◌, add-one, arith}
use Rattle.std.specs.List.{flat_map}
use Rattle.std.proofs.lemmas.Int.{ints}
use Rattle.std.proofs.lemmas.List.{take_more, map-append, get_or_default}
use Rattle.ring_theory.specs.Ring.{IsCommRing}
use Rattle.ring_theory.specs.Scalars.{Scalars, SumIsHigh, sum_of}
use Rattle.ring_theory.proofs.GcdLaws.{coprime_by}
use Rattle.ring_theory.proofs.Sums.{sum_of-push, next_high}
use Rattle.ring_law.specs.Fraction.{IsFrac}
use Rattle.mono_exp.specs.Exponents.{numbers_below}
use Rattle.mono_exp.proofs.Lists.{length-numbers_below, get_or-numbers_below}
use Rattle.jet_law.specs.Heights.{IsHigh}
use Rattle.jet_law.proofs.Gather.{at_place}
use Rattle.jet_law.proofs.High.{high_head, high_left, high_right, high_in, high_mapped}
use Rattle.ring_formula.specs.declared.Summand.{Summand}
use Rattle.ring_formula.specs.Formulas.{multiplied, multiplied_heights, letter, first_factors, summand_value, summand_heights, formula_heights}

module _ {V : Type 0} (s : Scalars V) where
  pub power_high : (v x : V) (k i : ℕ) → i < k → 2 ^ 120 ≤ s.product_height (multiplied s v x i) x → IsHigh (multiplied_heights s v x k)
  power_high v x k i h high =
      high_mapped (λ i. s.product_height (multiplied s v x i) x) (numbers_below k) i i (subst (λ n. i < n) (sym (length-numbers_below k)) h) (sym (get_or-numbers_below k i i h)) high

  module _ (letters : List V) (e : Summand) where
    pub factor_more : (k : ℕ) (y x : V) → x ≡ letter s letters k → y ≡ multiplied s (first_factors s letters e k) x (get_or e.exponents k 0) → y ≡ first_factors s letters e (k + 1)
    factor_more k y x q h = rw add-one (h ∙ ap (λ x. multiplied s (first_factors s letters e k) x (get_or e.exponents k 0)) q)

    pub factor_high : (k : ℕ) (v x : V) → k < length letters → v ≡ first_factors s letters e k → x ≡ letter s letters k → IsHigh (multiplied_heights s v x (get_or e.exponents k 0)) → IsHigh (summand_heights s letters e)
    factor_high k v x h p q high =
        high_in (λ k. multiplied_heights s (first_factors s letters e k) (letter s letters k) (get_or e.exponents k 0)) (numbers_below (length letters)) k k
        (subst (λ n. k < n) (sym (length-numbers_below (length letters))) h) (sym (get_or-numbers_below (length letters) k k h))
        (subst IsHigh (ap₂ (λ v x. multiplied_heights s v x (get_or e.exponents k 0)) p q) high)

  module _ (c : IsCommRing s.ops) (letters : List V) (es : List Summand) (i : ℕ) (d : Summand) (h : i < length es) where
    abbrev values : List Summand → List V
    values es = map (summand_value s letters) es

    abbrev e : Summand
    e = get_or es i d

    read : e ≡ get_or es i e
    read = get_or_default es i d e h

    -- one summand more
    pub sum_more : (now next value : V) → now ≡ sum_of s.ops (values (take i es)) → value ≡ summand_value s letters e → next ≡ s.ops.add now value → next ≡ sum_of s.ops (values (take (i + 1) es))
    sum_more now next value p q k =
        k ∙ ap₂ s.ops.add p q ∙ sym (sum_of-push s c (values (take i es)) (summand_value s letters e))
        ∙ ap (sum_of s.ops) (sym (map-append (summand_value s letters) (take i es) (e ∷ [])) ∙ sym (ap values (take_more es i d h)))

    pub one_high : IsHigh (summand_heights s letters e) → IsHigh (formula_heights s letters es)
    unfolding formula_heights
    one_high high = high_left (flat_map (summand_heights s letters) es) (s.sum_height (values es) ∷ []) (high_in (summand_heights s letters) es i e h read high)

    -- the sum so far and the next summand
    pub sum_high : (now value : V) → now ≡ sum_of s.ops (values (take i es)) → value ≡ summand_value s letters e → SumIsHigh s now value → IsHigh (formula_heights s letters es)
    unfolding formula_heights
    sum_high now value p q high =
        let whole : values es ≡ values (take i es) ++ (summand_value s letters e ∷ values (drop (i + 1) es)) = ap values (at_place es i e h read) ∙ map-append (summand_value s letters) (take i es) (e ∷ drop (i + 1) es) in
        high_right (flat_map (summand_heights s letters) es) (s.sum_height (values es) ∷ [])
        (high_head (s.sum_height (values es)) []
        (subst (λ z. 2 ^ 120 ≤ s.sum_height z) (sym whole)
        (next_high s c (values (take i es)) (summand_value s letters e) (values (drop (i + 1) es)) (subst (λ z. SumIsHigh s z (summand_value s letters e)) p (subst (SumIsHigh s now) q high)))))

-- a whole number of 31 bits and a sign is a valid fraction
pub whole_valid : (k : ℤ) → FitsSigned w32 k → IsFrac (record { num = k; den = pos 1 })
whole_valid (pos n) h = record { den_pos = omega (arith, ints); lowest = coprime_by n 1 (λ d x y. y); num_fits = omega (arith, ints); den_fits = omega arith }
whole_valid (negsuc n) h = record { den_pos = omega (arith, ints); lowest = coprime_by (suc n) 1 (λ d x y. y); num_fits = omega (arith, ints); den_fits = omega arith }

none_below : (i : ℕ) → i < 0 → ⊥
none_below i h = omega arith

-- a letter that is read
pub letter_is : {E V : Type 0} (s : Scalars V) (value : E → V) (xs : List E) (i : ℕ) (x : E) → i < length xs → x ≡ get_or xs i x → value x ≡ letter s (map value xs) i
letter_is s value [] i x h e = absurd (none_below i h)
letter_is s value (u ∷ xs) zero x h e = ap value e
letter_is s value (u ∷ xs) (suc i) x h e = letter_is s value xs i x (omega arith) e

pub power_from : {V : Type 0} (s : Scalars V) (x : V) {v w y : V} (k : ℕ) → v ≡ w → y ≡ multiplied s v x k → y ≡ multiplied s w x k
power_from s x k e h = h ∙ ap (λ v. multiplied s v x k) e
