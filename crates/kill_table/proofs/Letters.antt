-- The letters of a part as the program reads them from a jet.
use Rattle.std.proofs.Common.{◌≡◌, ℕ, zero, suc, ◌<◌, ◌≤◌, List, [], ◌∷◌, map, length, get_or, refl, sym, ap, ap₂, ◌∙◌, arith}
use Rattle.std.specs.Prelude.{All, Contains}
use Rattle.std.proofs.lemmas.List.{get_or-map}
use Rattle.ring_theory.specs.Scalars.{Scalars}
use Rattle.poly_law.specs.ExpList.{exps}
use Rattle.poly_law.specs.Poly.{coefficient}
use Rattle.poly_law.specs.Polynomials.{Polynomial}
use Rattle.poly_law.proofs.ExpLists.{exps_are}
use Rattle.mono_exp.specs.declared.exponent.Exp.{Exp}
use Rattle.mono_exp.specs.Exponents.{IsIn}
use Rattle.jet_law.specs.Canonical.{monomial_in}
use Rattle.jet_law.specs.Terms.{exp_of}
use Rattle.kill_law.specs.declared.part.Part.{Part}
use Rattle.kill_law.specs.Table.{row}
use Rattle.kill_law.specs.Kill.{letters_of}
use Rattle.kill_leads.specs.FirstLead.{as_three}
use Rattle.kill_table.proofs.Table.{at-most-3, form-in, more-in}

get-none : (i : ℕ) → get_or {A = ℕ} [] i 0 ≡ 0
get-none zero = refl
get-none (suc i) = refl

-- the exponents of a monomial in three variables
three-same : (e : List ℕ) → IsIn 3 e → (k : ℕ) → get_or (as_three e) k 0 ≡ get_or e k 0
three-same e h zero = refl
three-same e h (suc zero) = refl
three-same e h (suc (suc zero)) = refl
three-same e h (suc (suc (suc k))) = get-none k ∙ sym (h (suc (suc (suc k))) (omega arith))

among : {A : Type 0} (xs : List A) (i : ℕ) (d : A) → i < length xs → Contains xs (get_or xs i d)
among [] i d h = absurd (omega arith)
among (x ∷ xs) zero d h = (0, omega arith, refl)
among (x ∷ xs) (suc i) d h = let r = among xs i d (omega arith) in (suc r.0, (let g = r.1 in omega arith), r.2)

module _ (p : Part) (n : ℕ) (inside : length (row p).weights ≤ n) (i : ℕ) where
  module _ (h : i < length (row p).form) (w : Exp) (d : List ℕ) (read : (k : ℕ) → get_or w.e k 0 ≡ get_or (get_or (map as_three (row p).form) i d) k 0) where
    abbrev e : List ℕ
    e = get_or (row p).form i []

    e-in : IsIn (length (row p).weights) e
    e-in = form-in p e (among (row p).form i [] h)

    power : (k : ℕ) → get_or w.e k 0 ≡ get_or e k 0
    power k = read k ∙ ap (λ z. get_or z k 0) (get_or-map as_three (row p).form i [] d h) ∙ three-same e (more-in (length (row p).weights) 3 e (at-most-3 p) e-in) k

    pub letter-in : IsIn n w.e
    letter-in k g = power k ∙ more-in (length (row p).weights) n e inside e-in k g

    pub letter-at : {V : Type 0} (s : Scalars V) (f : Polynomial n V) → coefficient (exps n) s.ops f (exp_of n w) ≡ get_or (map (λ e. coefficient (exps n) s.ops f (monomial_in n e)) (row p).form) i s.ops.zero
    letter-at s f =
        ap (coefficient (exps n) s.ops f) ((exps_are n).same_at (exp_of n w) (monomial_in n e) λ k g. (exps_are n).at_make (λ k. get_or w.e k 0) k g ∙ power k ∙ sym ((exps_are n).at_make (λ k. get_or e k 0) k g))
        ∙ sym (get_or-map (λ e. coefficient (exps n) s.ops f (monomial_in n e)) (row p).form i [] s.ops.zero h)

-- the three letters
pub letters-are : {V : Type 0} (p : Part) (n : ℕ) (s : Scalars V) (f : Polynomial n V) (x y z : V)
    → x ≡ get_or (map (λ e. coefficient (exps n) s.ops f (monomial_in n e)) (row p).form) 0 s.ops.zero
    → y ≡ get_or (map (λ e. coefficient (exps n) s.ops f (monomial_in n e)) (row p).form) 1 s.ops.zero
    → z ≡ get_or (map (λ e. coefficient (exps n) s.ops f (monomial_in n e)) (row p).form) 2 s.ops.zero
    → x ∷ y ∷ z ∷ [] ≡ letters_of n s p f
unfolding letters_of
letters-are p n s f x y z a b c = ap₂ (λ v vs. v ∷ vs) a (ap₂ (λ v w. v ∷ w ∷ []) b c)

-- what holds of three elements
pub all-three : {E : Type 0} (P : E → Type 0) (a b c : E) → P a → P b → P c → All P (a ∷ b ∷ c ∷ [])
all-three P a b c x y z zero d h = x
all-three P a b c x y z (suc zero) d h = y
all-three P a b c x y z (suc (suc zero)) d h = z
all-three P a b c x y z (suc (suc (suc k))) d h = absurd (omega arith)
