-- The degrees of the parts, and of the monomials of their forms.
use Rattle.std.proofs.Common.{◌≡◌, ℕ, zero, suc, ◌+◌, ◌≤◌, ◌⊎◌, inl, inr, true, leb, List, [], ◌∷◌, get_or, length, sum, refl, sym, ap, subst, arith}
use Rattle.std.specs.List.{list_all}
use Rattle.poly_law.specs.Exps.{degree, nat_sum_to}
use Rattle.poly_law.specs.ExpList.{exps}
use Rattle.poly_law.proofs.ExpLists.{exps_are}
use Rattle.poly_law.proofs.ExpLaws
use Rattle.jet_law.specs.Canonical.{monomial_in}
use Rattle.jet_law.proofs.TermLemmas.{sum-is-nat_sum_to}
use Rattle.kill_law.specs.declared.part.Part.{Part}
use Rattle.kill_law.specs.declared.part.Part.TheVariants as parts
use Rattle.kill_law.specs.Table.{row}

-- ---- n exponents of a list

last_or_before : (n k : ℕ) → n ≤ suc k → (n ≤ k) ⊎ (n ≡ suc k)
last_or_before n k h = grind arith

-- more terms make no lesser sum
more : (k n : ℕ) (w : ℕ → ℕ) → n ≤ k → nat_sum_to n w ≤ nat_sum_to k w
more zero n w h = subst (λ j. nat_sum_to j w ≤ nat_sum_to 0 w) (let e : 0 ≡ n = omega arith in e) (omega arith)
more (suc k) n w h = elim (last_or_before n k h) [
  | inl g ↦ (let rest = more k n w g in omega arith)
  | inr e ↦ subst (λ j. nat_sum_to j w ≤ nat_sum_to (suc k) w) (sym e) (omega arith)
]

-- zeros do not count
with_zeros : (k n : ℕ) (w : ℕ → ℕ) → n ≤ k → ((i : ℕ) → n ≤ i → w i ≡ 0) → nat_sum_to k w ≡ nat_sum_to n w
with_zeros zero n w h z = ap (λ j. nat_sum_to j w) (let e : 0 ≡ n = omega arith in e)
with_zeros (suc k) n w h z = elim (last_or_before n k h) [
  | inl g ↦ (let rest = with_zeros k n w g z in let last = z k g in omega arith)
  | inr e ↦ ap (λ j. nat_sum_to j w) (sym e)
]

pub past_end : (e : List ℕ) (i : ℕ) → length e ≤ i → get_or e i 0 ≡ 0
past_end [] i h = refl
past_end (x ∷ e) zero h = absurd (omega arith)
past_end (x ∷ e) (suc i) h = past_end e i (omega arith)

-- the monomial of a list of exponents in n variables has at most their sum as degree
pub degree_at_most : (n : ℕ) (e : List ℕ) → degree (exps n) (monomial_in n e) ≤ sum e
degree_at_most n e =
    let entries = ExpLaws.nat_sum_to-cong n ((exps n).at (monomial_in n e)) (λ i. get_or e i 0) (λ i h. (exps_are n).at_make (λ i. get_or e i 0) i h) in
    let grows = more (n + length e) n (λ i. get_or e i 0) (omega arith) in
    let whole = with_zeros (n + length e) (length e) (λ i. get_or e i 0) (omega arith) (λ i h. past_end e i h) in
    let total = sum-is-nat_sum_to e in
    omega arith

-- ---- the parts

-- the degree of a part is at least 3
pub part_degree : (p : Part) → leb 3 (row p).degree ≡ true
unfolding row
part_degree parts.D4 = refl
part_degree parts.D = refl
part_degree parts.J = refl
part_degree parts.X9 = refl
part_degree parts.X = refl
part_degree parts.Y = refl
part_degree parts.Z = refl
part_degree parts.W = refl
part_degree parts.P8 = refl
part_degree parts.Q = refl
part_degree parts.S = refl
part_degree parts.U = refl
part_degree parts.T = refl
part_degree parts.E6 = refl
part_degree parts.E7 = refl
part_degree parts.E8 = refl
part_degree parts.J10 = refl
part_degree parts.E12 = refl
part_degree parts.E13 = refl
part_degree parts.E14 = refl
part_degree parts.Z11 = refl
part_degree parts.Z12 = refl
part_degree parts.Z13 = refl
part_degree parts.W12 = refl
part_degree parts.W13 = refl
part_degree parts.Q10 = refl
part_degree parts.Q11 = refl
part_degree parts.Q12 = refl
part_degree parts.S11 = refl
part_degree parts.S12 = refl
part_degree parts.U12 = refl
part_degree parts.JT = refl

-- the monomials of its form have at most this degree
pub form_degrees : (p : Part) → list_all (λ m. leb (sum m) (row p).degree) (row p).form ≡ true
unfolding row
form_degrees parts.D4 = refl
form_degrees parts.D = refl
form_degrees parts.J = refl
form_degrees parts.X9 = refl
form_degrees parts.X = refl
form_degrees parts.Y = refl
form_degrees parts.Z = refl
form_degrees parts.W = refl
form_degrees parts.P8 = refl
form_degrees parts.Q = refl
form_degrees parts.S = refl
form_degrees parts.U = refl
form_degrees parts.T = refl
form_degrees parts.E6 = refl
form_degrees parts.E7 = refl
form_degrees parts.E8 = refl
form_degrees parts.J10 = refl
form_degrees parts.E12 = refl
form_degrees parts.E13 = refl
form_degrees parts.E14 = refl
form_degrees parts.Z11 = refl
form_degrees parts.Z12 = refl
form_degrees parts.Z13 = refl
form_degrees parts.W12 = refl
form_degrees parts.W13 = refl
form_degrees parts.Q10 = refl
form_degrees parts.Q11 = refl
form_degrees parts.Q12 = refl
form_degrees parts.S11 = refl
form_degrees parts.S12 = refl
form_degrees parts.U12 = refl
form_degrees parts.JT = refl
