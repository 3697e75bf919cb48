-- The first lead that divides a monomial, one lead after the other.
use Rattle.std.proofs.Common.{◌≡◌, ℕ, zero, suc, ◌+◌, ◌<◌, ◌≤◌, ◌⊎◌, inl, inr, Bool, true, false, cond, leb, List, [], ◌∷◌, length, get_or, drop, refl, ap, ◌∙◌, add-one, drop-cons, arith}
use Rattle.std.specs.Prelude.{Some, Contains, All}
use Rattle.std.proofs.lemmas.Bool.{leb-true, le-leb}
use Rattle.poly_law.specs.ExpList.{ExpList}
use Rattle.poly_law.proofs.ExpLists.{exps_are}
use Rattle.poly_law.proofs.ExpLaws
use Rattle.mono_exp.specs.declared.exponent.Exp.{Exp}
use Rattle.mono_exp.specs.Exponents.{IsIn, Divides}
use Rattle.jet_law.specs.Canonical.{monomial_in}
use Rattle.jet_law.specs.Terms.{exp_of}
use Rattle.kill_law.specs.declared.lead.Lead.{Lead}
use Rattle.kill_law.specs.Kill.{divides, first_lead}

module _ (n : ℕ) (l : Lead) (a w : Exp) (within : IsIn n l.monomial) (power : (k : ℕ) → get_or w.e k 0 ≡ get_or l.monomial k 0) where
  at-lead : (i : ℕ) → i < n → get_or (monomial_in n l.monomial).entries i 0 ≡ get_or l.monomial i 0
  at-lead i h = (exps_are n).at_make (λ i. get_or l.monomial i 0) i h

  at-term : (i : ℕ) → i < n → get_or (exp_of n a).entries i 0 ≡ get_or a.e i 0
  at-term i h = (exps_are n).at_make (λ i. get_or a.e i 0) i h

  divides-from : Divides w.e a.e → divides n (monomial_in n l.monomial) (exp_of n a) ≡ true
  divides-from h = ExpLaws.all_to_from n (λ i. leb (get_or (monomial_in n l.monomial).entries i 0) (get_or (exp_of n a).entries i 0)) λ i g.
      let x : get_or w.e i 0 ≤ get_or a.e i 0 = h i in
      let p = power i in
      let y = at-lead i g in
      let z = at-term i g in
      le-leb (get_or (monomial_in n l.monomial).entries i 0) (get_or (exp_of n a).entries i 0) (omega arith)

  divides-to : divides n (monomial_in n l.monomial) (exp_of n a) ≡ true → Divides w.e a.e
  divides-to h i = elim (cases i n) [
    | inl g ↦
        let x = leb-true (get_or (monomial_in n l.monomial).entries i 0) (get_or (exp_of n a).entries i 0) (ExpLaws.all_to_at n (λ i. leb (get_or (monomial_in n l.monomial).entries i 0) (get_or (exp_of n a).entries i 0)) h i g) in
        let p = power i in
        let y = at-lead i g in
        let z = at-term i g in
        omega arith
    | inr g ↦ let p = power i in let q = within i g in omega arith
  ]
    where
      cases : (i c : ℕ) → (i < c) ⊎ (c ≤ i)
      cases i c = grind arith

  divides-not : (Divides w.e a.e → ⊥) → divides n (monomial_in n l.monomial) (exp_of n a) ≡ false
  divides-not h = step (divides n (monomial_in n l.monomial) (exp_of n a)) (λ q. h (divides-to q))
    where
      step : (b : Bool) → (b ≡ true → ⊥) → b ≡ false
      step true f = absurd (f refl)
      step false f = refl

module _ (n : ℕ) (leads : List Lead) (m : ExpList n) (k : ℕ) (d : Lead) (h : k < length leads) (so_far : first_lead n leads m ≡ first_lead n (drop k leads) m) where
  next : drop k leads ≡ get_or leads k d ∷ drop (k + 1) leads
  next = rw (add-one, drop-cons leads k d)

  at_next : (b : Bool) → divides n (monomial_in n (get_or leads k d).monomial) m ≡ b → first_lead n leads m ≡ cond b (Some (get_or leads k d)) (first_lead n (drop (k + 1) leads) m)
  at_next b q =
      so_far ∙ ap (λ z. first_lead n z m) next ∙ ap (λ b. cond b (Some (get_or leads k d)) (first_lead n (drop (k + 1) leads) m)) q

  found-here : divides n (monomial_in n (get_or leads k d).monomial) m ≡ true → first_lead n leads m ≡ Some (get_or leads k d)
  found-here q = at_next true q

  passed : divides n (monomial_in n (get_or leads k d).monomial) m ≡ false → first_lead n leads m ≡ first_lead n (drop (k + 1) leads) m
  passed q = at_next false q

-- an element of a list
pub at-among : {A : Type 0} (xs : List A) (k : ℕ) (d : A) → k < length xs → Contains xs (get_or xs k d)
at-among [] k d h = absurd (omega arith)
at-among (x ∷ xs) zero d h = (0, omega arith, refl)
at-among (x ∷ xs) (suc k) d h = let r = at-among xs k d (omega arith) in (suc r.0, (let g = r.1 in omega arith), r.2)

-- where the code's test finds that the lead at place k divides, or does not
module _ (n : ℕ) (leads : List Lead) (a w : Exp) (k : ℕ) (d : Lead) (h : k < length leads) (within : All (λ l. IsIn n l.monomial) leads)
    (power : (i : ℕ) → get_or w.e i 0 ≡ get_or (get_or leads k d).monomial i 0) (so_far : first_lead n leads (exp_of n a) ≡ first_lead n (drop k leads) (exp_of n a)) where
  pub found-by : Divides w.e a.e → first_lead n leads (exp_of n a) ≡ Some (get_or leads k d)
  found-by q = found-here n leads (exp_of n a) k d h so_far (divides-from n (get_or leads k d) a w (within k d h) power q)

  pub passed-by : (Divides w.e a.e → ⊥) → first_lead n leads (exp_of n a) ≡ first_lead n (drop (k + 1) leads) (exp_of n a)
  passed-by q = passed n leads (exp_of n a) k d h so_far (divides-not n (get_or leads k d) a w (within k d h) power q)
